use Rattle.std.proofs.Common.{◌≡◌, ◌∙◌, rules}
use Rattle.std.proofs.lemmas.Result.{IfOk-weaker}
use Rattle.commands.specs.Numerals.{hex, hex_bytes}
use Rattle.commands.proofs.Hex.{hex-short, hex-long}
use Rattle.commands.proofs.numerals.bytes.Goals as goal
use Rattle.commands.proofs.numerals.bytes.Goals.{in_default-via-then-field-lt2+in_default-1, in_default-via-else-field-lt2}

pub returns-in_default : goal.returns-in_default
returns-in_default c =
    let field = c.args.field.now in
    let e : hex_bytes field ≡ hex field =
    elim c.in_default.branch [
      | in_default-via-then-field-lt2+in_default-1 w ↦ hex-short field (search rules) (search rules)
      | in_default-via-else-field-lt2 w ↦ hex-long field (search rules)
    ] in
    IfOk-weaker c.pairs.result _ _ (λ o h. h ∙ e) c.pairs.ensures
