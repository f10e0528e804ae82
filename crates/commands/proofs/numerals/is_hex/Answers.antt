use Rattle.std.proofs.Common.{is_some, ap, ◌∙◌, arith, rules, tests}
use Rattle.std.specs.Char.{is_ascii_hexdigit}
use Rattle.std.proofs.lemmas.Bool.{ne_eqb}
use Rattle.std.proofs.lemmas.Iterator.{YieldsList-from_slice}
use Rattle.std.proofs.lemmas.Iterator.Search.{all_from_yields_List}
use Rattle.commands.proofs.Hex.{even-is_some, odd-none}
use Rattle.commands.proofs.numerals.is_hex.Goals as goal

pub returns-then-field-eq0 : goal.returns-then-field-eq0
returns-then-field-eq0 c =
    let field = c.args.field.now in
    let even = c.if-field-eq0.true in
    all_from_yields_List is_ascii_hexdigit _ _ _ c.all.ensures.ran (YieldsList-from_slice field cc) (λ x b q k. search (rules, tests))
    ∙ even-is_some field (omega (arith, even))

pub returns-else-field-eq0 : goal.returns-else-field-eq0
returns-else-field-eq0 c =
    let odd = c.if-field-eq0.false in
    ne_eqb _ 0 odd ∙ ap is_some (odd-none c.args.field.now (omega (arith, odd)))
