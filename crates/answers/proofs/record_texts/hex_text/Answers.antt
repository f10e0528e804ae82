use Rattle.std.proofs.Common.{◌∙◌, arith}
use Rattle.std.proofs.lemmas.Result.{IfOk-weaker}
use Rattle.hex.specs.Hex.{IsBytes}
use Rattle.answers.proofs.Hex.{encode_lower-hex_text}
use Rattle.answers.proofs.record_texts.hex_text.Goals as goal

pub returns : goal.returns
returns c =
    let bytes = c.args.bytes.now in
    let fits : IsBytes bytes = λ i. let f = c.type_inv.bytes i in omega arith in
    IfOk-weaker c.encode.result _ _ (λ text e. e ∙ encode_lower-hex_text bytes fits) c.encode.ensures
