use Rattle.std.proofs.Common.{get_or, ◌∙◌, arith}
use Rattle.std.proofs.lemmas.Bool.Decides.{nat_tests}
use Rattle.commands.specs.Verbs.{all_words}
use Rattle.commands.proofs.Digits.{left_none, left_more, left_stop, left_all, next_most}
use Rattle.commands.proofs.numerals.number.Goals as goal

pub loop-b-init : goal.loop-b-init
loop-b-init c =
    let e = c.if-is_empty.ensures in
    (left_none all_words c.args.field.now (grind (arith, nat_tests)), omega arith)

pub returns-in_err-value : goal.returns-in_err-value
returns-in_err-value c =
    rw c.from_residual.ensures
    (left_stop all_words c.loop-b.value c.loop-b.b-index c.args.field.now c.loop-b-test.true c.in_err-value.ensures
    ∙ c.loop-b.invariant.0)

pub loop-b-preserved : goal.loop-b-preserved
loop-b-preserved c =
    let most = all_words in
    let n = c.loop-b.value in
    let i = c.loop-b.b-index in
    let m = c.in_ok-value.value in
    let e = c.in_ok-value.ensures in
    (left_more most n i m c.args.field.now c.loop-b-test.true e ∙ c.loop-b.invariant.0, next_most most n (get_or c.args.field.now i 0) m e)

pub returns : goal.returns
returns c =
    left_all all_words c.loop-b.value c.loop-b.b-index c.args.field.now c.loop-b-test.false c.loop-b.invariant.1 ∙ c.loop-b.invariant.0
