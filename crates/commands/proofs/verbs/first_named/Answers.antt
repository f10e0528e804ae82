use Rattle.std.proofs.Common.{◌∙◌}
use Rattle.commands.proofs.Spellings.{found_stop, found_more, found_all, found-named}
use Rattle.commands.proofs.verbs.first_named.Goals as goal

pub returns-then-eq : goal.returns-then-eq
returns-then-eq c =
    let spelled = c.args.spelled.now in
    let name = c.args.name.now in
    found_stop spelled name c.loop-spelling.spelling-index _ c.eq.result c.loop-spelling-test.true c.eq.ensures c.if-eq.true
    ∙ c.loop-spelling.invariant
    ∙ found-named spelled name

pub loop-spelling-preserved : goal.loop-spelling-preserved
loop-spelling-preserved c =
    found_more c.args.spelled.now c.args.name.now c.loop-spelling.spelling-index _ c.eq.result c.loop-spelling-test.true c.eq.ensures c.if-eq.false
    ∙ c.loop-spelling.invariant

pub returns : goal.returns
returns c =
    let spelled = c.args.spelled.now in
    let name = c.args.name.now in
    found_all spelled name c.loop-spelling.spelling-index c.loop-spelling-test.false ∙ c.loop-spelling.invariant ∙ found-named spelled name
