use Rattle.std.proofs.Common.{◌<◌, ◌≤◌, length, Err, ap, ◌∙◌, arith}
use Rattle.std.proofs.lemmas.Result.{err_from_is_err_and}
use Rattle.series.specs.Lists.{nth}
use Rattle.series.specs.declared.flatten.FlattenFault.TheVariants.{AtPlace}
use Rattle.series.specs.Flattened.{by_stop}
use Rattle.series.proofs.Flats.{read_from, fault_from, so_far_more, stopped}
use Rattle.series.proofs.flatten.flatten.Goals as goal

pub returns-in_err-out : goal.returns-in_err-out
returns-in_err-out g c =
    let cs = g.B.Base.cells c.args.base.now in
    let before = c.args.out.now in
    let i = c.loop-place.place in
    let out = c.loop-place.out in
    let fits : length cs ≤ length before = omega arith in
    let within : i ≤ length out = omega arith in
    let p = err_from_is_err_and c.from_residual.result c.from_residual.ensures.1 in
    let d = fault_from (nth cs i) i c.in_err-out.field-0.0 c.in_err-out.ensures in
    stopped cs before i out d.0 c.loop-place.invariant fits within d.1 _ (ap by_stop (p.1 ∙ ap Err (p.2 ∙ ap AtPlace d.2)))

pub loop-place-preserved : goal.loop-place-preserved
loop-place-preserved g c =
    let cs = g.B.Base.cells c.args.base.now in
    let i = c.loop-place.place in
    let out = c.loop-place.out in
    let within : i < length out = omega arith in
    so_far_more cs c.args.out.now i out c.in_ok-out.field-0 c.loop-place.invariant within
    (read_from (nth cs i) i c.in_ok-out.field-0 c.in_ok-out.ensures)
