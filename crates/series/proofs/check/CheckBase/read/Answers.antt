use Rattle.std.proofs.Common.{Ok, Err, ap, ◌∙◌}
use Rattle.std.proofs.lemmas.Result.{err_from_is_err_and}
use Rattle.series.specs.Refusals.{by_number}
use Rattle.series.specs.Checked.{checked}
use Rattle.series.proofs.Nths.{nth-indexed_ok, nth-indexed_err}
use Rattle.series.proofs.check.CheckBase.read.Goals as goal

pub returns-in_err-cell : goal.returns-in_err-cell
returns-in_err-cell g c =
    let s = c.args.self.now in
    let p = err_from_is_err_and c.from_residual.result c.from_residual.ensures.1 in
    ap by_number (p.1 ∙ ap Err p.2) ∙ nth-indexed_err (checked s.tag s.limit) (g.B.Base.cells s.base) c.args.place _ c.in_err-cell.ensures

pub returns : goal.returns
returns g c =
    let s = c.args.self.now in
    ap Ok c.check_cell.ensures
    ∙ nth-indexed_ok (checked s.tag s.limit) (g.B.Base.cells s.base) c.args.place _ c.in_ok-cell.ensures
