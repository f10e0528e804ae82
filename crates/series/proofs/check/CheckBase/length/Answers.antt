use Rattle.std.proofs.Common.{sym, ◌∙◌}
use Rattle.series.specs.Checked.{length-indexed}
use Rattle.series.proofs.check.CheckBase.length.Goals as goal

pub returns : goal.returns
returns g c = c.length.ensures ∙ sym (length-indexed _ _ _)
