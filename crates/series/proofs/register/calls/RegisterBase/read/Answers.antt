use Rattle.std.proofs.Common.{sym}
use Rattle.series.specs.declared.cell.Cell.TheVariants.{Reading}
use Rattle.series.proofs.Nths.{nth-map, nth-map-past}
use Rattle.series.proofs.register.calls.RegisterBase.read.Goals as goal

pub returns-then-at-self : goal.returns-then-at-self
returns-then-at-self g c = sym (nth-map-past Reading _ _ c.if-at-self.true)

pub returns : goal.returns
returns g c = sym (nth-map Reading _ _ c.index-self-at.result c.if-at-self.false)
