use Rattle.std.proofs.Common.{sym}
use Rattle.series.proofs.Nths.{nth-replicate, nth-replicate-past}
use Rattle.series.proofs.nominal.calls.NominalBase.read.Goals as goal

pub returns-then-place-self : goal.returns-then-place-self
returns-then-place-self g c = sym (nth-replicate-past _ _ _ c.if-place-self.true)

pub returns : goal.returns
returns g c = sym (nth-replicate _ _ _ c.if-place-self.false)
