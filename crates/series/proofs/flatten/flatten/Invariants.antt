use Rattle.series.proofs.Flats.{SoFar}
use Rattle.series.proofs.flatten.flatten.Given as goal

abbrev pub invariant-loop-place : goal.invariant-loop-place
invariant-loop-place g l = SoFar (g.B.Base.cells l.base) l.initial.out l.place l.out
