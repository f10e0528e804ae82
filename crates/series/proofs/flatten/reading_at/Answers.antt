use Rattle.series.proofs.Nths.{nth_never}
use Rattle.series.proofs.flatten.reading_at.Goals as goal

pub unreachable-requires : goal.unreachable-requires
unreachable-requires g c = nth_never (g.B.Base.cells c.args.base.now) c.args.place _ c.requires c.in-Err.ensures
