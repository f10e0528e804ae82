use Rattle.std.proofs.Common.{Ok}
use Rattle.pile.proofs.Folds.{fold_ok, replaces}
use Rattle.pile.proofs.laid.fold.fold_neighbours.Goals as goal

pub returns : goal.returns
returns g c =
    let s = c.args.pile.now in
    let e = fold_ok _ _ _ _ c.in_ok-fold.ensures.outcome in
    record { outcome = e; law = replaces g.B.Kind.Reading.reading (g.B.Base.cells s.base.base) s.base.journal s.journal (Ok c.fold.new.third) e }
