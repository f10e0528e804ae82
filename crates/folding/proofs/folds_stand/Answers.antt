use Rattle.folding.proofs.Folds.{fold_law}
use Rattle.folding.proofs.folds_stand.Goals as goal

pub returns : goal.returns
returns g c = fold_law g.row.W.Denot g.row.R.Denot
