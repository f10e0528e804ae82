use Rattle.history.proofs.Histories.{history_law}
use Rattle.history.proofs.history_stands.Goals as goal

pub returns : goal.returns
returns g c = history_law g.row.W.Denot g.row.R.Denot
