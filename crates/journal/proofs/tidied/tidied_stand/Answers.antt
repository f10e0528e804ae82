use Rattle.journal.proofs.Tidying.{tidied_law}
use Rattle.journal.proofs.tidied.tidied_stand.Goals as goal

pub returns : goal.returns
returns g c = tidied_law g.row.W.Denot
