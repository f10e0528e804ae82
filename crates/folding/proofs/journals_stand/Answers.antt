use Rattle.folding.proofs.Journals.{journal_law}
use Rattle.folding.proofs.journals_stand.Goals as goal

pub returns : goal.returns
returns g c = journal_law g.row.W.Denot
