use Rattle.journal.proofs.Journals.{whole}
use Rattle.journal.proofs.journal.Journal.length.Goals as goal

pub length-requires : goal.length-requires
length-requires c = whole c.args.self.now
