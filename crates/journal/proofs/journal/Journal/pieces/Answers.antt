use Rattle.std.proofs.Common.{sym, ◌∙◌}
use Rattle.journal.specs.Tables.{listed, origins}
use Rattle.journal.specs.Stores.{in_use}
use Rattle.journal.proofs.Joins.{joined_fact}
use Rattle.journal.proofs.Counts.{gathered-spread}
use Rattle.journal.proofs.Fills.{gathered-filled}
use Rattle.journal.proofs.journal.Journal.pieces.Goals as goal

pub returns : goal.returns
returns c =
    let j = c.args.self.now in
    c.as_slice.ensures
    ∙ sym (gathered-filled (in_use j.words) (origins j.table) ∙ gathered-spread (listed j.table) (joined_fact (listed j.table) j.counts j.joined))
