use Rattle.std.proofs.Common.{sym, ap, ◌∙◌}
use Rattle.journal.specs.Pieces.{gathered}
use Rattle.journal.specs.Tables.{listed}
use Rattle.journal.proofs.Joins.{joined_fact}
use Rattle.journal.proofs.Counts.{gathered-spread}
use Rattle.journal.proofs.table.Table.empty.Goals as goal

pub returns-clause-none : goal.returns-clause-none
returns-clause-none c =
    let t = c.kept.ensures in
    sym (gathered-spread (listed c.kept.result) (joined_fact (listed c.kept.result) t.tidy.1 t.tidy.2)) ∙ ap gathered t.places
