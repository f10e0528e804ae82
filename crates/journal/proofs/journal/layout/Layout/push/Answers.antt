use Rattle.journal.specs.Pieces.{stretch}
use Rattle.journal.proofs.Layouts.{made_crowded}
use Rattle.journal.proofs.journal.layout.Layout.push.Goals as goal

pub returns-in_default-clause-table : goal.returns-in_default-clause-table
returns-in_default-clause-table c = λ os m.
    made_crowded c.args.self.now.table c.in_default.field-0 os (stretch c.args.piece.source c.args.piece.first c.args.piece.count) c.in_default.is m
