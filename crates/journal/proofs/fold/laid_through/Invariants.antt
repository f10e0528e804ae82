use Rattle.journal.specs.Machine.{answers}
use Rattle.journal.specs.Journals.{state}
use Rattle.journal.specs.Walks.{coming}
use Rattle.journal.proofs.Folds.{Halfway}
use Rattle.journal.proofs.fold.laid_through.Given as goal

abbrev pub invariant-loop-run : goal.invariant-loop-run
invariant-loop-run l = Halfway l.layout (coming l.run-iterator) (answers (state l.lower)) (answers (state l.upper))
