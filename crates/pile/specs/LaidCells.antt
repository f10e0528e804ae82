-- The cells of a journal laid on a base.
-- Assumes nothing.
use Rattle.std.specs.Prelude.{ℕ, ◌≤◌, List, length}
use Rattle.std.proofs.lemmas.List.{length-map}
use Rattle.series.specs.declared.cell.Cell.{Cell}
use Rattle.journal.specs.declared.journal.Journal.{Journal}
use Rattle.journal.specs.Machine.{answers}
use Rattle.journal.specs.Journals.{state, state-few}
use Rattle.history.specs.Laid.{cell_of, laid}
use Rattle.pile.specs.declared.laid.Laid.{Laid}

abbrev pub laid_on : {B : Type 0} → B → Journal → ℕ → Laid B
laid_on base journal tag = record { base = base; journal = journal; tag = tag }

-- what is read, by the reading of each word and the cells of the base
abbrev pub laid_cells : {B R : Type 0} → (ℕ → R) → (B → List (Cell R)) → Laid B → List (Cell R)
laid_cells reading cells l = laid reading l.tag (cells l.base) (state l.journal)

pub laid-few : {B R : Type 0} (reading : ℕ → R) (cells : B → List (Cell R)) (l : Laid B) → length (laid_cells reading cells l) ≤ 1048576
laid-few reading cells l = rw (length-map (answers (state l.journal)) (cell_of reading l.tag (cells l.base))) (state-few l.journal)
