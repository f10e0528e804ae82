-- What a journal laid on a base reads, by the base's cells and the reading of each word.
-- cell_of: what is read at a place with this answer.
-- laid: what is read, place by place.
-- corrections: cells with corrections made on them in turn.
-- Assumes nothing.
use Rattle.std.specs.Prelude.{ℕ, List, [], ◌∷◌, map}
use Rattle.std.specs.Result.{result_unwrap_or}
use Rattle.series.specs.declared.cell.Cell.{Cell}
use Rattle.series.specs.declared.cell.Cell.TheVariants.{Reading, Fault}
use Rattle.series.specs.Faults.{past_base}
use Rattle.series.specs.Lists.{nth, spliced}
use Rattle.journal.specs.Machine.{State, Correction, Answer, place, word, answers}

module _ {W R : Type 0} (decode : W → R) where
  -- the base's cell, or a fault with the journal's tag where the base has none; of a word, its reading
  abbrev pub cell_of : ℕ → List (Cell R) → Answer W → Cell R
  cell_of tag cells (place m) = result_unwrap_or (nth cells m) (Fault (past_base tag m))
  cell_of tag cells (word w) = Reading (decode w)

  abbrev pub laid : ℕ → List (Cell R) → State W → List (Cell R)
  laid tag cells st = map (cell_of tag cells) (answers st)

  -- the readings that a correction enters
  abbrev pub readings : Correction W → List (Cell R)
  readings c = map (λ w. Reading (decode w)) c.enters

  abbrev pub corrections : List (Cell R) → List (Correction W) → List (Cell R)
  corrections cells [] = cells
  corrections cells (c ∷ cs) = corrections (spliced c.at c.strikes (readings c) cells) cs
