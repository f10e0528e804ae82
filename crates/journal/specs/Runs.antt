-- The runs of a journal, one for each piece.
-- run: so many base places from one on, or the words of an entered piece with their first number.
-- run_of: the run of a piece, over the words in use.
-- runs: the runs of a journal, piece by piece.
-- origins_of: the origins that a run stands for.
-- Assumes nothing.
use Rattle.std.specs.Prelude.{ℕ, List, map, take, drop}
use Rattle.series.specs.Lists.{up_from}
use Rattle.journal.specs.declared.piece.Piece.{Piece}
use Rattle.journal.specs.declared.piece.Source.{Source}
use Rattle.journal.specs.declared.piece.Source.TheVariants.{Kept, Entered}
use Rattle.journal.specs.Machine.{Origin, base, State, numbered}
use Rattle.journal.specs.Pieces.{gathered}

pub data Run : Type 0 where
  kept_run : ℕ → ℕ → Run
  entered_run : ℕ → List ℕ → Run

-- n numbers from a on
abbrev pub run_from : List ℕ → Source → ℕ → ℕ → Run
run_from words Kept a n = kept_run a n
run_from words Entered a n = entered_run a (take n (drop a words))

abbrev pub run_of : List ℕ → Piece → Run
run_of words p = run_from words p.source p.first p.count

abbrev pub runs : State ℕ → List Run
runs st = map (run_of st.words) (gathered st.origins)

abbrev pub origins_of : Run → List (Origin ℕ)
origins_of (kept_run p n) = map base (up_from p n)
origins_of (entered_run k ws) = numbered k ws
