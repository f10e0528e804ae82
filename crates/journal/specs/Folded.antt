-- Two neighbours of a pile folded to one journal.
-- followed: an answer of an upper journal, told by the answers of what lies below.
-- folded: the journal in the place of the lower and the upper, tidied.
-- fold: that journal, or the number of the first check that refuses it.
-- fold_outcome: what a fold answers, and the third journal after it.
-- Assumes nothing.
use Rattle.std.specs.Prelude.{ℕ, cond, not, List, map, length, Ok, Err, Result, ◌==◌, nat_lt}
use Rattle.std.specs.Result.{result_unwrap_or}
use Rattle.series.specs.Lists.{nth}
use Rattle.journal.specs.Machine.{Answer, place, word, State, answers, pieces}
use Rattle.journal.specs.Tidied.{neat}

module _ {W : Type 0} where
  -- a base place of an upper journal is a place of what lies below
  abbrev pub followed : List (Answer W) → Answer W → Answer W
  followed below (place m) = result_unwrap_or (nth below m) (place m)
  followed below (word w) = word w

  abbrev pub folded : State W → State W → State W
  folded lower upper = neat lower.started (map (followed (answers lower)) (answers upper))

  -- refusal 5 where the upper was not started for the lower's length, 3 for too many words, 4 for too many pieces
  abbrev pub fold : State W → State W → Result (State W) ℕ
  fold lower upper =
      let both = folded lower upper in
      cond (not (upper.started == length lower.origins)) (Err 5)
      (cond (nat_lt 1024 (length both.words)) (Err 3)
      (cond (nat_lt 256 (pieces both.origins)) (Err 4) (Ok both)))

  -- a refused fold leaves the third journal as it was
  abbrev pub fold_answer : State W → Result (State W) ℕ → Result ℕ ℕ × State W
  fold_answer third (Ok both) = (Ok (length both.origins), both)
  fold_answer third (Err e) = (Err e, third)

  abbrev pub fold_outcome : State W → State W → State W → Result ℕ ℕ × State W
  fold_outcome lower upper third = fold_answer third (fold lower upper)
