-- What a journal does, over words of any type W: no check looks at a word, only at how many there are.
-- origin: where a place of the edited series comes from, a base place, or an entered word with its number.
-- answer: what is told of an origin: a base place, or an entered word without its number.
-- state: the length that the journal was started for, the origins place by place, and the words in use.
-- correction: at a place, strike so many, and enter these words there.
-- Assumes nothing.
use Rattle.std.specs.Prelude.{ℕ, suc, ◌+◌, ◌-◌, Bool, true, false, cond, ◌&&◌, List, [], ◌∷◌, ◌++◌, map, length, is_ok, Ok, Err, Result, ◌==◌, nat_lt}
use Rattle.series.specs.Lists.{spliced, up_from}

pub data Origin (W : Type 0) : Type 0 where
  base : ℕ → Origin W
  entered : ℕ → W → Origin W

pub data Answer (W : Type 0) : Type 0 where
  place : ℕ → Answer W
  word : W → Answer W

pub record State (W : Type 0) : Type 0 where
  pub started : ℕ
  pub origins : List (Origin W)
  pub words : List W

pub record Correction (W : Type 0) : Type 0 where
  pub at : ℕ
  pub strikes : ℕ
  pub enters : List W

module _ {W : Type 0} where
  abbrev pub correction : ℕ → ℕ → List W → Correction W
  correction p s ws = record { at = p; strikes = s; enters = ws }

  abbrev pub answer : Origin W → Answer W
  answer (base m) = place m
  answer (entered j w) = word w

  abbrev pub answers : State W → List (Answer W)
  answers st = map answer st.origins

  -- started for n places: each stands for itself, and no words are in use
  abbrev pub start : ℕ → State W
  start n = record { started = n; origins = map base (up_from 0 n); words = [] }

  -- entered words, numbered from k on
  abbrev pub numbered : ℕ → List W → List (Origin W)
  numbered k [] = []
  numbered k (w ∷ ws) = entered k w ∷ numbered (suc k) ws

  -- the state after a correction that no check refuses: its words go to the end of the words in use
  abbrev pub edited : State W → Correction W → State W
  edited st c =
      record {
        started = st.started;
        origins = spliced c.at c.strikes (numbered (length st.words) c.enters) st.origins;
        words = st.words ++ c.enters;
      }

  -- the second origin follows on the first, by base place or by word number: both are of one piece
  abbrev pub follows : Origin W → Origin W → Bool
  follows (base m) (base n) = suc m == n
  follows (base m) (entered j w) = false
  follows (entered i v) (base n) = false
  follows (entered i v) (entered j w) = suc i == j

  -- how many pieces the origins make, joined
  abbrev pub pieces_after : Origin W → List (Origin W) → ℕ
  pieces_after o [] = 1
  pieces_after o (p ∷ os) = cond (follows o p) (pieces_after p os) (suc (pieces_after p os))

  abbrev pub pieces : List (Origin W) → ℕ
  pieces [] = 0
  pieces (o ∷ os) = pieces_after o os

  -- the number of the first check that refuses a correction, or the new length
  abbrev pub check : State W → Correction W → Result ℕ ℕ
  check st c =
      let n = length st.origins in
      let more = length c.enters in
      cond (nat_lt n (c.at + c.strikes)) (Err 1)
      (cond (nat_lt 1048576 ((n - c.strikes) + more)) (Err 2)
      (cond (nat_lt 1024 (length st.words + more)) (Err 3)
      (cond (nat_lt 256 (pieces (edited st c).origins)) (Err 4) (Ok ((n - c.strikes) + more)))))

  abbrev pub passes : State W → Correction W → Bool
  passes st c = is_ok (check st c)

  -- a refused correction changes nothing
  abbrev pub corrected : State W → Correction W → State W
  corrected st c = cond (passes st c) (edited st c) st

  -- what a correction answers, and the state after it
  abbrev pub outcome : State W → Correction W → Result ℕ ℕ × State W
  outcome st c = (check st c, corrected st c)

  -- corrections in turn, the refused ones passed over
  abbrev pub corrected_all : State W → List (Correction W) → State W
  corrected_all st [] = st
  corrected_all st (c ∷ cs) = corrected_all (corrected st c) cs

  -- whether none of them is refused
  abbrev pub all_pass : State W → List (Correction W) → Bool
  all_pass st [] = true
  all_pass st (c ∷ cs) = passes st c && all_pass (corrected st c) cs
