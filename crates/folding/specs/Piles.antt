-- Journals laid one on another, and their folds.
-- pile: journals with their tags, listed from the top; each is laid on those after it, and the last on a base.
-- piled: what a pile reads, place by place.
-- down: the answer at a place of a pile, base places followed down to the lowest journal's.
-- sound: base places lie below the length started for.
-- Assumes nothing.
use Rattle.std.specs.Prelude.{◌≡◌, ℕ, ◌<◌, List, [], ◌∷◌, ◌++◌, length, Ok, Result}
use Rattle.series.specs.declared.cell.Cell.{Cell}
use Rattle.series.specs.Lists.{nth}
use Rattle.series.specs.Refusals.{and_then}
use Rattle.journal.specs.Machine.{Answer, place, word, State, answers, start}
use Rattle.journal.specs.Tidiness.{IsTidied}
use Rattle.journal.specs.Folded.{fold}
use Rattle.history.specs.Calls.{Call, ran}
use Rattle.history.specs.Laid.{laid}

abbrev pub piled : {W R : Type 0} → (W → R) → List (Cell R) → List (ℕ × State W) → List (Cell R)
piled decode cells [] = cells
piled decode cells (top ∷ lower) = laid decode top.0 (piled decode cells lower) top.1

module _ {W : Type 0} where
  -- a word is answered as it is, a base place by what lies below
  abbrev pub onward : (ℕ → Result (Answer W) ℕ) → Answer W → Result (Answer W) ℕ
  onward below (place m) = below m
  onward below (word w) = Ok (word w)

  -- a place that some journal on the way does not have is refused with 1
  abbrev pub down : List (State W) → ℕ → Result (Answer W) ℕ
  down [] m = Ok (place m)
  down (top ∷ lower) q = and_then (nth (answers top) q) (onward (down lower))

  abbrev pub Sound : State W → Type 0
  Sound st = (q m : ℕ) → nth (answers st) q ≡ Ok (place m) → m < st.started

pub record FoldLaw (W R : Type 0) : Type 0 where
  -- in a pile over any base, an accepted fold under any tag leaves the cells that all from the two journals up read, where the lower fits
  -- what it lies on;
  pub cells : (decode : W → R) (base : List (Cell R)) (above below : List (ℕ × State W)) (lower upper both : State W) (tag low high : ℕ) →
      fold lower upper ≡ Ok both → Sound lower → Sound upper → lower.started ≡ length (piled decode base below) →
      piled decode base (above ++ (tag, both) ∷ below) ≡ piled decode base (above ++ (high, upper) ∷ (low, lower) ∷ below)
  -- and, in any pile, what every place is followed down to;
  pub origins : (above below : List (State W)) (lower upper both : State W) (q : ℕ) → fold lower upper ≡ Ok both → Sound upper →
      down (above ++ both ∷ below) q ≡ down (above ++ upper ∷ lower ∷ below) q
  -- it is tidied, and started for what the lower was started for;
  pub tidy : (lower upper both : State W) → fold lower upper ≡ Ok both → IsTidied both × (both.started ≡ lower.started)
  -- three neighbours fold to the same journal either way.
  pub either : (a b c ab bc left right : State W) → Sound c →
      fold a b ≡ Ok ab → fold ab c ≡ Ok left → fold b c ≡ Ok bc → fold a bc ≡ Ok right → left ≡ right
  -- Every journal is sound: it starts so, and calls and folds keep it so.
  pub starts : (n : ℕ) → Sound {W = W} (start n)
  pub runs : (st : State W) (calls : List (Call W)) → Sound st → Sound (ran st calls)
  pub folds : (lower upper both : State W) → Sound lower → Sound upper → fold lower upper ≡ Ok both → Sound both
