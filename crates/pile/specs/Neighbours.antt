-- Two neighbours of a pile, and one journal in their place.
-- replaces: the one reads and tells what the two do, wherever they lie.
-- Assumes nothing.
use Rattle.std.specs.Prelude.{◌≡◌, ℕ, List, [], ◌∷◌, ◌++◌, length}
use Rattle.series.specs.declared.cell.Cell.{Cell}
use Rattle.journal.specs.Machine.{State}
use Rattle.folding.specs.Piles.{piled, down}

-- on a base with these cells, by the reading of each word
pub record Replaces {R : Type 0} (decode : ℕ → R) (base : List (Cell R)) (lower upper both : State ℕ) : Type 0 where
  -- where the lower fits the base, every cell is the same, under any tags and any journals above;
  pub cells : lower.started ≡ length base → (above : List (ℕ × State ℕ)) (tag low high : ℕ) →
      piled decode base (above ++ (tag, both) ∷ []) ≡ piled decode base (above ++ (high, upper) ∷ (low, lower) ∷ [])
  -- and each place is followed down to the same base place or word, between any journals.
  pub origins : (above below : List (State ℕ)) (q : ℕ) → down (above ++ both ∷ below) q ≡ down (above ++ upper ∷ lower ∷ below) q
