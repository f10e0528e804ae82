-- The origin at a place, by walking over the pieces.
use Rattle.std.proofs.Common.{◌≡◌, ℕ, zero, suc, ◌+◌, ◌-◌, ◌<◌, ◌≤◌, List, ◌++◌, length, get_or, drop, Ok, ap, ◌∙◌, arith}
use Rattle.std.proofs.lemmas.List.{drop_more}
use Rattle.series.specs.Lists.{nth}
use Rattle.journal.specs.declared.piece.Piece.{Piece}
use Rattle.journal.specs.declared.piece.Source.{Source}
use Rattle.journal.specs.Machine.{Origin}
use Rattle.journal.specs.Pieces.{origin, stretch, spread}

nth-stretch : (s : Source) (a n i : ℕ) (rest : List (Origin (Unit {0}))) → i < n → nth (stretch s a n ++ rest) i ≡ Ok (origin s (a + i))
nth-stretch s a zero i rest h = absurd (omega arith)
nth-stretch s a (suc n) zero rest h = ap (λ (k : ℕ). Ok (origin s k)) (let e : a ≡ a + 0 = omega arith in e)
nth-stretch s a (suc n) (suc i) rest h =
    nth-stretch s (suc a) n i rest (omega arith) ∙ ap (λ (k : ℕ). Ok (origin s k)) (let e : suc a + i ≡ a + suc i = omega arith in e)

nth_after : (s : Source) (a n i : ℕ) (rest : List (Origin (Unit {0}))) → n ≤ i → nth (stretch s a n ++ rest) i ≡ nth rest (i - n)
nth_after s a zero i rest h = ap (nth rest) (let e : i ≡ i - 0 = omega arith in e)
nth_after s a (suc n) zero rest h = absurd (omega arith)
nth_after s a (suc n) (suc i) rest h = nth_after s (suc a) n i rest (omega arith) ∙ ap (nth rest) (let e : i - n ≡ suc i - suc n = omega arith in e)

-- the walk has come to piece i
module _ (ps : List Piece) (i left : ℕ) (d : Piece) (lt : i < length ps) where
  pub find_here : left < (get_or ps i d).count → nth (spread (drop i ps)) left ≡ Ok (origin (get_or ps i d).source ((get_or ps i d).first + left))
  find_here h =
      ap (λ (qs : List Piece). nth (spread qs) left) (drop_more ps i d lt)
      ∙ nth-stretch (get_or ps i d).source (get_or ps i d).first (get_or ps i d).count left (spread (drop (i + 1) ps)) h

  pub find_more : (get_or ps i d).count ≤ left → nth (spread (drop i ps)) left ≡ nth (spread (drop (i + 1) ps)) (left - (get_or ps i d).count)
  find_more h =
      ap (λ (qs : List Piece). nth (spread qs) left) (drop_more ps i d lt)
      ∙ nth_after (get_or ps i d).source (get_or ps i d).first (get_or ps i d).count left (spread (drop (i + 1) ps)) h
