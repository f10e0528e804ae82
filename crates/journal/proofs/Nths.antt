-- The element that stands at a place of a list.
use Rattle.std.proofs.Common.{◌≡◌, ℕ, zero, suc, ◌<◌, List, [], ◌∷◌, map, length, Ok, Result, sym, refl, ap, ◌∙◌, arith}
use Rattle.std.specs.Result.{result_unwrap_or}
use Rattle.series.specs.Lists.{nth}
use Rattle.series.specs.Refusals.{with_ok}
use Rattle.series.proofs.Nths.{nth_mapped}

pub none : {A : Type 0} (q : ℕ) (a : A) → nth [] q ≡ Ok a → ⊥
none q a e = let z : ◌≡◌ {A = ℕ} 0 1 = cc in omega arith

pub nth-some : {A : Type 0} (xs : List A) (q : ℕ) → q < length xs → (a : A) × (nth xs q ≡ Ok a)
nth-some [] q h = absurd (omega arith)
nth-some (x ∷ xs) zero h = (x, refl)
nth-some (x ∷ xs) (suc q) h = nth-some xs q (omega arith)

pub nth-value : {A : Type 0} (xs : List A) (q : ℕ) (a d : A) → nth xs q ≡ Ok a → result_unwrap_or (nth xs q) d ≡ a
nth-value {A} xs q a d e = ap (λ (r : Result A ℕ). result_unwrap_or r d) e

pub nth-map_ok : {A B : Type 0} (f : A → B) (xs : List A) (q : ℕ) (a : A) → nth xs q ≡ Ok a → nth (map f xs) q ≡ Ok (f a)
nth-map_ok f xs q a e = sym (nth_mapped f xs q) ∙ ap (with_ok f) e

pub nth_unmap : {A B : Type 0} (f : A → B) (xs : List A) (q : ℕ) (b : B) → nth (map f xs) q ≡ Ok b → (a : A) × (nth xs q ≡ Ok a) × (f a ≡ b)
nth_unmap f [] q b e = absurd (none q b e)
nth_unmap f (x ∷ xs) zero b e = (x, refl, cc)
nth_unmap f (x ∷ xs) (suc q) b e = nth_unmap f xs q b e
