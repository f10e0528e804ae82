-- What a list answers at a place, by its length and its parts.
use Rattle.std.proofs.Common.{◌≡◌, ℕ, zero, suc, ◌+◌, ◌<◌, ◌≤◌, List, [], ◌∷◌, map, length, get_or, replicate, Ok, Err, sym, refl, ap, ◌∙◌, arith}
use lib.ListN.{length-replicate, length-map}
use Rattle.std.proofs.lemmas.List.{get_or-replicate, get_or-map}
use Rattle.series.specs.Lists.{nth, indexed}
use Rattle.series.specs.Refusals.{with_ok}

pub nth_past : {A : Type 0} (xs : List A) (i : ℕ) → length xs ≤ i → nth xs i ≡ Err 1
nth_past [] i h = refl
nth_past (x ∷ xs) zero h = absurd (omega arith)
nth_past (x ∷ xs) (suc i) h = nth_past xs i (omega arith)

pub nth-at : {A : Type 0} (xs : List A) (i : ℕ) (d : A) → i < length xs → nth xs i ≡ Ok (get_or xs i d)
nth-at [] i d h = absurd (omega arith)
nth-at (x ∷ xs) zero d h = refl
nth-at (x ∷ xs) (suc i) d h = nth-at xs i d (omega arith)

pub nth-replicate : {A : Type 0} (n i : ℕ) (x : A) → i < n → nth (replicate n x) i ≡ Ok x
nth-replicate n i x h =
    let within : i < length (replicate n x) = simp length-replicate h in
    nth-at (replicate n x) i x within ∙ ap Ok (get_or-replicate n i x x h)

pub nth-replicate-past : {A : Type 0} (n i : ℕ) (x : A) → n ≤ i → nth (replicate n x) i ≡ Err 1
nth-replicate-past n i x h = nth_past (replicate n x) i (simp length-replicate h)

pub nth-map : {A B : Type 0} (f : A → B) (xs : List A) (i : ℕ) (d : A) → i < length xs → nth (map f xs) i ≡ Ok (f (get_or xs i d))
nth-map f xs i d h =
    let within : i < length (map f xs) = simp length-map h in
    nth-at (map f xs) i (f d) within ∙ ap Ok (get_or-map f xs i d (f d) h)

pub nth-map-past : {A B : Type 0} (f : A → B) (xs : List A) (i : ℕ) → length xs ≤ i → nth (map f xs) i ≡ Err 1
nth-map-past f xs i h = nth_past (map f xs) i (simp length-map h)

pub nth_mapped : {A B : Type 0} (f : A → B) (xs : List A) (i : ℕ) → with_ok f (nth xs i) ≡ nth (map f xs) i
nth_mapped f [] i = refl
nth_mapped f (x ∷ xs) zero = refl
nth_mapped f (x ∷ xs) (suc i) = nth_mapped f xs i

-- below the length no place is refused
pub nth_never : {A : Type 0} (xs : List A) (i : ℕ) (d : ℕ) → i < length xs → Err d ≡ nth xs i → ⊥
nth_never [] i d h e = omega arith
nth_never (x ∷ xs) zero d h e = let z : ◌≡◌ {A = ℕ} 0 1 = cc in omega arith
nth_never (x ∷ xs) (suc i) d h e = nth_never xs i d (omega arith) e

nth-from : {A B : Type 0} (f : ℕ → A → B) (k : ℕ) (xs : List A) (i : ℕ) → nth (indexed f k xs) i ≡ with_ok (f (k + i)) (nth xs i)
nth-from f k [] i = refl
nth-from f k (x ∷ xs) zero = ap (λ n. Ok (f n x)) (omega arith)
nth-from f k (x ∷ xs) (suc i) =
    let e : suc k + i ≡ k + suc i = omega arith in
    nth-from f (suc k) xs i ∙ ap (λ n. with_ok (f n) (nth xs i)) e

pub nth-indexed : {A B : Type 0} (f : ℕ → A → B) (xs : List A) (i : ℕ) → nth (indexed f 0 xs) i ≡ with_ok (f i) (nth xs i)
nth-indexed f xs i =
    let e : 0 + i ≡ i = omega arith in
    nth-from f 0 xs i ∙ ap (λ n. with_ok (f n) (nth xs i)) e

pub nth-indexed_ok : {A B : Type 0} (f : ℕ → A → B) (xs : List A) (i : ℕ) (x : A) → Ok x ≡ nth xs i → Ok (f i x) ≡ nth (indexed f 0 xs) i
nth-indexed_ok f xs i x e = ap (with_ok (f i)) e ∙ sym (nth-indexed f xs i)

pub nth-indexed_err : {A B : Type 0} (f : ℕ → A → B) (xs : List A) (i : ℕ) (d : ℕ) → Err d ≡ nth xs i → Err d ≡ nth (indexed f 0 xs) i
nth-indexed_err f xs i d e = ap (with_ok (f i)) e ∙ sym (nth-indexed f xs i)
