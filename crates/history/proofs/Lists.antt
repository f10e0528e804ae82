-- What stands at a place of a list, and of one with a stretch replaced.
use Rattle.std.proofs.Common.{◌≡◌, ℕ, zero, suc, ◌+◌, ◌-◌, ◌<◌, ◌≤◌, ◌⊎◌, List, [], ◌∷◌, ◌++◌, map, length, take, drop, Ok, sym, refl, ap, ◌∙◌, ap₂, inl, inr, map-id, suc-add, zero-add, arith, length-append}
use Rattle.std.proofs.lemmas.List.{length-take-le, length-drop}
use Rattle.std.proofs.lemmas.Bool.{cases_lt}
use Rattle.series.specs.Lists.{nth, spliced, up_from, indexed}
use Rattle.journal.proofs.Nths.{none}

pub length-spliced : {A : Type 0} (p s : ℕ) (new old : List A) → p + s ≤ length old → length (spliced p s new old) + s ≡ length old + length new
length-spliced p s new old h =
    let a = length-append (take p old) (new ++ drop (p + s) old) in
    let b = length-append new (drop (p + s) old) in
    let d : length (take p old) ≡ p = length-take-le p old (omega arith) in
    let e = length-drop (p + s) old in
    omega arith

pub map-indexed : {A B : Type 0} (f : ℕ → A → B) (g : B → A) → ((k : ℕ) (a : A) → g (f k a) ≡ a) → (k : ℕ) (xs : List A) → map g (indexed f k xs) ≡ xs
map-indexed f g h k [] = refl
map-indexed f g h k (x ∷ xs) = ap₂ ◌∷◌ (h k x) (map-indexed f g h (suc k) xs)

pub indexed-same : {A : Type 0} (f : ℕ → A → A) → ((k : ℕ) (a : A) → f k a ≡ a) → (xs : List A) → indexed f 0 xs ≡ xs
indexed-same f h xs = sym (map-id (indexed f 0 xs)) ∙ map-indexed f (λ x. x) h 0 xs

module _ {A : Type 0} where
  nth-before : (p : ℕ) (xs ys : List A) (q : ℕ) → q < p → p ≤ length xs → nth (take p xs ++ ys) q ≡ nth xs q
  nth-before zero xs ys q h l = absurd (omega arith)
  nth-before (suc p) [] ys q h l = absurd (omega arith)
  nth-before (suc p) (x ∷ xs) ys zero h l = refl
  nth-before (suc p) (x ∷ xs) ys (suc q) h l = nth-before p xs ys q (omega arith) (omega arith)

  pub nth_skip : (xs ys : List A) (i : ℕ) → nth (xs ++ ys) (length xs + i) ≡ nth ys i
  nth_skip [] ys i = ap (nth ys) (zero-add i)
  nth_skip (x ∷ xs) ys i = ap (nth (x ∷ (xs ++ ys))) (suc-add (length xs) i) ∙ nth_skip xs ys i

  nth_in : (xs ys : List A) (i : ℕ) → i < length xs → nth (xs ++ ys) i ≡ nth xs i
  nth_in [] ys i h = absurd (omega arith)
  nth_in (x ∷ xs) ys zero h = refl
  nth_in (x ∷ xs) ys (suc i) h = nth_in xs ys i (omega arith)

  nth_drop : (d : ℕ) (xs : List A) (j : ℕ) → nth (drop d xs) j ≡ nth xs (d + j)
  nth_drop zero xs j = ap (nth xs) (sym (zero-add j))
  nth_drop (suc d) [] j = refl
  nth_drop (suc d) (x ∷ xs) j = nth_drop d xs j ∙ ap (nth (x ∷ xs)) (sym (suc-add d j))

  nth_middle : (p d : ℕ) (xs ys : List A) (i : ℕ) → p ≤ length xs → i < length ys →
      nth (take p xs ++ (ys ++ drop d xs)) (p + i) ≡ nth ys i
  nth_middle p d xs ys i h l =
      let e : p + i ≡ length (take p xs) + i = ap (λ (m : ℕ). m + i) (sym (length-take-le p xs h)) in
      ap (nth (take p xs ++ (ys ++ drop d xs))) e ∙ nth_skip (take p xs) (ys ++ drop d xs) i ∙ nth_in ys (drop d xs) i l

  nth-behind : (p d : ℕ) (xs ys : List A) (j : ℕ) → p ≤ length xs →
      nth (take p xs ++ (ys ++ drop d xs)) (p + (length ys + j)) ≡ nth xs (d + j)
  nth-behind p d xs ys j h =
      let i = length ys + j in
      let e : p + i ≡ length (take p xs) + i = ap (λ (m : ℕ). m + i) (sym (length-take-le p xs h)) in
      ap (nth (take p xs ++ (ys ++ drop d xs))) e ∙ nth_skip (take p xs) (ys ++ drop d xs) i ∙ nth_skip ys (drop d xs) j ∙ nth_drop d xs j

  pub nth-length : (xs : List A) (q : ℕ) (a : A) → nth xs q ≡ Ok a → q < length xs
  nth-length [] q a e = absurd (none q a e)
  nth-length (x ∷ xs) zero a e = omega arith
  nth-length (x ∷ xs) (suc q) a e = omega (arith, nth-length xs q a e)

  pub nth_more : (xs ys : List A) (q : ℕ) (a : A) → nth xs q ≡ Ok a → nth (xs ++ ys) q ≡ Ok a
  nth_more xs ys q a e = nth_in xs ys q (nth-length xs q a e) ∙ e

  pub nth_end : (xs : List A) (x : A) → nth (xs ++ (x ∷ [])) (length xs) ≡ Ok x
  nth_end [] x = refl
  nth_end (y ∷ xs) x = nth_end xs x

  pub nth_last : (xs : List A) (x : A) (q : ℕ) (a : A) → nth (xs ++ (x ∷ [])) q ≡ Ok a → (nth xs q ≡ Ok a) ⊎ (x ≡ a)
  nth_last [] x zero a e = inr cc
  nth_last [] x (suc q) a e = absurd (none q a e)
  nth_last (y ∷ xs) x zero a e = inl e
  nth_last (y ∷ xs) x (suc q) a e = nth_last xs x q a e

  -- where what stands at place q of a list with a stretch replaced comes from
  pub data Ways (p s : ℕ) (new old : List A) (x : A) (q : ℕ) : Type 0 where
    before : q < p → nth old q ≡ Ok x → Ways p s new old x q
    fresh : (i : ℕ) → q ≡ p + i → nth new i ≡ Ok x → Ways p s new old x q
    behind : (r : ℕ) → p + s ≤ r → q + s ≡ r + length new → nth old r ≡ Ok x → Ways p s new old x q

  pub ways : (p s : ℕ) (new old : List A) → p + s ≤ length old → (x : A) (q : ℕ) → nth (spliced p s new old) q ≡ Ok x → Ways p s new old x q
  ways p s new old h x q e = go (cases_lt q p) (cases_lt q (p + length new))
    where
      go : (q < p) ⊎ (p ≤ q) → (q < p + length new) ⊎ (p + length new ≤ q) → Ways p s new old x q
      go (inl l) w = before l (sym (nth-before p old (new ++ drop (p + s) old) q l (omega arith)) ∙ e)
      go (inr l) (inl m) =
          let at : q ≡ p + (q - p) = omega arith in
          fresh (q - p) at (sym (nth_middle p (p + s) old new (q - p) (omega arith) (omega arith)) ∙ sym (ap (nth (spliced p s new old)) at) ∙ e)
      go (inr l) (inr m) =
          let j = q - (p + length new) in
          let at : q ≡ p + (length new + (q - (p + length new))) = omega arith in
          behind ((p + s) + j) (omega arith) (omega arith) (sym (nth-behind p (p + s) old new j (omega arith)) ∙ sym (ap (nth (spliced p s new old)) at) ∙ e)

  pub unways : (p s : ℕ) (new old : List A) → p + s ≤ length old → (x : A) (q : ℕ) → Ways p s new old x q → nth (spliced p s new old) q ≡ Ok x
  unways p s new old h x q (before l e) = nth-before p old (new ++ drop (p + s) old) q l (omega arith) ∙ e
  unways p s new old h x q (fresh i at e) =
      ap (nth (spliced p s new old)) at ∙ nth_middle p (p + s) old new i (omega arith) (nth-length new i x e) ∙ e
  unways p s new old h x q (behind r l at e) =
      let there : q ≡ p + (length new + (r - (p + s))) = omega arith in
      let back : (p + s) + (r - (p + s)) ≡ r = omega arith in
      ap (nth (spliced p s new old)) there ∙ nth-behind p (p + s) old new (r - (p + s)) (omega arith) ∙ ap (nth old) back ∙ e

pub length-up_from : (n k : ℕ) → length (up_from k n) ≡ n
length-up_from zero k = refl
length-up_from (suc n) k = ap suc (length-up_from n (suc k))

pub nth-up_from : (n k q m : ℕ) → nth (up_from k n) q ≡ Ok m → (m ≡ k + q) × (q < n)
nth-up_from zero k q m e = absurd (none q m e)
nth-up_from (suc n) k zero m e = let f : k ≡ m = cc in (omega arith, omega arith)
nth-up_from (suc n) k (suc q) m e = let w = nth-up_from n (suc k) q m e in (omega arith, omega arith)

pub up_from-nth : (n k q : ℕ) → q < n → nth (up_from k n) q ≡ Ok (k + q)
up_from-nth zero k q h = absurd (omega arith)
up_from-nth (suc n) k zero h = ap Ok (let e : k ≡ k + 0 = omega arith in e)
up_from-nth (suc n) k (suc q) h = let e : suc k + q ≡ k + suc q = omega arith in up_from-nth n (suc k) q (omega arith) ∙ ap Ok e
