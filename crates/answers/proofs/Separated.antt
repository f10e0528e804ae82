-- A text as it grows by the texts of some things in turn.
-- Grown: the text has what it had, and the texts of the first so many.
use Rattle.std.proofs.Common.{◌≡◌, ℕ, Option, ◌+◌, ◌-◌, ◌<◌, ◌≤◌, List, [], ◌∷◌, ◌++◌, length, get_or, take, drop, sym, ap, ◌∙◌, ap₂, arith}
use Rattle.std.specs.List.{flat_map}
use Rattle.std.proofs.lemmas.List.{append_assoc, flat_map_more, take_more, take_all}
use Rattle.answers.specs.Shown.{Shows}
use Rattle.answers.specs.Texts.{listed}

module _ {A : Type 0} (f : A → List ℕ) (before : List ℕ) (xs : List A) where
  abbrev pub Grown : ℕ → List ℕ → Type 0
  Grown i text = text ≡ before ++ flat_map f (take i xs)

  pub grown_more : (i : ℕ) (text after : List ℕ) (d : A) → i < length xs → after ≡ text ++ f (get_or xs i d) → Grown i text → Grown (i + 1) after
  grown_more i text after d h e g =
      e ∙ ap (λ (t : List ℕ). t ++ f (get_or xs i d)) g
      ∙ flat_map_more f before (take i xs) (get_or xs i d)
      ∙ ap (λ (l : List A). before ++ flat_map f l) (sym (take_more xs i d h))

  pub grown_all : (i : ℕ) (text : List ℕ) → length xs ≤ i → Grown i text → text ≡ before ++ flat_map f xs
  grown_all i text h g = g ∙ ap (λ (l : List A). before ++ flat_map f l) (take_all i xs h)

-- the same of things that print themselves, each behind a separator, whatever text each prints
abbrev pub GrownEach : {T : Type 0} → (T → Option (List ℕ)) → List ℕ → List ℕ → List T → ℕ → List ℕ → Type 0
GrownEach {T} output separator before xs i text = (shown : T → List ℕ) → Shows output shown → Grown (λ x. separator ++ shown x) before xs i text

-- two texts added one after the other
pub added_two : (s t u a b : List ℕ) → t ≡ s ++ a → u ≡ t ++ b → u ≡ s ++ (a ++ b)
added_two s t u a b p q = q ∙ ap (λ (l : List ℕ). l ++ b) p ∙ append_assoc s a b

-- the first of a slice, and the others each after a separator
pub listed_first : {A : Type 0} (separator : List ℕ) (f : A → List ℕ) (xs : List A) (d : A) (s t : List ℕ) → 0 < length xs → s ≡ f (get_or xs 0 d)
    → t ≡ s ++ flat_map (λ y. separator ++ f y) (take (length xs - 1) (drop 1 xs)) → t ≡ listed separator f xs
listed_first separator f [] d s t h p q = absurd (omega arith)
listed_first separator f (x ∷ xs) d s t h p q =
    q
    ∙ ap₂ (λ (a b : List ℕ). a ++ b) p
    (ap (λ l. flat_map (λ y. separator ++ f y) l) (take_all (length (x ∷ xs) - 1) xs (omega arith)))
