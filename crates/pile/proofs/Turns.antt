-- One turn more of a loop that makes what a list asks for, by what is left of the list.
use Rattle.std.proofs.Common.{◌≡◌, ℕ, ◌+◌, ◌<◌, ◌≤◌, List, [], ◌∷◌, length, get_or, drop, sym, ap, ◌∙◌}
use Rattle.std.proofs.lemmas.List.{at_drop_more, at_drop_all}

-- all: what a state becomes by a list; one: by its first element
module _ {S X : Type 0} (all : S → List X → S) (one : S → X → S) (first : (st : S) (x : X) (xs : List X) → all st (x ∷ xs) ≡ all (one st x) xs) (none : (st : S) → all st [] ≡ st) where
  pub turns_more : (st next : S) (xs : List X) (i : ℕ) (d : X) → i < length xs → next ≡ one st (get_or xs i d) → all next (drop (i + 1) xs) ≡ all st (drop i xs)
  turns_more st next xs i d h e =
      ap (λ (s : S). all s (drop (i + 1) xs)) e ∙ sym (at_drop_more (λ (l : List X). all st l) xs i d h ∙ first st (get_or xs i d) (drop (i + 1) xs))

  pub turns_all : (st : S) (xs : List X) (i : ℕ) → length xs ≤ i → all st (drop i xs) ≡ st
  turns_all st xs i h = at_drop_all (λ (l : List X). all st l) xs i h ∙ none st
