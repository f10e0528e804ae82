-- What is printed of generic things.
-- Shows: each thing prints this text.
-- shown_answer: an answer's value prints, or its refusal.
-- Assumes nothing.
use Rattle.std.specs.Prelude.{◌≡◌, ℕ, List, Option, Some, Result, Ok, Err}

abbrev pub Shows : {T : Type 0} → (T → Option (List ℕ)) → (T → List ℕ) → Type 0
Shows {T} output shown = (x : T) → output x ≡ Some (shown x)

abbrev pub shown_answer : {T E : Type 0} → (T → Option (List ℕ)) → (E → Option (List ℕ)) → Result T E → Option (List ℕ)
shown_answer value refusal (Ok x) = value x
shown_answer value refusal (Err e) = refusal e
