-- Lists by place.
-- nth: the element at a place, or refusal 1 at or past the length.
-- spliced: some elements from a place on make way for new ones.
-- up_from: the numbers from one on.
-- indexed: a function of each element and its place.
-- Assumes nothing.
use Rattle.std.specs.Prelude.{ℕ, zero, suc, ◌+◌, List, [], ◌∷◌, ◌++◌, take, drop, Ok, Err, Result}

abbrev pub nth : {A : Type 0} → List A → ℕ → Result A ℕ
nth [] q = Err 1
nth (x ∷ xs) zero = Ok x
nth (x ∷ xs) (suc q) = nth xs q

-- s elements from place p on make way for new ones
abbrev pub spliced : {A : Type 0} → ℕ → ℕ → List A → List A → List A
spliced p s new old = take p old ++ (new ++ drop (p + s) old)

-- n numbers, from k on
abbrev pub up_from : ℕ → ℕ → List ℕ
up_from k zero = []
up_from k (suc n) = k ∷ up_from (suc k) n

-- a function of each element and its place, the first of which is k
abbrev pub indexed : {A B : Type 0} → (ℕ → A → B) → ℕ → List A → List B
indexed f k [] = []
indexed f k (x ∷ xs) = f k x ∷ indexed f (suc k) xs
