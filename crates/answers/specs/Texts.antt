-- The words of the console's answers.
-- ok_before: ok and a text.
-- ok_text: ok and a number.
-- answer_text: what an answer's value prints, or its refusal.
-- separated: the texts of some things, with a separator between.
-- listed: the same, or the word none where there is none.
-- hex_text: bytes as pairs of hex digits in lower case.
-- Assumes nothing.
use Rattle.std.specs.Prelude.{ℕ, ◌+◌, ◌/◌, ◌%◌, cond, List, [], ◌∷◌, ◌++◌, Ok, Err, codes, decimal, Result, nat_lt}
use Rattle.std.specs.List.{flat_map}
use Rattle.series.specs.Refusals.{refusal_text}

abbrev pub ok_before : List ℕ → List ℕ
ok_before text = codes "ok " ++ text

abbrev pub ok_text : ℕ → List ℕ
ok_text n = ok_before (decimal n)

abbrev pub answer_text : {A : Type 0} → (A → List ℕ) → Result A ℕ → List ℕ
answer_text text (Ok x) = text x
answer_text text (Err n) = refusal_text n

abbrev pub separated : {A : Type 0} → List ℕ → (A → List ℕ) → List A → List ℕ
separated separator text [] = []
separated separator text (x ∷ xs) = text x ++ flat_map (λ y. separator ++ text y) xs

abbrev pub listed : {A : Type 0} → List ℕ → (A → List ℕ) → List A → List ℕ
listed separator text [] = codes "none"
listed separator text (x ∷ xs) = separated separator text (x ∷ xs)

-- the digit of a value below 16
abbrev pub hex_digit : ℕ → ℕ
hex_digit d = cond (nat_lt d 10) (48 + d) (87 + d)

abbrev pub hex_pair : ℕ → List ℕ
hex_pair b = hex_digit (b / 16) ∷ hex_digit (b % 16) ∷ []

abbrev pub hex_text : List ℕ → List ℕ
hex_text bs = flat_map hex_pair bs
