-- Refusals by their numbers: the one definition that the promises use.
-- number: the number of each refusal.
-- by_number: an answer, its refusal told by number.
-- refusal_text: what is printed of a refusal, by its number.
-- with_ok, and_then: go on with the value of an answer, and pass a refusal on.
-- Assumes nothing.
use Rattle.std.specs.Prelude.{ℕ, List, ◌++◌, Ok, Err, Result, codes, decimal}
use Rattle.series.specs.declared.refusal.Refusal.{Refusal}
use Rattle.series.specs.declared.refusal.Refusal.TheVariants.{NoSuchPlace, TooLong, TooManyWords, TooManyPieces, NotForLower, BytesEnd, UnknownBit, ZeroField, BufferShort}

abbrev pub number : Refusal → ℕ
number NoSuchPlace = 1
number TooLong = 2
number TooManyWords = 3
number TooManyPieces = 4
number NotForLower = 5
number BytesEnd = 6
number UnknownBit = 7
number ZeroField = 8
number BufferShort = 10

abbrev pub by_number : {A : Type 0} → Result A Refusal → Result A ℕ
by_number (Ok x) = Ok x
by_number (Err e) = Err (number e)

abbrev pub refusal_text : ℕ → List ℕ
refusal_text n = codes "refused " ++ decimal n

abbrev pub with_ok : {A B E : Type 0} → (A → B) → Result A E → Result B E
with_ok f (Ok x) = Ok (f x)
with_ok f (Err e) = Err e

abbrev pub and_then : {A B E : Type 0} → Result A E → (A → Result B E) → Result B E
and_then (Ok x) f = f x
and_then (Err e) f = Err e
