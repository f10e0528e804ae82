-- What is read of a command's arguments.
-- number_in: the first field as a number, and the fields after it.
-- first_segment: the fields before the first semicolon; past_segment: those after it, where there is one.
-- segment_in: the fields before the first semicolon as words, with those after it.
-- correction_first: the fields before the first semicolon as a correction, with those after it.
-- numbers_only: all fields as numbers, each at most its limit; numbers_words: the same, and words after them.
-- Fails: a fault says that nothing can be read, or that there was no memory.
-- Reads: what was read is this, or a fault.
-- Assumes nothing.
use Rattle.std.specs.Prelude.{◌≡◌, ℕ, cond, List, [], ◌∷◌, Some, None, Ok, Err, codes, Option, Result}
use Rattle.std.specs.Option.{option_map}
use Rattle.journal.specs.Machine.{Correction, correction}
use Rattle.commands.specs.declared.wrong.Wrong.TheVariants.{BadArguments}
use Rattle.commands.specs.declared.wrong.ParseFault.{ParseFault}
use Rattle.commands.specs.declared.wrong.ParseFault.TheVariants as fault
use Rattle.commands.specs.Fields.{Field}
use Rattle.commands.specs.Numerals.{and_some, number_to}
use Rattle.commands.specs.Parsing.{numbers_in, words_in, nothing_in, at}
use Rattle.commands.specs.Verbs.{same, places}

abbrev pub number_in : ℕ → List Field → Option (ℕ × List Field)
number_in most [] = None
number_in most (f ∷ fs) = option_map (λ n. (n, fs)) (number_to most f)

abbrev pub first_segment : List Field → List Field
first_segment [] = []
first_segment (f ∷ fs) = cond (same (codes ";") f) [] (f ∷ first_segment fs)

abbrev pub past_segment : List Field → Option (List Field)
past_segment [] = None
past_segment (f ∷ fs) = cond (same (codes ";") f) (Some fs) (past_segment fs)

abbrev pub segment_in : List Field → Option (List ℕ × Option (List Field))
segment_in fs = option_map (λ ws. (ws, past_segment fs)) (words_in (first_segment fs))

abbrev pub correction_first : List Field → Option (Correction ℕ × Option (List Field))
correction_first fs =
    and_some (numbers_in (places ∷ (places ∷ [])) fs) (λ p. option_map (λ q. (correction (at p.0 0) (at p.0 1) q.0, q.1)) (segment_in p.1))

abbrev pub numbers_only : List ℕ → List Field → Option (List ℕ)
numbers_only limits fs = and_some (numbers_in limits fs) (λ p. option_map (λ _. p.0) (nothing_in p.1))

abbrev pub numbers_words : List ℕ → List Field → Option (List ℕ × List ℕ)
numbers_words limits fs = and_some (numbers_in limits fs) (λ p. option_map (λ ws. (p.0, ws)) (words_in p.1))

abbrev pub Fails : {B : Type 0} → ParseFault → Option B → Type 0
Fails (fault.Wrong w) o = (w ≡ BadArguments) × (o ≡ None)
Fails fault.NoMemory o = Unit {0}

abbrev pub Reads : {A B : Type 0} → (A → B) → Result A ParseFault → Option B → Type 0
Reads f (Ok x) o = o ≡ Some (f x)
Reads f (Err e) o = Fails e o
