-- The pieces of a journal, and what they stand for.
-- stretch: so many origins in a row, from a number on; entered ones without their words.
-- spread: the origins that pieces stand for, piece after piece.
-- part: the elements from a place up to another.
-- bare: an origin without its word.
-- joins: two neighbours could be one piece.
-- gathered: the joined pieces that a list of origins makes.
-- none_empty, none_joins: no count is zero; no two neighbours could be one.
-- total: the counts of the pieces in all.
-- of_source: the pieces of one source.
-- rise: the pieces lie from a number up to another, and rise without overlap.
-- within: each piece ends at a number or before it.
-- Assumes nothing.
use Rattle.std.specs.Prelude.{◌≡◌, ℕ, zero, suc, ◌+◌, Bool, true, false, cond, not, ◌&&◌, List, [], ◌∷◌, ◌++◌, map, length, take, drop, ◌==◌, nat_le, nat_lt, refl}
use Rattle.std.proofs.Common.{ap, arith, length-append}
use Rattle.series.specs.Lists.{up_from}
use Rattle.journal.specs.declared.piece.Piece.{Piece}
use Rattle.journal.specs.declared.piece.Source.{Source}
use Rattle.journal.specs.declared.piece.Source.TheVariants.{Kept, Entered}
use Rattle.journal.specs.Machine.{Origin, base, entered}

abbrev pub piece : Source → ℕ → ℕ → Piece
piece s a n = record { source = s; first = a; count = n }

-- the origin with a number: that base place, or the entered word with that number
abbrev pub origin : Source → ℕ → Origin (Unit {0})
origin Kept m = base m
origin Entered k = entered k tt

-- n origins from number a on
abbrev pub stretch : Source → ℕ → ℕ → List (Origin (Unit {0}))
stretch s a n = map (origin s) (up_from a n)

abbrev pub spread : List Piece → List (Origin (Unit {0}))
spread [] = []
spread (p ∷ ps) = stretch p.source p.first p.count ++ spread ps

abbrev pub part : {A : Type 0} → ℕ → ℕ → List A → List A
part start end xs = drop start (take end xs)

abbrev pub bare : {W : Type 0} → Origin W → Origin (Unit {0})
bare (base m) = base m
bare (entered k w) = entered k tt

abbrev pub same : Source → Source → Bool
same Kept Kept = true
same Kept Entered = false
same Entered Kept = false
same Entered Entered = true

abbrev pub joins : Piece → Piece → Bool
joins p q = same p.source q.source && p.first + p.count == q.first

-- joined pieces with one origin more in front
abbrev pub before : Source → ℕ → List Piece → List Piece
before s a [] = piece s a 1 ∷ []
before s a (q ∷ qs) = cond (joins (piece s a 1) q) (piece s a (suc q.count) ∷ qs) (piece s a 1 ∷ (q ∷ qs))

abbrev pub gathered : {W : Type 0} → List (Origin W) → List Piece
gathered [] = []
gathered (base m ∷ os) = before Kept m (gathered os)
gathered (entered k w ∷ os) = before Entered k (gathered os)

abbrev pub none_empty : List Piece → Bool
none_empty [] = true
none_empty (p ∷ ps) = nat_lt 0 p.count && none_empty ps

abbrev pub none_joins : List Piece → Bool
none_joins [] = true
none_joins (p ∷ []) = true
none_joins (p ∷ (q ∷ qs)) = not (joins p q) && none_joins (q ∷ qs)

abbrev pub total : List Piece → ℕ
total [] = 0
total (p ∷ ps) = p.count + total ps

abbrev pub of_source : Source → List Piece → List Piece
of_source s [] = []
of_source s (p ∷ ps) = cond (same s p.source) (p ∷ of_source s ps) (of_source s ps)

abbrev pub rise : ℕ → ℕ → List Piece → Bool
rise from to [] = true
rise from to (p ∷ ps) = nat_le from p.first && (nat_le (p.first + p.count) to && rise (p.first + p.count) to ps)

abbrev pub within : ℕ → List Piece → Bool
within to [] = true
within to (p ∷ ps) = nat_le (p.first + p.count) to && within to ps

pub length-stretch : (s : Source) (a n : ℕ) → length (stretch s a n) ≡ n
length-stretch s a zero = refl
length-stretch s a (suc n) = ap suc (length-stretch s (suc a) n)

pub length-spread : (ps : List Piece) → length (spread ps) ≡ total ps
length-spread [] = refl
length-spread (p ∷ ps) =
    omega (
      arith,
      length-append (stretch p.source p.first p.count) (spread ps),
      length-stretch p.source p.first p.count,
      length-spread ps,
    )
