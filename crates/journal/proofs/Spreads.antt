-- The origins that pieces stand for: of pieces in turn, of one piece more, of a longer last piece.
use Rattle.std.proofs.Common.{◌≡◌, ℕ, zero, suc, ◌+◌, ◌<◌, ◌≤◌, List, [], ◌∷◌, ◌++◌, length, get_or, take, drop, sym, refl, ap, ◌∙◌, add-zero, add-suc, suc-add, zero-add, arith, length-append, take-append-drop}
use Rattle.std.specs.List.{sum_by}
use Rattle.std.proofs.lemmas.List.{append-nil, append_assoc, take_more}
use Rattle.std.proofs.lemmas.List.Sums.{sum_by-cons}
use Rattle.journal.specs.declared.piece.Piece.{Piece}
use Rattle.journal.specs.declared.piece.Source.{Source}
use Rattle.journal.specs.Machine.{Origin}
use Rattle.journal.specs.Pieces.{piece, origin, stretch, spread, length-stretch}

abbrev Os : Type 0
Os = List (Origin (Unit {0}))

-- a stretch in two parts
stretch-add : (s : Source) (a m n : ℕ) → stretch s a (m + n) ≡ stretch s a m ++ stretch s (a + m) n
stretch-add s a zero n = rw (zero-add, add-zero)
stretch-add s a (suc m) n = rw (suc-add, add-suc, ← suc-add) (ap (λ (x : Os). origin s a ∷ x) (stretch-add s (suc a) m n))

spread-append : (ps qs : List Piece) → spread (ps ++ qs) ≡ spread ps ++ spread qs
spread-append [] qs = refl
spread-append (p ∷ ps) qs = rw (spread-append ps qs) (sym (append_assoc (stretch p.source p.first p.count) (spread ps) (spread qs)))

-- one piece more at the end
pub spread_push : (qs : List Piece) (p : Piece) → spread (qs ++ p ∷ []) ≡ spread qs ++ stretch p.source p.first p.count
spread_push qs p = spread-append qs (p ∷ []) ∙ ap (λ (x : Os). spread qs ++ x) (append-nil (stretch p.source p.first p.count))

-- the last piece made longer
pub grown-spread : (qs : List Piece) (s : Source) (a m n : ℕ)
    → spread (qs ++ piece s a (m + n) ∷ []) ≡ spread (qs ++ piece s a m ∷ []) ++ stretch s (a + m) n
grown-spread qs s a m n =
    spread_push qs (piece s a (m + n))
    ∙ ap (λ (x : Os). spread qs ++ x) (stretch-add s a m n)
    ∙ sym (append_assoc (spread qs) (stretch s a m) (stretch s (a + m) n))
    ∙ ap (λ (x : Os). x ++ stretch s (a + m) n) (sym (spread_push qs (piece s a m)))

-- the first pieces, and one more of them
pub spread_more : (xs : List Piece) (k : ℕ) (d : Piece) → k < length xs
    → spread (take (k + 1) xs) ≡ spread (take k xs) ++ stretch (get_or xs k d).source (get_or xs k d).first (get_or xs k d).count
spread_more xs k d lt = ap spread (take_more xs k d lt) ∙ spread_push (take k xs) (get_or xs k d)

pub length_more : (xs : List Piece) (k : ℕ) (d : Piece) → k < length xs
    → length (spread (take (k + 1) xs)) ≡ length (spread (take k xs)) + (get_or xs k d).count
length_more xs k d lt =
    ap length (spread_more xs k d lt)
    ∙ length-append (spread (take k xs)) (stretch (get_or xs k d).source (get_or xs k d).first (get_or xs k d).count)
    ∙ ap (λ (i : ℕ). length (spread (take k xs)) + i) (length-stretch (get_or xs k d).source (get_or xs k d).first (get_or xs k d).count)

-- the first pieces and the others
pub spread_split : (xs : List Piece) (k : ℕ) → spread xs ≡ spread (take k xs) ++ spread (drop k xs)
spread_split xs k = ap spread (sym (take-append-drop k xs)) ∙ spread-append (take k xs) (drop k xs)

pub spread_fewer : (xs : List Piece) (k : ℕ) → length (spread (take k xs)) ≤ length (spread xs)
spread_fewer xs k = omega (arith, ap length (spread_split xs k), length-append (spread (take k xs)) (spread (drop k xs)))

-- as many origins as the counts add to
pub length_spread_sum : (ps : List Piece) → length (spread ps) ≡ sum_by (λ (p : Piece). p.count) ps
length_spread_sum [] = refl
length_spread_sum (p ∷ ps) =
    omega (
      arith,
      length-append (stretch p.source p.first p.count) (spread ps),
      length-stretch p.source p.first p.count,
      length_spread_sum ps,
      sum_by-cons (λ (q : Piece). q.count) p ps,
    )
