-- Pieces that could be one, as tests and as facts.
use Rattle.std.proofs.Common.{◌≡◌, ℕ, ◌+◌, ◌<◌, true, false, ◌&&◌, eqb, List, [], ◌∷◌, ◌++◌, refl, arith}
use Rattle.std.proofs.lemmas.Bool.{eq-eqb, ne_eqb, eqb-true, eqb-false, ltb-true, lt-ltb, and_parts, and_from, not-true, not_from_false}
use Rattle.journal.specs.declared.piece.Piece.{Piece}
use Rattle.journal.specs.declared.piece.Source.{Source}
use Rattle.journal.specs.declared.piece.Source.TheVariants.{Kept, Entered}
use Rattle.journal.specs.Pieces.{piece, same, joins, none_empty, none_joins}

abbrev pub Joins : Piece → Piece → Type 0
Joins p q = (p.source ≡ q.source) × (p.first + p.count ≡ q.first)

abbrev pub Apart : Piece → List Piece → Type 0
Apart p [] = Unit {0}
Apart p (q ∷ qs) = Joins p q → ⊥

-- no count is zero, and no two neighbours could be one piece
abbrev pub Joined : List Piece → Type 0
Joined [] = Unit {0}
Joined (p ∷ ps) = (0 < p.count) × Apart p ps × Joined ps

pub joins_meet : (s : Source) (a b : ℕ) → a ≡ b → (same s s && eqb a b) ≡ true
joins_meet Kept a b e = eq-eqb a b e
joins_meet Entered a b e = eq-eqb a b e

pub joins_true : (s t : Source) (a b : ℕ) → (same s t && eqb a b) ≡ true → (s ≡ t) × (a ≡ b)
joins_true Kept Kept a b e = (refl, eqb-true a b e)
joins_true Kept Entered a b e = let z : ◌≡◌ {A = ℕ} 0 1 = cc in absurd (omega arith)
joins_true Entered Kept a b e = let z : ◌≡◌ {A = ℕ} 0 1 = cc in absurd (omega arith)
joins_true Entered Entered a b e = (refl, eqb-true a b e)

pub joins_false : (s t : Source) (a b : ℕ) → (same s t && eqb a b) ≡ false → ((s ≡ t) × (a ≡ b)) → ⊥
joins_false Kept Kept a b e j = eqb-false a b e j.1
joins_false Kept Entered a b e j = let h : Kept ≡ Entered = j.0 in let z : ◌≡◌ {A = ℕ} 0 1 = cc in omega arith
joins_false Entered Kept a b e j = let h : Entered ≡ Kept = j.0 in let z : ◌≡◌ {A = ℕ} 0 1 = cc in omega arith
joins_false Entered Entered a b e j = eqb-false a b e j.1

pub joins_apart : (s t : Source) (a b : ℕ) → (((s ≡ t) × (a ≡ b)) → ⊥) → (same s t && eqb a b) ≡ false
joins_apart Kept Kept a b no' = ne_eqb a b (λ e. no' (refl, e))
joins_apart Kept Entered a b no' = refl
joins_apart Entered Kept a b no' = refl
joins_apart Entered Entered a b no' = ne_eqb a b (λ e. no' (refl, e))

-- the tests of the invariant and what they say
pub joined_fact : (ps : List Piece) → none_empty ps ≡ true → none_joins ps ≡ true → Joined ps
joined_fact [] e j = tt
joined_fact (p ∷ []) e j = let a = and_parts _ _ e in (ltb-true 0 p.count a.0, tt, tt)
joined_fact (p ∷ (q ∷ qs)) e j =
    let a = and_parts _ _ e in
    let b = and_parts _ _ j in (
      ltb-true 0 p.count a.0,
      joins_false p.source q.source (p.first + p.count) q.first (not-true (joins p q) b.0),
      joined_fact (q ∷ qs) a.1 b.1,
    )

pub empty_test : (ps : List Piece) → Joined ps → none_empty ps ≡ true
empty_test [] j = refl
empty_test (p ∷ ps) j = and_from _ _ (lt-ltb 0 p.count j.0) (empty_test ps j.2)

pub joins_test : (ps : List Piece) → Joined ps → none_joins ps ≡ true
joins_test [] j = refl
joins_test (p ∷ []) j = refl
joins_test (p ∷ (q ∷ qs)) j =
    and_from _ _ (not_from_false (joins p q) (joins_apart p.source q.source (p.first + p.count) q.first j.1)) (joins_test (q ∷ qs) j.2)

-- the last piece may change its count
pub joined_last : (qs : List Piece) (s : Source) (a m n : ℕ) → 0 < n → Joined (qs ++ piece s a m ∷ []) → Joined (qs ++ piece s a n ∷ [])
joined_last [] s a m n pos j = (pos, tt, tt)
joined_last (q ∷ []) s a m n pos j = (j.0, j.1, (pos, tt, tt))
joined_last (q ∷ (r ∷ qs)) s a m n pos j = (j.0, j.1, joined_last (r ∷ qs) s a m n pos j.2)

-- one piece more at the end, which the last one does not join
pub joined_push : (qs : List Piece) (l p : Piece) → (Joins l p → ⊥) → 0 < p.count → Joined (qs ++ l ∷ []) → Joined (qs ++ l ∷ [] ++ p ∷ [])
joined_push [] l p no' pos j = (j.0, no', (pos, tt, tt))
joined_push (q ∷ []) l p no' pos j = (j.0, j.1, joined_push [] l p no' pos j.2)
joined_push (q ∷ (r ∷ qs)) l p no' pos j = (j.0, j.1, joined_push (r ∷ qs) l p no' pos j.2)
