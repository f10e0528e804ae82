-- How many pieces origins make, and which: those of joined pieces are these pieces.
use Rattle.std.proofs.Common.{◌≡◌, ℕ, zero, suc, ◌+◌, ◌<◌, ◌≤◌, Bool, true, false, cond, List, [], ◌∷◌, ◌++◌, length, sym, refl, ap, ◌∙◌, subst, zero-le, add-zero, add-suc, suc-add, arith}
use Rattle.std.proofs.lemmas.Bool.{eq-eqb, ne_eqb}
use Rattle.journal.specs.declared.piece.Piece.{Piece}
use Rattle.journal.specs.declared.piece.Source.{Source}
use Rattle.journal.specs.declared.piece.Source.TheVariants.{Kept, Entered}
use Rattle.journal.specs.Machine.{Origin, follows, pieces, pieces_after}
use Rattle.journal.specs.Pieces.{piece, origin, stretch, spread, before, gathered}
use Rattle.journal.proofs.Joins.{Apart, Joined, joins_meet, joins_apart}

abbrev O : Type 0
O = Origin (Unit {0})

after-some : (o : O) (xs : List O) → 1 ≤ pieces_after o xs
after-some o [] = omega arith
after-some o (x ∷ xs) = go (follows o x) (pieces_after x xs) (after-some x xs)
  where
    go : (b : Bool) (n : ℕ) → 1 ≤ n → 1 ≤ cond b n (suc n)
    go true n h = h
    go false n h = omega arith

-- a longer list makes as many pieces or more
after_front : (o : O) (xs ys : List O) → pieces_after o xs ≤ pieces_after o (xs ++ ys)
after_front o [] ys = after-some o ys
after_front o (x ∷ xs) ys = go (follows o x) (pieces_after x xs) (pieces_after x (xs ++ ys)) (after_front x xs ys)
  where
    go : (b : Bool) (m n : ℕ) → m ≤ n → cond b m (suc m) ≤ cond b n (suc n)
    go true m n h = h
    go false m n h = omega arith

pub pieces-front : (xs ys : List O) → pieces xs ≤ pieces (xs ++ ys)
pieces-front [] ys = zero-le
pieces-front (x ∷ xs) ys = after_front x xs ys

-- an origin and the next of its source
follows_next : (s : Source) (a : ℕ) → follows (origin s a) (origin s (suc a)) ≡ true
follows_next Kept a = eq-eqb (suc a) (suc a) refl
follows_next Entered a = eq-eqb (suc a) (suc a) refl

-- no new piece inside a stretch
after-stretch : (s : Source) (a n : ℕ) (rest : List O) → pieces_after (origin s a) (stretch s (suc a) n ++ rest) ≡ pieces_after (origin s (a + n)) rest
after-stretch s a zero rest = rw add-zero refl
after-stretch s a (suc n) rest = rw (follows_next s a, add-suc, ← suc-add) (after-stretch s (suc a) n rest)

follows_apart : (s t : Source) (a b : ℕ) → (((s ≡ t) × (suc a ≡ b)) → ⊥) → follows (origin s a) (origin t b) ≡ false
follows_apart Kept Kept a b no' = ne_eqb (suc a) b (λ e. no' (refl, e))
follows_apart Kept Entered a b no' = refl
follows_apart Entered Kept a b no' = refl
follows_apart Entered Entered a b no' = ne_eqb (suc a) b (λ e. no' (refl, e))

-- a stretch that nothing joins begins a piece
after_apart : (o : O) (t : Source) (b m : ℕ) (rest : List O) → 0 < m → follows o (origin t b) ≡ false
    → pieces_after o (stretch t b m ++ rest) ≡ suc (pieces (stretch t b m ++ rest))
after_apart o t b zero rest pos e = absurd (omega arith)
after_apart o t b (suc m) rest pos e = rw e

after-joined : (s : Source) (a n : ℕ) (ps : List Piece) → Apart (piece s a (suc n)) ps → Joined ps
    → pieces_after (origin s (a + n)) (spread ps) ≡ suc (pieces (spread ps))
after-joined s a n [] apart joined = refl
after-joined s a n (q ∷ qs) apart joined =
    after_apart (origin s (a + n)) q.source q.first q.count (spread qs) joined.0
    (follows_apart s q.source (a + n) q.first (λ e. apart (e.0, add-suc a n ∙ e.1)))

pieces_more : (s : Source) (a m : ℕ) (ps : List Piece) → 0 < m → Apart (piece s a m) ps → Joined ps
    → pieces (stretch s a m ++ spread ps) ≡ suc (pieces (spread ps))
pieces_more s a zero ps pos apart joined = absurd (omega arith)
pieces_more s a (suc n) ps pos apart joined = after-stretch s a n (spread ps) ∙ after-joined s a n ps apart joined

-- joined pieces are as many as their origins make
pub pieces-spread : (ps : List Piece) → Joined ps → pieces (spread ps) ≡ length ps
pieces-spread [] joined = refl
pieces-spread (p ∷ ps) joined =
    pieces_more p.source p.first p.count ps joined.0 joined.1 joined.2
    ∙ ap suc (pieces-spread ps joined.2)

gathered-origin : (s : Source) (a : ℕ) (os : List O) → gathered (origin s a ∷ os) ≡ before s a (gathered os)
gathered-origin Kept a os = refl
gathered-origin Entered a os = refl

before_apart : (s : Source) (a : ℕ) (ps : List Piece) → Apart (piece s a 1) ps → before s a ps ≡ piece s a 1 ∷ ps
before_apart s a [] apart = refl
before_apart s a (q ∷ qs) apart = rw (joins_apart s q.source (a + 1) q.first apart)

before_meet : (s : Source) (a n : ℕ) (ps : List Piece) → before s a (piece s (suc a) n ∷ ps) ≡ piece s a (suc n) ∷ ps
before_meet s a n ps = rw (joins_meet s (a + 1) (suc a) (omega arith))

apart_next : (s : Source) (a n : ℕ) (ps : List Piece) → Apart (piece s a (suc n)) ps → Apart (piece s (suc a) n) ps
apart_next s a n [] apart = tt
apart_next s a n (q ∷ qs) apart = λ e. apart (e.0, omega (arith, e.1))

gathered-stretch : (s : Source) (a n : ℕ) (os : List O) → Apart (piece s a (suc n)) (gathered os)
    → gathered (stretch s a (suc n) ++ os) ≡ piece s a (suc n) ∷ gathered os
gathered-stretch s a zero os apart = gathered-origin s a os ∙ before_apart s a (gathered os) apart
gathered-stretch s a (suc n) os apart =
    gathered-origin s a (stretch s (suc a) (suc n) ++ os)
    ∙ ap (before s a) (gathered-stretch s (suc a) n os (apart_next s a (suc n) (gathered os) apart))
    ∙ before_meet s a (suc n) (gathered os)

gathered_more : (s : Source) (a m : ℕ) (os : List O) → 0 < m → Apart (piece s a m) (gathered os)
    → gathered (stretch s a m ++ os) ≡ piece s a m ∷ gathered os
gathered_more s a zero os pos apart = absurd (omega arith)
gathered_more s a (suc n) os pos apart = gathered-stretch s a n os apart

-- joined pieces are the joined pieces of their origins
pub gathered-spread : (ps : List Piece) → Joined ps → gathered (spread ps) ≡ ps
gathered-spread [] joined = refl
gathered-spread (p ∷ ps) joined =
    let e : gathered (spread ps) ≡ ps = gathered-spread ps joined.2 in
    gathered_more p.source p.first p.count (spread ps) joined.0
    (let P : List Piece → Type 0 = λ qs. Apart p qs in subst P (sym e) joined.1)
    ∙ ap (λ (qs : List Piece). p ∷ qs) e
