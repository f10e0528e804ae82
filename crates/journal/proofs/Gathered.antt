-- The joined pieces of origins: they stand for them, and are as many as the origins make.
use Rattle.std.proofs.Common.{◌≡◌, ℕ, suc, ◌+◌, Bool, true, false, cond, List, [], ◌∷◌, ◌++◌, map, length, sym, refl, ap, ◌∙◌, ap₂, arith}
use lib.ListN.{length-map}
use Rattle.journal.specs.declared.piece.Piece.{Piece}
use Rattle.journal.specs.declared.piece.Source.{Source}
use Rattle.journal.specs.declared.piece.Source.TheVariants.{Kept, Entered}
use Rattle.journal.specs.Machine.{Origin, base, entered, follows, pieces_after, pieces}
use Rattle.journal.specs.Pieces.{piece, origin, stretch, spread, bare, joins, before, gathered, total, length-spread}
use Rattle.journal.proofs.Joins.{Apart, Joined, joins_true, joins_false}
use Rattle.journal.proofs.Counts.{pieces-spread}

abbrev O : Type 0
O = Origin (Unit {0})

apart_longer : (s : Source) (a : ℕ) (q : Piece) (qs : List Piece) → s ≡ q.source → a + 1 ≡ q.first → Apart q qs → Apart (piece s a (suc q.count)) qs
apart_longer s a q [] e f h = tt
apart_longer s a q (r ∷ qs) e f h = λ j. h (sym e ∙ j.0, omega (arith, j.1))

joined-before : (s : Source) (a : ℕ) (ps : List Piece) → Joined ps → Joined (before s a ps)
joined-before s a [] h = (omega arith, tt, tt)
joined-before s a (q ∷ qs) h = go (joins (piece s a 1) q) refl
  where
    go : (b : Bool) → joins (piece s a 1) q ≡ b → Joined (cond b (piece s a (suc q.count) ∷ qs) (piece s a 1 ∷ (q ∷ qs)))
    go true e =
        let j = joins_true s q.source (a + 1) q.first e in
        (omega arith, apart_longer s a q qs j.0 j.1 h.1, h.2)
    go false e = (omega arith, joins_false s q.source (a + 1) q.first e, h)

spread-before : (s : Source) (a : ℕ) (ps : List Piece) → spread (before s a ps) ≡ origin s a ∷ spread ps
spread-before s a [] = refl
spread-before s a (q ∷ qs) = go (joins (piece s a 1) q) refl
  where
    go : (b : Bool) → joins (piece s a 1) q ≡ b → spread (cond b (piece s a (suc q.count) ∷ qs) (piece s a 1 ∷ (q ∷ qs))) ≡ origin s a ∷ spread (q ∷ qs)
    go true e =
        let j = joins_true s q.source (a + 1) q.first e in
        let next : suc a ≡ q.first = omega (arith, j.1) in
        ap (λ (os : List O). origin s a ∷ (os ++ spread qs)) (ap₂ (λ (t : Source) (n : ℕ). stretch t n q.count) j.0 next)
    go false e = refl

module _ {W : Type 0} where
  follows-bare : (o p : Origin W) → follows (bare o) (bare p) ≡ follows o p
  follows-bare (base m) (base n) = refl
  follows-bare (base m) (entered j w) = refl
  follows-bare (entered i v) (base n) = refl
  follows-bare (entered i v) (entered j w) = refl

  after-bare : (o : Origin W) (os : List (Origin W)) → pieces_after (bare o) (map bare os) ≡ pieces_after o os
  after-bare o [] = refl
  after-bare o (p ∷ os) = rw (follows-bare o p, after-bare p os)

  -- no check looks at a word
  pub pieces-bare : (os : List (Origin W)) → pieces (map bare os) ≡ pieces os
  pieces-bare [] = refl
  pieces-bare (o ∷ os) = after-bare o os

  pub joined-gathered : (os : List (Origin W)) → Joined (gathered os)
  joined-gathered [] = tt
  joined-gathered (base m ∷ os) = joined-before Kept m (gathered os) (joined-gathered os)
  joined-gathered (entered k w ∷ os) = joined-before Entered k (gathered os) (joined-gathered os)

  pub spread-gathered : (os : List (Origin W)) → spread (gathered os) ≡ map bare os
  spread-gathered [] = refl
  spread-gathered (base m ∷ os) = spread-before Kept m (gathered os) ∙ ap (λ (r : List O). base m ∷ r) (spread-gathered os)
  spread-gathered (entered k w ∷ os) = spread-before Entered k (gathered os) ∙ ap (λ (r : List O). entered k tt ∷ r) (spread-gathered os)

  pub pieces-gathered : (os : List (Origin W)) → pieces os ≡ length (gathered os)
  pieces-gathered os =
      sym (pieces-bare os) ∙ ap pieces (sym (spread-gathered os)) ∙ pieces-spread (gathered os) (joined-gathered os)

  pub total-gathered : (os : List (Origin W)) → total (gathered os) ≡ length os
  total-gathered os = sym (length-spread (gathered os)) ∙ ap length (spread-gathered os) ∙ length-map os bare
