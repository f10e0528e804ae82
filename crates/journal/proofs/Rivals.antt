-- The fewest pieces that can have some answers: no list of pieces has fewer, and a tidied journal has no more.
use Rattle.std.proofs.Common.{◌≡◌, ℕ, zero, suc, ◌≤◌, Bool, true, false, cond, eqb, List, [], ◌∷◌, ◌++◌, map, length, refl, ap, ◌∙◌, arith}
use mathlib.Core.List.{map-append}
use Rattle.std.proofs.lemmas.Bool.{cond-true, eq-eqb}
use Rattle.journal.specs.declared.piece.Piece.{Piece}
use Rattle.journal.specs.declared.piece.Source.{Source}
use Rattle.journal.specs.declared.piece.Source.TheVariants.{Kept, Entered}
use Rattle.journal.specs.Machine.{Origin, base, entered, Answer, place, word, answer, follows, pieces_after, pieces}
use Rattle.journal.specs.Tidied.{renumbered}
use Rattle.journal.specs.Pieces.{origin, stretch, spread}
use Rattle.journal.specs.Tidiness.{stored}

module _ {W : Type 0} where
  -- answers that one piece can have, one after the other
  abbrev meets : Answer W → Answer W → Bool
  meets (place m) (place n) = eqb (suc m) n
  meets (place m) (word w) = false
  meets (word v) (place n) = false
  meets (word v) (word w) = true

  abbrev least_after : Answer W → List (Answer W) → ℕ
  least_after a [] = 1
  least_after a (b ∷ bs) = cond (meets a b) (least_after b bs) (suc (least_after b bs))

  abbrev pub least : List (Answer W) → ℕ
  least [] = 0
  least (a ∷ bs) = least_after a bs

  least_more : (a : Answer W) (bs : List (Answer W)) → least_after a bs ≤ suc (least bs)
  least_more a [] = omega arith
  least_more a (b ∷ bs) = go (meets a b)
    where
      go : (t : Bool) → cond t (least_after b bs) (suc (least_after b bs)) ≤ suc (least_after b bs)
      go true = omega arith
      go false = omega arith

  module _ (store : ℕ → W) where
    meets-next : (s : Source) (a : ℕ) → meets (stored store (origin s a)) (stored store (origin s (suc a))) ≡ true
    meets-next Kept a = eq-eqb (suc a) (suc a) refl
    meets-next Entered a = refl

    least-stretch : (s : Source) (a n : ℕ) (rest : List (Answer W)) →
        least_after (stored store (origin s a)) (map (stored store) (stretch s (suc a) n) ++ rest) ≤ suc (least rest)
    least-stretch s a zero rest = least_more (stored store (origin s a)) rest
    least-stretch s a (suc n) rest = rw (meets-next s a) (least-stretch s (suc a) n rest)

    least-piece : (s : Source) (a n : ℕ) (rest : List (Answer W)) → least (map (stored store) (stretch s a n) ++ rest) ≤ suc (least rest)
    least-piece s a zero rest = omega arith
    least-piece s a (suc n) rest = least-stretch s a n rest

    pub least-spread : (ps : List Piece) → least (map (stored store) (spread ps)) ≤ length ps
    least-spread [] = omega arith
    least-spread (p ∷ ps) =
        omega (
          arith,
          ap least (map-append (stored store) (stretch p.source p.first p.count) (spread ps)),
          least-piece p.source p.first p.count (map (stored store) (spread ps)),
          least-spread ps,
        )

  -- words numbered in order lie in one piece where they stand in a row
  least_after_lem : (a : Answer W) (xs : List (Answer W)) (k : ℕ) → pieces (renumbered k (a ∷ xs)) ≡ least_after a xs
  least_after_lem (place m) [] k = refl
  least_after_lem (place m) (place n ∷ xs) k = ap (λ (c : ℕ). cond (eqb (suc m) n) c (suc c)) (least_after_lem (place n) xs k)
  least_after_lem (place m) (word w ∷ xs) k = ap suc (least_after_lem (word w) xs k)
  least_after_lem (word v) [] k = refl
  least_after_lem (word v) (place n ∷ xs) k = ap suc (least_after_lem (place n) xs (suc k))
  least_after_lem (word v) (word w ∷ xs) k = cond-true (eqb (suc k) (suc k)) _ _ (eq-eqb (suc k) (suc k) refl) ∙ least_after_lem (word w) xs (suc k)

  pub pieces-renumbered : (xs : List (Answer W)) (k : ℕ) → pieces (renumbered k xs) ≡ least xs
  pieces-renumbered [] k = refl
  pieces-renumbered (a ∷ xs) k = least_after_lem a xs k

  follows-meets : (o p : Origin W) → follows o p ≡ true → meets (answer o) (answer p) ≡ true
  follows-meets (base m) (base n) h = h
  follows-meets (base m) (entered j w) h = h
  follows-meets (entered i v) (base n) h = h
  follows-meets (entered i v) (entered j w) h = refl

  least-follows : (os : List (Origin W)) (o : Origin W) → least_after (answer o) (map answer os) ≤ pieces_after o os
  least-follows [] o = omega arith
  least-follows (p ∷ os) o =
      go (meets (answer o) (answer p)) (follows o p) (least_after (answer p) (map answer os)) (pieces_after p os) (follows-meets o p) (least-follows os p)
    where
      go : (b d : Bool) (m n : ℕ) → (d ≡ true → b ≡ true) → m ≤ n → cond b m (suc m) ≤ cond d n (suc n)
      go true true m n f h = h
      go true false m n f h = omega arith
      go false true m n f h = let e = f refl in let z : ◌≡◌ {A = ℕ} 0 1 = cc in absurd (omega arith)
      go false false m n f h = omega arith

  pub least-pieces : (os : List (Origin W)) → least (map answer os) ≤ pieces os
  least-pieces [] = omega arith
  least-pieces (o ∷ os) = least-follows os o
