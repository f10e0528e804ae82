-- The array of a table when a piece is appended: joined to the last one in use, put after it, or one too many.
use Rattle.std.proofs.Common.{◌≡◌, ℕ, ◌+◌, ◌-◌, ◌<◌, ◌≤◌, true, false, ◌⊎◌, List, [], ◌∷◌, ◌++◌, length, get_or, take, set, sym, ap, ◌∙◌, subst, inl, inr, arith}
use Rattle.std.proofs.lemmas.List.{take_more, take_more_set, length_push, length-take-le}
use Rattle.journal.specs.declared.piece.Piece.{Piece}
use Rattle.journal.specs.declared.piece.Source.{Source}
use Rattle.journal.specs.Machine.{Origin, pieces}
use Rattle.journal.specs.Pieces.{piece, stretch, spread, joins, none_empty, none_joins}
use Rattle.journal.proofs.Joins.{Joined, joins_true, joins_false, joined_fact, empty_test, joins_test, joined_last, joined_push}
use Rattle.journal.proofs.Spreads.{spread_push, grown-spread, length_more}
use Rattle.journal.proofs.Counts.{pieces-spread}

-- what a list of pieces is to be: joined, and standing for these origins
abbrev pub Stands : List Piece → List (Origin (Unit {0})) → Type 0
Stands ps os = (none_empty ps ≡ true) × (none_joins ps ≡ true) × (spread ps ≡ os)

stands : (ps : List Piece) (os : List (Origin (Unit {0}))) → Joined ps → spread ps ≡ os → Stands ps os
stands ps os j e = (empty_test ps j, joins_test ps j, e)

-- a piece that the last one in use does not join, where there is a last one
abbrev pub Alone : List Piece → ℕ → Piece → Piece → Type 0
Alone xs n d p = (n ≡ 0) ⊎ ((0 < n) × (joins (get_or xs (n - 1) d) p ≡ false))

last : (xs : List Piece) (n : ℕ) (d : Piece) → 0 < n → n ≤ length xs → take n xs ≡ take (n - 1) xs ++ get_or xs (n - 1) d ∷ []
last xs n d gt le =
    let e : n - 1 + 1 ≡ n = omega arith in
    subst (λ (i : ℕ). take i xs ≡ take (n - 1) xs ++ get_or xs (n - 1) d ∷ []) e (take_more xs (n - 1) d (omega arith))

-- the last piece is no longer than all
pub last_short : (xs : List Piece) (n : ℕ) (d : Piece) → 0 < n → n ≤ length xs → (get_or xs (n - 1) d).count ≤ length (spread (take n xs))
last_short xs n d gt le =
    let e : n - 1 + 1 ≡ n = omega arith in
    let more = length_more xs (n - 1) d (omega arith) in
    subst (λ (i : ℕ). (get_or xs (n - 1) d).count ≤ length (spread (take i xs))) e (omega arith)

-- the array xs, of which n pieces are in use, and a piece p to append
module _ (xs : List Piece) (n : ℕ) (d p : Piece) (pos : 0 < p.count)
    (full : none_empty (take n xs) ≡ true) (apart : none_joins (take n xs) ≡ true) where
  joined : Joined (take n xs)
  joined = joined_fact (take n xs) full apart

  -- the last piece is made longer
  pub lengthened : 0 < n → n ≤ length xs → joins (get_or xs (n - 1) d) p ≡ true
      → Stands (take n (set xs (n - 1) (piece (get_or xs (n - 1) d).source (get_or xs (n - 1) d).first ((get_or xs (n - 1) d).count + p.count))))
      (spread (take n xs) ++ stretch p.source p.first p.count)
  lengthened gt le j =
      let k : ℕ = n - 1 in
      let l : Piece = get_or xs k d in
      let l' : Piece = piece l.source l.first (l.count + p.count) in
      let e : k + 1 ≡ n = omega arith in
      let was : take n xs ≡ take k xs ++ l ∷ [] = last xs n d gt le in
      let after : take n (set xs k l') ≡ take k xs ++ l' ∷ [] = subst (λ (i : ℕ). take i (set xs k l') ≡ take k xs ++ l' ∷ []) e (take_more_set xs k l' (omega arith)) in
      let m : (l.source ≡ p.source) × (l.first + l.count ≡ p.first) = joins_true l.source p.source (l.first + l.count) p.first j in
      let joined' : Joined (take k xs ++ l ∷ []) = subst Joined was joined in
      stands _ _ (subst Joined (sym after) (joined_last (take k xs) l.source l.first l.count (l.count + p.count) (omega arith) joined')) (
      ap spread after ∙ grown-spread (take k xs) l.source l.first l.count p.count
      ∙ ap (λ (x : List (Origin (Unit {0}))). x ++ stretch l.source (l.first + l.count) p.count) (ap spread (sym was))
      ∙ ap (λ (s : Source). spread (take n xs) ++ stretch s (l.first + l.count) p.count) m.0
      ∙ ap (λ (a : ℕ). spread (take n xs) ++ stretch p.source a p.count) m.1
      )

  alone_joined : n ≤ length xs → Alone xs n d p → Joined (take n xs ++ p ∷ [])
  alone_joined le (inl z) = rw z (pos, tt, tt)
  alone_joined le (inr h) =
      let l : Piece = get_or xs (n - 1) d in
      let was : take n xs ≡ take (n - 1) xs ++ l ∷ [] = last xs n d h.0 le in
      subst (λ (ps : List Piece). Joined (ps ++ p ∷ [])) (sym was)
      (joined_push (take (n - 1) xs) l p (joins_false l.source p.source (l.first + l.count) p.first h.1) pos (subst Joined was joined))

  -- the piece is put after the last one
  pub appended : n < length xs → Alone xs n d p → Stands (take (n + 1) (set xs n p)) (spread (take n xs) ++ stretch p.source p.first p.count)
  appended lt alone =
      let e : take (n + 1) (set xs n p) ≡ take n xs ++ p ∷ [] = take_more_set xs n p lt in
      stands _ _ (subst Joined (sym e) (alone_joined (omega arith) alone)) (ap spread e ∙ spread_push (take n xs) p)

  -- the piece is one too many
  pub overfull : n ≤ length xs → Alone xs n d p → pieces (spread (take n xs) ++ stretch p.source p.first p.count) ≡ n + 1
  overfull le alone =
      ap pieces (sym (spread_push (take n xs) p))
      ∙ pieces-spread (take n xs ++ p ∷ []) (alone_joined le alone)
      ∙ length_push (take n xs) p
      ∙ ap (λ (i : ℕ). i + 1) (length-take-le n xs le)
