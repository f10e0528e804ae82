-- Parts of origins: of a stretch, of pieces in turn, and the three parts of a correction.
use Rattle.std.proofs.Common.{◌≡◌, ℕ, zero, suc, ◌+◌, ◌-◌, ◌<◌, ◌≤◌, min, true, List, [], ◌∷◌, ◌++◌, length, get_or, take, drop, sym, refl, ap, ◌∙◌, subst, ⊎_elim, arith, length-append, length-drop, length-take}
use lib.Seq.{drop-nil, take-nil}
use Rattle.std.proofs.lemmas.List.{append_assoc}
use Rattle.std.proofs.lemmas.Bool.{cases_lt, and_parts, leb-true}
use Rattle.series.specs.Lists.{spliced}
use Rattle.journal.specs.declared.piece.Piece.{Piece}
use Rattle.journal.specs.declared.piece.Source.{Source}
use Rattle.journal.specs.declared.piece.Source.TheVariants.{Entered}
use Rattle.journal.specs.Machine.{Origin, pieces}
use Rattle.journal.specs.Pieces.{origin, stretch, spread, part, within, length-stretch}
use Rattle.journal.proofs.Spreads.{spread_more, spread_split}
use Rattle.journal.proofs.Counts.{pieces-front}

abbrev Os : Type 0
Os = List (Origin (Unit {0}))

module _ {A : Type 0} where
  take-append : (n : ℕ) (xs ys : List A) → take n (xs ++ ys) ≡ take n xs ++ take (n - length xs) ys
  take-append zero [] ys = refl
  take-append (suc n) [] ys = ap (λ (i : ℕ). take i ys) (let e : suc n ≡ suc n - 0 = omega arith in e)
  take-append zero (x ∷ xs) ys = ap (λ (i : ℕ). take i ys) (let e : 0 ≡ 0 - suc (length xs) = omega arith in e)
  take-append (suc n) (x ∷ xs) ys =
      ap (λ (zs : List A). x ∷ zs) (take-append n xs ys
      ∙ ap (λ (i : ℕ). take n xs ++ take i ys) (let e : n - length xs ≡ suc n - suc (length xs) = omega arith in e))

  drop-append : (n : ℕ) (xs ys : List A) → drop n (xs ++ ys) ≡ drop n xs ++ drop (n - length xs) ys
  drop-append zero [] ys = refl
  drop-append (suc n) [] ys = ap (λ (i : ℕ). drop i ys) (let e : suc n ≡ suc n - 0 = omega arith in e)
  drop-append zero (x ∷ xs) ys = ap (λ (i : ℕ). x ∷ (xs ++ drop i ys)) (let e : 0 ≡ 0 - suc (length xs) = omega arith in e)
  drop-append (suc n) (x ∷ xs) ys =
      drop-append n xs ys
      ∙ ap (λ (i : ℕ). drop n xs ++ drop i ys) (let e : n - length xs ≡ suc n - suc (length xs) = omega arith in e)

-- a part of two lists in turn
part-append : (a b : ℕ) (xs ys : Os) → part a b (xs ++ ys) ≡ part a b xs ++ part (a - length xs) (b - length xs) ys
part-append a b xs ys =
    ap (drop a) (take-append b xs ys)
    ∙ drop-append a (take b xs) (take (b - length xs) ys)
    ∙ ap (λ (zs : Os). drop a (take b xs) ++ zs)
    (⊎_elim
    (λ lt. ap (λ (i : ℕ). drop (a - length (take b xs)) (take i ys)) (let e : b - length xs ≡ 0 = omega (arith, lt) in e)
    ∙ drop-nil (a - length (take b xs)) ∙ sym (drop-nil (a - length xs))
    ∙ ap (λ (i : ℕ). drop (a - length xs) (take i ys)) (let e : 0 ≡ b - length xs = omega (arith, lt) in e))
    (λ le. ap (λ (i : ℕ). drop (a - i) (take (b - length xs) ys)) (length-take b xs ∙ (let e : min b (length xs) ≡ length xs = omega (arith, le) in e)))
    (cases_lt b (length xs)))

take-stretch : (s : Source) (f n b : ℕ) → take b (stretch s f n) ≡ stretch s f (min b n)
take-stretch s f zero b = take-nil b ∙ ap (stretch s f) (let e : 0 ≡ min b 0 = omega arith in e)
take-stretch s f (suc n) zero = ap (stretch s f) (let e : 0 ≡ min 0 (suc n) = omega arith in e)
take-stretch s f (suc n) (suc b) =
    ap (λ (x : Os). origin s f ∷ x) (take-stretch s (suc f) n b)
    ∙ ap (stretch s f) (let e : suc (min b n) ≡ min (suc b) (suc n) = omega arith in e)

drop-stretch : (s : Source) (f n a : ℕ) → drop a (stretch s f n) ≡ stretch s (f + min a n) (n - min a n)
drop-stretch s f zero a = drop-nil a ∙ ap (stretch s (f + min a 0)) (let e : 0 ≡ 0 - min a 0 = omega arith in e)
drop-stretch s f (suc n) zero =
    ap (λ (i : ℕ). stretch s i (suc n)) (let e : f ≡ f + min 0 (suc n) = omega arith in e)
    ∙ ap (stretch s (f + min 0 (suc n))) (let e : suc n ≡ suc n - min 0 (suc n) = omega arith in e)
drop-stretch s f (suc n) (suc a) =
    drop-stretch s (suc f) n a
    ∙ ap (λ (i : ℕ). stretch s i (n - min a n)) (let e : suc f + min a n ≡ f + min (suc a) (suc n) = omega arith in e)
    ∙ ap (stretch s (f + min (suc a) (suc n))) (let e : n - min a n ≡ suc n - min (suc a) (suc n) = omega arith in e)

-- up to `to`, from `from` on
pub part-stretch : (s : Source) (f n a b : ℕ)
    → (let to : ℕ = min b n in let from : ℕ = min a to in stretch s (f + from) (to - from) ≡ part a b (stretch s f n))
part-stretch s f n a b = sym (ap (drop a) (take-stretch s f n b) ∙ drop-stretch s f (min b n) a)

pub length_part : (a b : ℕ) (os : Os) → length (part a b os) ≤ b - a
length_part a b os = omega (arith, length-drop a (take b os), length-take b os)

-- the piece at a place ends where all do
pub within-at : (m : ℕ) (xs : List Piece) (k : ℕ) (d : Piece) → k < length xs → within m xs ≡ true → (get_or xs k d).first + (get_or xs k d).count ≤ m
within-at m [] k d lt w = absurd (omega arith)
within-at m (x ∷ xs) zero d lt w = leb-true (x.first + x.count) m (and_parts _ _ w).0
within-at m (x ∷ xs) (suc k) d lt w = within-at m xs k d (omega arith) (and_parts _ _ w).1

-- a part of one piece more
part_more : (a b : ℕ) (xs : List Piece) (k : ℕ) (d : Piece) → k < length xs
    → part a b (spread (take (k + 1) xs))
    ≡ part a b (spread (take k xs)) ++ part (a - length (spread (take k xs))) (b - length (spread (take k xs)))
    (stretch (get_or xs k d).source (get_or xs k d).first (get_or xs k d).count)
part_more a b xs k d lt =
    ap (part a b) (spread_more xs k d lt)
    ∙ part-append a b (spread (take k xs)) (stretch (get_or xs k d).source (get_or xs k d).first (get_or xs k d).count)

-- a part of what the first pieces give, and of what the others give
pub part_split : (a b : ℕ) (xs : List Piece) (k : ℕ)
    → part a b (spread xs) ≡ part a b (spread (take k xs)) ++ part (a - length (spread (take k xs))) (b - length (spread (take k xs))) (spread (drop k xs))
part_split a b xs k = ap (part a b) (spread_split xs k) ∙ part-append a b (spread (take k xs)) (spread (drop k xs))

-- what the first pieces give makes no more pieces than what all give
pub pieces_fewer : (a b : ℕ) (front : Os) (xs : List Piece) (k : ℕ)
    → pieces (front ++ part a b (spread (take k xs))) ≤ pieces (front ++ part a b (spread xs))
pieces_fewer a b front xs k =
    let rest : Os = part (a - length (spread (take k xs))) (b - length (spread (take k xs))) (spread (drop k xs)) in
    let e : front ++ part a b (spread xs) ≡ (front ++ part a b (spread (take k xs))) ++ rest
    = ap (λ (os : Os). front ++ os) (part_split a b xs k) ∙ sym (append_assoc front (part a b (spread (take k xs))) rest) in
    subst (λ (os : Os). pieces (front ++ part a b (spread (take k xs))) ≤ pieces os) (sym e) (pieces-front (front ++ part a b (spread (take k xs))) rest)

-- a turn of the loop that appends the part from `a` up to `b`
pub step : (front before cut : Os) (a b at : ℕ) (xs : List Piece) (k : ℕ) (d : Piece) → k < length xs
    → at ≡ length (spread (take k xs))
    → before ≡ front ++ part a b (spread (take k xs))
    → cut ≡ part (a - at) (b - at) (stretch (get_or xs k d).source (get_or xs k d).first (get_or xs k d).count)
    → before ++ cut ≡ front ++ part a b (spread (take (k + 1) xs))
step front before cut a b at xs k d lt e₁ e₂ e₃ =
    let S : Os = stretch (get_or xs k d).source (get_or xs k d).first (get_or xs k d).count in
    let P : Os = part a b (spread (take k xs)) in
    ap (λ (x : Os). x ++ cut) e₂
    ∙ ap (λ (x : Os). (front ++ P) ++ x) e₃
    ∙ ap (λ (i : ℕ). (front ++ P) ++ part (a - i) (b - i) S) e₁
    ∙ append_assoc front P (part (a - length (spread (take k xs))) (b - length (spread (take k xs))) S)
    ∙ ap (λ (x : Os). front ++ x) (sym (part_more a b xs k d lt))

-- and stays short
pub step_short : (front before : Os) (s : Source) (f n : ℕ) (a b : ℕ) (os : Os)
    → before ++ stretch s f n ≡ front ++ part a b os → length front + (b - a) ≤ 1048576 → length before + n ≤ 1048576
step_short front before s f n a b os e h =
    omega (arith, ap length e, length-append before (stretch s f n), length-append front (part a b os), length-stretch s f n, length_part a b os)

-- a correction's origins, part after part: o₀ is nothing, o₁ the part before, o₂ that and the entered piece
module _ (os all o₀ : Os) (is : all ≡ os) (none : o₀ ≡ []) (p s n f : ℕ) where
  edit_first : o₀ ++ part 0 p all ≡ take p os
  edit_first = rw (none, is)

  pub pieces_first : 256 < pieces (o₀ ++ part 0 p all) → 256 < pieces (spliced p s (stretch Entered f n) os)
  pieces_first h = omega (arith, ap pieces edit_first, pieces-front (take p os) (stretch Entered f n ++ drop (p + s) os))

  module _ (o₁ : Os) (first : o₁ ≡ o₀ ++ part 0 p all) where
    edit_second : (o₁ ++ stretch Entered f n) ++ drop (p + s) os ≡ spliced p s (stretch Entered f n) os
    edit_second =
        append_assoc o₁ (stretch Entered f n) (drop (p + s) os)
        ∙ ap (λ (x : Os). x ++ (stretch Entered f n ++ drop (p + s) os)) (first ∙ edit_first)

    pub pieces_second : 256 < pieces (o₁ ++ stretch Entered f n) → 256 < pieces (spliced p s (stretch Entered f n) os)
    pieces_second h = omega (arith, ap pieces edit_second, pieces-front (o₁ ++ stretch Entered f n) (drop (p + s) os))

    pub length_second : (o₂ : Os) → o₂ ≡ o₁ ++ stretch Entered f n → p ≤ length os → length o₂ ≡ p + n
    length_second o₂ second h =
        let min-p : min p (length os) ≡ p = omega arith in
        ap length (second ∙ ap (λ (x : Os). x ++ stretch Entered f n) (first ∙ edit_first))
        ∙ length-append (take p os) (stretch Entered f n)
        ∙ ap (λ (i : ℕ). i + length (stretch Entered f n)) (length-take p os ∙ min-p)
        ∙ ap (λ (i : ℕ). p + i) (length-stretch Entered f n)
