-- Origins with their words filled in: as many pieces, the same pieces, and corrected alike.
use Rattle.std.proofs.Common.{◌≡◌, ℕ, zero, suc, ◌+◌, ◌<◌, ◌≤◌, List, [], ◌∷◌, ◌++◌, map, length, get_or, take, drop, Ok, sym, refl, ap, ◌∙◌, arith, drop-cons}
use Rattle.std.proofs.lemmas.List.{append_assoc, map-append, take-map, drop-map, get_or_at, get_or_append_left, length_push}
use Rattle.series.specs.Lists.{nth, spliced, up_from}
use Rattle.journal.specs.declared.piece.Source.TheVariants.{Kept, Entered}
use Rattle.journal.specs.Machine.{Origin, base, entered, numbered, pieces}
use Rattle.journal.specs.Pieces.{stretch, bare, before, gathered}
use Rattle.journal.specs.Journals.{filled}
use Rattle.journal.proofs.Places.{Well}
use Rattle.journal.proofs.Gathered.{pieces-bare}

abbrev O : Type 0
O = Origin (Unit {0})

-- what is left without the words again
bare-filled : (ws : List ℕ) (os : List O) → map bare (map (filled ws) os) ≡ os
bare-filled ws [] = refl
bare-filled ws (base m ∷ os) = ap (λ (ps : List O). base m ∷ ps) (bare-filled ws os)
bare-filled ws (entered k w ∷ os) = ap (λ (ps : List O). entered k tt ∷ ps) (bare-filled ws os)

pub pieces-filled : (ws : List ℕ) (os : List O) → pieces (map (filled ws) os) ≡ pieces os
pieces-filled ws os = sym (pieces-bare (map (filled ws) os)) ∙ ap pieces (bare-filled ws os)

pub gathered-filled : (ws : List ℕ) (os : List O) → gathered (map (filled ws) os) ≡ gathered os
gathered-filled ws [] = refl
gathered-filled ws (base m ∷ os) = ap (before Kept m) (gathered-filled ws os)
gathered-filled ws (entered k w ∷ os) = ap (before Entered k) (gathered-filled ws os)

pub map-spliced : {A B : Type 0} (f : A → B) (p s : ℕ) (new old : List A) → map f (spliced p s new old) ≡ spliced p s (map f new) (map f old)
map-spliced f p s new old =
    map-append f (take p old) (new ++ drop (p + s) old)
    ∙ ap (λ xs. map f (take p old) ++ xs) (map-append f new (drop (p + s) old))
    ∙ ap (λ xs. xs ++ (map f new ++ map f (drop (p + s) old))) (sym (take-map f p old))
    ∙ ap (λ xs. take p (map f old) ++ (map f new ++ xs)) (sym (drop-map f (p + s) old))

-- base places have no words
pub filled-base : (ws : List ℕ) (a n : ℕ) → map (filled ws) (stretch Kept a n) ≡ map base (up_from a n)
filled-base ws a zero = refl
filled-base ws a (suc n) = ap (λ (xs : List (Origin ℕ)). base a ∷ xs) (filled-base ws (suc a) n)

-- words at the end fill the origins numbered from there on
filled-numbered : (front more all : List ℕ) (k : ℕ) → length front ≡ k → all ≡ front ++ more → map (filled all) (stretch Entered k (length more)) ≡ numbered k more
filled-numbered front [] all k n e = refl
filled-numbered front (w ∷ more) all k n e =
    let here : get_or all k 0 ≡ w = ap (λ (xs : List ℕ). get_or xs k 0) e ∙ get_or_at front w more 0 k n in
    let rest : map (filled all) (stretch Entered (suc k) (length more)) ≡ numbered (suc k) more =
    filled-numbered (front ++ w ∷ []) more all (suc k) (omega (arith, length_push front w)) (e ∙ sym (append_assoc front (w ∷ []) more)) in
    ap (λ (x : ℕ). entered k x ∷ map (filled all) (stretch Entered (suc k) (length more))) here ∙ ap (λ (xs : List (Origin ℕ)). entered k w ∷ xs) rest

-- words from a number on fill the origins numbered from there on
pub filled-entered : (ws : List ℕ) (a n : ℕ) → a + n ≤ length ws → numbered a (take n (drop a ws)) ≡ map (filled ws) (stretch Entered a n)
filled-entered ws a zero h = refl
filled-entered ws a (suc n) h =
    ap (λ (vs : List ℕ). numbered a (take (suc n) vs)) (drop-cons ws a 0 (omega arith))
    ∙ ap (λ (os : List (Origin ℕ)). entered a (get_or ws a 0) ∷ os) (filled-entered ws (suc a) n (omega arith))

-- words at the end do not change what was filled in before
filled-append : (ws more : List ℕ) (f b u : ℕ) (os : List O) → u ≤ length ws → Well f b u os → map (filled (ws ++ more)) os ≡ map (filled ws) os
filled-append ws more f b u [] le w = refl
filled-append ws more f b u (base m ∷ os) le w = ap (λ (xs : List (Origin ℕ)). base m ∷ xs) (filled-append ws more (suc m) b u os le w.1)
filled-append ws more f b u (entered k t ∷ os) le w =
    let here : get_or (ws ++ more) k 0 ≡ get_or ws k 0 = get_or_append_left ws more 0 k (omega (arith, w.0)) in
    ap (λ (x : ℕ). entered k x ∷ map (filled (ws ++ more)) os) here
    ∙ ap (λ (xs : List (Origin ℕ)). entered k (get_or ws k 0) ∷ xs) (filled-append ws more f b u os le w.1)

-- a correction's origins, with its words filled in
pub filled-spliced : (ws more : List ℕ) (b p s : ℕ) (os : List O) → Well 0 b (length ws) os
    → map (filled (ws ++ more)) (spliced p s (stretch Entered (length ws) (length more)) os) ≡ spliced p s (numbered (length ws) more) (map (filled ws) os)
filled-spliced ws more b p s os w =
    map-spliced (filled (ws ++ more)) p s (stretch Entered (length ws) (length more)) os
    ∙ ap (λ (xs : List (Origin ℕ)). spliced p s xs (map (filled (ws ++ more)) os)) (filled-numbered ws more (ws ++ more) (length ws) refl refl)
    ∙ ap (spliced p s (numbered (length ws) more)) (filled-append ws more 0 b (length ws) os (omega arith) w)

-- a word that an origin names is in use
pub well_nth : (f b u : ℕ) (os : List O) (i k : ℕ) → Well f b u os → nth os i ≡ Ok (entered k tt) → k < u
well_nth f b u [] i k w e = let z : ◌≡◌ {A = ℕ} 0 1 = cc in absurd (omega arith)
well_nth f b u (base m ∷ os) zero k w e = let z : ◌≡◌ {A = ℕ} 0 1 = cc in absurd (omega arith)
well_nth f b u (base m ∷ os) (suc i) k w e = well_nth (suc m) b u os i k w.1 e
well_nth f b u (entered j t ∷ os) zero k w e = let same : j ≡ k = cc in omega (arith, w.0)
well_nth f b u (entered j t ∷ os) (suc i) k w e = well_nth f b u os i k w.1 e
