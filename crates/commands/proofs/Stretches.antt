-- Bytes one after another: plain ones, those before a comment, separators and fields.
-- gap: how many separators stand at the front.
-- stretch: how many bytes stand before the first separator.
use Rattle.std.proofs.Common.{◌≡◌, ℕ, suc, ◌+◌, ◌<◌, ◌≤◌, Bool, true, false, not, cond, ◌&&◌, eqb, ◌⊎◌, List, [], ◌∷◌, length, take, drop, position, Some, None, Option, sym, refl, ap, ◌∙◌, subst, inl, inr, arith, length-drop}
use Rattle.std.specs.Option.{unwrap_or}
use Rattle.std.specs.List.{list_all, position_or_len}
use Rattle.std.proofs.lemmas.List.{take_all, drop_all}
use Rattle.std.proofs.lemmas.List.Recursion.{same_from_clauses}
use Rattle.std.proofs.lemmas.List.Sums.{prefix_len-le-length}
use Rattle.std.proofs.lemmas.Bool.{cond-true, cond-false}
use Rattle.std.proofs.lemmas.Bool.Decides.{nat_tests}
use Rattle.commands.specs.Fields.{Field, separates, plain, all_plain, uncommented, longer, before, fields}

pub all_plain_is : (bs : List ℕ) → list_all plain bs ≡ all_plain bs
all_plain_is bs = same_from_clauses (list_all plain) all_plain (λ b all. plain b && all) refl (λ b bs. refl) (λ b bs. refl) bs

-- the first that passes
pub found : (p : ℕ → Bool) (bs : List ℕ) (i : ℕ) → Some i ≡ position p bs → (i ≡ position_or_len p bs) × (i < length bs)
found p bs i e = (grind (arith, nat_tests), grind (arith, nat_tests))

pub not_found : (p : ℕ → Bool) (bs : List ℕ) → None ≡ position p bs → length bs ≤ position_or_len p bs
not_found p bs e = grind (arith, nat_tests)

place_or_end : (p : ℕ → Bool) (bs : List ℕ) → unwrap_or (position p bs) (length bs) ≡ position_or_len p bs
place_or_end p bs = let h : position_or_len p bs ≤ length bs = prefix_len-le-length (λ b. not (p b)) bs in grind (arith, nat_tests)

pub end_at : (p : ℕ → Bool) (bs : List ℕ) (o : Option ℕ) (n : ℕ) → o ≡ position p bs → n ≡ unwrap_or o (length bs) → n ≡ position_or_len p bs
end_at p bs o n e h = h ∙ ap (λ (q : Option ℕ). unwrap_or q (length bs)) e ∙ place_or_end p bs

-- what stands before a comment
uncommented-is : (bs : List ℕ) → take (position_or_len (λ b. eqb b 35) bs) bs ≡ uncommented bs
uncommented-is [] = refl
uncommented-is (b ∷ bs) =
    let n : ℕ = position_or_len (λ (c : ℕ). eqb c 35) bs in
    let one : 1 + n ≡ suc n = omega arith in
    elim (eqb b 35) as (λ t. take (cond (not t) (1 + n) 0) (b ∷ bs) ≡ cond t [] (b ∷ uncommented bs)) [
      | true ↦ refl
      | false ↦ ap (λ (k : ℕ). take k (b ∷ bs)) one ∙ ap (λ (cs : List ℕ). b ∷ cs) (uncommented-is bs)
    ]

pub to_comment : (bs : List ℕ) (i : ℕ) → Some i ≡ position (λ b. eqb b 35) bs → take i bs ≡ uncommented bs
to_comment bs i e = ap (λ (k : ℕ). take k bs) (found (λ b. eqb b 35) bs i e).0 ∙ uncommented-is bs

pub no_comment : (bs : List ℕ) → None ≡ position (λ b. eqb b 35) bs → bs ≡ uncommented bs
no_comment bs e = sym (take_all (position_or_len (λ b. eqb b 35) bs) bs (not_found (λ b. eqb b 35) bs e)) ∙ uncommented-is bs

abbrev gap : List ℕ → ℕ
gap [] = 0
gap (b ∷ bs) = cond (separates b) (suc (gap bs)) 0

abbrev stretch : List ℕ → ℕ
stretch [] = 0
stretch (b ∷ bs) = cond (separates b) 0 (suc (stretch bs))

gap-is : (bs : List ℕ) → position_or_len (λ b. not (separates b)) bs ≡ gap bs
gap-is [] = refl
gap-is (b ∷ bs) =
    elim (separates b) as (λ t. cond (not (not t)) (1 + (position_or_len (λ c. not (separates c)) bs)) 0 ≡ cond t (suc (gap bs)) 0) [
      | true ↦ omega (arith, gap-is bs)
      | false ↦ refl
    ]

stretch-is : (bs : List ℕ) → position_or_len separates bs ≡ stretch bs
stretch-is [] = refl
stretch-is (b ∷ bs) =
    elim (separates b) as (λ t. cond (not t) (1 + position_or_len separates bs) 0 ≡ cond t 0 (suc (stretch bs))) [
      | true ↦ refl
      | false ↦ omega (arith, stretch-is bs)
    ]

-- separators at the front are no field
gap-fields : (bs : List ℕ) → fields (drop (gap bs) bs) ≡ fields bs
gap-fields [] = refl
gap-fields (b ∷ bs) =
    let go : (t : Bool) → separates b ≡ t → fields (drop (cond t (suc (gap bs)) 0) (b ∷ bs)) ≡ fields (b ∷ bs) =
    λ t. elim t as (λ v. separates b ≡ v → fields (drop (cond v (suc (gap bs)) 0) (b ∷ bs)) ≡ fields (b ∷ bs)) [
      | true ↦ λ e. gap-fields bs ∙ sym (cond-true (separates b) (fields bs) (before b bs (fields bs)) e)
      | false ↦ λ e. refl
    ] in
    go (separates b) refl

-- past them nothing stands, or a byte that is no separator
gap_cases : (bs : List ℕ) → (drop (gap bs) bs ≡ []) ⊎ ((b : ℕ) × (cs : List ℕ) × (drop (gap bs) bs ≡ b ∷ cs) × (separates b ≡ false))
gap_cases [] = inl refl
gap_cases (b ∷ bs) =
    let P : List ℕ → Type 0 = λ xs. (xs ≡ []) ⊎ ((b : ℕ) × (cs : List ℕ) × (xs ≡ b ∷ cs) × (separates b ≡ false)) in
    let go : (t : Bool) → separates b ≡ t → P (drop (cond t (suc (gap bs)) 0) (b ∷ bs)) =
    λ t. elim t as (λ v. separates b ≡ v → P (drop (cond v (suc (gap bs)) 0) (b ∷ bs))) [
      | true ↦ λ e. gap_cases bs
      | false ↦ λ e. inr (b, bs, refl, e)
    ] in
    go (separates b) refl

-- a field, and the fields after it
stretch-fields : (b : ℕ) (bs : List ℕ) → separates b ≡ false → before b bs (fields bs) ≡ (b ∷ take (stretch bs) bs) ∷ fields (drop (stretch bs) bs)
stretch-fields b [] p = refl
stretch-fields b (c ∷ cs) p =
    let P : Bool → List Field → ℕ → Type 0 = λ t fs n. cond t ((b ∷ []) ∷ fs) (longer b fs) ≡ (b ∷ take n (c ∷ cs)) ∷ fields (drop n (c ∷ cs)) in
    let go : (t : Bool) → separates c ≡ t → P t (cond t (fields cs) (before c cs (fields cs))) (cond t 0 (suc (stretch cs))) =
    λ t. elim t as (λ v. separates c ≡ v → P v (cond v (fields cs) (before c cs (fields cs))) (cond v 0 (suc (stretch cs)))) [
      | true ↦ λ e. ap (λ (fs : List Field). (b ∷ []) ∷ fs) (sym (cond-true (separates c) (fields cs) (before c cs (fields cs)) e))
      | false ↦ λ e. ap (longer b) (stretch-fields c cs e)
    ] in
    go (separates c) refl

pub no_field : (bs : List ℕ) → None ≡ position (λ b. not (separates b)) bs → [] ≡ fields bs
no_field bs e =
    let h : length bs ≤ gap bs = omega (arith, not_found (λ b. not (separates b)) bs e, gap-is bs) in
    ap fields (sym (drop_all (gap bs) bs h)) ∙ gap-fields bs

-- from where the first field begins on
at_field : (s : List ℕ) → (s ≡ []) ⊎ ((b : ℕ) × (cs : List ℕ) × (s ≡ b ∷ cs) × (separates b ≡ false)) → 0 < length s →
    take (stretch s) s ∷ fields (drop (stretch s) s) ≡ fields s
at_field s (inl e) h = absurd (omega (arith, ap length e))
at_field s (inr (b, cs, e, p)) h =
    let n : stretch (b ∷ cs) ≡ suc (stretch cs) = cond-false (separates b) 0 (suc (stretch cs)) p in
    let f : fields (b ∷ cs) ≡ (b ∷ take (stretch cs) cs) ∷ fields (drop (stretch cs) cs) = cond-false (separates b) (fields cs) (before b cs (fields cs)) p ∙ stretch-fields b cs p in
    rw e (ap (λ (k : ℕ). take k (b ∷ cs) ∷ fields (drop k (b ∷ cs))) n ∙ sym f)

pub first_field : (bs s : List ℕ) (i k : ℕ) → Some i ≡ position (λ b. not (separates b)) bs → s ≡ drop i bs → k ≡ position_or_len separates s →
    take k s ∷ fields (drop k s) ≡ fields bs
first_field bs s i k e is ends =
    let at = found (λ b. not (separates b)) bs i e in
    let d : s ≡ drop (gap bs) bs = is ∙ ap (λ (j : ℕ). drop j bs) (at.0 ∙ gap-is bs) in
    let P : List ℕ → Type 0 = λ xs. (xs ≡ []) ⊎ ((b : ℕ) × (cs : List ℕ) × (xs ≡ b ∷ cs) × (separates b ≡ false)) in
    let long : 0 < length s = omega (arith, ap length is, length-drop i bs, at.1) in
    ap (λ (j : ℕ). take j s ∷ fields (drop j s)) (ends ∙ stretch-is s)
    ∙ at_field s (subst P (sym d) (gap_cases bs)) long
    ∙ ap fields d
    ∙ gap-fields bs
