-- Corrections between semicolons, one after another.
use Rattle.std.proofs.Common.{◌≡◌, ℕ, suc, ◌<◌, Bool, true, false, cond, List, [], ◌∷◌, ◌++◌, length, Some, None, codes, Option, sym, refl, ap, ◌∙◌, ⊎_elim, arith}
use Rattle.std.proofs.lemmas.List.{append_assoc}
use Rattle.std.proofs.lemmas.Bool.{cond-true, cond-false, cases_Bool}
use Rattle.std.specs.Option.{option_map}
use Rattle.journal.specs.Machine.{Correction, correction}
use Rattle.commands.specs.Arguments.{first_segment, past_segment, segment_in, correction_first}
use Rattle.commands.specs.Fields.{Field}
use Rattle.commands.specs.Numerals.{and_some, number_to}
use Rattle.commands.specs.Parsing.{numbers_in, words_in, at, wider, segments, correction_in, corrections_in}
use Rattle.commands.specs.Verbs.{same, places}
use Rattle.commands.proofs.Readings.{some_pair}
use Rattle.commands.proofs.Segments.{semicolon_no_number}

abbrev Read : Type 0
Read = List ℕ × List Field

-- the segments past a semicolon
abbrev others : Option (List Field) → List (List Field)
others None = []
others (Some fs) = segments fs

segments_first : (fs : List Field) → segments fs ≡ first_segment fs ∷ others (past_segment fs)
segments_first [] = refl
segments_first (f ∷ fs) =
    let s : Bool = same (codes ";") f in
    let go : (b : Bool) → cond b ([] ∷ segments fs) (wider f (segments fs)) ≡ cond b [] (f ∷ first_segment fs) ∷ others (cond b (Some fs) (past_segment fs)) =
    λ b. elim b as (λ x. cond x ([] ∷ segments fs) (wider f (segments fs)) ≡ cond x [] (f ∷ first_segment fs) ∷ others (cond x (Some fs) (past_segment fs))) [
      | true ↦ refl
      | false ↦ ap (wider f) (segments_first fs)
    ] in
    go s

past_shorter : (fs gs : List Field) → past_segment fs ≡ Some gs → length gs < length fs
past_shorter [] gs e = absurd (let z : ◌≡◌ {A = ℕ} 0 1 = cc in omega arith)
past_shorter (f ∷ fs) gs e =
    let s : Bool = same (codes ";") f in
    let at-semicolon : s ≡ true → length gs < length (f ∷ fs) = λ p.
    let q : Some fs ≡ Some gs = sym (cond-true s (Some fs) (past_segment fs) p) ∙ e in
    let t : fs ≡ gs = cc in
    omega (arith, ap length t) in
    let at_other : s ≡ false → length gs < length (f ∷ fs) = λ p.
    omega (arith, past_shorter fs gs (sym (cond-false s (Some fs) (past_segment fs) p) ∙ e)) in
    ⊎_elim at-semicolon at_other (cases_Bool s)

-- numbers are read up to a semicolon only
abbrev cut : Option Read → Option Read
cut o = option_map (λ p. (p.0, first_segment p.1)) o

abbrev more_numbers : ℕ → Option Read → Option Read
more_numbers n o = option_map (λ p. (n ∷ p.0, p.1)) o

cut_more : (o : Option ℕ) (r : Option Read) → and_some o (λ n. more_numbers n (cut r)) ≡ cut (and_some o (λ n. more_numbers n r))
cut_more None r = refl
cut_more (Some n) None = refl
cut_more (Some n) (Some p) = refl

past_of : (o : Option ℕ) (r : Option Read) (past : Option (List Field)) (ns : List ℕ) (gs : List Field) → ((ms : List ℕ) (hs : List Field) → r ≡ Some (ms, hs) → past ≡ past_segment hs) → and_some o (λ n. more_numbers n r) ≡ Some (ns, gs) → past ≡ past_segment gs
past_of None r past ns gs h e = absurd (let z : ◌≡◌ {A = ℕ} 0 1 = cc in omega arith)
past_of (Some n) None past ns gs h e = absurd (let z : ◌≡◌ {A = ℕ} 0 1 = cc in omega arith)
past_of (Some n) (Some (ms, hs)) past ns gs h e = h ms hs refl ∙ ap past_segment (some_pair (n ∷ ms) ns hs gs e).1

numbers-cut : (limits : List ℕ) (fs : List Field) → numbers_in limits (first_segment fs) ≡ cut (numbers_in limits fs)
numbers-cut [] fs = refl
numbers-cut (most ∷ limits) [] = refl
numbers-cut (most ∷ limits) (f ∷ fs) =
    let s : Bool = same (codes ";") f in
    let at-semicolon : s ≡ true → numbers_in (most ∷ limits) (first_segment (f ∷ fs)) ≡ cut (numbers_in (most ∷ limits) (f ∷ fs)) = λ p.
    ap (numbers_in (most ∷ limits)) (cond-true s [] (f ∷ first_segment fs) p)
    ∙ sym (ap (λ (o : Option ℕ). cut (and_some o (λ n. more_numbers n (numbers_in limits fs)))) (semicolon_no_number most f p)) in
    let at_other : s ≡ false → numbers_in (most ∷ limits) (first_segment (f ∷ fs)) ≡ cut (numbers_in (most ∷ limits) (f ∷ fs)) = λ p.
    ap (numbers_in (most ∷ limits)) (cond-false s [] (f ∷ first_segment fs) p)
    ∙ ap (λ (r : Option Read). and_some (number_to most f) (λ n. more_numbers n r)) (numbers-cut limits fs)
    ∙ cut_more (number_to most f) (numbers_in limits fs) in
    ⊎_elim at-semicolon at_other (cases_Bool s)

numbers-past : (limits : List ℕ) (fs : List Field) (ns : List ℕ) (gs : List Field) → numbers_in limits fs ≡ Some (ns, gs) → past_segment fs ≡ past_segment gs
numbers-past [] fs ns gs e = ap past_segment (some_pair [] ns fs gs e).1
numbers-past (most ∷ limits) [] ns gs e = absurd (let z : ◌≡◌ {A = ℕ} 0 1 = cc in omega arith)
numbers-past (most ∷ limits) (f ∷ fs) ns gs e =
    let s : Bool = same (codes ";") f in
    let at-semicolon : s ≡ true → past_segment (f ∷ fs) ≡ past_segment gs = λ p.
    let a : ◌≡◌ {A = Option Read} None (Some (ns, gs)) = sym (ap (λ (o : Option ℕ). and_some o (λ n. more_numbers n (numbers_in limits fs))) (semicolon_no_number most f p)) ∙ e in
    absurd (let z : ◌≡◌ {A = ℕ} 0 1 = cc in omega arith) in
    let at_other : s ≡ false → past_segment (f ∷ fs) ≡ past_segment gs = λ p.
    cond-false s (Some fs) (past_segment fs) p
    ∙ past_of (number_to most f) (numbers_in limits fs) (past_segment fs) ns gs (numbers-past limits fs) e in
    ⊎_elim at-semicolon at_other (cases_Bool s)

-- the first correction, and what comes past it
abbrev limits_of : List ℕ
limits_of = places ∷ (places ∷ [])

abbrev corrected : Read → Option (Correction ℕ)
corrected p = option_map (correction (at p.0 0) (at p.0 1)) (words_in p.1)

abbrev corrected_past : Read → Option (Correction ℕ × Option (List Field))
corrected_past p = option_map (λ q. (correction (at p.0 0) (at p.0 1) q.0, q.1)) (segment_in p.1)

abbrev Corrected : Type 0
Corrected = Correction ℕ × Option (List Field)

abbrev with_past : Option (List Field) → Option (Correction ℕ) → Option Corrected
with_past past o = option_map (λ c. (c, past)) o

words-past : (place count : ℕ) (v : Option (List ℕ)) (past these : Option (List Field)) → past ≡ these → option_map {U = Corrected} (λ q. (correction place count q.0, q.1)) (option_map {U = List ℕ × Option (List Field)} (λ ws. (ws, these)) v) ≡ with_past past (option_map (correction place count) v)
words-past place count None past these e = refl
words-past place count (Some ws) past these e = ap (λ (o : Option (List Field)). Some (correction place count ws, o)) (sym e)

first_at : (r : Option Read) (past : Option (List Field)) → ((ns : List ℕ) (gs : List Field) → r ≡ Some (ns, gs) → past ≡ past_segment gs) → and_some r corrected_past ≡ option_map (λ c. (c, past)) (and_some (cut r) corrected)
first_at None past h = refl
first_at (Some (ns, gs)) past h = words-past (at ns 0) (at ns 1) (words_in (first_segment gs)) past (past_segment gs) (h ns gs refl)

first_is : (fs : List Field) → correction_first fs ≡ option_map (λ c. (c, past_segment fs)) (correction_in (first_segment fs))
first_is fs =
    let a : correction_in (first_segment fs) ≡ and_some (cut (numbers_in limits_of fs)) corrected = ap (λ (r : Option Read). and_some r corrected) (numbers-cut limits_of fs) in
    first_at (numbers_in limits_of fs) (past_segment fs) (numbers-past limits_of fs) ∙ sym (ap (λ (r : Option (Correction ℕ)). option_map (λ c. (c, past_segment fs)) r) a)

-- corrections past a semicolon
abbrev pub others_in : Option (List Field) → Option (List (Correction ℕ))
others_in None = Some []
others_in (Some fs) = corrections_in (segments fs)

others_are : (o : Option (List Field)) → corrections_in (others o) ≡ others_in o
others_are None = refl
others_are (Some fs) = refl

abbrev then_others : Option (Correction ℕ × Option (List Field)) → Option (List (Correction ℕ))
then_others o = and_some o (λ q. option_map (λ cs. q.0 ∷ cs) (others_in q.1))

step_at : (o : Option (Correction ℕ)) (past : Option (List Field)) → and_some o (λ c. option_map (λ cs. c ∷ cs) (others_in past)) ≡ then_others (option_map (λ c. (c, past)) o)
step_at None past = refl
step_at (Some c) past = refl

step : (fs : List Field) → corrections_in (segments fs) ≡ then_others (correction_first fs)
step fs =
    ap corrections_in (segments_first fs)
    ∙ ap (λ (r : Option (List (Correction ℕ))). and_some (correction_in (first_segment fs)) (λ c. option_map (λ cs. c ∷ cs) r)) (others_are (past_segment fs))
    ∙ step_at (correction_in (first_segment fs)) (past_segment fs)
    ∙ sym (ap then_others (first_is fs))

-- these corrections in front of those
abbrev after : List (Correction ℕ) → Option (List (Correction ℕ)) → Option (List (Correction ℕ))
after cs o = option_map (λ ds. cs ++ ds) o

after_more : (cs : List (Correction ℕ)) (c : Correction ℕ) (o : Option (List (Correction ℕ))) → after cs (option_map (λ ds. c ∷ ds) o) ≡ after (cs ++ (c ∷ [])) o
after_more cs c None = refl
after_more cs c (Some ds) = ap Some (sym (append_assoc cs (c ∷ []) ds))

pub corrections_at : {A : Type 0} (f : A → List Field) (o : Option A) (x : A) (all : Option (List (Correction ℕ))) (cs : List (Correction ℕ)) →
    all ≡ after cs (others_in (option_map f o)) → o ≡ Some x → all ≡ after cs (corrections_in (segments (f x)))
corrections_at {A} f o x all cs inv is = inv ∙ ap (λ (q : Option A). after cs (others_in (option_map f q))) is

-- past one
pub corrections_more : (all : Option (List (Correction ℕ))) (gs : List Field) (past : Option (List Field)) (cs : List (Correction ℕ)) (c : Correction ℕ) →
    all ≡ after cs (corrections_in (segments gs)) → correction_first gs ≡ Some (c, past) → all ≡ after (cs ++ (c ∷ [])) (others_in past)
corrections_more all gs past cs c inv e = inv ∙ ap (after cs) (step gs ∙ ap then_others e) ∙ after_more cs c (others_in past)

-- at what is no correction
pub corrections_stop : (all : Option (List (Correction ℕ))) (gs : List Field) (cs : List (Correction ℕ)) → all ≡ after cs (corrections_in (segments gs)) → correction_first gs ≡ None → all ≡ None
corrections_stop all gs cs inv e = inv ∙ ap (after cs) (step gs ∙ ap then_others e)

past-from : (o : Option (Correction ℕ)) (past these : Option (List Field)) (c : Correction ℕ) → with_past past o ≡ Some (c, these) → past ≡ these
past-from None past these c e = absurd (let z : ◌≡◌ {A = ℕ} 0 1 = cc in omega arith)
past-from (Some d) past these c e = (some_pair d c past these e).1

-- how much is left
abbrev pub left : Option (List Field) → ℕ
left None = 0
left (Some fs) = suc (length fs)

past_less : (gs : List Field) (past : Option (List Field)) → past_segment gs ≡ past → left past < suc (length gs)
past_less gs None e = omega arith
past_less gs (Some hs) e = omega (arith, past_shorter gs hs e)

pub corrections_less : (gs : List Field) (past : Option (List Field)) (c : Correction ℕ) → correction_first gs ≡ Some (c, past) → left past < suc (length gs)
corrections_less gs past c e =
    past_less gs past (past-from (correction_in (first_segment gs)) (past_segment gs) past c (sym (first_is gs) ∙ e))
