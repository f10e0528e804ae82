-- Words up to a semicolon, and what comes past it.
use Rattle.std.proofs.Common.{◌≡◌, ℕ, Bool, true, false, eqb, List, [], ◌∷◌, ◌++◌, Some, None, codes, Option, sym, refl, ap, ◌∙◌, ap₂, ⊎_elim, arith}
use Rattle.std.proofs.lemmas.Bool.{cond-true, cond-false, cases_Bool, eqb-true, and_parts}
use Rattle.std.specs.Option.{option_map}
use Rattle.commands.specs.Arguments.{first_segment, past_segment, segment_in}
use Rattle.commands.specs.Fields.{Field}
use Rattle.commands.specs.Numerals.{and_some, number_to}
use Rattle.commands.specs.Parsing.{words_in}
use Rattle.commands.specs.Verbs.{same, all_words}

abbrev Segment : Type 0
Segment = List ℕ × Option (List Field)

-- these words in front of those
abbrev after : List ℕ → Option Segment → Option Segment
after ws o = option_map (λ q. (ws ++ q.0, q.1)) o

joins : (past : Option (List Field)) (o : Option ℕ) (v : Option (List ℕ)) → option_map (λ ws. (ws, past)) (and_some o (λ w. option_map (λ ws. w ∷ ws) v)) ≡ and_some o (λ w. after (w ∷ []) (option_map (λ ws. (ws, past)) v))
joins past None v = refl
joins past (Some w) None = refl
joins past (Some w) (Some ws) = refl

-- a word more in front
segment_word : (f : Field) (fs : List Field) → same (codes ";") f ≡ false → segment_in (f ∷ fs) ≡ and_some (number_to all_words f) (λ w. after (w ∷ []) (segment_in fs))
segment_word f fs p =
    let a : first_segment (f ∷ fs) ≡ f ∷ first_segment fs = cond-false (same (codes ";") f) [] (f ∷ first_segment fs) p in
    let b : past_segment (f ∷ fs) ≡ past_segment fs = cond-false (same (codes ";") f) (Some fs) (past_segment fs) p in
    ap₂ (λ (gs : List Field) (past : Option (List Field)). option_map (λ ws. (ws, past)) (words_in gs)) a b ∙ joins (past_segment fs) (number_to all_words f) (words_in (first_segment fs))

-- a semicolon is no number
semicolon_is : (f : Field) → same (codes ";") f ≡ true → f ≡ 59 ∷ []
semicolon_is [] p = absurd (let z : ◌≡◌ {A = ℕ} 0 1 = cc in omega arith)
semicolon_is (b ∷ []) p = ap (λ (x : ℕ). x ∷ []) (sym (eqb-true 59 b (and_parts (eqb 59 b) true p).0))
semicolon_is (b ∷ (c ∷ f)) p = absurd (let q = (and_parts (eqb 59 b) false p).1 in let z : ◌≡◌ {A = ℕ} 0 1 = cc in omega arith)

pub semicolon_no_number : (most : ℕ) (f : Field) → same (codes ";") f ≡ true → number_to most f ≡ None
semicolon_no_number most f p = ap (number_to most) (semicolon_is f p)

-- words that no semicolon ends
abbrev ended : Segment → Option (List ℕ)
ended (ws, None) = Some ws
ended (ws, Some fs) = None

in_front : (o : Option ℕ) (s : Option Segment) → and_some o (λ w. option_map (λ ws. w ∷ ws) (and_some s ended)) ≡ and_some (and_some o (λ w. after (w ∷ []) s)) ended
in_front None s = refl
in_front (Some w) None = refl
in_front (Some w) (Some (ws, None)) = refl
in_front (Some w) (Some (ws, Some fs)) = refl

words-ended : (fs : List Field) → words_in fs ≡ and_some (segment_in fs) ended
words-ended [] = refl
words-ended (f ∷ fs) =
    let s : Bool = same (codes ";") f in
    let at-semicolon : s ≡ true → words_in (f ∷ fs) ≡ and_some (segment_in (f ∷ fs)) ended = λ p.
    let a : words_in (f ∷ fs) ≡ None = ap (λ (o : Option ℕ). and_some o (λ w. option_map (λ ws. w ∷ ws) (words_in fs))) (semicolon_no_number all_words f p) in
    let b : first_segment (f ∷ fs) ≡ [] = cond-true s [] (f ∷ first_segment fs) p in
    let d : past_segment (f ∷ fs) ≡ Some fs = cond-true s (Some fs) (past_segment fs) p in
    a ∙ sym (ap₂ (λ (gs : List Field) (past : Option (List Field)). and_some (option_map (λ ws. (ws, past)) (words_in gs)) ended) b d) in
    let at-word : s ≡ false → words_in (f ∷ fs) ≡ and_some (segment_in (f ∷ fs)) ended = λ p.
    ap (λ (v : Option (List ℕ)). and_some (number_to all_words f) (λ w. option_map (λ ws. w ∷ ws) v)) (words-ended fs) ∙ in_front (number_to all_words f) (segment_in fs) ∙ sym (ap (λ (o : Option Segment). and_some o ended) (segment_word f fs p)) in
    ⊎_elim at-semicolon at-word (cases_Bool s)

pub words_none : (fs : List Field) → segment_in fs ≡ None → words_in fs ≡ None
words_none fs e = words-ended fs ∙ ap (λ (o : Option Segment). and_some o ended) e

pub words_stop : {A : Type 0} (fs : List Field) (ws : List ℕ) (f : A → List Field) (o : Option A) (x : A) → segment_in fs ≡ Some (ws, option_map f o) → o ≡ Some x → words_in fs ≡ None
words_stop fs ws f o x e p = words-ended fs ∙ ap (λ (s : Option Segment). and_some s ended) (e ∙ ap (λ (q : Option _). Some (ws, option_map f q)) p)

pub words_all : {A : Type 0} (fs : List Field) (ws : List ℕ) (f : A → List Field) (o : Option A) → segment_in fs ≡ Some (ws, option_map f o) → o ≡ None → words_in fs ≡ Some ws
words_all fs ws f o e p = words-ended fs ∙ ap (λ (s : Option Segment). and_some s ended) (e ∙ ap (λ (q : Option _). Some (ws, option_map f q)) p)
