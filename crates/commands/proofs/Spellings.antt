-- A list of names, one at a time.
-- found: the first command with this name.
-- Tests: a comparison of two texts came out so.
use Rattle.std.proofs.Common.{◌≡◌, ℕ, ◌+◌, ◌<◌, ◌≤◌, Bool, true, false, cond, List, map, length, get_or, drop, Some, None, nat_eq, Option, sym, refl, ap, ◌∙◌, Bor, rules}
use Rattle.std.specs.Cmp.Lexicographic.{pointwise}
use Rattle.std.proofs.lemmas.Slice.Eq.{slice_eq-Decides, compares_Decides}
use Rattle.std.proofs.lemmas.List.{at_drop_more, at_drop_all}
use Rattle.std.proofs.lemmas.Bool.Decides.{same_from_decides, Decides-eqb}
use Rattle.commands.specs.declared.verb.Verb.{Verb}
use Rattle.commands.specs.Verbs.{same, named}

abbrev pub Spelling : Type 0
Spelling = Bor (List ℕ) × Verb

unfoldable pub found : List Spelling → List ℕ → Option Verb
found ps name = named (map (λ (p : Spelling). (p.0.now, p.1)) ps) name

abbrev pub Tests : List ℕ → List ℕ → Bool → Type 0
Tests xs ys r = r ≡ pointwise nat_eq xs ys

tests_same : (xs ys : List ℕ) (r : Bool) → Tests xs ys r → same xs ys ≡ r
tests_same xs ys r h = same_from_decides (same xs ys) r (compares_Decides same (search rules) xs ys) (slice_eq-Decides Decides-eqb xs ys r h)

found_at : (ps : List Spelling) (name : List ℕ) (i : ℕ) (d : Spelling) (r : Bool) → i < length ps → Tests (get_or ps i d).0.now name r →
    found (drop i ps) name ≡ cond r (Some (get_or ps i d).1) (found (drop (i + 1) ps) name)
unfolding found
found_at ps name i d r h t =
    at_drop_more (λ (l : List Spelling). found l name) ps i d h
    ∙ ap (λ (b : Bool). cond b (Some (get_or ps i d).1) (found (drop (i + 1) ps) name)) (tests_same (get_or ps i d).0.now name r t)

pub found_stop : (ps : List Spelling) (name : List ℕ) (i : ℕ) (d : Spelling) (r : Bool) → i < length ps → Tests (get_or ps i d).0.now name r →
    r ≡ true → Some (get_or ps i d).1 ≡ found (drop i ps) name
found_stop ps name i d r h t e =
    sym (found_at ps name i d r h t ∙ ap (λ (b : Bool). cond b (Some (get_or ps i d).1) (found (drop (i + 1) ps) name)) e)

pub found_more : (ps : List Spelling) (name : List ℕ) (i : ℕ) (d : Spelling) (r : Bool) → i < length ps → Tests (get_or ps i d).0.now name r →
    r ≡ false → found (drop (i + 1) ps) name ≡ found (drop i ps) name
found_more ps name i d r h t e =
    sym (found_at ps name i d r h t ∙ ap (λ (b : Bool). cond b (Some (get_or ps i d).1) (found (drop (i + 1) ps) name)) e)

pub found_all : (ps : List Spelling) (name : List ℕ) (i : ℕ) → length ps ≤ i → None ≡ found (drop i ps) name
unfolding found
found_all ps name i h = sym (at_drop_all (λ (l : List Spelling). found l name) ps i h)

pub found-named : (ps : List Spelling) (name : List ℕ) → found ps name ≡ named (map (λ (p : Spelling). (p.0.now, p.1)) ps) name
unfolding found
found-named ps name = refl
