-- What calls came to, as it is noted call by call.
use Rattle.std.proofs.Common.{◌≡◌, ℕ, zero, suc, ◌+◌, ◌<◌, ◌≤◌, List, [], ◌∷◌, ◌++◌, map, length, get_or, take, drop, set, sym, refl, ap, ◌∙◌, arith, take-append-drop}
use Rattle.std.proofs.lemmas.List.{at_drop_more, at_drop_all}
use Rattle.journal.specs.Machine.{State}
use Rattle.history.specs.Calls.{called}
use Rattle.pile.specs.declared.call.Call.{Call as Written}
use Rattle.pile.specs.declared.outcome.Outcome.{Outcome as Noted}
use Rattle.pile.specs.Heard.{heard}
use Rattle.pile.specs.Outcomes.{Outcome, by_outcome, outcome_of, outcomes_of, noted}

noted_none : (xs : List Outcome) → noted xs [] ≡ []
noted_none [] = refl
noted_none (x ∷ xs) = refl

-- the outcomes noted so far, and those of what is left over the others
abbrev so_far : ℕ → List Outcome → List Outcome → List Outcome
so_far i old rest = take i old ++ noted rest (drop i old)

one_more : (old rest : List Outcome) (i : ℕ) (x : Outcome) → so_far (suc i) (set old i x) rest ≡ so_far i old (x ∷ rest)
one_more [] rest zero x = noted_none rest
one_more [] rest (suc i) x = noted_none rest
one_more (o ∷ old) rest zero x = refl
one_more (o ∷ old) rest (suc i) x = ap (λ l. o ∷ l) (one_more old rest i x)

map-set : (outs : List Noted) (i : ℕ) (x : Noted) → map by_outcome (set outs i x) ≡ set (map by_outcome outs) i (by_outcome x)
map-set [] zero x = refl
map-set [] (suc i) x = refl
map-set (o ∷ outs) zero x = refl
map-set (o ∷ outs) (suc i) x = ap (λ l. by_outcome o ∷ l) (map-set outs i x)

-- the notes of a journal in a state, after i of the calls
abbrev pub notes : State ℕ → List Written → ℕ → List Noted → List Outcome
notes st calls i outs = so_far i (map by_outcome outs) (outcomes_of st (drop i calls))

pub notes_more : (st next : State ℕ) (calls : List Written) (i : ℕ) (d : Written) (outs : List Noted) (x : Noted) → i < length calls
    → next ≡ called st (heard (get_or calls i d)) → by_outcome x ≡ outcome_of st (get_or calls i d)
    → notes next calls (i + 1) (set outs i x) ≡ notes st calls i outs
notes_more st next calls i d outs x h e o =
    let k = get_or calls i d in
    let one : i + 1 ≡ suc i = omega arith in
    let left = at_drop_more (λ (l : List Written). outcomes_of st l) calls i d h in
    let rest = ap (λ (s : State ℕ). outcomes_of s (drop (i + 1) calls)) e in
    ap (λ (l : List Outcome). so_far (i + 1) l (outcomes_of next (drop (i + 1) calls))) (map-set outs i x)
    ∙ ap (λ (n : ℕ). so_far n (set (map by_outcome outs) i (by_outcome x)) (outcomes_of next (drop (i + 1) calls))) one
    ∙ one_more (map by_outcome outs) (outcomes_of next (drop (i + 1) calls)) i (by_outcome x)
    ∙ ap (λ (l : List Outcome). so_far i (map by_outcome outs) l) ((λ j. o j ∷ rest j) ∙ sym left)

pub notes_all : (st : State ℕ) (calls : List Written) (i : ℕ) (outs : List Noted) → length calls ≤ i → notes st calls i outs ≡ map by_outcome outs
notes_all st calls i outs h =
    ap (λ (l : List Outcome). so_far i (map by_outcome outs) l) (at_drop_all (λ (l : List Written). outcomes_of st l) calls i h)
    ∙ take-append-drop i (map by_outcome outs)
