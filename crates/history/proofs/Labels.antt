-- Without its labels, a labelled history is that history.
use Rattle.std.proofs.Common.{◌≡◌, ℕ, List, map, sym, refl, ap, ◌∙◌, ap₂}
use mathlib.Core.List.{map-map, map_congr_left}
use Rattle.journal.specs.Machine.{State, Correction, correction, place, word, answers, start}
use Rattle.history.specs.Calls.{Call, correct, draft, batch, tidy, ran}
use Rattle.history.specs.History.{Turn, turns, accepted, Entry, Item, entry, label_correction, map_call, labelled, unlabelled, plain}
use Rattle.history.proofs.Lists.{map-indexed}
use Rattle.history.proofs.Maps.{map_a, map_c, map_k, map_t, answers-map, start-map, ran-map, turns-map}

module _ {W : Type 0} where
  abbrev val : Entry W → W
  val e = e.value

  correction_back : (k j : ℕ) (c : Correction W) → map_c val (label_correction k j c) ≡ c
  correction_back k j c = ap (correction c.at c.strikes) (map-indexed (entry k j) val (λ i w. refl) 0 c.enters)

  call_back : (k : ℕ) (c : Call W) → map_k val (map_call (label_correction k) c) ≡ c
  call_back k (correct c) = ap correct (correction_back k 0 c)
  call_back k (draft cs kept) = ap (λ (l : List (Correction W)). draft l kept) (map-indexed (label_correction k) (map_c val) (correction_back k) 0 cs)
  call_back k (batch cs whole) = ap (λ (l : List (Correction W)). batch l whole) (map-indexed (label_correction k) (map_c val) (correction_back k) 0 cs)
  call_back k tidy = refl

  calls_back : (calls : List (Call W)) → map (map_k val) (labelled calls) ≡ calls
  calls_back calls = map-indexed (λ k. map_call (label_correction k)) (map_k val) call_back 0 calls

  plain-is : (x : Item W) → map_a val x ≡ plain x
  plain-is (place m) = refl
  plain-is (word e) = refl

  -- both runs agree place by place
  pub agree : (n : ℕ) (calls : List (Call W)) → answers (ran (start n) calls) ≡ map plain (answers (ran (start n) (labelled calls)))
  agree n calls =
      ap₂ (λ (s : State W) (l : List (Call W)). answers (ran s l)) (start-map val n) (sym (calls_back calls)) ∙
      ap answers (ran-map val (labelled calls) (start n)) ∙ answers-map val (ran (start n) (labelled calls)) ∙ map_congr_left (λ x m. plain-is x)

  -- and accept the same corrections
  pub alike : (n : ℕ) (calls : List (Call W)) → accepted n calls ≡ map unlabelled (accepted n (labelled calls))
  alike n calls =
      let ts = turns (start n) (labelled calls) in
      ap₂ (λ (s : State W) (l : List (Call W)). map (λ (t : Turn W). t.made) (turns s l)) (start-map val n) (sym (calls_back calls)) ∙
      ap (map (λ (t : Turn W). t.made)) (turns-map val (labelled calls) (start n)) ∙
      map-map (λ (t : Turn W). t.made) (map_t val) ts ∙ sym (map-map unlabelled (λ (t : Turn (Entry W)). t.made) ts)
