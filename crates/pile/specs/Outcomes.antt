-- What calls come to, told by numbers.
-- outcome: of a correction, its answer; of a batch, its answer; of a draft, how many of its corrections were accepted; or that the journal
-- was tidied.
-- by_outcome: an outcome of the code, its refusals told by numbers: the one definition that goes with it.
-- outcome_of: what a call comes to in a state.
-- carried: that, and the state after it.
-- outcomes_of: what calls in turn come to.
-- noted: outcomes written over the first of older ones, as many as there is room for.
-- Assumes nothing.
use Rattle.std.specs.Prelude.{ℕ, ◌+◌, cond, List, [], ◌∷◌, map, Option, Result}
use Rattle.series.specs.Refusals.{by_number}
use Rattle.journal.specs.Machine.{State, Correction, correction, check, passes, corrected}
use Rattle.journal.specs.Asked.{asked}
use Rattle.records.specs.Batches.{batch_outcome}
use Rattle.records.specs.Faults.{by_fault}
use Rattle.history.specs.Calls.{called}
use Rattle.pile.specs.declared.call.Call.{Call as Written}
use Rattle.pile.specs.declared.call.Call.TheVariants.{Enter, Strike, Replace, Batch, Draft, Tidy}
use Rattle.pile.specs.declared.outcome.Outcome.{Outcome as Noted}
use Rattle.pile.specs.declared.outcome.Outcome.TheVariants.{Corrected, Batched, Drafted, Tidied}
use Rattle.pile.specs.Heard.{heard}

pub data Outcome : Type 0 where
  correcting : Result ℕ ℕ → Outcome
  batching : Result ℕ (ℕ × Option ℕ) → Outcome
  drafting : ℕ → Outcome
  tidying : Outcome

abbrev pub by_outcome : Noted → Outcome
by_outcome (Corrected r) = correcting (by_number r)
by_outcome (Batched r) = batching (by_fault r)
by_outcome (Drafted n) = drafting n
by_outcome Tidied = tidying

-- how many corrections in turn are accepted
abbrev pub passing : State ℕ → List (Correction ℕ) → ℕ
passing st [] = 0
passing st (c ∷ cs) = cond (passes st c) 1 0 + passing (corrected st c) cs

abbrev pub outcome_of : State ℕ → Written → Outcome
outcome_of st (Enter place words) = correcting (check st (correction place 0 words.now))
outcome_of st (Strike place count) = correcting (check st (correction place count []))
outcome_of st (Replace c) = correcting (check st (asked c))
outcome_of st (Batch bytes) = batching (batch_outcome st bytes.now).0
outcome_of st (Draft corrections keep) = drafting (passing st (map asked corrections.now))
outcome_of st Tidy = tidying

-- what a call comes to, and the state after it
abbrev pub carried : State ℕ → Written → Outcome × State ℕ
carried st k = (outcome_of st k, called st (heard k))

abbrev pub outcomes_of : State ℕ → List Written → List Outcome
outcomes_of st [] = []
outcomes_of st (k ∷ ks) = outcome_of st k ∷ outcomes_of (called st (heard k)) ks

abbrev pub noted : List Outcome → List Outcome → List Outcome
noted [] old = old
noted (x ∷ xs) [] = []
noted (x ∷ xs) (o ∷ old) = x ∷ noted xs old
