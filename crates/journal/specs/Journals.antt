-- What a journal stands for.
-- state: the journal as the machine has it.
-- told_by: what is told of origins that name no words, by these words.
-- told: an origin, as a journal tells it.
-- begun: what a start answers, and the state after it.
-- Assumes nothing.
use Rattle.std.specs.Prelude.{ℕ, ◌≤◌, cond, List, map, length, Ok, Err, Result, nat_lt, slice_index}
use Rattle.std.proofs.Common.{arith}
use Rattle.std.proofs.lemmas.List.{length-map}
use Rattle.journal.specs.declared.origin.Origin.{Origin as Written}
use Rattle.journal.specs.declared.origin.Origin.TheVariants as written
use Rattle.journal.specs.declared.journal.Journal.{Journal}
use Rattle.journal.specs.Machine.{Origin, base, entered, Answer, place, word, State, start, answer, answers}
use Rattle.journal.specs.Pieces.{length-spread}
use Rattle.journal.specs.Tables.{listed, origins}
use Rattle.journal.specs.Stores.{in_use}

-- an origin with its word, which has its number among these words
abbrev pub filled : List ℕ → Origin (Unit {0}) → Origin ℕ
filled words (base m) = base m
filled words (entered k u) = entered k (slice_index words k)

abbrev pub state : Journal → State ℕ
state j =
    record {
      started = j.started;
      origins = map (filled (in_use j.words)) (origins j.table);
      words = in_use j.words;
    }

abbrev pub told_by : List ℕ → List (Origin (Unit {0})) → List (Answer ℕ)
told_by words os = map answer (map (filled words) os)

abbrev pub told : Written → Answer ℕ
told (written.Base m) = place m
told (written.Entered w) = word w

-- refusal 2 and the state as it was where the length is more than a series may have
abbrev pub begun : State ℕ → ℕ → Result (Unit {0}) ℕ × State ℕ
begun st n = cond (nat_lt 1048576 n) (Err 2, st) (Ok tt, start n)

pub state-few : (j : Journal) → length (answers (state j)) ≤ 1048576
state-few j = simp length-map (omega (arith, length-spread (listed j.table), j.short))
