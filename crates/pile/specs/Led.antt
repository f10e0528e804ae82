-- What a laid journal answers, whatever calls led to its state.
-- led: the journal was started for the length of the base that it lies on, and the calls made on it led to this state.
-- balanced: the length and all struck are together the base's length and all entered.
-- TellsItem: what is told of a place is the item that stands there, and a base place is told only where it stands.
-- ReadsItem: what is read where a base place stands is the base's cell, and where an entry stands its word's reading.
-- Assumes nothing.
use Rattle.std.specs.Prelude.{◌≡◌, ℕ, ◌+◌, List, length, Ok, Result}
use Rattle.series.specs.declared.cell.Cell.{Cell}
use Rattle.series.specs.declared.cell.Cell.TheVariants.{Reading}
use Rattle.series.specs.Lists.{nth}
use Rattle.journal.specs.Machine.{State, Answer, place, word, start}
use Rattle.history.specs.Calls.{Call, ran}
use Rattle.history.specs.History.{Item, Entry, Stands, plain, accepted, all_struck, all_entered}

-- a journal in this state, started for n places
module _ (n : ℕ) (st : State ℕ) where
  abbrev pub Led : List (Call ℕ) → Type 0
  Led calls = st ≡ ran (start n) calls

  abbrev pub Balanced : ℕ → Type 0
  Balanced long = (calls : List (Call ℕ)) → Led calls → long + all_struck (accepted n calls) ≡ n + all_entered (accepted n calls)

  abbrev pub TellsItem : ℕ → Result (Answer ℕ) ℕ → Type 0
  TellsItem q told =
      (calls : List (Call ℕ)) → Led calls →
      ((x : Item ℕ) → Stands n calls x q → told ≡ Ok (plain x)) × ((m : ℕ) → told ≡ Ok (place m) → Stands n calls (place m) q)

-- a journal in this state on these cells
abbrev pub ReadsItem : {R : Type 0} → (ℕ → R) → List (Cell R) → State ℕ → ℕ → Result (Cell R) ℕ → Type 0
ReadsItem decode cells st q read =
    (calls : List (Call ℕ)) → Led (length cells) st calls →
    ((m : ℕ) → Stands (length cells) calls (place m) q → read ≡ nth cells m)
    × ((e : Entry ℕ) → Stands (length cells) calls (word e) q → read ≡ Ok (Reading (decode e.value)))
