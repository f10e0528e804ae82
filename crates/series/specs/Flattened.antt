-- What flattening a list of cells answers and writes.
-- stop: why flattening stopped: by a refusal's number, or at a place, by the fault of its cell.
-- says: the stop that each flatten fault of the code stands for; by_stop: an answer told by it.
-- lead: the readings before the first fault.
-- ending: how many cells there are; or the first fault, with its place.
-- flattened: that, and the buffer after it; a buffer shorter than the list is refused with 10 and untouched.
-- Assumes nothing.
use Rattle.std.specs.Prelude.{ℕ, suc, cond, List, [], ◌∷◌, ◌++◌, length, drop, Ok, Err, Result, nat_lt}
use Rattle.series.specs.declared.cell.Cell.{Cell}
use Rattle.series.specs.declared.cell.Cell.TheVariants as cell
use Rattle.series.specs.declared.fault.Fault.{Fault}
use Rattle.series.specs.declared.flatten.CellFault.{CellFault}
use Rattle.series.specs.declared.flatten.FlattenFault.{FlattenFault}
use Rattle.series.specs.declared.flatten.FlattenFault.TheVariants.{TooShort, AtPlace}

pub data Stop : Type 0 where
  refused : ℕ → Stop
  fault_at : ℕ → Fault → Stop

abbrev pub says : FlattenFault → Stop
says TooShort = refused 10
says (AtPlace c) = fault_at c.place c.fault

abbrev pub by_stop : {A : Type 0} → Result A FlattenFault → Result A Stop
by_stop (Ok x) = Ok x
by_stop (Err e) = Err (says e)

abbrev pub lead : {T : Type 0} → List (Cell T) → List T
lead [] = []
lead (cell.Reading x ∷ cs) = x ∷ lead cs
lead (cell.Fault f ∷ cs) = []

-- of the cells from place i on, in a list of n
abbrev pub ending : {T : Type 0} → ℕ → ℕ → List (Cell T) → Result ℕ Stop
ending n i [] = Ok n
ending n i (cell.Reading x ∷ cs) = ending n (suc i) cs
ending n i (cell.Fault f ∷ cs) = Err (fault_at i f)

abbrev pub flattened : {T : Type 0} → List (Cell T) → List T → Result ℕ Stop × List T
flattened cs out =
    cond (nat_lt (length out) (length cs)) (Err (refused 10), out) (ending (length cs) 0 cs, lead cs ++ drop (length (lead cs)) out)

-- what a cell gives: its reading, or its fault with the place
abbrev pub of_cell : {T : Type 0} → ℕ → Cell T → Result T CellFault
of_cell i (cell.Reading x) = Ok x
of_cell i (cell.Fault f) = Err (record { place = i; fault = f })
