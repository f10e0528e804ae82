-- The cells of the bottoms.
-- bounded: a list, or refusal 2 where it is longer than a base may be.
-- Assumes nothing.
use Rattle.std.specs.Prelude.{ℕ, ◌≤◌, cond, List, map, length, replicate, Ok, Err, Result, nat_lt}
use Rattle.std.proofs.lemmas.List.{length-replicate, length-map}
use Rattle.series.specs.declared.cell.Cell.{Cell}
use Rattle.series.specs.declared.cell.Cell.TheVariants.{Reading}
use Rattle.series.specs.declared.nominal.Nominal.{Nominal}
use Rattle.series.specs.declared.register.Register.{Register}

abbrev pub bounded : {A : Type 0} → List A → Result (List A) ℕ
bounded xs = cond (nat_lt 1048576 (length xs)) (Err 2) (Ok xs)

abbrev pub nominal_cells : {T : Type 0} → Nominal T → List (Cell T)
nominal_cells b = replicate b.length (Reading b.reading)

pub nominal-few : {T : Type 0} (b : Nominal T) → length (nominal_cells b) ≤ 1048576
nominal-few b = simp length-replicate b.few

abbrev pub register_cells : {T : Type 0} → Register T → List (Cell T)
register_cells b = map Reading b.readings.now

pub register-few : {T : Type 0} (b : Register T) → length (register_cells b) ≤ 1048576
register-few b = simp length-map b.few
