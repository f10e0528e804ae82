-- What a check reads.
-- Assumes nothing.
use Rattle.std.specs.Prelude.{◌≡◌, ℕ, suc, ◌≤◌, cond, List, [], ◌∷◌, length, pos, int_lt, refl}
use Rattle.std.proofs.Common.{ap}
use Rattle.series.specs.declared.interval.Interval.{Interval}
use Rattle.series.specs.declared.cell.Cell.{Cell}
use Rattle.series.specs.declared.cell.Cell.TheVariants as cell
use Rattle.series.specs.declared.check.Check.{Check}
use Rattle.series.specs.Faults.{over_limit}
use Rattle.series.specs.Lists.{indexed}

-- an amount greater than the limit is a fault with the check's tag and the place; all else passes unchanged
abbrev pub checked : ℕ → ℕ → ℕ → Cell Interval → Cell Interval
checked tag limit place (cell.Reading x) = cond (int_lt (pos limit) x.amount) (cell.Fault (over_limit tag place)) (cell.Reading x)
checked tag limit place (cell.Fault f) = cell.Fault f

abbrev pub check_on : {B : Type 0} → B → ℕ → ℕ → Check B
check_on base tag limit = record { base = base; tag = tag; limit = limit }

-- the cells of a check, by those of its base
abbrev pub check_cells : {B : Type 0} → (B → List (Cell Interval)) → Check B → List (Cell Interval)
check_cells cells c = indexed (checked c.tag c.limit) 0 (cells c.base)

pub length-indexed : {A B : Type 0} (f : ℕ → A → B) (i : ℕ) (xs : List A) → length (indexed f i xs) ≡ length xs
length-indexed f i [] = refl
length-indexed f i (x ∷ xs) = ap suc (length-indexed f (suc i) xs)

pub check-few : {B : Type 0} (cells : B → List (Cell Interval)) (c : Check B) → length (cells c.base) ≤ 1048576 → length (check_cells cells c) ≤ 1048576
check-few cells c h = rw (length-indexed (checked c.tag c.limit) 0 (cells c.base)) h
