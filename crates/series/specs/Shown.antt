-- What is printed of readings and cells.
-- interval_text: amount and status.
-- shown_cell: the reading's text, or the fault's.
-- Assumes nothing.
use Rattle.std.specs.Prelude.{ℕ, List, ◌++◌, codes, decimal, Option, Some}
use Rattle.std.specs.Fmt.{signed_decimal}
use Rattle.series.specs.declared.interval.Interval.{Interval}
use Rattle.series.specs.declared.cell.Cell.{Cell}
use Rattle.series.specs.declared.cell.Cell.TheVariants.{Reading, Fault}
use Rattle.series.specs.Faults.{fault_text}

abbrev pub interval_text : Interval → List ℕ
interval_text x = signed_decimal x.amount ++ (codes " " ++ decimal x.status)

-- by what is printed of a reading
abbrev pub shown_cell : {T : Type 0} → (T → Option (List ℕ)) → Cell T → Option (List ℕ)
shown_cell text (Reading x) = text x
shown_cell text (Fault f) = Some (fault_text f)
