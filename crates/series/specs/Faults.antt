-- The faults of the layers: cause, tag of the layer, place in its series.
-- of_cause: the fault of one of these causes.
-- fault_text: what is printed of a fault.
-- Assumes nothing.
use Rattle.std.specs.Prelude.{ℕ, List, ◌++◌, codes, decimal}
use Rattle.std.proofs.Common.{lit<}
use Rattle.series.specs.declared.fault.Fault.{Fault}
use Rattle.series.specs.declared.fault.causes.Cause.{Cause}
use Rattle.series.specs.declared.fault.causes.Cause.TheVariants.{NotDelivered, OverLimit, PastBase}

-- 11: a profile has no reading for the place
abbrev pub not_delivered : ℕ → ℕ → Fault
not_delivered tag place = record { cause = 11; tag = tag; place = place; caused = lit< tt }

-- 12: a check found the amount greater than its limit
abbrev pub over_limit : ℕ → ℕ → Fault
over_limit tag place = record { cause = 12; tag = tag; place = place; caused = lit< tt }

-- 13: a journal names a base place at or past the base's length; the place is that base place
abbrev pub past_base : ℕ → ℕ → Fault
past_base tag place = record { cause = 13; tag = tag; place = place; caused = lit< tt }

abbrev pub of_cause : Cause → ℕ → ℕ → Fault
of_cause NotDelivered = not_delivered
of_cause OverLimit = over_limit
of_cause PastBase = past_base

abbrev pub fault_text : Fault → List ℕ
fault_text x = codes "fault " ++ (decimal x.cause ++ (codes " " ++ (decimal x.tag ++ (codes " " ++ decimal x.place))))
