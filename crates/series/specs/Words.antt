-- The 64-bit word of each kind of reading, and the reading of each word.
use Rattle.std.specs.Prelude.{ℕ, ◌+◌, ◌*◌, ◌/◌, ◌%◌, ◌<◌, FitsSigned}
use Rattle.std.specs.Int.{w32}
use Rattle.std.proofs.Common.{of_z, to_z}
use Rattle.series.specs.declared.interval.Interval.{Interval}
use Rattle.series.specs.declared.event.Event.{Event}

-- an amount of 32 bits, signed, and a status of 8
abbrev pub IsInterval : Interval → Type 0
IsInterval x = FitsSigned w32 x.amount × (x.status < 256)

-- the amount's two's complement pattern plus status × 2 ^ 32
abbrev pub interval_word : Interval → ℕ
interval_word x = of_z w32 x.amount + x.status * 4294967296

-- the top 24 bits are ignored
abbrev pub interval_of : ℕ → Interval
interval_of n = record { amount = to_z w32 (n % 4294967296); status = n / 4294967296 % 256 }

-- a time of 32 bits and a code of 16
abbrev pub IsEvent : Event → Type 0
IsEvent x = (x.time < 4294967296) × (x.code < 65536)

-- time plus code × 2 ^ 32
abbrev pub event_word : Event → ℕ
event_word x = x.time + x.code * 4294967296

-- the top 16 bits are ignored
abbrev pub event_of : ℕ → Event
event_of n = record { time = n % 4294967296; code = n / 4294967296 % 65536 }
