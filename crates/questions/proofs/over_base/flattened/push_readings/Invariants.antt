use Rattle.std.proofs.Common.{string_bytes}
use Rattle.answers.proofs.Separated.{Grown}
use Rattle.questions.proofs.Readings.{blank_reading}
use Rattle.questions.proofs.over_base.flattened.push_readings.Given as goal

abbrev pub invariant-loop-reading : goal.invariant-loop-reading
invariant-loop-reading l = Grown blank_reading (string_bytes l.initial.text) l.readings l.reading-index (string_bytes l.text)
