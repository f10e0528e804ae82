-- The machine's call that a call of the code asks for.
-- heard: of a batch, the corrections that its bytes hold.
-- Assumes nothing.
use Rattle.std.specs.Prelude.{ℕ, [], map}
use Rattle.journal.specs.Machine.{correction}
use Rattle.journal.specs.Asked.{asked}
use Rattle.records.specs.Batches.{records_in}
use Rattle.history.specs.Calls.{Call, correct, draft, batch, tidy}
use Rattle.pile.specs.declared.call.Call.{Call as Written}
use Rattle.pile.specs.declared.call.Call.TheVariants.{Enter, Strike, Replace, Batch, Draft, Tidy}

abbrev pub heard : Written → Call ℕ
heard (Enter place words) = correct (correction place 0 words.now)
heard (Strike place count) = correct (correction place count [])
heard (Replace c) = correct (asked c)
heard (Batch bytes) = batch (records_in bytes.now).0 (records_in bytes.now).1
heard (Draft corrections keep) = draft (map asked corrections.now) keep
heard Tidy = tidy
