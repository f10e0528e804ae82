-- The machine's correction that a caller's correction asks for.
-- Assumes nothing.
use Rattle.std.specs.Prelude.{ℕ}
use Rattle.journal.specs.declared.correction.Correction.{Correction as Written}
use Rattle.journal.specs.Machine.{Correction, correction}

abbrev pub asked : Written → Correction ℕ
asked c = correction c.place c.struck c.words.now
