-- A draft after a call.
-- Continues: it still goes to the journal that it was opened for, and holds the copy that it held.
-- Assumes nothing.
use Rattle.std.specs.Prelude.{◌≡◌}
use Rattle.journal.specs.declared.draft.Draft.{Draft}

pub record Continues (old new : Draft) : Type 0 where
  pub before : new.before ≡ old.before
  pub follows : new.journal.ghost_name ≡ old.journal.ghost_name
