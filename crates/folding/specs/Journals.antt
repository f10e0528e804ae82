-- Every journal is lawful: it starts so, and calls and folds keep it so.
-- Assumes nothing.
use Rattle.std.specs.Prelude.{◌≡◌, ℕ, ◌≤◌, List, Ok}
use Rattle.journal.specs.Machine.{State, start}
use Rattle.journal.specs.Folded.{fold}
use Rattle.journal.specs.Lawful.{Lawful}
use Rattle.history.specs.Calls.{Call, ran}
use Rattle.folding.specs.Piles.{Sound}

pub record JournalLaw (W : Type 0) : Type 0 where
  pub starts : (n : ℕ) → n ≤ 1048576 → Lawful {W = W} (start n)
  pub runs : (st : State W) (calls : List (Call W)) → Lawful st → Lawful (ran st calls)
  pub folds : (lower upper both : State W) → Lawful lower → Lawful upper → fold lower upper ≡ Ok both → Lawful both
  -- A lawful journal's base places lie below the length started for.
  pub sound : (st : State W) → Lawful st → Sound st
