-- What is asked of a journal, call by call.
-- call: a correction; a draft, its corrections and whether it is kept; a batch, the records that could be read and whether
-- the bytes are those records and nothing else; or to tidy.
-- called: the state after a call.
-- ran: the state after calls in turn.
-- Assumes nothing.
use Rattle.std.specs.Prelude.{Bool, cond, ◌&&◌, List, [], ◌∷◌}
use Rattle.journal.specs.Machine.{State, Correction, corrected, corrected_all, all_pass}
use Rattle.journal.specs.Tidied.{tidied}

pub data Call (W : Type 0) : Type 0 where
  correct : Correction W → Call W
  draft : List (Correction W) → Bool → Call W
  batch : List (Correction W) → Bool → Call W
  tidy : Call W

module _ {W : Type 0} where
  -- a draft passes refused corrections over, and changes nothing unless it is kept; a batch changes nothing unless its bytes are whole
  -- and none of its corrections is refused
  abbrev pub called : State W → Call W → State W
  called st (correct c) = corrected st c
  called st (draft cs kept) = cond kept (corrected_all st cs) st
  called st (batch cs whole) = cond (whole && all_pass st cs) (corrected_all st cs) st
  called st tidy = tidied st

  abbrev pub ran : State W → List (Call W) → State W
  ran st [] = st
  ran st (k ∷ ks) = ran (called st k) ks
