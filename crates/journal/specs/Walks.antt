-- What a walk hands out.
-- said: a run, as a walk hands it out.
-- coming: the runs that a walk has yet to hand out.
-- next_of: the first of a list and the others, or nothing and nothing left.
-- walk_steps: what a step of a walk answers, and the runs to come after it.
-- Assumes nothing.
use Rattle.std.specs.Prelude.{◌≡◌, List, [], ◌∷◌, map, Some, None, Option}
use Rattle.std.specs.Option.{option_map}
use Rattle.journal.specs.declared.walk.Run.{Run as Handed}
use Rattle.journal.specs.declared.walk.Run.TheVariants.{Kept, Entered}
use Rattle.journal.specs.declared.walk.Walk.{Walk}
use Rattle.journal.specs.Runs.{Run, kept_run, entered_run, run_of}

abbrev pub said : Handed → Run
said (Kept place count) = kept_run place count
said (Entered first words) = entered_run first words.now

abbrev pub coming : Walk → List Run
coming w = map (run_of w.words.now) w.pieces.rest.now

abbrev pub next_of : {A : Type 0} → List A → Option A × List A
next_of [] = (None, [])
next_of (x ∷ xs) = (Some x, xs)

abbrev pub walk_steps : Walk → Option Handed → Walk → Type 0
walk_steps s r t = (option_map said r, coming t) ≡ next_of (coming s)
