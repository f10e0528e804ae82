use Rattle.std.proofs.Common.{◌≡◌, map, drop}
use Rattle.journal.specs.Journals.{state}
use Rattle.history.specs.Calls.{ran}
use Rattle.pile.specs.Heard.{heard}
use Rattle.pile.specs.Outcomes.{by_outcome, outcomes_of, noted}
use Rattle.pile.proofs.Notes.{notes}
use Rattle.pile.proofs.replay.replay.Given as goal

abbrev pub invariant-loop-at : goal.invariant-loop-at
invariant-loop-at g l = (ran (state l.journal) (map heard (drop l.at l.calls)) ≡ ran (state l.initial.journal) (map heard l.calls))
    × (notes (state l.journal) l.calls l.at l.outcomes ≡ noted (outcomes_of (state l.initial.journal) l.calls) (map by_outcome l.initial.outcomes))
