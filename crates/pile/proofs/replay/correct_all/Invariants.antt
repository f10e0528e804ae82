use Rattle.std.proofs.Common.{◌≡◌, ◌+◌, ◌≤◌, map, drop}
use Rattle.journal.specs.Asked.{asked}
use Rattle.journal.specs.Drafts.{Continues}
use Rattle.journal.specs.Journals.{state}
use Rattle.journal.specs.Machine.{corrected_all}
use Rattle.pile.specs.Outcomes.{passing}
use Rattle.pile.proofs.replay.correct_all.Given as goal

abbrev pub invariant-loop-c : goal.invariant-loop-c
invariant-loop-c l =
    (corrected_all (state l.draft.journal.now) (map asked (drop l.c-index l.corrections))
    ≡ corrected_all (state l.initial.draft.journal.now) (map asked l.corrections))
    × (l.accepted + passing (state l.draft.journal.now) (map asked (drop l.c-index l.corrections))
    ≡ passing (state l.initial.draft.journal.now) (map asked l.corrections))
    × (l.accepted ≤ l.c-index)
    × Continues l.initial.draft l.draft
