use Rattle.std.proofs.Common.{◌≡◌, [], map, drop, string_bytes}
use Rattle.journal.specs.Drafts.{Continues}
use Rattle.journal.specs.Journals.{state}
use Rattle.journal.specs.Machine.{corrected_all}
use Rattle.commands.specs.Commands.{owned}
use Rattle.answers.proofs.Drafts.{left}
use Rattle.answers.proofs.changes.correct_all.Given as goal

abbrev pub invariant-loop-c : goal.invariant-loop-c
invariant-loop-c l =
    (left (state l.draft.journal.now) (string_bytes l.text) (drop l.c-index l.corrections)
    ≡ left (state l.initial.draft.journal.now) [] l.corrections)
    × (corrected_all (state l.draft.journal.now) (map owned (drop l.c-index l.corrections))
    ≡ corrected_all (state l.initial.draft.journal.now) (map owned l.corrections))
    × Continues l.initial.draft l.draft
