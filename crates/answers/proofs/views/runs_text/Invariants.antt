use Rattle.std.proofs.Common.{◌≡◌, ◌++◌, string_bytes, codes}
use Rattle.std.specs.List.{flat_map}
use Rattle.journal.specs.Journals.{state}
use Rattle.journal.specs.Runs.{Run, runs}
use Rattle.journal.specs.Walks.{coming}
use Rattle.answers.specs.Texts.{listed}
use Rattle.answers.specs.Views.{run_text}
use Rattle.answers.proofs.views.runs_text.Given as goal

abbrev pub invariant-loop-run : goal.invariant-loop-run
invariant-loop-run l =
    string_bytes l.text ++ flat_map (λ (r : Run). codes ", " ++ run_text r) (coming l.run-iterator) ≡ listed (codes ", ") run_text (runs (state l.journal))
