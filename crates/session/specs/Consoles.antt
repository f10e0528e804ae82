-- What the console does with a command.
-- desk: the journals by their states, and the series beneath them.
-- executed: the text that answers a command, and the desk after it.
-- Assumes nothing.
use Rattle.std.specs.Prelude.{ℕ, List, [], ◌∷◌, map, None, Result, slice_index_or, slice_set}
use Rattle.journal.specs.Machine.{State, start}
use Rattle.journal.specs.Journals.{state}
use Rattle.journal.specs.Folded.{fold_outcome}
use Rattle.commands.specs.Commands.{Command, lay, change, fold, show, ask, pile, write, unwrite}
use Rattle.answers.specs.Texts.{answer_text, ok_text}
use Rattle.answers.specs.Changes.{changed}
use Rattle.answers.specs.Views.{view_text, write_text, unwrite_text}
use Rattle.questions.specs.Series.{Series, beneath, cells_of, laid_down}
use Rattle.questions.specs.Questions.{question_text, pile_text}
use Rattle.session.specs.declared.console.Console.{Console}

pub record Desk : Type 0 where
  pub journals : List (State ℕ)
  pub series : Series

-- the desk of a console
abbrev pub desk : Console → Desk
desk c = record { journals = map state c.journals; series = beneath c.beneath }

-- four new journals on a register with no readings
abbrev pub empty : Desk
empty = record { journals = start 0 ∷ start 0 ∷ start 0 ∷ start 0 ∷ []; series = record { bottom = []; checks = None } }

-- journal j
abbrev pub at : Desk → ℕ → State ℕ
at d j = slice_index_or d.journals j (start 0)

-- the desk with another journal j
abbrev pub with_journal : Desk → ℕ → State ℕ → Desk
with_journal d j st = record { journals = slice_set d.journals j st; series = d.series }

-- a text, and the desk with another journal j
abbrev pub on_journal : Desk → ℕ → List ℕ × State ℕ → List ℕ × Desk
on_journal d j p = (p.0, with_journal d j p.1)

-- a text, and the desk with another series beneath
abbrev pub on_series : Desk → List ℕ × Series → List ℕ × Desk
on_series d p = (p.0, record { journals = d.journals; series = p.1 })

-- the text of what a fold answers, and the third journal
abbrev pub fold_answer : Result ℕ ℕ × State ℕ → List ℕ × State ℕ
fold_answer o = (answer_text ok_text o.0, o.1)

abbrev pub executed : Desk → Command → List ℕ × Desk
executed d (lay l) = on_series d (laid_down d.series l)
executed d (change j c) = on_journal d j (changed (at d j) c)
executed d (fold lower upper third) = on_journal d third (fold_answer (fold_outcome (at d lower) (at d upper) (at d third)))
executed d (show j v) = (view_text (at d j) v, d)
executed d (ask j q) = (question_text (cells_of d.series) (at d j) q, d)
executed d (pile lower upper p) = (pile_text (cells_of d.series) (at d lower) (at d upper) p, d)
executed d (write c) = (write_text c, d)
executed d (unwrite bs) = (unwrite_text bs, d)
