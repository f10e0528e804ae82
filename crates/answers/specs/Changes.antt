-- What a change of a journal answers, and the state after it.
-- draft_answers: what corrections in turn answer.
-- changed: the answer's text, and the state.
-- Assumes nothing.
use Rattle.std.specs.Prelude.{ℕ, Bool, cond, List, [], ◌∷◌, ◌++◌, length, Ok, Err, codes, decimal, Option, Result}
use Rattle.series.specs.Refusals.{with_ok}
use Rattle.journal.specs.Machine.{State, Correction, check, corrected, corrected_all}
use Rattle.journal.specs.Journals.{begun}
use Rattle.journal.specs.Pieces.{gathered}
use Rattle.journal.specs.Tidied.{tidied}
use Rattle.records.specs.Batches.{batch_outcome}
use Rattle.records.specs.Faults.{fault_text}
use Rattle.commands.specs.Commands.{Change, begin, correct, batch, draft, tidy}
use Rattle.answers.specs.Texts.{ok_text, answer_text, separated}

-- ok and how many records; or the refusal, with the record where one is known
abbrev pub batch_text : Result ℕ (ℕ × Option ℕ) → List ℕ
batch_text (Ok n) = ok_text n
batch_text (Err f) = fault_text f

abbrev pub draft_answers : State ℕ → List (Correction ℕ) → List (Result ℕ ℕ)
draft_answers st [] = []
draft_answers st (c ∷ cs) = check st c ∷ draft_answers (corrected st c) cs

abbrev pub kept_text : Bool → List ℕ
kept_text keep = cond keep (codes " kept") (codes " dropped")

-- ok, how many pieces there are, and how many words in use
abbrev pub tidy_text : State ℕ → List ℕ
tidy_text st = codes "ok " ++ (decimal (length (gathered st.origins)) ++ (codes " " ++ decimal (length st.words)))

abbrev pub changed : State ℕ → Change → List ℕ × State ℕ
changed st (begin n) = (answer_text ok_text (with_ok (λ _. n) (begun st n).0), (begun st n).1)
changed st (correct c) = (answer_text ok_text (check st c), corrected st c)
changed st (batch bs) = (batch_text (batch_outcome st bs).0, (batch_outcome st bs).1)
changed st (draft cs keep) =
    (separated (codes ", ") (answer_text ok_text) (draft_answers st cs) ++ kept_text keep, cond keep (corrected_all st cs) st)
changed st tidy = (tidy_text (tidied st), tidied st)
