-- What is answered of journals laid on a series, by the series' cells.
-- question_text: of one journal.
-- pile_text: of a place of one journal on another.
-- inquiry_text: of either.
-- Assumes nothing.
use Rattle.std.specs.Prelude.{ℕ, cond, List, [], ◌∷◌, ◌++◌, length, Ok, Err, codes, decimal, Result, ◌==◌}
use Rattle.std.specs.Fmt.{signed_decimal}
use Rattle.series.specs.declared.cell.Cell.{Cell}
use Rattle.series.specs.declared.cell.Cell.TheVariants.{Fault}
use Rattle.series.specs.declared.interval.Interval.{Interval}
use Rattle.series.specs.Flattened.{Stop, refused, fault_at, lead, ending}
use Rattle.series.specs.Lists.{nth}
use Rattle.series.specs.Words.{interval_of}
use Rattle.journal.specs.Machine.{State}
use Rattle.journal.specs.Journals.{state}
use Rattle.history.specs.Laid.{laid}
use Rattle.folding.specs.Piles.{down}
use Rattle.listing.specs.Lines.{cell_text}
use Rattle.commands.specs.declared.command.Question.{Question}
use Rattle.commands.specs.declared.command.Question.TheVariants.{Fits, Read, Flatten}
use Rattle.series.specs.Refusals.{refusal_text}
use Rattle.answers.specs.Texts.{answer_text, ok_text, separated}
use Rattle.journal.specs.Texts.{origin_text}
use Rattle.questions.specs.declared.inquiry.Inquiry.{Inquiry}
use Rattle.questions.specs.declared.inquiry.Inquiry.TheVariants as inquiry

-- amount and status, as 5/0
abbrev pub reading_text : Interval → List ℕ
reading_text x = signed_decimal x.amount ++ (codes "/" ++ decimal x.status)

-- the readings behind a colon, where there are any
abbrev pub readings_text : List Interval → List ℕ
readings_text [] = []
readings_text (x ∷ xs) = codes ": " ++ separated (codes " ") reading_text (x ∷ xs)

-- how many readings there are, and these; or the place without one, and its fault
abbrev pub ending_text : List Interval → Result ℕ Stop → List ℕ
ending_text xs (Ok n) = ok_text n ++ readings_text xs
ending_text xs (Err (refused n)) = refusal_text n
ending_text xs (Err (fault_at p f)) = codes "refused " ++ (decimal p ++ (codes ": " ++ cell_text (Fault f)))

abbrev pub flatten_text : List (Cell Interval) → List ℕ
flatten_text cells = ending_text (lead cells) (ending (length cells) 0 cells)

abbrev pub question_text : List (Cell Interval) → State ℕ → Question → List ℕ
question_text cells st Fits = cond (st.started == length cells) (codes "yes") (codes "no")
question_text cells st (Read tag p) = answer_text cell_text (nth (laid interval_of tag cells st) p)
question_text cells st (Flatten tag) = flatten_text (laid interval_of tag cells st)

-- the upper (tag 4) on the lower (tag 3) on the series: what the place is followed down to, and its cell
abbrev pub pile_text : List (Cell Interval) → State ℕ → State ℕ → ℕ → List ℕ
pile_text cells lower upper p =
    answer_text (λ c. answer_text origin_text (down (upper ∷ lower ∷ []) p) ++ (codes " " ++ cell_text c))
    (nth (laid interval_of 4 (laid interval_of 3 cells lower) upper) p)

abbrev pub inquiry_text : List (Cell Interval) → Inquiry → List ℕ
inquiry_text cells (inquiry.Laid journal question) = question_text cells (state journal) question
inquiry_text cells (inquiry.Pile lower upper p) = pile_text cells (state lower) (state upper) p
