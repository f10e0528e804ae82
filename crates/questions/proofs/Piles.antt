-- The text of a place of two journals laid on a base that has none.
use Rattle.std.proofs.Common.{◌≡◌, ℕ, List, [], ◌∷◌, ◌++◌, codes, ap, ◌∙◌}
use Rattle.series.specs.declared.cell.Cell.{Cell}
use Rattle.series.specs.declared.interval.Interval.{Interval}
use Rattle.series.specs.Lists.{nth}
use Rattle.series.specs.Words.{interval_of}
use Rattle.journal.specs.declared.journal.Journal.{Journal}
use Rattle.journal.specs.Machine.{State}
use Rattle.journal.specs.Journals.{state}
use Rattle.folding.specs.Piles.{down}
use Rattle.pile.specs.declared.laid.Laid.{Laid}
use Rattle.pile.specs.LaidCells.{laid_on, laid_cells}
use Rattle.listing.specs.Lines.{cell_text}
use Rattle.answers.specs.Texts.{answer_text}
use Rattle.journal.specs.Texts.{origin_text}
use Rattle.questions.specs.Questions.{pile_text}

-- what a place is followed down to, and its cell
abbrev pub followed : List (State ℕ) → List (Cell Interval) → ℕ → List ℕ
followed journals cells p =
    answer_text (λ c. answer_text origin_text (down journals p) ++ (codes " " ++ cell_text c)) (nth cells p)

module _ {B : Type 0} (cells : B → List (Cell Interval)) (journals : B → List (State ℕ)) where
  abbrev pub both : Laid (Laid B) → ℕ → List ℕ
  both l p =
      followed (state l.journal ∷ (state l.base.journal ∷ journals l.base.base))
      (laid_cells interval_of (laid_cells interval_of cells) l) p

  pub pile-followed : (base : B) (lower upper : Journal) (p : ℕ) (one : Laid B) (two : Laid (Laid B)) →
      two ≡ laid_on one upper 4 → one ≡ laid_on base lower 3 → journals base ≡ [] →
      both two p ≡ pile_text (cells base) (state lower) (state upper) p
  pile-followed base lower upper p one two e f h =
      ap (λ l. both l p) e
      ∙ ap (λ (b : Laid B). both (laid_on b upper 4) p) f
      ∙ ap (λ js. followed (state upper ∷ (state lower ∷ js)) (laid_cells interval_of (laid_cells interval_of cells) (laid_on (laid_on base lower 3) upper 4)) p) h
