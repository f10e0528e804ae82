-- What a laid journal answers at a place, from what its journal and its base answer.
use Rattle.std.proofs.Common.{◌≡◌, ℕ, List, Ok, Err, Result, sym, refl, ap, ◌∙◌}
use Rattle.std.specs.Result.{result_unwrap_or}
use Rattle.series.specs.declared.cell.Cell.{Cell}
use Rattle.series.specs.Lists.{nth}
use Rattle.series.specs.declared.refusal.Refusal.{Refusal}
use Rattle.series.specs.Refusals.{by_number, with_ok}
use Rattle.series.proofs.Nths.{nth_mapped}
use Rattle.journal.specs.declared.origin.Origin.{Origin}
use Rattle.journal.specs.Machine.{State, answers}
use Rattle.journal.specs.Journals.{told}
use Rattle.history.specs.Laid.{cell_of, laid}

-- the value of an answer, or another where it is a refusal
pub unwrap_by_number : {A : Type 0} (r : Result A Refusal) (d : A) → result_unwrap_or r d ≡ result_unwrap_or (by_number r) d
unwrap_by_number (Ok x) d = refl
unwrap_by_number (Err e) d = refl

module _ {R : Type 0} (reading : ℕ → R) (tag : ℕ) (below : List (Cell R)) (st : State ℕ) (place : ℕ) where
  pub laid_ok : (o o' : Origin) (c : Cell R) → Ok (told o) ≡ nth (answers st) place → o ≡ o' → c ≡ cell_of reading tag below (told o') → Ok c ≡ nth (laid reading tag below st) place
  laid_ok o o' c e p q =
      let f = cell_of reading tag below in
      ap Ok (q ∙ ap (λ (x : Origin). f (told x)) (sym p)) ∙ ap (with_ok f) e ∙ nth_mapped f (answers st) place

  pub laid_err : (d : ℕ) → Err d ≡ nth (answers st) place → Err d ≡ nth (laid reading tag below st) place
  laid_err d e =
      let f = cell_of reading tag below in
      ap (with_ok f) e ∙ nth_mapped f (answers st) place
