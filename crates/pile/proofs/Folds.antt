-- The law of folds, of two journals of the code.
use Rattle.std.proofs.Common.{◌≡◌, ℕ, List, [], IfOk, Ok, Err, Result, sym, ap, arith}
use Rattle.series.specs.declared.cell.Cell.{Cell}
use Rattle.series.specs.declared.refusal.Refusal.{Refusal}
use Rattle.series.specs.Refusals.{by_number, with_ok}
use Rattle.journal.specs.declared.journal.Journal.{Journal}
use Rattle.journal.specs.Machine.{State}
use Rattle.journal.specs.Journals.{state}
use Rattle.journal.specs.Folded.{fold, fold_answer}
use Rattle.journal.proofs.Truths.{lawful_state}
use Rattle.folding.specs.Piles.{Sound}
use Rattle.folding.proofs.Folds.{fold_law}
use Rattle.folding.proofs.Journals.{journal_law}
use Rattle.pile.specs.Neighbours.{Replaces}

-- the fold, from what it made of a third journal
pub fold_ok : (third after : State ℕ) (f : Result (State ℕ) ℕ) (n : ℕ) → (Ok n, after) ≡ fold_answer third f → Ok after ≡ f
fold_ok third after (Ok both) n e = ap (λ o. Ok o.1) e
fold_ok third after (Err d) n e = let h = ap (λ o. o.0) e in let z : ◌≡◌ {A = ℕ} 0 1 = cc in absurd (omega arith)

sound-state : (j : Journal) → Sound (state j)
sound-state j = (journal_law ℕ).sound (state j) (lawful_state j)

pub replaces : {R : Type 0} (decode : ℕ → R) (cells : List (Cell R)) (lower upper : Journal) (r : Result Journal Refusal)
    → by_number (with_ok state r) ≡ fold (state lower) (state upper) → IfOk r (λ both. Replaces decode cells (state lower) (state upper) (state both))
replaces decode cells lower upper (Err e) h = tt
replaces {R} decode cells lower upper (Ok both) h =
    let law = fold_law ℕ R in
    record {
      cells = λ fits above tag low high.
          law.cells decode cells above [] (state lower) (state upper) (state both) tag low high (sym h) (sound-state lower) (sound-state upper) fits;
      origins = λ above below q. law.origins above below (state lower) (state upper) (state both) q (sym h) (sound-state upper);
    }
