-- A journal that was started for a base, and laid on it.
use Rattle.std.proofs.Common.{◌≡◌, ℕ, ◌≤◌, false, ltb, List, length, Result, sym, ap, ◌∙◌, subst}
use Rattle.std.proofs.lemmas.Bool.{le-ltb}
use Rattle.series.specs.declared.cell.Cell.{Cell}
use Rattle.journal.specs.Journals.{state, begun}
use Rattle.journal.specs.Machine.{State, start}
use Rattle.history.specs.Calls.{Call, ran}
use Rattle.history.specs.History.{Law}
use Rattle.pile.specs.declared.laid.Laid.{Laid}
use Rattle.pile.specs.LaidCells.{laid_on, laid_cells}
use Rattle.pile.proofs.Leads.{law_led}

begun-fits : (st : State ℕ) (n : ℕ) → n ≤ 1048576 → (begun st n).1 ≡ start n
begun-fits st n h = let t : ltb 1048576 n ≡ false = le-ltb 1048576 n h in rw t

-- no base is too long for a journal
pub started_for : (st : State ℕ) {r : Result (Unit {0}) ℕ} {after : State ℕ} (m n : ℕ) → (r, after) ≡ begun st m → m ≡ n → n ≤ 1048576 → after ≡ start n
started_for st m n e p h = ap (λ o. o.1) e ∙ ap (λ (k : ℕ). (begun st k).1) p ∙ begun-fits st n h

-- the law of histories, of a journal as it was laid
pub law_of-laid : {B R : Type 0} (word : R → ℕ) (reading : ℕ → R) (cells : B → List (Cell R)) (base : B) (tag : ℕ) (calls : List (Call ℕ)) (l : Laid B)
    → l ≡ laid_on base l.journal tag → state l.journal ≡ ran (start (length (cells base))) calls
    → Law (length (cells base)) calls word reading (state l.journal) (cells base) (laid_cells reading cells l)
law_of-laid {B} {R} word reading cells base tag calls l lies ends =
    let reads : List (Cell R) → Type 0 = λ xs. Law (length (cells base)) calls word reading (state l.journal) (cells base) xs in
    subst reads (sym (ap (laid_cells reading cells) lies)) (law_led word reading tag (cells base) (state l.journal) calls ends)
