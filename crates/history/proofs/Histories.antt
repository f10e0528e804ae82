-- The law of a history.
use Rattle.std.proofs.Common.{◌≡◌, ℕ, ◌<◌, List, length, Ok, Result, sym, ap, ◌∙◌, arith}
use lib.ListN.{length-map}
use Rattle.series.specs.declared.cell.Cell.{Cell}
use Rattle.series.specs.declared.cell.Cell.TheVariants.{Reading, Fault}
use Rattle.series.specs.Faults.{past_base}
use Rattle.series.specs.Lists.{nth}
use Rattle.journal.specs.Machine.{State, Answer, place, word, answers, start}
use Rattle.journal.proofs.Nths.{nth-some, nth-value, nth-map_ok, nth_unmap}
use Rattle.history.specs.Calls.{Call, ran}
use Rattle.history.specs.Laid.{cell_of, laid}
use Rattle.history.specs.History.{Item, labelled, plain, Once, Stands, Law, HistoryLaw}
use Rattle.history.proofs.Labels.{agree, alike}
use Rattle.history.proofs.Standing.{inv_of}
use Rattle.history.proofs.Series.{balance, laid-ran}

plain-place : {W : Type 0} (x : Item W) (m : ℕ) → plain x ≡ place m → x ≡ place m
plain-place (place l) m e = let same : l ≡ m = cc in ap place same
plain-place (word d) m e = let z : ◌≡◌ {A = ℕ} 0 1 = cc in absurd (omega arith)

module _ {W R : Type 0} (decode : W → R) (cells : List (Cell R)) (tag : ℕ) (calls : List (Call W)) where
  abbrev n : ℕ
  n = length cells

  abbrev st : State W
  st = ran (start n) calls

  abbrev items : List (Item W)
  items = answers (ran (start n) (labelled calls))

  origin : (x : Item W) (q : ℕ) → Stands n calls x q → nth (answers st) q ≡ Ok (plain x)
  origin x q s = ap (λ (l : List (Answer W)). nth l q) (agree n calls) ∙ nth-map_ok plain items q x s

  bases : (m q : ℕ) → nth (answers st) q ≡ Ok (place m) → Stands n calls (place m) q
  bases m q h =
      let w = nth_unmap plain items q (place m) (sym (ap (λ (l : List (Answer W)). nth l q) (agree n calls)) ∙ h) in
      w.1 ∙ ap Ok (plain-place w.0 m w.2)

  same_item : (x y : Item W) (q : ℕ) → Stands n calls x q → Stands n calls y q → y ≡ x
  same_item x y q a b = let e : ◌≡◌ {A = Result (Item W) ℕ} (Ok y) (Ok x) = sym b ∙ a in cc

  long : length (answers st) ≡ length items
  long = ap length (agree n calls) ∙ length-map items plain

  wide : length (laid decode tag cells st) ≡ length (answers st)
  wide = length-map (answers st) (cell_of decode tag cells)

  filled : (q : ℕ) → q < length (laid decode tag cells st) → Once (λ x. Stands n calls x q)
  filled q h = let w = nth-some items q (omega (arith, long, wide)) in (w.0, w.1, λ y s. same_item w.0 y q w.1 s)

  reads : (x : Item W) (q : ℕ) → Stands n calls x q → nth (laid decode tag cells st) q ≡ Ok (cell_of decode tag cells (plain x))
  reads x q s = nth-map_ok (cell_of decode tag cells) (answers st) q (plain x) (origin x q s)

  -- below the base's length, no fault arises
  in_base : (m : ℕ) → m < n → Ok (cell_of decode tag cells (place m)) ≡ nth cells m
  in_base m h = let w = nth-some cells m h in ap Ok (nth-value cells m w.0 (Fault (past_base tag m)) w.1) ∙ sym w.1

  law : (encode : R → W) → Law n calls encode decode st cells (laid decode tag cells st)
  law encode =
      let inv = (inv_of n calls).1 in
      record {
        item = inv.item;
        known = inv.known;
        filled = filled;
        rising = inv.rising;
        origin = origin;
        bases = bases;
        balance = omega (arith, balance n calls, wide);
        of_base = λ m q s. reads (place m) q s ∙ in_base m (inv.known (place m) q s);
        of_word = λ e q s. reads (word e) q s;
        of_own = λ e q r back own s. reads (word e) q s ∙ ap (λ (w : W). Ok (Reading (decode w))) own ∙ ap (λ (x : R). Ok (Reading x)) back;
        edited = laid-ran decode tag cells calls;
        alike = alike n calls;
      }

pub history_law : (W R : Type 0) → HistoryLaw W R
history_law W R encode decode cells tag calls = law decode cells tag calls encode
