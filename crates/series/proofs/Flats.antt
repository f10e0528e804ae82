-- What flattening has answered and written after each place.
use Rattle.std.proofs.Common.{◌≡◌, ℕ, zero, suc, ◌+◌, ◌<◌, ◌≤◌, false, ltb, List, [], ◌∷◌, ◌++◌, length, take, drop, set, Ok, Err, Result, sym, refl, ap, ◌∙◌, append_assoc, append-nil, add-one, arith}
use Rattle.std.proofs.lemmas.List.{length-take-le, take_more_set, drop-set-lt, drop-drop, drop_all, take-append-drop}
use Rattle.std.proofs.lemmas.Bool.{le-ltb}
use Rattle.series.specs.declared.cell.Cell.{Cell}
use Rattle.series.specs.declared.cell.Cell.TheVariants as cell
use Rattle.series.specs.declared.fault.Fault.{Fault}
use Rattle.series.specs.declared.flatten.CellFault.{CellFault}
use Rattle.series.specs.Lists.{nth}
use Rattle.series.specs.Refusals.{with_ok}
use Rattle.series.specs.Flattened.{Stop, fault_at, lead, ending, flattened, of_cell}

nth_suc : {A : Type 0} (xs : List A) (i : ℕ) (x : A) → nth xs i ≡ Ok x → drop i xs ≡ x ∷ drop (suc i) xs
nth_suc [] i x e = absurd (let z : ◌≡◌ {A = ℕ} 0 1 = cc in omega arith)
nth_suc (y ∷ xs) zero x e = cc
nth_suc (y ∷ xs) (suc i) x e = nth_suc xs i x e

-- the element at a place stands at the front of what is left there
nth_drop : {A : Type 0} (xs : List A) (i : ℕ) (x : A) → nth xs i ≡ Ok x → drop i xs ≡ x ∷ drop (i + 1) xs
nth_drop xs i x e = rw add-one (nth_suc xs i x e)

-- the cell, from what it gave
pub read_from : {T : Type 0} (a : Result (Cell T) ℕ) (i : ℕ) (x : T) → Ok (Ok x) ≡ with_ok (of_cell i) a → a ≡ Ok (cell.Reading x)
read_from (Ok (cell.Reading y)) i x e = cc
read_from (Ok (cell.Fault f)) i x e = absurd (let z : ◌≡◌ {A = ℕ} 0 1 = cc in omega arith)
read_from (Err d) i x e = absurd (let z : ◌≡◌ {A = ℕ} 0 1 = cc in omega arith)

pub fault_from : {T : Type 0} (a : Result (Cell T) ℕ) (i : ℕ) (d : CellFault) → Ok (Err d) ≡ with_ok (of_cell i) a
    → (f : Fault) × (a ≡ Ok (cell.Fault f)) × (d ≡ record { place = i; fault = f })
fault_from (Ok (cell.Reading y)) i d e = absurd (let z : ◌≡◌ {A = ℕ} 0 1 = cc in omega arith)
fault_from (Ok (cell.Fault f)) i d e = (f, refl, cc)
fault_from (Err r) i d e = absurd (let z : ◌≡◌ {A = ℕ} 0 1 = cc in omega arith)

module _ {T : Type 0} (cs : List (Cell T)) (before : List T) where
  -- the first i places are written, the rest of the buffer is as before, and no fault stood among them
  pub record SoFar (i : ℕ) (out : List T) : Type 0 where
    pub wrote : lead cs ≡ take i out ++ lead (drop i cs)
    pub rest : drop i out ≡ drop i before
    pub clear : ending (length cs) 0 cs ≡ ending (length cs) i (drop i cs)

  pub so_far_more : (i : ℕ) (out : List T) (x : T) → SoFar i out → i < length out → nth cs i ≡ Ok (cell.Reading x) → SoFar (i + 1) (set out i x)
  so_far_more i out x h within e =
      let front = nth_drop cs i (cell.Reading x) e in
      record {
        wrote =
            h.wrote ∙ ap (λ l. take i out ++ lead l) front ∙ sym (append_assoc (take i out) (x ∷ []) (lead (drop (i + 1) cs)))
            ∙ ap (λ l. l ++ lead (drop (i + 1) cs)) (sym (take_more_set out i x within));
        rest =
            let lt : i < i + 1 = omega arith in
            drop-set-lt (i + 1) out i x lt ∙ sym (drop-drop 1 i out) ∙ ap (drop 1) h.rest ∙ drop-drop 1 i before;
        clear = h.clear ∙ ap (ending (length cs) i) front ∙ ap (λ n. ending (length cs) n (drop (i + 1) cs)) (sym (add-one i));
      }

  -- where nothing is left to write
  whole : (i : ℕ) (out : List T) → SoFar i out → i ≤ length out → lead (drop i cs) ≡ [] → out ≡ lead cs ++ drop (length (lead cs)) before
  whole i out h within none =
      let front : lead cs ≡ take i out = h.wrote ∙ ap (λ l. take i out ++ l) none ∙ append-nil (take i out) in
      let long : length (lead cs) ≡ i = ap length front ∙ length-take-le i out within in
      sym (take-append-drop i out) ∙ ap (λ l. take i out ++ l) h.rest ∙ ap (λ l. l ++ drop i before) (sym front)
      ∙ ap (λ n. lead cs ++ drop n before) (sym long)

  -- in a buffer that is long enough
  long_enough : (r : Result ℕ Stop) (out : List T) → length cs ≤ length before → r ≡ ending (length cs) 0 cs → out ≡ lead cs ++ drop (length (lead cs)) before → (r, out) ≡ flattened cs before
  long_enough r out h e b = let t : ltb (length before) (length cs) ≡ false = le-ltb _ _ h in rw t (λ j. (e j, b j))

  pub ended : (i : ℕ) (out : List T) → SoFar i out → length cs ≤ length before → i ≤ length out → length cs ≤ i
      → (r : Result ℕ Stop) → r ≡ Ok (length cs) → (r, out) ≡ flattened cs before
  ended i out h fits within past r e =
      let none = drop_all i cs past in
      long_enough r out fits (e ∙ sym (h.clear ∙ ap (ending (length cs) i) none)) (whole i out h within (ap lead none))

  pub stopped : (i : ℕ) (out : List T) (f : Fault) → SoFar i out → length cs ≤ length before → i ≤ length out → nth cs i ≡ Ok (cell.Fault f)
      → (r : Result ℕ Stop) → r ≡ Err (fault_at i f) → (r, out) ≡ flattened cs before
  stopped i out f h fits within e r s =
      let front = nth_drop cs i (cell.Fault f) e in
      long_enough r out fits (s ∙ sym (h.clear ∙ ap (ending (length cs) i) front)) (whole i out h within (ap lead front))
