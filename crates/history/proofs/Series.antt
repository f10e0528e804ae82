-- The length, and what is read: the base's cells with the accepted corrections made on them in turn.
use Rattle.std.proofs.Common.{◌≡◌, ℕ, suc, ◌+◌, ◌<◌, ◌≤◌, List, [], ◌∷◌, ◌++◌, map, length, sym, refl, ap, ◌∙◌, ap₂, add-zero, zero-add, arith}
use mathlib.Core.List.{map-map, map-append}
use lib.ListN.{length-map}
use Rattle.std.specs.Result.{result_unwrap_or}
use Rattle.series.specs.declared.cell.Cell.{Cell}
use Rattle.series.specs.declared.cell.Cell.TheVariants.{Fault}
use Rattle.series.specs.Faults.{past_base}
use Rattle.series.specs.Lists.{nth, spliced, up_from}
use Rattle.journal.specs.Machine.{State, Correction, place, word, answers, start, edited}
use Rattle.journal.proofs.Tidying.{answers-tidied}
use Rattle.history.specs.Calls.{Call, ran}
use Rattle.history.specs.Laid.{cell_of, laid, readings, corrections}
use Rattle.history.specs.History.{Turn, accepted, all_struck, all_entered}
use Rattle.journal.proofs.Fills.{map-spliced}
use Rattle.history.proofs.Lists.{length-spliced, length-up_from}
use Rattle.history.proofs.Runs.{keeps, fits, answers-start, answers-edited}

module _ {W : Type 0} where
  abbrev of : Turn W → Correction W
  of t = t.made

  struck_snoc : (cs : List (Correction W)) (c : Correction W) → all_struck (cs ++ (c ∷ [])) ≡ all_struck cs + c.strikes
  struck_snoc [] c = omega arith
  struck_snoc (d ∷ cs) c = omega (arith, struck_snoc cs c)

  entered_snoc : (cs : List (Correction W)) (c : Correction W) → all_entered (cs ++ (c ∷ [])) ≡ all_entered cs + length c.enters
  entered_snoc [] c = omega arith
  entered_snoc (d ∷ cs) c = omega (arith, entered_snoc cs c)

  balance_step : (n : ℕ) (st : State W) (c : Correction W) (ts : List (Turn W)) → c.at + c.strikes ≤ length (answers st) →
      length (answers st) + all_struck (map of ts) ≡ n + all_entered (map of ts) →
      length (answers (edited st c)) + all_struck (map of (ts ++ (record { met = st; made = c } ∷ []))) ≡
      n + all_entered (map of (ts ++ (record { met = st; made = c } ∷ [])))
  balance_step n st c ts fit h =
      let more = map-append of ts (record { met = st; made = c } ∷ []) in
      omega (
        arith,
        ap length (answers-edited st c),
        length-spliced c.at c.strikes (map word c.enters) (answers st) fit,
        length-map c.enters word,
        ap all_struck more,
        ap all_entered more,
        struck_snoc (map of ts) c,
        entered_snoc (map of ts) c,
      )

  pub balance : (n : ℕ) (calls : List (Call W)) →
      length (answers (ran (start n) calls)) + all_struck (accepted n calls) ≡ n + all_entered (accepted n calls)
  balance n calls =
      let long : length (answers {W = W} (start n)) ≡ n = simp (length-map, length-up_from) in
      keeps (λ (ts : List (Turn W)) (st : State W). length (answers st) + all_struck (map of ts) ≡ n + all_entered (map of ts))
      (λ ts st c e h. balance_step n st c ts (fits st c e) h) (λ ts st h. omega (arith, ap length (answers-tidied st)))
      calls (start n) (omega arith)

-- all places of a list in turn
each : {C : Type 0} (d : ℕ → C) (all rest : List C) (k : ℕ) → ((i : ℕ) → i < length rest → nth all (k + i) ≡ nth rest i) →
    map (λ (m : ℕ). result_unwrap_or (nth all m) (d m)) (up_from k (length rest)) ≡ rest
each d all [] k h = refl
each {C} d all (x ∷ rest) k h =
    ap₂ ◌∷◌ (ap (λ r. result_unwrap_or r (d k)) (ap (nth all) (sym (add-zero k)) ∙ h 0 (omega arith)))
    (each d all rest (suc k) (λ i l. let e : suc k + i ≡ k + suc i = omega arith in ap (nth all) e ∙ h (suc i) (omega arith)))

module _ {W R : Type 0} (decode : W → R) (tag : ℕ) (cells : List (Cell R)) where
  corrections_snoc : (cs : List (Correction W)) (c : Correction W) (xs : List (Cell R)) →
      corrections decode xs (cs ++ (c ∷ [])) ≡ spliced c.at c.strikes (readings decode c) (corrections decode xs cs)
  corrections_snoc [] c xs = refl
  corrections_snoc (d ∷ cs) c xs = corrections_snoc cs c (spliced d.at d.strikes (readings decode d) xs)

  -- what is read after a correction is what was read before with the correction made on it
  pub laid-edited : (st : State W) (c : Correction W) →
      laid decode tag cells (edited st c) ≡ spliced c.at c.strikes (readings decode c) (laid decode tag cells st)
  laid-edited st c =
      ap (map (cell_of decode tag cells)) (answers-edited st c) ∙
      map-spliced (cell_of decode tag cells) c.at c.strikes (map word c.enters) (answers st) ∙
      ap (λ (l : List (Cell R)). spliced c.at c.strikes l (laid decode tag cells st)) (map-map (cell_of decode tag cells) word c.enters)

  series_step : (st : State W) (c : Correction W) (ts : List (Turn W)) → laid decode tag cells st ≡ corrections decode cells (map of ts) →
      laid decode tag cells (edited st c) ≡ corrections decode cells (map of (ts ++ (record { met = st; made = c } ∷ [])))
  series_step st c ts h =
      laid-edited st c ∙ ap (spliced c.at c.strikes (readings decode c)) h ∙
      sym (ap (corrections decode cells) (map-append of ts (record { met = st; made = c } ∷ [])) ∙ corrections_snoc (map of ts) c cells)

  -- a journal that was just started reads as the base
  pub laid-start : laid decode tag cells (start (length cells)) ≡ cells
  laid-start =
      ap (map (cell_of decode tag cells)) (answers-start (length cells)) ∙ map-map (cell_of decode tag cells) place (up_from 0 (length cells)) ∙
      each (λ m. Fault (past_base tag m)) cells cells 0 (λ i l. ap (nth cells) (zero-add i))

  -- at the end of a history, the base's cells with the accepted corrections made on them in turn
  pub laid-ran : (calls : List (Call W)) → laid decode tag cells (ran (start (length cells)) calls) ≡ corrections decode cells (accepted (length cells) calls)
  laid-ran calls =
      keeps (λ (ts : List (Turn W)) (st : State W). laid decode tag cells st ≡ corrections decode cells (map of ts))
      (λ ts st c e h. series_step st c ts h) (λ ts st h. ap (map (cell_of decode tag cells)) (answers-tidied st) ∙ h) calls (start (length cells)) laid-start
