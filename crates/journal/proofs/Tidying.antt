-- Tidying, and that a tidied journal is given by its start and its answers.
use Rattle.std.proofs.Common.{◌≡◌, ℕ, zero, suc, ◌≤◌, List, [], ◌∷◌, map, length, sym, refl, ap, ◌∙◌, ap₂, arith}
use Rattle.series.specs.Lists.{up_from}
use Rattle.journal.specs.Machine.{Origin, base, entered, Answer, place, word, State, answer, answers, pieces}
use Rattle.journal.specs.Tidied.{words_in, renumbered, neat, tidied}
use Rattle.journal.specs.declared.piece.Piece.{Piece}
use Rattle.journal.specs.Pieces.{spread, gathered}
use Rattle.journal.specs.Tidiness.{numbers, IsTidied, stored, TidiedLaw}
use Rattle.journal.proofs.Gathered.{pieces-gathered}
use Rattle.journal.proofs.Rivals.{least, least-spread, pieces-renumbered}

module _ {W : Type 0} where
  answers-renumbered : (xs : List (Answer W)) (k : ℕ) → map answer (renumbered k xs) ≡ xs
  answers-renumbered [] k = refl
  answers-renumbered (place m ∷ xs) k = ap (λ (r : List (Answer W)). place m ∷ r) (answers-renumbered xs k)
  answers-renumbered (word w ∷ xs) k = ap (λ (r : List (Answer W)). word w ∷ r) (answers-renumbered xs (suc k))

  pub answers-neat : (n : ℕ) (xs : List (Answer W)) → answers (neat n xs) ≡ xs
  answers-neat n xs = answers-renumbered xs 0

  pub answers-tidied : (st : State W) → answers (tidied st) ≡ answers st
  answers-tidied st = answers-neat st.started (answers st)

  numbers-renumbered : (xs : List (Answer W)) (k : ℕ) → numbers (renumbered k xs) ≡ up_from k (length (words_in xs))
  numbers-renumbered [] k = refl
  numbers-renumbered (place m ∷ xs) k = numbers-renumbered xs k
  numbers-renumbered (word w ∷ xs) k = ap (λ (r : List ℕ). k ∷ r) (numbers-renumbered xs (suc k))

  pub tidied-neat : (n : ℕ) (xs : List (Answer W)) → IsTidied (neat n xs)
  tidied-neat n xs = record { in_order = numbers-renumbered xs 0; in_use = ap words_in (sym (answers-neat n xs)) }

  -- origins whose words are numbered in order from k on
  renumbered-same : (os : List (Origin W)) (k n : ℕ) → numbers os ≡ up_from k n → renumbered k (map answer os) ≡ os
  renumbered-same [] k n e = refl
  renumbered-same (base m ∷ os) k n e = ap (λ (r : List (Origin W)). base m ∷ r) (renumbered-same os k n e)
  renumbered-same (entered j w ∷ os) k zero e = let z : ◌≡◌ {A = ℕ} 0 1 = cc in absurd (omega arith)
  renumbered-same (entered j w ∷ os) k (suc n) e =
      let first : k ≡ j = cc in
      let others : numbers os ≡ up_from (suc k) n = cc in
      ap₂ (λ (i : ℕ) (r : List (Origin W)). entered i w ∷ r) first (renumbered-same os (suc k) n others)

  pub tidied-same : (st : State W) → IsTidied st → tidied st ≡ st
  tidied-same st t =
      ap₂ (λ (os : List (Origin W)) (ws : List W). let s : State W = record { started = st.started; origins = os; words = ws } in s)
      (renumbered-same st.origins 0 (length st.words) t.in_order) (sym t.in_use)

  pub fewest : (st : State W) → IsTidied st → (rival : List Piece) (store : ℕ → W) → map (stored store) (spread rival) ≡ answers st →
      length (gathered st.origins) ≤ length rival
  fewest st t rival store e =
      omega (
        arith,
        pieces-gathered st.origins,
        ap (λ (s : State W). pieces s.origins) (tidied-same st t),
        pieces-renumbered (answers st) 0,
        ap least e,
        least-spread store rival,
      )

pub tidied_law : (W : Type 0) → TidiedLaw W
tidied_law W =
    record {
      tidies = λ st. tidied-neat st.started (answers st);
      begun = λ st. refl;
      same = answers-tidied;
      still = tidied-same;
      twice = λ st. ap (neat st.started) (answers-tidied st);
      equal = λ a b s t n xs. sym (tidied-same a s) ∙ ap₂ (neat {W = W}) n xs ∙ tidied-same b t;
      fewest = fewest;
      counted = pieces-gathered;
    }
