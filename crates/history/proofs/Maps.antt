-- The machine looks at no word: run over the images of words, it does the same.
use Rattle.std.proofs.Common.{◌≡◌, ℕ, suc, ◌+◌, ◌-◌, Bool, true, false, cond, ◌&&◌, ltb, List, [], ◌∷◌, ◌++◌, map, length, is_ok, Ok, Err, Result, sym, refl, ap, ◌∙◌, ap₂}
use mathlib.Core.List.{map-map, map-append, map_congr_left}
use lib.ListN.{length-map}
use Rattle.series.specs.Lists.{spliced, up_from}
use Rattle.journal.specs.Machine.{Origin, base, entered, State, Correction, correction, Answer, place, word, answer, answers, start, numbered, edited, pieces, check, passes, corrected, corrected_all, all_pass}
use Rattle.journal.specs.Tidied.{words_in, renumbered, neat, tidied}
use Rattle.journal.specs.Pieces.{bare}
use Rattle.journal.proofs.Gathered.{pieces-bare}
use Rattle.history.specs.Calls.{Call, correct, draft, batch, tidy, called, ran}
use Rattle.history.specs.History.{Turn, turn, turns_of, turns_in, turns}
use Rattle.journal.proofs.Fills.{map-spliced}

-- a check, by all the numbers that it looks at
abbrev verdict : ℕ → ℕ → ℕ → ℕ → ℕ → ℕ → Result ℕ ℕ
verdict n p s used more count =
    cond (ltb n (p + s)) (Err 1)
    (cond (ltb 1048576 ((n - s) + more)) (Err 2)
    (cond (ltb 1024 (used + more)) (Err 3)
    (cond (ltb 256 count) (Err 4) (Ok ((n - s) + more)))))

cond_ap : {A B : Type 0} (f : A → B) (b : Bool) (x y : A) → cond b (f x) (f y) ≡ f (cond b x y)
cond_ap f true x y = refl
cond_ap f false x y = refl

module _ {V W : Type 0} (f : V → W) where
  abbrev map_o : Origin V → Origin W
  map_o (base m) = base m
  map_o (entered j v) = entered j (f v)

  abbrev pub map_a : Answer V → Answer W
  map_a (place m) = place m
  map_a (word v) = word (f v)

  abbrev pub map_c : Correction V → Correction W
  map_c c = correction c.at c.strikes (map f c.enters)

  abbrev pub map_s : State V → State W
  map_s st = record { started = st.started; origins = map map_o st.origins; words = map f st.words }

  abbrev pub map_k : Call V → Call W
  map_k (correct c) = correct (map_c c)
  map_k (draft cs kept) = draft (map map_c cs) kept
  map_k (batch cs whole) = batch (map map_c cs) whole
  map_k tidy = tidy

  abbrev pub map_t : Turn V → Turn W
  map_t t = record { met = map_s t.met; made = map_c t.made }

  bare-map : (o : Origin V) → bare (map_o o) ≡ bare o
  bare-map (base m) = refl
  bare-map (entered j v) = refl

  pieces-map : (os : List (Origin V)) → pieces (map map_o os) ≡ pieces os
  pieces-map os =
      sym (pieces-bare (map map_o os)) ∙ ap pieces (map-map bare map_o os ∙ map_congr_left (λ o m. bare-map o)) ∙ pieces-bare os

  numbered-map : (vs : List V) (k : ℕ) → numbered k (map f vs) ≡ map map_o (numbered k vs)
  numbered-map [] k = refl
  numbered-map (v ∷ vs) k = ap (λ (r : List (Origin W)). entered k (f v) ∷ r) (numbered-map vs (suc k))

  answer-map : (o : Origin V) → answer (map_o o) ≡ map_a (answer o)
  answer-map (base m) = refl
  answer-map (entered j v) = refl

  pub answers-map : (st : State V) → answers (map_s st) ≡ map map_a (answers st)
  answers-map st = map-map answer map_o st.origins ∙ map_congr_left (λ o m. answer-map o) ∙ sym (map-map map_a answer st.origins)

  abbrev state_of : ℕ → List (Origin W) → List W → State W
  state_of n os ws = record { started = n; origins = os; words = ws }

  pub start-map : (n : ℕ) → start n ≡ map_s (start n)
  start-map n = ap (λ (os : List (Origin W)). state_of n os []) (sym (map-map map_o base (up_from 0 n)))

  renumbered-map : (xs : List (Answer V)) (k : ℕ) → renumbered k (map map_a xs) ≡ map map_o (renumbered k xs)
  renumbered-map [] k = refl
  renumbered-map (place m ∷ xs) k = ap (λ (r : List (Origin W)). base m ∷ r) (renumbered-map xs k)
  renumbered-map (word v ∷ xs) k = ap (λ (r : List (Origin W)). entered k (f v) ∷ r) (renumbered-map xs (suc k))

  words-map : (xs : List (Answer V)) → words_in (map map_a xs) ≡ map f (words_in xs)
  words-map [] = refl
  words-map (place m ∷ xs) = words-map xs
  words-map (word v ∷ xs) = ap (λ (r : List W). f v ∷ r) (words-map xs)

  tidied-map : (st : State V) → tidied (map_s st) ≡ map_s (tidied st)
  tidied-map st =
      ap (neat st.started) (answers-map st) ∙ ap₂ (state_of st.started) (renumbered-map (answers st) 0) (words-map (answers st))

  edited-map : (st : State V) (c : Correction V) → edited (map_s st) (map_c c) ≡ map_s (edited st c)
  edited-map st c =
      ap₂ (state_of st.started)
      (ap (λ (l : List (Origin W)). spliced c.at c.strikes l (map map_o st.origins))
      (ap (λ (k : ℕ). numbered k (map f c.enters)) (length-map st.words f) ∙ numbered-map c.enters (length st.words)) ∙
      sym (map-spliced map_o c.at c.strikes (numbered (length st.words) c.enters) st.origins))
      (sym (map-append f st.words c.enters))

  check-map : (st : State V) (c : Correction V) → check (map_s st) (map_c c) ≡ check st c
  check-map st c =
      let count = pieces (edited (map_s st) (map_c c)).origins in
      ap₂ (λ (n m : ℕ). verdict n c.at c.strikes (length (map f st.words)) m count) (length-map st.origins map_o) (length-map c.enters f) ∙
      ap₂ (λ (u : ℕ) (k : ℕ). verdict (length st.origins) c.at c.strikes u (length c.enters) k) (length-map st.words f)
      (ap (λ (s : State W). pieces s.origins) (edited-map st c) ∙ pieces-map (edited st c).origins)

  passes-map : (st : State V) (c : Correction V) → passes (map_s st) (map_c c) ≡ passes st c
  passes-map st c = ap is_ok (check-map st c)

  corrected-map : (st : State V) (c : Correction V) → corrected (map_s st) (map_c c) ≡ map_s (corrected st c)
  corrected-map st c =
      ap₂ (λ (b : Bool) (s : State W). cond b s (map_s st)) (passes-map st c) (edited-map st c) ∙ cond_ap map_s (passes st c) (edited st c) st

  all_map : (cs : List (Correction V)) (st : State V) → corrected_all (map_s st) (map map_c cs) ≡ map_s (corrected_all st cs)
  all_map [] st = refl
  all_map (c ∷ cs) st = ap (λ (s : State W). corrected_all s (map map_c cs)) (corrected-map st c) ∙ all_map cs (corrected st c)

  pass-map : (cs : List (Correction V)) (st : State V) → all_pass (map_s st) (map map_c cs) ≡ all_pass st cs
  pass-map [] st = refl
  pass-map (c ∷ cs) st = ap₂ ◌&&◌ (passes-map st c) (ap (λ (s : State W). all_pass s (map map_c cs)) (corrected-map st c) ∙ pass-map cs (corrected st c))

  called-map : (st : State V) (k : Call V) → called (map_s st) (map_k k) ≡ map_s (called st k)
  called-map st (correct c) = corrected-map st c
  called-map st (draft cs kept) = ap (λ (s : State W). cond kept s (map_s st)) (all_map cs st) ∙ cond_ap map_s kept (corrected_all st cs) st
  called-map st (batch cs whole) =
      ap₂ (λ (b : Bool) (s : State W). cond (whole && b) s (map_s st)) (pass-map cs st) (all_map cs st) ∙ cond_ap map_s (whole && all_pass st cs) (corrected_all st cs) st
  called-map st tidy = tidied-map st

  pub ran-map : (ks : List (Call V)) (st : State V) → ran (map_s st) (map map_k ks) ≡ map_s (ran st ks)
  ran-map [] st = refl
  ran-map (k ∷ ks) st = ap (λ (s : State W). ran s (map map_k ks)) (called-map st k) ∙ ran-map ks (called st k)

  turn-map : (st : State V) (c : Correction V) → turn (map_s st) (map_c c) ≡ map map_t (turn st c)
  turn-map st c =
      ap (λ (b : Bool). cond b (map_t (record { met = st; made = c }) ∷ []) []) (passes-map st c) ∙ cond_ap (map map_t) (passes st c) (record { met = st; made = c } ∷ []) []

  turns_of-map : (cs : List (Correction V)) (st : State V) → turns_of (map_s st) (map map_c cs) ≡ map map_t (turns_of st cs)
  turns_of-map [] st = refl
  turns_of-map (c ∷ cs) st =
      ap₂ ◌++◌ (turn-map st c) (ap (λ (s : State W). turns_of s (map map_c cs)) (corrected-map st c) ∙ turns_of-map cs (corrected st c)) ∙
      sym (map-append map_t (turn st c) (turns_of (corrected st c) cs))

  turns_in-map : (st : State V) (k : Call V) → turns_in (map_s st) (map_k k) ≡ map map_t (turns_in st k)
  turns_in-map st (correct c) = turn-map st c
  turns_in-map st (draft cs kept) = ap (λ (l : List (Turn W)). cond kept l []) (turns_of-map cs st) ∙ cond_ap (map map_t) kept (turns_of st cs) []
  turns_in-map st (batch cs whole) =
      ap₂ (λ (b : Bool) (l : List (Turn W)). cond (whole && b) l []) (pass-map cs st) (turns_of-map cs st) ∙ cond_ap (map map_t) (whole && all_pass st cs) (turns_of st cs) []
  turns_in-map st tidy = refl

  pub turns-map : (ks : List (Call V)) (st : State V) → turns (map_s st) (map map_k ks) ≡ map map_t (turns st ks)
  turns-map [] st = refl
  turns-map (k ∷ ks) st =
      ap₂ ◌++◌ (turns_in-map st k) (ap (λ (s : State W). turns s (map map_k ks)) (called-map st k) ∙ turns-map ks (called st k)) ∙
      sym (map-append map_t (turns_in st k) (turns (called st k) ks))
