-- What a start and an accepted correction do to the answers; and what every accepted correction and tidying keep, every history
-- keeps.
use Rattle.std.proofs.Common.{◌≡◌, ℕ, suc, ◌+◌, ◌-◌, ◌<◌, ◌≤◌, Bool, true, false, cond, ◌&&◌, ltb, List, [], ◌∷◌, ◌++◌, map, length, is_ok, Ok, Err, Result, sym, refl, ap, ◌∙◌, subst, append_assoc, append-nil, zero-add, arith}
use mathlib.Core.Path.{subst⁻¹}
use mathlib.Core.List.{map-map}
use lib.ListN.{length-map}
use Rattle.std.proofs.lemmas.Bool.{ltb-false, false≢true}
use Rattle.series.specs.Lists.{nth, spliced, up_from, indexed}
use Rattle.journal.specs.Machine.{State, Correction, Answer, base, place, word, answer, answers, start, numbered, edited, pieces, passes, corrected, corrected_all, all_pass}
use Rattle.journal.specs.Tidied.{tidied}
use Rattle.journal.proofs.Nths.{nth-map_ok, nth_unmap}
use Rattle.history.specs.Calls.{Call, correct, draft, batch, tidy, called, ran}
use Rattle.history.specs.History.{Turn, turn, turns_of, turns_in, turns, map_call}
use Rattle.journal.proofs.Fills.{map-spliced}
use Rattle.history.proofs.Lists.{indexed-same, nth-up_from, up_from-nth}

module _ {W : Type 0} where
  pub length-answers : (st : State W) → length (answers st) ≡ length st.origins
  length-answers st = length-map st.origins answer

  -- what the checks of an accepted correction found
  pub record Passed (st : State W) (c : Correction W) : Type 0 where
    pub inside : c.at + c.strikes ≤ length st.origins
    pub short : (length st.origins - c.strikes) + length c.enters ≤ 1048576
    pub room : length st.words + length c.enters ≤ 1024
    pub few : pieces (edited st c).origins ≤ 256

  pub passed : (st : State W) (c : Correction W) → passes st c ≡ true → Passed st c
  passed st c = go _ refl _ refl _ refl _ refl
    where
      go : (a : Bool) → ltb (length st.origins) (c.at + c.strikes) ≡ a →
          (b : Bool) → ltb 1048576 ((length st.origins - c.strikes) + length c.enters) ≡ b →
          (d : Bool) → ltb 1024 (length st.words + length c.enters) ≡ d →
          (e : Bool) → ltb 256 (pieces (edited st c).origins) ≡ e →
          is_ok (cond {A = Result ℕ ℕ} a (Err 1) (cond b (Err 2) (cond d (Err 3) (cond e (Err 4) (Ok ((length st.origins - c.strikes) + length c.enters)))))) ≡ true →
          Passed st c
      go false i false j false k false l t =
          record {
            inside = ltb-false (length st.origins) (c.at + c.strikes) i;
            short = ltb-false 1048576 ((length st.origins - c.strikes) + length c.enters) j;
            room = ltb-false 1024 (length st.words + length c.enters) k;
            few = ltb-false 256 (pieces (edited st c).origins) l;
          }
      go false i false j false k true l t = absurd (false≢true t)
      go false i false j true k e l t = absurd (false≢true t)
      go false i true j d k e l t = absurd (false≢true t)
      go true i b j d k e l t = absurd (false≢true t)

  -- an accepted correction lies inside the series
  pub fits : (st : State W) (c : Correction W) → passes st c ≡ true → c.at + c.strikes ≤ length (answers st)
  fits st c h = omega (arith, (passed st c h).inside, length-answers st)

  answers-numbered : (ws : List W) (k : ℕ) → map answer (numbered k ws) ≡ map word ws
  answers-numbered [] k = refl
  answers-numbered (w ∷ ws) k = ap (λ (r : List (Answer W)). word w ∷ r) (answers-numbered ws (suc k))

  pub answers-start : (n : ℕ) → answers {W = W} (start n) ≡ map place (up_from 0 n)
  answers-start n = map-map answer base (up_from 0 n)

  pub at-start : (n q : ℕ) (x : Answer W) → nth (answers (start n)) q ≡ Ok x → (x ≡ place q) × (q < n)
  at-start n q x h =
      let w = nth_unmap place (up_from 0 n) q x (sym (ap (λ (l : List (Answer W)). nth l q) (answers-start n)) ∙ h) in
      let u = nth-up_from n 0 q w.0 w.1 in
      (sym w.2 ∙ ap place (u.0 ∙ zero-add q), u.1)

  pub from_start : (n q : ℕ) → q < n → nth (answers {W = W} (start n)) q ≡ Ok (place q)
  from_start n q h =
      ap (λ (l : List (Answer W)). nth l q) (answers-start n) ∙ nth-map_ok place (up_from 0 n) q q (up_from-nth n 0 q h ∙ ap Ok (zero-add q))

  pub answers-edited : (st : State W) (c : Correction W) → answers (edited st c) ≡ spliced c.at c.strikes (map word c.enters) (answers st)
  answers-edited st c =
      map-spliced answer c.at c.strikes (numbered (length st.words) c.enters) st.origins ∙
      ap (λ (l : List (Answer W)). spliced c.at c.strikes l (answers st)) (answers-numbered c.enters (length st.words))

-- One induction for all histories. The calls are made with `label k j` of correction j of call k in its place; P holds before
-- correction j of call k, of the turns until then and the state.
module _ {V W : Type 0} (label : ℕ → ℕ → Correction V → Correction W) (P : ℕ → ℕ → List (Turn W) → State W → Type 0)
    (one : (k j : ℕ) (ts : List (Turn W)) (st : State W) (c : Correction V) → passes st (label k j c) ≡ true → P k j ts st →
    P k (suc j) (ts ++ (record { met = st; made = label k j c } ∷ [])) (edited st (label k j c)))
    (pass : (k j : ℕ) (ts : List (Turn W)) (st : State W) → P k j ts st → P k (suc j) ts st)
    (next : (k j : ℕ) (ts : List (Turn W)) (st : State W) → P k j ts st → P (suc k) 0 ts st)
    (tidies : (k j : ℕ) (ts : List (Turn W)) (st : State W) → P k j ts st → P k j ts (tidied st)) where
  keeps_one : (k j : ℕ) (ts : List (Turn W)) (st : State W) (c : Correction V) → P k j ts st → P k (suc j) (ts ++ turn st (label k j c)) (corrected st (label k j c))
  keeps_one k j ts st c h = go (passes st (label k j c)) refl
    where
      go : (b : Bool) → passes st (label k j c) ≡ b →
          P k (suc j) (ts ++ cond b (record { met = st; made = label k j c } ∷ []) []) (cond b (edited st (label k j c)) st)
      go true e = one k j ts st c e h
      go false e = subst⁻¹ (λ (l : List (Turn W)). P k (suc j) l st) (append-nil ts) (pass k j ts st h)

  -- nothing of call k was accepted from correction j on
  none_taken : (k j : ℕ) (ts : List (Turn W)) (st : State W) → P k j ts st → P (suc k) 0 (ts ++ []) st
  none_taken k j ts st h = subst⁻¹ (λ (l : List (Turn W)). P (suc k) 0 l st) (append-nil ts) (next k j ts st h)

  keeps_all : (k j : ℕ) (ts : List (Turn W)) (st : State W) (cs : List (Correction V)) → P k j ts st →
      P (suc k) 0 (ts ++ turns_of st (indexed (label k) j cs)) (corrected_all st (indexed (label k) j cs))
  keeps_all k j ts st [] h = none_taken k j ts st h
  keeps_all k j ts st (c ∷ cs) h =
      let after = corrected st (label k j c) in
      subst (λ (l : List (Turn W)). P (suc k) 0 l (corrected_all (corrected st (label k j c)) (indexed (label k) (suc j) cs)))
      (append_assoc ts (turn st (label k j c)) (turns_of after (indexed (label k) (suc j) cs)))
      (keeps_all k (suc j) (ts ++ turn st (label k j c)) after cs (keeps_one k j ts st c h))

  either : (b : Bool) (k : ℕ) (ts us : List (Turn W)) (s t : State W) → P (suc k) 0 (ts ++ us) s → P k 0 ts t → P (suc k) 0 (ts ++ cond b us []) (cond b s t)
  either true k ts us s t h i = h
  either false k ts us s t h i = none_taken k 0 ts t i

  keeps-call : (k : ℕ) (ts : List (Turn W)) (st : State W) (c : Call V) → P k 0 ts st →
      P (suc k) 0 (ts ++ turns_in st (map_call (label k) c)) (called st (map_call (label k) c))
  keeps-call k ts st (correct c) h = next k 1 (ts ++ turn st (label k 0 c)) (corrected st (label k 0 c)) (keeps_one k 0 ts st c h)
  keeps-call k ts st (draft cs kept) h =
      let ds = indexed (label k) 0 cs in
      either kept k ts (turns_of st ds) (corrected_all st ds) st (keeps_all k 0 ts st cs h) h
  keeps-call k ts st (batch cs whole) h =
      let ds = indexed (label k) 0 cs in
      either (whole && all_pass st ds) k ts (turns_of st ds) (corrected_all st ds) st (keeps_all k 0 ts st cs h) h
  keeps-call k ts st tidy h = none_taken k 0 ts (tidied st) (tidies k 0 ts st h)

  -- the calls with their labels, the first of them call k
  abbrev from : ℕ → List (Call V) → List (Call W)
  from k calls = indexed (λ k. map_call (label k)) k calls

  keeps-from : (calls : List (Call V)) (k : ℕ) (ts : List (Turn W)) (st : State W) → P k 0 ts st →
      (last : ℕ) × P last 0 (ts ++ turns st (from k calls)) (ran st (from k calls))
  keeps-from [] k ts st h = (suc k, none_taken k 0 ts st h)
  keeps-from (c ∷ cs) k ts st h =
      let d = map_call (label k) c in
      let r = keeps-from cs (suc k) (ts ++ turns_in st d) (called st d) (keeps-call k ts st c h) in (
        r.0,
        subst (λ (l : List (Turn W)). P r.0 0 l (ran (called st (map_call (label k) c)) (from (suc k) cs)))
            (append_assoc ts (turns_in st d) (turns (called st d) (from (suc k) cs))) r.1,
      )

  pub keeps-labelled : (calls : List (Call V)) (st : State W) → P 0 0 [] st → (last : ℕ) × P last 0 (turns st (from 0 calls)) (ran st (from 0 calls))
  keeps-labelled calls st h = keeps-from calls 0 [] st h

-- the same of the calls as they are
module _ {W : Type 0} (P : List (Turn W) → State W → Type 0)
    (one : (ts : List (Turn W)) (st : State W) (c : Correction W) → passes st c ≡ true → P ts st → P (ts ++ (record { met = st; made = c } ∷ [])) (edited st c))
    (tidies : (ts : List (Turn W)) (st : State W) → P ts st → P ts (tidied st)) where
  call_same : (c : Call W) → map_call (λ j d. d) c ≡ c
  call_same (correct c) = refl
  call_same (draft cs kept) = ap (λ (l : List (Correction W)). draft l kept) (indexed-same (λ j d. d) (λ j d. refl) cs)
  call_same (batch cs whole) = ap (λ (l : List (Correction W)). batch l whole) (indexed-same (λ j d. d) (λ j d. refl) cs)
  call_same tidy = refl

  pub keeps : (calls : List (Call W)) (st : State W) → P [] st → P (turns st calls) (ran st calls)
  keeps calls st h =
      subst (λ (l : List (Call W)). P (turns st l) (ran st l)) (indexed-same (λ k. map_call (λ j d. d)) (λ k. call_same) calls)
      (keeps-labelled (λ k j c. c) (λ k j. P) (λ k j. one) (λ k j ts s p. p) (λ k j ts s p. p) (λ k j. tidies) calls st h).1
