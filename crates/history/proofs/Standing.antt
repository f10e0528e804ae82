-- Who stands where in the run of the labelled calls.
use Rattle.std.proofs.Common.{◌≡◌, ℕ, zero, suc, ◌+◌, ◌-◌, ◌<◌, ◌≤◌, ◌⊎◌, List, [], ◌∷◌, ◌++◌, map, length, Ok, sym, refl, ap, ◌∙◌, subst, inl, inr, arith}
use mathlib.Core.Path.{subst⁻¹}
use Rattle.std.proofs.lemmas.Bool.{cases_lt}
use Rattle.series.specs.Lists.{nth, spliced, indexed}
use Rattle.journal.specs.Machine.{State, Correction, Answer, place, word, answers, start, edited}
use Rattle.journal.proofs.Nths.{none, nth-map_ok, nth_unmap}
use Rattle.journal.proofs.Tidying.{answers-tidied}
use Rattle.history.specs.Calls.{Call, ran}
use Rattle.history.specs.History.{Turn, turns, Entry, Item, entry, label_correction, labelled, EnteredIn, StruckIn, KnownIn, Once}
use Rattle.history.proofs.Lists.{Ways, before, fresh, behind, ways, unways, nth_more, nth_end, nth_last}
use Rattle.history.proofs.Runs.{fits, answers-edited, at-start, from_start, keeps-labelled}
use Rattle.history.proofs.Bases.{not_word}

module _ {E : Type 0} (ts : List (Turn E)) (t : Turn E) where
  entered_more : (e : E) → EnteredIn ts e → EnteredIn (ts ++ (t ∷ [])) e
  entered_more e h =
      record { number = h.number; by = h.by; accepts = nth_more ts (t ∷ []) h.number h.by h.accepts; index = h.index; enters = h.enters }

  entered-now : (e : E) (i : ℕ) → nth t.made.enters i ≡ Ok e → EnteredIn (ts ++ (t ∷ [])) e
  entered-now e i h = record { number = length ts; by = t; accepts = nth_end ts t; index = i; enters = h }

  entered_cases : (e : E) → EnteredIn (ts ++ (t ∷ [])) e → EnteredIn ts e ⊎ ((i : ℕ) × (nth t.made.enters i ≡ Ok e))
  entered_cases e h = go (nth_last ts t h.number h.by h.accepts)
    where
      go : (nth ts h.number ≡ Ok h.by) ⊎ (t ≡ h.by) → EnteredIn ts e ⊎ ((i : ℕ) × (nth t.made.enters i ≡ Ok e))
      go (inl a) = inl (record { number = h.number; by = h.by; accepts = a; index = h.index; enters = h.enters })
      go (inr a) = inr (h.index, subst⁻¹ (λ (u : Turn E). nth u.made.enters h.index ≡ Ok e) a h.enters)

  struck_more : (x : Answer E) → StruckIn ts x → StruckIn (ts ++ (t ∷ [])) x
  struck_more x h =
      record {
        number = h.number;
        by = h.by;
        accepts = nth_more ts (t ∷ []) h.number h.by h.accepts;
        at = h.at;
        stood = h.stood;
        from = h.from;
        below = h.below;
      }

  struck-now : (x : Answer E) (q : ℕ) → nth (answers t.met) q ≡ Ok x → t.made.at ≤ q → q < t.made.at + t.made.strikes → StruckIn (ts ++ (t ∷ [])) x
  struck-now x q s l m = record { number = length ts; by = t; accepts = nth_end ts t; at = q; stood = s; from = omega arith; below = omega arith }

  -- turn t strikes what it met as x
  abbrev Now : Answer E → Type 0
  Now x = (q : ℕ) × (nth (answers t.met) q ≡ Ok x) × (t.made.at ≤ q) × (q < t.made.at + t.made.strikes)

  struck_cases : (x : Answer E) → StruckIn (ts ++ (t ∷ [])) x → StruckIn ts x ⊎ Now x
  struck_cases x h = go (nth_last ts t h.number h.by h.accepts)
    where
      go : (nth ts h.number ≡ Ok h.by) ⊎ (t ≡ h.by) → StruckIn ts x ⊎ Now x
      go (inl a) =
          inl (record { number = h.number; by = h.by; accepts = a; at = h.at; stood = h.stood; from = h.from; below = h.below })
      go (inr a) =
          inr (
            h.at,
            subst⁻¹ (λ (u : Turn E). nth (answers u.met) h.at ≡ Ok x) a h.stood,
            subst⁻¹ (λ (u : Turn E). u.made.at ≤ h.at) a h.from,
            subst⁻¹ (λ (u : Turn E). h.at < u.made.at + u.made.strikes) a h.below,
          )

  known_more : (n : ℕ) (x : Answer E) → KnownIn n ts x → KnownIn n (ts ++ (t ∷ [])) x
  known_more n (place m) h = h
  known_more n (word e) h = entered_more e h

  -- turn t enters x
  abbrev New : Answer E → Type 0
  New x = (i : ℕ) × (nth (map word t.made.enters) i ≡ Ok x)

  known-new : (n : ℕ) (x : Answer E) → New x → KnownIn n (ts ++ (t ∷ [])) x
  known-new n x (i, h) =
      let w = nth_unmap word t.made.enters i x h in
      subst (KnownIn n (ts ++ (t ∷ []))) w.2 (entered-now w.0 i w.1)

  known_cases : (n : ℕ) (x : Answer E) → KnownIn n (ts ++ (t ∷ [])) x → KnownIn n ts x ⊎ New x
  known_cases n (place m) h = inl h
  known_cases n (word e) h = go (entered_cases e h)
    where
      go : EnteredIn ts e ⊎ ((i : ℕ) × (nth t.made.enters i ≡ Ok e)) → EnteredIn ts e ⊎ New (word e)
      go (inl a) = inl a
      go (inr (i, a)) = inr (i, nth-map_ok word t.made.enters i e a)

module _ {W : Type 0} where
  -- what the label of word q says
  labels : (k j i : ℕ) (ws : List W) (q : ℕ) (e : Entry W) → nth (indexed (entry k j) i ws) q ≡ Ok e → (e.call ≡ k) × (e.correction ≡ j) × (e.index ≡ i + q)
  labels k j i [] q e h = absurd (none q e h)
  labels k j i (w ∷ ws) zero e h =
      let same : entry k j i w ≡ e = cc in
      (ap (λ (d : Entry W). d.call) (sym same), ap (λ (d : Entry W). d.correction) (sym same), omega (arith, ap (λ (d : Entry W). d.index) (sym same)))
  labels k j i (w ∷ ws) (suc q) e h =
      let r = labels k j (suc i) ws q e h in (r.0, r.1, omega (arith, r.2))

  -- entered before the j-th correction of the k-th call
  abbrev Before : ℕ → ℕ → Entry W → Type 0
  Before k j e = (e.call < k) ⊎ ((e.call ≡ k) × (e.correction < j))

  before_more : (k j : ℕ) (e : Entry W) → Before k j e → Before k (suc j) e
  before_more k j e (inl h) = inl h
  before_more k j e (inr (h, l)) = inr (h, omega arith)

  before-call : (k j : ℕ) (e : Entry W) → Before k j e → Before (suc k) 0 e
  before-call k j e (inl h) = inl (omega arith)
  before-call k j e (inr (h, l)) = inl (omega arith)

  not_before : (k j : ℕ) (e : Entry W) → e.call ≡ k → e.correction ≡ j → Before k j e → ⊥
  not_before k j e a b (inl h) = omega arith
  not_before k j e a b (inr (h, l)) = omega arith

  -- x stands once and is not struck, or stands nowhere and is
  abbrev Fate : List (Turn (Entry W)) → List (Item W) → Item W → Type 0
  Fate ts xs x = (Once (λ q. nth xs q ≡ Ok x) × (StruckIn ts x → ⊥)) ⊎ (((q : ℕ) → nth xs q ≡ Ok x → ⊥) × StruckIn ts x)

  -- what holds before correction j of call k, of the turns until then and what stands
  pub record Inv (n k j : ℕ) (ts : List (Turn (Entry W))) (xs : List (Item W)) : Type 0 where
    pub known : (x : Item W) (q : ℕ) → nth xs q ≡ Ok x → KnownIn n ts x
    pub early : (e : Entry W) → EnteredIn ts e → Before k j e
    pub gone : (x : Item W) → StruckIn ts x → KnownIn n ts x
    pub item : (x : Item W) → KnownIn n ts x → Fate ts xs x
    pub rising : (l m q r : ℕ) → l < m → nth xs q ≡ Ok (place l) → nth xs r ≡ Ok (place m) → q < r

  same_word : (d e : Entry W) → ◌≡◌ {A = Item W} (word d) (word e) → d ≡ e
  same_word d e h = cc

  module _ (n k j : ℕ) (ts : List (Turn (Entry W))) (st : State (Entry W)) (c : Correction W) (inv : Inv n k j ts (answers st))
      (fit : c.at + c.strikes ≤ length (answers st)) where
    abbrev made : Correction (Entry W)
    made = label_correction k j c

    abbrev now : Turn (Entry W)
    now = record { met = st; made = made }

    abbrev p : ℕ
    p = c.at

    abbrev s : ℕ
    s = c.strikes

    abbrev words : List (Entry W)
    words = indexed (entry k j) 0 c.enters

    abbrev new : List (Item W)
    new = map word words

    abbrev old : List (Item W)
    old = answers st

    clash : (x : Item W) (i : ℕ) → KnownIn n ts x → nth new i ≡ Ok x → ⊥
    clash (place m) i h e = not_word words i m e
    clash (word d) i h e =
        let w = nth_unmap word words i (word d) e in
        let same = same_word w.0 d w.2 in
        let t = labels k j 0 c.enters i d (w.1 ∙ ap (λ (a : Entry W). Ok a) same) in
        not_before k j d t.0 t.1 (inv.early d h)

    index_of : (x : Item W) (i : ℕ) → nth new i ≡ Ok x → (d : Entry W) × (x ≡ word d) × (d.index ≡ i)
    index_of x i e =
        let w = nth_unmap word words i x e in
        (w.0, sym w.2, omega (arith, labels k j 0 c.enters i w.0 w.1))

    one_index : (x : Item W) (i l : ℕ) → nth new i ≡ Ok x → nth new l ≡ Ok x → i ≡ l
    one_index x i l a b =
        let u = index_of x i a in
        let v = index_of x l b in
        let same = same_word u.0 v.0 (sym u.1 ∙ v.1) in
        omega (arith, u.2, v.2, ap (λ (d : Entry W). d.index) same)

    fate_new : (x : Item W) (i : ℕ) → nth new i ≡ Ok x → Fate (ts ++ (now ∷ [])) (spliced p s new old) x
    fate_new x i e = inl ((p + i, unways p s new old fit x (p + i) (fresh i refl e), λ r h. at r (ways p s new old fit x r h)), λ h. not (struck_cases ts now x h))
      where
        at : (r : ℕ) → Ways p s new old x r → r ≡ p + i
        at r (before l h) = absurd (clash x i (inv.known x r h) e)
        at r (fresh l h f) = omega (arith, one_index x i l e f)
        at r (behind l a b h) = absurd (clash x i (inv.known x l h) e)

        not : StruckIn ts x ⊎ Now ts now x → ⊥
        not (inl h) = clash x i (inv.gone x h) e
        not (inr h) = clash x i (inv.known x h.0 h.1) e

    fate_known : (x : Item W) → KnownIn n ts x → Fate ts old x → Fate (ts ++ (now ∷ [])) (spliced p s new old) x
    fate_known x kn (inr (never, struck)) = inr (λ q h. at q (ways p s new old fit x q h), struck_more ts now x struck)
      where
        at : (q : ℕ) → Ways p s new old x q → ⊥
        at q (before l h) = never q h
        at q (fresh i h f) = clash x i kn f
        at q (behind r a b h) = never r h
    fate_known x kn (inl ((q, h, only), free)) = go (cases_lt q p) (cases_lt q (p + s))
      where
        unstruck : (q < p) ⊎ (p + s ≤ q) → StruckIn ts x ⊎ Now ts now x → ⊥
        unstruck side (inl a) = free a
        unstruck (inl l) (inr (r, b, d, f)) = omega (arith, only r b)
        unstruck (inr l) (inr (r, b, d, f)) = omega (arith, only r b)

        at_before : q < p → (r : ℕ) → Ways p s new old x r → r ≡ q
        at_before l r (before a b) = only r b
        at_before l r (fresh i a b) = absurd (clash x i kn b)
        at_before l r (behind u a b d) = absurd (omega (arith, only u d))

        at-behind : p + s ≤ q → (r : ℕ) → Ways p s new old x r → r ≡ (q + length new) - s
        at-behind l r (before a b) = absurd (omega (arith, only r b))
        at-behind l r (fresh i a b) = absurd (clash x i kn b)
        at-behind l r (behind u a b d) = omega (arith, only u d)

        at_none : p ≤ q → q < p + s → (r : ℕ) → Ways p s new old x r → ⊥
        at_none l m r (before a b) = omega (arith, only r b)
        at_none l m r (fresh i a b) = clash x i kn b
        at_none l m r (behind u a b d) = omega (arith, only u d)

        go : (q < p) ⊎ (p ≤ q) → (q < p + s) ⊎ (p + s ≤ q) → Fate (ts ++ (now ∷ [])) (spliced p s new old) x
        go (inl l) w = inl ((q, unways p s new old fit x q (before l h), λ r e. at_before l r (ways p s new old fit x r e)), λ e. unstruck (inl l) (struck_cases ts now x e))
        go (inr l) (inl m) = inr (λ r e. at_none l m r (ways p s new old fit x r e), struck-now ts now x q h l m)
        go (inr l) (inr m) =
            inl (((q + length new) - s, unways p s new old fit x ((q + length new) - s) (behind q m (omega arith) h), λ r e. at-behind m r (ways p s new old fit x r e)), λ e. unstruck (inr m) (struck_cases ts now x e))

    known_ways : (x : Item W) (q : ℕ) → Ways p s new old x q → KnownIn n (ts ++ (now ∷ [])) x
    known_ways x q (before l h) = known_more ts now n x (inv.known x q h)
    known_ways x q (fresh i a h) = known-new ts now n x (i, h)
    known_ways x q (behind r a b h) = known_more ts now n x (inv.known x r h)

    early_step : (e : Entry W) → EnteredIn ts e ⊎ ((i : ℕ) × (nth words i ≡ Ok e)) → Before k (suc j) e
    early_step e (inl h) = before_more k j e (inv.early e h)
    early_step e (inr (i, h)) = let t = labels k j 0 c.enters i e h in inr (t.0, omega (arith, t.1))

    gone_step : (x : Item W) → StruckIn ts x ⊎ Now ts now x → KnownIn n (ts ++ (now ∷ [])) x
    gone_step x (inl h) = known_more ts now n x (inv.gone x h)
    gone_step x (inr h) = known_more ts now n x (inv.known x h.0 h.1)

    item_step : (x : Item W) → KnownIn n ts x ⊎ New ts now x → Fate (ts ++ (now ∷ [])) (spliced p s new old) x
    item_step x (inl h) = fate_known x h (inv.item x h)
    item_step x (inr (i, h)) = fate_new x i h

    rising_step : (l m q r : ℕ) → l < m → Ways p s new old (place l) q → Ways p s new old (place m) r → q < r
    rising_step l m q r h (before a b) (before d e) = inv.rising l m q r h b e
    rising_step l m q r h (before a b) (fresh i d e) = absurd (not_word words i m e)
    rising_step l m q r h (before a b) (behind u d e f) = omega arith
    rising_step l m q r h (fresh i a b) w = absurd (not_word words i l b)
    rising_step l m q r h (behind u a b d) (before e f) = omega (arith, inv.rising l m u r h d f)
    rising_step l m q r h (behind u a b d) (fresh i e f) = absurd (not_word words i m f)
    rising_step l m q r h (behind u a b d) (behind v e f g) = omega (arith, inv.rising l m u v h d g)

    inv_edited : Inv n k (suc j) (ts ++ (now ∷ [])) (answers (edited st made))
    inv_edited =
        subst⁻¹ (Inv n k (suc j) (ts ++ (now ∷ []))) (answers-edited st made)
        (record {
          known = λ x q h. known_ways x q (ways p s new old fit x q h);
          early = λ e h. early_step e (entered_cases ts now e h);
          gone = λ x h. gone_step x (struck_cases ts now x h);
          item = λ x h. item_step x (known_cases ts now n x h);
          rising = λ l m q r h a b. rising_step l m q r h (ways p s new old fit (place l) q a) (ways p s new old fit (place m) r b);
        })

  -- to a later point, where nothing was entered meanwhile
  later : (n k j a b : ℕ) (ts : List (Turn (Entry W))) (xs : List (Item W)) → ((e : Entry W) → Before k j e → Before a b e) → Inv n k j ts xs → Inv n a b ts xs
  later n k j a b ts xs f inv =
      record { known = inv.known; early = λ e h. f e (inv.early e h); gone = inv.gone; item = inv.item; rising = inv.rising }

  same_place : (l m : ℕ) → ◌≡◌ {A = Item W} (place l) (place m) → l ≡ m
  same_place l m e = cc

  start-item : (n : ℕ) (x : Item W) → KnownIn n [] x → Fate [] (answers (start n)) x
  start-item n (place m) h =
      inl ((m, from_start n m h, λ r e. sym (same_place m r (at-start n r (place m) e).0)), λ s. none s.number s.by s.accepts)
  start-item n (word e) h = absurd (none h.number h.by h.accepts)

  inv_start : (n : ℕ) → Inv n 0 0 [] (answers (start n))
  inv_start n =
      record {
        known = λ x q h. let w = at-start n q x h in subst⁻¹ (KnownIn n []) w.0 w.1;
        early = λ e h. absurd (none h.number h.by h.accepts);
        gone = λ x h. absurd (none h.number h.by h.accepts);
        item = start-item n;
        rising = λ l m q r h a b. omega (arith, same_place l q (at-start n q (place l) a).0, same_place m r (at-start n r (place m) b).0);
      }

  pub inv_of : (n : ℕ) (calls : List (Call W)) → (last : ℕ) × Inv n last 0 (turns (start n) (labelled calls)) (answers (ran (start n) (labelled calls)))
  inv_of n calls =
      keeps-labelled label_correction (λ k j ts st. Inv n k j ts (answers st))
      (λ k j ts st c e inv. inv_edited n k j ts st c inv (fits st (label_correction k j c) e))
      (λ k j ts st inv. later n k j k (suc j) ts (answers st) (before_more k j) inv)
      (λ k j ts st inv. later n k j (suc k) 0 ts (answers st) (before-call k j) inv)
      (λ k j ts st inv. subst⁻¹ (Inv n k j ts) (answers-tidied st) inv)
      calls (start n) (inv_start n)
