-- What is true of every journal's state; tidying and folding keep it so.
use Rattle.std.proofs.Common.{◌≡◌, ℕ, zero, suc, ◌+◌, ◌<◌, ◌≤◌, List, [], ◌∷◌, map, length, get_or, Ok, sym, refl, ap, ◌∙◌, subst, arith, length-take}
use mathlib.Core.Path.{subst⁻¹}
use lib.ListN.{length-map}
use Rattle.series.specs.Lists.{nth}
use Rattle.series.proofs.Nths.{nth-at}
use Rattle.journal.specs.declared.journal.Journal.{Journal}
use Rattle.journal.specs.Machine.{Origin, base, entered, Answer, place, word, State, answer, answers, pieces}
use Rattle.journal.specs.Tidied.{words_in, renumbered, neat, tidied}
use Rattle.journal.specs.Folded.{followed, folded, fold}
use Rattle.journal.specs.Lawful.{Lawful}
use Rattle.journal.specs.Pieces.{bare, gathered}
use Rattle.journal.specs.Tables.{listed, origins}
use Rattle.journal.specs.Stores.{in_use}
use Rattle.journal.specs.Journals.{filled, state}
use Rattle.journal.proofs.Joins.{Joined, joined_fact, empty_test, joins_test}
use Rattle.journal.proofs.Counts.{pieces-spread, gathered-spread}
use Rattle.journal.proofs.Places.{SoundPieces, Well, placed_well, well_placed, word_count, words_spread}
use Rattle.journal.proofs.Fills.{pieces-filled, gathered-filled, well_nth}
use Rattle.journal.proofs.Journals.{truths, well}
use Rattle.journal.proofs.Nths.{none, nth-some, nth-value, nth_unmap}
use Rattle.journal.proofs.Gathered.{joined-gathered, spread-gathered, total-gathered}
use Rattle.journal.proofs.Rivals.{least-pieces, pieces-renumbered}
use Rattle.journal.proofs.Tidying.{answers-neat}
use Rattle.journal.proofs.Folding.{accepted}

module _ {W : Type 0} where
  -- base places among answers lie from f on and below b, and rise
  pub record Rising (f b : ℕ) (xs : List (Answer W)) : Type 0 where
    pub bound : (q m : ℕ) → nth xs q ≡ Ok (place m) → (f ≤ m) × (m < b)
    pub order : (q r l m : ℕ) → q < r → nth xs q ≡ Ok (place l) → nth xs r ≡ Ok (place m) → l < m

  rising-bound : (os : List (Origin W)) (f b u : ℕ) → Well f b u (map bare os) → (q m : ℕ) → nth (map answer os) q ≡ Ok (place m) → (f ≤ m) × (m < b)
  rising-bound [] f b u w q m e = absurd (none q (place m) e)
  rising-bound (base n ∷ os) f b u w zero m e = let same : n ≡ m = cc in (omega (arith, w.0.0), omega (arith, w.0.1))
  rising-bound (base n ∷ os) f b u w (suc q) m e =
      let h = rising-bound os (suc n) b u w.1 q m e in (omega (arith, w.0.0, h.0), h.1)
  rising-bound (entered k v ∷ os) f b u w zero m e = let z : ◌≡◌ {A = ℕ} 0 1 = cc in absurd (omega arith)
  rising-bound (entered k v ∷ os) f b u w (suc q) m e = rising-bound os f b u w.1 q m e

  rising-order : (os : List (Origin W)) (f b u : ℕ) → Well f b u (map bare os) → (q r l m : ℕ) → q < r →
      nth (map answer os) q ≡ Ok (place l) → nth (map answer os) r ≡ Ok (place m) → l < m
  rising-order [] f b u w q r l m h d e = absurd (none q (place l) d)
  rising-order (o ∷ os) f b u w q zero l m h d e = absurd (omega arith)
  rising-order (base n ∷ os) f b u w zero (suc r) l m h d e =
      let same : n ≡ l = cc in omega (arith, (rising-bound os (suc n) b u w.1 r m e).0)
  rising-order (entered k v ∷ os) f b u w zero (suc r) l m h d e = let z : ◌≡◌ {A = ℕ} 0 1 = cc in absurd (omega arith)
  rising-order (base n ∷ os) f b u w (suc q) (suc r) l m h d e = rising-order os (suc n) b u w.1 q r l m (omega arith) d e
  rising-order (entered k v ∷ os) f b u w (suc q) (suc r) l m h d e = rising-order os f b u w.1 q r l m (omega arith) d e

  well_renumbered : (xs : List (Answer W)) (f b k u : ℕ) → Rising f b xs → k + length (words_in xs) ≤ u → Well f b u (map bare (renumbered k xs))
  well_renumbered [] f b k u h le = tt
  well_renumbered (place m ∷ xs) f b k u h le = (
    h.bound 0 m refl,
    well_renumbered xs (suc m) b k u
        (record {
          bound = λ q l e. (h.order 0 (suc q) m l (omega arith) refl e, (h.bound (suc q) l e).1);
          order = λ q r l n i. h.order (suc q) (suc r) l n (omega arith);
        })
        le,
  )
  well_renumbered (word w ∷ xs) f b k u h le = (
    omega arith,
    well_renumbered xs f b (suc k) u
        (record { bound = λ q. h.bound (suc q); order = λ q r l n i. h.order (suc q) (suc r) l n (omega arith) }) (omega arith),
  )

  count-words : (os : List (Origin W)) → word_count (map bare os) ≡ length (words_in (map answer os))
  count-words [] = refl
  count-words (base m ∷ os) = omega (arith, count-words os)
  count-words (entered k w ∷ os) = omega (arith, count-words os)

  named-renumbered : (xs : List (Answer W)) (k q j : ℕ) (w : W) → nth (renumbered k xs) q ≡ Ok (entered j w) →
      (i : ℕ) × (j ≡ k + i) × (nth (words_in xs) i ≡ Ok w)
  named-renumbered [] k q j w e = absurd (none q (entered j w) e)
  named-renumbered (place m ∷ xs) k zero j w e = let z : ◌≡◌ {A = ℕ} 0 1 = cc in absurd (omega arith)
  named-renumbered (place m ∷ xs) k (suc q) j w e = named-renumbered xs k q j w e
  named-renumbered (word v ∷ xs) k zero j w e = let same : k ≡ j = cc in let own : v ≡ w = cc in (0, omega arith, ap Ok own)
  named-renumbered (word v ∷ xs) k (suc q) j w e =
      let h = named-renumbered xs (suc k) q j w e in (suc h.0, omega (arith, h.1), h.2)

  -- the invariant's facts of the table
  pub sound_lawful : (st : State W) → Lawful st → SoundPieces st.started (length st.words) (gathered st.origins)
  sound_lawful st h =
      record { counts = h.counts; joined = h.joined; short = omega (arith, h.long, h.short); kept = h.kept; inside = h.inside; counted = h.counted }

  pub lawful : (st : State W) → SoundPieces st.started (length st.words) (gathered st.origins) → pieces st.origins ≤ 256 →
      length st.words ≤ 1024 → st.started ≤ 1048576 →
      ((q k : ℕ) (w : W) → nth st.origins q ≡ Ok (entered k w) → nth st.words k ≡ Ok w) → Lawful st
  lawful st t few room based named =
      record {
        few = few;
        room = room;
        short = omega (arith, total-gathered st.origins, t.short);
        based = based;
        counts = t.counts;
        joined = t.joined;
        long = total-gathered st.origins;
        kept = t.kept;
        inside = t.inside;
        counted = t.counted;
        named = named;
      }

  well_of : (st : State W) → Lawful st → Well 0 st.started (length st.words) (map bare st.origins)
  well_of st h =
      subst (Well 0 st.started (length st.words)) (spread-gathered st.origins)
      (placed_well 0 st.started (length st.words) (gathered st.origins) (h.kept, h.inside))

  pub rising : (st : State W) → Lawful st → Rising 0 st.started (answers st)
  rising st h =
      let w = well_of st h in
      record {
        bound = rising-bound st.origins 0 st.started (length st.words) w;
        order = rising-order st.origins 0 st.started (length st.words) w;
      }

  -- the words of the series are no more than those in use
  counted_words : (st : State W) → Lawful st → length (words_in (answers st)) ≤ length st.words
  counted_words st h =
      omega (arith, count-words st.origins, words_spread (gathered st.origins), ap word_count (spread-gathered st.origins), h.counted)

  lawful_neat : (n : ℕ) (xs : List (Answer W)) → n ≤ 1048576 → length xs ≤ 1048576 → Rising 0 n xs → length (words_in xs) ≤ 1024 →
      pieces (renumbered 0 xs) ≤ 256 → Lawful (neat n xs)
  lawful_neat n xs based short h room few =
      let os = renumbered 0 xs in
      let same = spread-gathered (renumbered 0 xs) in
      let placed = well_placed 0 n (length (words_in xs)) (gathered (renumbered 0 xs)) (joined-gathered (renumbered 0 xs))
      (subst⁻¹ (Well 0 n (length (words_in xs))) same (well_renumbered xs 0 n 0 (length (words_in xs)) h (omega arith))) in
      lawful (neat n xs)
      (record {
        counts = empty_test (gathered os) (joined-gathered os);
        joined = joins_test (gathered os) (joined-gathered os);
        short = omega (arith, total-gathered os, length-map (renumbered 0 xs) answer, ap length (answers-neat n xs));
        kept = placed.0;
        inside = placed.1;
        counted = omega (arith, words_spread (gathered os), ap word_count same, count-words os, ap (λ (l : List (Answer W)). length (words_in l)) (answers-neat n xs));
      })
      few room based
      (λ q k w e. let i = named-renumbered xs 0 q k w e in let at : k ≡ i.0 = omega (arith, i.1) in ap (nth (words_in xs)) at ∙ i.2)

  pub lawful_tidied : (st : State W) → Lawful st → Lawful (tidied st)
  lawful_tidied st h =
      lawful_neat st.started (answers st) h.based (omega (arith, length-map st.origins answer, h.short)) (rising st h)
      (omega (arith, counted_words st h, h.room))
      (omega (arith, pieces-renumbered (answers st) 0, least-pieces st.origins, h.few))

  -- base places followed down rise as those that they are followed to
  rising-followed : (b : ℕ) (low high : List (Answer W)) → Rising 0 b low → Rising 0 (length low) high → Rising 0 b (map (followed low) high)
  rising-followed b low high lows highs =
      record {
        bound = λ q m e. let x = from q m e in lows.bound x.0 m x.2;
        order = λ q r l m h d e.
            let x = from q l d in
            let y = from r m e in
            lows.order x.0 y.0 l m (highs.order q r x.0 y.0 h x.1 y.1) x.2 y.2;
      }
    where
      at : (q m : ℕ) (a : Answer W) → nth high q ≡ Ok a → followed low a ≡ place m → (l : ℕ) × (nth high q ≡ Ok (place l)) × (nth low l ≡ Ok (place m))
      at q m (word w) e f = let z : ◌≡◌ {A = ℕ} 0 1 = cc in absurd (omega arith)
      at q m (place l) e f =
          let x = nth-some low l (highs.bound q l e).1 in (l, e, x.1 ∙ ap Ok (sym (nth-value low l x.0 (place l) x.1) ∙ f))

      from : (q m : ℕ) → nth (map (followed low) high) q ≡ Ok (place m) → (l : ℕ) × (nth high q ≡ Ok (place l)) × (nth low l ≡ Ok (place m))
      from q m e = let x = nth_unmap (followed low) high q (place m) e in at q m x.0 x.1 x.2

  pub lawful_fold : (lower upper both : State W) → Lawful lower → Lawful upper → fold lower upper ≡ Ok both → Lawful both
  lawful_fold lower upper both l u h =
      let a = accepted lower upper both h in
      let xs = map (followed (answers lower)) (answers upper) in
      let same : folded lower upper ≡ both = a.is in
      subst Lawful same
      (lawful_neat lower.started xs l.based (omega (arith, length-map (answers upper) (followed (answers lower)), length-map upper.origins answer, u.short))
      (rising-followed lower.started (answers lower) (answers upper) (rising lower l)
      (subst (λ (n : ℕ). Rising 0 n (answers upper)) a.fits (rising upper u)))
      (omega (arith, a.room, ap (λ (s : State W). length s.words) same))
      (omega (arith, a.few, ap (λ (s : State W). pieces s.origins) same)))

-- a journal has it by its invariant
module _ (j : Journal) where
  joined-listed : Joined (listed j.table)
  joined-listed = joined_fact (listed j.table) j.counts j.joined

  -- its table is the joined pieces of its origins
  pub gathered-state : gathered (state j).origins ≡ listed j.table
  gathered-state = gathered-filled (in_use j.words) (origins j.table) ∙ gathered-spread (listed j.table) joined-listed

  named-state : (q k w : ℕ) → nth (state j).origins q ≡ Ok (entered k w) → nth (in_use j.words) k ≡ Ok w
  named-state q k w e = let x = nth_unmap (filled (in_use j.words)) (origins j.table) q (entered k w) e in at x.0 x.1 x.2
    where
      at : (o : Origin (Unit {0})) → nth (origins j.table) q ≡ Ok o → filled (in_use j.words) o ≡ entered k w → nth (in_use j.words) k ≡ Ok w
      at (base m) i f = let z : ◌≡◌ {A = ℕ} 0 1 = cc in absurd (omega arith)
      at (entered l u) i f =
          let same : l ≡ k = cc in
          let own : get_or (in_use j.words) l 0 ≡ w = cc in
          let used = well_nth 0 j.started j.words.used (origins j.table) q l (well j) i in
          ap (nth (in_use j.words)) (sym same) ∙ nth-at (in_use j.words) l 0 (omega arith) ∙ ap Ok own

  pub lawful_state : Lawful (state j)
  lawful_state =
      let ws = in_use j.words in
      let table = listed j.table in
      let many = length-take j.table.used j.table.pieces in
      lawful (state j)
      (subst⁻¹ (SoundPieces j.started (length (in_use j.words))) gathered-state
      (subst (λ (u : ℕ). SoundPieces j.started u (listed j.table)) (sym j.stored) (truths j)))
      (omega (arith, pieces-filled ws (origins j.table), pieces-spread table joined-listed, j.few))
      (omega (arith, j.room)) j.based named-state
