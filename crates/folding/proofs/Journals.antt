-- Every journal is lawful: it starts so, and calls and folds keep it so.
use Rattle.std.proofs.Common.{◌≡◌, ℕ, zero, suc, ◌+◌, ◌≤◌, true, List, [], ◌∷◌, ◌++◌, map, length, Ok, sym, refl, ap, ◌∙◌, ap₂, arith, length-append}
use mathlib.Core.Path.{subst⁻¹}
use mathlib.Core.List.{map-map}
use Rattle.std.proofs.lemmas.List.{append-nil}
use Rattle.series.specs.Lists.{nth, spliced, up_from}
use Rattle.journal.specs.declared.piece.Source.TheVariants.{Kept, Entered}
use Rattle.journal.specs.Machine.{Origin, base, entered, State, Correction, start, numbered, edited, pieces, passes}
use Rattle.journal.specs.Lawful.{Lawful}
use Rattle.journal.specs.Pieces.{piece, stretch, spread, bare, gathered, length-spread}
use Rattle.journal.proofs.Joins.{empty_test, joins_test}
use Rattle.journal.proofs.Counts.{pieces-spread}
use Rattle.journal.proofs.Places.{SoundPieces, sound-after, sound-start}
use Rattle.journal.proofs.Nths.{none, nth_unmap}
use Rattle.journal.proofs.Fills.{map-spliced}
use Rattle.journal.proofs.Gathered.{pieces-bare, joined-gathered, spread-gathered, total-gathered}
use Rattle.journal.proofs.Truths.{sound_lawful, lawful, rising, lawful_tidied, lawful_fold}
use Rattle.history.specs.Calls.{Call, ran}
use Rattle.history.proofs.Lists.{Ways, before, fresh, behind, ways, nth_more, nth_skip}
use Rattle.history.proofs.Runs.{passed, keeps}
use Rattle.folding.specs.Piles.{Sound}
use Rattle.folding.specs.Journals.{JournalLaw}

bare-start : (W : Type 0) (n : ℕ) → map (bare {W = W}) (map base (up_from 0 n)) ≡ stretch Kept 0 n
bare-start W n = map-map (bare {W = W}) base (up_from 0 n)

-- a journal that was just started has one piece at most
pieces-start : (W : Type 0) (n : ℕ) → pieces {W = W} (map base (up_from 0 n)) ≤ 256
pieces-start W zero = omega arith
pieces-start W (suc n) =
    omega (
      arith,
      pieces-bare {W = W} (map base (up_from 0 (suc n))),
      ap pieces (bare-start W (suc n)),
      ap pieces (append-nil (stretch Kept 0 (suc n))),
      pieces-spread (piece Kept 0 (suc n) ∷ []) (omega arith, tt, tt),
    )

module _ {W : Type 0} where
  named-numbered : (ws : List W) (k i j : ℕ) (w : W) → nth (numbered k ws) i ≡ Ok (entered j w) → (j ≡ k + i) × (nth ws i ≡ Ok w)
  named-numbered [] k i j w e = absurd (none i (entered j w) e)
  named-numbered (v ∷ ws) k zero j w e = let same : k ≡ j = cc in let own : v ≡ w = cc in (omega arith, ap Ok own)
  named-numbered (v ∷ ws) k (suc i) j w e = let h = named-numbered ws (suc k) i j w e in (omega (arith, h.0), h.1)

  bare-numbered : (ws : List W) (k : ℕ) → map bare (numbered k ws) ≡ stretch Entered k (length ws)
  bare-numbered [] k = refl
  bare-numbered (w ∷ ws) k = ap (λ (os : List (Origin (Unit {0}))). entered k tt ∷ os) (bare-numbered ws (suc k))

  not_entered : (ns : List ℕ) (q k : ℕ) (w : W) → nth (map base ns) q ≡ Ok (entered k w) → ⊥
  not_entered ns q k w e = let x = nth_unmap base ns q (entered k w) e in let f = x.2 in let z : ◌≡◌ {A = ℕ} 0 1 = cc in omega arith

  lawful_start : (n : ℕ) → n ≤ 1048576 → Lawful {W = W} (start n)
  lawful_start n based =
      let os : List (Origin W) = map base (up_from 0 n) in
      let joined = joined-gathered os in
      lawful (start n) (sound-start (gathered os) n based (empty_test (gathered os) joined) (joins_test (gathered os) joined) (spread-gathered os ∙ bare-start W n))
      (pieces-start W n) (omega arith) based (λ q k w e. absurd (not_entered (up_from 0 n) q k w e))

  named-edited : (st : State W) (c : Correction W) → passes st c ≡ true → Lawful st →
      (q k : ℕ) (w : W) → nth (edited st c).origins q ≡ Ok (entered k w) → nth (st.words ++ c.enters) k ≡ Ok w
  named-edited st c pass h q k w e =
      at (ways c.at c.strikes (numbered (length st.words) c.enters) st.origins (passed st c pass).inside (entered k w) q e)
    where
      at : Ways c.at c.strikes (numbered (length st.words) c.enters) st.origins (entered k w) q → nth (st.words ++ c.enters) k ≡ Ok w
      at (before l i) = nth_more st.words c.enters k w (h.named q k w i)
      at (fresh i l j) =
          let x = named-numbered c.enters (length st.words) i k w j in
          ap (nth (st.words ++ c.enters)) x.0 ∙ nth_skip st.words c.enters i ∙ x.1
      at (behind r l j i) = nth_more st.words c.enters k w (h.named r k w i)

  lawful_edited : (st : State W) (c : Correction W) → passes st c ≡ true → Lawful st → Lawful (edited st c)
  lawful_edited st c pass h =
      let p = passed st c pass in
      let old = st.origins in
      let new = (edited st c).origins in
      let joined = joined-gathered new in
      let made : spread (gathered new) ≡ spliced c.at c.strikes (stretch Entered (length st.words) (length c.enters)) (spread (gathered old)) =
      spread-gathered new ∙ map-spliced bare c.at c.strikes (numbered (length st.words) c.enters) old ∙
      ap₂ (spliced c.at c.strikes) (bare-numbered c.enters (length st.words)) (sym (spread-gathered old)) in
      let more = length-append st.words c.enters in
      let long = length-spread (gathered old) in
      let t = total-gathered old in
      lawful (edited st c)
      (subst⁻¹ (λ (u : ℕ). SoundPieces st.started u (gathered (edited st c).origins)) more
      (sound-after (gathered old) (gathered new) st.started (length st.words) c.at c.strikes (length c.enters) (sound_lawful st h)
      (empty_test (gathered new) joined) (joins_test (gathered new) joined) made
      (omega (arith, p.inside)) (omega (arith, p.short))))
      p.few (omega (arith, p.room)) h.based (named-edited st c pass h)

  lawful_ran : (st : State W) (calls : List (Call W)) → Lawful st → Lawful (ran st calls)
  lawful_ran st calls h = keeps (λ ts s. Lawful s) (λ ts s c e b. lawful_edited s c e b) (λ ts s b. lawful_tidied s b) calls st h

  sound : (st : State W) → Lawful st → Sound st
  sound st h q m e = ((rising st h).bound q m e).1

pub journal_law : (W : Type 0) → JournalLaw W
journal_law W = record { starts = lawful_start; runs = lawful_ran; folds = lawful_fold; sound = sound }
