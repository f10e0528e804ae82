-- A fold reads and answers as its two journals.
use Rattle.std.proofs.Common.{◌≡◌, ℕ, suc, ◌<◌, List, [], ◌∷◌, ◌++◌, map, length, Ok, Err, Result, sym, refl, ap, ◌∙◌, ap₂, arith}
use mathlib.Core.Path.{subst⁻¹}
use mathlib.Core.List.{map-map}
use Rattle.series.specs.declared.cell.Cell.{Cell}
use Rattle.series.specs.declared.cell.Cell.TheVariants.{Fault}
use Rattle.series.specs.Faults.{past_base}
use Rattle.series.specs.Lists.{nth}
use Rattle.series.specs.Refusals.{with_ok, and_then}
use Rattle.series.proofs.Nths.{nth_mapped}
use Rattle.journal.specs.Machine.{Answer, place, word, State, answers}
use Rattle.journal.specs.Tidied.{neat}
use Rattle.journal.specs.Folded.{followed, fold}
use Rattle.journal.proofs.Nths.{nth-some, nth-value, nth-map_ok, nth_unmap}
use Rattle.journal.proofs.Folding.{accepted, answers-fold, started-fold, tidied-fold}
use Rattle.history.specs.Calls.{Call, ran}
use Rattle.history.specs.Laid.{cell_of, laid}
use Rattle.history.proofs.Bases.{Below, below-start, below-ran, started-ran}
use Rattle.folding.specs.Piles.{piled, onward, down, Sound, FoldLaw}

map-nth : {A B : Type 0} (f g : A → B) (xs : List A) → ((q : ℕ) (a : A) → nth xs q ≡ Ok a → f a ≡ g a) → map f xs ≡ map g xs
map-nth f g [] h = refl
map-nth f g (a ∷ xs) h = ap₂ ◌∷◌ (h 0 a refl) (map-nth f g xs (λ q. h (suc q)))

module _ {W : Type 0} where
  -- what is done with followed answers may be done below first
  through : {C : Type 0} (f g : Answer W → C) (h : List C → Answer W → C) (low high : List (Answer W)) → Below (length low) high →
      ((q : ℕ) (a : Answer W) → nth low q ≡ Ok a → f a ≡ g a) →
      ((m : ℕ) (c : C) → nth (map g low) m ≡ Ok c → h (map g low) (place m) ≡ c) →
      ((w : W) → h (map g low) (word w) ≡ f (word w)) →
      map f (map (followed low) high) ≡ map (h (map g low)) high
  through f g h low high below same places words = map-map f (followed low) high ∙ map-nth (λ a. f (followed low a)) (h (map g low)) high at
    where
      at : (q : ℕ) (a : Answer W) → nth high q ≡ Ok a → f (followed low a) ≡ h (map g low) a
      at q (word w) e = sym (words w)
      at q (place m) e =
          let w = nth-some low m (below q m e) in
          ap f (nth-value low m w.0 (place m) w.1) ∙ same m w.0 w.1 ∙ sym (places m (g w.0) (nth-map_ok g low m w.0 w.1))

  -- answers followed down two journals, one after the other or through the two together
  traced : (below low high : List (Answer W)) → Below (length low) high →
      map (followed below) (map (followed low) high) ≡ map (followed (map (followed below) low)) high
  traced below low high fit =
      through (followed below) (followed below) followed low high fit (λ q a e. refl)
      (λ m c e. nth-value (map (followed below) low) m c (place m) e) (λ w. refl)

  onward-same : (f g : ℕ → Result (Answer W) ℕ) → ((m : ℕ) → f m ≡ g m) → (r : Result (Answer W) ℕ) → and_then r (onward f) ≡ and_then r (onward g)
  onward-same f g h (Err e) = refl
  onward-same f g h (Ok (word w)) = refl
  onward-same f g h (Ok (place m)) = h m

  module _ (lower upper both : State W) (h : fold lower upper ≡ Ok both) where
    fitting : Sound upper → Below (length (answers lower)) (answers upper)
    fitting s q m e = omega (arith, s q m e, (accepted lower upper both h).fits)

    -- the tag is told only where the base has no cell
    any_tag : {R : Type 0} (decode : W → R) (cells : List (Cell R)) (s t : ℕ) → Sound lower → lower.started ≡ length cells →
        (q : ℕ) (a : Answer W) → nth (answers lower) q ≡ Ok a → cell_of decode s cells a ≡ cell_of decode t cells a
    any_tag decode cells s t sound long q (word w) e = refl
    any_tag decode cells s t sound long q (place m) e =
        let c = nth-some cells m (omega (arith, sound q m e)) in
        nth-value cells m c.0 (Fault (past_base s m)) c.1 ∙ sym (nth-value cells m c.0 (Fault (past_base t m)) c.1)

    laid-fold : {R : Type 0} (decode : W → R) (cells : List (Cell R)) (tag low high : ℕ) → Sound lower → Sound upper → lower.started ≡ length cells →
        laid decode tag cells both ≡ laid decode high (laid decode low cells lower) upper
    laid-fold decode cells tag low high sl su long =
        ap (map (cell_of decode tag cells)) (answers-fold lower upper both h) ∙
        through (cell_of decode tag cells) (cell_of decode low cells) (cell_of decode high) (answers lower) (answers upper) (fitting su)
        (any_tag decode cells tag low sl long)
        (λ m c e. nth-value (laid decode low cells lower) m c (Fault (past_base high m)) e) (λ w. refl)

    piled-fold : {R : Type 0} (decode : W → R) (base : List (Cell R)) (above below : List (ℕ × State W)) (tag low high : ℕ) →
        Sound lower → Sound upper → lower.started ≡ length (piled decode base below) →
        piled decode base (above ++ (tag, both) ∷ below) ≡ piled decode base (above ++ (high, upper) ∷ (low, lower) ∷ below)
    piled-fold decode base [] below tag low high sl su long = laid-fold decode (piled decode base below) tag low high sl su long
    piled-fold {R} decode base (top ∷ above) below tag low high sl su long =
        ap (λ (l : List (Cell R)). laid decode top.0 l top.1) (piled-fold decode base above below tag low high sl su long)

    -- an answer of the upper journal, followed down from it
    onward-fold : Sound upper → (below : List (State W)) (q : ℕ) (r : Result (Answer W) ℕ) → nth (answers upper) q ≡ r →
        and_then (with_ok (followed (answers lower)) r) (onward (down below)) ≡ and_then r (onward (down (lower ∷ below)))
    onward-fold su below q (Err e) h = refl
    onward-fold su below q (Ok (word w)) h = refl
    onward-fold su below q (Ok (place m)) h =
        let a = nth-some (answers lower) m (fitting su q m h) in
        ap (onward (down below)) (nth-value (answers lower) m a.0 (place m) a.1) ∙
        sym (ap (λ (r : Result (Answer W) ℕ). and_then r (onward (down below))) a.1)

    down-fold : Sound upper → (above below : List (State W)) (q : ℕ) → down (above ++ both ∷ below) q ≡ down (above ++ upper ∷ lower ∷ below) q
    down-fold su [] below q =
        ap (λ (l : List (Answer W)). and_then (nth l q) (onward (down below))) (answers-fold lower upper both h) ∙
        ap (λ (r : Result (Answer W) ℕ). and_then r (onward (down below))) (sym (nth_mapped (followed (answers lower)) (answers upper) q)) ∙
        onward-fold su below q (nth (answers upper) q) refl
    down-fold su (top ∷ above) below q =
        onward-same (down (above ++ both ∷ below)) (down (above ++ upper ∷ lower ∷ below)) (λ m. down-fold su above below m) (nth (answers top) q)

    sound-fold : Sound lower → Sound upper → Sound both
    sound-fold sl su q m e =
        let x = nth_unmap (followed (answers lower)) (answers upper) q (place m) (sym (ap (λ (l : List (Answer W)). nth l q) (answers-fold lower upper both h)) ∙ e) in
        subst⁻¹ (λ (n : ℕ). m < n) (started-fold lower upper both h) (at x.0 x.1 x.2)
      where
        at : (a : Answer W) → nth (answers upper) q ≡ Ok a → followed (answers lower) a ≡ place m → m < lower.started
        at (word w) i f = let z : ◌≡◌ {A = ℕ} 0 1 = cc in absurd (omega arith)
        at (place l) i f =
            let w = nth-some (answers lower) l (fitting su q l i) in
            sl l m (w.1 ∙ ap Ok (sym (nth-value (answers lower) l w.0 (place l) w.1) ∙ f))

  folds-either : (a b c ab bc left right : State W) → Sound c →
      fold a b ≡ Ok ab → fold ab c ≡ Ok left → fold b c ≡ Ok bc → fold a bc ≡ Ok right → left ≡ right
  folds-either a b c ab bc left right sc h₁ h₂ h₃ h₄ =
      sym (accepted ab c left h₂).is ∙
      ap₂ (λ (n : ℕ) (l : List (Answer W)). neat n (map (followed l) (answers c))) (started-fold a b ab h₁) (answers-fold a b ab h₁) ∙
      ap (neat a.started) (sym (traced (answers a) (answers b) (answers c) (fitting b c bc h₃ sc))) ∙
      ap (λ (l : List (Answer W)). neat a.started (map (followed (answers a)) l)) (sym (answers-fold b c bc h₃)) ∙
      (accepted a bc right h₄).is

  sound-ran : (st : State W) (calls : List (Call W)) → Sound st → Sound (ran st calls)
  sound-ran st calls s = subst⁻¹ (λ (n : ℕ). Below n (answers (ran st calls))) (started-ran st calls) (below-ran st.started st calls s)

pub fold_law : (W R : Type 0) → FoldLaw W R
fold_law W R =
    record {
      cells = λ decode base above below lower upper both tag low high h. piled-fold lower upper both h decode base above below tag low high;
      origins = λ above below lower upper both q h su. down-fold lower upper both h su above below q;
      tidy = λ lower upper both h. (tidied-fold lower upper both h, started-fold lower upper both h);
      either = folds-either;
      starts = below-start;
      runs = sound-ran;
      folds = λ lower upper both sl su h. sound-fold lower upper both h sl su;
    }
