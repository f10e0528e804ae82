-- Layouts: a piece more, and more answers.
use Rattle.std.proofs.Common.{◌≡◌, ℕ, zero, suc, ◌+◌, ◌≤◌, List, [], ◌∷◌, ◌++◌, map, length, take, drop, Ok, Err, Result, sym, refl, ap, ◌∙◌, subst, ap₂, arith, length-append}
use lib.ListN.{length-map}
use Rattle.std.proofs.lemmas.List.{append_assoc, append-nil, map-append, take-map, drop-map}
use Rattle.series.specs.declared.refusal.Refusal.{Refusal}
use Rattle.journal.specs.declared.piece.Source.{Source}
use Rattle.journal.specs.declared.piece.Source.TheVariants.{Kept, Entered}
use Rattle.journal.specs.declared.table.Table.{Table}
use Rattle.journal.specs.declared.words.WordStore.{WordStore}
use Rattle.journal.specs.declared.journal.layout.Layout.{Layout}
use Rattle.journal.specs.Machine.{Origin, base, entered, Answer, place, word, answer, numbered}
use Rattle.journal.specs.Pieces.{stretch, part, bare}
use Rattle.journal.specs.Tables.{Made}
use Rattle.journal.specs.Stores.{in_use}
use Rattle.journal.specs.Journals.{filled, told_by}
use Rattle.journal.specs.Tidied.{words_in, renumbered}
use Rattle.journal.specs.Layouts.{Lays}
use Rattle.journal.proofs.Counts.{pieces-front}
use Rattle.journal.proofs.Fills.{filled-entered}

abbrev Os : Type 0
Os = List (Origin (Unit {0}))

abbrev As : Type 0
As = List (Answer ℕ)

-- a piece too many stays so
pub made_crowded : (r : Result Table Refusal) (e : Refusal) (os more : Os) → r ≡ Err e → Made r os → Made r (os ++ more)
made_crowded (Ok t) e os more is m = let z : ◌≡◌ {A = ℕ} 0 1 = cc in absurd (omega arith)
made_crowded (Err x) e os more is m = (m.0, omega (arith, m.1, pieces-front os more))

-- the words among answers in turn, and their numbers
words_append : (xs ys : As) → words_in (xs ++ ys) ≡ words_in xs ++ words_in ys
words_append [] ys = refl
words_append (place m ∷ xs) ys = words_append xs ys
words_append (word w ∷ xs) ys = ap (λ (ws : List ℕ). w ∷ ws) (words_append xs ys)

renumbered-append : (k : ℕ) (xs ys : As) → renumbered k (xs ++ ys) ≡ renumbered k xs ++ renumbered (k + length (words_in xs)) ys
renumbered-append k [] ys = ap (λ (i : ℕ). renumbered i ys) (let e : k ≡ k + 0 = omega arith in e)
renumbered-append k (place m ∷ xs) ys = ap (λ (os : List (Origin ℕ)). base m ∷ os) (renumbered-append k xs ys)
renumbered-append k (word w ∷ xs) ys =
    ap (λ (os : List (Origin ℕ)). entered k w ∷ os) (renumbered-append (suc k) xs ys
    ∙ ap (λ (i : ℕ). renumbered (suc k) xs ++ renumbered i ys) (let e : suc k + length (words_in xs) ≡ k + suc (length (words_in xs)) = omega arith in e))

bare-append : (xs ys : As) → map bare (renumbered 0 (xs ++ ys)) ≡ map bare (renumbered 0 xs) ++ map bare (renumbered (length (words_in xs)) ys)
bare-append xs ys =
    ap (map bare) (renumbered-append 0 xs ys ∙ ap (λ (i : ℕ). renumbered 0 xs ++ renumbered i ys) (let e : 0 + length (words_in xs) ≡ length (words_in xs) = omega arith in e))
    ∙ map-append bare (renumbered 0 xs) (renumbered (length (words_in xs)) ys)

-- answers that are all words
words-words : (ws : List ℕ) → words_in (map word ws) ≡ ws
words-words [] = refl
words-words (w ∷ ws) = ap (λ (vs : List ℕ). w ∷ vs) (words-words ws)

bare-words : (k : ℕ) (ws : List ℕ) → map bare (renumbered k (map word ws)) ≡ stretch Entered k (length ws)
bare-words k [] = refl
bare-words k (w ∷ ws) = ap (λ (os : Os). entered k tt ∷ os) (bare-words (suc k) ws)

-- what is told of a stretch
words-kept : (ws : List ℕ) (a n : ℕ) → words_in (told_by ws (stretch Kept a n)) ≡ []
words-kept ws a zero = refl
words-kept ws a (suc n) = words-kept ws (suc a) n

bare-kept : (ws : List ℕ) (k a n : ℕ) → map bare (renumbered k (told_by ws (stretch Kept a n))) ≡ stretch Kept a n
bare-kept ws k a zero = refl
bare-kept ws k a (suc n) = ap (λ (os : Os). base a ∷ os) (bare-kept ws k (suc a) n)

pub answers-numbered : (k : ℕ) (ws : List ℕ) → map word ws ≡ map answer (numbered k ws)
answers-numbered k [] = refl
answers-numbered k (w ∷ ws) = ap (λ (xs : As). word w ∷ xs) (answers-numbered (suc k) ws)

pub told-entered : (ws : List ℕ) (a n : ℕ) → a + n ≤ length ws → map word (take n (drop a ws)) ≡ told_by ws (stretch Entered a n)
told-entered ws a n h = answers-numbered a (take n (drop a ws)) ∙ ap (map answer) (filled-entered ws a n h)

pub length-renumbered : (k : ℕ) (xs : As) → length (renumbered k xs) ≡ length xs
length-renumbered k [] = refl
length-renumbered k (place m ∷ xs) = ap suc (length-renumbered k xs)
length-renumbered k (word w ∷ xs) = ap suc (length-renumbered (suc k) xs)

pub length-bare : (xs : As) → length (map bare (renumbered 0 xs)) ≡ length xs
length-bare xs = length-map (renumbered 0 xs) bare ∙ length-renumbered 0 xs

pub length-words : (xs : As) (ws : List ℕ) → length (words_in (xs ++ map word ws)) ≡ length (words_in xs) + length ws
length-words xs ws =
    ap length (words_append xs (map word ws)) ∙ length-append (words_in xs) (words_in (map word ws))
    ∙ ap (λ (vs : List ℕ). length (words_in xs) + length vs) (words-words ws)

-- more answers, of words or of base places
module _ (l m : Layout) (xs : As) (h : Lays l xs) where
  pub lays-words : (ws : List ℕ) (f n : ℕ) → f ≡ l.words.used → n ≡ length ws → in_use m.words ≡ in_use l.words ++ ws
      → m.words.used ≡ l.words.used + length ws → l.words.used + length ws ≤ 1024
      → ((os : Os) → Made l.table os → Made m.table (os ++ stretch Entered f n)) → Lays m (xs ++ map word ws)
  lays-words ws f n first long words used room table =
      record {
        words = words ∙ ap (λ (vs : List ℕ). vs ++ ws) h.words ∙ ap (λ (vs : List ℕ). words_in xs ++ vs) (sym (words-words ws)) ∙ sym (words_append xs (map word ws));
        used = used ∙ ap (λ (i : ℕ). i + length ws) h.used ∙ sym (length-words xs ws);
        room = omega (arith, used);
        table =
            subst (Made m.table)
            (ap (λ (os : Os). map bare (renumbered 0 xs) ++ os)
            (ap₂ (stretch Entered) (first ∙ h.used) long ∙ sym (bare-words (length (words_in xs)) ws))
            ∙ sym (bare-append xs (map word ws)))
            (table (map bare (renumbered 0 xs)) h.table);
      }

  pub lays-kept : (ws : List ℕ) (s : Source) (a n : ℕ) → s ≡ Kept → m.words ≡ l.words
      → ((os : Os) → Made l.table os → Made m.table (os ++ stretch s a n)) → Lays m (xs ++ told_by ws (stretch s a n))
  lays-kept ws s a n is same table =
      let more : As = told_by ws (stretch s a n) in
      let kept : stretch Kept a n ≡ stretch s a n = ap (λ (t : Source). stretch t a n) (sym is) in
      let none : words_in (xs ++ more) ≡ words_in xs =
      words_append xs more ∙ ap (λ (vs : List ℕ). words_in xs ++ vs) (ap (λ (os : Os). words_in (told_by ws os)) (sym kept) ∙ words-kept ws a n) ∙ append-nil (words_in xs) in
      record {
        words = ap in_use same ∙ h.words ∙ sym none;
        used = ap (λ (t : WordStore). t.used) same ∙ h.used ∙ ap length (sym none);
        room = subst (λ (t : WordStore). t.used ≤ 1024) (sym same) h.room;
        table =
            subst (Made m.table)
            (ap (λ (os : Os). map bare (renumbered 0 xs) ++ os)
            (sym kept ∙ sym (bare-kept ws (length (words_in xs)) a n) ∙ ap (λ (os : Os). map bare (renumbered (length (words_in xs)) (told_by ws os))) kept)
            ∙ sym (bare-append xs more))
            (table (map bare (renumbered 0 xs)) h.table);
      }

-- a part of what is told of origins in turn
pub told_part : (ws : List ℕ) (a b : ℕ) (os : Os) → told_by ws (part a b os) ≡ part a b (told_by ws os)
told_part ws a b os =
    ap (map answer) (sym (drop-map (filled ws) a (take b os)) ∙ ap (drop a) (sym (take-map (filled ws) b os)))
    ∙ sym (drop-map answer a (take b (map (filled ws) os))) ∙ ap (drop a) (sym (take-map answer b (map (filled ws) os)))

told-append : (ws : List ℕ) (os ps : Os) → told_by ws (os ++ ps) ≡ told_by ws os ++ told_by ws ps
told-append ws os ps = ap (map answer) (map-append (filled ws) os ps) ∙ map-append answer (map (filled ws) os) (map (filled ws) ps)

-- answers, and what is told of origins after them
module _ (ws : List ℕ) (xs : As) where
  pub told_more : (old more new : Os) → old ++ more ≡ new → (xs ++ told_by ws old) ++ told_by ws more ≡ xs ++ told_by ws new
  told_more old more new e =
      append_assoc xs (told_by ws old) (told_by ws more) ∙ ap (λ (ys : As). xs ++ ys) (sym (told-append ws old more) ∙ ap (told_by ws) e)

  pub length-told : (os : Os) → length (xs ++ told_by ws os) ≡ length xs + length os
  length-told os =
      length-append xs (told_by ws os) ∙ ap (λ (i : ℕ). length xs + i) (length-map (map (filled ws) os) answer ∙ length-map os (filled ws))

-- the words of the first answers are no more than those of all
pub words_fewer : (xs ys : As) → length (words_in xs) ≤ length (words_in (xs ++ ys))
words_fewer xs ys = omega (arith, ap length (words_append xs ys), length-append (words_in xs) (words_in ys))
