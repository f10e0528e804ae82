-- A finished layout: the journal that it makes.
use Rattle.std.proofs.Common.{◌≡◌, ℕ, suc, ◌<◌, ◌≤◌, List, [], ◌∷◌, ◌++◌, map, length, get_or, Ok, Err, Result, sym, refl, ap, ◌∙◌, subst, ap₂, arith, length-take}
use mathlib.Core.Path.{subst⁻¹}
use Rattle.std.specs.Result.{IsOk}
use Rattle.std.proofs.lemmas.List.{append_assoc, get_or_at, length_push}
use Rattle.series.specs.declared.refusal.Refusal.{Refusal}
use Rattle.series.specs.declared.refusal.Refusal.TheVariants.{TooManyPieces}
use Rattle.journal.specs.declared.table.Table.{Table}
use Rattle.journal.specs.declared.journal.Journal.{Journal}
use Rattle.journal.specs.declared.journal.layout.Layout.{Layout}
use Rattle.journal.specs.Machine.{Origin, base, entered, Answer, place, word, State, pieces}
use Rattle.journal.specs.Pieces.{bare, gathered}
use Rattle.journal.specs.Tables.{listed, origins, Tidy, Made}
use Rattle.journal.specs.Stores.{in_use}
use Rattle.journal.specs.Journals.{filled}
use Rattle.journal.specs.Tidied.{words_in, renumbered, neat}
use Rattle.journal.specs.Lawful.{Lawful}
use Rattle.journal.specs.Layouts.{Lays, Extended, Completed}
use Rattle.journal.proofs.Joins.{joined_fact}
use Rattle.journal.proofs.Counts.{pieces-spread, gathered-spread}
use Rattle.journal.proofs.Places.{SoundPieces}
use Rattle.journal.proofs.Fills.{gathered-filled}
use Rattle.journal.proofs.Gathered.{pieces-bare}
use Rattle.journal.proofs.Truths.{sound_lawful}

abbrev As : Type 0
As = List (Answer ℕ)

-- a call that has room for the words lays all out
pub lays_all : {X : Type 0} (l m : Layout) (xs : As) (r : Result X Refusal) → Lays l [] → Extended l m xs r → length (words_in xs) ≤ 1024
    → IsOk r × Lays m xs
lays_all l m xs (Ok x) h e room = (refl, e [] h)
lays_all l m xs (Err x) h e room = absurd (omega (arith, e.1 [] h))

-- a call makes a journal of few enough pieces
pub makes : (r : Result Journal Refusal) (st : State ℕ) → Completed r st → pieces st.origins ≤ 256 → IsOk r
makes (Ok j) st e few = refl
makes (Err x) st e few = absurd (omega (arith, e.1))

-- words in their order fill the origins numbered in their order
filled-renumbered : (front all : List ℕ) (k : ℕ) (xs : As) → length front ≡ k → all ≡ front ++ words_in xs → map (filled all) (map bare (renumbered k xs)) ≡ renumbered k xs
filled-renumbered front all k [] n e = refl
filled-renumbered front all k (place m ∷ xs) n e = ap (λ (os : List (Origin ℕ)). base m ∷ os) (filled-renumbered front all k xs n e)
filled-renumbered front all k (word w ∷ xs) n e =
    let here : get_or all k 0 ≡ w = ap (λ (ws : List ℕ). get_or ws k 0) e ∙ get_or_at front w (words_in xs) 0 k n in
    ap₂ (λ (v : ℕ) (os : List (Origin ℕ)). entered k v ∷ os) here
    (filled-renumbered (front ++ w ∷ []) all (suc k) xs (omega (arith, length_push front w)) (e ∙ sym (append_assoc front (w ∷ []) (words_in xs))))

-- whether the answers make too many pieces
pub too_many : (l : Layout) (xs : As) (e : Refusal) → l.table ≡ Err e → Lays l xs → (e ≡ TooManyPieces) × (256 < pieces (renumbered 0 xs))
too_many l xs e is h =
    let m = subst (λ (r : Result Table Refusal). Made r (map bare (renumbered 0 xs))) is h.table in
    (m.0, omega (arith, m.1, pieces-bare (renumbered 0 xs)))

module _ (n : ℕ) (xs : As) (l : Layout) (t : Table) (is : l.table ≡ Ok t) (h : Lays l xs) where
  made : Tidy t × (origins t ≡ map bare (renumbered 0 xs))
  made = subst (λ (r : Result Table Refusal). Made r (map bare (renumbered 0 xs))) is h.table

  pub not_too_many : pieces (renumbered 0 xs) ≤ 256
  not_too_many =
      omega (
        arith,
        pieces-bare (renumbered 0 xs),
        ap pieces made.1,
        pieces-spread (listed t) (joined_fact (listed t) made.0.1 made.0.2),
        length-take t.used t.pieces,
        made.0.0,
      )

  filled-table : map (filled (in_use l.words)) (origins t) ≡ renumbered 0 xs
  filled-table =
      ap₂ (λ (ws : List ℕ) (os : List (Origin (Unit {0}))). map (filled ws) os) h.words made.1 ∙ filled-renumbered [] (words_in xs) 0 xs refl refl

  pub finished : record { started = n; origins = map (filled (in_use l.words)) (origins t); words = in_use l.words } ≡ neat n xs
  finished = ap₂ (λ (os : List (Origin ℕ)) (ws : List ℕ). let s : State ℕ = record { started = n; origins = os; words = ws } in s) filled-table h.words

  -- what is true of every journal
  pub few : t.used ≤ 256
  few = made.0.0

  pub stored : length (in_use l.words) ≡ l.words.used
  stored = ap length h.words ∙ sym h.used

  pub sound : Lawful (neat n xs) → SoundPieces n l.words.used (listed t)
  sound law =
      subst⁻¹ (λ (u : ℕ). SoundPieces n u (listed t)) h.used
      (subst (SoundPieces n (length (words_in xs)))
      (ap gathered (sym filled-table) ∙ gathered-filled (in_use l.words) (origins t)
      ∙ gathered-spread (listed t) (joined_fact (listed t) made.0.1 made.0.2))
      (sound_lawful (neat n xs) law))
