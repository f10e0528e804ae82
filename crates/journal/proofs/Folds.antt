-- Laying out what an upper journal answers through what the lower one answers, run by run.
use Rattle.std.proofs.Common.{◌≡◌, ℕ, zero, suc, ◌+◌, ◌-◌, ◌<◌, ◌≤◌, List, [], ◌∷◌, ◌++◌, map, length, take, drop, Ok, Err, sym, refl, ap, ◌∙◌, subst, ap₂, arith, length-append, length-drop, length-take, drop-cons}
use mathlib.Core.Path.{subst⁻¹}
use lib.ListN.{length-map}
use Rattle.std.specs.List.{flat_map}
use Rattle.std.specs.Result.{result_unwrap_or}
use Rattle.std.proofs.lemmas.List.{append_assoc, map-append, drop-take}
use Rattle.std.proofs.lemmas.Bool.{eq-eqb, lt-ltb, le-ltb}
use Rattle.series.specs.Lists.{up_from}
use Rattle.series.proofs.Nths.{nth-at}
use Rattle.journal.specs.declared.piece.Piece.{Piece}
use Rattle.journal.specs.declared.piece.Source.{Source}
use Rattle.journal.specs.declared.piece.Source.TheVariants.{Kept, Entered}
use Rattle.journal.specs.declared.journal.Journal.{Journal}
use Rattle.journal.specs.declared.journal.layout.Layout.{Layout}
use Rattle.journal.specs.Machine.{Origin, base, Answer, place, word, answer, answers, State, pieces}
use Rattle.journal.specs.Pieces.{part}
use Rattle.journal.specs.Tables.{listed}
use Rattle.journal.specs.Stores.{in_use}
use Rattle.journal.specs.Journals.{state}
use Rattle.journal.specs.Tidied.{words_in}
use Rattle.journal.specs.Folded.{followed, folded, fold, fold_outcome}
use Rattle.journal.specs.Runs.{Run, kept_run, entered_run, run_from, run_of, runs, origins_of}
use Rattle.journal.specs.Layouts.{Lays, Takes}
use Rattle.journal.proofs.Places.{Lies, Placed, past, placed_first}
use Rattle.journal.proofs.Truths.{gathered-state}
use Rattle.journal.proofs.Layouts.{answers-numbered, words_fewer}

abbrev As : Type 0
As = List (Answer ℕ)

-- kept runs end at a number or before it
abbrev pub Inside : ℕ → List Run → Type 0
Inside b [] = Unit {0}
Inside b (kept_run p n ∷ rs) = (p + n ≤ b) × Inside b rs
Inside b (entered_run k ws ∷ rs) = Inside b rs

inside_more : (ws : List ℕ) (s : Source) (a n f b u : ℕ) (rs : List Run) → Lies s f a n b u → Inside b rs → Inside b (run_from ws s a n ∷ rs)
inside_more ws Kept a n f b u rs l h = (l.1, h)
inside_more ws Entered a n f b u rs l h = h

inside-pieces : (ws : List ℕ) (f b u : ℕ) (ps : List Piece) → Placed f b u ps → Inside b (map (run_of ws) ps)
inside-pieces ws f b u [] h = tt
inside-pieces ws f b u (p ∷ ps) h =
    let x = placed_first p.source p.first p.count f b u ps h in
    inside_more ws p.source p.first p.count f b u (map (run_of ws) ps) x.0 (inside-pieces ws (past p.source f (p.first + p.count)) b u ps x.1)

-- what is laid out for a run, over what the lower journal answers
abbrev pub through : As → Run → As
through low (kept_run p n) = part p (p + n) low
through low (entered_run k ws) = map word ws

-- what runs stand for, followed down
abbrev pub followed_runs : As → List Run → As
followed_runs low rs = map (followed low) (map answer (flat_map origins_of rs))

followed-kept : (low : As) (p n : ℕ) → p + n ≤ length low → map (followed low) (map answer (map base (up_from p n))) ≡ take n (drop p low)
followed-kept low p zero h = refl
followed-kept low p (suc n) h =
    let lt : p < length low = omega arith in
    ap₂ (λ (x : Answer ℕ) (xs : As). x ∷ xs) (ap (λ r. result_unwrap_or r (place p)) (nth-at low p (place p) lt)) (followed-kept low (suc p) n (omega arith))
    ∙ ap (take (suc n)) (sym (drop-cons low p (place p) lt))

followed-words : (low : As) (ws : List ℕ) → map (followed low) (map word ws) ≡ map word ws
followed-words low [] = refl
followed-words low (w ∷ ws) = ap (λ (xs : As). word w ∷ xs) (followed-words low ws)

followed_run : (low : As) (r : Run) (rs : List Run) → Inside (length low) (r ∷ rs) → map (followed low) (map answer (origins_of r)) ≡ through low r
followed_run low (kept_run p n) rs h = followed-kept low p n h.0 ∙ sym (drop-take p n low)
followed_run low (entered_run k ws) rs h = ap (map (followed low)) (sym (answers-numbered k ws)) ∙ followed-words low ws

followed_more : (low : As) (r : Run) (rs : List Run) → Inside (length low) (r ∷ rs) → followed_runs low (r ∷ rs) ≡ through low r ++ followed_runs low rs
followed_more low r rs h =
    ap (map (followed low)) (map-append answer (origins_of r) (flat_map origins_of rs))
    ∙ map-append (followed low) (map answer (origins_of r)) (map answer (flat_map origins_of rs))
    ∙ ap (λ (xs : As). xs ++ followed_runs low rs) (followed_run low r rs h)

inside-rest : (b : ℕ) (r : Run) (rs : List Run) → Inside b (r ∷ rs) → Inside b rs
inside-rest b (kept_run p n) rs h = h.1
inside-rest b (entered_run k ws) rs h = h

-- what is laid out so far, with these runs to come
pub record Halfway (l : Layout) (rs : List Run) (low high : As) : Type 0 where
  pub done : As
  pub lays : Lays l done
  pub whole : done ++ followed_runs low rs ≡ map (followed low) high
  pub inside : Inside (length low) rs

pub halfway_none : (l : Layout) (lower upper : Journal) (rs : List Run) → (state upper).started ≡ length (state lower).origins → Lays l [] → rs ≡ runs (state upper)
    → flat_map origins_of rs ≡ (state upper).origins → Halfway l rs (answers (state lower)) (answers (state upper))
halfway_none l lower upper rs fits h e os =
    record {
      done = [];
      lays = h;
      whole = ap (λ (xs : List (Origin ℕ)). map (followed (answers (state lower))) (map answer xs)) os;
      inside =
          let b : upper.started ≡ length (answers (state lower)) = fits ∙ sym (length-map (state lower).origins answer) in
          subst (λ (n : ℕ). Inside n rs) b
          (subst⁻¹ (Inside upper.started) (e ∙ ap (map (run_of (in_use upper.words))) (gathered-state upper))
          (inside-pieces (in_use upper.words) 0 upper.started upper.words.used (listed upper.table) (upper.kept, upper.inside)));
    }

module _ (l : Layout) (r : Run) (rs : List Run) (low high : As) (h : Halfway l (r ∷ rs) low high) where
  after : (h.done ++ through low r) ++ followed_runs low rs ≡ map (followed low) high
  after =
      append_assoc h.done (through low r) (followed_runs low rs)
      ∙ ap (λ (xs : As). h.done ++ xs) (sym (followed_more low r rs h.inside))
      ∙ h.whole

  pub halfway_more : (m : Layout) → ((xs : As) → Lays l xs → Lays m (xs ++ through low r)) → Halfway m rs low high
  halfway_more m e = record { done = h.done ++ through low r; lays = e h.done h.lays; whole = after; inside = inside-rest (length low) r rs h.inside }

  -- too many words so far are too many in all
  pub halfway_over : ((xs : As) → Lays l xs → 1024 < length (words_in (xs ++ through low r))) → 1024 < length (words_in (map (followed low) high))
  halfway_over e =
      omega (arith, e h.done h.lays, words_fewer (h.done ++ through low r) (followed_runs low rs), ap (λ (xs : As). length (words_in xs)) after)

  pub halfway_takes : length high ≤ 1048576 → (n : ℕ) → n ≡ length (through low r) → Takes l n
  halfway_takes few n e = (
    h.done,
    h.lays,
    omega (
      arith,
      ap length after,
      length-append (h.done ++ through low r) (followed_runs low rs),
      length-append h.done (through low r),
      length-map high (followed low),
    ),
  )

pub length-through : (low : As) (p n : ℕ) (rs : List Run) → Inside (length low) (kept_run p n ∷ rs) → (p + n) - p ≡ length (part p (p + n) low)
length-through low p n rs h = omega (arith, h.0, length-drop p (take (p + n) low), length-take (p + n) low)

-- what a fold answers whose words are not too many, by the number of pieces
module _ (lower upper third : State ℕ) (fits : upper.started ≡ length lower.origins) (room : length (folded lower upper).words ≤ 1024) where
  pub fold_crowded : 256 < pieces (folded lower upper).origins → (Err 4, third) ≡ fold_outcome lower upper third
  fold_crowded h =
      rw (
        eq-eqb upper.started (length lower.origins) fits,
        le-ltb 1024 (length (folded lower upper).words) room,
        lt-ltb 256 (pieces (folded lower upper).origins) h,
      )

  pub fold-accepted : pieces (folded lower upper).origins ≤ 256 → fold lower upper ≡ Ok (folded lower upper)
  fold-accepted h =
      rw (
        eq-eqb upper.started (length lower.origins) fits,
        le-ltb 1024 (length (folded lower upper).words) room,
        le-ltb 256 (pieces (folded lower upper).origins) h,
      )
