-- The runs of a journal: they spread to its origins, and a step of a walk hands out the next and
-- leaves an end of the journal.
use Rattle.std.proofs.Common.{◌≡◌, ℕ, zero, suc, ◌+◌, ◌≤◌, true, cond, List, [], ◌∷◌, ◌++◌, map, length, drop, Some, None, Option, Bor, Iter, MatchOption, sym, refl, ap, ◌∙◌, ap₂, arith}
use Rattle.std.specs.List.{flat_map}
use Rattle.std.proofs.lemmas.Bool.{and_parts}
use Rattle.std.proofs.lemmas.List.{map-append}
use Rattle.journal.specs.declared.piece.Piece.{Piece}
use Rattle.journal.specs.declared.piece.Source.{Source}
use Rattle.journal.specs.declared.piece.Source.TheVariants.{Kept, Entered}
use Rattle.journal.specs.declared.journal.Journal.{Journal}
use Rattle.journal.specs.Machine.{Origin}
use Rattle.journal.specs.Pieces.{stretch, spread, same, of_source, within}
use Rattle.journal.specs.Tables.{listed}
use Rattle.journal.specs.Stores.{in_use}
use Rattle.journal.specs.Journals.{filled, state}
use Rattle.journal.specs.Runs.{run_from, run_of, runs, origins_of}
use Rattle.journal.specs.Ends.{EndOf}
use Rattle.journal.specs.Walks.{next_of}
use Rattle.journal.proofs.Places.{Lies, Placed, past, placed_first}
use Rattle.journal.proofs.Fills.{filled-base, filled-entered}
use Rattle.journal.proofs.Truths.{gathered-state}

-- what the run of a piece spreads to
origins-piece : (ws : List ℕ) (s : Source) (a n f b u : ℕ) → Lies s f a n b u → u ≤ length ws → origins_of (run_from ws s a n) ≡ map (filled ws) (stretch s a n)
origins-piece ws Kept a n f b u l h = sym (filled-base ws a n)
origins-piece ws Entered a n f b u l h = filled-entered ws a n (omega (arith, l))

origins-pieces : (ws : List ℕ) (f b u : ℕ) (ps : List Piece) → Placed f b u ps → u ≤ length ws → flat_map origins_of (map (run_of ws) ps) ≡ map (filled ws) (spread ps)
origins-pieces ws f b u [] h le = refl
origins-pieces ws f b u (p ∷ ps) h le =
    let x = placed_first p.source p.first p.count f b u ps h in
    ap₂ (λ (os qs : List (Origin ℕ)). os ++ qs) (origins-piece ws p.source p.first p.count f b u x.0 le)
    (origins-pieces ws (past p.source f (p.first + p.count)) b u ps x.1 le)
    ∙ sym (map-append (filled ws) (stretch p.source p.first p.count) (spread ps))

module _ (j : Journal) where
  pub origins-runs : flat_map origins_of (runs (state j)) ≡ (state j).origins
  origins-runs =
      ap (λ (ps : List Piece). flat_map origins_of (map (run_of (in_use j.words)) ps)) (gathered-state j)
      ∙ origins-pieces (in_use j.words) 0 j.started j.words.used (listed j.table) (j.kept, j.inside) (omega (arith, j.stored))

-- what was to come, by what a step handed out
pub next_cons : {A : Type 0} (x : A) (xs all : List A) → (Some x, xs) ≡ next_of all → all ≡ x ∷ xs
next_cons {A} x xs [] e =
    let none : Some x ≡ None = ap (λ (p : Option A × List A). p.0) e in
    let z : ◌≡◌ {A = ℕ} 0 1 = cc in absurd (omega arith)
next_cons {A} x xs (y ∷ ys) e =
    let first : Some x ≡ Some y = ap (λ (p : Option A × List A). p.0) e in
    let others : xs ≡ ys = ap (λ (p : Option A × List A). p.1) e in
    cc

-- a step further into a list
drop-next : {A : Type 0} (k : ℕ) (x : A) (xs all : List A) → drop k all ≡ x ∷ xs → drop (suc k) all ≡ xs
drop-next zero x xs all e = ap (drop 1) e
drop-next {A} (suc k) x xs [] e = absurd (omega (arith, ap length e))
drop-next (suc k) x xs (y ∷ ys) e = drop-next k x xs ys e

-- what a step leaves of an end is an end
pub end-next : (r : Option (Bor Piece)) (s t : Iter Piece) (ws : List ℕ)
    → MatchOption r ((length s.rest.now ≡ 0) × (t ≡ s)) (λ p. s.rest.now ≡ p.now ∷ t.rest.now) → EndOf s.rest.now ws → EndOf t.rest.now ws
end-next None s t ws e h = (h.0, h.1, ap (λ (i : Iter Piece). i.rest.now) e.1 ∙ h.2, h.3)
end-next (Some p) s t ws e h = (h.0, suc h.1, sym (drop-next h.1 p.now t.rest.now (listed h.0.table) (sym h.2 ∙ e)), h.3)

inside_rest : (s : Source) (n : ℕ) (p : Piece) (ps : List Piece) → within n (cond (same Entered s) (p ∷ ps) ps) ≡ true → within n ps ≡ true
inside_rest Kept n p ps h = h
inside_rest Entered n p ps h = (and_parts _ _ h).1

-- what a step leaves lies inside the words as before
pub inside-next : (r : Option (Bor Piece)) (s t : Iter Piece) (n : ℕ) → MatchOption r ((length s.rest.now ≡ 0) × (t ≡ s)) (λ p. s.rest.now ≡ p.now ∷ t.rest.now)
    → within n (of_source Entered s.rest.now) ≡ true → within n (of_source Entered t.rest.now) ≡ true
inside-next None s t n e h = ap (λ (i : Iter Piece). within n (of_source Entered i.rest.now)) e.1 ∙ h
inside-next (Some p) s t n e h =
    inside_rest p.now.source n p.now (of_source Entered t.rest.now) (ap (λ (ps : List Piece). within n (of_source Entered ps)) (sym e) ∙ h)
