-- A correction of a journal within the limits: what it answers, and the journal after it.
use Rattle.std.proofs.Common.{◌≡◌, ℕ, ◌+◌, ◌-◌, ◌<◌, ◌≤◌, List, ◌++◌, map, length, Ok, Err, sym, ap, ◌∙◌, subst, arith, length-take}
use lib.ListN.{length-map}
use Rattle.series.specs.Lists.{spliced}
use Rattle.journal.specs.declared.journal.Journal.{Journal}
use Rattle.journal.specs.declared.table.Table.{Table}
use Rattle.journal.specs.declared.piece.Source.TheVariants.{Entered}
use Rattle.journal.specs.Machine.{Origin, correction, edited, pieces, outcome}
use Rattle.journal.specs.Pieces.{stretch}
use Rattle.journal.specs.Tables.{listed, origins, Tidy}
use Rattle.journal.specs.Stores.{in_use}
use Rattle.journal.specs.Journals.{filled, state}
use Rattle.journal.proofs.Joins.{joined_fact}
use Rattle.journal.proofs.Counts.{pieces-spread}
use Rattle.journal.proofs.Places.{Well, SoundPieces, sound-after}
use Rattle.journal.proofs.Fills.{pieces-filled, filled-spliced}
use Rattle.journal.proofs.Journals.{truths, well}
use Rattle.journal.proofs.Outcomes as outcomes

-- what the checks of a correction found, of n places and u words in use
pub record Passed (j : Journal) (p s : ℕ) (more : List ℕ) (n u : ℕ) : Type 0 where
  pub whole : n ≡ length (state j).origins
  pub used : u ≡ j.words.used
  pub inside : p + s ≤ n
  pub places : n - s + length more ≤ 1048576
  pub words : u + length more ≤ 1024

module _ (j : Journal) (p s : ℕ) (more : List ℕ) (n u : ℕ) (passed : Passed j p s more n u) where
  held : u ≡ length (in_use j.words)
  held = passed.used ∙ sym j.stored

  inside : p + s ≤ length (state j).origins
  inside = omega (arith, passed.whole, passed.inside)

  places : length (state j).origins - s + length more ≤ 1048576
  places = omega (arith, passed.whole, passed.places)

  words : length (in_use j.words) + length more ≤ 1024
  words = omega (arith, held, passed.words)

  -- the origins after the correction, with their words filled in
  filled-after : map (filled (in_use j.words ++ more)) (spliced p s (stretch Entered u (length more)) (origins j.table))
      ≡ (edited (state j) (correction p s more)).origins
  filled-after =
      ap (λ (i : ℕ). map (filled (in_use j.words ++ more)) (spliced p s (stretch Entered i (length more)) (origins j.table))) held
      ∙ filled-spliced (in_use j.words) more j.started p s (origins j.table)
      (subst (λ (i : ℕ). Well 0 j.started i (origins j.table)) (sym j.stored) (well j))

  pieces_after_lem : pieces (edited (state j) (correction p s more)).origins ≡ pieces (spliced p s (stretch Entered u (length more)) (origins j.table))
  pieces_after_lem =
      ap pieces (sym filled-after)
      ∙ pieces-filled (in_use j.words ++ more) (spliced p s (stretch Entered u (length more)) (origins j.table))

  pub too_many_pieces : 256 < pieces (spliced p s (stretch Entered u (length more)) (origins j.table)) → (Err 4, state j) ≡ outcome (state j) (correction p s more)
  too_many_pieces h = outcomes.too_many_pieces (state j) (correction p s more) inside places words (omega (arith, pieces_after_lem))

  -- the table and the words after the correction
  module _ (t : Table) (tidy : Tidy t) (e : origins t ≡ spliced p s (stretch Entered u (length more)) (origins j.table)) where
    pub accepted : (ws : List ℕ) → ws ≡ in_use j.words ++ more
        → (Ok (n - s + length more), record { started = j.started; origins = map (filled ws) (origins t); words = ws }) ≡ outcome (state j) (correction p s more)
    accepted ws w =
        let few : pieces (edited (state j) (correction p s more)).origins ≤ 256 =
        omega (
          arith,
          pieces_after_lem,
          ap pieces e,
          pieces-spread (listed t) (joined_fact (listed t) tidy.1 tidy.2),
          length-take t.used t.pieces,
          tidy.0,
        ) in
        ap (λ (i : ℕ). (Ok (i - s + length more), record { started = j.started; origins = map (filled ws) (origins t); words = ws })) passed.whole
        ∙ ap (λ (os : List (Origin ℕ)). (Ok (length (state j).origins - s + length more), record { started = j.started; origins = os; words = ws }))
        (ap (λ (xs : List ℕ). map (filled xs) (origins t)) w ∙ ap (map (filled (in_use j.words ++ more))) e ∙ filled-after)
        ∙ ap (λ (xs : List ℕ). (Ok (length (state j).origins - s + length more), record { started = j.started; origins = (edited (state j) (correction p s more)).origins; words = xs })) w
        ∙ outcomes.accepted (state j) (correction p s more) inside places words few

    pub sound : (v : ℕ) → v ≡ j.words.used + length more → SoundPieces j.started v (listed t)
    sound v h =
        let long : length (state j).origins ≡ length (origins j.table) = length-map _ _ in
        subst (λ (i : ℕ). SoundPieces j.started i (listed t)) (sym h)
        (sound-after (listed j.table) (listed t) j.started j.words.used p s (length more) (truths j) tidy.1 tidy.2
        (subst (λ (i : ℕ). origins t ≡ spliced p s (stretch Entered i (length more)) (origins j.table)) passed.used e)
        (omega (arith, long, inside)) (omega (arith, long, places)))
