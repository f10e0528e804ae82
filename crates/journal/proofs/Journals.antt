-- What every journal has, as the facts that its calls use, and what it tells.
use Rattle.std.proofs.Common.{◌≡◌, ℕ, ◌≤◌, true, List, [], map, length, Result, ap, ◌∙◌, arith}
use lib.ListN.{length-map}
use Rattle.series.specs.Lists.{nth}
use Rattle.series.specs.Refusals.{with_ok}
use Rattle.series.proofs.Nths.{nth_mapped}
use Rattle.journal.specs.declared.journal.Journal.{Journal}
use Rattle.journal.specs.declared.piece.Source.TheVariants.{Kept}
use Rattle.journal.specs.Machine.{Origin, start, answer, answers}
use Rattle.journal.specs.Pieces.{stretch, within, length-spread}
use Rattle.journal.specs.Tables.{listed, origins, Whole}
use Rattle.journal.specs.Stores.{in_use}
use Rattle.journal.specs.Journals.{filled, state}
use Rattle.journal.proofs.Places.{SoundPieces, Well, placed-within, placed_well}
use Rattle.journal.proofs.Fills.{filled-base}

module _ (j : Journal) where
  pub truths : SoundPieces j.started j.words.used (listed j.table)
  truths = record { counts = j.counts; joined = j.joined; short = j.short; kept = j.kept; inside = j.inside; counted = j.counted }

  pub ends : within 1048576 (listed j.table) ≡ true
  ends =
      let room : j.words.used ≤ 1024 = j.room in
      placed-within 0 j.started j.words.used 1048576 (listed j.table) j.based (omega arith) (j.kept, j.inside)

  pub well : Well 0 j.started j.words.used (origins j.table)
  well = placed_well 0 j.started j.words.used (listed j.table) (j.kept, j.inside)

  pub short : length (origins j.table) ≤ 1048576
  short = omega (arith, length-spread (listed j.table), j.short)

  pub whole : Whole j.table
  whole = record { used = j.few; ends = ends; short = short }

  pub short_state : length (state j).origins ≤ 1048576
  short_state = omega (arith, length-map (origins j.table) (filled (in_use j.words)), short)

  -- what is told of a place is the origin there, its word filled in
  pub tells : (place : ℕ) (r : Result (Origin (Unit {0})) ℕ) → r ≡ nth (origins j.table) place
      → with_ok answer (with_ok (filled (in_use j.words)) r) ≡ nth (answers (state j)) place
  tells place r e =
      ap (λ (x : Result (Origin (Unit {0})) ℕ). with_ok answer (with_ok (filled (in_use j.words)) x)) e
      ∙ ap (with_ok answer) (nth_mapped (filled (in_use j.words)) (origins j.table) place)
      ∙ nth_mapped answer (map (filled (in_use j.words)) (origins j.table)) place

-- the state of a journal that is started for n places
pub started : (n : ℕ) (os : List (Origin (Unit {0}))) (ws : List ℕ) → os ≡ stretch Kept 0 n → ws ≡ []
    → record { started = n; origins = map (filled ws) os; words = ws } ≡ start n
started n os ws e none = rw (none, e, filled-base [] 0 n)
