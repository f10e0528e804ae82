-- What a table holds, and what its calls promise one another.
-- listed: the pieces in use.
-- origins: the origins that they stand for.
-- found: the origin that a source and a number name.
-- Whole: no more pieces than a table takes, each below the highest number, for no more places than a series has.
-- Tidy: no more pieces than a table takes, none empty, and no two that could be one.
-- Appended: a call that appends origins, and is refused only where they make too many pieces.
-- Made: a call that makes a table for origins, and is refused only where they make too many pieces.
-- Assumes nothing.
use Rattle.std.specs.Prelude.{◌≡◌, ℕ, ◌<◌, ◌≤◌, true, List, ◌++◌, length, take, Ok, Err, Result}
use Rattle.series.specs.declared.refusal.Refusal.{Refusal}
use Rattle.series.specs.declared.refusal.Refusal.TheVariants.{TooManyPieces}
use Rattle.journal.specs.declared.piece.Piece.{Piece}
use Rattle.journal.specs.declared.piece.Source.{Source}
use Rattle.journal.specs.declared.table.Table.{Table}
use Rattle.journal.specs.Machine.{Origin, pieces}
use Rattle.journal.specs.Pieces.{origin, spread, within, none_empty, none_joins}

abbrev pub listed : Table → List Piece
listed t = take t.used t.pieces

abbrev pub origins : Table → List (Origin (Unit {0}))
origins t = spread (listed t)

abbrev pub found : (Source × ℕ) → Origin (Unit {0})
found o = origin o.0 o.1

pub record Whole (t : Table) : Type 0 where
  pub used : t.used ≤ 256
  pub ends : within 1048576 (listed t) ≡ true
  pub short : length (origins t) ≤ 1048576

abbrev pub Tidy : Table → Type 0
Tidy t = (t.used ≤ 256) × (none_empty (listed t) ≡ true) × (none_joins (listed t) ≡ true)

abbrev pub Appended : {X : Type 0} → Table → Table → List (Origin (Unit {0})) → Result X Refusal → Type 0
Appended t u os (Ok x) = Tidy u × (origins u ≡ origins t ++ os)
Appended t u os (Err e) = (e ≡ TooManyPieces) × (256 < pieces (origins t ++ os))

abbrev pub Made : Result Table Refusal → List (Origin (Unit {0})) → Type 0
Made (Ok t) os = Tidy t × (origins t ≡ os)
Made (Err e) os = (e ≡ TooManyPieces) × (256 < pieces os)
