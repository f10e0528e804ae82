use Rattle.std.proofs.Common.{◌≡◌, ◌++◌, length, take}
use Rattle.journal.specs.Pieces.{spread, part}
use Rattle.journal.specs.Tables.{origins, Tidy}
use Rattle.journal.proofs.table.Table.push_range.Given as goal

abbrev pub invariant-loop-piece : goal.invariant-loop-piece
invariant-loop-piece l =
    (l.at ≡ length (spread (take l.piece-index l.pieces)))
    × (Tidy l.self
    × (origins l.self ≡ origins l.initial.self ++ part l.start l.end (spread (take l.piece-index l.pieces))))
