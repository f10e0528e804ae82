use Rattle.std.proofs.Common.{◌≡◌, drop}
use Rattle.series.specs.Lists.{nth}
use Rattle.journal.specs.Pieces.{spread}
use Rattle.journal.proofs.table.Table.find.Given as goal

abbrev pub invariant-loop-piece : goal.invariant-loop-piece
invariant-loop-piece l = nth (spread l.pieces) l.place ≡ nth (spread (drop l.piece-index l.pieces)) l.left
