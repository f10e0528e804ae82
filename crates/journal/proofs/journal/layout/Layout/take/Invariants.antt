use Rattle.std.proofs.Common.{◌≡◌, ℕ, List, ◌++◌, length, take}
use Rattle.journal.specs.Machine.{Answer}
use Rattle.journal.specs.Pieces.{spread, part}
use Rattle.journal.specs.Journals.{told_by}
use Rattle.journal.specs.Layouts.{Lays}
use Rattle.journal.proofs.journal.layout.Layout.take.Given as goal

abbrev pub invariant-loop-piece : goal.invariant-loop-piece
invariant-loop-piece l =
    (l.at ≡ length (spread (take l.piece-index l.pieces)))
    × ((xs : List (Answer ℕ)) → Lays l.initial.self xs → Lays l.self (xs ++ told_by l.words (part l.start l.end (spread (take l.piece-index l.pieces)))))
