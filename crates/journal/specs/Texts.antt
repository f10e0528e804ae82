-- The text of what a journal tells.
-- origin_text: where a place comes from.
-- piece_text: a piece.
-- Assumes nothing.
use Rattle.std.specs.Prelude.{ℕ, List, ◌++◌, codes, decimal}
use Rattle.journal.specs.declared.piece.Piece.{Piece}
use Rattle.journal.specs.declared.piece.Source.{Source}
use Rattle.journal.specs.declared.piece.Source.TheVariants.{Kept, Entered}
use Rattle.journal.specs.Machine.{Answer, place, word}

-- b and the base place, or e and the word
abbrev pub origin_text : Answer ℕ → List ℕ
origin_text (place m) = codes "b" ++ decimal m
origin_text (word w) = codes "e" ++ decimal w

abbrev pub source_text : Source → List ℕ
source_text Kept = codes "k"
source_text Entered = codes "e"

-- source, first and count, as k0+2
abbrev pub piece_text : Piece → List ℕ
piece_text p = source_text p.source ++ (decimal p.first ++ (codes "+" ++ decimal p.count))
