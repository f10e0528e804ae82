-- What is left of a journal that is gone through piece by piece.
-- EndOf: the pieces of a journal from one on, and all its words.
-- Assumes nothing.
use Rattle.std.specs.Prelude.{◌≡◌, ℕ, List, drop}
use Rattle.journal.specs.declared.piece.Piece.{Piece}
use Rattle.journal.specs.declared.journal.Journal.{Journal}
use Rattle.journal.specs.Tables.{listed}
use Rattle.journal.specs.Stores.{in_use}

abbrev pub EndOf : List Piece → List ℕ → Type 0
EndOf ps ws = (j : Journal) × (k : ℕ) × (ps ≡ drop k (listed j.table)) × (ws ≡ in_use j.words)
