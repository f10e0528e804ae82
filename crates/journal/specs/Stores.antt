-- What a store of words holds.
-- in_use: the words that were entered, the first of which has number 0.
-- Assumes nothing.
use Rattle.std.specs.Prelude.{ℕ, List, take}
use Rattle.journal.specs.declared.words.WordStore.{WordStore}

abbrev pub in_use : WordStore → List ℕ
in_use w = take w.used w.words
