-- What a layout holds, and what its calls promise one another.
-- Lays: the layout of these answers, as far as its table takes them.
-- Takes: a layout of some answers, which so many more do not make too long.
-- Extended: a call that lays out more answers, and is refused only where they have too many words.
-- Laid: a call that lays answers out, and is refused only where they have too many words.
-- Completes: a layout of these answers, which make a journal started for so many places unless they are too many pieces.
-- Completed: a call that makes this journal, and is refused only where it has too many pieces.
-- Assumes nothing.
use Rattle.std.specs.Prelude.{◌≡◌, ℕ, ◌+◌, ◌<◌, ◌≤◌, List, ◌++◌, map, length, Ok, Err, Result}
use Rattle.series.specs.declared.refusal.Refusal.{Refusal}
use Rattle.series.specs.declared.refusal.Refusal.TheVariants.{TooManyWords, TooManyPieces}
use Rattle.journal.specs.declared.journal.layout.Layout.{Layout}
use Rattle.journal.specs.declared.journal.Journal.{Journal}
use Rattle.journal.specs.Machine.{Answer, State, pieces}
use Rattle.journal.specs.Pieces.{bare}
use Rattle.journal.specs.Tables.{Made}
use Rattle.journal.specs.Stores.{in_use}
use Rattle.journal.specs.Journals.{state}
use Rattle.journal.specs.Tidied.{words_in, renumbered, neat}
use Rattle.journal.specs.Lawful.{Lawful}

pub record Lays (l : Layout) (xs : List (Answer ℕ)) : Type 0 where
  pub words : in_use l.words ≡ words_in xs
  pub used : l.words.used ≡ length (words_in xs)
  pub room : l.words.used ≤ 1024
  pub table : Made l.table (map bare (renumbered 0 xs))

abbrev pub Takes : Layout → ℕ → Type 0
Takes l n = (xs : List (Answer ℕ)) × Lays l xs × (length xs + n ≤ 1048576)

abbrev pub Extended : {X : Type 0} → Layout → Layout → List (Answer ℕ) → Result X Refusal → Type 0
Extended l m more (Ok x) = (xs : List (Answer ℕ)) → Lays l xs → Lays m (xs ++ more)
Extended l m more (Err e) = (e ≡ TooManyWords) × ((xs : List (Answer ℕ)) → Lays l xs → 1024 < length (words_in (xs ++ more)))

abbrev pub Laid : Result Layout Refusal → List (Answer ℕ) → Type 0
Laid (Ok l) xs = Lays l xs
Laid (Err e) xs = (e ≡ TooManyWords) × (1024 < length (words_in xs))

abbrev pub Completes : Layout → ℕ → List (Answer ℕ) → Type 0
Completes l n xs = Lays l xs × (pieces (renumbered 0 xs) ≤ 256 → Lawful (neat n xs))

abbrev pub Completed : Result Journal Refusal → State ℕ → Type 0
Completed (Ok j) st = state j ≡ st
Completed (Err e) st = (e ≡ TooManyPieces) × (256 < pieces st.origins)
