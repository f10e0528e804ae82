-- Tidied journals.
-- words_in: the entered words among answers, in their order.
-- renumbered: origins with these answers, their words numbered in order from a number on.
-- neat: the state with these answers, its words numbered from 0 on, and no others in use.
-- tidied: a journal's state made neat.
-- Assumes nothing.
use Rattle.std.specs.Prelude.{ℕ, suc, List, [], ◌∷◌}
use Rattle.journal.specs.Machine.{Origin, base, entered, Answer, place, word, State, answers}

module _ {W : Type 0} where
  abbrev pub words_in : List (Answer W) → List W
  words_in [] = []
  words_in (place m ∷ xs) = words_in xs
  words_in (word w ∷ xs) = w ∷ words_in xs

  -- the first word's number is k
  abbrev pub renumbered : ℕ → List (Answer W) → List (Origin W)
  renumbered k [] = []
  renumbered k (place m ∷ xs) = base m ∷ renumbered k xs
  renumbered k (word w ∷ xs) = entered k w ∷ renumbered (suc k) xs

  -- started for n places
  abbrev pub neat : ℕ → List (Answer W) → State W
  neat n xs = record { started = n; origins = renumbered 0 xs; words = words_in xs }

  -- what stands is answered as before, and the words that no longer stand are given up
  abbrev pub tidied : State W → State W
  tidied st = neat st.started (answers st)
