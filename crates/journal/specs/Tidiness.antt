-- Tidied journals: what they are, and that they are alone with their answers and have the fewest pieces.
-- numbers: the numbers of the entered words, in the order of the series.
-- tidied: these are the numbers from 0 on, and the words in use are the words of the series.
-- stored: what is told of an origin that names no word, by a store with a word for each number.
-- Assumes nothing.
use Rattle.std.specs.Prelude.{◌≡◌, ℕ, ◌≤◌, List, [], ◌∷◌, map, length}
use Rattle.series.specs.Lists.{up_from}
use Rattle.journal.specs.declared.piece.Piece.{Piece}
use Rattle.journal.specs.Machine.{Origin, base, entered, Answer, place, word, State, answers, pieces}
use Rattle.journal.specs.Pieces.{spread, gathered}
use Rattle.journal.specs.Tidied.{words_in, tidied}

abbrev pub numbers : {W : Type 0} → List (Origin W) → List ℕ
numbers [] = []
numbers (base m ∷ os) = numbers os
numbers (entered k w ∷ os) = k ∷ numbers os

pub record IsTidied {W : Type 0} (st : State W) : Type 0 where
  pub in_order : numbers st.origins ≡ up_from 0 (length st.words)
  pub in_use : st.words ≡ words_in (answers st)

abbrev pub stored : {W : Type 0} → (ℕ → W) → Origin (Unit {0}) → Answer W
stored store (base m) = place m
stored store (entered k u) = word (store k)

pub record TidiedLaw (W : Type 0) : Type 0 where
  -- tidying leaves a tidied journal, started for the same length and with the same answers;
  pub tidies : (st : State W) → IsTidied (tidied st)
  pub begun : (st : State W) → (tidied st).started ≡ st.started
  pub same : (st : State W) → answers (tidied st) ≡ answers st
  -- a tidied journal is left as it is, so that tidying twice is tidying;
  pub still : (st : State W) → IsTidied st → tidied st ≡ st
  pub twice : (st : State W) → tidied (tidied st) ≡ tidied st
  -- two tidied journals started for one length and with equal answers are equal, in their origins and in their words in use;
  pub equal : (a b : State W) → IsTidied a → IsTidied b → a.started ≡ b.started → answers a ≡ answers b → a ≡ b
  -- a tidied journal's table has no more pieces than any list of pieces, empty or not, joined or not, that has the same answers over any store of words.
  pub fewest : (st : State W) → IsTidied st → (rival : List Piece) (store : ℕ → W) → map (stored store) (spread rival) ≡ answers st →
      length (gathered st.origins) ≤ length rival
  -- A table has as many pieces as the checks count.
  pub counted : (os : List (Origin W)) → pieces os ≡ length (gathered os)
