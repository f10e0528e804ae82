-- What is true of every journal, said of its state.
-- lawful: the limits; the table, which is the joined pieces of the origins; and the words in use.
-- Assumes nothing.
use Rattle.std.specs.Prelude.{◌≡◌, ℕ, ◌≤◌, true, length, Ok}
use Rattle.series.specs.Lists.{nth}
use Rattle.journal.specs.declared.piece.Source.TheVariants.{Kept, Entered}
use Rattle.journal.specs.Machine.{entered, State, pieces}
use Rattle.journal.specs.Pieces.{gathered, none_empty, none_joins, total, of_source, rise, within}

pub record Lawful {W : Type 0} (st : State W) : Type 0 where
  -- the limits;
  pub few : pieces st.origins ≤ 256
  pub room : length st.words ≤ 1024
  pub short : length st.origins ≤ 1048576
  pub based : st.started ≤ 1048576
  -- no count is zero, no two neighbours could be one piece, and the counts are the length;
  pub counts : none_empty (gathered st.origins) ≡ true
  pub joined : none_joins (gathered st.origins) ≡ true
  pub long : total (gathered st.origins) ≡ length st.origins
  -- kept pieces lie inside the length started for, and rise without overlap;
  pub kept : rise 0 st.started (of_source Kept (gathered st.origins)) ≡ true
  -- entered pieces lie inside the words in use, and count no more than these;
  pub inside : within (length st.words) (of_source Entered (gathered st.origins)) ≡ true
  pub counted : total (of_source Entered (gathered st.origins)) ≤ length st.words
  -- the word of an origin is the one in use that has its number.
  pub named : (q k : ℕ) (w : W) → nth st.origins q ≡ Ok (entered k w) → nth st.words k ≡ Ok w
