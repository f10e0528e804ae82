-- Worked figures on the rules: pieces, answers, words and bytes as a person works them out by hand.
-- Assumes nothing.
use Rattle.std.specs.Prelude.{◌≡◌, ℕ, List, [], ◌∷◌, length, negsuc, Ok, Err}
use Rattle.series.specs.Lists.{nth}
use Rattle.series.specs.Refusals.{with_ok}
use Rattle.series.specs.Words.{interval_word, interval_of}
use Rattle.journal.specs.declared.piece.Source.TheVariants.{Kept, Entered}
use Rattle.journal.specs.Machine.{State, Correction, correction, place, answers, start, check, corrected}
use Rattle.journal.specs.Pieces.{piece, gathered}
use Rattle.journal.specs.Tidied.{tidied}
use Rattle.journal.specs.Folded.{fold}
use Rattle.records.specs.Records.{written, read_record}

-- a journal started for so many places, over words of 64 bits
abbrev pub started : ℕ → State ℕ
started n = start n

abbrev pub strike : ℕ → ℕ → Correction ℕ
strike p s = correction p s []

abbrev pub enter : ℕ → List ℕ → Correction ℕ
enter p ws = correction p 0 ws

-- strike 3 at 2 of 10; then enter 70, 71 at 2; then strike 2 at 2
abbrev pub once : State ℕ
once = corrected (started 10) (strike 2 3)

abbrev pub twice : State ℕ
twice = corrected once (enter 2 (70 ∷ 71 ∷ []))

abbrev pub thrice : State ℕ
thrice = corrected twice (strike 2 2)

pub record Figures : Type 0 where
  -- strike 3 at 2 of 10: kept (0,2), kept (5,5), length 7, and place 2 is base place 5;
  pub struck : check (started 10) (strike 2 3) ≡ Ok 7
  pub struck_pieces : gathered once.origins ≡ piece Kept 0 2 ∷ piece Kept 5 5 ∷ []
  pub struck_origin : nth (answers once) 2 ≡ Ok (place 5)
  -- then enter 70, 71 at 2: kept (0,2), entered (0,2), kept (5,5);
  pub entered : check once (enter 2 (70 ∷ 71 ∷ [])) ≡ Ok 9
  pub entered_pieces : gathered twice.origins ≡ piece Kept 0 2 ∷ piece Entered 0 2 ∷ piece Kept 5 5 ∷ []
  -- then strike 2 at 2: the two kept pieces again, two words in use, and none once tidied;
  pub joined_pieces : gathered thrice.origins ≡ piece Kept 0 2 ∷ piece Kept 5 5 ∷ []
  pub in_use : length thrice.words ≡ 2
  pub tidied_use : length (tidied thrice).words ≡ 0
  pub tidied_pieces : gathered (tidied thrice).origins ≡ piece Kept 0 2 ∷ piece Kept 5 5 ∷ []
  -- of 10: strike 1 at 10 is refused with 1, strike 0 at 10 passes, strike 0 at 11 is refused with 1, and entering at 10 passes;
  pub past : check (started 10) (strike 10 1) ≡ Err 1
  pub nothing : check (started 10) (strike 10 0) ≡ Ok 10
  pub beyond : check (started 10) (strike 11 0) ≡ Err 1
  pub at_end : check (started 10) (enter 10 (7 ∷ [])) ≡ Ok 11
  -- lower: strike 3 at 2 of 10; upper: strike 2 at 1 of 7; folded: kept (0,1), kept (6,4);
  pub folded : with_ok (λ both. gathered both.origins) (fold once (corrected (started 7) (strike 1 2))) ≡ Ok (piece Kept 0 1 ∷ piece Kept 6 4 ∷ [])
  -- amount −1, status 0 has the word 4,294,967,295; amount −2,147,483,648, status 1 has 6,442,450,944; both come back;
  pub minus_one : interval_word (record { amount = negsuc 0; status = 0 }) ≡ 4294967295
  pub least : interval_word (record { amount = negsuc 2147483647; status = 1 }) ≡ 6442450944
  pub minus_one_back : interval_of 4294967295 ≡ record { amount = negsuc 0; status = 0 }
  pub least_back : interval_of 6442450944 ≡ record { amount = negsuc 2147483647; status = 1 }
  -- strike 3 at 2 is 03 00 00 00 02 00 00 00 03.
  pub bytes : written (strike 2 3) ≡ 3 ∷ 0 ∷ 0 ∷ 0 ∷ 2 ∷ 0 ∷ 0 ∷ 0 ∷ 3 ∷ []
  pub bytes_back : read_record (3 ∷ 0 ∷ 0 ∷ 0 ∷ 2 ∷ 0 ∷ 0 ∷ 0 ∷ 3 ∷ []) ≡ Ok (strike 2 3, 9)
