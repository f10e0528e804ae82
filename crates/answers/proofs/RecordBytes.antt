-- The bytes of records as text.
use Rattle.std.proofs.Common.{◌≡◌, ℕ, ◌≤◌, Bool, true, false, cond, eqb, ltb, List, [], ◌++◌, length, drop, is_ok, Ok, Err, Result, refl, ap, arith}
use Rattle.std.proofs.lemmas.Bool.{ltb-false, ltb-true}
use Rattle.series.specs.Numbers.{bytes_of}
use Rattle.journal.specs.Machine.{Correction}
use Rattle.records.specs.Records.{written, write_outcome}
use Rattle.records.proofs.Fields.{length-words}
use Rattle.records.proofs.RoundTrips.{length-written}
use Rattle.answers.specs.Texts.{hex_text}
use Rattle.series.specs.Refusals.{refusal_text}
use Rattle.answers.specs.Views.{write_text}

-- ---- a record written to a buffer

length_four : (b : Bool) (n : ℕ) → length (cond b [] (bytes_of 4 n)) ≤ 4
length_four true n = omega arith
length_four false n = omega arith

length_two : (b : Bool) (n : ℕ) → length (cond b [] (bytes_of 2 n)) ≤ 2
length_two true n = omega arith
length_two false n = omega arith

-- no record takes more than 8,203 bytes
written-few : (c : Correction ℕ) → length c.enters ≤ 1024 → length (written c) ≤ 8203
written-few c h =
    omega (
      arith,
      length-written c,
      length-words c.enters,
      length_four (eqb c.at 0) c.at,
      length_four (eqb c.strikes 0) c.strikes,
      length_two (eqb (length c.enters) 0) (length c.enters),
    )

-- what writing answers, by whether there are too many words and whether the buffer is too short
abbrev answered : Bool → Bool → ℕ → Result ℕ ℕ
answered many short n = cond many (Err 3) (cond short (Err 10) (Ok n))

abbrev buffer : Bool → Bool → ℕ → List ℕ → List ℕ → List ℕ
buffer many short n bs out = cond (is_ok (answered many short n)) (bs ++ drop n out) out

err_by : (many short : Bool) (d n : ℕ) (text : List ℕ) → (many ≡ false → short ≡ true → ⊥) → Err d ≡ answered many short n
    → refusal_text d ≡ cond many (refusal_text 3) text
err_by true short d n text never e =
    let three : d ≡ 3 = cc in ap refusal_text three
err_by false true d n text never e = absurd (never refl refl)
err_by false false d n text never e = let z : ◌≡◌ {A = ℕ} 0 1 = cc in absurd (omega arith)

module _ (c : Correction ℕ) (out after : List ℕ) where
  -- the front of the buffer is the record's bytes

  -- in a buffer with room for any record, only too many words are refused
  pub written-refused : (d : ℕ) → 8203 ≤ length out → (Err d, after) ≡ write_outcome c out → refusal_text d ≡ write_text c
  written-refused d room e =
      err_by (ltb 1024 (length c.enters)) (ltb (length out) (length (written c))) d (length (written c)) (hex_text (written c))
      (λ few short. omega (arith, ltb-true (length out) (length (written c)) short, written-few c (ltb-false 1024 (length c.enters) few)))
      (ap (λ (p : Result ℕ ℕ × List ℕ). p.0) e)
