-- What a correction within the limits answers, by the number of pieces, and the state after it.
use Rattle.std.proofs.Common.{◌≡◌, ℕ, ◌+◌, ◌-◌, ◌<◌, ◌≤◌, cond, length, is_ok, Ok, Err, Result, sym, ap}
use Rattle.std.proofs.lemmas.Bool.{lt-ltb, le-ltb}
use Rattle.journal.specs.Machine.{State, Correction, pieces, check, edited, outcome}

module _ (st : State ℕ) (c : Correction ℕ) (inside : c.at + c.strikes ≤ length st.origins)
    (places : length st.origins - c.strikes + length c.enters ≤ 1048576)
    (words : length st.words + length c.enters ≤ 1024) where
  answered : (r : Result ℕ ℕ) → check st c ≡ r → (r, cond (is_ok r) (edited st c) st) ≡ outcome st c
  answered r e = ap (λ (x : Result ℕ ℕ). (x, cond (is_ok x) (edited st c) st)) (sym e)

  pub too_many_pieces : 256 < pieces (edited st c).origins → (Err 4, st) ≡ outcome st c
  too_many_pieces h =
      answered (Err 4) (
      rw (
        le-ltb (length st.origins) (c.at + c.strikes) inside,
        le-ltb 1048576 (length st.origins - c.strikes + length c.enters) places,
        le-ltb 1024 (length st.words + length c.enters) words,
        lt-ltb 256 (pieces (edited st c).origins) h,
      )
      )

  pub accepted : pieces (edited st c).origins ≤ 256 → (Ok (length st.origins - c.strikes + length c.enters), edited st c) ≡ outcome st c
  accepted h =
      answered (Ok (length st.origins - c.strikes + length c.enters)) (
      rw (
        le-ltb (length st.origins) (c.at + c.strikes) inside,
        le-ltb 1048576 (length st.origins - c.strikes + length c.enters) places,
        le-ltb 1024 (length st.words + length c.enters) words,
        le-ltb 256 (pieces (edited st c).origins) h,
      )
      )
