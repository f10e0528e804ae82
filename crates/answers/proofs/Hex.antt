-- The hex digits of answers are those of the crate hex.
use Rattle.std.proofs.Common.{◌≡◌, ℕ, zero, suc, ◌/◌, ◌%◌, ◌<◌, ◌==◌, Bool, true, ◌&&◌, inl, inr, List, [], ◌∷◌, slice_index, refl, arith}
use Rattle.std.proofs.lemmas.Bool.{and_parts, cases_lt, eqb-true}
use Rattle.hex.specs.Hex.{IsBytes, encode_lower, encode_with, lower_digits}
use Rattle.answers.specs.Texts.{hex_digit, hex_text}

-- the two agree on each value below n
abbrev agree : ℕ → Bool
agree zero = true
agree (suc n) = (slice_index lower_digits n == hex_digit n) && agree n

agree-at : (n d : ℕ) → agree n ≡ true → d < n → slice_index lower_digits d ≡ hex_digit d
agree-at zero d h few = absurd (omega arith)
agree-at (suc n) d h few =
    let parts = and_parts (slice_index lower_digits n == hex_digit n) (agree n) h in
    elim (cases_lt d n) [
      | inl below ↦ agree-at n d parts.1 below
      | inr top ↦
          let e : d ≡ n = omega arith in
          rw e (eqb-true (slice_index lower_digits n) (hex_digit n) parts.0)
    ]

digit : (d : ℕ) → d < 16 → slice_index lower_digits d ≡ hex_digit d
digit d few = agree-at 16 d refl few

pub encode_lower-hex_text : (bs : List ℕ) → IsBytes bs → encode_lower bs ≡ hex_text bs
unfolding encode_with
encode_lower-hex_text [] h = refl
encode_lower-hex_text (b ∷ bs) h =
    let fits : b < 256 = h 0 in
    let high = digit (b / 16) (omega arith) in
    let low = digit (b % 16) (omega arith) in
    rw (high, low, encode_lower-hex_text bs (λ i. h (suc i))) refl
