-- Bytes in hex: the crate hex reads them as the specification does.
use Rattle.std.proofs.Common.{◌≡◌, ℕ, ◌+◌, ◌*◌, ◌/◌, ◌%◌, ◌≤◌, false, ◌&&◌, List, [], ◌∷◌, length, get_or, inl, inr, Some, None, Option, is_some, Result, Ok, Err, sym, refl, ap, ◌∙◌, arith}
use Rattle.std.specs.Prelude.{MatchResult}
use Rattle.std.specs.Char.{is_ascii_hexdigit}
use Rattle.std.specs.List.{list_all}
use Rattle.std.specs.Option.{option_map}
use Rattle.std.specs.Result.{result_ok}
use Rattle.std.proofs.lemmas.Bool.{cases_eq}
use Rattle.std.proofs.lemmas.Bool.Decides.{nat_tests}
use Rattle.hex.specs.declared.error.FromHexError.{FromHexError}
use Rattle.hex.specs.Hex.{decode_of, decode_pairs, decode_sized, digit_or_error, hex_digit_value, ◌>>=◌}
use Rattle.hex.proofs.HexLemmas.{decode_of-even, decode_of-odd, decode_sized-odd, decode_sized-twice}
use Rattle.commands.specs.Numerals.{and_some, hex_digit, hex_bytes, hex}

digit : (b : ℕ) → hex_digit_value b ≡ hex_digit b
digit b = grind (arith, nat_tests)

-- a byte before those of a decoded rest, by the digits and the rest
pair-by : (high low i j : ℕ) (h l : Option ℕ) (more : Result (List ℕ) FromHexError) →
    result_ok ((digit_or_error high i h >>= (λ x. digit_or_error low j l >>= (λ y. Ok (x * 16 + y)))) >>= (λ b. more >>= (λ bs. Ok (b ∷ bs))))
    ≡ and_some h (λ x. and_some l (λ y. option_map (λ bs. (16 * x + y) ∷ bs) (result_ok more)))
pair-by high low i j None l more = refl
pair-by high low i j (Some x) None more = refl
pair-by high low i j (Some x) (Some y) (Err e) = refl
pair-by high low i j (Some x) (Some y) (Ok bs) =
    let same : x * 16 + y ≡ 16 * x + y = omega arith in
    ap (λ (b : ℕ). Some (b ∷ bs)) same

pub result_ok-decode_pairs : (i : ℕ) (field : List ℕ) → result_ok (decode_pairs i field) ≡ hex_bytes field
unfolding decode_pairs
result_ok-decode_pairs i [] = refl
result_ok-decode_pairs i (b ∷ []) = refl
result_ok-decode_pairs i (high ∷ (low ∷ more)) =
    pair-by high low i (i + 1) (hex_digit_value high) (hex_digit_value low) (decode_pairs (i + 2) more)
    ∙ rw (digit high, digit low, result_ok-decode_pairs (i + 2) more) refl

-- no bytes before a rest that is none
none-by : (high low : Option ℕ) → None ≡ and_some high (λ h. and_some low (λ l. option_map (λ bs. (16 * h + l) ∷ bs) None))
none-by None low = refl
none-by (Some h) None = refl
none-by (Some h) (Some l) = refl

pub odd-none : (field : List ℕ) → length field % 2 ≡ 1 → None ≡ hex_bytes field
odd-none [] odd = absurd (omega arith)
odd-none (b ∷ []) odd = refl
odd-none (high ∷ (low ∷ more)) odd =
    rw (← (odd-none more (omega arith))) (none-by (hex_digit high) (hex_digit low))

-- pairs are bytes where each digit is one
is_some-pair : (h l : Option ℕ) (more : Option (List ℕ)) →
    (is_some h && (is_some l && is_some more)) ≡ is_some (and_some h (λ x. and_some l (λ y. option_map (λ bs. (16 * x + y) ∷ bs) more)))
is_some-pair None l more = refl
is_some-pair (Some x) None more = refl
is_some-pair (Some x) (Some y) None = refl
is_some-pair (Some x) (Some y) (Some bs) = refl

is_ascii_hexdigit-is_some : (b : ℕ) → is_ascii_hexdigit b ≡ is_some (hex_digit b)
is_ascii_hexdigit-is_some b = grind (arith, nat_tests)

pub even-is_some : (field : List ℕ) → length field % 2 ≡ 0 → list_all is_ascii_hexdigit field ≡ is_some (hex_bytes field)
even-is_some [] even = refl
even-is_some (b ∷ []) even = absurd (omega arith)
even-is_some (high ∷ (low ∷ more)) even =
    rw (is_ascii_hexdigit-is_some high, is_ascii_hexdigit-is_some low, even-is_some more (omega arith))
    (is_some-pair (hex_digit high) (hex_digit low) (hex_bytes more))

pub none_from_is_some : (o : Option (List ℕ)) → is_some o ≡ false → None ≡ o
none_from_is_some None h = refl
none_from_is_some (Some bs) h = cc h

pub result_ok-decode_of : (field : List ℕ) → result_ok (decode_of field) ≡ hex_bytes field
result_ok-decode_of field =
    elim (cases_eq (length field % 2) 1) [
      | inl odd ↦ ap result_ok (decode_of-odd field odd) ∙ odd-none field odd
      | inr even ↦ ap result_ok (decode_of-even field (omega arith)) ∙ result_ok-decode_pairs 0 field
    ]

-- into room for half as many bytes
pub result_ok-decode_sized : (field : List ℕ) → result_ok (decode_sized field (length field / 2)) ≡ hex_bytes field
result_ok-decode_sized field =
    elim (cases_eq (length field % 2) 1) [
      | inl odd ↦ ap result_ok (decode_sized-odd field (length field / 2) odd) ∙ odd-none field odd
      | inr even ↦
          let twice : length field ≡ 2 * (length field / 2) = omega arith in
          ap result_ok (decode_sized-twice field (length field / 2) twice) ∙ result_ok-decode_of field
    ]

-- what decoding into room leaves there
abbrev pub Decoded : Result (List ℕ) FromHexError → Result Unit FromHexError → List ℕ → Type 0
Decoded decoded answer out = MatchResult decoded (λ bytes. (answer ≡ Ok tt) × (out ≡ bytes)) (λ e. answer ≡ Err e)

pub read_all : (decoded : Result (List ℕ) FromHexError) (answer : Result Unit FromHexError) (out : List ℕ) →
    Decoded decoded answer out → answer ≡ Ok tt → Some out ≡ result_ok decoded
read_all (Ok bytes) answer out is ok = ap Some is.1
read_all (Err e) answer out is ok = cc (sym is ∙ ok)

pub read_none : (decoded : Result (List ℕ) FromHexError) (answer : Result Unit FromHexError) (out : List ℕ) (e : FromHexError) →
    Decoded decoded answer out → answer ≡ Err e → None ≡ result_ok decoded
read_none (Ok bytes) answer out e is err = cc (sym is.0 ∙ err)
read_none (Err d) answer out e is err = refl

pub hex-short : (field : List ℕ) → length field ≡ 1 → (get_or field 0 0 ≡ 45 → ⊥) → hex_bytes field ≡ hex field
hex-short [] h no-hyphen = absurd (omega arith)
hex-short (b ∷ []) h no-hyphen = grind (arith, nat_tests)
hex-short (b ∷ (d ∷ more)) h no-hyphen = refl

pub hex-long : (field : List ℕ) → 2 ≤ length field → hex_bytes field ≡ hex field
hex-long [] h = absurd (omega arith)
hex-long (b ∷ []) h = absurd (omega arith)
hex-long (b ∷ (d ∷ more)) h = refl
