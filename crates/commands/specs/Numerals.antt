-- Numbers and bytes as they are written in a command.
-- value: the number that decimal digits stand for.
-- number_to: a number of one or more decimal digits that is at most so large.
-- hex_digit: the value of a hex digit, of either case.
-- hex_bytes: bytes in pairs of hex digits; hex: the same, or none, which is written as a hyphen.
-- Assumes nothing.
use Rattle.std.specs.Prelude.{ℕ, ◌+◌, ◌-◌, ◌*◌, Bool, true, cond, ◌&&◌, List, [], ◌∷◌, Some, None, Option, ◌==◌, nat_le}
use Rattle.std.specs.Option.{option_map}
use Rattle.commands.specs.Fields.{Field}

-- go on with a value, where there is one
abbrev pub and_some : {A B : Type 0} → Option A → (A → Option B) → Option B
and_some None f = None
and_some (Some x) f = f x

abbrev pub digits : List ℕ → Bool
digits [] = true
digits (d ∷ ds) = (nat_le 48 d && nat_le d 57) && digits ds

-- with n for the digits before these
abbrev pub value : ℕ → List ℕ → ℕ
value n [] = n
value n (d ∷ ds) = value (10 * n + (d - 48)) ds

abbrev pub number_to : ℕ → Field → Option ℕ
number_to most [] = None
number_to most (d ∷ ds) = cond (digits (d ∷ ds) && nat_le (value 0 (d ∷ ds)) most) (Some (value 0 (d ∷ ds))) None

-- 0 to 9, a to f, A to F
abbrev pub hex_digit : ℕ → Option ℕ
hex_digit b =
    cond (nat_le 48 b && nat_le b 57) (Some (b - 48))
    (cond (nat_le 97 b && nat_le b 102) (Some (b - 87))
    (cond (nat_le 65 b && nat_le b 70) (Some (b - 55)) None))

abbrev pub hex_bytes : List ℕ → Option (List ℕ)
hex_bytes [] = Some []
hex_bytes (high ∷ []) = None
hex_bytes (high ∷ (low ∷ more)) =
    and_some (hex_digit high) (λ h. and_some (hex_digit low) (λ l. option_map (λ bs. (16 * h + l) ∷ bs) (hex_bytes more)))

-- the hyphen is 2d in hex
abbrev pub hex : Field → Option (List ℕ)
hex [] = None
hex (b ∷ []) = cond (b == 45) (Some []) None
hex (b ∷ (c ∷ more)) = hex_bytes (b ∷ (c ∷ more))
