-- Numbers of up to 64 bits as a type that holds only some of them.
-- Narrows: a number is read as a value that stands for it, or is greater than all that the type holds.
-- Assumes nothing.
use Rattle.std.specs.Prelude.{◌≡◌, ℕ, suc, ◌<◌, ◌≤◌, Ok, Err, Result, MatchResult}
use Rattle.std.specs.Result.{OkIff}
use Rattle.std.proofs.Common.{arith}

abbrev pub Narrows : {N E : Type 0} → ℕ → (N → ℕ) → ℕ → Result N E → Type 0
Narrows most value n r = MatchResult r (λ x. (value x ≡ n) × (n ≤ most)) (λ _. most < n)

-- by a test of the greatest
pub narrows : {E : Type 0} (most n : ℕ) (r : Result ℕ E) → OkIff r (n < suc most) n → Narrows most (λ x. x) n r
narrows most n (Ok x) h = (h.1, omega (arith, h.0))
narrows most n (Err e) h = omega (arith, h)
