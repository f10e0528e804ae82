-- How many corrections of a draft are accepted, by what is left of them.
use Rattle.std.proofs.Common.{◌≡◌, ℕ, ◌+◌, ◌≤◌, Bool, true, false, cond, arith}

-- at most one more is accepted
pub counted : (ok : Bool) (b : ℕ) {a i : ℕ} → b ≡ cond ok 1 0 → a ≤ i → a + b ≤ i + 1
counted true b e h = omega (arith, e)
counted false b e h = omega (arith, e)
