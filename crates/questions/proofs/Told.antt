-- A text that was made, by an equal one.
use Rattle.std.proofs.Common.{◌≡◌, ℕ, List, IfOk, Ok, Err, string_bytes, Result, String, ◌∙◌}
use Rattle.std.specs.declared.alloc.AllocError.{AllocError}
use Rattle.std.specs.declared.alloc.Global.{Global}

pub told_as : (r : Result (String Global) AllocError) {a b : List ℕ} → a ≡ b → IfOk r (λ t. string_bytes t ≡ a) → IfOk r (λ t. string_bytes t ≡ b)
told_as (Ok t) e h = h ∙ e
told_as (Err x) e h = tt
