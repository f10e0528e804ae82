-- What an argument reads as, where a part of it does not read.
use Rattle.std.proofs.Common.{◌≡◌, IsErrAnd, Some, None, Err, Option, Result, sym, ap, ◌∙◌, subst}
use Rattle.std.proofs.lemmas.Result.{err_from_is_err_and}
use Rattle.commands.specs.declared.wrong.ParseFault.{ParseFault}
use Rattle.commands.specs.declared.wrong.ParseFault.TheVariants as fault
use Rattle.commands.specs.Arguments.{Fails, Reads}

-- the parts of a pair
pub some_pair : {A B : Type 0} (a c : A) (b d : B) → ◌≡◌ {A = Option (A × B)} (Some (a, b)) (Some (c, d)) → (a ≡ c) × (b ≡ d)
some_pair {A = A} {B = B} a c b d e =
    let p : ◌≡◌ {A = A × B} (a, b) (c, d) = cc in
    (ap (λ (q : A × B). q.0) p, ap (λ (q : A × B). q.1) p)

-- a fault of a part is a fault of the whole
fails_whole : {A B : Type 0} (x : ParseFault) (o : Option A) (p : Option B) → (o ≡ None → p ≡ None) → Fails x o → Fails x p
fails_whole (fault.Wrong w) o p h e = (e.0, h e.1)
fails_whole fault.NoMemory o p h e = tt

-- at the exit of a `?`, by a fault
pub reads_break : {A B C : Type 0} (g : B → C) (x : ParseFault) (r : Result B ParseFault) (o : Option A) (p : Option C) → IsErrAnd r (λ y. y ≡ x) → (o ≡ None → p ≡ None) → Fails x o → Reads g r p
reads_break {B = B} g x r o p b h e =
    let q = err_from_is_err_and r b in
    let z : r ≡ Err x = q.1 ∙ ap Err q.2 in
    subst (λ (s : Result B ParseFault). Reads g s p) (sym z) (fails_whole x o p h e)
