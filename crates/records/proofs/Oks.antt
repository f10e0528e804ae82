-- What follows from an answer that is Ok.
use Rattle.std.proofs.Common.{◌≡◌, ℕ, Bool, true, false, cond, Ok, Err, Result, refl, ap, arith}
use Rattle.series.specs.Refusals.{and_then}

module _ {A E : Type 0} where
  pub ok_same : (x y : A) → ◌≡◌ {A = Result A E} (Ok x) (Ok y) → x ≡ y
  ok_same x y e = cc

  pub err_never : (e : E) (x : A) → ◌≡◌ {A = Result A E} (Err e) (Ok x) → ⊥
  err_never e x p = let no : ◌≡◌ {A = ℕ} 0 1 = cc in omega arith

  pub cond_ok : (b : Bool) (e : E) (r : Result A E) (x : A) → cond b (Err e) r ≡ Ok x → (b ≡ false) × (r ≡ Ok x)
  cond_ok true e r x p = absurd (err_never e x p)
  cond_ok false e r x p = (refl, p)

  module _ {B : Type 0} where
    pub then_ok : {r : Result A E} (f : A → Result B E) (x : A) → r ≡ Ok x → and_then r f ≡ f x
    then_ok f x p = ap (λ s. and_then s f) p

    pub then_err : {r : Result A E} (f : A → Result B E) (e : E) → r ≡ Err e → and_then r f ≡ Err e
    then_err f e p = ap (λ s. and_then s f) p

pub then_from : {A B E : Type 0} (r : Result A E) (f : A → Result B E) (y : B) → and_then r f ≡ Ok y → (x : A) × (r ≡ Ok x) × (f x ≡ Ok y)
then_from (Ok x) f y p = (x, refl, p)
then_from (Err e) f y p = absurd (err_never e y p)
