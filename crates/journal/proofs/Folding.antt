-- What an accepted fold is.
use Rattle.std.proofs.Common.{◌≡◌, ℕ, ◌≤◌, Bool, true, false, cond, not, eqb, ltb, map, length, Ok, Err, Result, sym, refl, ap, ◌∙◌, subst, arith}
use lib.ListN.{length-map}
use Rattle.std.proofs.lemmas.Bool.{eqb-true, ltb-false}
use Rattle.journal.specs.Machine.{State, answer, answers, pieces}
use Rattle.journal.specs.Tidiness.{IsTidied}
use Rattle.journal.specs.Folded.{followed, folded, fold}
use Rattle.journal.proofs.Tidying.{answers-neat, tidied-neat}

module _ {W : Type 0} where
  -- what the checks of an accepted fold found
  pub record Accepted (lower upper both : State W) : Type 0 where
    pub fits : upper.started ≡ length (answers lower)
    pub is : folded lower upper ≡ both
    pub room : length both.words ≤ 1024
    pub few : pieces both.origins ≤ 256

  pub accepted : (lower upper both : State W) → fold lower upper ≡ Ok both → Accepted lower upper both
  accepted lower upper both h =
      let f = folded lower upper in
      one (folded lower upper) refl (eqb upper.started (length lower.origins)) refl
      (ltb 1024 (length f.words)) refl (ltb 256 (pieces f.origins)) refl h
    where
      one : (f : State W) → folded lower upper ≡ f → (b : Bool) → eqb upper.started (length lower.origins) ≡ b →
          (c : Bool) → ltb 1024 (length f.words) ≡ c → (d : Bool) → ltb 256 (pieces f.origins) ≡ d →
          cond {A = Result (State W) ℕ} (not b) (Err 5) (cond c (Err 3) (cond d (Err 4) (Ok f))) ≡ Ok both → Accepted lower upper both
      one f made true e false i false j k =
          let same : f ≡ both = cc in
          record {
            fits = eqb-true upper.started (length lower.origins) e ∙ sym (length-map lower.origins answer);
            is = made ∙ same;
            room = subst (λ (s : State W). length s.words ≤ 1024) same (ltb-false 1024 (length f.words) i);
            few = subst (λ (s : State W). pieces s.origins ≤ 256) same (ltb-false 256 (pieces f.origins) j);
          }
      one f made true e false i true j k = let z : ◌≡◌ {A = ℕ} 0 1 = cc in absurd (omega arith)
      one f made true e true i d j k = let z : ◌≡◌ {A = ℕ} 0 1 = cc in absurd (omega arith)
      one f made false e c i d j k = let z : ◌≡◌ {A = ℕ} 0 1 = cc in absurd (omega arith)

  module _ (lower upper both : State W) (h : fold lower upper ≡ Ok both) where
    pub answers-fold : answers both ≡ map (followed (answers lower)) (answers upper)
    answers-fold =
        ap answers (sym (accepted lower upper both h).is) ∙ answers-neat lower.started (map (followed (answers lower)) (answers upper))

    pub started-fold : both.started ≡ lower.started
    started-fold = ap (λ (s : State W). s.started) (sym (accepted lower upper both h).is)

    pub tidied-fold : IsTidied both
    tidied-fold = subst IsTidied (accepted lower upper both h).is (tidied-neat lower.started (map (followed (answers lower)) (answers upper)))
