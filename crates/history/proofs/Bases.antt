-- In every state of a history, base places lie below the length started for.
use Rattle.std.proofs.Common.{◌≡◌, ℕ, ◌<◌, true, List, map, Ok, sym, refl, ap, ◌∙◌, arith}
use mathlib.Core.Path.{subst⁻¹}
use Rattle.series.specs.Lists.{nth}
use Rattle.journal.specs.Machine.{State, Correction, Answer, place, word, answers, start, edited, passes}
use Rattle.journal.proofs.Nths.{nth_unmap}
use Rattle.journal.proofs.Tidying.{answers-tidied}
use Rattle.history.specs.Calls.{Call, ran}
use Rattle.history.proofs.Lists.{Ways, before, fresh, behind, ways}
use Rattle.history.proofs.Runs.{fits, at-start, answers-edited, keeps}

module _ {W : Type 0} where
  -- base places among the answers lie below n
  abbrev pub Below : ℕ → List (Answer W) → Type 0
  Below n xs = (q m : ℕ) → nth xs q ≡ Ok (place m) → m < n

  pub not_word : (ws : List W) (i m : ℕ) → nth (map word ws) i ≡ Ok (place m) → ⊥
  not_word ws i m h = let w = nth_unmap word ws i (place m) h in let f = w.2 in let z : ◌≡◌ {A = ℕ} 0 1 = cc in omega arith

  pub below-start : (n : ℕ) → Below n (answers (start n))
  below-start n q m h = let w = at-start n q (place m) h in let f = w.0 in let same : m ≡ q = cc in omega (arith, w.1)

  pub below-edited : (n : ℕ) (st : State W) (c : Correction W) → passes st c ≡ true → Below n (answers st) → Below n (answers (edited st c))
  below-edited n st c pass s q m h =
      at (ways c.at c.strikes (map word c.enters) (answers st) (fits st c pass) (place m) q
      (sym (ap (λ (l : List (Answer W)). nth l q) (answers-edited st c)) ∙ h))
    where
      at : Ways c.at c.strikes (map word c.enters) (answers st) (place m) q → m < n
      at (before l e) = s q m e
      at (fresh i l e) = absurd (not_word c.enters i m e)
      at (behind r l k e) = s r m e

  pub below-ran : (n : ℕ) (st : State W) (calls : List (Call W)) → Below n (answers st) → Below n (answers (ran st calls))
  below-ran n st calls h =
      keeps (λ ts s. Below n (answers s)) (λ ts s c e b. below-edited n s c e b) (λ ts s b. subst⁻¹ (Below n) (answers-tidied s) b) calls st h

  -- a history leaves the length started for as it is
  pub started-ran : (st : State W) (calls : List (Call W)) → (ran st calls).started ≡ st.started
  started-ran st calls = keeps (λ ts s. s.started ≡ st.started) (λ ts s c e b. b) (λ ts s b. b) calls st refl
