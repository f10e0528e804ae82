-- The law of histories, of what a laid journal answers.
use Rattle.std.proofs.Common.{◌≡◌, ℕ, ◌+◌, List, length, Result, sym, ap, ◌∙◌, subst}
use Rattle.series.specs.declared.cell.Cell.{Cell}
use Rattle.series.specs.Lists.{nth}
use Rattle.journal.specs.Machine.{State, Answer, answers}
use Rattle.history.specs.Calls.{Call}
use Rattle.history.specs.History.{Law, accepted, all_struck}
use Rattle.history.specs.Laid.{laid}
use Rattle.history.proofs.Histories.{history_law}
use Rattle.pile.specs.Led.{Led, Balanced, TellsItem, ReadsItem}

module _ {R : Type 0} (encode : R → ℕ) (decode : ℕ → R) (tag : ℕ) (cells : List (Cell R)) (st : State ℕ) where
  pub law_led : (calls : List (Call ℕ)) → Led (length cells) st calls → Law (length cells) calls encode decode st cells (laid decode tag cells st)
  law_led calls led =
      subst (λ (s : State ℕ). Law (length cells) calls encode decode s cells (laid decode tag cells s)) (sym led) (history_law ℕ R encode decode cells tag calls)

  pub balanced : (long : ℕ) → long ≡ length (laid decode tag cells st) → Balanced (length cells) st long
  balanced long e calls led =
      ap (λ (n : ℕ). n + all_struck (accepted (length cells) calls)) e ∙ (law_led calls led).balance

  pub tells_item : (q : ℕ) (told : Result (Answer ℕ) ℕ) → told ≡ nth (answers st) q → TellsItem (length cells) st q told
  tells_item q told e calls led =
      let law = law_led calls led in
      (λ x s. e ∙ law.origin x q s, λ m h. law.bases m q (sym e ∙ h))

  pub reads_item : (q : ℕ) (read : Result (Cell R) ℕ) → read ≡ nth (laid decode tag cells st) q → ReadsItem decode cells st q read
  reads_item q read e calls led =
      let law = law_led calls led in
      (λ m s. e ∙ law.of_base m q s, λ x s. e ∙ law.of_word x q s)
