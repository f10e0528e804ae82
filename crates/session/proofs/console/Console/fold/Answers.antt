use Rattle.std.proofs.Common.{◌≡◌, ℕ, List, Result, ap, ◌∙◌, rules}
use Rattle.series.specs.Refusals.{by_number}
use Rattle.answers.specs.Texts.{answer_text, ok_text}
use Rattle.journal.specs.Machine.{State}
use Rattle.journal.specs.Journals.{state}
use Rattle.journal.specs.Folded.{fold_outcome}
use Rattle.session.specs.Consoles.{Desk, desk, at, with_journal, on_journal, fold_answer}
use Rattle.session.proofs.console.Console.fold.Goals as goal

made-fold : (d after : Desk) (k : ℕ) (text : List ℕ) (answer : Result ℕ ℕ) (both : State ℕ) (o : Result ℕ ℕ × State ℕ) →
    text ≡ answer_text ok_text answer → after ≡ with_journal d k both → (answer, both) ≡ o → ◌≡◌ {A = List ℕ × Desk} (text, after) (on_journal d k (fold_answer o))
made-fold d after k text answer both o a b e =
    let s : ◌≡◌ {A = List ℕ × Desk} (text, after) (on_journal d k (fold_answer (answer, both))) = cc in
    s ∙ ap (λ p. on_journal d k (fold_answer p)) e

pub returns : goal.returns
returns c =
    let d = desk c.args.self.now in
    let same_outcome : fold_outcome (state c.journal.result) (state c.journal-2.result) (state c.journal-both.result) ≡ fold_outcome (at d c.args.lower.number) (at d c.args.upper.number) (at d c.args.third.number) = cc in
    record {
      outcome =
          made-fold d _ c.args.third.number _ (by_number c.fold-answer.result) _ _
          c.in_ok-text.ensures c.put.ensures (c.fold-answer.ensures.outcome ∙ same_outcome);
      same = search rules;
    }
