use Rattle.std.proofs.Common.{◌≡◌, ℕ, ◌≤◌, map, length, Ok, Result, sym, ap, ◌∙◌, ap₂, arith}
use mathlib.Core.Path.{subst⁻¹}
use lib.ListN.{length-map}
use Rattle.std.proofs.lemmas.Result.{err_from_is_err_and}
use Rattle.journal.specs.Machine.{State, answer, answers, pieces}
use Rattle.journal.specs.Journals.{state}
use Rattle.journal.specs.Tidied.{neat}
use Rattle.journal.specs.Folded.{followed, folded, fold, fold_answer}
use Rattle.journal.specs.Lawful.{Lawful}
use Rattle.journal.specs.Layouts.{Completes}
use Rattle.journal.proofs.Layouts.{length-renumbered}
use Rattle.journal.proofs.Truths.{lawful_state, lawful_fold}
use Rattle.journal.proofs.Folds.{fold_crowded, fold-accepted}
use Rattle.journal.proofs.fold.fold.Goals as goal
use Rattle.journal.proofs.fold.fold.Goals.{After-started-2, In_ok-layout}

fits : (c : goal.In_ok-layout) → (state c.args.upper.now).started ≡ length (state c.args.lower.now).origins
fits c = sym c.started.ensures ∙ c.if-started-length.false ∙ c.length.ensures

room : (c : goal.In_ok-layout) → length (folded (state c.args.lower.now) (state c.args.upper.now)).words ≤ 1024
room c = let h = c.in_ok-layout.ensures in omega (arith, h.used, h.room)

accepted : (c : goal.In_ok-layout) → pieces (folded (state c.args.lower.now) (state c.args.upper.now)).origins ≤ 256
    → fold (state c.args.lower.now) (state c.args.upper.now) ≡ Ok (folded (state c.args.lower.now) (state c.args.upper.now))
accepted c = fold-accepted (state c.args.lower.now) (state c.args.upper.now) (state c.args.third.now) (fits c) (room c)

-- the layout makes the folded journal, unless it has too many pieces
completes : (c : goal.After-started-2)
    → Completes c.in_ok-layout.layout c.started-2.result (map (followed (answers (state c.args.lower.now))) (answers (state c.args.upper.now)))
completes c = (
  c.in_ok-layout.ensures,
  λ few.
      subst⁻¹ (λ (n : ℕ). Lawful (neat n (map (followed (answers (state c.args.lower.now))) (answers (state c.args.upper.now))))) c.started-2.ensures
      (lawful_fold (state c.args.lower.now) (state c.args.upper.now) (folded (state c.args.lower.now) (state c.args.upper.now))
      (lawful_state c.args.lower.now) (lawful_state c.args.upper.now) (accepted (goal.at.After-started-2 c).In_ok-layout few)),
)

pub finish-requires : goal.finish-requires
finish-requires c = (map (followed (answers (state c.args.lower.now))) (answers (state c.args.upper.now)), completes c)

pub returns-in_err-third-clause-outcome : goal.returns-in_err-third-clause-outcome
returns-in_err-third-clause-outcome c =
    let p = err_from_is_err_and c.from_residual-in_err-third.result c.from_residual-in_err-third.ensures.1 in
    let g = c.in_err-third.ensures _ (completes (goal.at.returns-in_err-third-clause-outcome c).After-started-2) in
    let w = (goal.at.returns-in_err-third-clause-outcome c).In_ok-layout in
    rw (p.1, p.2, g.0) (fold_crowded (state c.args.lower.now) (state c.args.upper.now) (state c.args.third.now) (fits w) (room w) g.1)

pub returns-clause-outcome : goal.returns-clause-outcome
returns-clause-outcome c =
    let lower = state c.args.lower.now in
    let upper = state c.args.upper.now in
    let xs = map (followed (answers lower)) (answers upper) in
    let g = c.in_ok-third.ensures _ (completes (goal.at.returns-clause-outcome c).After-started-2) in
    let w = (goal.at.returns-clause-outcome c).In_ok-layout in
    let is : state c.in_ok-third.field-0 ≡ folded lower upper = g ∙ ap (λ (n : ℕ). neat n xs) c.started-2.ensures in
    let long : c.length-2.result ≡ length (folded lower upper).origins =
    omega (arith, c.length-2.ensures, length-renumbered 0 xs, length-map (answers upper) (followed (answers lower)), length-map upper.origins answer) in
    ap₂ (λ (n : ℕ) (s : State ℕ). let a : Result ℕ ℕ × State ℕ = (Ok n, s) in a) long is
    ∙ ap (fold_answer (state c.args.third.now)) (sym (accepted w (omega (arith, ap (λ (s : State ℕ). pieces s.origins) is, (lawful_state c.in_ok-third.field-0).few))))
