use Rattle.std.proofs.Common.{List, ◌∷◌, sym, ap, ◌∙◌, subst}
use lib.ListN.{length-map}
use Rattle.std.specs.List.{flat_map}
use Rattle.std.proofs.lemmas.Result.{err_from_is_err_and}
use Rattle.journal.specs.declared.walk.Run.{Run as Handed}
use Rattle.journal.specs.declared.walk.Walk.{Walk}
use Rattle.journal.specs.Machine.{word, answers}
use Rattle.journal.specs.Journals.{state, state-few}
use Rattle.journal.specs.Runs.{Run, kept_run, entered_run, origins_of}
use Rattle.journal.specs.Walks.{said, coming}
use Rattle.journal.proofs.Walks.{next_cons}
use Rattle.journal.proofs.Folds.{Halfway, halfway_none, halfway_more, halfway_over, halfway_takes, length-through}
use Rattle.journal.proofs.fold.laid_through.Goals as goal
use Rattle.journal.proofs.fold.laid_through.Goals.{In-Kept, In-Entered}

pub loop-run-init : goal.loop-run-init
loop-run-init c =
    let same = c.into_iter-run-iterator.ensures.into_iter_gives in
    halfway_none c.new-layout.result c.args.lower.now c.args.upper.now (coming c.into_iter-run-iterator.result) c.requires c.new-layout.ensures
    (ap coming same ∙ c.walk-run-items.ensures.runs) (ap (λ (w : Walk). flat_map origins_of (coming w)) same ∙ c.walk-run-items.ensures.origins)

-- the run of a turn, and those to come after it
kept-turn : (c : goal.In-Kept)
    → Halfway c.loop-run.layout (kept_run c.in-Kept.place c.in-Kept.count ∷ coming c.next.new.self)
    (answers (state c.args.lower.now)) (answers (state c.args.upper.now))
kept-turn c =
    subst (λ (rs : List Run). Halfway c.loop-run.layout rs (answers (state c.args.lower.now)) (answers (state c.args.upper.now)))
    (next_cons (said c.in-Some.run') (coming c.next.new.self) (coming c.loop-run.run-iterator) c.in-Some.ensures.steps
    ∙ ap (λ (r : Handed). said r ∷ coming c.next.new.self) c.in-Kept.is)
    c.loop-run.invariant

entered-turn : (c : goal.In-Entered)
    → Halfway c.loop-run.layout (entered_run c.in-Entered.first c.in-Entered.words.now ∷ coming c.next.new.self)
    (answers (state c.args.lower.now)) (answers (state c.args.upper.now))
entered-turn c =
    subst (λ (rs : List Run). Halfway c.loop-run.layout rs (answers (state c.args.lower.now)) (answers (state c.args.upper.now)))
    (next_cons (said c.in-Some.run') (coming c.next.new.self) (coming c.loop-run.run-iterator) c.in-Some.ensures.steps
    ∙ ap (λ (r : Handed). said r ∷ coming c.next.new.self) c.in-Entered.is)
    c.loop-run.invariant

pub take-requires : goal.take-requires
take-requires c =
    let low = answers (state c.args.lower.now) in
    let t = kept-turn (goal.at.take-requires c).In-Kept in
    halfway_takes c.loop-run.layout (kept_run c.in-Kept.place c.in-Kept.count) (coming c.next.new.self) low (answers (state c.args.upper.now)) t
    (state-few c.args.upper.now) _ (length-through low c.in-Kept.place c.in-Kept.count (coming c.next.new.self) t.inside)

pub loop-run-preserved-in-Continue-1 : goal.loop-run-preserved-in-Continue-1
loop-run-preserved-in-Continue-1 c =
    halfway_more c.loop-run.layout (kept_run c.in-Kept.place c.in-Kept.count) (coming c.next.new.self) (answers (state c.args.lower.now))
    (answers (state c.args.upper.now)) (kept-turn (goal.at.loop-run-preserved-in-Continue-1 c).In-Kept) c.take.new.self c.in_ok-take-in-Kept.ensures

pub returns-in_err-take-in-Kept : goal.returns-in_err-take-in-Kept
returns-in_err-take-in-Kept c =
    let p = err_from_is_err_and c.from_residual.result c.from_residual.ensures.1 in
    let g = c.in_err-take-in-Kept.ensures in
    rw (p.1, p.2) (
      g.0,
      halfway_over c.loop-run.layout (kept_run c.in-Kept.place c.in-Kept.count) (coming c.next.new.self) (answers (state c.args.lower.now))
          (answers (state c.args.upper.now)) (kept-turn (goal.at.returns-in_err-take-in-Kept c).In-Kept) g.1,
    )

pub enter-requires : goal.enter-requires
enter-requires c =
    halfway_takes c.loop-run.layout (entered_run c.in-Entered.first c.in-Entered.words.now) (coming c.next.new.self) (answers (state c.args.lower.now))
    (answers (state c.args.upper.now)) (entered-turn (goal.at.enter-requires c).In-Entered) (state-few c.args.upper.now) _
    (sym (length-map c.in-Entered.words.now word))

pub loop-run-preserved : goal.loop-run-preserved
loop-run-preserved c =
    halfway_more c.loop-run.layout (entered_run c.in-Entered.first c.in-Entered.words.now) (coming c.next.new.self) (answers (state c.args.lower.now))
    (answers (state c.args.upper.now)) (entered-turn (goal.at.loop-run-preserved c).In-Entered) c.enter.new.self c.in_ok-enter-in-Entered.ensures

pub returns-in_err-enter-in-Entered : goal.returns-in_err-enter-in-Entered
returns-in_err-enter-in-Entered c =
    let p = err_from_is_err_and c.from_residual-in_err-enter-in-Entered.result c.from_residual-in_err-enter-in-Entered.ensures.1 in
    let g = c.in_err-enter-in-Entered.ensures in
    rw (p.1, p.2) (
      g.0,
      halfway_over c.loop-run.layout (entered_run c.in-Entered.first c.in-Entered.words.now) (coming c.next.new.self) (answers (state c.args.lower.now))
          (answers (state c.args.upper.now)) (entered-turn (goal.at.returns-in_err-enter-in-Entered c).In-Entered) g.1,
    )
