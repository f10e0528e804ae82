use Rattle.std.proofs.Common.{◌≡◌, ℕ, [], length, Result, sym, ap, ◌∙◌, subst, arith}
use lib.ListN.{length-map}
use Rattle.std.specs.Result.{IsOk}
use Rattle.std.proofs.lemmas.List.{take_all}
use Rattle.series.specs.declared.refusal.Refusal.{Refusal}
use Rattle.journal.specs.declared.journal.Journal.{Journal}
use Rattle.journal.specs.Machine.{State, answer, answers}
use Rattle.journal.specs.Pieces.{gathered}
use Rattle.journal.specs.Tables.{origins}
use Rattle.journal.specs.Journals.{state, filled}
use Rattle.journal.specs.Stores.{in_use}
use Rattle.journal.specs.Tidied.{tidied}
use Rattle.journal.specs.Lawful.{Lawful}
use Rattle.journal.specs.Layouts.{Lays, Extended, Completes, Completed}
use Rattle.journal.proofs.Journals.{short}
use Rattle.journal.proofs.Tidying.{tidied_law}
use Rattle.journal.proofs.Truths.{lawful_state, lawful_tidied}
use Rattle.journal.proofs.Finished.{lays_all, makes}
use Rattle.journal.proofs.journal.Journal.tidy.Goals as goal
use Rattle.journal.proofs.journal.Journal.tidy.Goals.{After-take, After-length}

long : (c : goal.After-length) → c.length.result ≡ length (answers (state c.args.self.now))
long c = c.length.ensures ∙ sym (length-map (state c.args.self.now).origins answer)

law : (c : goal.After-take) → Lawful (tidied (state c.args.self.now))
law c = lawful_tidied (state c.args.self.now) (lawful_state c.args.self.now)

-- all that is answered is laid out
laid : (c : goal.After-take) → IsOk c.take.result × Lays c.take.new.self (answers (state c.args.self.now))
laid c =
    lays_all c.new-layout.result c.take.new.self (answers (state c.args.self.now)) c.take.result c.new-layout.ensures
    (subst (λ xs. Extended c.new-layout.result c.take.new.self xs c.take.result)
    (take_all c.length.result (answers (state c.args.self.now)) (omega (arith, long (goal.at.After-take c).After-length))) c.take.ensures)
    (law c).room

-- and makes the tidied journal
completes : (c : goal.After-take) → Completes c.take.new.self c.args.self.now.started (answers (state c.args.self.now))
completes c = ((laid c).1, λ few. law c)

pub take-requires : goal.take-requires
take-requires c =
    let j = c.args.self.now in
    ([], c.new-layout.ensures, omega (arith, long c, length-map (state j).origins answer, length-map (origins j.table) (filled (in_use j.words)), short j))

pub unwrap-requires : goal.unwrap-requires
unwrap-requires c = (laid c).0

pub finish-requires : goal.finish-requires
finish-requires c = (answers (state c.args.self.now), completes (goal.at.finish-requires c).After-take)

pub unwrap-requires-2 : goal.unwrap-requires-2
unwrap-requires-2 c =
    let w = (goal.at.unwrap-requires-2 c).After-take in
    makes c.finish.result (tidied (state c.args.self.now)) (c.finish.ensures (answers (state c.args.self.now)) (completes w)) (law w).few

pub returns : goal.returns
returns c =
    let w = (goal.at.returns c).After-take in
    let st = state c.args.self.now in
    let all = tidied_law ℕ in
    let outcome : state c.unwrap-2.result ≡ tidied (state c.args.self.now)
    = subst (λ (r : Result Journal Refusal). Completed r (tidied (state c.args.self.now))) c.unwrap-2.ensures
    (c.finish.ensures (answers (state c.args.self.now)) (completes w)) in
    record {
      outcome = outcome;
      told = ap answers outcome ∙ all.same st;
      fewest = λ rival store e.
          omega (arith, ap (λ (s : State ℕ). length (gathered s.origins)) outcome, all.fewest (tidied st) (all.tidies st) rival store (e ∙ sym (all.same st)));
      alone = λ other t n e. all.equal other (tidied st) t (all.tidies st) n (e ∙ sym (all.same st)) ∙ sym outcome;
    }
