use Rattle.std.proofs.Common.{◌≡◌, ℕ, ◌+◌, List, map, length, sym, refl, ap, ◌∙◌}
use Rattle.journal.specs.Journals.{state}
use Rattle.journal.specs.Machine.{State, start}
use Rattle.history.specs.Calls.{called, ran}
use Rattle.pile.specs.declared.outcome.Outcome.{Outcome as Noted}
use Rattle.pile.specs.Heard.{heard}
use Rattle.pile.specs.LaidCells.{laid_on}
use Rattle.pile.specs.Outcomes.{by_outcome, outcomes_of, noted}
use Rattle.pile.proofs.Notes.{notes, notes_more, notes_all}
use Rattle.pile.proofs.Starts.{started_for, law_of-laid}
use Rattle.pile.proofs.Turns.{turns_more, turns_all}
use Rattle.pile.proofs.replay.replay.Goals as goal

pub loop-at-preserved : goal.loop-at-preserved
loop-at-preserved g c =
    let i = c.loop-at.invariant in
    let st = state c.loop-at.journal in
    let calls = c.args.calls.now in
    let after = ap (λ o. o.1) c.carry_out-outcome.ensures in
    let told = ap (λ o. o.0) c.carry_out-outcome.ensures in (
      turns_more (λ st ks. ran st (map heard ks)) (λ st k. called st (heard k)) (λ st k ks. refl) (λ st. refl)
          st _ calls c.loop-at.at _ c.loop-at-test.true after
          ∙ i.0,
      ap (λ (outs : List Noted). notes (state c.carry_out-outcome.new.journal) calls (c.loop-at.at + 1) outs) c.note.ensures
          ∙ notes_more st _ calls c.loop-at.at _ c.loop-at.outcomes c.carry_out-outcome.result c.loop-at-test.true after told
          ∙ i.1,
    )

pub returns : goal.returns
returns g c =
    let i = c.loop-at.invariant in
    let st = state c.loop-at.journal in
    let calls = c.args.calls.now in
    let cells = g.B.Base.cells in
    let base = c.args.base in
    let begins : state c.start.new.self ≡ start (length (cells base)) =
    started_for _ _ (length (cells base)) c.start.ensures.outcome c.length.ensures (g.B.Base.few base) in
    let lies : c.new.result ≡ laid_on base c.new.result.journal c.args.tag =
    c.new.ensures ∙ ap (λ j. laid_on base j c.args.tag) (sym (ap (λ l. l.journal) c.new.ensures)) in
    let ends : state c.new.result.journal ≡ ran (start (length (cells base))) (map heard calls) =
    ap (λ l. state l.journal) c.new.ensures
    ∙ sym (turns_all (λ st ks. ran st (map heard ks)) (λ st k. called st (heard k)) (λ st k ks. refl) (λ st. refl) st calls c.loop-at.at c.loop-at-test.false)
    ∙ i.0
    ∙ ap (λ (s : State ℕ). ran s (map heard calls)) begins in
    record {
      state = ends;
      lies = lies;
      outcomes =
          sym (notes_all st calls c.loop-at.at c.loop-at.outcomes c.loop-at-test.false)
          ∙ i.1
          ∙ ap (λ (s : State ℕ). noted (outcomes_of s calls) (map by_outcome c.args.outcomes.now)) begins;
      law = law_of-laid g.B.Kind.Reading.word g.B.Kind.Reading.reading cells base c.args.tag (map heard calls) c.new.result lies ends;
    }
