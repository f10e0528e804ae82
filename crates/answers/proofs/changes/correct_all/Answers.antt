use Rattle.std.proofs.Common.{string_bytes}
use Rattle.journal.specs.Journals.{state}
use Rattle.answers.proofs.Drafts.{left_all, turns_all}
use Rattle.answers.proofs.changes.correct_all.Goals as goal

pub returns : goal.returns
returns c =
    let i = c.loop-c.invariant in
    let st = state c.loop-c.draft.journal.now in
    let first = state c.args.draft.now.journal.now in
    let cs = c.args.corrections.now in
    record {
      text = left_all st first (string_bytes c.loop-c.text) cs c.loop-c.c-index c.loop-c-test.false i.0;
      state = turns_all st first cs c.loop-c.c-index c.loop-c-test.false i.1;
      continues = i.2;
    }
