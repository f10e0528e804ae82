use Rattle.std.proofs.Common.{string_bytes}
use Rattle.answers.proofs.Separated.{GrownEach}
use Rattle.answers.proofs.texts.push_each.Given as goal

abbrev pub invariant-loop-item : goal.invariant-loop-item
invariant-loop-item g l = GrownEach g.T.Display.output l.separator (string_bytes l.initial.text) l.items l.item-index (string_bytes l.text)
