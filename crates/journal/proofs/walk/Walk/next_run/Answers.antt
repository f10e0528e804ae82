use Rattle.std.proofs.Common.{length}
use Rattle.std.proofs.Math.Logic.{∥∥₁_map}
use Rattle.journal.proofs.Walks.{end-next, inside-next}
use Rattle.journal.proofs.walk.Walk.next_run.Goals as goal

pub invariant_of-self : goal.invariant_of-self
invariant_of-self c =
    let w = c.args.self.now in
    record {
      end = ∥∥₁_map w.end (end-next c.next.result w.pieces c.next.new.self w.words.now c.next.ensures.steps);
      inside = inside-next c.next.result w.pieces c.next.new.self (length w.words.now) c.next.ensures.steps w.inside;
    }
