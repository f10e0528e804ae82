use Rattle.std.proofs.Common.{sym, ap, ◌∙◌}
use Rattle.journal.specs.Journals.{state}
use Rattle.records.proofs.Batching.{batch-state}
use Rattle.pile.specs.Outcomes.{batching, carried}
use Rattle.pile.proofs.replay.carry_out.Goals as goal

pub returns-in-Batch : goal.returns-in-Batch
returns-in-Batch c =
    let st = state c.args.journal.now in
    let told = ap (λ o. o.0) c.batch.ensures.outcome in
    let after = ap (λ o. o.1) c.batch.ensures.outcome ∙ batch-state st c.in-Batch.bytes.now in
    (λ i. (batching (told i), after i)) ∙ ap (carried st) (sym c.in-Batch.is)
