use Rattle.std.proofs.Common.{◌∙◌}
use Rattle.std.proofs.lemmas.Result.{IfOk-weaker}
use Rattle.series.specs.Refusals.{number}
use Rattle.journal.specs.Asked.{asked}
use Rattle.answers.proofs.RecordBytes.{written-refused}
use Rattle.answers.proofs.record_texts.written_text.Goals as goal

pub returns-in-Err : goal.returns-in-Err
returns-in-Err c =
    IfOk-weaker c.to_string.result _ _
    (λ text e. e ∙ written-refused (asked c.args.asks.now) c.args.room.now c.write_record.new.out (number c.in-Err.refusal) c.requires c.in-Err.ensures.outcome)
    c.to_string.ensures.ok
