use Rattle.std.proofs.Common.{◌≡◌, ◌++◌, length, ap, ◌∙◌}
use Rattle.std.proofs.lemmas.List.{take_at}
use Rattle.answers.specs.Texts.{ok_text}
use Rattle.questions.specs.Questions.{readings_text}
use Rattle.questions.proofs.Told.{told_as}
use Rattle.questions.proofs.Flattening.{flat_text}
use Rattle.questions.proofs.over_base.flattened.flatten_text.Goals as goal

pub returns-in-Ok : goal.returns-in-Ok
returns-in-Ok g c =
    let cells = g.B.Base.cells c.args.base.now in
    let buffer = c.deref_mut.result.now in
    let after = c.flatten.new.out in
    let size = c.in_ok-readings.readings.len in
    let n = c.in-Ok.count in
    let fits : length buffer ≡ length cells = c.deref_mut.ensures.len ∙ c.in_ok-readings.ensures.len ∙ c.length.ensures in
    let kept : length after ≡ size = c.flatten.auto.out ∙ c.deref_mut.ensures.len in
    let read : c.deref.result.now ≡ after = c.deref.ensures.value ∙ take_at after _ size kept in
    told_as c.readings_text.result
    (ap (λ xs. ok_text n ++ readings_text xs) read ∙ flat_text cells buffer after n fits c.in-Ok.ensures)
    c.readings_text.ensures
