use Rattle.std.proofs.Common.{sym, ap, ◌∙◌}
use Rattle.journal.specs.Journals.{state}
use Rattle.commands.specs.declared.command.Question.TheVariants.{Flatten}
use Rattle.questions.specs.Questions.{question_text}
use Rattle.questions.proofs.Told.{told_as}
use Rattle.questions.proofs.over_base.answer_question.Goals as goal

pub returns-in-Flatten : goal.returns-in-Flatten
returns-in-Flatten g c =
    let cells = g.B.Base.cells in
    told_as c.flatten_text.result
    (ap (λ l. question_text (cells l.base) (state l.journal) (Flatten l.tag)) c.new-in-Flatten.ensures
    ∙ ap (question_text (cells c.args.base) (state c.args.journal)) (sym c.in-Flatten.is))
    c.flatten_text.ensures
