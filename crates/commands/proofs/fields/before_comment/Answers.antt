use Rattle.commands.proofs.Stretches.{to_comment, no_comment}
use Rattle.commands.proofs.fields.before_comment.Goals as goal

pub returns-in-Some : goal.returns-in-Some
returns-in-Some c = to_comment c.args.line.now c.in-Some.start c.in-Some.ensures

pub returns-in-None : goal.returns-in-None
returns-in-None c = no_comment c.args.line.now c.in-None.ensures
