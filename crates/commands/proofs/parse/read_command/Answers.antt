use Rattle.commands.specs.Coming.{coming}
use Rattle.commands.specs.Commands.{by_command}
use Rattle.commands.proofs.Lines.{no_such, such, such_break}
use Rattle.commands.proofs.parse.read_command.Goals as goal

pub returns-in_default-verb_of : goal.returns-in_default-verb_of
returns-in_default-verb_of c =
    no_such (coming c.args.fields) (coming c.next.new.self) c.in-Some.name.now c.in-Some.ensures.steps c.in_default-verb_of.ensures

pub returns-in_err-command : goal.returns-in_err-command
returns-in_err-command c =
    such_break (coming c.args.fields) (coming c.next.new.self) c.in-Some.name.now c.in-Some-verb_of.verb _ c.from_residual.result c.in-Some.ensures.steps c.in-Some-verb_of.ensures c.from_residual.ensures.1 c.in_err-command.ensures

pub returns : goal.returns
returns c =
    such (coming c.args.fields) (coming c.next.new.self) c.in-Some.name.now c.in-Some-verb_of.verb (by_command c.in_ok-command.command) c.in-Some.ensures.steps c.in-Some-verb_of.ensures c.in_ok-command.ensures
