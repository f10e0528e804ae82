use Rattle.session.specs.Consoles.{desk}
use Rattle.session.proofs.Executions.{made-pile}
use Rattle.session.proofs.console.Console.pile.Goals as goal

pub returns : goal.returns
returns c =
    made-pile c.answer.result (desk c.args.self.now) c.args.lower.number c.args.upper.number c.args.place _ _
    c.journal.ensures c.journal-2.ensures c.answer.ensures
