use Rattle.questions.proofs.Told.{told_as}
use Rattle.questions.proofs.Piles.{pile-followed}
use Rattle.questions.proofs.over_base.pile_text.Goals as goal

pub returns : goal.returns
returns g c =
    told_as c.place_text.result
    (pile-followed g.B.Base.cells g.B.Traced.journals c.args.base c.args.lower c.args.upper c.args.place c.new-one.result c.new-two.result c.new-two.ensures c.new-one.ensures c.requires)
    c.place_text.ensures
