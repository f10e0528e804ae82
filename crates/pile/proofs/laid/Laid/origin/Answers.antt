use Rattle.journal.specs.Journals.{state}
use Rattle.pile.proofs.Leads.{tells_item}
use Rattle.pile.proofs.laid.Laid.origin.Goals as goal

pub returns : goal.returns
returns g c =
    let s = c.args.self.now in
    record {
      answer = c.origin.ensures;
      stands = tells_item g.B.Kind.Reading.word g.B.Kind.Reading.reading s.tag (g.B.Base.cells s.base) (state s.journal) c.args.place _ c.origin.ensures;
    }
