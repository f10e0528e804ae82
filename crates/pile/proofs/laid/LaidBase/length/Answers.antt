use Rattle.std.proofs.Common.{◌≡◌, length, sym, ◌∙◌}
use lib.ListN.{length-map}
use Rattle.journal.specs.Journals.{state}
use Rattle.history.specs.Laid.{laid}
use Rattle.pile.proofs.Leads.{balanced}
use Rattle.pile.proofs.laid.LaidBase.length.Goals as goal

pub returns : goal.returns
returns g c =
    let s = c.args.self.now in
    let below = g.B.Base.cells s.base in
    let reading = g.B.Kind.Reading.reading in
    let long : c.length.result ≡ length (laid reading s.tag below (state s.journal)) =
    c.length.ensures ∙ sym (length-map _ _) ∙ sym (length-map _ _) in
    record { length = long; balance = balanced g.B.Kind.Reading.word reading s.tag below (state s.journal) _ long }
