use Rattle.std.proofs.Common.{◌≡◌, ℕ, Ok, Err, sym, ap, ◌∙◌}
use Rattle.std.proofs.lemmas.Result.{err_from_is_err_and}
use Rattle.series.specs.Lists.{nth}
use Rattle.series.specs.Refusals.{number}
use Rattle.journal.specs.declared.piece.Source.{Source}
use Rattle.journal.specs.Machine.{base, entered, word}
use Rattle.journal.specs.Pieces.{origin}
use Rattle.journal.specs.Tables.{origins}
use Rattle.journal.proofs.Fills.{well_nth}
use Rattle.journal.proofs.Journals.{whole, well, tells}
use Rattle.journal.proofs.journal.Journal.origin.Goals as goal
use Rattle.journal.proofs.journal.Journal.origin.Goals.{In-Entered}

pub find-requires : goal.find-requires
find-requires c = whole c.args.self.now

pub returns-in_err-source : goal.returns-in_err-source
returns-in_err-source c =
    let p = err_from_is_err_and c.from_residual.result c.from_residual.ensures.1 in
    rw (p.1, p.2) (tells c.args.self.now c.args.place (Err (number c.in_err-source.field-0.0)) c.in_err-source.ensures)

-- the entered word that stands at the place
found : (c : goal.In-Entered) → Ok (entered c.in_ok-source.number tt) ≡ nth (origins c.args.self.now.table) c.args.place
found c = ap (λ (s : Source). Ok (origin s c.in_ok-source.number)) (sym c.in-Entered.is) ∙ c.in_ok-source.ensures

pub word-requires-clause-inside : goal.word-requires-clause-inside
word-requires-clause-inside c =
    let j = c.args.self.now in
    well_nth 0 j.started j.words.used (origins j.table) c.args.place c.in_ok-source.number (well j)
    (sym (found (goal.at.word-requires-clause-inside c).In-Entered))

pub returns-in-Kept : goal.returns-in-Kept
returns-in-Kept c =
    tells c.args.self.now c.args.place (Ok (base c.in_ok-source.number))
    (ap (λ (s : Source). Ok (origin s c.in_ok-source.number)) (sym c.in-Kept.is) ∙ c.in_ok-source.ensures)

pub returns-in-Entered : goal.returns-in-Entered
returns-in-Entered c =
    ap (λ (w : ℕ). Ok (word w)) c.word.ensures
    ∙ tells c.args.self.now c.args.place (Ok (entered c.in_ok-source.number tt)) (found (goal.at.returns-in-Entered c).In-Entered)
