use Rattle.std.proofs.Common.{Err, ap, ◌∙◌}
use Rattle.std.specs.Result.{result_unwrap_or}
use Rattle.std.proofs.lemmas.Result.{err_from_is_err_and}
use Rattle.series.specs.declared.cell.Cell.TheVariants as cell
use Rattle.series.specs.Faults.{past_base}
use Rattle.series.specs.Refusals.{by_number}
use Rattle.journal.specs.Journals.{state}
use Rattle.pile.proofs.Lays.{unwrap_by_number, laid_ok, laid_err}
use Rattle.pile.proofs.Leads.{reads_item}
use Rattle.pile.proofs.laid.LaidBase.read.Goals as goal

pub returns-in_err-at : goal.returns-in_err-at
returns-in_err-at g c =
    let s = c.args.self.now in
    let reading = g.B.Kind.Reading.reading in
    let below = g.B.Base.cells s.base in
    let p = err_from_is_err_and c.from_residual.result c.from_residual.ensures.1 in
    let e = ap by_number (p.1 ∙ ap Err p.2) ∙ laid_err reading s.tag below (state s.journal) c.args.place _ c.in_err-at.ensures in
    record { cell = e; stands = reads_item g.B.Kind.Reading.word reading s.tag below (state s.journal) c.args.place _ e }

pub returns-in-Base : goal.returns-in-Base
returns-in-Base g c =
    let s = c.args.self.now in
    let reading = g.B.Kind.Reading.reading in
    let below = g.B.Base.cells s.base in
    let past = cell.Fault (past_base s.tag c.in-Base.at) in
    let here =
    c.unwrap_or.ensures ∙ ap (result_unwrap_or c.read.result) (ap cell.Fault c.new.ensures)
    ∙ unwrap_by_number c.read.result past ∙ ap (λ r. result_unwrap_or r past) c.read.ensures in
    let e = laid_ok reading s.tag below (state s.journal) c.args.place _ _ _ c.in_ok-at.ensures c.in-Base.is here in
    record { cell = e; stands = reads_item g.B.Kind.Reading.word reading s.tag below (state s.journal) c.args.place _ e }

pub returns-in-Entered : goal.returns-in-Entered
returns-in-Entered g c =
    let s = c.args.self.now in
    let reading = g.B.Kind.Reading.reading in
    let below = g.B.Base.cells s.base in
    let here = ap cell.Reading c.from_word.ensures in
    let e = laid_ok reading s.tag below (state s.journal) c.args.place _ _ _ c.in_ok-at.ensures c.in-Entered.is here in
    record { cell = e; stands = reads_item g.B.Kind.Reading.word reading s.tag below (state s.journal) c.args.place _ e }
