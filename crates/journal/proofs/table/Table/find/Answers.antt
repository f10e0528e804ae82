use Rattle.std.proofs.Common.{List, sym, ap, ◌∙◌, arith}
use Rattle.series.specs.Lists.{nth}
use Rattle.journal.specs.Pieces.{piece, spread, within}
use Rattle.journal.specs.declared.piece.Piece.{Piece}
use Rattle.journal.specs.declared.piece.Source.TheVariants.{Kept}
use Rattle.journal.proofs.Cuts.{within-at}
use Rattle.journal.proofs.Finds.{find_here, find_more}
use Rattle.journal.proofs.table.Table.find.Goals as goal

abbrev blank : Piece
blank = piece Kept 0 0

pub overflow_add-result : goal.overflow_add-result
overflow_add-result c =
    let e = c.as_slice-pieces.ensures in
    omega (
      arith,
      within-at 1048576 c.as_slice-pieces.result.now c.loop-piece.piece-index blank c.loop-piece-test.true (ap (within 1048576) e ∙ c.requires.ends),
    )

pub returns-then-left-piece : goal.returns-then-left-piece
returns-then-left-piece c =
    let ps = c.as_slice-pieces.result.now in
    sym (find_here ps c.loop-piece.piece-index c.loop-piece.left blank c.loop-piece-test.true c.if-left-piece.true)
    ∙ sym c.loop-piece.invariant
    ∙ ap (λ (qs : List Piece). nth (spread qs) c.args.place) c.as_slice-pieces.ensures

pub loop-piece-preserved : goal.loop-piece-preserved
loop-piece-preserved c =
    c.loop-piece.invariant
    ∙ find_more c.as_slice-pieces.result.now c.loop-piece.piece-index c.loop-piece.left blank c.loop-piece-test.true c.if-left-piece.false
