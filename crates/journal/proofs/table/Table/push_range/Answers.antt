use Rattle.std.proofs.Common.{◌≡◌, ◌+◌, ◌++◌, take, ap, ◌∙◌, arith}
use Rattle.std.proofs.lemmas.Result.{err_from_is_err_and}
use Rattle.journal.specs.Machine.{pieces}
use Rattle.journal.specs.Pieces.{piece, stretch, spread, part}
use Rattle.journal.specs.Tables.{origins}
use Rattle.journal.specs.declared.piece.Piece.{Piece}
use Rattle.journal.specs.declared.piece.Source.TheVariants.{Kept}
use Rattle.journal.proofs.Spreads.{length_more, spread_fewer}
use Rattle.journal.proofs.Cuts.{within-at, step, step_short, pieces_fewer}
use Rattle.journal.proofs.table.Table.push_range.Goals as goal
use Rattle.journal.proofs.table.Table.push_range.Goals.{After-cut}

abbrev blank : Piece
blank = piece Kept 0 0

-- a turn's push, of whatever step follows the cut
turn : (c : goal.After-cut) → origins c.loop-piece.self ++ stretch c.cut.result.source c.cut.result.first c.cut.result.count
    ≡ origins c.args.self.now ++ part c.args.start c.args.end (spread (take (c.loop-piece.piece-index + 1) c.args.pieces.now))
turn c =
    step (origins c.args.self.now) (origins c.loop-piece.self) (stretch c.cut.result.source c.cut.result.first c.cut.result.count)
    c.args.start c.args.end c.loop-piece.at c.args.pieces.now c.loop-piece.piece-index blank c.loop-piece-test.true
    c.loop-piece.invariant.0 c.loop-piece.invariant.1.1 c.cut.ensures.places

pub cut-requires : goal.cut-requires
cut-requires c = omega (arith, within-at 1048576 c.args.pieces.now c.loop-piece.piece-index blank c.loop-piece-test.true c.requires.ends)

pub push_joined-requires-clause-short : goal.push_joined-requires-clause-short
push_joined-requires-clause-short c =
    step_short (origins c.args.self.now) (origins c.loop-piece.self) c.cut.result.source c.cut.result.first c.cut.result.count
    c.args.start c.args.end (spread (take (c.loop-piece.piece-index + 1) c.args.pieces.now)) (turn c) c.requires.short

pub returns-in_err-push_joined : goal.returns-in_err-push_joined
returns-in_err-push_joined c =
    let e = turn (goal.at.returns-in_err-push_joined c).After-cut in
    let g = c.in_err-push_joined.ensures in
    let p = err_from_is_err_and c.from_residual.result c.from_residual.ensures.1 in
    rw (p.1, p.2) (
      g.0,
      omega (
        arith,
        g.1,
        ap pieces e,
        pieces_fewer c.args.start c.args.end (origins c.args.self.now) c.args.pieces.now (c.loop-piece.piece-index + 1),
      ),
    )

pub overflow_add-at : goal.overflow_add-at
overflow_add-at c =
    omega (
      arith,
      c.loop-piece.invariant.0,
      length_more c.args.pieces.now c.loop-piece.piece-index blank c.loop-piece-test.true,
      spread_fewer c.args.pieces.now (c.loop-piece.piece-index + 1),
      c.requires.whole,
    )

pub loop-piece-preserved : goal.loop-piece-preserved
loop-piece-preserved c =
    let e = turn (goal.at.loop-piece-preserved c).After-cut in
    let g = c.in_ok-push_joined.ensures in (
      omega (arith, c.loop-piece.invariant.0, length_more c.args.pieces.now c.loop-piece.piece-index blank c.loop-piece-test.true),
      (g.0, g.1 ∙ e),
    )
