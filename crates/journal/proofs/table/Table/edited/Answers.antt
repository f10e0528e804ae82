use Rattle.std.proofs.Common.{ap, arith}
use Rattle.std.proofs.lemmas.Result.{err_from_is_err_and}
use Rattle.journal.specs.Pieces.{spread}
use Rattle.journal.specs.Tables.{origins}
use Rattle.journal.proofs.Cuts.{pieces_first, pieces_second, length_second}
use Rattle.journal.proofs.table.Table.edited.Goals as goal

pub returns-in_err-push_range : goal.returns-in_err-push_range
returns-in_err-push_range c =
    let p = err_from_is_err_and c.from_residual.result c.from_residual.ensures.1 in
    let g = c.in_err-push_range.ensures in
    rw (p.1, p.2) (
      g.0,
      pieces_first (origins c.args.self.now) (spread c.as_slice-pieces.result.now) (origins c.empty-table.result)
          (ap spread c.as_slice-pieces.ensures) (ap spread c.empty-table.ensures.none)
          c.args.place c.args.struck c.args.entered c.args.first g.1,
    )

pub returns-in_err-push_joined : goal.returns-in_err-push_joined
returns-in_err-push_joined c =
    let p = err_from_is_err_and c.from_residual-in_err-push_joined.result c.from_residual-in_err-push_joined.ensures.1 in
    let g₁ = c.in_ok-push_range.ensures in
    let g = c.in_err-push_joined.ensures in
    rw (p.1, p.2) (
      g.0,
      pieces_second (origins c.args.self.now) (spread c.as_slice-pieces.result.now) (origins c.empty-table.result)
          (ap spread c.as_slice-pieces.ensures) (ap spread c.empty-table.ensures.none)
          c.args.place c.args.struck c.args.entered c.args.first
          (origins c.push_range.new.self) g₁.1 g.1,
    )

pub push_range-requires-2-clause-short : goal.push_range-requires-2-clause-short
push_range-requires-2-clause-short c =
    let g₁ = c.in_ok-push_range.ensures in
    let g₂ = c.in_ok-push_joined.ensures in
    let e = length_second (origins c.args.self.now) (spread c.as_slice-pieces.result.now) (origins c.empty-table.result)
    (ap spread c.as_slice-pieces.ensures) (ap spread c.empty-table.ensures.none)
    c.args.place c.args.struck c.args.entered c.args.first
    (origins c.push_range.new.self) g₁.1 (origins c.push_joined.new.self) g₂.1
    (omega (arith, c.requires.inside)) in
    omega (arith, e, c.length-length.ensures, c.requires.inside, c.requires.short)
