use Rattle.std.proofs.Common.{◌≡◌, ℕ, ◌+◌, ◌-◌, min, ap₂, ◌∙◌, arith}
use Rattle.journal.specs.Pieces.{stretch}
use Rattle.journal.proofs.Cuts.{part-stretch}
use Rattle.journal.proofs.piece.Piece.cut.Goals as goal

pub returns-clause-places : goal.returns-clause-places
returns-clause-places c =
    let to : ℕ = min (c.args.end - c.args.at) c.args.self.now.count in
    let from : ℕ = min (c.args.start - c.args.at) to in
    ap₂ (λ (i n : ℕ). stretch c.args.self.now.source i n)
    (let e : c.args.self.now.first + c.min-from.result ≡ c.args.self.now.first + from = omega arith in e)
    (let e : c.min-to.result - c.min-from.result ≡ to - from = omega arith in e)
    ∙ part-stretch c.args.self.now.source c.args.self.now.first c.args.self.now.count (c.args.start - c.args.at) (c.args.end - c.args.at)
