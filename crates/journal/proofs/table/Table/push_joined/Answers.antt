use Rattle.std.proofs.Common.{◌≡◌, ◌<◌, length, sym, refl, inl, inr, arith, rules}
use Rattle.journal.specs.Pieces.{piece}
use Rattle.journal.specs.declared.piece.Piece.{Piece}
use Rattle.journal.specs.declared.piece.Source.TheVariants.{Kept}
use Rattle.journal.proofs.Pushes.{last_short, lengthened, appended, overfull, Alone}
use Rattle.journal.proofs.table.Table.push_joined.Goals as goal
use Rattle.journal.proofs.table.Table.push_joined.Goals.{else-used-gt0-via-then-used-gt0+else-joins, else-used-gt0-via-else-used-gt0}

abbrev blank : Piece
blank = piece Kept 0 0

pub overflow_add-last : goal.overflow_add-last
overflow_add-last c =
    let t = c.args.self.now in
    let long : length t.pieces ≡ 256 = search rules in
    omega (arith, last_short t.pieces t.used blank c.if-used-gt0.true (omega arith), c.requires.short)

pub returns-then-joins : goal.returns-then-joins
returns-then-joins c =
    let t = c.args.self.now in
    let long : length t.pieces ≡ 256 = search rules in
    let tidy = c.requires.tidy in
    let some : 0 < c.args.piece.count = omega arith in
    let g = lengthened t.pieces t.used blank c.args.piece some tidy.1 tidy.2
    c.if-used-gt0.true (omega arith) (sym c.if-joins.ensures) in
    ((tidy.0, g.0, g.1), g.2)

pub returns-then-used-ge-MOST_PIECES : goal.returns-then-used-ge-MOST_PIECES
returns-then-used-ge-MOST_PIECES c =
    elim c.else-used-gt0.branch [
      | else-used-gt0-via-then-used-gt0+else-joins w ↦
          let t = c.args.self.now in
          let long : length t.pieces ≡ 256 = search rules in
          let tidy = c.requires.tidy in
          let some : 0 < c.args.piece.count = omega arith in
          let e = overfull t.pieces t.used blank c.args.piece some tidy.1 tidy.2 (omega arith)
          (inr (w.if-used-gt0.true, sym w.if-joins.ensures)) in
          (refl, omega (arith, e, c.if-used-ge-MOST_PIECES.true))
      | else-used-gt0-via-else-used-gt0 w ↦ absurd (omega (arith, c.if-used-ge-MOST_PIECES.true, w.if-used-gt0.false))
    ]

pub returns : goal.returns
returns c =
    let t = c.args.self.now in
    let long : length t.pieces ≡ 256 = search rules in
    let tidy = c.requires.tidy in
    let some : 0 < c.args.piece.count = omega arith in
    let alone : Alone t.pieces t.used blank c.args.piece
    = elim c.else-used-gt0.branch [
      | else-used-gt0-via-then-used-gt0+else-joins w ↦ inr (w.if-used-gt0.true, sym w.if-joins.ensures)
      | else-used-gt0-via-else-used-gt0 w ↦ inl (omega (arith, w.if-used-gt0.false))
    ] in
    let g = appended t.pieces t.used blank c.args.piece some tidy.1 tidy.2 (omega arith) alone in
    ((omega (arith, c.if-used-ge-MOST_PIECES.false), g.0, g.1), g.2)
