use Rattle.std.proofs.Common.{◌≡◌, ℕ, ◌+◌, ◌-◌, List, map, take, drop, sym, ap, ◌∙◌, subst, arith}
use Rattle.journal.specs.declared.piece.Source.{Source}
use Rattle.journal.specs.Machine.{Answer, word}
use Rattle.journal.specs.Pieces.{stretch, bare}
use Rattle.journal.specs.Journals.{told_by}
use Rattle.journal.specs.Tidied.{renumbered}
use Rattle.journal.specs.Layouts.{Extended}
use Rattle.journal.proofs.Layouts.{length-bare, lays-kept, told-entered}
use Rattle.journal.proofs.journal.layout.Layout.lay.Goals as goal

pub push-requires : goal.push-requires
push-requires c =
    let xs = c.requires.takes.0 in
    (map bare (renumbered 0 xs), c.requires.takes.1.table, omega (arith, length-bare xs, c.requires.takes.2))

pub returns-in-Kept : goal.returns-in-Kept
returns-in-Kept c = λ xs h.
    lays-kept c.args.self.now c.push.new.self xs h c.args.words.now c.args.piece.source c.args.piece.first c.args.piece.count
    c.in-Kept.is c.push.ensures.words c.push.ensures.table

pub returns-in-Entered : goal.returns-in-Entered
returns-in-Entered c =
    let ws = c.args.words.now in
    let f : ℕ = c.args.piece.first in
    let n : ℕ = c.args.piece.count in
    let e : f + n - f ≡ n = omega arith in
    subst (λ (ys : List (Answer ℕ)). Extended c.args.self.now c.enter.new.self ys c.enter.result)
    (ap (λ (i : ℕ). map word (take i (drop f c.args.words.now))) e
    ∙ told-entered ws f n (c.requires.inside (sym c.in-Entered.is))
    ∙ ap (λ (s : Source). told_by c.args.words.now (stretch s c.args.piece.first c.args.piece.count)) (sym c.in-Entered.is))
    c.enter.ensures
