use Rattle.std.proofs.Common.{◌+◌, ◌++◌, map, length, refl, ap, ◌∙◌, arith}
use Rattle.journal.specs.declared.words.WordStore.{WordStore}
use Rattle.journal.specs.Pieces.{bare}
use Rattle.journal.specs.Tidied.{renumbered}
use Rattle.journal.specs.Stores.{in_use}
use Rattle.journal.proofs.Layouts.{length-bare, length-words, lays-words}
use Rattle.journal.proofs.journal.layout.Layout.enter.Goals as goal

pub returns-then-words-room : goal.returns-then-words-room
returns-then-words-room c =
    (refl, λ xs h. omega (arith, length-words xs c.args.words.now, h.used, c.len-used.ensures.used, c.if-words-room.true, c.room.ensures))

pub push-requires : goal.push-requires
push-requires c =
    let xs = c.requires.0 in
    (map bare (renumbered 0 xs), c.requires.1.table, omega (arith, length-bare xs, c.requires.2))

pub returns : goal.returns
returns c = λ xs h.
    let ws = c.args.words.now in
    let same = c.push.ensures.words in
    lays-words c.args.self.now _ xs h c.args.words.now _ (length c.args.words.now) c.len-used.ensures.used refl
    (c.append.ensures.words ∙ ap (λ (s : WordStore). in_use s ++ c.args.words.now) same)
    (c.append.ensures.used ∙ ap (λ (s : WordStore). s.used + length c.args.words.now) same)
    (omega (arith, c.len-used.ensures.used, c.if-words-room.false, c.room.ensures, h.room)) c.push.ensures.table
