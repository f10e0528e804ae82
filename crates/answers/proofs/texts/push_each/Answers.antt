use Rattle.std.proofs.Common.{◌++◌, string_bytes}
use Rattle.answers.proofs.Separated.{grown_all}
use Rattle.answers.proofs.texts.push_each.Goals as goal

pub returns : goal.returns
returns g c shown shows =
    grown_all (λ y. c.args.separator.now ++ shown y) (string_bytes c.args.text.now) c.args.items.now c.loop-item.item-index (string_bytes c.loop-item.text)
    c.loop-item-test.false (c.loop-item.invariant shown shows)
