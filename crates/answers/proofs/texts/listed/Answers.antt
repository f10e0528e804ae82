use Rattle.std.proofs.Common.{string_bytes, ap, ◌∙◌}
use Rattle.answers.proofs.Separated.{listed_first}
use Rattle.answers.proofs.texts.listed.Goals as goal

pub returns : goal.returns
returns g c shown shows =
    let first = rw (shows c.first-item.result) at c.in_ok-text.ensures.ok in
    listed_first c.args.separator.now shown c.args.items.now c.first-item.result (string_bytes c.in_ok-text.text) _
    c.in-len1-up.len_at_least (first ∙ ap shown c.first-item.is) (c.in_ok-push_each.ensures shown shows)
