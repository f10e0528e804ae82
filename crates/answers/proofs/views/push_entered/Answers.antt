use Rattle.std.proofs.Common.{◌++◌, codes, decimal, string_bytes, refl}
use Rattle.std.proofs.lemmas.Result.{on_ok_weaker}
use Rattle.answers.proofs.Separated.{added_two}
use Rattle.answers.proofs.views.push_entered.Goals as goal

pub returns : goal.returns
returns c =
    on_ok_weaker c.push_each.result
    (λ pushed. added_two (string_bytes c.args.text.now) (string_bytes c.write.new.self) (string_bytes c.push_each.new.text) (codes "words " ++ decimal c.args.first) _
    c.in_ok-write.ensures.bytes (pushed decimal (λ _. refl)))
    c.push_each.ensures
