use Rattle.std.proofs.Common.{◌≡◌, length, arith}
use Rattle.questions.proofs.Told.{told_as}
use Rattle.questions.proofs.Readings.{readings_none}
use Rattle.questions.proofs.over_base.flattened.readings_text.Goals as goal

pub returns-in_default : goal.returns-in_default
returns-in_default c =
    let none : length c.args.readings.now ≡ 0 = omega (arith, c.in_default.len_below) in
    told_as c.format.result (readings_none c.args.count c.args.readings.now none) c.format.ensures.ok
