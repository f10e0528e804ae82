use Rattle.std.proofs.Common.{◌≡◌, drop}
use Rattle.commands.proofs.Spellings.{found}
use Rattle.commands.proofs.verbs.first_named.Given as goal

abbrev pub invariant-loop-spelling : goal.invariant-loop-spelling
invariant-loop-spelling l = found (drop l.spelling-index l.spelled) l.name ≡ found l.spelled l.name
