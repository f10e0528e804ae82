use Rattle.std.proofs.Common.{◌≡◌, ◌≤◌, drop}
use Rattle.commands.specs.Numerals.{number_to}
use Rattle.commands.specs.Verbs.{all_words}
use Rattle.commands.proofs.Digits.{left}
use Rattle.commands.proofs.numerals.number.Given as goal

abbrev pub invariant-loop-b : goal.invariant-loop-b
invariant-loop-b l = (left all_words l.value (drop l.b-index l.field) ≡ number_to all_words l.field) × (l.value ≤ all_words)
