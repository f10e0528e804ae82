use Rattle.std.proofs.Common.{◌≡◌, ◌++◌, map, vec_items}
use Rattle.std.specs.Option.{option_map}
use Rattle.commands.specs.Coming.{coming}
use Rattle.commands.specs.Commands.{owned}
use Rattle.commands.specs.Parsing.{corrections_in, segments}
use Rattle.commands.proofs.Corrections.{others_in, left}
use Rattle.commands.proofs.drafts.read_corrections.Given as goal

-- the corrections so far, and those that are left
abbrev pub invariant-loop-rest : goal.invariant-loop-rest
invariant-loop-rest l = corrections_in (segments (coming l.fn.fields)) ≡ option_map (λ cs. map owned (vec_items l.corrections) ++ cs) (others_in (option_map coming l.rest))

abbrev pub decreases-loop-rest : goal.decreases-loop-rest
decreases-loop-rest l = left (option_map coming l.rest)
