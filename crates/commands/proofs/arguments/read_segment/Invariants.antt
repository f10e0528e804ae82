use Rattle.std.proofs.Common.{◌≡◌, ◌++◌, length, vec_items}
use Rattle.std.specs.Option.{option_map}
use Rattle.commands.specs.Arguments.{segment_in}
use Rattle.commands.specs.Coming.{coming}
use Rattle.commands.proofs.arguments.read_segment.Given as goal

-- the words so far, and those that are left
abbrev pub invariant-loop-field : goal.invariant-loop-field
invariant-loop-field l = segment_in (coming l.initial.fields) ≡ option_map (λ q. (vec_items l.words ++ q.0, q.1)) (segment_in (coming l.fields))

abbrev pub decreases-loop-field : goal.decreases-loop-field
decreases-loop-field l = length (coming l.fields)
