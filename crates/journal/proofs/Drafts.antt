-- Calls of a draft in turn.
use Rattle.std.proofs.Common.{refl, ◌∙◌}
use Rattle.journal.specs.declared.draft.Draft.{Draft}
use Rattle.journal.specs.Drafts.{Continues}

pub still : (d : Draft) → Continues d d
still d = record { before = refl; follows = refl }

pub in_turn : {d e f : Draft} → Continues d e → Continues e f → Continues d f
in_turn g h = record { before = h.before ∙ g.before; follows = h.follows ∙ g.follows }
