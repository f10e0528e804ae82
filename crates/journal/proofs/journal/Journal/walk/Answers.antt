use Rattle.std.proofs.Common.{ℕ, List, map, length, ap, ◌∙◌, ap₂}
use Rattle.std.specs.List.{flat_map}
use Rattle.journal.specs.declared.piece.Piece.{Piece}
use Rattle.journal.specs.declared.piece.Source.TheVariants.{Entered}
use Rattle.journal.specs.Pieces.{of_source, within}
use Rattle.journal.specs.Runs.{run_of, origins_of}
use Rattle.journal.proofs.Truths.{gathered-state}
use Rattle.journal.proofs.Walks.{origins-runs}
use Rattle.journal.proofs.journal.Journal.walk.Goals as goal

pub invariant_of-result : goal.invariant_of-result
invariant_of-result c =
    let j = c.args.self.now in
    record {
      end = ∣ (j, 0, c.iter.ensures.rest ∙ c.pieces.ensures ∙ gathered-state j, c.words.ensures) ∣₁;
      inside =
          ap₂ (λ (n : ℕ) (ps : List Piece). within n (of_source Entered ps)) (ap length c.words.ensures ∙ j.stored)
          (c.iter.ensures.rest ∙ c.pieces.ensures ∙ gathered-state j)
          ∙ j.inside;
    }

pub returns-clause-origins : goal.returns-clause-origins
returns-clause-origins c =
    ap₂ (λ (ws : List ℕ) (ps : List Piece). flat_map origins_of (map (run_of ws) ps)) c.words.ensures (c.iter.ensures.rest ∙ c.pieces.ensures)
    ∙ origins-runs c.args.self.now
