use Rattle.std.proofs.Common.{ℕ, length, sym, ap, ◌∙◌, subst, arith}
use Rattle.journal.specs.Tables.{listed, origins}
use Rattle.journal.specs.Stores.{in_use}
use Rattle.journal.proofs.Places.{SoundPieces, sound-start}
use Rattle.journal.proofs.Journals.{started}
use Rattle.journal.proofs.journal.Journal.for_base.Goals as goal

pub invariant_of-result : goal.invariant_of-result
invariant_of-result c =
    let tidy = c.kept.ensures.tidy in
    let used = c.empty.ensures.used in
    let h : SoundPieces c.args.length c.empty.result.used (listed c.kept.result) =
    subst (λ (u : ℕ). SoundPieces c.args.length u (listed c.kept.result)) (sym used)
    (sound-start (listed c.kept.result) c.args.length c.requires tidy.1 tidy.2 c.kept.ensures.places) in
    record {
      counts = h.counts;
      joined = h.joined;
      short = h.short;
      kept = h.kept;
      inside = h.inside;
      counted = h.counted;
      few = tidy.0;
      room = omega arith;
      based = c.requires;
      stored = ap length c.empty.ensures.none ∙ sym used;
    }

pub returns : goal.returns
returns c = started c.args.length (origins c.kept.result) (in_use c.empty.result) c.kept.ensures.places c.empty.ensures.none
