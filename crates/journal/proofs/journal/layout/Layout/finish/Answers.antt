use Rattle.std.proofs.lemmas.Result.{err_from_is_err_and}
use Rattle.journal.proofs.Finished.{too_many, not_too_many, finished, few, stored, sound}
use Rattle.journal.proofs.journal.layout.Layout.finish.Goals as goal

pub returns-in_err-self : goal.returns-in_err-self
returns-in_err-self c = λ xs h.
    let p = err_from_is_err_and c.from_residual.result c.from_residual.ensures.1 in
    rw (p.1, p.2) (too_many c.args.self.now xs c.in_err-self.field-0.0 c.in_err-self.was h.0)

pub invariant_of-result : goal.invariant_of-result
invariant_of-result c =
    let n = c.args.started in
    let l = c.args.self.now in
    let t = c.in_ok-self.field-0 in
    let is = c.in_ok-self.was in
    let xs = c.requires.0 in
    let lays = c.requires.1.0 in
    let law = c.requires.1.1 (not_too_many n xs l t is lays) in
    let h = sound n xs l t is lays law in
    record {
      counts = h.counts;
      joined = h.joined;
      short = h.short;
      kept = h.kept;
      inside = h.inside;
      counted = h.counted;
      few = few n xs l t is lays;
      room = lays.room;
      based = law.based;
      stored = stored n xs l t is lays;
    }

pub returns : goal.returns
returns c = λ xs h. finished c.args.started xs c.args.self.now c.in_ok-self.field-0 c.in_ok-self.was h.0
