use Rattle.std.proofs.Common.{◌≡◌, length, ap, arith, length-append}
use lib.ListN.{length-map}
use Rattle.std.proofs.lemmas.Result.{err_from_is_err_and}
use Rattle.journal.specs.Tables.{origins}
use Rattle.journal.specs.Stores.{in_use}
use Rattle.journal.specs.Journals.{state}
use Rattle.journal.proofs.Journals.{whole, short_state}
use Rattle.journal.proofs.Corrections.{Passed, too_many_pieces, accepted, sound}
use Rattle.journal.proofs.journal.Journal.replace.Goals as goal
use Rattle.journal.proofs.journal.Journal.replace.Goals.{After-len-first}

passed : (c : goal.After-len-first) → Passed c.args.self.now c.args.place c.args.struck c.args.words.now c.length-length.result c.len-first.result
passed c =
    let at_most = short_state c.args.self.now in
    record {
      whole = c.length-length.ensures;
      used = c.len-first.ensures.used;
      inside = omega arith;
      places = omega (arith, c.length-length.ensures);
      words = omega (arith, c.len-first.ensures.used, c.args.self.now.room);
    }

pub overflow_sub-rest-2 : goal.overflow_sub-rest-2
overflow_sub-rest-2 c = omega (arith, c.length-length.ensures, short_state c.args.self.now)

pub edited-requires-clause-whole : goal.edited-requires-clause-whole
edited-requires-clause-whole c = whole c.args.self.now

pub edited-requires-clause-short : goal.edited-requires-clause-short
edited-requires-clause-short c =
    let j = c.args.self.now in
    let long : length (state j).origins ≡ length (origins j.table) = length-map _ _ in
    let g = passed c in
    omega (arith, long, g.whole, g.places)

pub returns-in_err-self-clause-outcome : goal.returns-in_err-self-clause-outcome
returns-in_err-self-clause-outcome c =
    let w = (goal.at.returns-in_err-self-clause-outcome c).After-len-first in
    let p = err_from_is_err_and c.from_residual.result c.from_residual.ensures.1 in
    let g = c.in_err-self.ensures in
    rw (p.1, p.2, g.0)
    (too_many_pieces c.args.self.now c.args.place c.args.struck c.args.words.now c.length-length.result c.len-first.result (passed w) g.1)

pub invariant_of-self : goal.invariant_of-self
invariant_of-self c =
    let w = (goal.at.invariant_of-self c).After-len-first in
    let j = c.args.self.now in
    let g = c.in_ok-self.ensures in
    let h =
    sound j c.args.place c.args.struck c.args.words.now c.length-length.result c.len-first.result (passed w)
    c.in_ok-self.field-0 g.0 g.1 c.append.new.self.used c.append.ensures.used in
    record {
      counts = h.counts;
      joined = h.joined;
      short = h.short;
      kept = h.kept;
      inside = h.inside;
      counted = h.counted;
      few = g.0.0;
      room = omega (arith, (passed w).words, c.len-first.ensures.used, c.append.ensures.used);
      based = j.based;
      stored = omega (arith, ap length c.append.ensures.words, length-append (in_use j.words) c.args.words.now, c.append.ensures.used, j.stored);
    }

pub returns-clause-outcome : goal.returns-clause-outcome
returns-clause-outcome c =
    let w = (goal.at.returns-clause-outcome c).After-len-first in
    let g = c.in_ok-self.ensures in
    accepted c.args.self.now c.args.place c.args.struck c.args.words.now c.length-length.result c.len-first.result (passed w)
    c.in_ok-self.field-0 g.0 g.1 (in_use c.append.new.self) c.append.ensures.words
