use Rattle.std.proofs.Common.{◌≡◌, suc, ◌∷◌, length, ap, sym, ◌∙◌, rules}
use Rattle.std.proofs.lemmas.List.Sums.{prefix_len-le-length}
use Rattle.std.proofs.lemmas.List.{take_rest}
use Rattle.commands.specs.Fields.{fields}
use Rattle.commands.proofs.Stretches.{end_at, no_field, first_field}
use Rattle.commands.proofs.fields.FieldsIterator.next.Goals as goal

pub returns-in_err-start-clause-steps : goal.returns-in_err-start-clause-steps
returns-in_err-start-clause-steps c =
    let none = sym (no_field c.args.self.now.rest.now (sym c.in_err-start.was ∙ c.field_start.ensures)) in
    rw c.from_residual.ensures (none, none)

pub split_at-requires : goal.split_at-requires
split_at-requires c = rw (end_at _ _ _ _ c.first_separator.ensures c.unwrap_or-end.ensures) (prefix_len-le-length _ _)

-- the first field, and those after it
handed : (c : goal.After-rest-2-1) → fields c.args.self.now.rest.now ≡ c.split_at.result.0.now ∷ fields c.split_at.result.1.now
handed c =
    let bs = c.args.self.now.rest.now in
    let end = end_at _ _ _ _ c.first_separator.ensures c.unwrap_or-end.ensures in
    let e = first_field bs _ c.in_ok-start.start c.unwrap_or-end.result (sym c.in_ok-start.was ∙ c.field_start.ensures) (take_rest bs c.in_ok-start.start) end in
    rw (c.split_at.ensures.front, c.split_at.ensures.back) (sym e)

pub returns-clause-steps : goal.returns-clause-steps
returns-clause-steps c = handed c

pub returns-clause-goes : goal.returns-clause-goes
returns-clause-goes c = let e : length (fields c.args.self.now.rest.now) ≡ suc (length (fields c.split_at.result.1.now)) = ap length (handed c) in search rules
