use Rattle.std.proofs.Common.{◌≡◌, ℕ, ◌++◌, take, drop, length, Some, ap, sym, ◌∙◌}
use Rattle.std.proofs.Math.Seq.{take-append_seam}
use Rattle.commands.proofs.Hex.{none_from_is_some, read_all, read_none, result_ok-decode_sized}
use Rattle.commands.proofs.numerals.pairs.Goals as goal

pub returns-else-is_hex : goal.returns-else-is_hex
returns-else-is_hex c = none_from_is_some _ (sym c.if-is_hex.ensures)

pub returns-in-Ok-decode_to_slice : goal.returns-in-Ok-decode_to_slice
returns-in-Ok-decode_to_slice c =
    let out = c.decode_to_slice.new.out in
    let size = c.deref_mut.ensures.len in
    let full : c.in-Ok.bytes.len ≡ length out = sym (c.decode_to_slice.auto.out ∙ size) in
    let rest = drop (length out) c.in-Ok.bytes.items in
    let all = read_all _ _ _ c.decode_to_slice.ensures.value c.in-Ok-decode_to_slice.is in
    ap Some (ap (λ (n : ℕ). take n (out ++ rest)) full ∙ take-append_seam out rest)
    ∙ all
    ∙ rw (size, c.in-Ok.ensures.len) (result_ok-decode_sized c.args.field.now)

pub returns-in-Err : goal.returns-in-Err
returns-in-Err c =
    let none = read_none _ _ _ _ c.decode_to_slice.ensures.value c.in-Err.is in
    none ∙ rw (c.deref_mut.ensures.len, c.in-Ok.ensures.len) (result_ok-decode_sized c.args.field.now)
