use Rattle.std.proofs.Common.{ℕ, ◌<◌, List, [], ◌∷◌, ◌++◌, map, Option, vec_items, sym, refl, ap, ◌∙◌, subst}
use Rattle.std.proofs.lemmas.List.{map_push}
use Rattle.std.proofs.lemmas.Slice.{pushed}
use Rattle.std.specs.Option.{option_map}
use Rattle.journal.specs.Machine.{Correction}
use Rattle.commands.specs.declared.command.OwnedCorrection.{OwnedCorrection}
use Rattle.commands.specs.declared.fields.Fields.{Fields}
use Rattle.commands.specs.Coming.{coming}
use Rattle.commands.specs.Commands.{owned}
use Rattle.commands.proofs.Corrections.{others_in, left, corrections_at, corrections_more, corrections_stop, corrections_less}
use Rattle.commands.proofs.Readings.{reads_break}
use Rattle.commands.proofs.drafts.read_corrections.Goals as goal

pub returns-in_err-correction : goal.returns-in_err-correction
returns-in_err-correction c =
    let cs = map owned (vec_items c.loop-rest.corrections) in
    let inv = corrections_at coming c.loop-rest.rest c.in-Some.fields _ cs c.loop-rest.invariant c.in-Some.is in
    reads_break _ _ c.from_residual.result _ _ c.from_residual.ensures.1 (corrections_stop _ (coming c.in-Some.fields) cs inv) c.in_err-correction.ensures

pub loop-rest-smaller : goal.loop-rest-smaller
loop-rest-smaller c =
    let less = corrections_less (coming c.in-Some.fields) (option_map coming c.in_ok-correction.others) (owned c.in_ok-correction.correction) c.in_ok-correction.ensures in
    subst (λ (o : Option Fields). left (option_map coming c.in_ok-correction.others) < left (option_map coming o)) (sym c.in-Some.is) less

pub loop-rest-preserved : goal.loop-rest-preserved
loop-rest-preserved c =
    let vs : List OwnedCorrection = vec_items c.loop-rest.corrections in
    let x = c.in_ok-correction.correction in
    let past = option_map coming c.in_ok-correction.others in
    let inv = corrections_at coming c.loop-rest.rest c.in-Some.fields _ (map owned vs) c.loop-rest.invariant c.in-Some.is in
    let grown = ap (map owned) (pushed {xs = vs} (x ∷ []) refl c.in_ok-push.was c.push.ensures.items) ∙ map_push owned vs x in
    corrections_more _ (coming c.in-Some.fields) past (map owned vs) (owned x) inv c.in_ok-correction.ensures
    ∙ sym (ap (λ (cs : List (Correction ℕ)). option_map (λ ds. cs ++ ds) (others_in past)) grown)
