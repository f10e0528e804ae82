use Rattle.std.proofs.Common.{refl}
use Rattle.commands.specs.Coming.{coming}
use Rattle.commands.proofs.Readings.{reads_break}
use Rattle.commands.proofs.Segments.{words_none, words_stop, words_all}
use Rattle.commands.proofs.arguments.read_words.Goals as goal

pub returns-in_err-words : goal.returns-in_err-words
returns-in_err-words c = reads_break _ _ c.from_residual.result _ _ c.from_residual.ensures.1 (words_none (coming c.args.fields)) c.in_err-words.ensures

pub returns-in_default-None : goal.returns-in_default-None
returns-in_default-None c = words_all (coming c.args.fields) _ coming c.in_ok-words.field-0.1 c.in_ok-words.ensures c.in_default-None.is-1

pub returns-in_default-Some : goal.returns-in_default-Some
returns-in_default-Some c = (refl, words_stop (coming c.args.fields) _ coming c.in_ok-words.field-0.1 _ c.in_ok-words.ensures c.in_default-Some.is-1)
