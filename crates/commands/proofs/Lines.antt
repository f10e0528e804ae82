-- What the fields of a line are, by the name in front and the arguments after it.
use Rattle.std.proofs.Common.{◌≡◌, ℕ, IsErrAnd, List, ◌∷◌, Some, None, Ok, Err, Option, Result, sym, ap, ◌∙◌, subst, arith}
use Rattle.std.specs.Option.{option_map, ok_or}
use Rattle.std.proofs.lemmas.Result.{err_from_is_err_and}
use Rattle.commands.specs.declared.command.Command.{Command as Written}
use Rattle.commands.specs.declared.verb.Verb.{Verb}
use Rattle.commands.specs.declared.wrong.Wrong.{Wrong}
use Rattle.commands.specs.declared.wrong.Wrong.TheVariants.{NoSuchCommand, BadArguments}
use Rattle.commands.specs.declared.wrong.ParseFault.{ParseFault}
use Rattle.commands.specs.declared.wrong.ParseFault.TheVariants as fault
use Rattle.commands.specs.Arguments.{Fails}
use Rattle.commands.specs.Commands.{Command}
use Rattle.commands.specs.Fields.{Field}
use Rattle.commands.specs.Parsing.{arguments, by_verb, command_in, Parses}
use Rattle.commands.specs.Verbs.{verb}

-- fields that were handed out one after another
by_name : (fs hs : List Field) (name : Field) (o : Option Verb) → fs ≡ name ∷ hs → o ≡ verb name → command_in fs ≡ by_verb o hs
by_name fs hs name o e v = ap command_in e ∙ ap (λ (x : Option Verb). by_verb x hs) (sym v)

pub no_such : (fs hs : List Field) (name : Field) → fs ≡ name ∷ hs → None ≡ verb name → command_in fs ≡ Err NoSuchCommand
no_such fs hs name e v = by_name fs hs name None e v

pub such : (fs hs : List Field) (name : Field) (v : Verb) (c : Command) → fs ≡ name ∷ hs → Some v ≡ verb name → arguments v hs ≡ Some c → command_in fs ≡ Ok (Some c)
such fs hs name v c e n a = by_name fs hs name (Some v) e n ∙ ap (λ (o : Option Command). ok_or (option_map Some o) BadArguments) a

some_or_bad : (o : Option Command) → ok_or (option_map Some o) BadArguments ≡ Ok None → ⊥
some_or_bad None e = let z : ◌≡◌ {A = ℕ} 0 1 = cc in omega arith
some_or_bad (Some c) e = let z : ◌≡◌ {A = ℕ} 0 1 = cc in omega arith

fault_at : (x : ParseFault) (o : Option Command) (p : Result (Option Command) Wrong) → p ≡ ok_or (option_map Some o) BadArguments → Fails x o → Parses (Err x) p
fault_at (fault.Wrong w) o p e f = e ∙ ap (λ (q : Option Command). ok_or (option_map Some q) BadArguments) f.1 ∙ ap Err (sym f.0)
fault_at fault.NoMemory o p e f = λ q. some_or_bad o (sym e ∙ q)

-- at the exit of a `?`
pub such_break : (fs hs : List Field) (name : Field) (v : Verb) (x : ParseFault) (r : Result (Option Written) ParseFault) → fs ≡ name ∷ hs → Some v ≡ verb name → IsErrAnd r (λ y. y ≡ x) → Fails x (arguments v hs) → Parses r (command_in fs)
such_break fs hs name v x r e n b f =
    let q = err_from_is_err_and r b in
    subst (λ (s : Result (Option Written) ParseFault). Parses s (command_in fs)) (sym (q.1 ∙ ap Err q.2)) (fault_at x (arguments v hs) (command_in fs) (by_name fs hs name (Some v) e n) f)
