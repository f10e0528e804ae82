-- From a line to a command.
-- numbers_in: the numbers at the front of some fields, each at most its limit, and the fields after them.
-- words_in: all fields are words.
-- plain_command, words_command, bytes_command: what a command asks for, by its numbers and what follows them.
-- segments: what stands between semicolons.
-- draft_command: a journal, keep or drop, and corrections between semicolons.
-- command_in: the command that fields are, or why they are none.
-- parsed: the command of a line, nothing where it has no fields, or why it is none.
-- Parses: an answer is that; want of memory is answered only where there are fields.
-- Assumes nothing.
use Rattle.std.specs.Prelude.{◌≡◌, ℕ, Bool, true, false, cond, not, List, [], ◌∷◌, map, length, Some, None, Ok, Err, codes, Option, Result, nat_lt, slice_index}
use Rattle.std.specs.Option.{option_map, ok_or}
use Rattle.series.specs.Words.{interval_of}
use Rattle.journal.specs.Machine.{Correction, correction}
use Rattle.commands.specs.declared.command.Command.{Command as Written}
use Rattle.commands.specs.declared.command.View.TheVariants as view
use Rattle.commands.specs.declared.command.Question.TheVariants as question
use Rattle.commands.specs.declared.verb.PlainVerb.{PlainVerb}
use Rattle.commands.specs.declared.verb.PlainVerb.TheVariants as plain
use Rattle.commands.specs.declared.verb.WordsVerb.{WordsVerb}
use Rattle.commands.specs.declared.verb.WordsVerb.TheVariants as words
use Rattle.commands.specs.declared.verb.BytesVerb.{BytesVerb}
use Rattle.commands.specs.declared.verb.BytesVerb.TheVariants as bytes
use Rattle.commands.specs.declared.verb.Verb.{Verb}
use Rattle.commands.specs.declared.verb.Verb.TheVariants.{Plain, Words, Bytes, Draft}
use Rattle.commands.specs.declared.wrong.Wrong.{Wrong}
use Rattle.commands.specs.declared.wrong.Wrong.TheVariants.{LineTooLong, StrayByte, NoSuchCommand, BadArguments}
use Rattle.commands.specs.declared.wrong.ParseFault.{ParseFault}
use Rattle.commands.specs.declared.wrong.ParseFault.TheVariants as fault
use Rattle.commands.specs.Commands.{Command, lay, change, fold, show, ask, pile, write, unwrite, register, nominal, profile, check, nocheck, begin, correct, batch, draft, tidy, by_command}
use Rattle.commands.specs.Fields.{Field, all_plain, uncommented, fields}
use Rattle.commands.specs.Numerals.{and_some, number_to, hex}
use Rattle.commands.specs.Verbs.{same, verb, slots, places, all_words, plain_limits, words_limits, bytes_limits}

abbrev pub numbers_in : List ℕ → List Field → Option (List ℕ × List Field)
numbers_in [] fs = Some ([], fs)
numbers_in (most ∷ limits) [] = None
numbers_in (most ∷ limits) (f ∷ fs) = and_some (number_to most f) (λ n. option_map (λ p. (n ∷ p.0, p.1)) (numbers_in limits fs))

abbrev pub words_in : List Field → Option (List ℕ)
words_in [] = Some []
words_in (f ∷ fs) = and_some (number_to all_words f) (λ w. option_map (λ ws. w ∷ ws) (words_in fs))

-- exactly one field, of bytes
abbrev pub bytes_in : List Field → Option (List ℕ)
bytes_in [] = None
bytes_in (f ∷ []) = hex f
bytes_in (f ∷ (g ∷ fs)) = None

-- no field
abbrev pub nothing_in : List Field → Option (Unit {0})
nothing_in [] = Some tt
nothing_in (f ∷ fs) = None

-- number k
abbrev pub at : List ℕ → ℕ → ℕ
at ns k = slice_index ns k

abbrev pub plain_command : PlainVerb → List ℕ → Command
plain_command plain.Nominal ns = lay (nominal (interval_of (at ns 0)) (at ns 1))
plain_command plain.Check ns = lay (check (at ns 0) (at ns 1))
plain_command plain.NoCheck ns = lay nocheck
plain_command plain.Start ns = change (at ns 0) (begin (at ns 1))
plain_command plain.Strike ns = change (at ns 0) (correct (correction (at ns 1) (at ns 2) []))
plain_command plain.Tidy ns = change (at ns 0) tidy
plain_command plain.Fold ns = fold (at ns 0) (at ns 1) (at ns 2)
plain_command plain.Pieces ns = show (at ns 0) view.Pieces
plain_command plain.Words ns = show (at ns 0) view.Words
plain_command plain.Length ns = show (at ns 0) view.Length
plain_command plain.Fits ns = ask (at ns 0) question.Fits
plain_command plain.Origin ns = show (at ns 0) (view.Origin (at ns 1))
plain_command plain.Read ns = ask (at ns 0) (question.Read (at ns 1) (at ns 2))
plain_command plain.Pile ns = pile (at ns 0) (at ns 1) (at ns 2)
plain_command plain.Flatten ns = ask (at ns 0) (question.Flatten (at ns 1))
plain_command plain.Walk ns = show (at ns 0) view.Walk

abbrev pub words_command : WordsVerb → List ℕ → List ℕ → Command
words_command words.Register ns ws = lay (register (map interval_of ws))
words_command words.Enter ns ws = change (at ns 0) (correct (correction (at ns 1) 0 ws))
words_command words.Replace ns ws = change (at ns 0) (correct (correction (at ns 1) (at ns 2) ws))
words_command words.Record ns ws = write (correction (at ns 0) (at ns 1) ws)

abbrev pub bytes_command : BytesVerb → List ℕ → List ℕ → Command
bytes_command bytes.Profile ns bs = lay (profile bs)
bytes_command bytes.Batch ns bs = change (at ns 0) (batch bs)
bytes_command bytes.Unrecord ns bs = unwrite bs

-- a field more in front of the first segment
abbrev pub wider : Field → List (List Field) → List (List Field)
wider f [] = (f ∷ []) ∷ []
wider f (s ∷ ss) = (f ∷ s) ∷ ss

abbrev pub segments : List Field → List (List Field)
segments [] = [] ∷ []
segments (f ∷ fs) = cond (same (codes ";") f) ([] ∷ segments fs) (wider f (segments fs))

-- a place, a count, and words
abbrev pub correction_in : List Field → Option (Correction ℕ)
correction_in fs = and_some (numbers_in (places ∷ places ∷ []) fs) (λ p. option_map (correction (at p.0 0) (at p.0 1)) (words_in p.1))

abbrev pub corrections_in : List (List Field) → Option (List (Correction ℕ))
corrections_in [] = Some []
corrections_in (s ∷ ss) = and_some (correction_in s) (λ c. option_map (λ cs. c ∷ cs) (corrections_in ss))

-- keep, or drop
abbrev pub keeps : Field → Option Bool
keeps f = cond (same (codes "keep") f) (Some true) (cond (same (codes "drop") f) (Some false) None)

abbrev pub draft_body : ℕ → List Field → Option Command
draft_body j [] = None
draft_body j (f ∷ fs) = and_some (keeps f) (λ keep. option_map (λ cs. change j (draft cs keep)) (corrections_in (segments fs)))

abbrev pub draft_command : List Field → Option Command
draft_command fs = and_some (numbers_in (slots ∷ []) fs) (λ p. draft_body (at p.0 0) p.1)

abbrev pub arguments : Verb → List Field → Option Command
arguments (Plain v) fs = and_some (numbers_in (plain_limits v) fs) (λ p. option_map (λ _. plain_command v p.0) (nothing_in p.1))
arguments (Words v) fs = and_some (numbers_in (words_limits v) fs) (λ p. option_map (words_command v p.0) (words_in p.1))
arguments (Bytes v) fs = and_some (numbers_in (bytes_limits v) fs) (λ p. option_map (bytes_command v p.0) (bytes_in p.1))
arguments Draft fs = draft_command fs

abbrev pub by_verb : Option Verb → List Field → Result (Option Command) Wrong
by_verb None fs = Err NoSuchCommand
by_verb (Some v) fs = ok_or (option_map Some (arguments v fs)) BadArguments

abbrev pub command_in : List Field → Result (Option Command) Wrong
command_in [] = Ok None
command_in (name ∷ fs) = by_verb (verb name) fs

abbrev pub parsed : List ℕ → Result (Option Command) Wrong
parsed line =
    cond (nat_lt 65536 (length line)) (Err LineTooLong)
    (cond (not (all_plain (uncommented line))) (Err StrayByte) (command_in (fields (uncommented line))))

abbrev pub Parses : Result (Option Written) ParseFault → Result (Option Command) Wrong → Type 0
Parses (Ok c) p = p ≡ Ok (option_map by_command c)
Parses (Err (fault.Wrong w)) p = p ≡ Err w
Parses (Err fault.NoMemory) p = p ≡ Ok None → ⊥
