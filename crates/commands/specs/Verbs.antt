-- The names of the commands, and the numbers that each begins with.
-- spelled: each command by its name.
-- limits: the greatest value of each of a command's numbers, in their order.
-- Assumes nothing.
use Rattle.std.specs.Prelude.{ℕ, Bool, true, false, cond, ◌&&◌, List, [], ◌∷◌, Some, None, codes, Option, ◌==◌}
use Rattle.commands.specs.declared.verb.PlainVerb.{PlainVerb}
use Rattle.commands.specs.declared.verb.PlainVerb.TheVariants as plain
use Rattle.commands.specs.declared.verb.WordsVerb.{WordsVerb}
use Rattle.commands.specs.declared.verb.WordsVerb.TheVariants as words
use Rattle.commands.specs.declared.verb.BytesVerb.{BytesVerb}
use Rattle.commands.specs.declared.verb.BytesVerb.TheVariants as bytes
use Rattle.commands.specs.declared.verb.Verb.{Verb}
use Rattle.commands.specs.declared.verb.Verb.TheVariants.{Plain, Words, Bytes, Draft}
use Rattle.commands.specs.Fields.{Field}

-- the same bytes
abbrev pub same : List ℕ → List ℕ → Bool
same [] [] = true
same [] (b ∷ bs) = false
same (a ∷ more) [] = false
same (a ∷ more) (b ∷ bs) = a == b && same more bs

abbrev pub spelled : List (List ℕ × Verb)
spelled =
    (codes "register", Words words.Register)
    ∷ (codes "nominal", Plain plain.Nominal)
    ∷ (codes "profile", Bytes bytes.Profile)
    ∷ (codes "check", Plain plain.Check)
    ∷ (codes "nocheck", Plain plain.NoCheck)
    ∷ (codes "start", Plain plain.Start)
    ∷ (codes "enter", Words words.Enter)
    ∷ (codes "strike", Plain plain.Strike)
    ∷ (codes "replace", Words words.Replace)
    ∷ (codes "batch", Bytes bytes.Batch)
    ∷ (codes "draft", Draft)
    ∷ (codes "tidy", Plain plain.Tidy)
    ∷ (codes "fold", Plain plain.Fold)
    ∷ (codes "pieces", Plain plain.Pieces)
    ∷ (codes "words", Plain plain.Words)
    ∷ (codes "length", Plain plain.Length)
    ∷ (codes "fits", Plain plain.Fits)
    ∷ (codes "origin", Plain plain.Origin)
    ∷ (codes "read", Plain plain.Read)
    ∷ (codes "pile", Plain plain.Pile)
    ∷ (codes "flatten", Plain plain.Flatten)
    ∷ (codes "walk", Plain plain.Walk)
    ∷ (codes "record", Words words.Record)
    ∷ (codes "unrecord", Bytes bytes.Unrecord)
    ∷ []

-- the first with this name
abbrev pub named : List (List ℕ × Verb) → Field → Option Verb
named [] name = None
named (p ∷ ps) name = cond (same p.0 name) (Some p.1) (named ps name)

abbrev pub verb : Field → Option Verb
verb name = named spelled name

-- a journal, a tag, a place or count or length or limit, and a word
abbrev pub slots : ℕ
slots = 3

abbrev pub tags : ℕ
tags = 255

abbrev pub places : ℕ
places = 4294967295

abbrev pub all_words : ℕ
all_words = 18446744073709551615

abbrev pub plain_limits : PlainVerb → List ℕ
plain_limits plain.Nominal = all_words ∷ places ∷ []
plain_limits plain.Check = tags ∷ places ∷ []
plain_limits plain.NoCheck = []
plain_limits plain.Start = slots ∷ places ∷ []
plain_limits plain.Strike = slots ∷ places ∷ places ∷ []
plain_limits plain.Tidy = slots ∷ []
plain_limits plain.Fold = slots ∷ slots ∷ slots ∷ []
plain_limits plain.Pieces = slots ∷ []
plain_limits plain.Words = slots ∷ []
plain_limits plain.Length = slots ∷ []
plain_limits plain.Fits = slots ∷ []
plain_limits plain.Origin = slots ∷ places ∷ []
plain_limits plain.Read = slots ∷ tags ∷ places ∷ []
plain_limits plain.Pile = slots ∷ slots ∷ places ∷ []
plain_limits plain.Flatten = slots ∷ tags ∷ []
plain_limits plain.Walk = slots ∷ []

abbrev pub words_limits : WordsVerb → List ℕ
words_limits words.Register = []
words_limits words.Enter = slots ∷ places ∷ []
words_limits words.Replace = slots ∷ places ∷ places ∷ []
words_limits words.Record = places ∷ places ∷ []

abbrev pub bytes_limits : BytesVerb → List ℕ
bytes_limits bytes.Profile = []
bytes_limits bytes.Batch = slots ∷ []
bytes_limits bytes.Unrecord = []
