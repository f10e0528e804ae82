-- What is shown of a journal, and of records.
-- view_text: the text of a view.
-- write_text: the bytes of a correction's record.
-- unwrite_text: the correction of a record's bytes.
-- Assumes nothing.
use Rattle.std.specs.Prelude.{ℕ, cond, List, ◌++◌, length, codes, decimal, nat_lt}
use Rattle.std.specs.List.{flat_map}
use Rattle.series.specs.Lists.{nth}
use Rattle.series.specs.Refusals.{refusal_text}
use Rattle.journal.specs.Machine.{State, Correction, answers}
use Rattle.journal.specs.Pieces.{gathered}
use Rattle.journal.specs.Texts.{origin_text, piece_text}
use Rattle.journal.specs.Runs.{Run, kept_run, entered_run, runs}
use Rattle.records.specs.Records.{written, read_record}
use Rattle.commands.specs.declared.command.View.{View}
use Rattle.commands.specs.declared.command.View.TheVariants.{Pieces, Words, Length, Walk, Origin}
use Rattle.answers.specs.Texts.{answer_text, listed, hex_text}

-- each word with a blank before it
abbrev pub words_text : List ℕ → List ℕ
words_text ws = flat_map (λ w. codes " " ++ decimal w) ws

abbrev pub run_text : Run → List ℕ
run_text (kept_run p n) = codes "kept " ++ (decimal p ++ (codes " " ++ decimal n))
run_text (entered_run k ws) = codes "words " ++ (decimal k ++ words_text ws)

abbrev pub view_text : State ℕ → View → List ℕ
view_text st Pieces = listed (codes " ") piece_text (gathered st.origins)
view_text st Words = listed (codes " ") decimal st.words
view_text st Length = decimal st.started ++ (codes " " ++ decimal (length st.origins))
view_text st Walk = listed (codes ", ") run_text (runs st)
view_text st (Origin p) = answer_text origin_text (nth (answers st) p)

-- refusal 3 for more than 1,024 words
abbrev pub write_text : Correction ℕ → List ℕ
write_text c = cond (nat_lt 1024 (length c.enters)) (refusal_text 3) (hex_text (written c))

-- place, count, words, and the bytes used
abbrev pub read_text : Correction ℕ × ℕ → List ℕ
read_text p =
    decimal p.0.at ++ (codes " " ++ (decimal p.0.strikes ++ (words_text p.0.enters ++ (codes " used " ++ decimal p.1))))

abbrev pub unwrite_text : List ℕ → List ℕ
unwrite_text bs = answer_text read_text (read_record bs)
