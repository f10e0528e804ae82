-- The text of readings: the first, and the others each behind a blank.
use Rattle.std.proofs.Common.{◌≡◌, ℕ, List, ◌++◌, length, codes, sym, ap, ◌∙◌}
use Rattle.std.proofs.lemmas.List.{nil_from_length, append-nil}
use Rattle.series.specs.declared.interval.Interval.{Interval}
use Rattle.answers.specs.Texts.{ok_text}
use Rattle.questions.specs.Questions.{reading_text, readings_text}

-- a reading behind a blank
abbrev pub blank_reading : Interval → List ℕ
blank_reading x = codes " " ++ reading_text x

pub readings_none : (n : ℕ) (xs : List Interval) → length xs ≡ 0 → ok_text n ≡ ok_text n ++ readings_text xs
readings_none n xs e = sym (ap (λ l. ok_text n ++ readings_text l) (nil_from_length xs e) ∙ append-nil (ok_text n))
