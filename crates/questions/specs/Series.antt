-- The series beneath the journals.
-- bottom_cells: the cells of a bottom; none where it would be refused.
-- checked_by: cells under a check, where there is one.
-- laid_down: what laying something beneath answers, and the bottom's cells and the check then.
-- Assumes nothing.
use Rattle.std.specs.Prelude.{ℕ, List, [], ◌++◌, map, length, replicate, Some, None, Ok, Err, vec_items, codes, decimal, Option, Result}
use Rattle.std.specs.Result.{result_unwrap_or}
use Rattle.series.specs.declared.cell.Cell.{Cell}
use Rattle.series.specs.declared.cell.Cell.TheVariants.{Reading}
use Rattle.series.specs.declared.interval.Interval.{Interval}
use Rattle.series.specs.Bottoms.{bounded}
use Rattle.series.specs.Checked.{checked}
use Rattle.series.specs.Lists.{indexed}
use Rattle.series.specs.Refusals.{with_ok}
use Rattle.profile.specs.Profiles.{open_profile}
use Rattle.commands.specs.Commands.{Layer, register, nominal, profile, check, nocheck}
use Rattle.answers.specs.Texts.{answer_text, ok_text}
use Rattle.commands.specs.declared.command.Bottom.{Bottom}
use Rattle.commands.specs.declared.command.Bottom.TheVariants as bottom
use Rattle.commands.specs.declared.command.CheckLayer.{CheckLayer}
use Rattle.questions.specs.declared.beneath.Beneath.{Beneath}

-- the cells of a profile with the bytes used, or the refusal
abbrev pub profile_in : List ℕ → Result (List (Cell Interval) × ℕ) ℕ
profile_in bs = open_profile 1 bs

abbrev pub bottom_cells : Bottom → List (Cell Interval)
bottom_cells (bottom.Register readings) = result_unwrap_or (bounded (map Reading (vec_items readings))) []
bottom_cells (bottom.Nominal reading length) = result_unwrap_or (bounded (replicate length (Reading reading))) []
bottom_cells (bottom.Profile bytes) = result_unwrap_or (with_ok (λ p. p.0) (profile_in (vec_items bytes))) []

-- the length of a bottom, and how many bytes a profile takes; or the refusal
abbrev pub size_in : Bottom → Result (ℕ × Option ℕ) ℕ
size_in (bottom.Register readings) = with_ok (λ cells. (length cells, None)) (bounded (map Reading (vec_items readings)))
size_in (bottom.Nominal reading n) = with_ok (λ cells. (length cells, None)) (bounded (replicate n (Reading reading)))
size_in (bottom.Profile bytes) = with_ok (λ p. (length p.0, Some p.1)) (profile_in (vec_items bytes))

abbrev pub size_text : ℕ → Option ℕ → List ℕ
size_text n None = decimal n
size_text n (Some used) = decimal n ++ (codes " " ++ decimal used)

pub record Series : Type 0 where
  pub bottom : List (Cell Interval)
  -- tag and limit
  pub checks : Option (ℕ × ℕ)

abbrev pub by_check : Option CheckLayer → Option (ℕ × ℕ)
by_check None = None
by_check (Some c) = Some (c.tag, c.limit)

-- what lies beneath, as the code holds it
abbrev pub beneath : Beneath → Series
beneath b = record { bottom = bottom_cells b.bottom; checks = by_check b.check }

abbrev pub checked_by : Option (ℕ × ℕ) → List (Cell Interval) → List (Cell Interval)
checked_by None cells = cells
checked_by (Some c) cells = indexed (checked c.0 c.1) 0 cells

abbrev pub cells_of : Series → List (Cell Interval)
cells_of s = checked_by s.checks s.bottom

-- a new bottom, or the one that was there
abbrev pub on_bottom : Series → Result (List (Cell Interval)) ℕ → Series
on_bottom s (Ok cells) = record { bottom = cells; checks = s.checks }
on_bottom s (Err n) = s

abbrev pub profile_text : List (Cell Interval) × ℕ → List ℕ
profile_text p = ok_text (length p.0) ++ (codes " " ++ decimal p.1)

abbrev pub laid_down : Series → Layer → List ℕ × Series
laid_down s (register xs) = (answer_text (λ cells. ok_text (length cells)) (bounded (map Reading xs)), on_bottom s (bounded (map Reading xs)))
laid_down s (nominal x n) =
    (answer_text (λ cells. ok_text (length cells)) (bounded (replicate n (Reading x))), on_bottom s (bounded (replicate n (Reading x))))
laid_down s (profile bs) = (answer_text profile_text (profile_in bs), on_bottom s (with_ok (λ p. p.0) (profile_in bs)))
laid_down s (check tag limit) = (codes "ok", record { bottom = s.bottom; checks = Some (tag, limit) })
laid_down s nocheck = (codes "ok", record { bottom = s.bottom; checks = None })
