-- What a command asks for.
-- layer: what is to lie beneath the journals.
-- change: what is to be done to a journal; an entry, a strike and a replacement are each a correction.
-- view: what is to be shown of a journal.
-- question: what is asked of a journal laid on the series beneath.
-- command: each of these with the number of its journal; a fold; a place of a pile; a correction to write, and bytes to read one from.
-- by_command: a command of the code, its lists told by their elements: the one definition that goes with it.
-- Assumes nothing.
use Rattle.std.specs.Prelude.{ℕ, Bool, List, [], map, Some, None, vec_items}
use Rattle.series.specs.declared.interval.Interval.{Interval}
use Rattle.journal.specs.Machine.{Correction, correction}
use Rattle.commands.specs.declared.command.OwnedCorrection.{OwnedCorrection}
use Rattle.commands.specs.declared.command.Bottom.TheVariants.{Register, Nominal, Profile}
use Rattle.commands.specs.declared.command.Layer.{Layer as WrittenLayer}
use Rattle.commands.specs.declared.command.Layer.TheVariants.{Bottom, Check}
use Rattle.commands.specs.declared.command.Change.{Change as WrittenChange}
use Rattle.commands.specs.declared.command.Change.TheVariants.{Start, Enter, Strike, Replace, Batch, Draft, Tidy}
use Rattle.commands.specs.declared.command.View.{View}
use Rattle.commands.specs.declared.command.Question.{Question}
use Rattle.commands.specs.declared.command.Command.{Command as Written}
use Rattle.commands.specs.declared.command.Command.TheVariants as written

pub data Layer : Type 0 where
  register : List Interval → Layer
  nominal : Interval → ℕ → Layer
  profile : List ℕ → Layer
  check : ℕ → ℕ → Layer
  nocheck : Layer

pub data Change : Type 0 where
  begin : ℕ → Change
  correct : Correction ℕ → Change
  batch : List ℕ → Change
  draft : List (Correction ℕ) → Bool → Change
  tidy : Change

pub data Command : Type 0 where
  lay : Layer → Command
  change : ℕ → Change → Command
  fold : ℕ → ℕ → ℕ → Command
  show : ℕ → View → Command
  ask : ℕ → Question → Command
  pile : ℕ → ℕ → ℕ → Command
  write : Correction ℕ → Command
  unwrite : List ℕ → Command

abbrev pub owned : OwnedCorrection → Correction ℕ
owned c = correction c.place c.struck (vec_items c.words)

abbrev pub by_layer : WrittenLayer → Layer
by_layer (Bottom (Register readings)) = register (vec_items readings)
by_layer (Bottom (Nominal reading length)) = nominal reading length
by_layer (Bottom (Profile bytes)) = profile (vec_items bytes)
by_layer (Check (Some c)) = check c.tag c.limit
by_layer (Check None) = nocheck

abbrev pub by_change : WrittenChange → Change
by_change (Start length) = begin length
by_change (Enter place words) = correct (correction place 0 (vec_items words))
by_change (Strike place struck) = correct (correction place struck [])
by_change (Replace c) = correct (owned c)
by_change (Batch bytes) = batch (vec_items bytes)
by_change (Draft corrections keep) = draft (map owned (vec_items corrections)) keep
by_change Tidy = tidy

abbrev pub by_command : Written → Command
by_command (written.Lay l) = lay (by_layer l)
by_command (written.Change j c) = change j.number (by_change c)
by_command (written.Fold a b c) = fold a.number b.number c.number
by_command (written.Show j v) = show j.number v
by_command (written.Ask j q) = ask j.number q
by_command (written.Pile j k p) = pile j.number k.number p
by_command (written.Record c) = write (owned c)
by_command (written.Unrecord bytes) = unwrite (vec_items bytes)
