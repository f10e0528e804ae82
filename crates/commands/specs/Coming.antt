-- The fields that are left of a line.
-- coming: the fields that have yet to be handed out.
-- Assumes nothing.
use Rattle.std.specs.Prelude.{List}
use Rattle.commands.specs.declared.fields.Fields.{Fields}
use Rattle.commands.specs.Fields.{Field, fields}

abbrev pub coming : Fields → List Field
coming f = fields f.rest.now
