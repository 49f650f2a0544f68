-- What a file is open for (open(2)).
use Rattle.std.specs.Prelude.{Bool, true, false}
use Rattle.ux_types.specs.declared.options.Mode.{Mode}

abbrev pub can_read : Mode → Bool
can_read Mode.Read = true
can_read Mode.Write = false
can_read Mode.Both = true

abbrev pub can_write : Mode → Bool
can_write Mode.Read = false
can_write Mode.Write = true
can_write Mode.Both = true
