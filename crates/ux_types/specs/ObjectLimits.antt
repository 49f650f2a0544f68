-- How many file objects a layer may have.
use Rattle.std.specs.Prelude.{ℕ}
use Rattle.ux_types.specs.declared.limits.ObjectLimit.{ObjectLimit}

abbrev pub most_objects : ObjectLimit → ℕ
most_objects ObjectLimit.Usual = 64
most_objects ObjectLimit.Raised = 4096
