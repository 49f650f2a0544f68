-- What the file objects of a script are at first.
use Rattle.std.specs.Prelude.{ℕ, Bool, true, false, List, unwrap_or}
use Rattle.ux_model.specs.Object.{View, new_view}
use Rattle.ux_objects.specs.Failing.{first_body}
use Rattle.ux_syntax.specs.declared.script.ObjectLine.{ObjectLine}

-- the path, and what is seen of the object at first
abbrev pub object_of : ObjectLine → List ℕ × View
object_of line = (line.name, new_view (first_body line.kind line.body))

-- which of the object's reads and writes together fails, counted from 1, where calls are to fail; 0 for none
abbrev pub failing_call : Bool → ObjectLine → ℕ
failing_call true line = unwrap_or line.fail 0
failing_call false line = 0
