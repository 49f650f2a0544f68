-- What the file objects of a boot are made of.
use Rattle.std.specs.Prelude.{ℕ, List}
use Rattle.ux_model.specs.Object.{View, new_view}
use Rattle.ux_objects.specs.Failing.{first_body}
use Rattle.delortxa.specs.declared.boot.Recipe.{Recipe}

-- the path, and what is seen of the object at first
abbrev pub object_of : Recipe → List ℕ × View
object_of r = (r.path, new_view (first_body r.kind r.bytes))

-- which of its reads and writes fails, counted from 1, or 0
abbrev pub failure_of : Recipe → ℕ
failure_of r = r.fails_at
