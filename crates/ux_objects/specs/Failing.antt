-- What contracts see of an object that fails once.
use Rattle.std.specs.Prelude.{ℕ, false, List, []}
use Rattle.ux_model.specs.Object.{Body, memory, counter, pipe, View}
use Rattle.ux_object.specs.declared.ObjKind.{ObjKind}
use Rattle.ux_objects.specs.Faultless.{memory_view, counter_view, pipe_view}
use Rattle.ux_objects.specs.declared.plain.Plain.{Plain}
use Rattle.ux_objects.specs.declared.plain.Plain.TheVariants.{Memory, Counter, Pipe}

abbrev pub plain_view : Plain → View
plain_view (Memory f) = memory_view f
plain_view (Counter c) = counter_view c
plain_view (Pipe p) = pipe_view p

-- what an object of this kind starts with
abbrev pub first_body : ObjKind → List ℕ → Body
first_body ObjKind.Memory bytes = memory bytes
first_body ObjKind.Counter bytes = counter false 0
first_body ObjKind.Pipe bytes = pipe []

-- how many reads and writes there are up to the one that fails, that one counted, and what is seen of the object as of any other
pub record Failing : Type 0 where
  pub left : ℕ
  pub seen : View

abbrev pub with_faults : View → ℕ → View
with_faults view faults = record view { faults = faults }

-- one that was just made
abbrev pub failing : View → ℕ → Failing
failing view n = record { left = n; seen = with_faults view 0 }
