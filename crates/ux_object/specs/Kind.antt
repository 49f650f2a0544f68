-- The kind of an object, by what is in it.
use Rattle.ux_model.specs.Object.{Body, memory, counter, pipe}
use Rattle.ux_object.specs.declared.ObjKind.{ObjKind}
use Rattle.ux_object.specs.declared.ObjKind.TheVariants.{Memory, Counter, Pipe}

abbrev pub kind_of : Body → ObjKind
kind_of (memory bytes) = Memory
kind_of (counter semaphore value) = Counter
kind_of (pipe bytes) = Pipe
