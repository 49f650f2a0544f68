-- Where bytes lie. No public clause cites this module.
use Rattle.std.specs.Prelude.{◌≡◌, ℕ, [], Vec, vec_capacity, Option, None, Some, ◌<◌, ◌≤◌, List, take, length}
use Rattle.std.specs.declared.alloc.Global.{Global}
use Rattle.std.specs.declared.boxed.Box.{Box}
use Rattle.std.specs.Arc.{arc_value}
use Rattle.ux_types.specs.declared.bytes.Storage.{Storage}
use Rattle.ux_types.specs.declared.bytes.Storage.TheVariants.{Short, Shared, Own}

abbrev pub bytes_of : Storage → List ℕ
bytes_of (Short len buf) = take len buf
bytes_of (Shared len whole) = take len (arc_value whole).items
bytes_of (Own items) = items.value.items

-- they are there, and on the heap are more than lie in the value itself
abbrev pub IsStored : Storage → Type 0
IsStored (Short len buf) = len ≤ 14
IsStored (Shared len whole) = (14 < len) × (len ≤ length (arc_value whole).items)
IsStored (Own items) = 14 < length items.value.items

-- for how many bytes there is room
abbrev pub room_in : Option (Box (Vec ℕ Global) Global) → ℕ
room_in None = 14
room_in (Some items) = vec_capacity items.value

abbrev pub IsEmptyRoom : Option (Box (Vec ℕ Global) Global) → Type 0
IsEmptyRoom None = Unit {0}
IsEmptyRoom (Some items) = items.value.items ≡ []
