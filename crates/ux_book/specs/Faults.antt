-- Which fault it is.
use Rattle.std.specs.Prelude.{Bool, true, false}
use Rattle.ux_book.specs.declared.fault.CallFault.{CallFault}
use Rattle.ux_book.specs.declared.fault.OffFault.{OffFault}

abbrev pub is_stranger : CallFault → Bool
is_stranger CallFault.Stranger = true
is_stranger CallFault.NoMemory = false
is_stranger CallFault.Full = false
is_stranger CallFault.Deadlock = false

abbrev pub is_deadlock : CallFault → Bool
is_deadlock CallFault.Deadlock = true
is_deadlock CallFault.Stranger = false
is_deadlock CallFault.NoMemory = false
is_deadlock CallFault.Full = false

abbrev pub is_alive : OffFault → Bool
is_alive OffFault.Alive = true
is_alive OffFault.Given = false
