-- What a run of a script in one order has come to.
use Rattle.std.specs.Prelude.{List}
use Rattle.ux_model.specs.Types.{Entry}
use Rattle.ux_model.specs.State.{State}
use Rattle.ux_syntax.specs.Spelling.{Plan}
use Rattle.ux_replay.specs.Runs.{Runs, HasBegun}
use Rattle.ux_orders.specs.declared.ran.Ran.{Ran}

-- its entries, in order
abbrev pub entries_of : Ran → List Entry
entries_of (Ran.Whole entries) = entries.items
entries_of (Ran.Deadlock entries waits) = entries.items
entries_of (Ran.BrokenOff entries) = entries.items

-- a legal history from this state, in which each process makes the script's calls for it, in order and no others, or where it was cut
-- short the first of them
abbrev pub IsRunOf : State → Plan → Ran → Type 0
IsRunOf boot s (Ran.Whole entries) = Runs boot s entries.items
IsRunOf boot s (Ran.Deadlock entries waits) = HasBegun boot s entries.items
IsRunOf boot s (Ran.BrokenOff entries) = HasBegun boot s entries.items
