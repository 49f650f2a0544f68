-- Who may make a call.
use Rattle.std.specs.Prelude.{ℕ, not, ◌&&◌, ◌==◌, if◌then◌else◌, IsTrue}
use Rattle.ux_model.specs.Types.{Request}
use Rattle.ux_model.specs.State.{State, is_live}
use Rattle.ux_model.specs.History.{is_off, has_live}

-- A process that hasn't exited may make any call but off, which none makes once no process is left.
abbrev pub IsCaller : State → ℕ → Request → Type 0
IsCaller S p request = IsTrue (if is_off request then (p == 0) && not (has_live S) else is_live S p)
