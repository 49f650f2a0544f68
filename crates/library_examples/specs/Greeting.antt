-- What one process starts with that writes a file and reads it back.
use Rattle.std.specs.Prelude.{[], ◌∷◌, false, codes}
use Rattle.ux_model.specs.Object.{memory, new_view}
use Rattle.ux_model.specs.State.{State}
use Rattle.ux_model.specs.Boot.{boot_state}

-- an empty file, and the process of a user
abbrev pub hello_boot : State
hello_boot = boot_state ((codes "notes", new_view (memory [])) ∷ [])
    (record { uid = 1000; gid = 1000; privileged = false; limit = 16 } ∷ [])
