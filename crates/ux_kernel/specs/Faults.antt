-- Why a boot is refused.
use Rattle.std.specs.Prelude.{ℕ, not, nat_lt, if◌then◌else◌, List, length, map, Option, Some, None}
use Rattle.std.specs.List.{list_all}
use Rattle.ux_model.specs.Types.{Name, ProcSpec}
use Rattle.ux_model.specs.Limits.{process_limit}
use Rattle.ux_model.specs.Object.{View}
use Rattle.ux_model.specs.Names.{is_valid_path}
use Rattle.ux_model.specs.Boot.{are_distinct}
use Rattle.ux_kernel.specs.declared.boot.BootFault.{BootFault}

-- the first fault of these file objects, of which there may be so many, and processes, other than out of memory
abbrev pub fault_of : ℕ → List (Name × View) → List ProcSpec → Option BootFault
fault_of most objects specs =
    if nat_lt most (length objects) then Some BootFault.TooManyObjects else
    if nat_lt process_limit (length specs) then Some BootFault.TooManyProcesses else
    if not (list_all (λ o. is_valid_path o.0) objects) then Some BootFault.BadPath else
    if not (are_distinct (map (λ o. o.0) objects)) then Some BootFault.NameTwice else
    if not (list_all (λ o. o.1.opened) objects) then Some BootFault.ObjectClosed else None
