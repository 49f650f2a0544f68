-- What the processes of a key server keep to.
use Rattle.std.specs.Prelude.{◌≡◌, ℕ, [], ◌∷◌, Bool, true, false, codes}
use Rattle.std.specs.List.{list_all}
use Rattle.ux_model.specs.Types.{Pid, ProcSpec, Request}
use Rattle.ux_model.specs.Object.{memory, new_view}
use Rattle.ux_model.specs.State.{State}
use Rattle.ux_model.specs.Boot.{boot_state}
use Rattle.ux_book.specs.Pasts.{Caller}
use Rattle.ux_laws.specs.Separation.{leaves_to}

-- the process of a user
abbrev pub user : ℕ → ProcSpec
user id = record { uid = id; gid = id; privileged = false; limit = 16 }

-- the secret, and the monitor, the worker and the client
abbrev pub key_boot : State
key_boot = boot_state ((codes "secret", new_view (memory (codes "hunter2"))) ∷ []) (user 0 ∷ user 1000 ∷ user 2000 ∷ [])

-- the request leaves the secret to the monitor, which doesn't write it
abbrev pub leaves : ℕ → Request → Bool
leaves p request = leaves_to 1 (codes "secret") p request

-- this is still the process with that number, and all its requests did so
abbrev pub Keeps : Pid → Caller → Type 0
Keeps pid c = (c.pid ≡ pid) × (list_all (λ call. leaves pid.0 call.request) c.past ≡ true)
