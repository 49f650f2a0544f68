-- How many rights a user without privileged processes has in flight at most (unix(7), ETOOMANYREFS).
use Rattle.std.specs.Prelude.{◌≡◌, ◌≢◌, ℕ, ◌≤◌, true, false, List, length, Option, Some, None}
use Rattle.std.specs.List.{slice_get}
use Rattle.ux_model.specs.Types.{Request, Reply, Entry}
use Rattle.ux_model.specs.Process.{Process}
use Rattle.ux_model.specs.State.{State, process_at}
use Rattle.ux_model.specs.Flight.{in_flight}
use Rattle.ux_model.specs.History.{replay, IsLegal}
use Rattle.ux_model.specs.Pedigree.{before}

-- ---- a user whose processes were its own from the start

-- each process of a user is unprivileged, and may have so many descriptors at most
abbrev pub AreLimited : State → ℕ → ℕ → Type 0
AreLimited S uid limit = (p : ℕ) (P : Process) → process_at S p ≡ Some P → P.uid ≡ uid → (P.privileged ≡ false) × (length P.table ≤ limit)

-- the user that a call's process is one of by it
abbrev pub becomes : Request → Reply → Option ℕ
becomes (Request.SetIds uid gid) Reply.Ok = Some uid
becomes _ _ = None

-- no privileged process becomes one of this user
abbrev pub NonePrivilegedBecomes : State → List Entry → ℕ → Type 0
NonePrivilegedBecomes boot entries uid = (j : ℕ) (e : Entry) (P : Process) → slice_get entries j ≡ Some e →
    process_at (before boot entries j) e.pid.0 ≡ Some P → P.privileged ≡ true → becomes e.request e.reply ≢ Some uid

-- then its processes never have more rights in flight
abbrev pub FlightIsLimited : Type 0
FlightIsLimited =
    (boot : State) (entries : List Entry) (uid limit : ℕ) → IsLegal boot entries → AreLimited boot uid limit →
    NonePrivilegedBecomes boot entries uid → in_flight (replay boot entries) uid ≤ limit

-- ---- where processes take other ids

-- user 0 alone has privileged processes, and each process may have so many descriptors at most
abbrev pub OnlyRootIsPrivileged : State → ℕ → Type 0
OnlyRootIsPrivileged S limit = (p : ℕ) (P : Process) → process_at S p ≡ Some P →
    (P.privileged ≡ true → P.uid ≡ 0) × (length P.table ≤ limit)

-- then no other user ever has more rights in flight, whoever becomes one
abbrev pub FlightOfUsersIsLimited : Type 0
FlightOfUsersIsLimited =
    (boot : State) (entries : List Entry) (uid limit : ℕ) → IsLegal boot entries → OnlyRootIsPrivileged boot limit → uid ≢ 0 →
    in_flight (replay boot entries) uid ≤ limit
