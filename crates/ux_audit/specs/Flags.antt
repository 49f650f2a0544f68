-- The close-on-exec flags of the numbers that are open, as entries report them.
use Rattle.std.specs.Prelude.{◌≡◌, ℕ, ◌≤◌, ◌^◌, length, All, Bool, ◌==◌, if◌then◌else◌, List, Option, Some, None, option_map}
use Rattle.std.specs.List.{slice_get, list_any}
use Rattle.std.specs.Global.{Vec}
use Rattle.ux_model.specs.Types.{Request, Entry}
use Rattle.ux_model.specs.Places.{place}
use Rattle.ux_model.specs.Flags.{asks_cloexec}
use Rattle.ux_model.specs.Process.{Descriptor}
use Rattle.ux_model.specs.State.{State}
use Rattle.ux_model.specs.History.{makes}
use Rattle.ux_model.specs.Giving.{held_at}
use Rattle.ux_model.specs.Changes.{cloexec_of, is_err}
use Rattle.ux_audit.specs.Shown.{shown}

abbrev pub flag_in : Option (Vec (Option Bool)) → ℕ → Option Bool
flag_in None n = None
flag_in (Some row) n = place row.items n

-- the flag of the number in the row of the process, if it is open
abbrev pub flag_at : List (Vec (Option Bool)) → ℕ → ℕ → Option Bool
flag_at tables p n = flag_in (slice_get tables p) n

abbrev pub flag_on_exec : Option Bool → Option Bool
flag_on_exec None = None
flag_on_exec (Some c) = if c then None else Some c

-- what a call leaves of a number of its process that it doesn't give anew
abbrev pub flag_left : Request → ℕ → Option Bool → Option Bool
flag_left (Request.SetFlags fd flags) n held = if fd.0 == n then option_map (λ c. asks_cloexec flags) held else held
flag_left (Request.Close fd) n held = if fd.0 == n then None else held
flag_left Request.Exec n held = flag_on_exec held
flag_left Request.Exit n held = None
flag_left Request.Off n held = None
flag_left _ n held = held

-- and of a number of another process
abbrev pub flag_of_others : Request → Option Bool → Option Bool
flag_of_others Request.Off held = None
flag_of_others _ held = held

-- the flag of its own number after a call that wasn't refused, and that gave these numbers
abbrev pub flag_own : Request → List ℕ → ℕ → Option Bool → Option Bool
flag_own request numbers n held = if list_any (λ m. m == n) numbers then Some (cloexec_of request) else flag_left request n held

-- the flags after an entry, by those before
abbrev pub flag_after : (ℕ → ℕ → Option Bool) → Entry → ℕ → ℕ → Option Bool
flag_after flags e q n =
    if is_err e.reply then flags q n else
    if makes q e.request e.reply then flags e.pid.0 n else
    if e.pid.0 == q then flag_own e.request (shown e.request e.reply) n (flags q n) else
    flag_of_others e.request (flags q n)

-- the rows are the flags of the tables
abbrev pub AreFlags : State → List (Vec (Option Bool)) → Type 0
AreFlags S tables = (q n : ℕ) → flag_at tables q n ≡ option_map (λ (e : Descriptor). e.cloexec) (held_at S q n)

-- each number of a row, and of a process, is one of 32 bits
pub record AreSmall (tables : List (Vec (Option Bool))) : Type 0 where
  pub count : length tables ≤ 2 ^ 32
  pub rows : All (λ row. length row.items ≤ 2 ^ 32) tables
