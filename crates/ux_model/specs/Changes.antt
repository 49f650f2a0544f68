-- Laws: how a call changes the descriptor tables, reported by its request and reply.
use Rattle.std.specs.Prelude.{◌≡◌, ℕ, suc, ◌≤◌, Bool, true, false, ◌==◌, if◌then◌else◌, List, [], ◌∷◌, length, take, Option, Some, None}
use Rattle.std.specs.Prelude.{option_map, Ok, Err}
use Rattle.std.specs.List.{slice_get, list_any}
use Rattle.ux_model.specs.Types.{Fd, Request, Reply, Entry}
use Rattle.ux_model.specs.Limits.{table_limit}
use Rattle.ux_model.specs.Flags.{asks_cloexec, asks_cloexec_rights}
use Rattle.ux_model.specs.Socket.{pending_ends}
use Rattle.ux_model.specs.Process.{Descriptor, kept_on_exec, with_cloexec}
use Rattle.ux_model.specs.State.{State, table_of, next_description}
use Rattle.ux_model.specs.Outcome.{find_socket}
use Rattle.ux_model.specs.Delivered.{brought}
use Rattle.ux_model.specs.Step.{Step}
use Rattle.ux_model.specs.History.{is_allowed, makes, replay, IsLegal}
use Rattle.ux_model.specs.Giving.{held_at, description_in, given}

-- the flag of a descriptor that the call gives
abbrev pub cloexec_of : Request → Bool
cloexec_of (Request.Open path mode flags) = asks_cloexec flags
cloexec_of (Request.Create path mode flags) = asks_cloexec flags
cloexec_of (Request.MemFd flags) = asks_cloexec flags
cloexec_of (Request.EventFd value semaphore flags) = asks_cloexec flags
cloexec_of (Request.Pipe flags) = asks_cloexec flags
cloexec_of (Request.Socket kind flags) = asks_cloexec flags
cloexec_of (Request.SocketPair kind flags) = asks_cloexec flags
cloexec_of (Request.Accept fd flags) = asks_cloexec flags
cloexec_of (Request.RecvMsg fd n space flags) = asks_cloexec_rights flags
cloexec_of _ = false

-- what a call leaves in a place of its process's table that it doesn't give anew
abbrev pub left_by : Request → ℕ → Option Descriptor → Option Descriptor
left_by (Request.SetFlags fd flags) n held = if fd.0 == n then option_map (with_cloexec (asks_cloexec flags)) held else held
left_by (Request.Close fd) n held = if fd.0 == n then None else held
left_by Request.Exec n held = kept_on_exec held
left_by Request.Exit n held = None
left_by Request.Off n held = None
left_by _ n held = held

abbrev pub is_err : Reply → Bool
is_err (Reply.Err e) = true
is_err _ = false

-- where it isn't refused
abbrev pub left : Request → Reply → ℕ → Option Descriptor → Option Descriptor
left request reply n held = if is_err reply then held else left_by request n held

-- and in the tables of others: the end of the layer alone changes them, and leaves nothing
abbrev pub others_left_by : Request → Option Descriptor → Option Descriptor
others_left_by Request.Off held = None
others_left_by _ held = held

abbrev pub left_to_others : Request → Reply → Option Descriptor → Option Descriptor
left_to_others request reply held = if is_err reply then held else others_left_by request held

abbrev pub as_list : {X : Type 0} → Option X → List X
as_list None = []
as_list (Some x) = x ∷ []

-- the end that has waited longest at a listener
abbrev pub oldest_end : State → ℕ → Fd → List ℕ
oldest_end S p fd = elim (find_socket S p fd) [ Err e ↦ [] | Ok found ↦ take 1 (pending_ends found.1.phase) ]

-- the descriptions of the numbers that a call gives to its process, in order
abbrev pub sources : State → ℕ → Request → List ℕ
sources S p (Request.Open path mode flags) = next_description S ∷ []
sources S p (Request.Create path mode flags) = next_description S ∷ []
sources S p (Request.MemFd flags) = next_description S ∷ []
sources S p (Request.EventFd value semaphore flags) = next_description S ∷ []
sources S p (Request.Pipe flags) = next_description S ∷ suc (next_description S) ∷ []
sources S p (Request.Socket kind flags) = next_description S ∷ []
sources S p (Request.SocketPair kind flags) = next_description S ∷ suc (next_description S) ∷ []
sources S p (Request.Accept fd flags) = oldest_end S p fd
sources S p (Request.Dup fd) = as_list (description_in (held_at S p fd.0))
sources S p (Request.Dup2 fd to) = as_list (description_in (held_at S p fd.0))
sources S p (Request.DupFrom fd minimum) = as_list (description_in (held_at S p fd.0))
sources S p (Request.RecvMsg fd n space flags) = (brought S p (Request.RecvMsg fd n space flags)).rights
sources S p _ = []

-- What a call of process p, from S to T, reports of the tables before it and after it.
pub record ChangesTables (S : State) (p : ℕ) (request : Request) (reply : Reply) (T : State) : Type 0 where
  -- other processes keep their tables, but for a child, which has its parent's, and at the end of the layer
  pub others : (q n : ℕ) → (p == q) ≡ false → makes q request reply ≡ false → held_at T q n ≡ left_to_others request reply (held_at S q n)
  pub child : (q n : ℕ) → makes q request reply ≡ true → held_at T q n ≡ held_at S p n
  -- a number of its own that it doesn't give
  pub own : (n : ℕ) → list_any (λ m. m == n) (given S p request reply) ≡ false → held_at T p n ≡ left request reply n (held_at S p n)
  -- one that it gives
  pub new : (i n : ℕ) → slice_get (given S p request reply) i ≡ Some n →
      (d : ℕ) × (slice_get (sources S p request) i ≡ Some d)
      × (held_at T p n ≡ Some (record { description = d; cloexec = cloexec_of request }))
  -- none is given twice
  pub once : (i j n : ℕ) → slice_get (given S p request reply) i ≡ Some n → slice_get (given S p request reply) j ≡ Some n → i ≡ j

-- so each call that a process may make, and the end of the layer
abbrev pub StepChangesTables : Type 0
StepChangesTables = (S T : State) (p k tag : ℕ) (request : Request) (reply : Reply) (gone : List ℕ) → Step S p tag request reply gone T →
    is_allowed S p k request ≡ true → ChangesTables S p request reply T

-- no table of a legal history has more places than one may have
abbrev pub TablesStaySmall : Type 0
TablesStaySmall =
    (boot : State) (entries : List Entry) (p : ℕ) → IsLegal boot entries → length (table_of (replay boot entries) p) ≤ table_limit
