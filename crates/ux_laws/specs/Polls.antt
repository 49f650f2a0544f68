-- When a poll(2) of several descriptors has to wait, and that it never does while there is something to be told.
use Rattle.std.specs.Prelude.{◌≡◌, ◌≢◌, ◌↔◌, ◌≤◌, ℕ, Bool, true, List, length, Some, None, Ok}
use Rattle.std.specs.List.{AllByRecursion, slice_get}
use Rattle.ux_model.specs.Types.{Errno, PollFd, PollFds, Request, Reply}
use Rattle.ux_model.specs.Limits.{poll_limit}
use Rattle.ux_model.specs.Flags.{asks_input, asks_room, asks_end}
use Rattle.ux_model.specs.Description.{Description}
use Rattle.ux_model.specs.Process.{Descriptor}
use Rattle.ux_model.specs.State.{State}
use Rattle.ux_model.specs.Outcome.{descriptor_at, find_description}
use Rattle.ux_model.specs.Readiness.{readiness}
use Rattle.ux_model.specs.Polling.{revents}
use Rattle.ux_model.specs.Step.{Step}

-- nothing is reported of this descriptor of process p
abbrev pub IsSilent : State → ℕ → PollFd → Type 0
IsSilent S p asked = (revents S p asked).0 ≡ 0

-- one that waits, of at most 64 descriptors, has to wait exactly while nothing is reported of any
abbrev pub PollsWaitWhile : Type 0
PollsWaitWhile =
    (S T : State) (p tag : ℕ) (fds : PollFds) (reply : Reply) (gone : List ℕ) → length fds ≤ poll_limit →
    Step S p tag (Request.PollMany fds true) reply gone T → (reply ≡ Reply.Err Errno.EAGAIN) ↔ AllByRecursion (IsSilent S p) fds

-- There is something to be told of a descriptor: its number isn't open; or its description has input, room or the end of input, and that is
-- asked for; or it is hung up, or has failed.
pub data IsToTell (S : State) (p : ℕ) (asked : PollFd) : Type 0 where
  closed : descriptor_at S p asked.fd ≡ None → IsToTell S p asked
  input : (x : Descriptor) (D : Description) → find_description S p asked.fd ≡ Ok (x, D) → asks_input asked.events ≡ true →
      (readiness S x.description D).readable ≡ true → IsToTell S p asked
  room : (x : Descriptor) (D : Description) → find_description S p asked.fd ≡ Ok (x, D) → asks_room asked.events ≡ true →
      (readiness S x.description D).writable ≡ true → IsToTell S p asked
  end : (x : Descriptor) (D : Description) → find_description S p asked.fd ≡ Ok (x, D) → asks_end asked.events ≡ true →
      (readiness S x.description D).read_hung ≡ true → IsToTell S p asked
  hung_up : (x : Descriptor) (D : Description) → find_description S p asked.fd ≡ Ok (x, D) →
      (readiness S x.description D).hung ≡ true → IsToTell S p asked
  has_failed : (x : Descriptor) (D : Description) → find_description S p asked.fd ≡ Ok (x, D) →
      (readiness S x.description D).failed ≡ true → IsToTell S p asked

-- where that holds of one of its descriptors, a poll doesn't wait
abbrev pub NoLostWakeup : Type 0
NoLostWakeup =
    (S T : State) (p tag i : ℕ) (fds : PollFds) (waits : Bool) (asked : PollFd) (reply : Reply) (gone : List ℕ) →
    slice_get fds i ≡ Some asked → IsToTell S p asked → Step S p tag (Request.PollMany fds waits) reply gone T →
    reply ≢ Reply.Err Errno.EAGAIN
