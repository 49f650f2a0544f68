-- Laws of the two free choices, out of memory and a failure: which calls never make the first, and what the second reports.
use Rattle.std.specs.Prelude.{◌≡◌, ◌↔◌, ℕ, Bool, true, false, List, Some}
use Rattle.ux_model.specs.Types.{Errno, SockOpt, Request, Reply}
use Rattle.ux_model.specs.Places.{place}
use Rattle.ux_model.specs.Object.{View, after_failure}
use Rattle.ux_model.specs.State.{State}
use Rattle.ux_model.specs.Step.{Step}

-- ---- out of memory

-- the calls that take none
abbrev pub takes_no_memory : Request → Bool
takes_no_memory (Request.Lseek fd offset whence) = true
takes_no_memory (Request.SetFlags fd flags) = true
takes_no_memory (Request.GetFlags fd) = true
takes_no_memory (Request.InQueue fd) = true
takes_no_memory (Request.OutQueue fd) = true
takes_no_memory (Request.Close fd) = true
takes_no_memory (Request.Unlink path) = true
takes_no_memory (Request.Listen fd backlog) = true
takes_no_memory (Request.Shutdown fd how) = true
takes_no_memory (Request.GetOpt fd opt) = true
takes_no_memory (Request.SetOpt fd SockOpt.QueueLimit value) = true
takes_no_memory (Request.Poll fd) = true
takes_no_memory (Request.PollMany fds waits) = true
takes_no_memory (Request.SetIds uid gid) = true
takes_no_memory Request.Exec = true
takes_no_memory Request.Exit = true
takes_no_memory Request.Off = true
takes_no_memory _ = false

-- in whatever state, such a call doesn't answer ENOMEM
abbrev pub NeverLacksMemory : Type 0
NeverLacksMemory = (S T : State) (p tag : ℕ) (request : Request) (reply : Reply) (gone : List ℕ) → takes_no_memory request ≡ true →
    Step S p tag request reply gone T → ¬ (reply ≡ Reply.Err Errno.ENOMEM)

-- ---- failures

-- a file object is there before and after, and has failed once more
abbrev pub HasFailed : State → State → ℕ → Type 0
HasFailed S T o = (view : View) × (place S.objects o ≡ Some view) × (place T.objects o ≡ Some (after_failure view))

-- where it is there before and after, it has failed as often
abbrev pub FailedAsOften : State → State → ℕ → Type 0
FailedAsOften S T o = (old new : View) → place S.objects o ≡ Some old → place T.objects o ≡ Some new → new.faults ≡ old.faults

-- what a reply reports of failures, where its call leads from S to T
pub record ReportsFailure (S : State) (reply : Reply) (T : State) : Type 0 where
  -- EIO, exactly where a file object has failed once more
  pub reported : (reply ≡ Reply.Err Errno.EIO) ↔ ((o : ℕ) × HasFailed S T o)
  pub one_alone : (o n : ℕ) → HasFailed S T o → HasFailed S T n → o ≡ n
  pub others_alike : (o : ℕ) → ¬ (HasFailed S T o) → FailedAsOften S T o

-- So each reply does, in whatever state. A file object that goes is handed out as it was held (HandingOut), so it failed as often, too.
abbrev pub FailsWhereAnObjectFailed : Type 0
FailsWhereAnObjectFailed =
    (S T : State) (p tag : ℕ) (request : Request) (reply : Reply) (gone : List ℕ) → Step S p tag request reply gone T →
    ReportsFailure S reply T
