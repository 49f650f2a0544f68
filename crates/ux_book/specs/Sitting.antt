-- What one thread does that makes the calls of all processes, and which shares it has.
use Rattle.std.specs.Prelude.{◌≡◌, ◌<◌, ℕ, not, false, List, length, Option, Some, None, if◌then◌else◌}
use Rattle.ux_model.specs.Types.{Pid, Request, Reply}
use Rattle.ux_model.specs.Places.{place}
use Rattle.ux_model.specs.State.{is_live}
use Rattle.ux_book.specs.declared.fault.CallFault.{CallFault}
use Rattle.ux_book.specs.Pasts.{Caller, calls_by, child_by}
use Rattle.ux_book.specs.Books.{KeptHistory, state_of, processes, entry_of, Adds}
use Rattle.ux_book.specs.Faults.{is_stranger}

-- the process made this call and got this reply, which is one more entry
pub record Answers (old new : KeptHistory) (pid : Pid) (request : Request) (reply : Reply) : Type 0 where
  pub k : ℕ
  pub released : List ℕ
  pub adds : Adds old new (entry_of (state_of old) pid k request reply released)

-- so, with some reply
pub record MakesOne (old new : KeptHistory) (pid : Pid) (request : Request) : Type 0 where
  pub reply : Reply
  pub answers : Answers old new pid request reply

-- no call was made: exactly where no live process has this number it is a stranger's, and else there is no memory
pub record IsFault (old : KeptHistory) (pid : Pid) (fault : CallFault) : Type 0 where
  pub stranger : is_stranger fault ≡ not (is_live (state_of old) pid.0)
  pub memory : is_stranger fault ≡ false → fault ≡ CallFault.NoMemory

-- the share of a process that lives, with its calls
abbrev pub share_of : KeptHistory → ℕ → Option Caller
share_of book p = if is_live (state_of book) p then Some (record { pid = record { 0 = p }; past = calls_by p book.entries }) else None

-- each process that lives has its share at the place of its number, and no other place has one; each process that was made has a place
pub record HasShares (book : KeptHistory) (shares : List (Option Caller)) : Type 0 where
  pub each : (p : ℕ) → place shares p ≡ share_of book p
  pub long : processes book < length shares

-- a book has one more entry, a fork of this process, and this is the share of the process that it made, if it made one
pub record Forks (old new : KeptHistory) (pid : Pid) (reply : Reply) (child : Option Caller) : Type 0 where
  pub one : Answers old new pid Request.Fork reply
  pub made : child ≡ child_by Request.Fork reply
