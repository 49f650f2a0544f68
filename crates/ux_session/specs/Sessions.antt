-- What a session is, and what may become of it.
use Rattle.std.specs.Prelude.{◌≡◌, ℕ, ◌+◌, Bool, true, false, not, ◌==◌, if◌then◌else◌, List, ◌++◌, length, filter, Option, Some, None}
use Rattle.std.specs.List.{All, list_any}
use Rattle.ux_model.specs.Types.{Pid, Request, Reply, Entry}
use Rattle.ux_model.specs.State.{is_live}
use Rattle.ux_model.specs.Waiting.{should_wait}
use Rattle.ux_model.specs.History.{is_off, is_exit}
use Rattle.ux_book.specs.Books.{KeptHistory, state_of, has_own_call, MustWait}
use Rattle.ux_book.specs.Sitting.{Answers}
use Rattle.ux_session.specs.declared.pending.Pending.{Pending}
use Rattle.ux_session.specs.declared.order.Order.{Order}
use Rattle.ux_session.specs.declared.fault.SessionFault.{SessionFault}

pub record Sessioned : Type 0 where
  pub book : KeptHistory
  -- in the order of asking
  pub pending : List Pending
  -- of several calls that needn't wait the one goes first that was asked for first
  pub asked : Bool
  -- memory ran out before each pending call was found to wait
  pub stalled : Bool

abbrev pub is_asked : Order → Bool
is_asked Order.Asked = true
is_asked (Order.Drawn generator) = false

-- ---- one call

-- its process lives, and it is neither an exit, a fork nor the layer's end
pub record IsSound (book : KeptHistory) (call : Pending) : Type 0 where
  pub lives : is_live (state_of book) call.pid.0 ≡ true
  pub plain : has_own_call call.request ≡ false

-- it has to wait in the state that the history has come to
abbrev pub IsHeld : KeptHistory → Pending → Type 0
IsHeld book call = MustWait book call.pid call.request

-- it is one more entry, and needn't wait
pub record IsMade (old new : KeptHistory) (call : Pending) : Type 0 where
  pub reply : Reply
  pub answers : Answers old new call.pid call.request reply
  pub done : should_wait (state_of old) call.pid.0 call.request reply ≡ false

-- ---- all calls

abbrev pub has_number : List Pending → ℕ → Bool
has_number pending number = list_any (λ call. call.number == number) pending

abbrev pub without : ℕ → List Pending → List Pending
without number pending = filter (λ call. not (call.number == number)) pending

abbrev pub of_others : Pid → List Pending → List Pending
of_others pid pending = filter (λ call. not (call.pid.0 == pid.0)) pending

-- those that are left behind a call of this process: by its exit its own are dropped
abbrev pub left_by : Pid → Request → List Pending → List Pending
left_by pid request pending = if is_exit request then of_others pid pending else pending

-- no wakeup is lost: each has to wait now
abbrev pub AreHeld : Sessioned → Type 0
AreHeld s = All (IsHeld s.book) s.pending

-- what a session keeps true
pub record IsSession (s : Sessioned) : Type 0 where
  pub sound : All (IsSound s.book) s.pending
  pub held : s.stalled ≡ false → AreHeld s

-- ---- faults

-- the fault that a request has of itself, if it has one
abbrev pub refusal : Sessioned → Pid → Request → Option SessionFault
refusal s pid request =
    if is_off request then Some SessionFault.NoCall else (if is_live (state_of s.book) pid.0 then None else Some SessionFault.Stranger)

abbrev pub refusal_of : Sessioned → Pending → Option SessionFault
refusal_of s call = if has_number s.pending call.number then Some SessionFault.InUse else refusal s call.pid call.request

-- ---- the history

-- so many entries came to be more, behind those that were there, of which the first has this place
pub record Extends (old new : KeptHistory) (from count : ℕ) : Type 0 where
  pub boot : new.boot ≡ old.boot
  pub place : from ≡ length old.entries
  pub more : List Entry
  pub behind : new.entries ≡ old.entries ++ more
  pub many : length more ≡ count
