-- Which numbers a call gives its process, and what they lead to.
use Rattle.std.specs.Prelude.{ℕ, Bool, false, ◌==◌, ◌&&◌, ◌||◌, if◌then◌else◌, List, [], ◌∷◌, Option, Some, None, option_map, is_some}
use Rattle.std.specs.List.{list_any}
use Rattle.ux_model.specs.Types.{Fd, MsgFlags, Request, Reply, Entry, How}
use Rattle.ux_model.specs.Places.{place}
use Rattle.ux_model.specs.Control.{Control}
use Rattle.ux_model.specs.ControlReading.{control_in}
use Rattle.ux_model.specs.Process.{Descriptor}
use Rattle.ux_model.specs.State.{State, table_of}
use Rattle.ux_model.specs.Delivered.{Brought, brought}
use Rattle.ux_model.specs.History.{makes}

-- ---- holding

-- what process p has under number n
abbrev pub held_at : State → ℕ → ℕ → Option Descriptor
held_at S p n = place (table_of S p) n

-- the number stands in the table of the process
abbrev pub is_held : State → ℕ → ℕ → Bool
is_held S p n = is_some (held_at S p n)

abbrev pub description_in : Option Descriptor → Option ℕ
description_in held = option_map (λ (e : Descriptor). e.description) held

-- the description that the number leads to
abbrev pub description_of : State → ℕ → ℕ → Option ℕ
description_of S p n = description_in (held_at S p n)

-- ---- giving

-- dup2(2) onto itself
abbrev pub is_onto_itself : Request → Bool
is_onto_itself (Request.Dup2 fd to) = to.0 == fd.0
is_onto_itself _ = false

-- the numbers that an answer reports; dup2(2) onto itself gives none
abbrev pub numbers_told : Request → Reply → List ℕ
numbers_told request (Reply.Fd fd) = if is_onto_itself request then [] else fd.0 ∷ []
numbers_told request (Reply.Fds first second) = first.0 ∷ second.0 ∷ []
numbers_told request (Reply.Accepted fd addr) = fd.0 ∷ []
numbers_told request _ = []

-- those that a receive gives, which brings this
abbrev pub numbers_received : Brought → Reply → List ℕ
numbers_received b (Reply.Received flags count bytes control from) = b.numbers
numbers_received b _ = []

-- The numbers that the call of process p gives it anew in state S, in order, where it answers this.
abbrev pub given : State → ℕ → Request → Reply → List ℕ
given S p (Request.RecvMsg fd n space flags) reply = numbers_received (brought S p (Request.RecvMsg fd n space flags)) reply
given S p request reply = numbers_told request reply

-- The entry, of a call that was made in state S, gave process p the number n anew; fork(2) gives a child each of its numbers.
abbrev pub gives : State → Entry → ℕ → ℕ → Bool
gives S e p n = makes p e.request e.reply || ((e.pid.0 == p) && list_any (λ m. m == n) (given S e.pid.0 e.request e.reply))

-- ---- by what

abbrev pub how_received : Option ℕ → Option How
how_received delivered = option_map (λ tag. How.Received tag) delivered

-- how a call gives numbers, which delivered rights of the message with this tag
abbrev pub how_of : Request → Option ℕ → Option How
how_of (Request.Open path mode flags) delivered = Some How.Made
how_of (Request.Create path mode flags) delivered = Some How.Made
how_of (Request.MemFd flags) delivered = Some How.Made
how_of (Request.EventFd value semaphore flags) delivered = Some How.Made
how_of (Request.Pipe flags) delivered = Some How.Made
how_of (Request.Socket kind flags) delivered = Some How.Made
how_of (Request.SocketPair kind flags) delivered = Some How.Made
how_of (Request.Accept fd flags) delivered = Some How.Made
how_of (Request.Dup fd) delivered = Some How.Dup
how_of (Request.Dup2 fd to) delivered = Some How.Dup
how_of (Request.DupFrom fd minimum) delivered = Some How.Dup
how_of (Request.RecvMsg fd n space flags) delivered = how_received delivered
how_of Request.Fork delivered = Some How.Forked
how_of _ delivered = None

-- the number that dup(2), dup2(2) or fcntl(2) copies
abbrev pub copied : Request → Option ℕ
copied (Request.Dup fd) = Some fd.0
copied (Request.Dup2 fd to) = Some fd.0
copied (Request.DupFrom fd minimum) = Some fd.0
copied _ = None

abbrev pub rights_in : Option Control → List ℕ
rights_in None = []
rights_in (Some control) = control.rights

-- the numbers that a send sends
abbrev pub sent_by : Request → List ℕ
sent_by (Request.SendMsg fd addr bytes control flags) = rights_in (control_in control)
sent_by _ = []

-- a receive, by the parts of its request
pub data IsReceive : Request → Type 0 where
  receive : (fd : Fd) (n space : ℕ) (flags : MsgFlags) → IsReceive (Request.RecvMsg fd n space flags)
