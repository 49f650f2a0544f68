-- Which calls may wait (read(2), write(2), connect(2), accept(2), send(2), recv(2), poll(2); O_NONBLOCK, MSG_DONTWAIT).
use Rattle.std.specs.Prelude.{ℕ, Bool, true, false, not, ◌&&◌, Ok, Err}
use Rattle.ux_model.specs.Types.{Errno, Fd, Request, Reply}
use Rattle.ux_model.specs.Flags.{asks_dontwait}
use Rattle.ux_model.specs.State.{State}
use Rattle.ux_model.specs.Outcome.{find_description}

-- the number is open, and its description isn't non-blocking
abbrev pub is_blocking : State → ℕ → Fd → Bool
is_blocking S p fd = elim (find_description S p fd) [ Err e ↦ false | Ok found ↦ not found.1.nonblock ]

-- the call of process p may wait in this state
unfoldable pub may_wait : State → ℕ → Request → Bool
may_wait S p (Request.Read fd n) = is_blocking S p fd
may_wait S p (Request.Write fd bytes) = is_blocking S p fd
may_wait S p (Request.Connect fd addr) = is_blocking S p fd
may_wait S p (Request.Accept fd flags) = is_blocking S p fd
may_wait S p (Request.SendMsg fd addr bytes control flags) = is_blocking S p fd && not (asks_dontwait flags)
may_wait S p (Request.RecvMsg fd n space flags) = is_blocking S p fd && not (asks_dontwait flags)
may_wait S p (Request.PollMany fds waits) = waits
may_wait S p _ = false

abbrev pub is_again : Reply → Bool
is_again (Reply.Err Errno.EAGAIN) = true
is_again _ = false

-- a call that could not be done yet, and that may wait until it can be
abbrev pub should_wait : State → ℕ → Request → Reply → Bool
should_wait S p request reply = may_wait S p request && is_again reply
