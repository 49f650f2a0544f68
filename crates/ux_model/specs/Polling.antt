-- poll(2) of several descriptors, with or without waiting.
use Rattle.std.specs.Prelude.{ℕ, Bool, not, ◌&&◌, ◌==◌, if◌then◌else◌, length, map, nat_lt, None, Some}
use Rattle.std.specs.List.{list_any}
use Rattle.ux_model.specs.Types.{Errno, PollFd, PollFds, PollFlags, Revents, Reply}
use Rattle.ux_model.specs.Limits.{poll_limit}
use Rattle.ux_model.specs.Flags.{asks_input, asks_room, asks_end}
use Rattle.ux_model.specs.State.{State, description_at}
use Rattle.ux_model.specs.Outcome.{Outcome, answer, refuse, descriptor_at}
use Rattle.ux_model.specs.Readiness.{Conditions, poll_flags, not_open, readiness}

-- of these conditions: IN, OUT and RDHUP where they are asked for, HUP and ERR in any case
abbrev pub reported : PollFlags → Conditions → Conditions
reported events c = record {
  readable = asks_input events && c.readable;
  writable = asks_room events && c.writable;
  read_hung = asks_end events && c.read_hung;
  hung = c.hung;
  failed = c.failed;
}

-- of the description with this number
abbrev pub reported_at : State → ℕ → PollFlags → PollFlags
reported_at S d events = elim (description_at S d) [ None ↦ not_open | Some D ↦ poll_flags (reported events (readiness S d D)) ]

-- of a descriptor of process p: NVAL where the number isn't open
abbrev pub revents : State → ℕ → PollFd → PollFlags
revents S p asked = elim (descriptor_at S p asked.fd) [ None ↦ not_open | Some e ↦ reported_at S e.description asked.events ]

-- a condition is reported of one of them at least
abbrev pub some_ready : Revents → Bool
some_ready found = list_any (λ f. not (f.0 == 0)) found

-- Where nothing is reported, a poll that waits would wait, and another tells so.
abbrev pub tell_found : State → Bool → Revents → Outcome
tell_found S waits found = if waits && not (some_ready found) then refuse S Errno.EAGAIN else answer (Reply.Polled found) S

unfoldable pub poll_many : State → ℕ → PollFds → Bool → Outcome
poll_many S p fds waits =
    if nat_lt poll_limit (length fds) then refuse S Errno.EINVAL else tell_found S waits (map (revents S p) fds)
