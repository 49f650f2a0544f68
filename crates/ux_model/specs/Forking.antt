-- A further process (fork(2)), and a new program in one (execve(2)).
use Rattle.std.specs.Prelude.{ℕ, false, nat_le, if◌then◌else◌, map, length}
use Rattle.ux_model.specs.Types.{Errno, Reply}
use Rattle.ux_model.specs.Limits.{made_limit}
use Rattle.ux_model.specs.Process.{Process, kept_on_exec, pid_of}
use Rattle.ux_model.specs.State.{State, next_process, with_table, with_child}
use Rattle.ux_model.specs.Outcome.{Outcome, refuse, answer, taking_memory, as_process}

-- The copy of a process: of the same user, with the same descriptors under the same numbers, also their own flags, and alive.
abbrev pub child_of : Process → Process
child_of P = record P { exited = false }

-- fork(2). The child has the next number, which no other process ever has; those that have exited count among the processes made.
unfoldable pub fork : State → ℕ → Outcome
fork S p = as_process S p (λ P.
    if nat_le made_limit (length S.processes) then refuse S Errno.EAGAIN else
    taking_memory (Reply.Child (pid_of (next_process S))) (with_child S (child_of P)))

-- execve(2), of which the layer sees the descriptors alone: those with their own flag are closed
unfoldable pub exec : State → ℕ → Outcome
exec S p = as_process S p (λ P. answer Reply.Ok (with_table S p (map kept_on_exec P.table)))
