-- Who a process runs as, and how it changes that (setresuid(2), setresgid(2), capabilities(7)).
-- Its real, its effective and its saved ids are one.
use Rattle.std.specs.Prelude.{ℕ, Bool, not, ◌&&◌, ◌||◌, ◌==◌, if◌then◌else◌}
use Rattle.ux_model.specs.Types.{Errno, Reply}
use Rattle.ux_model.specs.Process.{Process}
use Rattle.ux_model.specs.State.{State, with_process}
use Rattle.ux_model.specs.Outcome.{Outcome, refuse, answer, as_process}

-- the number of no user and of no group, (uid_t) -1
abbrev pub no_id : ℕ
no_id = 4294967295

-- a privileged process may take any ids, another keeps its own
abbrev pub may_become : ℕ → ℕ → Process → Bool
may_become uid gid P = P.privileged || ((P.uid == uid) && (P.gid == gid))

-- privileges go where user 0 becomes another
abbrev pub keeps_privileges : ℕ → Process → Bool
keeps_privileges uid P = P.privileged && ((uid == 0) || not (P.uid == 0))

abbrev pub with_ids : ℕ → ℕ → Process → Process
with_ids uid gid P = record P { uid = uid; gid = gid; privileged = keeps_privileges uid P }

unfoldable pub set_ids : State → ℕ → ℕ → ℕ → Outcome
set_ids S p uid gid = as_process S p (λ P.
    if (uid == no_id) || (gid == no_id) then refuse S Errno.EINVAL else
    if not (may_become uid gid P) then refuse S Errno.EPERM else
    answer Reply.Ok (with_process S p (with_ids uid gid P)))
