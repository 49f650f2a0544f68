-- listen(2) where nothing is refused.
use Rattle.std.proofs.Common.{◌≡◌, ℕ, false, if◌then◌else◌, Option, Some, None, Ok, Err, ap, sym, ◌∙◌}
use Rattle.std.specs.Prelude.{ℤ, is_some, IsSomeAnd}
use Rattle.ux_model.specs.Types.{Errno, Fd, Cred, Reply}
use Rattle.ux_model.specs.Names.{is_unnamed_addr}
use Rattle.ux_model.specs.Backlog.{backlog_of}
use Rattle.ux_model.specs.Socket.{Socket, is_dgram, peer_of}
use Rattle.ux_model.specs.Process.{Process, own_cred}
use Rattle.ux_model.specs.State.{State, process_at, with_socket_by}
use Rattle.ux_model.specs.Outcome.{Outcome, refuse, answer, find_socket, on_socket}
use Rattle.ux_model.specs.Connecting.{with_listening, listen}

pub listened : (S : State) (p : ℕ) (fd : Fd) (backlog : ℤ) (d : ℕ) (s : Socket) (cred : Cred) → find_socket S p fd ≡ Ok (d, s) →
    is_dgram s.kind ≡ false → is_some (peer_of s.phase) ≡ false →
    is_unnamed_addr s.name ≡ false → IsSomeAnd (process_at S p) (λ P. cred ≡ own_cred p P) →
    listen S p fd backlog ≡ answer Reply.Ok (with_socket_by S d (with_listening (backlog_of backlog) cred))
unfolding listen
listened S p fd backlog d s cred found stream free named own = go (process_at S p) own
  where
    listens : Cred → Outcome
    listens c = answer Reply.Ok (with_socket_by S d (with_listening (backlog_of backlog) c))

    body : Process → ℕ → Socket → Outcome
    body P d s =
        if is_dgram s.kind then refuse S Errno.EOPNOTSUPP else
        if is_some (peer_of s.phase) then refuse S Errno.EINVAL else
        if is_unnamed_addr s.name then refuse S Errno.EDESTADDRREQ else
        answer Reply.Ok (with_socket_by S d (with_listening (backlog_of backlog) (own_cred p P)))

    go : (o : Option Process) → IsSomeAnd o (λ P. cred ≡ own_cred p P) →
        (elim o as (λ _. Outcome) [ None ↦ refuse S Errno.ESRCH | Some P ↦ on_socket S p fd (body P) ]) ≡ listens cred
    go None h = absurd h
    go (Some P) h =
        ap (λ r. elim r as (λ _. Outcome) [ Err e ↦ refuse S e | Ok f ↦ body P f.0 f.1 ]) found
        ∙ ap (λ b. if b then refuse S Errno.EOPNOTSUPP else if is_some (peer_of s.phase) then refuse S Errno.EINVAL
        else if is_unnamed_addr s.name then refuse S Errno.EDESTADDRREQ else listens (own_cred p P)) stream
        ∙ ap (λ b. if b then refuse S Errno.EINVAL else if is_unnamed_addr s.name then refuse S Errno.EDESTADDRREQ
        else listens (own_cred p P)) free
        ∙ ap (λ b. if b then refuse S Errno.EDESTADDRREQ else listens (own_cred p P)) named
        ∙ ap listens (sym h)
