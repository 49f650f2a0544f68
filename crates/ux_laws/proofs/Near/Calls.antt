-- So does each call.
use Rattle.std.proofs.Common.{◌≡◌, ℕ, Bool, true, false, refl}
use Rattle.std.proofs.Common.{ap, sym, subst, []}
use Rattle.std.proofs.lemmas.Bool.{false≢true}
use Rattle.ux_model.specs.Types.{Request, Reply}
use Rattle.ux_model.specs.Object.{memory, counter}
use Rattle.ux_model.specs.State.{State}
use Rattle.ux_model.specs.Outcome.{Chosen, own, lacking_memory, failing}
use Rattle.ux_model.specs.Step.{outcome}
use Rattle.ux_model.specs.Asking.{asks}
use Rattle.ux_model.proofs.Steps.Calls.{each_obeys}
use Rattle.ux_model.proofs.Steps.Asking.{each_asks}
use Rattle.ux_laws.proofs.Near.Single.{Near, near_same, still}
use Rattle.ux_laws.proofs.Near.Descriptors.{dup_near, dup2_near, dup_from_near, flags_near, close_near, exit_near}
use Rattle.ux_laws.proofs.Near.Descriptors.{fork_near, exec_near, ids_near, off_near, open_near, socket_near, pair_near, unlink_near}
use Rattle.ux_laws.proofs.Near.Descriptors.{bind_near, listen_near, shutdown_near, connect_near}
use Rattle.ux_laws.proofs.Near.Descriptors.{accept_near, create_near, object_near, pipe_near}
use Rattle.ux_laws.proofs.Near.Options.{get_opt_near, set_opt_near}
use Rattle.ux_laws.proofs.Near.Messages.{send_near, recv_near}
use Rattle.ux_laws.proofs.Near.Files.{read_near, write_near, lseek_near}

-- those that don't only ask
act_near : (S : State) (p tag : ℕ) (request : Request) → asks request ≡ false → Near S p request (outcome S p tag request).next
unfolding outcome
act_near S p tag (Request.Open path mode flags) h = open_near S p path mode flags
act_near S p tag (Request.Create path mode flags) h = create_near S p path mode flags
act_near S p tag (Request.MemFd flags) h = object_near S p (Request.MemFd flags) _ (memory []) flags
act_near S p tag (Request.EventFd value semaphore flags) h = object_near S p (Request.EventFd value semaphore flags) _ (counter semaphore value) flags
act_near S p tag (Request.Pipe flags) h = pipe_near S p flags
act_near S p tag (Request.Read fd n) h = read_near S p fd n
act_near S p tag (Request.Write fd bytes) h = write_near S p tag fd bytes
act_near S p tag (Request.Lseek fd offset whence) h = lseek_near S p fd offset whence
act_near S p tag (Request.Dup fd) h = dup_near S p fd
act_near S p tag (Request.Dup2 fd to) h = dup2_near S p fd to
act_near S p tag (Request.DupFrom fd minimum) h = dup_from_near S p fd minimum
act_near S p tag (Request.SetFlags fd flags) h = flags_near S p fd flags
act_near S p tag (Request.Close fd) h = close_near S p fd
act_near S p tag (Request.Unlink path) h = unlink_near S p path
act_near S p tag (Request.Socket kind flags) h = socket_near S p kind flags
act_near S p tag (Request.SocketPair kind flags) h = pair_near S p kind flags
act_near S p tag (Request.Bind fd addr) h = bind_near S p fd addr
act_near S p tag (Request.Listen fd backlog) h = listen_near S p fd backlog
act_near S p tag (Request.Connect fd addr) h = connect_near S p fd addr
act_near S p tag (Request.Accept fd flags) h = accept_near S p fd flags
act_near S p tag (Request.Shutdown fd how) h = shutdown_near S p fd how
act_near S p tag (Request.GetOpt fd opt) h = get_opt_near S p fd opt
act_near S p tag (Request.SetOpt fd opt value) h = set_opt_near S p fd opt value
act_near S p tag (Request.SendMsg fd addr bytes control flags) h = send_near S p tag fd addr bytes control flags
act_near S p tag (Request.RecvMsg fd n space flags) h = recv_near S p fd n space flags
act_near S p tag (Request.SetIds uid gid) h = ids_near S p uid gid
act_near S p tag Request.Fork h = fork_near S p
act_near S p tag Request.Exec h = exec_near S p
act_near S p tag Request.Exit h = exit_near S p
act_near S p tag Request.Off h = off_near S p
act_near S p tag request h = absurd (false≢true (sym h))

each_near : (S : State) (p tag : ℕ) (request : Request) → Near S p request (outcome S p tag request).next
each_near S p tag request = go (asks request) refl
  where
    go : (b : Bool) → asks request ≡ b → Near S p request (outcome S p tag request).next
    go true h = subst (Near S p request) (sym (each_asks S p tag request h).next) still
    go false h = act_near S p tag request h

pub chosen_near : (S T : State) (p tag : ℕ) (request : Request) (reply : Reply) → Chosen S (outcome S p tag request) reply T →
    Near S p request T
chosen_near S T p tag request reply (own e f) = subst (Near S p request) (sym f) (each_near S p tag request)
chosen_near S T p tag request reply (lacking_memory e may f) = subst (Near S p request) (sym f) still
chosen_near S T p tag request reply (failing e f) =
    near_same (ap (λ (U : State). U.descriptions) ((each_obeys S p tag request).failed T f).0.left)
