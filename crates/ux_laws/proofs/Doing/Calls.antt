-- What each call does.
use Rattle.std.proofs.Common.{◌≡◌, ℕ, Bool, true, false, List, None}
use Rattle.std.proofs.Common.{refl, ap, sym, subst, []}
use Rattle.std.proofs.lemmas.Bool.{false≢true}
use Rattle.ux_model.specs.Types.{Errno, Request, Reply}
use Rattle.ux_model.specs.Object.{memory, counter}
use Rattle.ux_model.specs.State.{State}
use Rattle.ux_model.specs.Outcome.{Outcome, Chosen, own, lacking_memory, failing}
use Rattle.ux_model.specs.Release.{settled}
use Rattle.ux_model.specs.Step.{Step, outcome}
use Rattle.ux_model.specs.Asking.{asks}
use Rattle.ux_model.proofs.Changes.Reaching.{may_change}
use Rattle.ux_model.proofs.Changes.Obeying.{Obeys}
use Rattle.ux_model.proofs.Steps.Calls.{each_obeys}
use Rattle.ux_model.proofs.Steps.Asking.{each_asks}
use Rattle.ux_laws.specs.Talking.{socket_through}
use Rattle.ux_laws.proofs.Parts.{kept_same, kept_shrinks}
use Rattle.ux_laws.proofs.Parts.{Shrinks, settled_shrinks}
use Rattle.ux_laws.proofs.Acts.{Did, quiet, at_no_socket}
use Rattle.ux_laws.proofs.Acts.{did_after}
use Rattle.ux_laws.proofs.Doing.Outcomes.{refuses, answers}
use Rattle.ux_laws.proofs.Doing.Descriptors.{dup_did, dup2_did, dup_from_did, flags_did, close_did, exit_did, fork_did}
use Rattle.ux_laws.proofs.Doing.Descriptors.{exec_did, ids_did, off_did, open_did, socket_did, pair_did, create_did, object_did, pipe_did}
use Rattle.ux_laws.proofs.Doing.Naming.{unlink_did, bind_did, listen_did, shutdown_did, connect_did}
use Rattle.ux_laws.proofs.Doing.Naming.{accept_did, get_opt_did, set_opt_did}
use Rattle.ux_laws.proofs.Doing.Sending.{send_did}
use Rattle.ux_laws.proofs.Doing.Receiving.{recv_did}
use Rattle.ux_laws.proofs.Doing.Files.{read_did, write_did, lseek_did}

-- those that don't only ask
act_did : (S : State) (p tag : ℕ) (request : Request) → asks request ≡ false →
    Did S p tag request (outcome S p tag request).reply (outcome S p tag request).next
unfolding outcome
act_did S p tag (Request.Open path mode flags) h = open_did S p tag path mode flags
act_did S p tag (Request.Create path mode flags) h = create_did S p tag path mode flags
act_did S p tag (Request.MemFd flags) h = object_did S p tag (Request.MemFd flags) _ (memory []) flags refl
act_did S p tag (Request.EventFd value semaphore flags) h = object_did S p tag (Request.EventFd value semaphore flags) _ (counter semaphore value) flags refl
act_did S p tag (Request.Pipe flags) h = pipe_did S p tag flags
act_did S p tag (Request.Read fd n) h = read_did S p tag fd n
act_did S p tag (Request.Write fd bytes) h = write_did S p tag fd bytes
act_did S p tag (Request.Lseek fd offset whence) h = lseek_did S p tag fd offset whence
act_did S p tag (Request.Dup fd) h = dup_did S p tag fd
act_did S p tag (Request.Dup2 fd to) h = dup2_did S p tag fd to
act_did S p tag (Request.DupFrom fd minimum) h = dup_from_did S p tag fd minimum
act_did S p tag (Request.SetFlags fd flags) h = flags_did S p tag fd flags
act_did S p tag (Request.Close fd) h = close_did S p tag fd
act_did S p tag (Request.Unlink path) h = unlink_did S p tag path
act_did S p tag (Request.Socket kind flags) h = socket_did S p tag kind flags
act_did S p tag (Request.SocketPair kind flags) h = pair_did S p tag kind flags
act_did S p tag (Request.Bind fd addr) h = bind_did S p tag fd addr
act_did S p tag (Request.Listen fd backlog) h = listen_did S p tag fd backlog
act_did S p tag (Request.Connect fd addr) h = connect_did S p tag fd addr
act_did S p tag (Request.Accept fd flags) h = accept_did S p tag fd flags
act_did S p tag (Request.Shutdown fd how) h = shutdown_did S p tag fd how
act_did S p tag (Request.GetOpt fd opt) h = get_opt_did S p tag fd opt
act_did S p tag (Request.SetOpt fd opt value) h = set_opt_did S p tag fd opt value
act_did S p tag (Request.SendMsg fd addr bytes control flags) h = send_did S p tag fd addr bytes control flags
act_did S p tag (Request.RecvMsg fd n space flags) h = recv_did S p tag fd n space flags
act_did S p tag (Request.SetIds uid gid) h = ids_did S p tag uid gid
act_did S p tag Request.Fork h = fork_did S p tag
act_did S p tag Request.Exec h = exec_did S p tag
act_did S p tag Request.Exit h = exit_did S p tag
act_did S p tag Request.Off h = off_did S p tag
act_did S p tag request h = absurd (false≢true (sym h))

-- what asks goes through no socket
asks_nowhere : (S : State) (p : ℕ) (request : Request) → asks request ≡ true → socket_through S p request ≡ None
asks_nowhere S p (Request.GetFlags fd) h = refl
asks_nowhere S p (Request.InQueue fd) h = refl
asks_nowhere S p (Request.OutQueue fd) h = refl
asks_nowhere S p (Request.GetSockName fd) h = refl
asks_nowhere S p (Request.GetPeerName fd) h = refl
asks_nowhere S p (Request.Poll fd) h = refl
asks_nowhere S p (Request.PollMany fds waits) h = refl
asks_nowhere S p request h = absurd (false≢true h)

each_did : (S : State) (p tag : ℕ) (request : Request) → Did S p tag request (outcome S p tag request).reply (outcome S p tag request).next
each_did S p tag request = go (asks request) refl
  where
    go : (b : Bool) → asks request ≡ b → Did S p tag request (outcome S p tag request).reply (outcome S p tag request).next
    go true h = quiet
        (kept_shrinks (kept_same S (outcome S p tag request).next (ap (λ (U : State). U.descriptions) (each_asks S p tag request h).next)))
        (at_no_socket (asks_nowhere S p request h))
    go false h = act_did S p tag request h

chosen_did : (S T : State) (p tag : ℕ) (request : Request) (reply : Reply) (o : Outcome) → Did S p tag request o.reply o.next →
    Obeys S (may_change request) o → Chosen S o reply T → Did S p tag request reply T
chosen_did S T p tag request reply o did obeys (own e f) =
    subst (λ (r : Reply). Did S p tag request r T) (sym e) (subst (λ (U : State). Did S p tag request o.reply U) (sym f) did)
chosen_did S T p tag request reply o did obeys (lacking_memory e may f) =
    subst (λ (r : Reply). Did S p tag request r T) (sym e)
    (subst (λ (U : State). Did S p tag request (Reply.Err Errno.ENOMEM) U) (sym f) refuses)
chosen_did S T p tag request reply o did obeys (failing e f) =
    let one = (obeys.failed T f).0 in
    subst (λ (r : Reply). Did S p tag request r T) (sym e) (answers refl (kept_same S T (ap (λ (U : State). U.descriptions) one.left)))

-- what a step's call leaves, before anything goes
pub step_between : (S T : State) (p tag : ℕ) (request : Request) (reply : Reply) (gone : List ℕ) → Step S p tag request reply gone T →
    (U : State) × Chosen S (outcome S p tag request) reply U × Did S p tag request reply U × (T ≡ settled U)
unfolding Step
step_between S T p tag request reply gone s = (
  s.0,
  s.1,
  chosen_did S s.0 p tag request reply (outcome S p tag request) (each_did S p tag request) (each_obeys S p tag request) s.1,
  s.3,
)

pub step_did : (S T : State) (p tag : ℕ) (request : Request) (reply : Reply) (gone : List ℕ) → Step S p tag request reply gone T →
    Did S p tag request reply T
unfolding Step
step_did S T p tag request reply gone s =
    let did = chosen_did S s.0 p tag request reply (outcome S p tag request) (each_did S p tag request) (each_obeys S p tag request) s.1 in
    did_after S s.0 T p tag request reply did (subst (λ (U : State). Shrinks s.0 U) (sym s.3) (settled_shrinks s.0))
