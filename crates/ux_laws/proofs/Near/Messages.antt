-- So do sends and receives.
use Rattle.std.proofs.Common.{◌≡◌, ℕ, ◌==◌, Bool, true, false, not, ◌&&◌, ◌||◌, if◌then◌else◌, cond, List}
use Rattle.std.proofs.Common.{length, Option, Some, None, refl, inl}
use Rattle.std.specs.Prelude.{nat_lt}
use Rattle.std.proofs.lemmas.Bool.{false≢true}
use Rattle.ux_model.specs.Types.{Errno, Fd, Cred, Addr, MsgFlags, Request}
use Rattle.ux_model.specs.Limits.{record_bytes_limit}
use Rattle.ux_model.specs.Flags.{asks_peek, are_receive_flags, are_send_flags}
use Rattle.ux_model.specs.Message.{Message}
use Rattle.ux_model.specs.Front.{Front, front_of}
use Rattle.ux_model.specs.Control.{Control}
use Rattle.ux_model.specs.ControlReading.{control_in}
use Rattle.ux_model.specs.Socket.{Socket, Phase, idle, listening, connected, associated, is_stream, is_dgram, peer_of}
use Rattle.ux_model.specs.Socket.{association_of, tied_socket, takes_from, has_room, sent, with_queue, with_reset}
use Rattle.ux_model.specs.Socket.{with_association}
use Rattle.ux_model.specs.Process.{Process}
use Rattle.ux_model.specs.State.{State, process_at, socket_at, table_of}
use Rattle.ux_model.specs.State.{with_socket_by}
use Rattle.ux_model.specs.Outcome.{Outcome, refuse}
use Rattle.ux_model.specs.Sending.{sending, message_of, flight_limit, is_over_limit, enqueue, is_too_long, send_connected, send_stream}
use Rattle.ux_model.specs.Sending.{send_from, is_sendable_addr, is_sendable_control, sender_cred_refusal, sent_cred, send_as, send_read}
use Rattle.ux_model.specs.Sending.{send_with, send_msg, descriptions_behind}
use Rattle.ux_model.proofs.Messages.Datagrams.{send_to_target, send_by_association, send_by}
use Rattle.ux_model.specs.Receiving.{Incoming, incoming, receive_front, receive, recv_msg}
use Rattle.ux_model.specs.Giving.{description_of}
use Rattle.ux_model.proofs.Changes.Walk.{either, maybe}
use Rattle.ux_model.proofs.Tables.MessageShows.{by_receive}
use Rattle.ux_laws.specs.Reach.{asked_addr, IsInReach, held, tied, named}
use Rattle.ux_laws.proofs.Doing.Naming.{by_addr}
use Rattle.ux_laws.proofs.Near.Single.{awaits_on, full_on, Near, near_socket, near_table, still}
use Rattle.ux_laws.proofs.Near.Leading.{by_own}

enqueue_near : (S : State) (p : ℕ) (request : Request) (limit : Option ℕ) (t : ℕ) (other : Socket) (m : Message) → IsInReach S p request t →
    Near S p request (enqueue S limit t other m).next
enqueue_near S p request limit t other m reach = either Q (is_stream other.kind && (length m.bytes == 0)) _ _ (λ b. still)
    (λ b. either Q (is_over_limit S limit m) _ _ (λ c. still)
    (λ c. either Q (not (has_room other)) _ _ (λ f. still)
    (λ f. near_socket S t (sent m) still (inl reach) (λ s. (λ h. h, λ elsewhere. refl, λ other h. h, λ set. refl, λ apart h. h, λ calm. refl)))))
  where
    Q : Outcome → Type 0
    Q o = Near S p request o.next

-- from a socket that a descriptor of its own leads to
pub from_near : (S : State) (p i : ℕ) (request : Request) (limit : Option ℕ) (d : ℕ) (s : Socket) (m : Message) →
    description_of S p i ≡ Some d → socket_at S d ≡ Some s → Near S p request (send_from S limit d s (asked_addr request) m).next
from_near S p i request limit d s m mine here = either Q (is_dgram s.kind) _ _
    (λ b. either Q (nat_lt record_bytes_limit (length m.bytes)) _ _ (λ c. still)
    (λ c. either Q s.write_shut _ _ (λ e. still) (λ e. by_address (asked_addr request) refl (record m { from = Some s.name }))))
    (λ b. stream (asked_addr request))
  where
    Q : Outcome → Type 0
    Q o = Near S p request o.next

    tied_to : (t : ℕ) → tied_socket s.phase ≡ Some t → IsInReach S p request t
    tied_to t is = tied i d s mine here is

    of_association : (phase : Phase) (t : ℕ) → association_of phase ≡ Some t → tied_socket phase ≡ Some t
    of_association idle t h = absurd (cc h)
    of_association (listening backlog cred) t h = absurd (cc h)
    of_association (connected peer) t h = absurd (cc h)
    of_association (associated old) t h = h

    of_peer : (phase : Phase) (t : ℕ) → peer_of phase ≡ Some t → tied_socket phase ≡ Some t
    of_peer idle t h = absurd (cc h)
    of_peer (listening backlog cred) t h = absurd (cc h)
    of_peer (connected peer) t h = h
    of_peer (associated old) t h = absurd (cc h)

    to_target : (t : ℕ) (target : Socket) (m : Message) → IsInReach S p request t →
        Near S p request (send_to_target S limit d t target m).next
    to_target t target m reach = either Q (not (takes_from d target.phase)) _ _ (λ b. still)
        (λ b. either Q target.read_shut _ _ (λ c. still) (λ c. enqueue_near S p request limit t target m reach))

    by_association : (target : Option ℕ) → association_of s.phase ≡ target → (m : Message) →
        Near S p request (send_by_association S limit d target m).next
    by_association None is m = still
    by_association (Some t) is m = maybe Q (socket_at S t) _ _
        (near_socket S d (with_association None) still (inl (held i mine))
        (λ s. (λ h. h, λ elsewhere. refl, λ other h. awaits_on None s.phase h, λ set. refl, λ apart h. full_on None s.phase h, λ calm. refl)))
        (λ target h. to_target t target m (tied_to t (of_association s.phase t is)))

    by_address : (addr : Option Addr) → asked_addr request ≡ addr → (m : Message) → Near S p request (send_by S limit d s addr m).next
    by_address None asked m = by_association (association_of s.phase) refl m
    by_address (Some a) asked m = by_addr Q S s.kind a _ (λ e. still)
        (λ t target is there. to_target t target m (named s.kind a target asked is))

    to_peer : (peer : Option ℕ) → peer_of s.phase ≡ peer → Near S p request (send_connected S limit s.write_shut peer m).next
    to_peer None is = still
    to_peer (Some t) is = maybe Q (socket_at S t) _ _ still
        (λ other h. either Q (s.write_shut || other.read_shut) _ _ (λ b. still) (λ b. either Q (is_too_long other m) _ _ (λ c. still)
        (λ c. enqueue_near S p request limit t other m (tied_to t (of_peer s.phase t is)))))

    stream : (addr : Option Addr) → Near S p request (send_stream S limit s.write_shut (peer_of s.phase) addr m).next
    stream None = to_peer (peer_of s.phase) refl
    stream (Some a) = still

pub send_near : (S : State) (p tag : ℕ) (fd : Fd) (addr : Option Addr) (bytes control : List ℕ) (flags : MsgFlags) →
    Near S p (Request.SendMsg fd addr bytes control flags) (send_msg S p tag fd addr bytes control flags).next
unfolding send_msg send_read send_with
send_near S p tag fd addr bytes control flags = maybe Q (process_at S p) _ _ still (λ P here. by_own Q S p request fd _ (λ e. still)
    (λ d s mine there. either Q (not (are_send_flags flags)) _ _ (λ b. still) (λ b. by_control P d s mine there (control_in control))))
  where
    request : Request
    request = Request.SendMsg fd addr bytes control flags

    Q : Outcome → Type 0
    Q o = Near S p (Request.SendMsg fd addr bytes control flags) o.next

    by_given : (P : Process) (d : ℕ) (s : Socket) → description_of S p fd.0 ≡ Some d → socket_at S d ≡ Some s →
        (given : Option Cred) (rights : List ℕ) → Q (send_as S (sending tag p P addr bytes) d s given rights)
    by_given P d s mine there given rights = go (sender_cred_refusal S p P given)
      where
        go : (o : Option Errno) → Q (elim o as (λ _. Outcome) [
          | Some e ↦ refuse S e
          | None ↦ if not (is_sendable_addr addr) then refuse S Errno.EINVAL
              else send_from S (flight_limit P) d s addr (message_of (sending tag p P addr bytes) (sent_cred p P given) rights)
        ])
        go (Some e) = still
        go None = either Q (not (is_sendable_addr addr)) _ _ (λ b. still)
            (λ b. from_near S p fd.0 request (flight_limit P) d s _ mine there)

    by_control : (P : Process) (d : ℕ) (s : Socket) → description_of S p fd.0 ≡ Some d → socket_at S d ≡ Some s → (o : Option Control) →
        Q (send_read S (sending tag p P addr bytes) d s o)
    by_control P d s mine there None = still
    by_control P d s mine there (Some c) = either Q (not (is_sendable_control s.kind bytes c)) _ _ (λ b. still)
        (λ b. maybe Q (descriptions_behind (table_of S p) c.rights) _ _ still (λ rights behind. by_given P d s mine there c.cred rights))

front_near : (S : State) (p d : ℕ) (request : Request) (s : Socket) (asked : Incoming) (front : Front) → IsInReach S p request d →
    Near S p request (receive_front S p d s asked front).next
unfolding receive_front
front_near S p d request s asked front reach = go (asks_peek asked.flags) _ (near_table S p _ still)
  where
    go : (b : Bool) (T : State) → Near S p request T → Near S p request (cond b T (with_socket_by T d (with_queue front.rest)))
    go true T near = near
    go false T near = near_socket T d (with_queue front.rest) near (inl reach)
        (λ s. (λ h. h, λ elsewhere. refl, λ other h. h, λ set. refl, λ apart h. h, λ calm. refl))

pub receive_near : (S : State) (p d : ℕ) (request : Request) (s : Socket) (asked : Incoming) → IsInReach S p request d →
    Near S p request (receive S p d s asked).next
receive_near S p d request s asked reach =
    by_receive (λ o. Near S p request o.next) S p d s asked
    (λ e. still) (near_socket S d (with_reset false) still (inl reach)
    (λ s. (λ h. absurd (false≢true h), λ elsewhere. refl, λ other h. h, λ set. refl, λ apart h. h, λ calm. refl))) (λ none. still)
    (λ m ms q. front_near S p d request s asked (front_of asked.n s m ms) reach)

pub recv_near : (S : State) (p : ℕ) (fd : Fd) (n space : ℕ) (flags : MsgFlags) →
    Near S p (Request.RecvMsg fd n space flags) (recv_msg S p fd n space flags).next
unfolding recv_msg
recv_near S p fd n space flags = by_own Q S p (Request.RecvMsg fd n space flags) fd _ (λ e. still)
    (λ d s mine there. either Q (not (are_receive_flags flags)) _ _ (λ b. still)
    (λ b. receive_near S p d (Request.RecvMsg fd n space flags) s (incoming n space flags) (held fd.0 mine)))
  where
    Q : Outcome → Type 0
    Q o = Near S p (Request.RecvMsg fd n space flags) o.next
