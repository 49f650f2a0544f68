-- Where the peer's queue has no room a write has to wait, and so has a plain send.
use Rattle.std.proofs.Common.{◌≡◌, ℕ, suc, ◌==◌, Bool, true, false, not, ◌&&◌, ◌||◌, if◌then◌else◌, List, [], length, Option, Some, None}
use Rattle.std.proofs.Common.{◌+◌, Ok, refl, ap, sym, ◌∙◌, subst, arith}
use Rattle.std.specs.Prelude.{nat_le, nat_lt}
use Rattle.std.proofs.lemmas.Bool.{not-true, leb-true, ltb-true, false_from_ne_true}
use Rattle.ux_model.specs.Types.{Errno, Fd, MsgFlags, Request, Reply}
use Rattle.ux_model.specs.Limits.{record_bytes_limit}
use Rattle.ux_model.specs.Flags.{are_send_flags}
use Rattle.ux_model.specs.Message.{Message}
use Rattle.ux_model.specs.Socket.{Socket, is_stream, is_dgram, peer_of}
use Rattle.ux_model.specs.Process.{own_cred}
use Rattle.ux_model.specs.State.{State}
use Rattle.ux_model.specs.Flight.{in_flight}
use Rattle.ux_model.specs.Outcome.{Outcome, refuse, find_socket}
use Rattle.ux_model.specs.Sending.{sending, message_of, flight_limit, is_over_limit, is_too_long, enqueue, send_to_peer, send_connected}
use Rattle.ux_model.specs.Sending.{send_stream, send_datagram, send_from, reading_control, send_msg}
use Rattle.ux_model.specs.Writing.{write}
use Rattle.ux_model.specs.Step.{Step, outcome}
use Rattle.ux_model.specs.Pedigree.{before}
use Rattle.ux_model.proofs.Pedigrees.Moments.{moment}
use Rattle.ux_laws.specs.Talking.{socket_through}
use Rattle.ux_laws.specs.Waits.{AwaitsRoom}
use Rattle.ux_laws.specs.Progress.{may_go, WritesWaitWhile, SendsWaitWhile}
use Rattle.ux_laws.proofs.Telling.{LeadsToSocket, socket_is_found, leads_to_socket, has_process, write_to_peer, chosen_refusal}
use Rattle.ux_laws.proofs.SendWaits.{enqueue_again, sends_wait, writes_wait}
use Rattle.ux_laws.proofs.OrderedSends.{not_over, message_in, ordered_send, plain_order}

-- bytes that may go are neither none nor too many
fits : (stream none few : Bool) (long : Bool) → (few ≡ true → long ≡ false) → (if stream then not none else few) ≡ true →
    ((not stream && long) ≡ false) × ((stream && none) ≡ false)
fits true none few long over h = (refl, not-true none h)
fits false none few long over h = (over h, refl)

pub to_full : (S : State) (limit : Option ℕ) (s : Socket) (m : Message) (a : AwaitsRoom S s) → may_go a.other.kind m.bytes ≡ true →
    is_over_limit S limit m ≡ false → send_to_peer S limit s.write_shut a.peer m ≡ refuse S Errno.EAGAIN
to_full S limit s m a goes few =
    ap (λ (o : Option Socket). elim o as (λ _. Outcome) [ None ↦ refuse S Errno.EPIPE | Some other ↦ by_other other s.write_shut ]) a.there
    ∙ ap (by_other a.other) a.writes
    ∙ ap (λ b. if b then refuse S Errno.EPIPE else if is_too_long a.other m then refuse S Errno.EMSGSIZE else queues) a.reads
    ∙ ap (λ b. if b then refuse S Errno.EMSGSIZE else queues) parts.0
    ∙ enqueue_again S limit a.peer a.other m (record { some = parts.1; few = few; full = a.full })
  where
    by_other : Socket → Bool → Outcome
    by_other other shut = if shut || other.read_shut then refuse S Errno.EPIPE else
        if is_too_long other m then refuse S Errno.EMSGSIZE else enqueue S limit a.peer other m

    queues : Outcome
    queues = enqueue S limit a.peer a.other m

    not_long : nat_le (length m.bytes) record_bytes_limit ≡ true → nat_lt record_bytes_limit (length m.bytes) ≡ false
    not_long h = false_from_ne_true (nat_lt record_bytes_limit (length m.bytes))
        (λ k.
        let most = leb-true (length m.bytes) record_bytes_limit h in
        let more = ltb-true record_bytes_limit (length m.bytes) k in
        omega (arith, most, more))

    parts : (is_too_long a.other m ≡ false) × ((is_stream a.other.kind && (length m.bytes == 0)) ≡ false)
    parts = fits (is_stream a.other.kind) (length m.bytes == 0) (nat_le (length m.bytes) record_bytes_limit)
        (nat_lt record_bytes_limit (length m.bytes)) not_long goes

-- what passes no right is over no limit
pub no_right_over : (S : State) (limit : Option ℕ) (m : Message) → m.rights ≡ [] → is_over_limit S limit m ≡ false
no_right_over S None m none = refl
no_right_over S (Some limit) m none = ap (λ (l : List ℕ). nat_lt 0 (length l) && nat_lt limit (in_flight S m.uid + length l)) none

-- through a connected socket it is a send to the peer
pub plain_to_peer : (S : State) (limit : Option ℕ) (d peer : ℕ) (s : Socket) (m : Message) → is_dgram s.kind ≡ false →
    peer_of s.phase ≡ Some peer →
    send_from S limit d s None m ≡ send_to_peer S limit s.write_shut peer m
plain_to_peer S limit d peer s m kind to =
    ap (λ b. if b then send_datagram S limit d s None m else send_stream S limit s.write_shut (peer_of s.phase) None m) kind
    ∙ ap (λ (o : Option ℕ). send_connected S limit s.write_shut o m) to

step_write_again : (S T : State) (p tag d : ℕ) (fd : Fd) (bytes : List ℕ) (s : Socket) (reply : Reply) (gone : List ℕ) →
    LeadsToSocket S p fd d s → is_dgram s.kind ≡ false → (a : AwaitsRoom S s) → may_go a.other.kind bytes ≡ true →
    Step S p tag (Request.Write fd bytes) reply gone T → reply ≡ Reply.Err Errno.EAGAIN
unfolding Step outcome
step_write_again S T p tag d fd bytes s reply gone l kind a goes step =
    let w = write_to_peer S p tag d a.peer fd bytes s l kind a.to in
    let m : Message = message_of (sending tag p w.0 None bytes) (own_cred p w.0) [] in
    chosen_refusal S step.0 (write S p tag fd bytes) Errno.EAGAIN reply
    (w.2 ∙ to_full S (flight_limit w.0) s m a goes (no_right_over S (flight_limit w.0) m refl)) step.1

step_send_again : (S T : State) (p tag d : ℕ) (fd : Fd) (bytes : List ℕ) (flags : MsgFlags) (s : Socket) (reply : Reply) (gone : List ℕ) →
    find_socket S p fd ≡ Ok (d, s) → are_send_flags flags ≡ true → is_dgram s.kind ≡ false → (a : AwaitsRoom S s) →
    may_go a.other.kind bytes ≡ true → Step S p tag (Request.SendMsg fd None bytes [] flags) reply gone T → reply ≡ Reply.Err Errno.EAGAIN
unfolding Step outcome
step_send_again S T p tag d fd bytes flags s reply gone found fine kind a goes step =
    let l = leads_to_socket S p d fd s found in
    let P = has_process S p fd l.entry l.description l.found in
    let o = plain_order S p s None bytes flags P.0 P.1 fine refl in
    let m : Message = message_in tag o in
    chosen_refusal S step.0 (send_msg S p tag fd None bytes [] flags) Errno.EAGAIN reply
    (ordered_send S p tag d fd None bytes [] flags s found o
    ∙ ap (reading_control []) (plain_to_peer S (flight_limit o.process) d a.peer s m kind a.to
    ∙ to_full S (flight_limit o.process) s m a goes (not_over S o.process m o.few_in_flight))) step.1

pub writes_wait_while : WritesWaitWhile
writes_wait_while boot es j d e fd bytes s legal at request through kind goes = (
  writes_wait boot es j d e fd bytes s legal at request through kind,
  λ a.
      let led : socket_through S e.pid.0 (Request.Write fd bytes) ≡ Some (d, s) = sym (ap (socket_through S e.pid.0) request) ∙ through in
      step_write_again S (before boot es (suc j)) e.pid.0 j d fd bytes s e.reply e.released
      (leads_to_socket S e.pid.0 d fd s (socket_is_found S e.pid.0 d fd s (Request.Write fd bytes) refl led)) kind a
      (goes a.peer a.other a.to a.there)
      (subst (λ (r : Request). Step S e.pid.0 j r e.reply e.released (before boot es (suc j))) request (moment boot es j e legal at).steps),
)
  where
    S : State
    S = before boot es j

pub sends_wait_while : SendsWaitWhile
sends_wait_while boot es j d e fd bytes flags s legal at request fine found kind goes = (
  sends_wait boot es j d e fd None bytes [] flags s legal at request found kind,
  λ a. step_send_again S (before boot es (suc j)) e.pid.0 j d fd bytes flags s e.reply e.released found fine kind a
      (goes a.peer a.other a.to a.there)
      (subst (λ (r : Request). Step S e.pid.0 j r e.reply e.released (before boot es (suc j))) request (moment boot es j e legal at).steps),
)
  where
    S : State
    S = before boot es j
