-- That poll reports input and room exactly where a receive, and a send, needn't wait: each case of readiness beside the same case of
-- the call.
use Rattle.std.proofs.Common.{◌≡◌, ℕ, Bool, true, false, not, ◌&&◌, ◌||◌, ◌==◌, if◌then◌else◌, List, [], ◌∷◌, length, Option, Some, None}
use Rattle.std.proofs.Common.{Result, Ok, Err, refl, ap, sym, subst, arith}
use Rattle.std.specs.Prelude.{◌↔◌, IsTrue, is_some}
use Rattle.std.proofs.lemmas.Bool.{ne_eqb}
use Rattle.ux_model.specs.Types.{Errno, Cred, Addr, Reply}
use Rattle.ux_model.specs.Flags.{are_send_flags, are_receive_flags, no_flags}
use Rattle.ux_model.specs.Message.{Message, message}
use Rattle.ux_model.specs.Control.{Control}
use Rattle.ux_model.specs.ControlReading.{control_in, with_items}
use Rattle.ux_model.specs.Front.{front_of}
use Rattle.ux_model.specs.Socket.{Socket, is_stream, is_dgram, peer_of, association_of, takes_from, has_room, sent_part, sent, with_reset}
use Rattle.ux_model.specs.Socket.{with_association}
use Rattle.ux_model.specs.Process.{Process, own_cred}
use Rattle.ux_model.specs.State.{State, socket_at, process_at, with_socket_by}
use Rattle.ux_model.specs.Outcome.{Outcome, refuse, answer, taking_memory, find_socket}
use Rattle.ux_model.specs.Connecting.{listener_of}
use Rattle.ux_model.specs.Sending.{sending, flight_limit, is_over_limit, enqueue, is_too_long, send_connected, send_datagram, send_stream}
use Rattle.ux_model.specs.Sending.{send_from, send_with, send_read, reading_control, send_msg}
use Rattle.ux_model.proofs.Messages.Datagrams.{send_to_target, send_by_association}
use Rattle.ux_model.specs.Receiving.{incoming, nothing_received, receive_front, receive_connected, receive_from_peer, receive_datagram}
use Rattle.ux_model.specs.Receiving.{receive, recv_msg}
use Rattle.ux_model.specs.Readiness.{Conditions, by_peer, listener_conditions, stream_conditions, target_takes, sends_at_once}
use Rattle.ux_model.specs.Readiness.{datagram_conditions, socket_conditions}
use Rattle.ux_model.specs.Step.{outcome}
use Rattle.ux_model.specs.ReadyCalls.{moves_data, TellsInput, TellsRoom}

abbrev is_again : Reply → Bool
is_again (Reply.Err Errno.EAGAIN) = true
is_again _ = false

-- not ready exactly where this call would wait
abbrev Waits : Bool → Outcome → Type 0
Waits ready o = (ready ≡ false) ↔ (o.reply ≡ Reply.Err Errno.EAGAIN)

never : (r : Reply) → is_again r ≡ false → (true ≡ false) ↔ (r ≡ Reply.Err Errno.EAGAIN)
never r other = (λ h. absurd (cc h), λ h. let one : is_again r ≡ true = ap is_again h in absurd (cc (one, other)))

surely : (S : State) → Waits false (refuse S Errno.EAGAIN)
surely S = (λ h. refl, λ h. refl)

-- ---- receiving

front_never : (S : State) (p d : ℕ) (s : Socket) (m : Message) (ms : List Message) →
    Waits true (receive_front S p d s (incoming 1 0 no_flags) (front_of 1 s m ms))
unfolding receive_front
front_never S p d s m ms = never _ refl

waiting : (m : Message) (ms : List Message) → (length (m ∷ ms) == 0) ≡ false
waiting m ms = ne_eqb (length (m ∷ ms)) 0 (λ e. absurd (omega (arith, e)))

datagram_input : (S : State) (p d : ℕ) (s : Socket) (q : List Message) (shut : Bool) →
    Waits (not (length q == 0) || shut) (elim q as (λ _. Outcome) [
      | [] ↦ if shut then answer nothing_received S else refuse S Errno.EAGAIN
      | m ∷ ms ↦ receive_front S p d s (incoming 1 0 no_flags) (front_of 1 s m ms)
    ])
datagram_input S p d s [] true = never _ refl
datagram_input S p d s [] false = surely S
datagram_input S p d s (m ∷ ms) shut = rw (waiting m ms) (front_never S p d s m ms)

-- where a socket's peer is there, or gone: input is over then
connected_input : (S : State) (p d : ℕ) (s : Socket) (stream : Bool) (q : List Message) (reset over : Bool) →
    Waits (not (length q == 0) || reset || over) (
    if stream && (1 == 0) then answer nothing_received S else
    elim q as (λ _. Outcome) [
      | [] ↦
          if reset then answer (Reply.Err Errno.ECONNRESET) (with_socket_by S d (with_reset false)) else
          if over then answer nothing_received S else
          refuse S Errno.EAGAIN
      | m ∷ ms ↦ receive_front S p d s (incoming 1 0 no_flags) (front_of 1 s m ms)
    ])
connected_input S p d s true [] true over = never _ refl
connected_input S p d s true [] false true = never _ refl
connected_input S p d s true [] false false = surely S
connected_input S p d s true (m ∷ ms) reset over = rw (waiting m ms) (front_never S p d s m ms)
connected_input S p d s false [] true over = never _ refl
connected_input S p d s false [] false true = never _ refl
connected_input S p d s false [] false false = surely S
connected_input S p d s false (m ∷ ms) reset over = rw (waiting m ms) (front_never S p d s m ms)

lost_input : (S : State) (p d : ℕ) (s : Socket) (stream : Bool) (q : List Message) (reset : Bool) → Waits true (
    if stream && (1 == 0) then answer nothing_received S else
    elim q as (λ _. Outcome) [
      | [] ↦ if reset then answer (Reply.Err Errno.ECONNRESET) (with_socket_by S d (with_reset false)) else answer nothing_received S
      | m ∷ ms ↦ receive_front S p d s (incoming 1 0 no_flags) (front_of 1 s m ms)
    ])
lost_input S p d s true [] true = never _ refl
lost_input S p d s true [] false = never _ refl
lost_input S p d s true (m ∷ ms) reset = front_never S p d s m ms
lost_input S p d s false [] true = never _ refl
lost_input S p d s false [] false = never _ refl
lost_input S p d s false (m ∷ ms) reset = front_never S p d s m ms

peer_input : (S : State) (p d : ℕ) (s : Socket) (o : Option Socket) → Waits (by_peer s o).readable (
    if is_stream s.kind && (1 == 0) then answer nothing_received S else
    elim s.queue as (λ _. Outcome) [
      | [] ↦
          if s.reset then answer (Reply.Err Errno.ECONNRESET) (with_socket_by S d (with_reset false)) else
          if (elim o as (λ _. Bool) [ None ↦ true | Some other ↦ s.read_shut || other.write_shut ]) then answer nothing_received S else
          refuse S Errno.EAGAIN
      | m ∷ ms ↦ receive_front S p d s (incoming 1 0 no_flags) (front_of 1 s m ms)
    ])
peer_input S p d s None = lost_input S p d s (is_stream s.kind) s.queue s.reset
peer_input S p d s (Some other) = connected_input S p d s (is_stream s.kind) s.queue s.reset (s.read_shut || other.write_shut)

socket_input : (S : State) (p d : ℕ) (s : Socket) → moves_data s ≡ true →
    Waits (socket_conditions S d s).readable (receive S p d s (incoming 1 0 no_flags))
unfolding socket_conditions
socket_input S p d s h = by_kind (is_dgram s.kind) h
  where
    by_tie : (o : Option ℕ) → is_some o ≡ true →
        Waits (elim o as (λ _. Conditions) [
          | None ↦ listener_conditions (listener_of s.phase)
          | Some peer ↦ by_peer s (socket_at S peer)
        ]).readable
        (elim o as (λ _. Outcome) [ None ↦ refuse S Errno.ENOTCONN | Some peer ↦ receive_connected S p d s peer (incoming 1 0 no_flags) ])
    by_tie None h = absurd (cc h)
    by_tie (Some peer) h = peer_input S p d s (socket_at S peer)

    by_kind : (b : Bool) → (b || is_some (peer_of s.phase)) ≡ true →
        Waits (if b then datagram_conditions S d s else stream_conditions S s).readable
        (if b then receive_datagram S p d s (incoming 1 0 no_flags) else receive_from_peer S p d s (incoming 1 0 no_flags))
    by_kind true h = datagram_input S p d s s.queue s.read_shut
    by_kind false h = by_tie (peer_of s.phase) h

pub tells_input : TellsInput
unfolding outcome recv_msg
tells_input S p tag fd d s found h = subst
    (λ (r : Result (ℕ × Socket) Errno). Waits (socket_conditions S d s).readable (elim r as (λ _. Outcome) [
      | Err e ↦ refuse S e
      | Ok f ↦ if not (are_receive_flags no_flags) then refuse S Errno.EINVAL else receive S p f.0 f.1 (incoming 1 0 no_flags)
    ])) (sym found) (socket_input S p d s h)

-- ---- sending

-- a queue that has room takes some bytes
enqueue_room : (S : State) (limit : Option ℕ) (d : ℕ) (other : Socket) (m : Message) → (length m.bytes == 0) ≡ false →
    is_over_limit S limit m ≡ false →
    Waits (has_room other) (enqueue S limit d other m)
enqueue_room S limit d other m some few = rw few (go (is_stream other.kind) (length m.bytes == 0) (has_room other) some)
  where
    go : (stream none room : Bool) → none ≡ false → Waits room (
        if stream && none then answer (Reply.Count 0) S else
        if not room then refuse S Errno.EAGAIN else
        taking_memory (Reply.Count (length (sent_part other m).bytes)) (with_socket_by S d (sent m)))
    go stream true room h = absurd (cc h)
    go true false true h = never _ refl
    go true false false h = surely S
    go false false true h = never _ refl
    go false false false h = surely S

-- a peer that is there
peer_room : (S : State) (room shut read_shut record_like : Bool) (o : Outcome) → Waits room o → Waits (room || shut || read_shut) (
    if shut || read_shut then refuse S Errno.EPIPE else
    if record_like && false then refuse S Errno.EMSGSIZE else
    o)
peer_room S true true r k o w = never _ refl
peer_room S true false true k o w = never _ refl
peer_room S true false false true o w = w
peer_room S true false false false o w = w
peer_room S false true r k o w = never _ refl
peer_room S false false true k o w = never _ refl
peer_room S false false false true o w = w
peer_room S false false false false o w = w

-- a target that is there
target_room : (S : State) (shut takes read_shut room : Bool) (o : Outcome) → Waits room o → Waits (shut || not takes || read_shut || room) (
    if shut then refuse S Errno.EPIPE else
    if not takes then refuse S Errno.EPERM else
    if read_shut then refuse S Errno.EPIPE else
    o)
target_room S true t r room o w = never _ refl
target_room S false false r room o w = never _ refl
target_room S false true true room o w = never _ refl
target_room S false true false room o w = w

-- none, or one that is gone
refused_room : (S : State) (shut : Bool) (o : Outcome) → is_again o.reply ≡ false → Waits true (if shut then refuse S Errno.EPIPE else o)
refused_room S true o h = never _ refl
refused_room S false o h = never _ h

-- one byte, without a sender's name or with one
abbrev byte_message : ℕ → ℕ → Cred → ℕ → Option Addr → Message
byte_message tag byte cred uid from = message tag (byte ∷ []) [] cred uid from

-- it passes nothing, so it is over no limit
none_over : (S : State) (limit : Option ℕ) (tag byte : ℕ) (cred : Cred) (uid : ℕ) (from : Option Addr) →
    is_over_limit S limit (byte_message tag byte cred uid from) ≡ false
none_over S None tag byte cred uid from = refl
none_over S (Some limit) tag byte cred uid from = refl

by_association_room : (S : State) (limit : Option ℕ) (d : ℕ) (s : Socket) (tag byte : ℕ) (cred : Cred) (uid : ℕ) →
    Waits (sends_at_once S d s)
    (if s.write_shut then refuse S Errno.EPIPE
    else send_by_association S limit d (association_of s.phase) (byte_message tag byte cred uid (Some s.name)))
by_association_room S limit d s tag byte cred uid = by_tie (association_of s.phase)
  where
    m : Message
    m = byte_message tag byte cred uid (Some s.name)

    by_socket : (t : ℕ) (o : Option Socket) →
        Waits (target_takes d s o) (if s.write_shut then refuse S Errno.EPIPE else elim o as (λ _. Outcome) [
          | None ↦ answer (Reply.Err Errno.ECONNREFUSED) (with_socket_by S d (with_association None))
          | Some target ↦ send_to_target S limit d t target m
        ])
    by_socket t None = refused_room S s.write_shut _ refl
    by_socket t (Some target) = target_room S s.write_shut (takes_from d target.phase) target.read_shut (has_room target)
        (enqueue S limit t target m) (enqueue_room S limit t target m refl (none_over S limit tag byte cred uid (Some s.name)))

    by_tie : (o : Option ℕ) → Waits (elim o as (λ _. Bool) [ None ↦ true | Some t ↦ target_takes d s (socket_at S t) ])
        (if s.write_shut then refuse S Errno.EPIPE else send_by_association S limit d o m)
    by_tie None = refused_room S s.write_shut _ refl
    by_tie (Some t) = by_socket t (socket_at S t)

by_peer_room : (S : State) (limit : Option ℕ) (s : Socket) (tag byte : ℕ) (cred : Cred) (uid : ℕ) → is_some (peer_of s.phase) ≡ true →
    Waits (stream_conditions S s).writable
    (send_connected S limit s.write_shut (peer_of s.phase) (byte_message tag byte cred uid None))
by_peer_room S limit s tag byte cred uid h = by_tie (peer_of s.phase) h
  where
    m : Message
    m = byte_message tag byte cred uid None

    by_socket : (peer : ℕ) (o : Option Socket) → Waits (by_peer s o).writable (elim o as (λ _. Outcome) [
      | None ↦ refuse S Errno.EPIPE
      | Some other ↦
          if s.write_shut || other.read_shut then refuse S Errno.EPIPE else
          if is_too_long other m then refuse S Errno.EMSGSIZE else
          enqueue S limit peer other m
    ])
    by_socket peer None = never _ refl
    by_socket peer (Some other) = peer_room S (has_room other) s.write_shut other.read_shut (not (is_stream other.kind))
        (enqueue S limit peer other m) (enqueue_room S limit peer other m refl (none_over S limit tag byte cred uid None))

    by_tie : (o : Option ℕ) → is_some o ≡ true →
        Waits (elim o as (λ _. Conditions) [
          | None ↦ listener_conditions (listener_of s.phase)
          | Some peer ↦ by_peer s (socket_at S peer)
        ]).writable (send_connected S limit s.write_shut o m)
    by_tie None h = absurd (cc h)
    by_tie (Some peer) h = by_socket peer (socket_at S peer)

from_room : (S : State) (limit : Option ℕ) (d : ℕ) (s : Socket) (tag byte : ℕ) (cred : Cred) (uid : ℕ) → moves_data s ≡ true →
    Waits (socket_conditions S d s).writable
    (send_from S limit d s None (byte_message tag byte cred uid None))
unfolding socket_conditions
from_room S limit d s tag byte cred uid h = by_kind (is_dgram s.kind) h
  where
    by_kind : (b : Bool) → (b || is_some (peer_of s.phase)) ≡ true →
        Waits (if b then datagram_conditions S d s else stream_conditions S s).writable
        (if b then send_datagram S limit d s None (byte_message tag byte cred uid None)
        else send_stream S limit s.write_shut (peer_of s.phase) None (byte_message tag byte cred uid None))
    by_kind true h = by_association_room S limit d s tag byte cred uid
    by_kind false h = by_peer_room S limit s tag byte cred uid h

-- a control buffer without rights goes with any bytes
past : {ready : Bool} (stream : Bool) (S : State) (o : Outcome) → Waits ready o →
    Waits ready (if not (true && not (stream && false)) then refuse S Errno.EINVAL else o)
past true S o w = w
past false S o w = w

with_room : (S : State) (p : ℕ) (P : Process) (tag byte d : ℕ) (s : Socket) → moves_data s ≡ true → Waits (socket_conditions S d s).writable
    (send_with S (sending tag p P None (byte ∷ [])) d s (record { cred = None; rights = [] }))
unfolding send_with
with_room S p P tag byte d s h = past (is_stream s.kind) S _ (from_room S (flight_limit P) d s tag byte (own_cred p P) P.uid h)

pub tells_room : TellsRoom
unfolding outcome send_msg send_read control_in with_items
tells_room S p tag fd byte d s live found h = by_process (process_at S p) live
  where
    nothing : Control
    nothing = record { cred = None; rights = [] }

    by_socket : Process → Result (ℕ × Socket) Errno → Outcome
    by_socket P r = elim r as (λ _. Outcome) [
      | Err e ↦ refuse S e
      | Ok f ↦ if not (are_send_flags no_flags) then refuse S Errno.EINVAL
          else reading_control [] (send_with S (sending tag p P None (byte ∷ [])) f.0 f.1 nothing)
    ]

    by_process : (o : Option Process) → IsTrue (elim o as (λ _. Bool) [ Some P ↦ not P.exited | None ↦ false ]) →
        Waits (socket_conditions S d s).writable (elim o as (λ _. Outcome) [
          | None ↦ refuse S Errno.ESRCH
          | Some P ↦ by_socket P (find_socket S p fd)
        ])
    by_process None live = absurd (cc live)
    by_process (Some P) live = subst (λ r. Waits (socket_conditions S d s).writable (by_socket P r)) (sym found)
        (with_room S p P tag byte d s h)
