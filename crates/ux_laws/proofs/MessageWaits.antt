-- A send of a datagram, or with a control buffer, has to wait exactly where it is in order and the queue has no room.
use Rattle.std.proofs.Common.{◌≡◌, ◌≢◌, ℕ, suc, ◌≤◌, ◌==◌, Bool, true, false, not, ◌&&◌, if◌then◌else◌, List, [], length, take}
use Rattle.std.proofs.Common.{Option, Some, None, Result, Ok, Err, refl, ap, sym, ◌∙◌, subst}
use Rattle.std.specs.Prelude.{nat_lt}
use Rattle.std.proofs.lemmas.Bool.{not-false, ltb-false, le-ltb, false≢true}
use Rattle.ux_model.specs.Types.{Errno, Fd, Addr, SockType, MsgFlags, Request, Reply, Entry}
use Rattle.ux_model.specs.Flags.{are_send_flags}
use Rattle.ux_model.specs.Limits.{record_bytes_limit}
use Rattle.ux_model.specs.Message.{Message}
use Rattle.ux_model.specs.Control.{Control}
use Rattle.ux_model.specs.ControlReading.{control_in}
use Rattle.ux_model.specs.Socket.{Socket, is_stream, is_dgram, peer_of, association_of, takes_from, with_association}
use Rattle.ux_model.specs.Process.{Process, own_cred}
use Rattle.ux_model.specs.State.{State, process_at, socket_at, table_of, with_socket_by}
use Rattle.ux_model.specs.Outcome.{Outcome, Chosen, own, lacking_memory, failing, refuse, answer, find_socket}
use Rattle.ux_model.specs.Binding.{same_kind, look_up}
use Rattle.ux_model.specs.Sending.{sending, message_of, flight_limit, is_over_limit, enqueue, on_target, send_datagram, send_stream}
use Rattle.ux_model.specs.Sending.{send_from, is_sendable_addr, is_sendable_control, sender_cred_refusal, sent_cred, send_read}
use Rattle.ux_model.specs.Sending.{descriptions_behind, send_with, reading_control, send_msg}
use Rattle.ux_model.specs.Step.{Step, outcome}
use Rattle.ux_model.specs.Writing.{write}
use Rattle.ux_model.specs.History.{IsLegal}
use Rattle.ux_model.specs.Pedigree.{before}
use Rattle.ux_model.proofs.Changes.Walk.{either, maybe}
use Rattle.ux_model.proofs.Lists.Fronts.{front_is_legal}
use Rattle.ux_model.proofs.Pedigrees.Moments.{moment}
use Rattle.ux_model.proofs.Tables.Shows.{socket_found}
use Rattle.ux_laws.specs.Talking.{if_found, socket_through, named_target}
use Rattle.ux_laws.specs.MessageWaits.{AwaitsTarget, DatagramsWaitWhile, DatagramWritesWaitWhile, IsInOrder, FindsFull, at_peer, at_target}
use Rattle.ux_laws.specs.MessageWaits.{MessagesWaitWhile}
use Rattle.ux_laws.proofs.Doing.Naming.{look_up_there, dgrams_too}
use Rattle.ux_laws.proofs.Associations.{WithDatagrams, with_datagrams}
use Rattle.ux_laws.proofs.Telling.{LeadsToSocket, socket_is_found, leads_to_socket, has_process, write_from, chosen_refusal}
use Rattle.ux_laws.proofs.WaitEnds.{chosen_again}
use Rattle.ux_laws.proofs.SendWaits.{enqueue_full, enqueue_again, from_waits, given_no_wait, at_found}
use Rattle.ux_laws.proofs.ConnectWaits.{nowhere_no_wait}
use Rattle.ux_laws.proofs.OrderedSends.{is_under, not_over, message_in, ordered_send, plain_order}
use Rattle.ux_laws.proofs.Rooms.{to_full, no_right_over, plain_to_peer}
use Rattle.ux_laws.proofs.Wakes.{both_are}

-- ---- where datagrams go

no_stream : (kind : SockType) → is_dgram kind ≡ true → is_stream kind ≡ false
no_stream SockType.Stream h = absurd (false≢true h)
no_stream SockType.Dgram h = refl
no_stream SockType.Seq h = refl

-- the target of a name or of the association
record Reaches (S : State) (d : ℕ) (s : Socket) (addr : Option Addr) (number : ℕ) (target : Socket) : Type 0 where
  datagrams : is_dgram target.kind ≡ true
  on : (rest : ℕ → Socket → Outcome) → on_target S d s addr rest ≡ rest number target

reaches : (S : State) (d : ℕ) (s : Socket) (addr : Option Addr) (number : ℕ) (target : Socket) → WithDatagrams S s →
    is_dgram s.kind ≡ true →
    named_target S s addr ≡ Some number → socket_at S number ≡ Some target → Reaches S d s addr number target
reaches S d s None number target associates kind to there = record {
  datagrams = associates number target to there;
  on = λ rest. ap (λ (o : Option ℕ). elim o as (λ _. Outcome) [
    | None ↦ refuse S Errno.EDESTADDRREQ
    | Some t ↦ elim (socket_at S t) as (λ _. Outcome) [
      | None ↦ answer (Reply.Err Errno.ECONNREFUSED) (with_socket_by S d (with_association None))
      | Some u ↦ rest t u
    ]
  ]) to
      ∙ ap (λ (o : Option Socket). elim o as (λ _. Outcome) [
        | None ↦ answer (Reply.Err Errno.ECONNREFUSED) (with_socket_by S d (with_association None))
        | Some u ↦ rest number u
      ]) there;
}
reaches S d s (Some addr) number target associates kind to there = by_look_up (look_up S s.kind addr) refl to
  where
    by_look_up : (r : Result (ℕ × Socket) Errno) → look_up S s.kind addr ≡ r →
        (elim (if_found r) as (λ _. Option ℕ) [ None ↦ None | Some found ↦ Some found.0 ]) ≡ Some number →
        Reaches S d s (Some addr) number target
    by_look_up (Err e) is h = absurd (cc h)
    by_look_up (Ok w) is h =
        let at : w.0 ≡ number = cc h in
        let found = look_up_there S s.kind addr w.0 w.1 is in
        let one : w.1 ≡ target = both_are found.0 (ap (λ (i : ℕ). socket_at S i) at ∙ there) in
        record {
          datagrams = dgrams_too s.kind target.kind (sym (ap (λ (u : Socket). same_kind s.kind u.kind) one) ∙ found.1) kind;
          on = λ rest. ap (λ (r : Result (ℕ × Socket) Errno). elim r as (λ _. Outcome) [ Err e ↦ refuse S e | Ok x ↦ rest x.0 x.1 ]) is
              ∙ ap (λ (i : ℕ). rest i w.1) at ∙ ap (λ (u : Socket). rest number u) one;
        }

-- ---- a datagram

over_alike : (S : State) (limit : Option ℕ) (m : Message) (from : Option Addr) →
    is_over_limit S limit (record m { from = from }) ≡ is_over_limit S limit m
over_alike S None m from = refl
over_alike S (Some limit) m from = refl

-- what a datagram that has to wait finds
record TargetIsFull (S : State) (limit : Option ℕ) (d : ℕ) (s : Socket) (addr : Option Addr) (m : Message) : Type 0 where
  awaits : AwaitsTarget S d s addr
  short : length m.bytes ≤ record_bytes_limit
  few : is_over_limit S limit m ≡ false

datagram_waits : (S : State) (limit : Option ℕ) (d : ℕ) (s : Socket) (addr : Option Addr) (m : Message) →
    (send_datagram S limit d s addr m).reply ≡ Reply.Err Errno.EAGAIN → TargetIsFull S limit d s addr m
datagram_waits S limit d s addr m = either Q (nat_lt record_bytes_limit (length m.bytes)) _ _ (λ b h. absurd (cc h))
    (λ short. either Q s.write_shut _ _ (λ b h. absurd (cc h)) (λ unshut. by_addr addr refl short unshut))
  where
    Q : Outcome → Type 0
    Q o = o.reply ≡ Reply.Err Errno.EAGAIN → TargetIsFull S limit d s addr m

    named : Message
    named = record m { from = Some s.name }

    rest : ℕ → Socket → Outcome
    rest t target = if not (takes_from d target.phase) then refuse S Errno.EPERM else if target.read_shut then refuse S Errno.EPIPE
        else enqueue S limit t target named

    to_one : (t : ℕ) (target : Socket) → named_target S s addr ≡ Some t → socket_at S t ≡ Some target →
        nat_lt record_bytes_limit (length m.bytes) ≡ false → s.write_shut ≡ false → Q (rest t target)
    to_one t target to there short unshut = either Q (not (takes_from d target.phase)) _ _ (λ b h. absurd (cc h))
        (λ takes. either Q target.read_shut _ _ (λ b h. absurd (cc h))
        (λ reads h.
        let f = enqueue_full S limit t target named h in
        record {
          awaits = record {
            number = t;
            target = target;
            to = to;
            there = there;
            takes = not-false (takes_from d target.phase) takes;
            full = f.full;
            writes = unshut;
            reads = reads;
          };
          short = ltb-false record_bytes_limit (length m.bytes) short;
          few = sym (over_alike S limit m (Some s.name)) ∙ f.few;
        }))

    by_addr : (a : Option Addr) → addr ≡ a → nat_lt record_bytes_limit (length m.bytes) ≡ false → s.write_shut ≡ false →
        Q (on_target S d s a rest)
    by_addr None is short unshut = maybe Q (association_of s.phase) _ _ (λ h. absurd (cc h))
        (λ t to. maybe Q (socket_at S t) _ _ (λ h. absurd (cc h))
        (λ target there. to_one t target (ap (named_target S s) is ∙ to) there short unshut))
    by_addr (Some a) is short unshut = by_look_up (look_up S s.kind a) refl
      where
        by_look_up : (r : Result (ℕ × Socket) Errno) → look_up S s.kind a ≡ r →
            Q (elim r as (λ _. Outcome) [ Err e ↦ refuse S e | Ok w ↦ rest w.0 w.1 ])
        by_look_up (Err e) found = λ h. absurd (nowhere_no_wait S s.kind a e found h)
        by_look_up (Ok w) found = to_one w.0 w.1
            (ap (named_target S s) is ∙ ap (λ (r : Result (ℕ × Socket) Errno). elim (if_found r) as
            (λ _. Option ℕ) [ None ↦ None | Some x ↦ Some x.0 ]) found)
            (look_up_there S s.kind a w.0 w.1 found).0 short unshut

datagram_again : (S : State) (limit : Option ℕ) (d : ℕ) (s : Socket) (addr : Option Addr) (m : Message) → WithDatagrams S s →
    is_dgram s.kind ≡ true → TargetIsFull S limit d s addr m → send_datagram S limit d s addr m ≡ refuse S Errno.EAGAIN
datagram_again S limit d s addr m associates kind f =
    ap (λ b. if b then refuse S Errno.EMSGSIZE else if s.write_shut then refuse S Errno.EPIPE else on_target S d s addr rest)
    (le-ltb record_bytes_limit (length m.bytes) f.short)
    ∙ ap (λ b. if b then refuse S Errno.EPIPE else on_target S d s addr rest) a.writes
    ∙ r.on rest
    ∙ ap (λ b. if not b then refuse S Errno.EPERM else if a.target.read_shut then refuse S Errno.EPIPE else queues) a.takes
    ∙ ap (λ b. if b then refuse S Errno.EPIPE else queues) a.reads
    ∙ enqueue_again S limit a.number a.target named (record {
      some = ap (λ b. b && (length m.bytes == 0)) (no_stream a.target.kind r.datagrams);
      few = over_alike S limit m (Some s.name) ∙ f.few;
      full = a.full;
    })
  where
    a : AwaitsTarget S d s addr
    a = f.awaits

    r : Reaches S d s addr a.number a.target
    r = reaches S d s addr a.number a.target associates kind a.to a.there

    named : Message
    named = record m { from = Some s.name }

    rest : ℕ → Socket → Outcome
    rest t target = if not (takes_from d target.phase) then refuse S Errno.EPERM else if target.read_shut then refuse S Errno.EPIPE
        else enqueue S limit t target named

    queues : Outcome
    queues = enqueue S limit a.number a.target named

-- ---- of any type

full_from : (S : State) (limit : Option ℕ) (d : ℕ) (s : Socket) (addr : Option Addr) (m : Message) →
    (send_from S limit d s addr m).reply ≡ Reply.Err Errno.EAGAIN → FindsFull S d s addr m.bytes × (is_over_limit S limit m ≡ false)
full_from S limit d s addr m h = by_kind (is_dgram s.kind) refl
  where
    by_kind : (b : Bool) → is_dgram s.kind ≡ b → FindsFull S d s addr m.bytes × (is_over_limit S limit m ≡ false)
    by_kind true kind =
        let f = datagram_waits S limit d s addr m (sym (ap (λ b. (if b then send_datagram S limit d s addr m else
        send_stream S limit s.write_shut (peer_of s.phase) addr m).reply) kind) ∙ h) in
        (at_target kind f.awaits f.short, f.few)
    by_kind false kind = let f = from_waits S limit d s addr m kind h in (at_peer kind f.plain f.awaits f.goes, f.few)

from_full : (S : State) (limit : Option ℕ) (d : ℕ) (s : Socket) (addr : Option Addr) (m : Message) → WithDatagrams S s →
    FindsFull S d s addr m.bytes → is_over_limit S limit m ≡ false → send_from S limit d s addr m ≡ refuse S Errno.EAGAIN
from_full S limit d s addr m associates (at_peer kind plain a goes) few =
    ap (λ (x : Option Addr). send_from S limit d s x m) plain ∙ plain_to_peer S limit d a.peer s m kind a.to
    ∙ to_full S limit s m a goes few
from_full S limit d s addr m associates (at_target kind a short) few =
    ap (λ b. if b then send_datagram S limit d s addr m else send_stream S limit s.write_shut (peer_of s.phase) addr m) kind
    ∙ datagram_again S limit d s addr m associates kind (record { awaits = a; short = short; few = few })

-- ---- a send

abbrev pub Waits : State → ℕ → ℕ → Socket → Option Addr → List ℕ → List ℕ → MsgFlags → Type 0
Waits S p d s addr bytes control flags = IsInOrder S p s addr bytes control flags × FindsFull S d s addr bytes

send_waits : (S : State) (p tag d : ℕ) (fd : Fd) (addr : Option Addr) (bytes control : List ℕ) (flags : MsgFlags) (s : Socket) →
    find_socket S p fd ≡ Ok (d, s) → (send_msg S p tag fd addr bytes control flags).reply ≡ Reply.Err Errno.EAGAIN →
    Waits S p d s addr bytes control flags
unfolding send_msg send_read send_with
send_waits S p tag d fd addr bytes control flags s found = maybe Q (process_at S p) _ _ (λ h. absurd (cc h))
    (λ P here. at_found Q S p d fd s _ found
    (either Q (not (are_send_flags flags)) _ _ (λ b h. absurd (cc h))
    (λ b. by_control P here (not-false (are_send_flags flags) b) (control_in control) refl)))
  where
    Q : Outcome → Type 0
    Q o = o.reply ≡ Reply.Err Errno.EAGAIN → Waits S p d s addr bytes control flags

    by_cred : (P : Process) → process_at S p ≡ Some P → are_send_flags flags ≡ true → (x : Control) → control_in control ≡ Some x →
        is_sendable_control s.kind bytes x ≡ true → (rights : List ℕ) → descriptions_behind (table_of S p) x.rights ≡ Some rights →
        (o : Option Errno) → sender_cred_refusal S p P x.cred ≡ o → Q (elim o as (λ _. Outcome) [
          | Some e ↦ refuse S e
          | None ↦ if not (is_sendable_addr addr) then refuse S Errno.EINVAL
              else send_from S (flight_limit P) d s addr (message_of (sending tag p P addr bytes) (sent_cred p P x.cred) rights)
        ])
    by_cred P here known x spelled sendable rights opened (Some e) is = λ h. absurd (given_no_wait S p P x.cred e is h)
    by_cred P here known x spelled sendable rights opened None is = either Q (not (is_sendable_addr addr)) _ _ (λ b h. absurd (cc h))
        (λ b h.
        let m : Message = message_of (sending tag p P addr bytes) (sent_cred p P x.cred) rights in
        let f = full_from S (flight_limit P) d s addr m h in (
          record {
            known = known;
            process = P;
            caller = here;
            said = x;
            spelled = spelled;
            sendable = sendable;
            rights = rights;
            opened = opened;
            may_tell = is;
            address = not-false (is_sendable_addr addr) b;
            few_in_flight = is_under S P m f.1;
          },
          f.0,
        ))

    by_control : (P : Process) → process_at S p ≡ Some P → are_send_flags flags ≡ true → (o : Option Control) → control_in control ≡ o →
        Q (send_read S (sending tag p P addr bytes) d s o)
    by_control P here known None is = λ h. absurd (cc h)
    by_control P here known (Some x) is = either Q (not (is_sendable_control s.kind bytes x)) _ _ (λ b h. absurd (cc h))
        (λ b. maybe Q (descriptions_behind (table_of S p) x.rights) _ _ (λ h. absurd (cc h))
        (λ rights opened. by_cred P here known x is (not-false (is_sendable_control s.kind bytes x) b) rights opened
        (sender_cred_refusal S p P x.cred) refl))

send_again : (S : State) (p tag d : ℕ) (fd : Fd) (addr : Option Addr) (bytes control : List ℕ) (flags : MsgFlags) (s : Socket) →
    find_socket S p fd ≡ Ok (d, s) → WithDatagrams S s → Waits S p d s addr bytes control flags →
    send_msg S p tag fd addr bytes control flags ≡ reading_control control (refuse S Errno.EAGAIN)
send_again S p tag d fd addr bytes control flags s found associates w =
    ordered_send S p tag d fd addr bytes control flags s found w.0
    ∙ ap (reading_control control) (from_full S (flight_limit w.0.process) d s addr (message_in tag w.0) associates w.1
    (not_over S w.0.process (message_in tag w.0) w.0.few_in_flight))

-- memory doesn't run out
chosen_spared : (S T : State) (control : List ℕ) (o : Outcome) (reply : Reply) → o ≡ reading_control control (refuse S Errno.EAGAIN) →
    Chosen S o reply T → reply ≢ Reply.Err Errno.ENOMEM → reply ≡ Reply.Err Errno.EAGAIN
chosen_spared S T control o reply is (own r f) spared = r ∙ ap (λ (x : Outcome). x.reply) is
chosen_spared S T control o reply is (lacking_memory r may f) spared = absurd (spared r)
chosen_spared S T control o reply is (failing r f) spared = let none : None ≡ Some T = sym (ap (λ (x : Outcome). x.failure) is) ∙ f in
    absurd (cc none)

pub step_waits : (S T : State) (p tag d : ℕ) (fd : Fd) (addr : Option Addr) (bytes control : List ℕ) (flags : MsgFlags) (s : Socket)
    (reply : Reply) (gone : List ℕ) → Step S p tag (Request.SendMsg fd addr bytes control flags) reply gone T →
    find_socket S p fd ≡ Ok (d, s) → reply ≡ Reply.Err Errno.EAGAIN → Waits S p d s addr bytes control flags
unfolding Step outcome
step_waits S T p tag d fd addr bytes control flags s reply gone step found h =
    send_waits S p tag d fd addr bytes control flags s found
    (chosen_again S step.0 (send_msg S p tag fd addr bytes control flags) reply step.1 h)

step_again : (S T : State) (p tag d : ℕ) (fd : Fd) (addr : Option Addr) (bytes control : List ℕ) (flags : MsgFlags) (s : Socket)
    (reply : Reply) (gone : List ℕ) → Step S p tag (Request.SendMsg fd addr bytes control flags) reply gone T →
    find_socket S p fd ≡ Ok (d, s) → WithDatagrams S s → reply ≢ Reply.Err Errno.ENOMEM → Waits S p d s addr bytes control flags →
    reply ≡ Reply.Err Errno.EAGAIN
unfolding Step outcome
step_again S T p tag d fd addr bytes control flags s reply gone step found associates spared w =
    chosen_spared S step.0 control (send_msg S p tag fd addr bytes control flags) reply
    (send_again S p tag d fd addr bytes control flags s found associates w) step.1 spared

-- of a plain one memory never does
step_plain_again : (S T : State) (p tag d : ℕ) (fd : Fd) (addr : Option Addr) (bytes : List ℕ) (flags : MsgFlags) (s : Socket)
    (reply : Reply) (gone : List ℕ) → Step S p tag (Request.SendMsg fd addr bytes [] flags) reply gone T →
    find_socket S p fd ≡ Ok (d, s) → WithDatagrams S s → are_send_flags flags ≡ true → is_sendable_addr addr ≡ true →
    FindsFull S d s addr bytes → reply ≡ Reply.Err Errno.EAGAIN
unfolding Step outcome
step_plain_again S T p tag d fd addr bytes flags s reply gone step found associates fine valid full =
    let l = leads_to_socket S p d fd s found in
    let P = has_process S p fd l.entry l.description l.found in
    chosen_refusal S step.0 (send_msg S p tag fd addr bytes [] flags) Errno.EAGAIN reply
    (send_again S p tag d fd addr bytes [] flags s found associates (plain_order S p s addr bytes flags P.0 P.1 fine valid, full)) step.1

-- ---- a write

pub step_write_waits : (S T : State) (p tag d : ℕ) (fd : Fd) (bytes : List ℕ) (s : Socket) (reply : Reply) (gone : List ℕ) →
    Step S p tag (Request.Write fd bytes) reply gone T → LeadsToSocket S p fd d s → WithDatagrams S s →
    (reply ≡ Reply.Err Errno.EAGAIN → FindsFull S d s None bytes) × (FindsFull S d s None bytes → reply ≡ Reply.Err Errno.EAGAIN)
unfolding Step outcome
step_write_waits S T p tag d fd bytes s reply gone step l associates =
    let w = write_from S p tag d fd bytes s l in
    let m : Message = message_of (sending tag p w.0 None bytes) (own_cred p w.0) [] in (
      λ h. (full_from S (flight_limit w.0) d s None m
          (sym (ap (λ (o : Outcome). o.reply) w.2) ∙ chosen_again S step.0 (write S p tag fd bytes) reply step.1 h)).0,
      λ full. chosen_refusal S step.0 (write S p tag fd bytes) Errno.EAGAIN reply
          (w.2 ∙ from_full S (flight_limit w.0) d s None m associates full (no_right_over S (flight_limit w.0) m refl)) step.1,
    )

-- ---- the laws

-- what a datagram finds full is its target's queue
target_of : (S : State) (d : ℕ) (s : Socket) (addr : Option Addr) (bytes : List ℕ) → is_dgram s.kind ≡ true → FindsFull S d s addr bytes →
    AwaitsTarget S d s addr
target_of S d s addr bytes kind (at_peer other plain a goes) = absurd (false≢true (sym other ∙ kind))
target_of S d s addr bytes kind (at_target same a short) = a

-- the association of a socket at a moment
pub associated_so : (boot : State) (es : List Entry) (j d : ℕ) (fd : Fd) (e : Entry) (s : Socket) → IsLegal boot es →
    find_socket (before boot es j) e.pid.0 fd ≡ Ok (d, s) → WithDatagrams (before boot es j) s
associated_so boot es j d fd e s legal found = with_datagrams boot (take j es) d s (front_is_legal boot es j legal)
    (socket_found (before boot es j) e.pid.0 d fd s found)

pub messages_wait_while : MessagesWaitWhile
messages_wait_while boot es j d e fd addr bytes control flags s legal at request found spared = (
  λ h. step_waits S T e.pid.0 j d fd addr bytes control flags s e.reply e.released step found h,
  λ w. step_again S T e.pid.0 j d fd addr bytes control flags s e.reply e.released step found
      (associated_so boot es j d fd e s legal found) spared w,
)
  where
    S : State
    S = before boot es j

    T : State
    T = before boot es (suc j)

    step : Step S e.pid.0 j (Request.SendMsg fd addr bytes control flags) e.reply e.released T
    step = subst (λ (r : Request). Step S e.pid.0 j r e.reply e.released T) request (moment boot es j e legal at).steps

pub datagrams_wait_while : DatagramsWaitWhile
datagrams_wait_while boot es j d e fd addr bytes flags s legal at request fine valid short found kind = (
  λ h. target_of S d s addr bytes kind (step_waits S T e.pid.0 j d fd addr bytes [] flags s e.reply e.released step found h).1,
  λ a. step_plain_again S T e.pid.0 j d fd addr bytes flags s e.reply e.released step found
      (associated_so boot es j d fd e s legal found) fine valid (at_target kind a short),
)
  where
    S : State
    S = before boot es j

    T : State
    T = before boot es (suc j)

    step : Step S e.pid.0 j (Request.SendMsg fd addr bytes [] flags) e.reply e.released T
    step = subst (λ (r : Request). Step S e.pid.0 j r e.reply e.released T) request (moment boot es j e legal at).steps

pub datagram_writes_wait_while : DatagramWritesWaitWhile
datagram_writes_wait_while boot es j d e fd bytes s legal at request short through kind =
    let w = step_write_waits S T e.pid.0 j d fd bytes s e.reply e.released step
    (leads_to_socket S e.pid.0 d fd s found) (associated_so boot es j d fd e s legal found) in
    (λ h. target_of S d s None bytes kind (w.0 h), λ a. w.1 (at_target kind a short))
  where
    S : State
    S = before boot es j

    T : State
    T = before boot es (suc j)

    step : Step S e.pid.0 j (Request.Write fd bytes) e.reply e.released T
    step = subst (λ (r : Request). Step S e.pid.0 j r e.reply e.released T) request (moment boot es j e legal at).steps

    found : find_socket S e.pid.0 fd ≡ Ok (d, s)
    found = socket_is_found S e.pid.0 d fd s (Request.Write fd bytes) refl (sym (ap (socket_through S e.pid.0) request) ∙ through)
