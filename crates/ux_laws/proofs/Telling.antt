-- What a write, a read and a receive are answered at a socket whose peer is gone.
use Rattle.std.proofs.Common.{◌≡◌, ℕ, suc, ◌<◌, ◌==◌, Bool, true, false, not, ◌&&◌, ◌||◌, if◌then◌else◌, cond, min, List, [], ◌∷◌, Option}
use Rattle.std.proofs.Common.{Some, None, Result, Ok, Err, option_map, refl, ap, sym, ◌∙◌, subst, arith}
use Rattle.std.specs.Prelude.{IsTrue}
use Rattle.std.proofs.lemmas.Bool.{false≢true, ne_eqb}
use Rattle.ux_model.specs.Types.{Errno, Fd, MsgFlags, Request, Reply}
use Rattle.ux_model.specs.Places.{place}
use Rattle.ux_model.specs.Limits.{read_limit}
use Rattle.ux_model.specs.Flags.{are_receive_flags, no_flags}
use Rattle.ux_model.specs.Message.{Message}
use Rattle.ux_model.specs.Front.{Front, front_of}
use Rattle.ux_model.specs.Socket.{Socket, is_stream, is_dgram, peer_of, with_reset}
use Rattle.ux_model.specs.Description.{Description, Target, to_object, to_socket, socket_of, socket_in, changed, changed_target}
use Rattle.ux_model.specs.Process.{Process, Descriptor, own_cred}
use Rattle.ux_model.specs.State.{State, process_at, description_at, socket_at, with_socket_by}
use Rattle.ux_model.specs.Outcome.{Outcome, Chosen, own, lacking_memory, failing, refuse, answer, find_description, find_socket, as_process}
use Rattle.ux_model.specs.Release.{settled}
use Rattle.ux_model.specs.Sending.{sending, message_of, flight_limit, send_connected, send_stream, send_datagram, write_socket, is_too_long}
use Rattle.ux_model.specs.Sending.{send_to_peer, enqueue, send_from}
use Rattle.ux_model.specs.FileObjects.{on_object}
use Rattle.ux_model.specs.Receiving.{Incoming, incoming, receive_front, nothing_received, at_end, receive_nothing, receive_connected}
use Rattle.ux_model.specs.Receiving.{receive_from_peer, receive_datagram, receive, recv_msg, bytes_alone, read_socket}
use Rattle.ux_model.specs.Reading.{read, read_object}
use Rattle.ux_model.specs.Writing.{write, write_object}
use Rattle.ux_model.specs.Step.{Step, outcome}
use Rattle.ux_model.specs.Pedigree.{before}
use Rattle.ux_model.proofs.Lists.ChangedPlaces.{bool_cases, changed_here, place-changed}
use Rattle.ux_model.proofs.Pedigrees.Moments.{moment}
use Rattle.ux_laws.specs.Talking.{endpoint, given_bytes, if_found, socket_through}
use Rattle.ux_laws.specs.Records.{is_given}
use Rattle.ux_laws.specs.Ends.{HasEnded, WritesBreak, IsAtEnd, queued, lacking, reset as reset_told, ended as end_told, ReadsTellTheEnd}
use Rattle.ux_laws.specs.Ends.{ReceivesTellTheEnd}
use Rattle.ux_laws.proofs.Near.Single.{reset_of, reset_in}
use Rattle.ux_laws.proofs.LeftAlone.{Lost, settled_lost}
use Rattle.ux_laws.proofs.Ended.{reset_is, lost_reset}

-- ---- what a descriptor leads to

-- the socket that was found, by its descriptor and description
pub record LeadsToSocket (S : State) (p : ℕ) (fd : Fd) (d : ℕ) (s : Socket) : Type 0 where
  pub entry : Descriptor
  pub description : Description
  pub found : find_description S p fd ≡ Ok (entry, description)
  pub number : entry.description ≡ d
  pub leads : description.target ≡ to_socket s

pub socket_is_found : (S : State) (p d : ℕ) (fd : Fd) (s : Socket) (request : Request) → endpoint request ≡ Some fd →
    socket_through S p request ≡ Some (d, s) → find_socket S p fd ≡ Ok (d, s)
socket_is_found S p d fd s request asked through = go (find_socket S p fd)
    (sym (ap (λ (o : Option Fd). elim o as (λ _. Option (ℕ × Socket)) [ None ↦ None | Some fd ↦ if_found (find_socket S p fd) ]) asked)
    ∙ through)
  where
    go : (r : Result (ℕ × Socket) Errno) → if_found r ≡ Some (d, s) → r ≡ Ok (d, s)
    go (Err e) h = absurd (cc h)
    go (Ok w) h = let same : w ≡ (d, s) = cc h in ap (λ (x : ℕ × Socket). Ok x) same

pub leads_to_socket : (S : State) (p d : ℕ) (fd : Fd) (s : Socket) → find_socket S p fd ≡ Ok (d, s) → LeadsToSocket S p fd d s
leads_to_socket S p d fd s h = go (find_description S p fd) refl h
  where
    at_target : (e : Descriptor) (D : Description) (t : Target) → D.target ≡ t → find_description S p fd ≡ Ok (e, D) →
        (elim (socket_of t) as (λ _. Result (ℕ × Socket) Errno) [ None ↦ Err Errno.ENOTSOCK | Some u ↦ Ok (e.description, u) ]) ≡ Ok
        (d, s) → LeadsToSocket S p fd d s
    at_target e D (to_object o) is found h = absurd (cc h)
    at_target e D (to_socket u) is found h =
        let number : e.description ≡ d = ap (λ r. elim r as (λ _. ℕ) [ Err f ↦ 0 | Ok w ↦ w.0 ]) h in
        let same : u ≡ s = ap (λ r. elim r as (λ _. Socket) [ Err f ↦ u | Ok w ↦ w.1 ]) h in
        record { entry = e; description = D; found = found; number = number; leads = is ∙ ap to_socket same }

    go : (r : Result (Descriptor × Description) Errno) → find_description S p fd ≡ r →
        (elim r as (λ _. Result (ℕ × Socket) Errno) [
          | Err e ↦ Err e
          | Ok w ↦ elim (socket_of w.1.target) as
              (λ _. Result (ℕ × Socket) Errno) [ None ↦ Err Errno.ENOTSOCK | Some u ↦ Ok (w.0.description, u) ]
        ]) ≡ Ok (d, s) →
        LeadsToSocket S p fd d s
    go (Err e) is h = absurd (cc h)
    go (Ok w) is h = at_target w.0 w.1 w.1.target refl is h

-- whoever has a descriptor is a process
pub has_process : (S : State) (p : ℕ) (fd : Fd) (e : Descriptor) (D : Description) → find_description S p fd ≡ Ok (e, D) →
    (P : Process) × (process_at S p ≡ Some P)
has_process S p fd e D h = go (process_at S p) refl h
  where
    by_table : (o : Option Process) → List (Option Descriptor)
    by_table o = elim o as (λ _. List (Option Descriptor)) [ Some P ↦ P.table | None ↦ [] ]

    go : (o : Option Process) → process_at S p ≡ o →
        (elim (place (elim o as (λ _. List (Option Descriptor)) [ Some P ↦ P.table | None ↦ [] ]) fd.0) as
        (λ _. Result (Descriptor × Description) Errno) [
          | None ↦ Err Errno.EBADF
          | Some x ↦ elim (description_at S x.description) as
              (λ _. Result (Descriptor × Description) Errno) [ None ↦ Err Errno.EBADF | Some D ↦ Ok (x, D) ]
        ]) ≡ Ok (e, D) → (P : Process) × (process_at S p ≡ Some P)
    go None is h = absurd (cc h)
    go (Some P) is h = (P, is)

-- ---- a write

-- it is a send through the socket, without an address
pub write_from : (S : State) (p tag d : ℕ) (fd : Fd) (bytes : List ℕ) (s : Socket) → LeadsToSocket S p fd d s →
    (P : Process) × (process_at S p ≡ Some P) × (write S p tag fd bytes ≡ send_from S (flight_limit P) d s None
    (message_of (sending tag p P None bytes) (own_cred p P) []))
unfolding write
write_from S p tag d fd bytes s l =
    let P = has_process S p fd l.entry l.description l.found in (
      P.0,
      P.1,
      ap (λ (r : Result (Descriptor × Description) Errno). elim r as
          (λ _. Outcome) [ Err x ↦ refuse S x | Ok w ↦ by_target w.0 w.1 w.1.target ]) l.found
          ∙ ap (λ (t : Target). by_target l.entry l.description t) l.leads
          ∙ ap (λ (o : Option Process). elim o as (λ _. Outcome)
          [ None ↦ refuse S Errno.ESRCH | Some Q ↦ write_socket S (sending tag p Q None bytes) l.entry.description s ]) P.1
          ∙ ap (λ (i : ℕ). write_socket S (sending tag p P.0 None bytes) i s) l.number,
    )
  where
    by_target : Descriptor → Description → Target → Outcome
    by_target x D t = elim t as (λ _. Outcome) [
      | to_object o ↦ on_object S o (λ view. write_object S x.description D o view bytes)
      | to_socket u ↦ as_process S p (λ Q. write_socket S (sending tag p Q None bytes) x.description u)
    ]

-- and of a connected one to the peer
pub write_to_peer : (S : State) (p tag d peer : ℕ) (fd : Fd) (bytes : List ℕ) (s : Socket) → LeadsToSocket S p fd d s →
    is_dgram s.kind ≡ false → peer_of s.phase ≡ Some peer →
    (P : Process) × (process_at S p ≡ Some P) × (write S p tag fd bytes ≡ send_to_peer S (flight_limit P) s.write_shut peer
    (message_of (sending tag p P None bytes) (own_cred p P) []))
write_to_peer S p tag d peer fd bytes s l kind to =
    let w = write_from S p tag d fd bytes s l in
    let m : Message = message_of (sending tag p w.0 None bytes) (own_cred p w.0) [] in (
      w.0,
      w.1,
      w.2
          ∙ ap (λ b. if b then send_datagram S (flight_limit w.0) d s None m
          else send_stream S (flight_limit w.0) s.write_shut (peer_of s.phase) None m) kind
          ∙ ap (λ (o : Option ℕ). send_connected S (flight_limit w.0) s.write_shut o m) to,
    )

-- and breaks the pipe where that is gone
write_broken : (S : State) (p tag d : ℕ) (fd : Fd) (bytes : List ℕ) (s : Socket) → LeadsToSocket S p fd d s → HasEnded S d s →
    write S p tag fd bytes ≡ refuse S Errno.EPIPE
write_broken S p tag d fd bytes s l e =
    let w = write_to_peer S p tag d e.peer fd bytes s l e.kind e.connected in
    let nobody : socket_at S e.peer ≡ None = ap socket_in e.gone in
    w.2 ∙ ap (to_one w.0) nobody
  where
    to_one : Process → Option Socket → Outcome
    to_one P o = elim o as (λ _. Outcome) [
      | None ↦ refuse S Errno.EPIPE
      | Some other ↦
          if s.write_shut || other.read_shut then refuse S Errno.EPIPE else
          if is_too_long other (message_of (sending tag p P None bytes) (own_cred p P) []) then refuse S Errno.EMSGSIZE else
          enqueue S (flight_limit P) e.peer other (message_of (sending tag p P None bytes) (own_cred p P) [])
    ]

-- the call makes no choice then
pub chosen_refusal : (S T : State) (o : Outcome) (e : Errno) (reply : Reply) → o ≡ refuse S e → Chosen S o reply T → reply ≡ Reply.Err e
chosen_refusal S T o e reply is (own r f) = r ∙ ap (λ (x : Outcome). x.reply) is
chosen_refusal S T o e reply is (lacking_memory r may f) = let no : IsTrue false =
    subst IsTrue (ap (λ (x : Outcome). x.may_lack_memory) is) may in absurd (cc no)
chosen_refusal S T o e reply is (failing r f) = let none : None ≡ Some T = sym (ap (λ (x : Outcome). x.failure) is) ∙ f in absurd (cc none)

step_writes : (S T : State) (p tag d : ℕ) (fd : Fd) (bytes : List ℕ) (s : Socket) (reply : Reply) (gone : List ℕ) →
    LeadsToSocket S p fd d s → HasEnded S d s → Step S p tag (Request.Write fd bytes) reply gone T → reply ≡ Reply.Err Errno.EPIPE
unfolding Step outcome
step_writes S T p tag d fd bytes s reply gone l e step =
    chosen_refusal S step.0 (write S p tag fd bytes) Errno.EPIPE reply (write_broken S p tag d fd bytes s l e) step.1

pub writes_break : WritesBreak
writes_break boot es j d e fd bytes s legal at request through ended =
    let S : State = before boot es j in
    let led : socket_through S e.pid.0 (Request.Write fd bytes) ≡ Some (d, s) = sym (ap (socket_through S e.pid.0) request) ∙ through in
    let moved : Step S e.pid.0 j (Request.Write fd bytes) e.reply e.released (before boot es (suc j)) =
    subst (λ (r : Request). Step S e.pid.0 j r e.reply e.released (before boot es (suc j))) request (moment boot es j e legal at).steps in
    step_writes S (before boot es (suc j)) e.pid.0 j d fd bytes s e.reply e.released
    (leads_to_socket S e.pid.0 d fd s (socket_is_found S e.pid.0 d fd s (Request.Write fd bytes) refl led)) ended moved

-- ---- a receive

-- what it comes to
data Comes (S : State) (p d : ℕ) (s : Socket) (asked : Incoming) (o : Outcome) : Type 0 where
  from_queue : (m : Message) (ms : List Message) → s.queue ≡ m ∷ ms → o ≡ receive_front S p d s asked (front_of asked.n s m ms) →
      Comes S p d s asked o
  to_reset : s.queue ≡ [] → s.reset ≡ true → o ≡ answer (Reply.Err Errno.ECONNRESET) (with_socket_by S d (with_reset false)) →
      Comes S p d s asked o
  to_end : s.queue ≡ [] → s.reset ≡ false → o ≡ answer nothing_received S → Comes S p d s asked o

comes : (S : State) (p d : ℕ) (s : Socket) (asked : Incoming) → 0 < asked.n → HasEnded S d s → Comes S p d s asked (receive S p d s asked)
comes S p d s asked some e = by_queue s.queue refl
  where
    connected_is : receive S p d s asked ≡ receive_connected S p d s e.peer asked
    connected_is =
        ap (λ b. if b then receive_datagram S p d s asked else receive_from_peer S p d s asked) e.kind
        ∙ ap (λ (o : Option ℕ). elim o as (λ _. Outcome)
        [ None ↦ refuse S Errno.ENOTCONN | Some peer ↦ receive_connected S p d s peer asked ]) e.connected

    no_bytes : (b : Bool) → (b && (asked.n == 0)) ≡ false
    no_bytes true = ne_eqb asked.n 0 (λ z. omega (arith, z, some))
    no_bytes false = refl

    of_queue : List Message → Outcome
    of_queue q = elim q as (λ _. Outcome) [
      | [] ↦ receive_nothing S d s e.peer
      | m ∷ ms ↦ receive_front S p d s asked
          (front_of asked.n s m ms)
    ]

    opened : receive S p d s asked ≡ of_queue s.queue
    opened = connected_is ∙ ap (λ b. if b then answer nothing_received S else of_queue s.queue) (no_bytes (is_stream s.kind))

    ends : at_end S s e.peer ≡ true
    ends = ap (λ (o : Option Socket). elim o as (λ _. Bool) [ None ↦ true | Some other ↦ s.read_shut || other.write_shut ])
        (ap socket_in e.gone)

    by_reset : (b : Bool) → s.reset ≡ b → s.queue ≡ [] → receive S p d s asked ≡ receive_nothing S d s e.peer →
        Comes S p d s asked (receive S p d s asked)
    by_reset true is q h = to_reset q is (h ∙ ap
        (λ b. if b then answer (Reply.Err Errno.ECONNRESET) (with_socket_by S d (with_reset false))
        else if at_end S s e.peer then answer nothing_received S else refuse S Errno.EAGAIN) is)
    by_reset false is q h = to_end q is (h ∙ ap
        (λ b. if b then answer (Reply.Err Errno.ECONNRESET) (with_socket_by S d (with_reset false))
        else if at_end S s e.peer then answer nothing_received S else refuse S Errno.EAGAIN) is
        ∙ ap (λ b. if b then answer nothing_received S else refuse S Errno.EAGAIN) ends)

    by_queue : (q : List Message) → s.queue ≡ q → Comes S p d s asked (receive S p d s asked)
    by_queue [] is = by_reset s.reset refl is (opened ∙ ap of_queue is)
    by_queue (m ∷ ms) is = from_queue m ms is (opened ∙ ap of_queue is)

-- of the front, with or without what only recvmsg reports
pub record IsFrontReply (reply : Reply) (front : Front) : Type 0 where
  pub gives : is_given reply ≡ true
  pub bytes : given_bytes reply ≡ front.bytes

pub front_reply : (S : State) (p d : ℕ) (s : Socket) (asked : Incoming) (front : Front) →
    IsFrontReply (receive_front S p d s asked front).reply front
    × IsFrontReply (bytes_alone (receive_front S p d s asked front).reply) front × ((receive_front S p d s asked front).failure ≡ None)
unfolding receive_front
front_reply S p d s asked front = (record { gives = refl; bytes = refl }, record { gives = refl; bytes = refl }, refl)

-- ECONNRESET is pending no longer
cleared : (S T : State) (d : ℕ) (s : Socket) → HasEnded S d s → T ≡ settled (with_socket_by S d (with_reset false)) → (t : Socket) →
    socket_at T d ≡ Some t → t.reset ≡ false
cleared S T d s e is t there = bool_cases t.reset
    (λ b.
    let U : State = with_socket_by S d (with_reset false) in
    let at_end : reset_in (description_at T d) ≡ true = reset_is T d t there ∙ b in
    let passed : reset_in (description_at U d) ≡ true =
    lost_reset U T d (λ u peer h k. none_now u peer h k) (subst (λ (V : State). Lost U V d) (sym is) (settled_lost U d)) at_end in
    absurd (false≢true (sym (put (description_at S d)) ∙ sym (ap reset_in (changed_here S.descriptions d (changed (with_reset false))))
    ∙ passed)))
    (λ b. b)
  where
    put : (x : Option Description) → reset_in (option_map (changed (with_reset false)) x) ≡ false
    put None = refl
    put (Some D) = at_target D.target
      where
        at_target : (t : Target) → reset_of (changed_target (with_reset false) t) ≡ false
        at_target (to_object o) = refl
        at_target (to_socket u) = refl

    same_peer : (x : Option Description) (u : Socket) (peer : ℕ) → socket_in x ≡ Some s →
        socket_in (option_map (changed (with_reset false)) x) ≡ Some u → peer_of u.phase ≡ Some peer → peer_of s.phase ≡ Some peer
    same_peer None u peer h g k = absurd (cc h)
    same_peer (Some D) u peer h g k = at_target D.target h g
      where
        at_target : (t : Target) → socket_of t ≡ Some s → socket_of (changed_target (with_reset false) t) ≡ Some u →
            peer_of s.phase ≡ Some peer
        at_target (to_object o) h g = absurd (cc h)
        at_target (to_socket v) h g =
            let one : v ≡ s = cc h in
            let two : with_reset false v ≡ u = cc g in
            sym (ap (λ (w : Socket). peer_of w.phase) one) ∙ ap (λ (w : Socket). peer_of w.phase) two ∙ k

    none_now : (u : Socket) (peer : ℕ) → socket_at (with_socket_by S d (with_reset false)) d ≡ Some u → peer_of u.phase ≡ Some peer →
        description_at (with_socket_by S d (with_reset false)) peer ≡ None
    none_now u peer h k =
        let mine : peer_of s.phase ≡ Some peer =
        same_peer (description_at S d) u peer e.there (sym (ap socket_in (changed_here S.descriptions d (changed (with_reset false)))) ∙ h)
        k in
        let both : Some e.peer ≡ Some peer = sym e.connected ∙ mine in
        let one : e.peer ≡ peer = cc both in
        let none : description_at S peer ≡ None = ap (λ (i : ℕ). description_at S i) (sym one) ∙ e.gone in
        place-changed S.descriptions d peer (changed (with_reset false)) ∙ either (d == peer) (description_at S peer) none
      where
        either : (b : Bool) (x : Option Description) → x ≡ None → cond b (option_map (changed (with_reset false)) x) x ≡ None
        either true x h = ap (λ y. option_map (changed (with_reset false)) y) h
        either false x h = h

-- by what it comes to, where the reply is reported whole or the bytes alone
at_end_told : (S U T : State) (p d : ℕ) (s : Socket) (asked : Incoming) (told : Reply → Reply) (end reply : Reply) → HasEnded S d s →
    0 < asked.n → told (Reply.Err Errno.ECONNRESET) ≡ Reply.Err Errno.ECONNRESET → told nothing_received ≡ end →
    ((m : Message) (ms : List Message) → IsFrontReply (told (receive_front S p d s asked (front_of asked.n s m ms)).reply)
    (front_of asked.n s m ms)) →
    Chosen S (record (receive S p d s asked) { reply = told (receive S p d s asked).reply }) reply U → T ≡ settled U →
    IsAtEnd S d asked.n s reply end T
at_end_told S U T p d s asked told end reply e some error nothing fronts c is = by_comes (comes S p d s asked some e) c
  where
    by_comes : Comes S p d s asked (receive S p d s asked) →
        Chosen S (record (receive S p d s asked) { reply = told (receive S p d s asked).reply }) reply U → IsAtEnd S d asked.n s reply end T
    by_comes (from_queue m ms q o) (own r f) =
        let front : Front = front_of asked.n s m ms in
        let is_front : IsFrontReply reply front =
        subst (λ (x : Reply). IsFrontReply x front) (sym (r ∙ ap (λ (x : Outcome). told x.reply) o)) (fronts m ms) in
        queued m ms q is_front.gives is_front.bytes
    by_comes (from_queue m ms q o) (lacking_memory r may f) = lacking (λ none. let clash : [] ≡ m ∷ ms = sym none ∙ q in cc clash) r
    by_comes (from_queue m ms q o) (failing r f) =
        let none : None ≡ Some U = sym (front_reply S p d s asked (front_of asked.n s m ms)).2 ∙ sym (ap (λ (x : Outcome). x.failure) o)
        ∙ f in absurd (cc none)
    by_comes (to_reset q pending o) (own r f) =
        reset_told q pending (r ∙ ap (λ (x : Outcome). told x.reply) o ∙ error)
        (cleared S T d s e (is ∙ ap settled (f ∙ ap (λ (x : Outcome). x.next) o)))
    by_comes (to_reset q pending o) (lacking_memory r may f) = let no : IsTrue false =
        subst IsTrue (ap (λ (x : Outcome). x.may_lack_memory) o) may in absurd (cc no)
    by_comes (to_reset q pending o) (failing r f) = let none : None ≡ Some U = sym (ap (λ (x : Outcome). x.failure) o) ∙ f in
        absurd (cc none)
    by_comes (to_end q clear o) (own r f) = end_told q clear (r ∙ ap (λ (x : Outcome). told x.reply) o ∙ nothing)
    by_comes (to_end q clear o) (lacking_memory r may f) = let no : IsTrue false =
        subst IsTrue (ap (λ (x : Outcome). x.may_lack_memory) o) may in absurd (cc no)
    by_comes (to_end q clear o) (failing r f) = let none : None ≡ Some U = sym (ap (λ (x : Outcome). x.failure) o) ∙ f in absurd (cc none)

-- ---- recvmsg(2)

recv_is : (S : State) (p n space d : ℕ) (fd : Fd) (asked : MsgFlags) (s : Socket) → find_socket S p fd ≡ Ok (d, s) →
    are_receive_flags asked ≡ true → recv_msg S p fd n space asked ≡ receive S p d s (incoming n space asked)
unfolding recv_msg
recv_is S p n space d fd asked s found fine =
    ap (λ (r : Result (ℕ × Socket) Errno). elim r as
    (λ _. Outcome) [
      | Err e ↦ refuse S e
      | Ok w ↦ if not (are_receive_flags asked) then refuse S Errno.EINVAL
          else receive S p w.0 w.1 (incoming n space asked)
    ]) found
    ∙ ap (λ b. if not b then refuse S Errno.EINVAL else receive S p d s (incoming n space asked)) fine

step_receives : (S T : State) (p tag n space d : ℕ) (fd : Fd) (asked : MsgFlags) (s : Socket) (reply : Reply) (gone : List ℕ) →
    find_socket S p fd ≡ Ok (d, s) → are_receive_flags asked ≡ true → 0 < n → HasEnded S d s →
    Step S p tag (Request.RecvMsg fd n space asked) reply gone T → IsAtEnd S d n s reply nothing_received T
unfolding Step outcome
step_receives S T p tag n space d fd asked s reply gone found fine some e step =
    at_end_told S step.0 T p d s (incoming n space asked) (λ r. r) nothing_received reply e some refl refl
    (λ m ms. (front_reply S p d s (incoming n space asked) (front_of n s m ms)).0)
    (subst (λ (o : Outcome). Chosen S o reply step.0) (recv_is S p n space d fd asked s found fine) step.1) step.3

pub receives_tell_the_end : ReceivesTellTheEnd
receives_tell_the_end boot es j n space d e fd asked s legal at request some fine through ended =
    let S : State = before boot es j in
    let led : socket_through S e.pid.0 (Request.RecvMsg fd n space asked) ≡ Some (d, s) = sym (ap (socket_through S e.pid.0) request)
    ∙ through in
    let moved : Step S e.pid.0 j (Request.RecvMsg fd n space asked) e.reply e.released (before boot es (suc j)) =
    subst (λ (r : Request). Step S e.pid.0 j r e.reply e.released (before boot es (suc j))) request (moment boot es j e legal at).steps in
    step_receives S (before boot es (suc j)) e.pid.0 j n space d fd asked s e.reply e.released
    (socket_is_found S e.pid.0 d fd s (Request.RecvMsg fd n space asked) refl led) fine some ended moved

-- ---- read(2)

pub read_is : (S : State) (p n d : ℕ) (fd : Fd) (s : Socket) → LeadsToSocket S p fd d s →
    read S p fd n ≡ read_socket S p d s (min read_limit n)
unfolding read
read_is S p n d fd s l =
    ap (λ (r : Result (Descriptor × Description) Errno). elim r as
    (λ _. Outcome) [ Err x ↦ refuse S x | Ok w ↦ by_target w.0 w.1 w.1.target ]) l.found
    ∙ ap (λ (t : Target). by_target l.entry l.description t) l.leads
    ∙ ap (λ (i : ℕ). read_socket S p i s (min read_limit n)) l.number
  where
    by_target : Descriptor → Description → Target → Outcome
    by_target x D t = elim t as (λ _. Outcome) [
      | to_object o ↦ on_object S o (λ view. read_object S x.description D o view (min read_limit n))
      | to_socket u ↦ read_socket S p x.description u (min read_limit n)
    ]

step_reads : (S T : State) (p tag n d : ℕ) (fd : Fd) (s : Socket) (reply : Reply) (gone : List ℕ) → LeadsToSocket S p fd d s → 0 < n →
    HasEnded S d s → Step S p tag (Request.Read fd n) reply gone T →
    IsAtEnd S d (min read_limit n) s reply (Reply.Bytes []) T
unfolding Step outcome
step_reads S T p tag n d fd s reply gone l some e step =
    at_end_told S step.0 T p d s (incoming (min read_limit n) 0 no_flags) bytes_alone (Reply.Bytes []) reply e (omega (arith, some)) refl
    refl
    (λ m ms. (front_reply S p d s (incoming (min read_limit n) 0 no_flags) (front_of (min read_limit n) s m ms)).1)
    (subst (λ (o : Outcome). Chosen S o reply step.0) (read_is S p n d fd s l) step.1) step.3

pub reads_tell_the_end : ReadsTellTheEnd
reads_tell_the_end boot es j n d e fd s legal at request some through ended =
    let S : State = before boot es j in
    let led : socket_through S e.pid.0 (Request.Read fd n) ≡ Some (d, s) = sym (ap (socket_through S e.pid.0) request) ∙ through in
    let moved : Step S e.pid.0 j (Request.Read fd n) e.reply e.released (before boot es (suc j)) =
    subst (λ (r : Request). Step S e.pid.0 j r e.reply e.released (before boot es (suc j))) request (moment boot es j e legal at).steps in
    step_reads S (before boot es (suc j)) e.pid.0 j n d fd s e.reply e.released
    (leads_to_socket S e.pid.0 d fd s (socket_is_found S e.pid.0 d fd s (Request.Read fd n) refl led)) some ended moved
