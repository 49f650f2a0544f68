-- A wait to send to a peer ends by a receive there, a new limit of its queue, a shutdown or the loss of the peer, and by nothing else.
use Rattle.std.proofs.Common.{◌≡◌, ◌⊎◌, ℕ, suc, ◌==◌, ◌-◌, Bool, true, false, not, ◌&&◌, ◌||◌, if◌then◌else◌, cond, is_some, List, []}
use Rattle.std.proofs.Common.{length, Option, Some, None, Result, Ok, Err, option_map, refl, ap, sym, ◌∙◌, subst, inl, inr, ⊎_elim}
use Rattle.std.specs.Prelude.{nat_lt, nat_le}
use Rattle.std.proofs.lemmas.Bool.{eqb-true, not-true, ltb-false, le-leb, false≢true, or_parts}
use Rattle.ux_model.specs.Types.{Errno, Fd, Cred, Addr, SockType, SockOpt, MsgFlags, Request, Reply}
use Rattle.ux_model.specs.Limits.{record_limit, record_bytes_limit}
use Rattle.ux_model.specs.Flags.{are_send_flags}
use Rattle.ux_model.specs.Message.{Message, same_cred, queued_bytes}
use Rattle.ux_model.specs.Front.{front_of}
use Rattle.ux_model.specs.Names.{is_unnamed_addr, free_name}
use Rattle.ux_model.specs.Control.{Control}
use Rattle.ux_model.specs.ControlReading.{control_in}
use Rattle.ux_model.specs.Socket.{Socket, is_stream, is_dgram, peer_of, tied_socket, has_room, sent_part, sent, with_queue, with_reset}
use Rattle.ux_model.specs.Socket.{with_passcred}
use Rattle.ux_model.specs.Socket.{with_queue_limit}
use Rattle.ux_model.specs.Description.{Description, Target, to_object, to_socket, socket_of, socket_in, changed, changed_target}
use Rattle.ux_model.specs.Process.{Process, Descriptor, own_cred}
use Rattle.ux_model.specs.State.{State, process_at, description_at, socket_at, is_live, table_of, with_socket_by}
use Rattle.ux_model.specs.Outcome.{Outcome, Chosen, own, lacking_memory, failing, refuse, answer, taking_memory, find_socket}
use Rattle.ux_model.specs.Outcome.{as_process}
use Rattle.ux_model.specs.Binding.{with_abstract, with_name}
use Rattle.ux_model.specs.FileObjects.{on_object}
use Rattle.ux_model.specs.Sending.{sending, message_of, flight_limit, is_over_limit, is_too_long, enqueue, send_connected, send_stream}
use Rattle.ux_model.specs.Sending.{send_from}
use Rattle.ux_model.specs.Sending.{is_sendable_addr, is_sendable_control, sender_cred_refusal, sent_cred, send_as, send_with, send_read}
use Rattle.ux_model.specs.Sending.{send_msg, write_socket, descriptions_behind}
use Rattle.ux_model.specs.Writing.{write, write_object}
use Rattle.ux_model.specs.Options.{may_limit, change_option, set_opt}
use Rattle.ux_model.specs.Release.{settled}
use Rattle.ux_model.specs.Step.{Step, outcome}
use Rattle.ux_model.specs.Pedigree.{before}
use Rattle.ux_model.proofs.Changes.Walk.{either, maybe}
use Rattle.ux_model.proofs.Lists.ChangedPlaces.{bool_cases, place-changed}
use Rattle.ux_model.proofs.Steps.Calls.{each_obeys}
use Rattle.ux_model.proofs.Pedigrees.Moments.{moment}
use Rattle.ux_model.proofs.Tables.Shows.{by_socket}
use Rattle.ux_laws.specs.Talking.{is_peek, socket_through, is_number, receives_through}
use Rattle.ux_laws.specs.Records.{is_given}
use Rattle.ux_laws.specs.Credentials.{socket_behind}
use Rattle.ux_laws.specs.Waits.{AwaitsRoom, SendsWait, WritesWait, GivesRoom, by_receive, by_limit, by_shut, by_end, SendWaitsEnd}
use Rattle.ux_laws.specs.Progress.{may_go}
use Rattle.ux_laws.proofs.Parts.{Glance, glance_socket, Shrinks}
use Rattle.ux_laws.proofs.Acts.{Did}
use Rattle.ux_laws.proofs.Doing.Calls.{step_between, step_did}
use Rattle.ux_laws.proofs.Delivering.{receives_there}
use Rattle.ux_laws.proofs.Flows.{waiting_in, waiting_at, waiting_is, Flow, calm, put_in, taken, step_flow, changed_waiting}
use Rattle.ux_laws.proofs.Makers.{behind_is}
use Rattle.ux_laws.proofs.Near.Single.{limit_of, limit_in, sets_option, NearAt, stays, reached, new, gone as dropped}
use Rattle.ux_laws.proofs.Near.Calls.{chosen_near}
use Rattle.ux_laws.proofs.LeftAlone.{Lost, same, lost, reset, settled_lost}
use Rattle.ux_laws.proofs.Telling.{LeadsToSocket, socket_is_found, leads_to_socket}
use Rattle.ux_laws.proofs.WaitEnds.{chosen_again, Elsewhere, by_shutting, flags_kept, there_of, parts_stay, socket_stays}

-- ---- which sends wait

-- a message that finds a full queue
pub record Fills (S : State) (limit : Option ℕ) (target : Socket) (m : Message) : Type 0 where
  pub some : (is_stream target.kind && (length m.bytes == 0)) ≡ false
  pub few : is_over_limit S limit m ≡ false
  pub full : has_room target ≡ false

pub enqueue_full : (S : State) (limit : Option ℕ) (t : ℕ) (target : Socket) (m : Message) →
    (enqueue S limit t target m).reply ≡ Reply.Err Errno.EAGAIN → Fills S limit target m
enqueue_full S limit t target m = either Q (is_stream target.kind && (length m.bytes == 0)) _ _ (λ b h. absurd (cc h))
    (λ b. either Q (is_over_limit S limit m) _ _ (λ c h. absurd (cc h))
    (λ c. either Q (not (has_room target)) _ _ (λ f h. record { some = b; few = c; full = not-true (has_room target) f })
    (λ f h. absurd (cc h))))
  where
    Q : Outcome → Type 0
    Q o = o.reply ≡ Reply.Err Errno.EAGAIN → Fills S limit target m

pub enqueue_again : (S : State) (limit : Option ℕ) (t : ℕ) (target : Socket) (m : Message) → Fills S limit target m →
    enqueue S limit t target m ≡ refuse S Errno.EAGAIN
enqueue_again S limit t target m f =
    ap (λ b. if b then answer (Reply.Count 0) S else if is_over_limit S limit m then refuse S Errno.ETOOMANYREFS else
    if not (has_room target) then refuse S Errno.EAGAIN else taken) f.some
    ∙ ap (λ b. if b then refuse S Errno.ETOOMANYREFS else if not (has_room target) then refuse S Errno.EAGAIN else taken) f.few
    ∙ ap (λ b. if not b then refuse S Errno.EAGAIN else taken) f.full
  where
    taken : Outcome
    taken = taking_memory (Reply.Count (length (sent_part target m).bytes)) (with_socket_by S t (sent m))

-- what a send to the peer of a socket finds there
pub record PeerIsFull (S : State) (limit : Option ℕ) (s : Socket) (addr : Option Addr) (m : Message) : Type 0 where
  pub plain : addr ≡ None
  pub awaits : AwaitsRoom S s
  pub goes : may_go awaits.other.kind m.bytes ≡ true
  pub few : is_over_limit S limit m ≡ false

-- bytes that aren't too many, of a record, or none, of a stream
some_go : (kind : SockType) (bytes : List ℕ) → (not (is_stream kind) && nat_lt record_bytes_limit (length bytes)) ≡ false →
    (is_stream kind && (length bytes == 0)) ≡ false → may_go kind bytes ≡ true
some_go kind bytes long none = by_kind (is_stream kind) long none
  where
    by_kind : (b : Bool) → (not b && nat_lt record_bytes_limit (length bytes)) ≡ false → (b && (length bytes == 0)) ≡ false →
        (if b then not (length bytes == 0) else nat_le (length bytes) record_bytes_limit) ≡ true
    by_kind true long none = ap (λ c. not c) none
    by_kind false long none = le-leb (length bytes) record_bytes_limit (ltb-false record_bytes_limit (length bytes) long)

pub from_waits : (S : State) (limit : Option ℕ) (d : ℕ) (s : Socket) (addr : Option Addr) (m : Message) → is_dgram s.kind ≡ false →
    (send_from S limit d s addr m).reply ≡ Reply.Err Errno.EAGAIN → PeerIsFull S limit s addr m
from_waits S limit d s addr m kind = either Q (is_dgram s.kind) _ _ (λ b h. absurd (false≢true (sym kind ∙ b))) (λ b. stream addr refl)
  where
    Q : Outcome → Type 0
    Q o = o.reply ≡ Reply.Err Errno.EAGAIN → PeerIsFull S limit s addr m

    to_peer : addr ≡ None → (peer : Option ℕ) → peer_of s.phase ≡ peer → Q (send_connected S limit s.write_shut peer m)
    to_peer plain None is = λ h. absurd (cc h)
    to_peer plain (Some t) is = maybe Q (socket_at S t) _ _ (λ h. absurd (cc h))
        (λ other there. either Q (s.write_shut || other.read_shut) _ _ (λ b h. absurd (cc h))
        (λ b. either Q (is_too_long other m) _ _ (λ c h. absurd (cc h))
        (λ c h.
        let f = enqueue_full S limit t other m h in
        let parts = or_parts s.write_shut other.read_shut b in
        record {
          plain = plain;
          awaits = record { peer = t; other = other; to = is; there = there; full = f.full; writes = parts.0; reads = parts.1 };
          goes = some_go other.kind m.bytes c f.some;
          few = f.few;
        })))

    stream : (a : Option Addr) → addr ≡ a → Q (send_stream S limit s.write_shut (peer_of s.phase) a m)
    stream None plain = to_peer plain (peer_of s.phase) refl
    stream (Some a) plain = λ h. absurd (refused (is_some (peer_of s.phase)) h)
      where
        refused : (b : Bool) → Reply.Err (if b then Errno.EISCONN else Errno.EOPNOTSUPP) ≡ Reply.Err Errno.EAGAIN → ⊥
        refused true h = cc h
        refused false h = cc h

-- a refusal of credentials is none to wait
pub given_no_wait : (S : State) (p : ℕ) (P : Process) (given : Option Cred) (e : Errno) → sender_cred_refusal S p P given ≡ Some e →
    Reply.Err e ≡ Reply.Err Errno.EAGAIN → ⊥
given_no_wait S p P None e is h = cc is
given_no_wait S p P (Some c) e is h = by_kind P.privileged (is_live S c.pid.0) (same_cred c (own_cred p P)) is
  where
    by_kind : (b lives alike : Bool) → (if b then (if lives then None else Some Errno.ESRCH)
        else (if alike then None else Some Errno.EPERM)) ≡ Some e → ⊥
    by_kind true true alike k = cc k
    by_kind true false alike k = let clash : Reply.Err Errno.ESRCH ≡ Reply.Err Errno.EAGAIN =
        ap (λ (o : Option Errno). elim o as (λ _. Reply) [ None ↦ Reply.Ok | Some x ↦ Reply.Err x ]) k ∙ h in cc clash
    by_kind false lives true k = cc k
    by_kind false lives false k = let clash : Reply.Err Errno.EPERM ≡ Reply.Err Errno.EAGAIN =
        ap (λ (o : Option Errno). elim o as (λ _. Reply) [ None ↦ Reply.Ok | Some x ↦ Reply.Err x ]) k ∙ h in cc clash

pub at_found : (Q : Outcome → Type 0) (S : State) (p d : ℕ) (fd : Fd) (s : Socket) (rest : ℕ → Socket → Outcome) →
    find_socket S p fd ≡ Ok (d, s) → Q (rest d s) →
    Q (elim (find_socket S p fd) as (λ _. Outcome) [ Err e ↦ refuse S e | Ok w ↦ rest w.0 w.1 ])
at_found Q S p d fd s rest found h = subst
    (λ (r : Result (ℕ × Socket) Errno). Q (elim r as (λ _. Outcome) [ Err e ↦ refuse S e | Ok w ↦ rest w.0 w.1 ])) (sym found) h

send_waits : (S : State) (p tag d : ℕ) (fd : Fd) (addr : Option Addr) (bytes control : List ℕ) (flags : MsgFlags) (s : Socket) →
    find_socket S p fd ≡ Ok (d, s) → is_dgram s.kind ≡ false →
    (send_msg S p tag fd addr bytes control flags).reply ≡ Reply.Err Errno.EAGAIN → AwaitsRoom S s
unfolding send_msg send_read send_with
send_waits S p tag d fd addr bytes control flags s found kind = maybe Q (process_at S p) _ _ (λ h. absurd (cc h))
    (λ P here. at_found Q S p d fd s _ found
    (either Q (not (are_send_flags flags)) _ _ (λ b h. absurd (cc h)) (λ b. by_control P (control_in control))))
  where
    Q : Outcome → Type 0
    Q o = o.reply ≡ Reply.Err Errno.EAGAIN → AwaitsRoom S s

    by_given : (P : Process) (given : Option Cred) (rights : List ℕ) → Q (send_as S (sending tag p P addr bytes) d s given rights)
    by_given P given rights = go (sender_cred_refusal S p P given) refl
      where
        go : (o : Option Errno) → sender_cred_refusal S p P given ≡ o → Q (elim o as (λ _. Outcome) [
          | Some e ↦ refuse S e
          | None ↦ if not (is_sendable_addr addr) then refuse S Errno.EINVAL
              else send_from S (flight_limit P) d s addr (message_of (sending tag p P addr bytes) (sent_cred p P given) rights)
        ])
        go (Some e) is = λ h. absurd (given_no_wait S p P given e is h)
        go None is = either Q (not (is_sendable_addr addr)) _ _ (λ b h. absurd (cc h))
            (λ b h. (from_waits S (flight_limit P) d s addr (message_of (sending tag p P addr bytes) (sent_cred p P given) rights) kind
            h).awaits)

    by_control : (P : Process) (o : Option Control) → Q (send_read S (sending tag p P addr bytes) d s o)
    by_control P None = λ h. absurd (cc h)
    by_control P (Some x) = either Q (not (is_sendable_control s.kind bytes x)) _ _ (λ b h. absurd (cc h))
        (λ b. maybe Q (descriptions_behind (table_of S p) x.rights) _ _ (λ h. absurd (cc h)) (λ rights behind. by_given P x.cred rights))

write_waits : (S : State) (p tag d : ℕ) (fd : Fd) (bytes : List ℕ) (s : Socket) → LeadsToSocket S p fd d s → is_dgram s.kind ≡ false →
    (write S p tag fd bytes).reply ≡ Reply.Err Errno.EAGAIN → AwaitsRoom S s
unfolding write
write_waits S p tag d fd bytes s l kind h = by_process (sym (ap (λ (o : Outcome). o.reply) is) ∙ h)
  where
    by_target : Descriptor → Description → Target → Outcome
    by_target x D t = elim t as (λ _. Outcome) [
      | to_object o ↦ on_object S o (λ view. write_object S x.description D o view bytes)
      | to_socket u ↦ as_process S p (λ Q. write_socket S (sending tag p Q None bytes) x.description u)
    ]

    is : write S p tag fd bytes ≡ as_process S p (λ Q. write_socket S (sending tag p Q None bytes) l.entry.description s)
    is = ap (λ (r : Result (Descriptor × Description) Errno). elim r as
        (λ _. Outcome) [ Err x ↦ refuse S x | Ok w ↦ by_target w.0 w.1 w.1.target ]) l.found
        ∙ ap (λ (t : Target). by_target l.entry l.description t) l.leads

    by_process : (as_process S p (λ Q. write_socket S (sending tag p Q None bytes) l.entry.description s)).reply ≡ Reply.Err Errno.EAGAIN →
        AwaitsRoom S s
    by_process = maybe (λ o. o.reply ≡ Reply.Err Errno.EAGAIN → AwaitsRoom S s) (process_at S p) _ _ (λ g. absurd (cc g))
        (λ P here g. (from_waits S (flight_limit P) l.entry.description s None
        (message_of (sending tag p P None bytes) (own_cred p P) []) kind g).awaits)

step_send_waits : (S T : State) (p tag d : ℕ) (fd : Fd) (addr : Option Addr) (bytes control : List ℕ) (flags : MsgFlags) (s : Socket)
    (reply : Reply) (gone : List ℕ) → find_socket S p fd ≡ Ok (d, s) → is_dgram s.kind ≡ false →
    Step S p tag (Request.SendMsg fd addr bytes control flags) reply gone T → reply ≡ Reply.Err Errno.EAGAIN → AwaitsRoom S s
unfolding Step outcome
step_send_waits S T p tag d fd addr bytes control flags s reply gone found kind step h =
    send_waits S p tag d fd addr bytes control flags s found kind
    (chosen_again S step.0 (send_msg S p tag fd addr bytes control flags) reply step.1 h)

step_write_waits : (S T : State) (p tag d : ℕ) (fd : Fd) (bytes : List ℕ) (s : Socket) (reply : Reply) (gone : List ℕ) →
    LeadsToSocket S p fd d s → is_dgram s.kind ≡ false → Step S p tag (Request.Write fd bytes) reply gone T →
    reply ≡ Reply.Err Errno.EAGAIN → AwaitsRoom S s
unfolding Step outcome
step_write_waits S T p tag d fd bytes s reply gone l kind step h =
    write_waits S p tag d fd bytes s l kind (chosen_again S step.0 (write S p tag fd bytes) reply step.1 h)

pub sends_wait : SendsWait
sends_wait boot es j d e fd addr bytes control flags s legal at request found kind reply =
    let S : State = before boot es j in
    step_send_waits S (before boot es (suc j)) e.pid.0 j d fd addr bytes control flags s e.reply e.released found kind
    (subst (λ (r : Request). Step S e.pid.0 j r e.reply e.released (before boot es (suc j))) request (moment boot es j e legal at).steps)
    reply

pub writes_wait : WritesWait
writes_wait boot es j d e fd bytes s legal at request through kind reply =
    let S : State = before boot es j in
    let led : socket_through S e.pid.0 (Request.Write fd bytes) ≡ Some (d, s) = sym (ap (socket_through S e.pid.0) request) ∙ through in
    step_write_waits S (before boot es (suc j)) e.pid.0 j d fd bytes s e.reply e.released
    (leads_to_socket S e.pid.0 d fd s (socket_is_found S e.pid.0 d fd s (Request.Write fd bytes) refl led)) kind
    (subst (λ (r : Request). Step S e.pid.0 j r e.reply e.released (before boot es (suc j))) request (moment boot es j e legal at).steps)
    reply

-- ---- the limit of a queue

limit_is : (S : State) (d : ℕ) (s : Socket) → socket_at S d ≡ Some s → limit_in (description_at S d) ≡ s.queue_limit
limit_is S d s there = at_place (description_at S d) there
  where
    at_target : (t : Target) → socket_of t ≡ Some s → limit_of t ≡ s.queue_limit
    at_target (to_object o) h = absurd (cc h)
    at_target (to_socket u) h = let one : u ≡ s = cc h in ap (λ (w : Socket). w.queue_limit) one

    at_place : (x : Option Description) → socket_in x ≡ Some s → limit_in x ≡ s.queue_limit
    at_place None h = absurd (cc h)
    at_place (Some D) h = at_target D.target h

limit_changed : (T : State) (t k : ℕ) (change : Socket → Socket) → ((s : Socket) → (change s).queue_limit ≡ s.queue_limit) →
    limit_in (description_at (with_socket_by T t change) k) ≡ limit_in (description_at T k)
limit_changed T t k change keeps = ap limit_in (place-changed T.descriptions t k (changed change)) ∙ by_place (t == k)
  where
    at_target : (u : Target) → limit_of (changed_target change u) ≡ limit_of u
    at_target (to_object o) = refl
    at_target (to_socket s) = keeps s

    at_place : (x : Option Description) → limit_in (option_map (changed change) x) ≡ limit_in x
    at_place None = refl
    at_place (Some D) = at_target D.target

    by_place : (b : Bool) → limit_in (cond b (option_map (changed change) (description_at T k)) (description_at T k)) ≡ limit_in
        (description_at T k)
    by_place true = at_place (description_at T k)
    by_place false = refl

set_opt_limit : (S : State) (p k : ℕ) (fd : Fd) (opt : SockOpt) (value : ℕ) →
    (opt ≡ SockOpt.QueueLimit → is_number k (socket_behind S p fd) ≡ false) →
    limit_in (description_at (set_opt S p fd opt value).next k) ≡ limit_in (description_at S k)
unfolding set_opt
set_opt_limit S p k fd opt value elsewhere = by_socket Q S p fd _ (λ e. refl) (λ d s found there. by_option d s found opt refl)
  where
    Q : Outcome → Type 0
    Q o = limit_in (description_at o.next k) ≡ limit_in (description_at S k)

    by_option : (d : ℕ) (s : Socket) → find_socket S p fd ≡ Ok (d, s) → (o : SockOpt) → opt ≡ o → Q (change_option S d s value o)
    by_option d s found SockOpt.Kind is = refl
    by_option d s found SockOpt.Error is = refl
    by_option d s found SockOpt.PassCred is = either Q (value == 0) _ _ (λ b. limit_changed S d k (with_passcred false) (λ u. refl))
        (λ b. either Q (not (is_unnamed_addr s.name) || is_some (tied_socket s.phase)) _ _
        (λ c. limit_changed S d k (with_passcred true) (λ u. refl))
        (λ c. maybe Q (free_name S.abstract_names) _ _ refl
        (λ name free. limit_changed (with_abstract S d name) d k (with_passcred true) (λ u. refl)
        ∙ limit_changed S d k (with_name (Addr.Abstract name)) (λ u. refl))))
    by_option d s found SockOpt.PeerCred is = refl
    by_option d s found SockOpt.AcceptConn is = refl
    by_option d s found SockOpt.QueueLimit is =
        either Q (not (is_stream s.kind)) _ _ (λ b. refl) (λ b. either Q (not (may_limit value)) _ _ (λ c. refl)
        (λ c.
        let apart : (d == k) ≡ false = sym (ap (is_number k) (behind_is S p d fd s found)) ∙ elsewhere is in
        ap limit_in (place-changed S.descriptions d k (changed (with_queue_limit value))
        ∙ ap (λ x. cond x (option_map (changed (with_queue_limit value)) (description_at S k)) (description_at S k)) apart)))

-- of the calls that set no limit of this socket's queue
abbrev pub NoLimit : State → ℕ → ℕ → Request → Type 0
NoLimit S p k request = (fd : Fd) (value : ℕ) → request ≡ Request.SetOpt fd SockOpt.QueueLimit value →
    is_number k (socket_behind S p fd) ≡ false

chosen_set_opt : (S U : State) (p tag k : ℕ) (fd : Fd) (opt : SockOpt) (value : ℕ) (reply : Reply) →
    (opt ≡ SockOpt.QueueLimit → is_number k (socket_behind S p fd) ≡ false) →
    Chosen S (outcome S p tag (Request.SetOpt fd opt value)) reply U →
    limit_in (description_at U k) ≡ limit_in (description_at S k)
unfolding outcome
chosen_set_opt S U p tag k fd opt value reply elsewhere (own e f) = ap (λ (V : State). limit_in (description_at V k)) f
    ∙ set_opt_limit S p k fd opt value elsewhere
chosen_set_opt S U p tag k fd opt value reply elsewhere (lacking_memory e may f) = ap (λ (V : State). limit_in (description_at V k)) f
chosen_set_opt S U p tag k fd opt value reply elsewhere (failing e f) =
    ap (λ (V : State). limit_in (description_at V k)) ((each_obeys S p tag (Request.SetOpt fd opt value)).failed U f).0.left

is_one : (request : Request) → sets_option request ≡ true →
    (fd : Fd) × (opt : SockOpt) × (value : ℕ) × (request ≡ Request.SetOpt fd opt value)
is_one (Request.SetOpt fd opt value) h = (fd, opt, value, refl)
is_one request h = absurd (false≢true h)

pub limit_kept : (S T : State) (p tag k : ℕ) (request : Request) (reply : Reply) (gone : List ℕ) (u v : Socket) →
    Step S p tag request reply gone T → NoLimit S p k request → socket_at S k ≡ Some u → socket_at T k ≡ Some v →
    v.queue_limit ≡ u.queue_limit
limit_kept S T p tag k request reply gone u v step none here there = sym (limit_is T k v there)
    ∙ by_lost (subst (λ (V : State). Lost b.0 V k) (sym b.3) (settled_lost b.0 k)) ∙ limit_is S k u here
  where
    b : (U : State) × Chosen S (outcome S p tag request) reply U × Did S p tag request reply U × (T ≡ settled U)
    b = step_between S T p tag request reply gone step

    by_near : (U : State) → NearAt S p request k (description_at U k) → sets_option request ≡ false → is_some (description_at U k) ≡ true →
        limit_in (description_at U k) ≡ limit_in (description_at S k)
    by_near U (stays e) other here = ap limit_in e
    by_near U (reached r keeps) other here = keeps.3 other
    by_near U (new more keeps) other here = keeps.3 other
    by_near U (dropped off e) other here = absurd (false≢true (sym (ap is_some e) ∙ here))

    set_one : (U : State) (r : Request) → request ≡ r → (fd : Fd) (opt : SockOpt) (value : ℕ) → r ≡ Request.SetOpt fd opt value →
        Chosen S (outcome S p tag request) reply U → limit_in (description_at U k) ≡ limit_in (description_at S k)
    set_one U r is fd opt value one c = chosen_set_opt S U p tag k fd opt value reply
        (λ queue. none fd value (is ∙ one ∙ ap (λ (o : SockOpt). Request.SetOpt fd o value) queue))
        (subst (λ (x : Request). Chosen S (outcome S p tag x) reply U) (is ∙ one) c)

    before_end : (U : State) → Chosen S (outcome S p tag request) reply U → is_some (description_at U k) ≡ true →
        limit_in (description_at U k) ≡ limit_in (description_at S k)
    before_end U c here = bool_cases (sets_option request) (λ x. let w = is_one request x in set_one U request refl w.0 w.1 w.2 w.3 c)
        (λ x. by_near U ((chosen_near S U p tag request reply c).each k) x here)

    reset_limit : (D : Description) → limit_in (Some (changed (with_reset true) D)) ≡ limit_in (Some D)
    reset_limit D = at_target D.target
      where
        at_target : (t : Target) → limit_of (changed_target (with_reset true) t) ≡ limit_of t
        at_target (to_object o) = refl
        at_target (to_socket s) = refl

    at_end : is_some (description_at T k) ≡ true
    at_end = there_of T k v there

    by_lost : Lost b.0 T k → limit_in (description_at T k) ≡ limit_in (description_at S k)
    by_lost (same e) = ap limit_in e ∙ before_end b.0 b.1 (sym (ap is_some e) ∙ at_end)
    by_lost (lost e) = absurd (false≢true (sym (ap is_some e) ∙ at_end))
    by_lost (reset r had) = ap limit_in r.left ∙ reset_limit r.description ∙ sym (ap limit_in r.there)
        ∙ before_end b.0 b.1 (ap is_some r.there)

-- a new limit of this socket's queue, or none
by_limiting : (S : State) (p k : ℕ) (request : Request) (Goal : Type 0) →
    ((fd : Fd) (value : ℕ) → request ≡ Request.SetOpt fd SockOpt.QueueLimit value → socket_behind S p fd ≡ Some k → Goal) →
    (NoLimit S p k request → Goal) → Goal
by_limiting S p k request Goal limits rest = by_request request refl
  where
    on : (fd : Fd) (value : ℕ) → request ≡ Request.SetOpt fd SockOpt.QueueLimit value → (o : Option ℕ) → socket_behind S p fd ≡ o →
        (b : Bool) → is_number k o ≡ b → Goal
    on fd value is o behind false h = rest (λ f w also. let one : fd ≡ f = fd_same (sym is ∙ also) in
        ap (λ (x : Fd). is_number k (socket_behind S p x)) (sym one) ∙ ap (is_number k) behind ∙ h)
      where
        fd_same : {a b : Fd} {x y : ℕ} → Request.SetOpt a SockOpt.QueueLimit x ≡ Request.SetOpt b SockOpt.QueueLimit y → a ≡ b
        fd_same h = cc h
    on fd value is None behind true h = absurd (false≢true h)
    on fd value is (Some n) behind true h = limits fd value is (behind ∙ ap Some (eqb-true n k h))

    limits_queue : SockOpt → Bool
    limits_queue SockOpt.QueueLimit = true
    limits_queue _ = false

    is_limiting : Request → Bool
    is_limiting (Request.SetOpt fd opt value) = limits_queue opt
    is_limiting _ = false

    other : (r : Request) → request ≡ r → is_limiting r ≡ false → Goal
    other r is h = rest (λ fd value also. absurd (false≢true (sym h ∙ ap is_limiting (sym is ∙ also))))

    by_option : (fd : Fd) (value : ℕ) (opt : SockOpt) → request ≡ Request.SetOpt fd opt value → Goal
    by_option fd value SockOpt.QueueLimit is = on fd value is (socket_behind S p fd) refl (is_number k (socket_behind S p fd)) refl
    by_option fd value SockOpt.Kind is = other _ is refl
    by_option fd value SockOpt.Error is = other _ is refl
    by_option fd value SockOpt.PassCred is = other _ is refl
    by_option fd value SockOpt.PeerCred is = other _ is refl
    by_option fd value SockOpt.AcceptConn is = other _ is refl

    by_request : (r : Request) → request ≡ r → Goal
    by_request (Request.SetOpt fd opt value) is = by_option fd value opt is
    by_request r is = other r is refl

-- ---- the queue

-- a full queue is as it was, or something was taken from it
queue_kept : (S T : State) (p tag k : ℕ) (request : Request) (reply : Reply) (u v : Socket) → Flow S p tag request reply T →
    socket_at S k ≡ Some u → socket_at T k ≡ Some v → has_room u ≡ false →
    (v.queue ≡ u.queue) ⊎ ((receives_through S k p request ≡ true) × (is_peek request ≡ false) × (is_given reply ≡ true))
queue_kept S T p tag k request reply u v flow here there full = by_flow flow
  where
    shrunk : (V : State) → Shrinks V T → waiting_at V k ≡ u.queue → v.queue ≡ u.queue
    shrunk V sh h = ⊎_elim {C = v.queue ≡ u.queue} (λ e. sym (waiting_is T k v there) ∙ ap (λ (g : Glance). waiting_in g.0) e ∙ h)
        (λ e. let clash : None ≡ Some _ = sym (ap (λ (g : Glance). g.0) e) ∙ ap (λ (g : Glance). g.0) (glance_socket T k v there) in
        absurd (cc clash)) (sh.each k)

    by_flow : Flow S p tag request reply T →
        (v.queue ≡ u.queue) ⊎ ((receives_through S k p request ≡ true) × (is_peek request ≡ false) × (is_given reply ≡ true))
    by_flow (calm V c moves sh) = inl (shrunk V sh (c.waiting k ∙ waiting_is S k u here))
    by_flow (put_in t m a sh) = bool_cases (t == k)
        (λ e.
        let both : Some a.target ≡ Some u = sym (ap (λ (i : ℕ). socket_at S i) (sym (eqb-true t k e)) ∙ a.there) ∙ here in
        let one : a.target ≡ u = cc both in
        absurd (false≢true (sym full ∙ sym (ap has_room one) ∙ a.room)))
        (λ e. inl (shrunk (with_socket_by S t (sent m)) sh
        (changed_waiting S t k (sent m) a.target a.there ∙ ap (λ b. cond b (sent m a.target).queue (waiting_at S k)) e
        ∙ waiting_is S k u here)))
    by_flow (taken t n s m ms a sh) = bool_cases (t == k)
        (λ e. inr (receives_there S p t k n request reply s m ms a ∙ e, a.takes, a.gives))
        (λ e. inl (shrunk (with_socket_by S t (with_queue (front_of n s m ms).rest)) sh
        (changed_waiting S t k (with_queue (front_of n s m ms).rest) s a.there
        ∙ ap (λ b. cond b (front_of n s m ms).rest (waiting_at S k)) e ∙ waiting_is S k u here)))

room_kept : (u v : Socket) → v.kind ≡ u.kind → v.queue ≡ u.queue → v.queue_limit ≡ u.queue_limit → has_room v ≡ has_room u
room_kept u v kind queue limit =
    ap (λ k. room k v.queue v.queue_limit) kind ∙ ap (λ q. room u.kind q v.queue_limit) queue ∙ ap (λ n. room u.kind u.queue n) limit
  where
    room : SockType → List Message → ℕ → Bool
    room k q n = if is_stream k then not (n - queued_bytes q == 0) else nat_lt (length q) record_limit

-- ---- the law

pub send_waits_end : SendWaitsEnd
send_waits_end boot es j d e s t legal at here awaits there =
    by_shutting S e.pid.0 d e.request Goal (λ fd how is behind. inr (by_shut d fd how is behind (inl refl)))
    (λ here_not. by_shutting S e.pid.0 awaits.peer e.request Goal
    (λ fd how is behind. inr (by_shut awaits.peer fd how is behind (inr awaits.to)))
    (λ peer_not. by_limiting S e.pid.0 awaits.peer e.request Goal
    (λ fd value is behind. inr (by_limit awaits.peer fd value awaits.to is behind))
    (λ no_limit. by_peer here_not peer_not no_limit (description_at T awaits.peer) refl)))
  where
    S : State
    S = before boot es j

    T : State
    T = before boot es (suc j)

    step : Step S e.pid.0 j e.request e.reply e.released T
    step = (moment boot es j e legal at).steps

    Goal : Type 0
    Goal = AwaitsRoom (before boot es (suc j)) t ⊎ GivesRoom (before boot es j) e d s (before boot es (suc j))

    did : Did S e.pid.0 j e.request e.reply T
    did = step_did S T e.pid.0 j e.request e.reply e.released step

    by_peer : Elsewhere S e.pid.0 d e.request → Elsewhere S e.pid.0 awaits.peer e.request → NoLimit S e.pid.0 awaits.peer e.request →
        (x : Option Description) → description_at T awaits.peer ≡ x → Goal
    by_peer here_not peer_not no_limit None h = inr (by_end awaits.peer awaits.to h)
    by_peer here_not peer_not no_limit (Some D) h =
        let o = socket_stays S T e.pid.0 j awaits.peer e.request e.reply awaits.other D did awaits.there h in
        let mine = flags_kept S T e.pid.0 j d e.request e.reply e.released s t step here_not here there in
        let its = flags_kept S T e.pid.0 j awaits.peer e.request e.reply e.released awaits.other o.0 step peer_not awaits.there o.1 in
        let limit = limit_kept S T e.pid.0 j awaits.peer e.request e.reply e.released awaits.other o.0 step no_limit awaits.there o.1 in
        let tie = parts_stay S T e.pid.0 j d e.request e.reply s t did here there in
        let kind = parts_stay S T e.pid.0 j awaits.peer e.request e.reply awaits.other o.0 did awaits.there o.1 in
        ⊎_elim {C = AwaitsRoom (before boot es (suc j)) t ⊎ GivesRoom (before boot es j) e d s (before boot es (suc j))}
        (λ queue. inl (record {
          peer = awaits.peer;
          other = o.0;
          to = tie.1 awaits.peer awaits.to;
          there = o.1;
          full = room_kept awaits.other o.0 kind.0 queue limit ∙ awaits.full;
          writes = mine.1 ∙ awaits.writes;
          reads = its.0 ∙ awaits.reads;
        }))
        (λ w. inr (by_receive awaits.peer awaits.to w.0 w.1 w.2))
        (queue_kept S T e.pid.0 j awaits.peer e.request e.reply awaits.other o.0 (step_flow S T e.pid.0 j e.request e.reply e.released step)
        awaits.there o.1 awaits.full)
