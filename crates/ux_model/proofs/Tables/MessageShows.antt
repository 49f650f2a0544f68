-- So do sends and receives.
use Rattle.std.proofs.Common.{◌≡◌, ◌⊎◌, ℕ, suc, ◌≤◌, Bool, true, false, not, ◌&&◌, ◌||◌, ◌==◌, cond, if◌then◌else◌, List, []}
use Rattle.std.proofs.Common.{◌∷◌, length, take, min, Option, Some, None, Ok, Err, refl, ap, sym, ◌∙◌, subst}
use Rattle.std.proofs.Common.{inl, inr, arith}
use Rattle.std.specs.Prelude.{nat_lt}
use Rattle.std.proofs.lemmas.Bool.{eqb-true, and_parts}
use Rattle.ux_model.specs.Types.{Errno, Fd, Cred, Addr, MsgFlags, Request, Reply}
use Rattle.ux_model.specs.Limits.{record_bytes_limit}
use Rattle.ux_model.specs.Flags.{asks_cloexec_rights, asks_peek, are_receive_flags, are_send_flags}
use Rattle.ux_model.specs.Message.{Message, queued_bytes}
use Rattle.ux_model.specs.Stream.{joined_run, rights_within}
use Rattle.ux_model.specs.Front.{Front, stream_front, record_front, front_of}
use Rattle.ux_model.specs.Control.{Control}
use Rattle.ux_model.specs.ControlReading.{control_in}
use Rattle.ux_model.specs.Socket.{Socket, is_stream, is_dgram, peer_of, association_of}
use Rattle.ux_model.specs.Socket.{takes_from, has_room, sent_part, sent, with_reset, with_association}
use Rattle.ux_model.specs.Socket.{with_queue}
use Rattle.ux_model.specs.Process.{Process, Descriptor, free_numbers}
use Rattle.ux_model.specs.Delivery.{delivery, installed, install_count, space_for_rights}
use Rattle.ux_model.specs.State.{State, process_at, socket_at, table_of}
use Rattle.ux_model.specs.State.{with_socket_by, with_table}
use Rattle.ux_model.specs.Outcome.{Outcome, refuse, answer, find_socket}
use Rattle.ux_model.specs.Delivered.{Brought, nothing_brought, brought, brought_from}
use Rattle.ux_model.specs.Sending.{sending, message_of, flight_limit, is_over_limit, enqueue, is_too_long, send_connected, send_stream}
use Rattle.ux_model.specs.Sending.{send_from, is_sendable_addr, is_sendable_control, sender_cred_refusal, sent_cred, send_as, send_with}
use Rattle.ux_model.specs.Sending.{send_read, send_msg, descriptions_behind}
use Rattle.ux_model.proofs.Messages.Datagrams.{send_to_target, send_by_association, send_by}
use Rattle.ux_model.specs.Receiving.{Incoming, incoming, with_installed, receive_front, nothing_received, at_end, receive, recv_msg}
use Rattle.ux_model.specs.Giving.{given, sent_by, rights_in}
use Rattle.ux_model.specs.Changes.{ChangesTables}
use Rattle.ux_model.proofs.Changes.Walk.{either, maybe, by_queue, found_named}
use Rattle.ux_model.proofs.Lists.ByPlace.{take_none, take_few}
use Rattle.ux_model.proofs.Lists.Rising.{Rise, rise_free, rise_take}
use Rattle.ux_model.proofs.Tables.Queues.{Quiet, Mail, MayCarry, quiet_mail, quiet_table}
use Rattle.ux_model.proofs.Tables.Queues.{quiet_socket, sent_mail, taken_mail}
use Rattle.ux_model.proofs.Tables.Replacing.{Replaces, replaced_table, replaced_none, replaced_alike, tells_child}
use Rattle.ux_model.proofs.Tables.Replacing.{gives_none, IsPlain, keeps_table, installs}
use Rattle.ux_model.proofs.Tables.Shows.{Shows, silent, refuses, answers, by_socket}

-- ---- sending

enqueue_shows : (S : State) (p tag : ℕ) (request : Request) (limit : Option ℕ) (d : ℕ) (other : Socket) (m : Message) → IsPlain request →
    MayCarry S p tag request m →
    Shows S p tag request (enqueue S limit d other m)
enqueue_shows S p tag request limit d other m plain may =
    either (Shows S p tag request) (is_stream other.kind && (length m.bytes == 0)) _ _
    (λ b. answers plain refl (gives_none S p request (Reply.Count 0) refl) refl (silent S))
    (λ b. either (Shows S p tag request) (is_over_limit S limit m) _ _ (λ c. refuses plain.no_end)
    (λ c. either (Shows S p tag request) (not (has_room other)) _ _ (λ e. refuses plain.no_end)
    (λ e. record {
      tables = keeps_table S (with_socket_by S d (sent m)) p request (Reply.Count (length (sent_part other m).bytes)) plain
          (replaced_none S (with_socket_by S d (sent m)) p refl)
          (gives_none S p request (Reply.Count (length (sent_part other m).bytes)) refl) refl;
      mail = sent_mail S p tag d request m may;
    })))

to_peer_shows : (S : State) (p tag : ℕ) (request : Request) (limit : Option ℕ) (shut : Bool) (peer : Option ℕ) (m : Message) →
    IsPlain request → MayCarry S p tag request m →
    Shows S p tag request (send_connected S limit shut peer m)
to_peer_shows S p tag request limit shut None m plain may = refuses plain.no_end
to_peer_shows S p tag request limit shut (Some d) m plain may = maybe (Shows S p tag request) (socket_at S d) _ _ (refuses plain.no_end)
    (λ other h. either (Shows S p tag request) (shut || other.read_shut) _ _ (λ b. refuses plain.no_end)
    (λ b. either (Shows S p tag request) (is_too_long other m) _ _ (λ c. refuses plain.no_end)
    (λ c. enqueue_shows S p tag request limit d other m plain may)))

by_stream_shows : (S : State) (p tag : ℕ) (request : Request) (limit : Option ℕ) (shut : Bool) (peer : Option ℕ) (addr : Option Addr)
    (m : Message) → IsPlain request → MayCarry S p tag request m →
    Shows S p tag request (send_stream S limit shut peer addr m)
by_stream_shows S p tag request limit shut peer None m plain may = to_peer_shows S p tag request limit shut peer m plain may
by_stream_shows S p tag request limit shut peer (Some addr) m plain may = refuses plain.no_end

to_target_shows : (S : State) (p tag : ℕ) (request : Request) (limit : Option ℕ) (d t : ℕ) (target : Socket) (m : Message) →
    IsPlain request → MayCarry S p tag request m →
    Shows S p tag request (send_to_target S limit d t target m)
to_target_shows S p tag request limit d t target m plain may =
    either (Shows S p tag request) (not (takes_from d target.phase)) _ _ (λ b. refuses plain.no_end)
    (λ b. either (Shows S p tag request) target.read_shut _ _ (λ c. refuses plain.no_end)
    (λ c. enqueue_shows S p tag request limit t target m plain may))

-- an association that ends leaves the tables
ended_shows : (S : State) (p tag d : ℕ) (request : Request) → IsPlain request →
    Shows S p tag request (answer (Reply.Err Errno.ECONNREFUSED) (with_socket_by S d (with_association None)))
ended_shows S p tag d request plain = answers plain refl (gives_none S p request (Reply.Err Errno.ECONNREFUSED) refl) refl
    (quiet_socket S d (with_association None) (λ s. refl))

by_association_shows : (S : State) (p tag : ℕ) (request : Request) (limit : Option ℕ) (d : ℕ) (target : Option ℕ) (m : Message) →
    IsPlain request → MayCarry S p tag request m →
    Shows S p tag request (send_by_association S limit d target m)
by_association_shows S p tag request limit d None m plain may = refuses plain.no_end
by_association_shows S p tag request limit d (Some t) m plain may =
    maybe (Shows S p tag request) (socket_at S t) _ _ (ended_shows S p tag d request plain)
    (λ target h. to_target_shows S p tag request limit d t target m plain may)

send_by_shows : (S : State) (p tag : ℕ) (request : Request) (limit : Option ℕ) (d : ℕ) (s : Socket) (addr : Option Addr) (m : Message) →
    IsPlain request → MayCarry S p tag request m →
    Shows S p tag request (send_by S limit d s addr m)
send_by_shows S p tag request limit d s None m plain may = by_association_shows S p tag request limit d (association_of s.phase) m plain may
send_by_shows S p tag request limit d s (Some addr) m plain may =
    found_named (Shows S p tag request) S s.kind addr _ (refuses plain.no_end) (refuses plain.no_end) (refuses plain.no_end)
    (refuses plain.no_end)
    (λ t target there. to_target_shows S p tag request limit d t target m plain may)

pub from_shows : (S : State) (p tag : ℕ) (request : Request) (limit : Option ℕ) (d : ℕ) (s : Socket) (addr : Option Addr) (m : Message) →
    IsPlain request → MayCarry S p tag request m →
    Shows S p tag request (send_from S limit d s addr m)
from_shows S p tag request limit d s addr m plain may = either (Shows S p tag request) (is_dgram s.kind) _ _
    (λ b. either (Shows S p tag request) (nat_lt record_bytes_limit (length m.bytes)) _ _ (λ c. refuses plain.no_end)
    (λ c. either (Shows S p tag request) s.write_shut _ _ (λ e. refuses plain.no_end)
    (λ e. send_by_shows S p tag request limit d s addr (record m { from = Some s.name }) plain may)))
    (λ b. by_stream_shows S p tag request limit s.write_shut (peer_of s.phase) addr m plain may)

-- ENOMEM and failures are no part of what is shown
pub shown_alike : {S : State} {p tag : ℕ} {request : Request} (o u : Outcome) → u.reply ≡ o.reply → u.next ≡ o.next →
    Shows S p tag request o →
    Shows S p tag request u
shown_alike {S} {p} {tag} {request} o u r t shows = record {
  tables = subst (λ (x : Reply). ChangesTables S p request x u.next) (sym r)
      (subst (λ (T : State). ChangesTables S p request o.reply T) (sym t) shows.tables);
  mail = subst (λ (T : State). Mail S p tag request T) (sym t) shows.mail;
}

pub send_shows : (S : State) (p tag : ℕ) (fd : Fd) (addr : Option Addr) (bytes control : List ℕ) (flags : MsgFlags) →
    Shows S p tag (Request.SendMsg fd addr bytes control flags) (send_msg S p tag fd addr bytes control flags)
unfolding send_msg send_read send_with
send_shows S p tag fd addr bytes control flags =
    maybe Q (process_at S p) _ _ (refuses refl) (λ P here. by_socket Q S p fd _ (λ e. refuses refl)
    (λ d s h there. either Q (not (are_send_flags flags)) _ _ (λ b. refuses refl)
    (λ b. shown_alike (send_read S (sending tag p P addr bytes) d s (control_in control)) _ refl refl
    (by_control P d s (control_in control) refl))))
  where
    Q : Outcome → Type 0
    Q o = Shows S p tag (Request.SendMsg fd addr bytes control flags) o

    plain : IsPlain (Request.SendMsg fd addr bytes control flags)
    plain = record { no_end = refl; keeps = λ n held. refl }

    by_given : (P : Process) (d : ℕ) (s : Socket) (given : Option Cred) (rights : List ℕ) →
        descriptions_behind (table_of S p) (sent_by (Request.SendMsg fd addr bytes control flags)) ≡ Some rights →
        Shows S p tag (Request.SendMsg fd addr bytes control flags) (send_as S (sending tag p P addr bytes) d s given rights)
    by_given P d s given rights behind = by_refusal (sender_cred_refusal S p P given)
      where
        by_refusal : (o : Option Errno) → Shows S p tag (Request.SendMsg fd addr bytes control flags) (elim o as (λ _. Outcome) [
          | Some e ↦ refuse S e
          | None ↦ if not (is_sendable_addr addr) then refuse S Errno.EINVAL
              else send_from S (flight_limit P) d s addr (message_of (sending tag p P addr bytes) (sent_cred p P given) rights)
        ])
        by_refusal (Some e) = refuses refl
        by_refusal None = either Q (not (is_sendable_addr addr)) _ _ (λ b. refuses refl)
            (λ b. from_shows S p tag (Request.SendMsg fd addr bytes control flags) (flight_limit P) d s addr
            (message_of (sending tag p P addr bytes) (sent_cred p P given) rights) plain (refl, λ rich. behind))

    by_control : (P : Process) (d : ℕ) (s : Socket) (o : Option Control) → control_in control ≡ o →
        Shows S p tag (Request.SendMsg fd addr bytes control flags) (send_read S (sending tag p P addr bytes) d s o)
    by_control P d s None h = refuses refl
    by_control P d s (Some c) h = either Q (not (is_sendable_control s.kind bytes c)) _ _ (λ b. refuses refl)
        (λ b. maybe Q (descriptions_behind (table_of S p) c.rights) _ _ (refuses refl)
        (λ rights behind. by_given P d s c.cred rights (ap (λ r. descriptions_behind (table_of S p) (rights_in r)) h ∙ behind)))

-- ---- receiving

-- where a receive takes nothing: nothing waits, or no byte of a stream is wanted
abbrev pub TakesNothing : Socket → ℕ → Type 0
TakesNothing s n = (s.queue ≡ []) ⊎ ((is_stream s.kind && (n == 0)) ≡ true)

pub by_receive : (Q : Outcome → Type 0) (S : State) (p d : ℕ) (s : Socket) (asked : Incoming) → ((e : Errno) → Q (refuse S e)) →
    Q (answer (Reply.Err Errno.ECONNRESET) (with_socket_by S d (with_reset false))) →
    (TakesNothing s asked.n → Q (answer nothing_received S)) →
    ((m : Message) (ms : List Message) → s.queue ≡ m ∷ ms → Q (receive_front S p d s asked (front_of asked.n s m ms))) →
    Q (receive S p d s asked)
by_receive Q S p d s asked bad reset nothing front = either Q (is_dgram s.kind) _ _
    (λ b. by_queue Q s.queue _ _ (λ none. either Q s.read_shut _ _ (λ c. nothing (inl none)) (λ c. bad Errno.EAGAIN)) front)
    (λ b. maybe Q (peer_of s.phase) _ _ (bad Errno.ENOTCONN)
    (λ peer is. either Q (is_stream s.kind && (asked.n == 0)) _ _ (λ c. nothing (inr c))
    (λ c. by_queue Q s.queue _ _ (λ none. either Q s.reset _ _ (λ e. reset)
    (λ e. either Q (at_end S s peer) _ _ (λ f. nothing (inl none)) (λ f. bad Errno.EAGAIN))) front)))

pub delivery_rise : (wanted : Bool) (cred : Cred) (rights : List ℕ) (space : ℕ) (table : List (Option Descriptor)) →
    Rise 0 (length table) (delivery wanted cred rights space table).numbers
unfolding delivery
delivery_rise wanted cred rights space table =
    rise_take (install_count (length rights) (space_for_rights wanted space) (length (free_numbers table))) 0 (length table)
    (free_numbers table) (rise_free table)

delivery_few : (wanted : Bool) (cred : Cred) (rights : List ℕ) (space : ℕ) (table : List (Option Descriptor)) →
    length (delivery wanted cred rights space table).numbers ≤ length rights
unfolding delivery
delivery_few wanted cred rights space table =
    let h = take_few (install_count (length rights) (space_for_rights wanted space) (length (free_numbers table))) (free_numbers table) in
    omega (arith, h)

-- no rights fit no space
pub delivery_none : (wanted : Bool) (cred : Cred) (rights : List ℕ) (table : List (Option Descriptor)) →
    (delivery wanted cred rights 0 table).numbers ≡ []
unfolding delivery
delivery_none wanted cred rights table = ap (λ k. take k (free_numbers table)) (none wanted) ∙ take_none (free_numbers table)
  where
    none : (b : Bool) → install_count (length rights) (space_for_rights b 0) (length (free_numbers table)) ≡ 0
    none true = omega arith
    none false = omega arith

-- what the front brings, where the descriptor leads to its socket
pub brought_is : (S : State) (p d n space : ℕ) (fd : Fd) (flags : MsgFlags) (s : Socket) (q : List Message) →
    find_socket S p fd ≡ Ok (d, s) → s.queue ≡ q →
    brought S p (Request.RecvMsg fd n space flags) ≡ brought_from s n space (table_of S p) q
brought_is S p d n space fd flags s q h is =
    ap (λ r. elim r as (λ _. Brought) [ Err e ↦ nothing_brought | Ok w ↦ brought_from w.1 n space (table_of S p) w.1.queue ]) h
    ∙ ap (brought_from s n space (table_of S p)) is

few_of_none : (rights : List ℕ) (s : Socket) (n space : ℕ) (table : List (Option Descriptor)) (cred : Cred) → rights ≡ [] →
    (delivery s.passcred cred rights space table).numbers ≡ []
few_of_none rights s n space table cred none = go (delivery s.passcred cred rights space table).numbers refl
  where
    few : length (delivery s.passcred cred rights space table).numbers ≤ 0
    few = let h = delivery_few s.passcred cred rights space table in let l : length rights ≡ 0 = ap (λ (r : List ℕ). length r) none in
        omega (arith, h, l)

    go : (ns : List ℕ) → (delivery s.passcred cred rights space table).numbers ≡ ns → ns ≡ []
    go [] h = refl
    go (m ∷ ms) h = let l : length (delivery s.passcred cred rights space table).numbers ≡ suc (length ms) =
        ap (λ (r : List ℕ). length r) h in absurd (omega (arith, few, l))

-- where nothing is taken nothing is brought
pub nothing_is_brought : (s : Socket) (n space : ℕ) (table : List (Option Descriptor)) (q : List Message) →
    (q ≡ []) ⊎ ((is_stream s.kind && (n == 0)) ≡ true) → (brought_from s n space table q).numbers ≡ []
nothing_is_brought s n space table [] h = refl
nothing_is_brought s n space table (m ∷ ms) (inl h) = absurd (cc h)
nothing_is_brought s n space table (m ∷ ms) (inr h) =
    let parts = and_parts (is_stream s.kind) (n == 0) h in
    let no_bytes : n ≡ 0 = eqb-true n 0 parts.1 in
    let taken : min n (queued_bytes (joined_run s.passcred m ms)) ≡ 0 = omega (arith, no_bytes) in
    let none : (front_of n s m ms).rights ≡ [] =
    ap (λ b. (if b then stream_front s.passcred n m ms else record_front n m ms).rights) parts.0
    ∙ ap (λ k. rights_within k (joined_run s.passcred m ms)) taken in
    few_of_none (front_of n s m ms).rights s n space table (front_of n s m ms).cred none

-- a receive of the front: what it does to the table and to the queues
pub front_replaces : (S : State) (p d : ℕ) (s : Socket) (asked : Incoming) (front : Front) (Q : Process) → process_at S p ≡ Some Q →
    Replaces S p (installed (asks_cloexec_rights asked.flags)
    (delivery s.passcred front.cred front.rights asked.space (table_of S p)).numbers front.rights (table_of S p))
    (receive_front S p d s asked front).next
unfolding receive_front
front_replaces S p d s asked front Q here = go (asks_peek asked.flags)
  where
    table : List (Option Descriptor)
    table = installed (asks_cloexec_rights asked.flags) (delivery s.passcred front.cred front.rights asked.space (table_of S p)).numbers
        front.rights (table_of S p)

    go : (b : Bool) → Replaces S p table (cond b (with_table S p table) (with_socket_by (with_table S p table) d (with_queue front.rest)))
    go true = replaced_table S p table Q here
    go false = replaced_alike S (with_table S p table) (with_socket_by (with_table S p table) d (with_queue front.rest)) p table refl
        (replaced_table S p table Q here)

pub front_mail : (S : State) (p tag d : ℕ) (request : Request) (s : Socket) (asked : Incoming) (m : Message) (ms : List Message) →
    socket_at S d ≡ Some s → s.queue ≡ m ∷ ms →
    Mail S p tag request (receive_front S p d s asked (front_of asked.n s m ms)).next
unfolding receive_front
front_mail S p tag d request s asked m ms there q = go (asks_peek asked.flags)
  where
    front : Front
    front = front_of asked.n s m ms

    T : State
    T = with_installed S p asked.flags front (delivery s.passcred front.cred front.rights asked.space (table_of S p))

    quiet : Quiet S T
    quiet = quiet_table S p _

    go : (b : Bool) → Mail S p tag request (cond b T (with_socket_by T d (with_queue front.rest)))
    go true = quiet_mail S T p tag request quiet
    go false = taken_mail S T p tag d asked.n request s m ms quiet there q

front_tells : (S : State) (p d : ℕ) (s : Socket) (asked : Incoming) (front : Front) →
    tells_child (receive_front S p d s asked front).reply ≡ false
unfolding receive_front
front_tells S p d s asked front = refl

front_gives : (S : State) (p d : ℕ) (fd : Fd) (s : Socket) (asked : Incoming) (front : Front) →
    given S p (Request.RecvMsg fd asked.n asked.space asked.flags)
    (receive_front S p d s asked front).reply ≡ (brought S p (Request.RecvMsg fd asked.n asked.space asked.flags)).numbers
unfolding receive_front
front_gives S p d fd s asked front = refl

pub recv_shows : (S : State) (p tag : ℕ) (fd : Fd) (n space : ℕ) (flags : MsgFlags) (P : Process) → process_at S p ≡ Some P →
    Shows S p tag (Request.RecvMsg fd n space flags) (recv_msg S p fd n space flags)
unfolding recv_msg
recv_shows S p tag fd n space flags P here = by_socket Q S p fd _ (λ e. refuses refl)
    (λ d s h there. either Q (not (are_receive_flags flags)) _ _ (λ b. refuses refl)
    (λ b. by_receive Q S p d s (incoming n space flags)
    (λ e. refuses refl) (answers plain refl refl refl (quiet_socket S d (with_reset false) (λ s. refl)))
    (λ none. answers plain refl (ap (λ (b : Brought). b.numbers) (brought_is S p d n space fd flags s s.queue h refl)
    ∙ nothing_is_brought s n space (table_of S p) s.queue none) refl (silent S))
    (λ m ms q. front d s h there m ms q)))
  where
    Q : Outcome → Type 0
    Q o = Shows S p tag (Request.RecvMsg fd n space flags) o

    plain : IsPlain (Request.RecvMsg fd n space flags)
    plain = record { no_end = refl; keeps = λ n held. refl }

    front : (d : ℕ) (s : Socket) → find_socket S p fd ≡ Ok (d, s) → socket_at S d ≡ Some s → (m : Message) (ms : List Message) →
        s.queue ≡ m ∷ ms →
        Shows S p tag (Request.RecvMsg fd n space flags) (receive_front S p d s (incoming n space flags) (front_of n s m ms))
    front d s h there m ms q =
        let f : Front = front_of n s m ms in
        let ns : List ℕ = (delivery s.passcred f.cred f.rights space (table_of S p)).numbers in
        let b = brought_is S p d n space fd flags s (m ∷ ms) h q in
        let rights : (brought S p (Request.RecvMsg fd n space flags)).rights ≡ f.rights = ap (λ (b : Brought). b.rights) b in
        let few = delivery_few s.passcred f.cred f.rights space (table_of S p) in
        let same : length (brought S p (Request.RecvMsg fd n space flags)).rights ≡ length f.rights =
        ap (λ (r : List ℕ). length r) rights in
        let asked : Incoming = incoming n space flags in
        let o : Outcome = receive_front S p d s asked f in
        record {
          tables = installs S o.next p (Request.RecvMsg fd n space flags) o.reply ns plain
              (subst (λ (ds : List ℕ). Replaces S p (installed (asks_cloexec_rights flags) ns ds (table_of S p)) o.next) (sym rights)
              (front_replaces S p d s asked f P here))
              (delivery_rise s.passcred f.cred f.rights space (table_of S p)) (omega (arith, few, same))
              (front_gives S p d fd s asked f ∙ ap (λ (b : Brought). b.numbers) b) (front_tells S p d s asked f);
          mail = front_mail S p tag d (Request.RecvMsg fd n space flags) s asked m ms there q;
        }
