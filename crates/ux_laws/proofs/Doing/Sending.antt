-- What a send does.
use Rattle.std.proofs.Common.{◌≡◌, ℕ, ◌==◌, Bool, true, false, not, ◌&&◌, ◌||◌, if◌then◌else◌, List, [], length}
use Rattle.std.proofs.Common.{take, Option, Some, None, Result, Ok, refl, ap, sym, ◌∙◌, inr}
use Rattle.std.specs.Prelude.{nat_lt}
use Rattle.std.proofs.lemmas.Bool.{eqb-true, false≢true, and_parts}
use Rattle.std.proofs.lemmas.List.{nil_from_length}
use Rattle.ux_model.specs.Types.{Errno, Fd, Cred, Addr, MsgFlags, Request, Reply}
use Rattle.ux_model.specs.Limits.{record_bytes_limit}
use Rattle.ux_model.specs.Flags.{are_send_flags}
use Rattle.ux_model.specs.Message.{Message, same_cred}
use Rattle.ux_model.specs.Control.{Control}
use Rattle.ux_model.specs.ControlReading.{control_in}
use Rattle.ux_model.specs.Credentials.{cred_refusal}
use Rattle.ux_model.specs.Socket.{Socket, is_stream, is_dgram, peer_of, association_of, takes_from}
use Rattle.ux_model.specs.Socket.{has_room}
use Rattle.ux_model.specs.Process.{Process, own_cred}
use Rattle.ux_model.specs.State.{State, process_at, is_live, socket_at, table_of}
use Rattle.ux_model.specs.Outcome.{Outcome, refuse, find_socket}
use Rattle.ux_model.specs.Sending.{sending, message_of, flight_limit, is_over_limit, enqueue, is_too_long, send_connected, send_stream}
use Rattle.ux_model.specs.Sending.{send_from, is_sendable_addr, is_sendable_control, sender_cred_refusal, sent_cred, send_as, send_read}
use Rattle.ux_model.specs.Sending.{send_with, send_msg, descriptions_behind}
use Rattle.ux_model.proofs.Messages.Datagrams.{send_to_target, send_by_association, send_by}
use Rattle.ux_model.specs.Giving.{sent_by, rights_in}
use Rattle.ux_model.proofs.Changes.Walk.{either, maybe, found}
use Rattle.ux_model.proofs.Lists.ByPlace.{take_none}
use Rattle.ux_model.proofs.Tables.Shows.{by_socket}
use Rattle.ux_laws.specs.Talking.{offered_bytes, request_addr, is_peek, if_found, socket_through}
use Rattle.ux_laws.specs.Talking.{named_target, goes_to, destination, is_number, sends_to, receives_through}
use Rattle.ux_laws.specs.Credentials.{given_cred, cred_of_control, MaySend, its_own, others}
use Rattle.ux_laws.proofs.Parts.{kept_same}
use Rattle.ux_laws.proofs.Parts.{kept_shrinks}
use Rattle.ux_laws.proofs.Acts.{MovesNothing, either_none, none_either, Did, quiet}
use Rattle.ux_laws.proofs.Acts.{tied_to, put}
use Rattle.ux_laws.proofs.Doing.Outcomes.{refuses, through_is}
use Rattle.ux_laws.proofs.Doing.Naming.{by_addr}

-- what is known of a send that found its way
pub record IsOffered (S : State) (p tag : ℕ) (request : Request) (end : ℕ) (s : Socket) (P : Process) (m : Message) : Type 0 where
  pub caller : process_at S p ≡ Some P
  pub through : socket_through S p request ≡ Some (end, s)
  pub tagged : m.tag ≡ tag
  pub bytes : m.bytes ≡ offered_bytes request
  pub rights : descriptions_behind (table_of S p) (sent_by request) ≡ Some m.rights
  pub cred : MaySend p P request m.cred

-- with its sender's name, or without
abbrev IsFrom : Socket → Message → Type 0
IsFrom s m = m.from ≡ (if is_dgram s.kind then Some s.name else None)

not_false : (b : Bool) → not b ≡ false → b ≡ true
not_false true h = refl
not_false false h = absurd (false≢true (sym h))

goes_there : (S : State) (p t : ℕ) (request : Request) (end : ℕ) (s : Socket) → socket_through S p request ≡ Some (end, s) →
    goes_to S s (request_addr request) ≡ Some t → destination S p request ≡ Some t
goes_there S p t request end s through goes =
    ap (λ (o : Option (ℕ × Socket)). elim o as (λ _. Option ℕ) [ None ↦ None | Some found ↦ goes_to S found.1 (request_addr request) ])
    through ∙ goes

-- a send of no bytes to a stream
nothing_offered : {S : State} {p t end : ℕ} {request : Request} {s other : Socket} → socket_through S p request ≡ Some (end, s) →
    goes_to S s (request_addr request) ≡ Some t → socket_at S t ≡ Some other →
    is_stream other.kind ≡ true → offered_bytes request ≡ [] → MovesNothing S p request (Reply.Count 0)
nothing_offered {S} {p} {t} {end} {request} {s} {other} through goes there streams empty = record {
  bytes_out = λ d. either_none (sends_to S d p request) (take 0 (offered_bytes request)) (take_none (offered_bytes request));
  bytes_in = λ d. none_either (is_peek request) _ (either_none (receives_through S d p request) [] refl);
  record_out = λ d to count.
      let at : t ≡ d = eqb-true t d (sym (ap (is_number d) (goes_there S p t request end s through goes)) ∙ to) in
      (other, ap (λ (k : ℕ). socket_at S k) (sym at) ∙ there, streams, empty, refl);
  goes_out = λ count. inr (t, goes_there S p t request end s through goes);
  record_in = λ d by takes given. absurd (false≢true given);
}

enqueue_did : (S : State) (p tag : ℕ) (request : Request) (limit : Option ℕ) (t end : ℕ) (s other : Socket) (P : Process) (m : Message) →
    IsOffered S p tag request end s P m → IsFrom s m →
    goes_to S s (request_addr request) ≡ Some t → socket_at S t ≡ Some other →
    Did S p tag request (enqueue S limit t other m).reply (enqueue S limit t other m).next
enqueue_did S p tag request limit t end s other P m offered from goes there =
    either Q (is_stream other.kind && (length m.bytes == 0)) _ _
    (λ b. quiet (kept_shrinks (kept_same S S refl))
    (let parts = and_parts (is_stream other.kind) (length m.bytes == 0) b in
    nothing_offered offered.through goes there parts.0 (sym offered.bytes ∙ nil_from_length m.bytes (eqb-true (length m.bytes) 0 parts.1))))
    (λ b. either Q (is_over_limit S limit m) _ _ (λ c. refuses)
    (λ c. either Q (not (has_room other)) _ _ (λ f. refuses)
    (λ f. put t m (record {
      end = end;
      socket = s;
      process = P;
      target = other;
      caller = offered.caller;
      through = offered.through;
      goes = goes;
      there = there;
      tagged = offered.tagged;
      bytes = offered.bytes;
      rights = offered.rights;
      cred = offered.cred;
      from = from;
      answered = refl;
      room = not_false (has_room other) f;
      some = b;
    }) (kept_shrinks (kept_same _ _ refl)))))
  where
    Q : Outcome → Type 0
    Q o = Did S p tag request o.reply o.next

to_peer_did : (S : State) (p tag : ℕ) (request : Request) (limit : Option ℕ) (shut : Bool) (peer : Option ℕ) (end : ℕ) (s : Socket)
    (P : Process) (m : Message) → IsOffered S p tag request end s P m → IsFrom s m →
    goes_to S s (request_addr request) ≡ peer →
    Did S p tag request (send_connected S limit shut peer m).reply (send_connected S limit shut peer m).next
to_peer_did S p tag request limit shut None end s P m offered from goes = refuses
to_peer_did S p tag request limit shut (Some t) end s P m offered from goes = maybe Q (socket_at S t) _ _ refuses
    (λ other h. either Q (shut || other.read_shut) _ _ (λ b. refuses)
    (λ b. either Q (is_too_long other m) _ _ (λ c. refuses) (λ c. enqueue_did S p tag request limit t end s other P m offered from goes h)))
  where
    Q : Outcome → Type 0
    Q o = Did S p tag request o.reply o.next

by_stream_did : (S : State) (p tag : ℕ) (request : Request) (limit : Option ℕ) (addr : Option Addr) (end : ℕ) (s : Socket) (P : Process)
    (m : Message) → IsOffered S p tag request end s P m → IsFrom s m →
    goes_to S s (request_addr request) ≡ peer_of s.phase →
    Did S p tag request (send_stream S limit s.write_shut (peer_of s.phase) addr m).reply
    (send_stream S limit s.write_shut (peer_of s.phase) addr m).next
by_stream_did S p tag request limit None end s P m offered from goes =
    to_peer_did S p tag request limit s.write_shut (peer_of s.phase) end s P m offered from goes
by_stream_did S p tag request limit (Some addr) end s P m offered from goes = refuses

to_target_did : (S : State) (p tag : ℕ) (request : Request) (limit : Option ℕ) (t end : ℕ) (s target : Socket) (P : Process) (m : Message) →
    IsOffered S p tag request end s P m → IsFrom s m →
    goes_to S s (request_addr request) ≡ Some t → socket_at S t ≡ Some target →
    Did S p tag request (send_to_target S limit end t target m).reply (send_to_target S limit end t target m).next
to_target_did S p tag request limit t end s target P m offered from goes there =
    either Q (not (takes_from end target.phase)) _ _ (λ b. refuses)
    (λ b. either Q target.read_shut _ _ (λ c. refuses) (λ c. enqueue_did S p tag request limit t end s target P m offered from goes there))
  where
    Q : Outcome → Type 0
    Q o = Did S p tag request o.reply o.next

by_association_did : (S : State) (p tag : ℕ) (request : Request) (limit : Option ℕ) (end : ℕ) (target : Option ℕ) (s : Socket) (P : Process)
    (m : Message) → IsOffered S p tag request end s P m → IsFrom s m →
    goes_to S s (request_addr request) ≡ target → socket_at S end ≡ Some s →
    Did S p tag request (send_by_association S limit end target m).reply (send_by_association S limit end target m).next
by_association_did S p tag request limit end None s P m offered from goes here = refuses
by_association_did S p tag request limit end (Some t) s P m offered from goes here =
    maybe (λ o. Did S p tag request o.reply o.next) (socket_at S t) _ _
    (tied_to end None s refl here (λ t is. absurd (cc is)) (kept_shrinks (kept_same _ _ refl)))
    (λ target h. to_target_did S p tag request limit t end s target P m offered from goes h)

send_by_did : (S : State) (p tag : ℕ) (request : Request) (limit : Option ℕ) (end : ℕ) (s : Socket) (addr : Option Addr) (P : Process)
    (m : Message) → IsOffered S p tag request end s P m → IsFrom s m →
    goes_to S s (request_addr request) ≡ named_target S s addr → socket_at S end ≡ Some s →
    Did S p tag request (send_by S limit end s addr m).reply (send_by S limit end s addr m).next
send_by_did S p tag request limit end s None P m offered from goes here =
    by_association_did S p tag request limit end (association_of s.phase) s P m offered from goes here
send_by_did S p tag request limit end s (Some addr) P m offered from goes here =
    by_addr (λ o. Did S p tag request o.reply o.next) S s.kind addr _ (λ e. refuses)
    (λ t target is there. to_target_did S p tag request limit t end s target P m offered from
    (goes ∙ ap (λ (r : Result (ℕ × Socket) Errno). elim (if_found r) as (λ _. Option ℕ) [ None ↦ None | Some found ↦ Some found.0 ]) is)
    there)

pub from_did : (S : State) (p tag : ℕ) (request : Request) (limit : Option ℕ) (end : ℕ) (s : Socket) (P : Process) (m : Message) →
    IsOffered S p tag request end s P m → m.from ≡ None → socket_at S end ≡ Some s →
    Did S p tag request (send_from S limit end s (request_addr request) m).reply (send_from S limit end s (request_addr request) m).next
from_did S p tag request limit end s P m offered none here = either Q (is_dgram s.kind) _ _
    (λ b. either Q (nat_lt record_bytes_limit (length m.bytes)) _ _ (λ c. refuses)
    (λ c. either Q s.write_shut _ _ (λ e. refuses)
    (λ e. send_by_did S p tag request limit end s (request_addr request) P (record m { from = Some s.name })
    (record {
      caller = offered.caller;
      through = offered.through;
      tagged = offered.tagged;
      bytes = offered.bytes;
      rights =
          offered.rights;
      cred = offered.cred;
    })
    (sym (ap (λ c. if c then Some s.name else None) b)) (ap (λ c. if c then named_target S s (request_addr request) else peer_of s.phase) b)
    here)))
    (λ b. by_stream_did S p tag request limit (request_addr request) end s P m offered
    (none ∙ sym (ap (λ c. if c then Some s.name else None) b))
    (ap (λ c. if c then named_target S s (request_addr request) else peer_of s.phase) b))
  where
    Q : Outcome → Type 0
    Q o = Did S p tag request o.reply o.next

-- the credentials of a send that isn't refused
pub same_creds : (a b : Cred) → same_cred a b ≡ true → a ≡ b
same_creds a b h =
    let parts = and_parts ((a.pid.0 == b.pid.0) && (a.uid == b.uid)) (a.gid == b.gid) h in
    let more = and_parts (a.pid.0 == b.pid.0) (a.uid == b.uid) parts.0 in
    ap (λ (x : ℕ). let c : Cred = record { pid = record { 0 = x }; uid = a.uid; gid = a.gid } in c) (eqb-true a.pid.0 b.pid.0 more.0)
    ∙ ap (λ (x : ℕ). let c : Cred = record { pid = b.pid; uid = x; gid = a.gid } in c) (eqb-true a.uid b.uid more.1)
    ∙ ap (λ (x : ℕ). let c : Cred = record { pid = b.pid; uid = b.uid; gid = x } in c) (eqb-true a.gid b.gid parts.1)

may_give : (S : State) (p : ℕ) (P : Process) (request : Request) (given : Option Cred) → given_cred request ≡ given →
    sender_cred_refusal S p P given ≡ None → MaySend p P request (sent_cred p P given)
may_give S p P request None is fine = its_own refl
may_give S p P request (Some c) is fine = by_privilege P.privileged refl fine
  where
    by_same : (b : Bool) → same_cred c (own_cred p P) ≡ b → (if b then None else Some Errno.EPERM) ≡ None → MaySend p P request c
    by_same true same h = its_own (same_creds c (own_cred p P) same)
    by_same false same h = absurd (cc h)

    by_privilege : (b : Bool) → P.privileged ≡ b → cred_refusal b (own_cred p P) (is_live S c.pid.0) c ≡ None → MaySend p P request c
    by_privilege true on h = others on is
    by_privilege false on h = by_same (same_cred c (own_cred p P)) refl h

pub send_did : (S : State) (p tag : ℕ) (fd : Fd) (addr : Option Addr) (bytes control : List ℕ) (flags : MsgFlags) →
    Did S p tag (Request.SendMsg fd addr bytes control flags) (send_msg S p tag fd addr bytes control flags).reply
    (send_msg S p tag fd addr bytes control flags).next
unfolding send_msg send_read send_with
send_did S p tag fd addr bytes control flags = maybe Q (process_at S p) _ _ refuses (λ P here. by_socket Q S p fd _ (λ e. refuses)
    (λ d s h there. either Q (not (are_send_flags flags)) _ _ (λ b. refuses)
    (λ b. by_control P here d s h there (control_in control) refl)))
  where
    request : Request
    request = Request.SendMsg fd addr bytes control flags

    Q : Outcome → Type 0
    Q o = Did S p tag (Request.SendMsg fd addr bytes control flags) o.reply o.next

    by_refusal : (P : Process) → process_at S p ≡ Some P → (d : ℕ) (s : Socket) → find_socket S p fd ≡ Ok (d, s) → socket_at S d ≡ Some s →
        (given : Option Cred) (rights : List ℕ) →
        given_cred (Request.SendMsg fd addr bytes control flags) ≡ given →
        descriptions_behind (table_of S p) (sent_by (Request.SendMsg fd addr bytes control flags)) ≡ Some rights →
        Did S p tag (Request.SendMsg fd addr bytes control flags) (send_as S (sending tag p P addr bytes) d s given rights).reply
        (send_as S (sending tag p P addr bytes) d s given rights).next
    by_refusal P here d s h there given rights gave behind = go (sender_cred_refusal S p P given) refl
      where
        go : (o : Option Errno) → sender_cred_refusal S p P given ≡ o → Q (elim o as (λ _. Outcome) [
          | Some e ↦ refuse S e
          | None ↦ if not (is_sendable_addr addr) then refuse S Errno.EINVAL
              else send_from S (flight_limit P) d s addr (message_of (sending tag p P addr bytes) (sent_cred p P given) rights)
        ])
        go (Some e) is = refuses
        go None is = either Q (not (is_sendable_addr addr)) _ _ (λ b. refuses)
            (λ b. from_did S p tag request (flight_limit P) d s P (message_of (sending tag p P addr bytes) (sent_cred p P given) rights)
            (record {
              caller = here;
              through = through_is S p d fd s request refl h;
              tagged = refl;
              bytes = refl;
              rights = behind;
              cred =
                  may_give S p P request given gave is;
            }) refl there)

    by_control : (P : Process) → process_at S p ≡ Some P → (d : ℕ) (s : Socket) → find_socket S p fd ≡ Ok (d, s) → socket_at S d ≡ Some s →
        (o : Option Control) → control_in control ≡ o →
        Did S p tag (Request.SendMsg fd addr bytes control flags) (send_read S (sending tag p P addr bytes) d s o).reply
        (send_read S (sending tag p P addr bytes) d s o).next
    by_control P here d s h there None is = refuses
    by_control P here d s h there (Some c) is = either Q (not (is_sendable_control s.kind bytes c)) _ _ (λ b. refuses)
        (λ b. maybe Q (descriptions_behind (table_of S p) c.rights) _ _ refuses
        (λ rights behind. by_refusal P here d s h there c.cred rights (ap cred_of_control is)
        (ap (λ r. descriptions_behind (table_of S p) (rights_in r)) is ∙ behind)))
