-- What a send that is answered a count took and left, and what one is answered where nothing can go.
use Rattle.std.proofs.Common.{◌≡◌, ◌≢◌, ℕ, suc, ◌==◌, Bool, true, false, not, ◌&&◌, ◌||◌, cond, if◌then◌else◌, is_some, min}
use Rattle.std.proofs.Common.{List, [], ◌∷◌, ◌++◌, length, take, Option, Some, None, Ok, Err, refl, ap, sym, ◌∙◌, subst, ⊎_elim, arith}
use Rattle.std.specs.Prelude.{IsTrue}
use Rattle.std.proofs.lemmas.Bool.{eq-eqb, not-true, false≢true}
use Rattle.std.proofs.lemmas.List.{length-take, take_min}
use Rattle.ux_model.specs.Types.{Errno, Fd, Addr, MsgFlags, Request, Reply}
use Rattle.ux_model.specs.Flags.{are_send_flags}
use Rattle.ux_model.specs.Message.{Message}
use Rattle.ux_model.specs.Control.{Control}
use Rattle.ux_model.specs.ControlReading.{with_items, control_in}
use Rattle.ux_model.specs.Socket.{Socket, is_stream, is_dgram, peer_of, stream_room, sent_part, sent}
use Rattle.ux_model.specs.Description.{socket_in}
use Rattle.ux_model.specs.Process.{Process, own_cred}
use Rattle.ux_model.specs.State.{State, process_at, socket_at, table_of, with_socket_by}
use Rattle.ux_model.specs.Outcome.{Outcome, Chosen, own, lacking_memory, failing, refuse, find_socket}
use Rattle.ux_model.specs.Sending.{sending, message_of, flight_limit, is_too_long, enqueue, send_connected, send_stream, send_from, send_as}
use Rattle.ux_model.specs.Sending.{is_sendable_addr, is_sendable_control, sender_cred_refusal, sent_cred, send_with, send_read, send_msg}
use Rattle.ux_model.specs.Sending.{descriptions_behind, reading_control, send_to_peer}
use Rattle.ux_model.specs.Writing.{write}
use Rattle.ux_model.specs.Step.{Step, outcome}
use Rattle.ux_model.specs.Pedigree.{before}
use Rattle.ux_model.proofs.Changes.Walk.{either}
use Rattle.ux_model.proofs.Lists.ChangedPlaces.{bool_cases}
use Rattle.ux_model.proofs.Pedigrees.Moments.{moment}
use Rattle.ux_laws.specs.Talking.{offered_bytes, request_addr, socket_through, goes_to, destination, is_number, sends_to}
use Rattle.ux_laws.specs.Records.{is_count, is_given}
use Rattle.ux_laws.specs.Sends.{IsTaken, whole, first, none, SendsCount, IsBroken, by_flags, by_control, by_rights}
use Rattle.ux_laws.specs.Sends.{IsCutOff, gone, shut, WritesAreCutOff, by_number, by_cred, by_addr, addressed, broken, lacking, SendsAreRefused, SendsBreak}
use Rattle.ux_laws.proofs.Parts.{Shrinks}
use Rattle.ux_laws.proofs.Acts.{MovesNothing, IsSending}
use Rattle.ux_laws.proofs.Flows.{waiting_at, still_waits, waiting_is, Flow, calm, put_in, taken, step_flow, changed_waiting}
use Rattle.ux_laws.proofs.Telling.{LeadsToSocket, socket_is_found, leads_to_socket, has_process, write_to_peer, chosen_refusal}
use Rattle.ux_laws.proofs.SendWaits.{at_found}
use Rattle.ux_laws.proofs.NoEmpty.{part_has}

-- ---- what is taken

-- of one that quietly took nothing
none_sent : (S V T : State) (p tag n t : ℕ) (request : Request) (reply : Reply) (found : Socket) → MovesNothing S p request reply →
    Shrinks V T → waiting_at V t ≡ waiting_at S t → reply ≡ Reply.Count n → destination S p request ≡ Some t →
    (u : Socket) × (socket_at S t ≡ Some u) × IsTaken u (socket_at T t) tag n (offered_bytes request)
none_sent S V T p tag n t request reply found moves sh same counts to =
    let there : sends_to S t p request ≡ true = ap (is_number t) to ∙ eq-eqb t t refl in
    let w = moves.record_out t there (ap is_count counts) in
    let both : Reply.Count n ≡ Reply.Count 0 = sym counts ∙ w.4 in
    (w.0, w.1, none w.2 w.3 (cc both) (λ v at. still_waits V T t v sh at ∙ same ∙ waiting_is S t w.0 w.1))

-- of one that put a message into a queue
one_sent : (S T : State) (p tag n t : ℕ) (request : Request) (reply : Reply) (m : Message) (a : IsSending S p tag request reply t m) →
    Shrinks (with_socket_by S t (sent m)) T → reply ≡ Reply.Count n → IsTaken a.target (socket_at T t) tag n (offered_bytes request)
one_sent S T p tag n t request reply m a sh counts = bool_cases (is_stream a.target.kind) of_stream of_records
  where
    part : Message
    part = sent_part a.target m

    queue : (v : Socket) → socket_at T t ≡ Some v → v.queue ≡ a.target.queue ++ part ∷ []
    queue v at = still_waits (with_socket_by S t (sent m)) T t v sh at ∙ changed_waiting S t t (sent m) a.target a.there
        ∙ ap (λ b. cond b (sent m a.target).queue (waiting_at S t)) (eq-eqb t t refl)

    both : Reply.Count n ≡ Reply.Count (length part.bytes)
    both = sym counts ∙ a.answered

    long : n ≡ length part.bytes
    long = cc both

    bytes_are : (b : Bool) → is_stream a.target.kind ≡ b → part.bytes ≡ (if b then take (stream_room a.target) m.bytes else m.bytes)
    bytes_are b is = ap (λ c. if c then take (stream_room a.target) m.bytes else m.bytes) is

    of_stream : is_stream a.target.kind ≡ true → IsTaken a.target (socket_at T t) tag n (offered_bytes request)
    of_stream kind =
        let is : part.bytes ≡ take (stream_room a.target) (offered_bytes request) = bytes_are true kind
        ∙ ap (λ (l : List ℕ). take (stream_room a.target) l) a.bytes in
        let count : ◌≡◌ {A = ℕ} (length part.bytes) (length (take (stream_room a.target) (offered_bytes request))) =
        ap (λ (l : List ℕ). length l) is in
        let cut = length-take (stream_room a.target) (offered_bytes request) in
        let few : n ≡ min (stream_room a.target) (length (offered_bytes request)) = long ∙ count ∙ cut in
        let more = part_has a.target m kind a.room a.some in
        first kind (omega (arith, long, more)) few (λ v at. record {
          message = part;
          behind = queue v at;
          tagged = a.tagged;
          holds = is ∙ sym (take_min (stream_room a.target) (offered_bytes request)) ∙ ap (λ k. take k (offered_bytes request)) (sym few);
        })

    of_records : is_stream a.target.kind ≡ false → IsTaken a.target (socket_at T t) tag n (offered_bytes request)
    of_records kind =
        let is : part.bytes ≡ offered_bytes request = bytes_are false kind ∙ a.bytes in
        whole kind (long ∙ ap (λ (l : List ℕ). length l) is) (λ v at. record {
          message = part;
          behind = queue v at;
          tagged = a.tagged;
          holds = is;
        })

count_no_gift : (reply : Reply) (n : ℕ) → reply ≡ Reply.Count n → is_given reply ≡ true → ⊥
count_no_gift reply n h gives = false≢true (sym (ap is_given h) ∙ gives)

-- where it goes, what is there, and what is left
abbrev Sent : State → State → ℕ → ℕ → ℕ → Request → Type 0
Sent S T p tag n request = (t : ℕ) × (destination S p request ≡ Some t) × (u : Socket) × (socket_at S t ≡ Some u)
    × IsTaken u (socket_at T t) tag n (offered_bytes request)

flow_sent : (S T : State) (p tag n d : ℕ) (request : Request) (reply : Reply) (s : Socket) → socket_through S p request ≡ Some (d, s) →
    reply ≡ Reply.Count n → Flow S p tag request reply T → Sent S T p tag n request
flow_sent S T p tag n d request reply s through counts (calm V c moves sh) = ⊎_elim {C = Sent S T p tag n request}
    (λ nowhere. let clash : None ≡ Some (d, s) = sym nowhere ∙ through in absurd (cc clash))
    (λ w. let r = none_sent S V T p tag n w.0 request reply s moves sh (c.waiting w.0) counts w.1 in (w.0, w.1, r.0, r.1, r.2))
    (moves.goes_out (ap is_count counts))
flow_sent S T p tag n d request reply s through counts (put_in t m a sh) = (
  t,
  ap (λ (o : Option (ℕ × Socket)). elim o as (λ _. Option ℕ) [ None ↦ None | Some found ↦ goes_to S found.1 (request_addr request) ])
      a.through ∙ a.goes,
  a.target,
  a.there,
  one_sent S T p tag n t request reply m a sh counts,
)
flow_sent S T p tag n d request reply s through counts (taken t k u m ms a sh) = absurd (count_no_gift reply n counts a.gives)

pub sends_count : SendsCount
sends_count boot es j n d e s legal at through counts =
    let S : State = before boot es j in
    let T : State = before boot es (suc j) in
    let w = flow_sent S T e.pid.0 j n d e.request e.reply s through counts
    (step_flow S T e.pid.0 j e.request e.reply e.released (moment boot es j e legal at).steps) in
    record { number = w.0; target = w.2; to = w.1; there = w.3; takes = w.4 }

-- ---- where nothing can go

-- a connected socket, whose peer, if it is there, takes nothing of it
record IsCut (S : State) (s : Socket) : Type 0 where
  pub peer : ℕ
  pub kind : is_dgram s.kind ≡ false
  pub connected : peer_of s.phase ≡ Some peer
  pub takes_none : (other : Socket) → socket_at S peer ≡ Some other → (s.write_shut || other.read_shut) ≡ true

cut_off : (S : State) (d : ℕ) (s : Socket) → IsCutOff S d s → IsCut S s
cut_off S d s (gone e) = record {
  peer = e.peer;
  kind = e.kind;
  connected = e.connected;
  takes_none = λ other there. let clash : None ≡ Some other = sym (ap socket_in e.gone) ∙ there in absurd (cc clash);
}
cut_off S d s (shut peer other kind to there off) = record {
  peer = peer;
  kind = kind;
  connected = to;
  takes_none = λ u at. let both : Some other ≡ Some u = sym there ∙ at in
      let one : other ≡ u = cc both in ap (λ (x : Socket). s.write_shut || x.read_shut) (sym one) ∙ off;
}

-- so what is sent to it breaks the pipe
cut_broken : (S : State) (limit : Option ℕ) (s : Socket) (m : Message) → (c : IsCut S s) →
    send_to_peer S limit s.write_shut c.peer m ≡ refuse S Errno.EPIPE
cut_broken S limit s m c = by_peer (socket_at S c.peer) refl
  where
    by_peer : (x : Option Socket) → socket_at S c.peer ≡ x → (elim x as (λ _. Outcome) [
      | None ↦ refuse S Errno.EPIPE
      | Some other ↦
          if s.write_shut || other.read_shut then refuse S Errno.EPIPE else
          if is_too_long other m then refuse S Errno.EMSGSIZE else
          enqueue S limit c.peer other m
    ]) ≡ refuse S Errno.EPIPE
    by_peer None is = refl
    by_peer (Some other) is = ap (λ b. if b then refuse S Errno.EPIPE else
        if is_too_long other m then refuse S Errno.EMSGSIZE else
        enqueue S limit c.peer other m) (c.takes_none other is)

step_cut : (S T : State) (p tag d : ℕ) (fd : Fd) (bytes : List ℕ) (s : Socket) (reply : Reply) (released : List ℕ) →
    LeadsToSocket S p fd d s → IsCut S s → Step S p tag (Request.Write fd bytes) reply released T → reply ≡ Reply.Err Errno.EPIPE
unfolding Step outcome
step_cut S T p tag d fd bytes s reply released l c step =
    let w = write_to_peer S p tag d c.peer fd bytes s l c.kind c.connected in
    chosen_refusal S step.0 (write S p tag fd bytes) Errno.EPIPE reply
    (w.2 ∙ cut_broken S (flight_limit w.0) s (message_of (sending tag p w.0 None bytes) (own_cred p w.0) []) c) step.1

pub writes_are_cut_off : WritesAreCutOff
writes_are_cut_off boot es j d e fd bytes s legal at request through cut =
    let S : State = before boot es j in
    let led : socket_through S e.pid.0 (Request.Write fd bytes) ≡ Some (d, s) = sym (ap (socket_through S e.pid.0) request) ∙ through in
    step_cut S (before boot es (suc j)) e.pid.0 j d fd bytes s e.reply e.released
    (leads_to_socket S e.pid.0 d fd s (socket_is_found S e.pid.0 d fd s (Request.Write fd bytes) refl led)) (cut_off S d s cut)
    (subst (λ (r : Request). Step S e.pid.0 j r e.reply e.released (before boot es (suc j))) request (moment boot es j e legal at).steps)

-- one that is refused, and lacks memory for a control buffer alone
record Refused (S : State) (p : ℕ) (s : Socket) (addr : Option Addr) (bytes control : List ℕ) (flags : MsgFlags) (o : Outcome) : Type 0
  where
    pub broken : IsBroken S p s addr bytes control flags o.reply
    pub no_failure : o.failure ≡ None
    pub memory : o.may_lack_memory ≡ true → control ≢ []

refuses : {S : State} {p : ℕ} {s : Socket} {addr : Option Addr} {bytes control : List ℕ} {flags : MsgFlags} {e : Errno} →
    IsBroken S p s addr bytes control flags (Reply.Err e) → Refused S p s addr bytes control flags (refuse S e)
refuses b = record { broken = b; no_failure = refl; memory = λ h. absurd (false≢true h) }

-- from a connected socket
from_refused : (S : State) (p d : ℕ) (s : Socket) (limit : Option ℕ) (addr : Option Addr) (bytes control : List ℕ) (flags : MsgFlags)
    (m : Message) → IsCut S s → Refused S p s addr bytes control flags (send_from S limit d s addr m)
from_refused S p d s limit addr bytes control flags m c =
    either Q (is_dgram s.kind) _ _ (λ k. absurd (false≢true (sym c.kind ∙ k))) (λ k. stream addr refl)
  where
    Q : Outcome → Type 0
    Q o = Refused S p s addr bytes control flags o

    to_peer : addr ≡ None → (o : Option ℕ) → peer_of s.phase ≡ o → Q (send_connected S limit s.write_shut o m)
    to_peer plain None is = let clash : Some c.peer ≡ None = sym c.connected ∙ is in absurd (cc clash)
    to_peer plain (Some t) is =
        let both : Some c.peer ≡ Some t = sym c.connected ∙ is in
        let one : c.peer ≡ t = cc both in
        subst (λ (i : ℕ). Q (send_to_peer S limit s.write_shut i m)) one
        (subst Q (sym (cut_broken S limit s m c)) (refuses (broken plain refl)))

    stream : (a : Option Addr) → addr ≡ a → Q (send_stream S limit s.write_shut (peer_of s.phase) a m)
    stream None is = to_peer is (peer_of s.phase) refl
    stream (Some a) is = refuses (addressed (λ none. let clash : Some a ≡ None = sym is ∙ none in cc clash)
        (ap (λ (o : Option ℕ). Reply.Err (if is_some o then Errno.EISCONN else Errno.EOPNOTSUPP)) c.connected))

send_refused : (S : State) (p tag d : ℕ) (fd : Fd) (addr : Option Addr) (bytes control : List ℕ) (flags : MsgFlags) (s : Socket)
    (P : Process) → process_at S p ≡ Some P → find_socket S p fd ≡ Ok (d, s) → IsCut S s →
    Refused S p s addr bytes control flags (send_msg S p tag fd addr bytes control flags)
unfolding send_msg send_read send_with
send_refused S p tag d fd addr bytes control flags s P here found cut = by_process (process_at S p) refl
  where
    Q : Outcome → Type 0
    Q o = Refused S p s addr bytes control flags o

    by_creds : (X : Process) → process_at S p ≡ Some X → (c : Control) → control_in control ≡ Some c → (rights : List ℕ) →
        (o : Option Errno) → sender_cred_refusal S p X c.cred ≡ o → Q (elim o as (λ _. Outcome) [
          | Some x ↦ refuse S x
          | None ↦ if not (is_sendable_addr addr) then refuse S Errno.EINVAL
              else send_from S (flight_limit X) d s addr (message_of (sending tag p X addr bytes) (sent_cred p X c.cred) rights)
        ])
    by_creds X at c spells rights (Some x) is = refuses (by_cred c X x spells at is refl)
    by_creds X at c spells rights None is = either Q (not (is_sendable_addr addr)) _ _
        (λ b. refuses (by_addr (not-true (is_sendable_addr addr) b) refl))
        (λ b. from_refused S p d s (flight_limit X) addr bytes control flags _ cut)

    behind : (X : Process) → process_at S p ≡ Some X → (c : Control) → control_in control ≡ Some c → (o : Option (List ℕ)) →
        descriptions_behind (table_of S p) c.rights ≡ o → Q (elim o as (λ _. Outcome) [
          | None ↦ refuse S Errno.EBADF
          | Some rights ↦ send_as S (sending tag p X addr bytes) d s c.cred rights
        ])
    behind X at c spells None is = refuses (by_number c spells is refl)
    behind X at c spells (Some rights) is = by_creds X at c spells rights (sender_cred_refusal S p X c.cred) refl

    by_spelling : (X : Process) → process_at S p ≡ Some X → (o : Option Control) → control_in control ≡ o →
        Q (send_read S (sending tag p X addr bytes) d s o)
    by_spelling X at None is = refuses (by_control is refl)
    by_spelling X at (Some c) is = either Q (not (is_sendable_control s.kind bytes c)) _ _
        (λ b. refuses (by_rights c is (not-true (is_sendable_control s.kind bytes c) b) refl))
        (λ b. behind X at c is (descriptions_behind (table_of S p) c.rights) refl)

    -- reading a control buffer may lack memory
    reading : (o : Outcome) → Q o → Q (reading_control control o)
    reading o r = record { broken = r.broken; no_failure = r.no_failure; memory = λ h. with_memory control r.memory h }
      where
        with_memory : (xs : List ℕ) → (o.may_lack_memory ≡ true → xs ≢ []) → (not (length xs == 0) || o.may_lack_memory) ≡ true → xs ≢ []
        with_memory [] more h = more h
        with_memory (x ∷ xs) more h = λ is. cc is

    by_process : (o : Option Process) → process_at S p ≡ o → Q (elim o as (λ _. Outcome) [
      | None ↦ refuse S Errno.ESRCH
      | Some X ↦ elim (find_socket S p fd) as (λ _. Outcome) [
        | Err x ↦ refuse S x
        | Ok w ↦ if not (are_send_flags flags) then refuse S Errno.EINVAL
            else reading_control control (send_read S (sending tag p X addr bytes) w.0 w.1 (control_in control))
      ]
    ])
    by_process None is = let clash : None ≡ Some P = sym is ∙ here in absurd (cc clash)
    by_process (Some X) is = at_found Q S p d fd s _ found (either Q (not (are_send_flags flags)) _ _
        (λ b. refuses (by_flags (not-true (are_send_flags flags) b) refl))
        (λ b. reading (send_read S (sending tag p X addr bytes) d s (control_in control)) (by_spelling X is (control_in control) refl)))

chosen_broken : (S U : State) (p : ℕ) (s : Socket) (addr : Option Addr) (bytes control : List ℕ) (flags : MsgFlags) (o : Outcome)
    (reply : Reply) → Refused S p s addr bytes control flags o → Chosen S o reply U → IsBroken S p s addr bytes control flags reply
chosen_broken S U p s addr bytes control flags o reply r (own e f) = subst (IsBroken S p s addr bytes control flags) (sym e) r.broken
chosen_broken S U p s addr bytes control flags o reply r (lacking_memory e may f) = lacking (r.memory (is_true o.may_lack_memory may)) e
  where
    is_true : (b : Bool) → IsTrue b → b ≡ true
    is_true true h = refl
    is_true false h = absurd (cc h)
chosen_broken S U p s addr bytes control flags o reply r (failing e f) = let none : None ≡ Some U = sym r.no_failure ∙ f in absurd (cc none)

step_broken : (S T : State) (p tag d : ℕ) (fd : Fd) (addr : Option Addr) (bytes control : List ℕ) (flags : MsgFlags) (s : Socket)
    (P : Process) (reply : Reply) (released : List ℕ) → process_at S p ≡ Some P → find_socket S p fd ≡ Ok (d, s) → IsCut S s →
    Step S p tag (Request.SendMsg fd addr bytes control flags) reply released T → IsBroken S p s addr bytes control flags reply
unfolding Step outcome
step_broken S T p tag d fd addr bytes control flags s P reply released here found e step =
    chosen_broken S step.0 p s addr bytes control flags (send_msg S p tag fd addr bytes control flags) reply
    (send_refused S p tag d fd addr bytes control flags s P here found e) step.1

pub sends_are_refused : SendsAreRefused
sends_are_refused boot es j d e fd addr bytes control flags s legal at request through ended =
    let S : State = before boot es j in
    let led : socket_through S e.pid.0 (Request.SendMsg fd addr bytes control flags) ≡ Some (d, s) =
    sym (ap (socket_through S e.pid.0) request) ∙ through in
    let found = socket_is_found S e.pid.0 d fd s (Request.SendMsg fd addr bytes control flags) refl led in
    let l = leads_to_socket S e.pid.0 d fd s found in
    let P = has_process S e.pid.0 fd l.entry l.description l.found in
    step_broken S (before boot es (suc j)) e.pid.0 j d fd addr bytes control flags s P.0 e.reply e.released P.1 found (cut_off S d s ended)
    (subst (λ (r : Request). Step S e.pid.0 j r e.reply e.released (before boot es (suc j))) request (moment boot es j e legal at).steps)

-- an empty buffer spells no rights and no credentials
pub nothing_spelled : control_in [] ≡ Some (record { cred = None; rights = [] })
unfolding control_in with_items
nothing_spelled = refl

pub sends_break : SendsBreak
sends_break boot es j d e fd bytes flags s legal at request fine through ended =
    plain (sends_are_refused boot es j d e fd None bytes [] flags s legal at request through ended)
  where
    S : State
    S = before boot es j

    same_control : (c : Control) → control_in [] ≡ Some c → record { cred = None; rights = [] } ≡ c
    same_control c h = let both : Some (record { cred = None; rights = [] }) ≡ Some c = sym nothing_spelled ∙ h in cc both

    plain : IsBroken S e.pid.0 s None bytes [] flags e.reply → e.reply ≡ Reply.Err Errno.EPIPE
    plain (by_flags fault r) = absurd (false≢true (sym fault ∙ fine))
    plain (by_control fault r) = let clash : None ≡ Some (record { cred = None; rights = [] }) = sym fault ∙ nothing_spelled in absurd (cc clash)
    plain (by_rights c spells fault r) =
        absurd (false≢true (sym fault ∙ ap (is_sendable_control s.kind bytes) (sym (same_control c spells)) ∙ may_go (is_stream s.kind)))
      where
        may_go : (b : Bool) → (not false && not (b && (false && (length bytes == 0)))) ≡ true
        may_go true = refl
        may_go false = refl
    plain (by_number c spells fault r) =
        let clash : None ≡ Some [] = sym fault ∙ ap (λ (x : Control). descriptions_behind (table_of S e.pid.0) x.rights)
        (sym (same_control c spells)) in absurd (cc clash)
    plain (by_cred c P error spells here fault r) =
        let clash : Some error ≡ None = sym fault ∙ ap (λ (x : Control). sender_cred_refusal S e.pid.0 P x.cred) (sym (same_control c spells)) in
        absurd (cc clash)
    plain (by_addr fault r) = absurd (false≢true (sym fault))
    plain (addressed fault r) = absurd (fault refl)
    plain (broken is r) = r
    plain (lacking fault r) = absurd (fault refl)
