-- Where room or a place has come the next send or connect doesn't wait.
use Rattle.std.proofs.Common.{◌≡◌, ℕ, suc, ◌<◌, true, false, if◌then◌else◌, List, length, Option, Some, None}
use Rattle.std.proofs.Common.{Ok, slice_get, refl, ap, sym, ◌∙◌, subst, arith}
use Rattle.std.proofs.lemmas.Bool.{false≢true}
use Rattle.ux_model.specs.Types.{Errno, Fd, Addr, Request, Reply, Entry}
use Rattle.ux_model.specs.Socket.{Socket, is_dgram, peer_of, has_room}
use Rattle.ux_model.specs.Description.{socket_in}
use Rattle.ux_model.specs.State.{State, socket_at}
use Rattle.ux_model.specs.Outcome.{find_socket}
use Rattle.ux_model.specs.Connecting.{Listener, listener_of}
use Rattle.ux_model.specs.Step.{Step}
use Rattle.ux_model.specs.History.{IsLegal}
use Rattle.ux_model.specs.Pedigree.{before}
use Rattle.ux_model.proofs.Pedigrees.Moments.{moment}
use Rattle.ux_model.proofs.Tables.Shows.{socket_found}
use Rattle.ux_laws.specs.Talking.{endpoint, if_found, socket_through, named_target, goes_to, request_addr, offered_bytes}
use Rattle.ux_laws.specs.MessageWaits.{FindsFull, at_peer, at_target}
use Rattle.ux_laws.specs.Rooms.{LetsGo, by_room, by_sender, by_target, gone, DatagramsGoOn}
use Rattle.ux_laws.specs.Rooms.{is_send, SendsFindRoom, SendsGoOn, ConnectsFindAPlace}
use Rattle.ux_laws.proofs.Doing.Naming.{look_up_there}
use Rattle.ux_laws.proofs.Telling.{socket_is_found, leads_to_socket}
use Rattle.ux_laws.proofs.WaitEnds.{parts_stay}
use Rattle.ux_laws.proofs.Doing.Calls.{step_did}
use Rattle.ux_laws.proofs.ConnectWaits.{connects_wait}
use Rattle.ux_laws.proofs.Wakes.{both_are, not_none, sent_through, shut_now}
use Rattle.ux_laws.proofs.MessageWaits.{step_waits, step_write_waits, associated_so}
use Rattle.ux_laws.proofs.RoomsCome.{queues_get_room, room_no_wait, rooms_come}
use Rattle.ux_laws.proofs.PlacesCome.{places_come}

-- ---- sends

-- a send or a write through a socket that has to wait finds a full queue
waits_full : (boot : State) (es : List Entry) (j d : ℕ) (e : Entry) (s : Socket) → IsLegal boot es → slice_get es j ≡ Some e →
    is_send e.request ≡ true → socket_through (before boot es j) e.pid.0 e.request ≡ Some (d, s) → e.reply ≡ Reply.Err Errno.EAGAIN →
    FindsFull (before boot es j) d s (request_addr e.request) (offered_bytes e.request)
waits_full boot es j d e s legal at sends through again = by_request e.request refl sends
  where
    S : State
    S = before boot es j

    T : State
    T = before boot es (suc j)

    step : (r : Request) → e.request ≡ r → Step S e.pid.0 j r e.reply e.released T
    step r is = subst (λ (r : Request). Step S e.pid.0 j r e.reply e.released T) is (moment boot es j e legal at).steps

    through_so : (r : Request) → e.request ≡ r → socket_through S e.pid.0 r ≡ Some (d, s)
    through_so r is = ap (socket_through S e.pid.0) (sym is) ∙ through

    Goal : Request → Type 0
    Goal r = FindsFull (before boot es j) d s (request_addr r) (offered_bytes r)

    by_request : (r : Request) → e.request ≡ r → is_send r ≡ true → Goal e.request
    by_request (Request.SendMsg fd addr bytes control flags) is h =
        let r : Request = Request.SendMsg fd addr bytes control flags in
        let found = socket_is_found S e.pid.0 d fd s r refl (through_so r is) in
        subst Goal (sym is)
        (step_waits S T e.pid.0 j d fd addr bytes control flags s e.reply e.released (step r is) found again).1
    by_request (Request.Write fd bytes) is h =
        let r : Request = Request.Write fd bytes in
        let found = socket_is_found S e.pid.0 d fd s r refl (through_so r is) in
        subst Goal (sym is) ((step_write_waits S T e.pid.0 j d fd bytes s e.reply e.released (step r is)
        (leads_to_socket S e.pid.0 d fd s found) (associated_so boot es j d fd e s legal found)).0 again)
    by_request r is h = absurd (false≢true h)

-- the queue that it finds full is the one that it goes to
full_there : (S : State) (d number : ℕ) (s : Socket) (addr : Option Addr) (bytes : List ℕ) → FindsFull S d s addr bytes →
    goes_to S s addr ≡ Some number → (u : Socket) × (socket_at S number ≡ Some u) × (has_room u ≡ false)
full_there S d number s addr bytes (at_peer kind plain a goes) to =
    let peer : peer_of s.phase ≡ Some number = sym (ap (λ b. if b then named_target S s addr else peer_of s.phase) kind) ∙ to in
    (a.other, ap (λ (i : ℕ). socket_at S i) (both_are peer a.to) ∙ a.there, a.full)
full_there S d number s addr bytes (at_target kind a short) to =
    let named : named_target S s addr ≡ Some number = sym (ap (λ b. if b then named_target S s addr else peer_of s.phase) kind) ∙ to in
    (a.target, ap (λ (i : ℕ). socket_at S i) (both_are named a.to) ∙ a.there, a.full)

-- what a call goes through is there
through_there : (S : State) (p d : ℕ) (request : Request) (s : Socket) → socket_through S p request ≡ Some (d, s) → socket_at S d ≡ Some s
through_there S p d request s h = by_endpoint (endpoint request) refl
  where
    by_endpoint : (o : Option Fd) → endpoint request ≡ o → socket_at S d ≡ Some s
    by_endpoint None is =
        let none : None ≡ Some (d, s) = sym (ap (λ (o : Option Fd). elim o as
        (λ _. Option (ℕ × Socket)) [ None ↦ None | Some fd ↦ if_found (find_socket S p fd) ]) is) ∙ h in
        absurd (cc none)
    by_endpoint (Some fd) is = socket_found S p d fd s (socket_is_found S p d fd s request is h)

pub sends_find_room : SendsFindRoom
sends_find_room boot es j d e next s legal at here makes next_at sends to again =
    let T : State = before boot es (suc j) in
    let w = sent_through T next.pid.0 d next.request to in
    let full = waits_full boot es (suc j) w.0.0 next w.0.1 legal next_at sends w.1 again in
    let goes : goes_to T w.0.1 (request_addr next.request) ≡ Some d =
    sym (ap (λ (o : Option (ℕ × Socket)). elim o as
    (λ _. Option ℕ) [ None ↦ None | Some found ↦ goes_to T found.1 (request_addr next.request) ]) w.1) ∙ w.2 in
    let u = full_there T w.0.0 d w.0.1 (request_addr next.request) (offered_bytes next.request) full goes in
    false≢true (sym u.2 ∙ queues_get_room boot es j d e s u.0 legal at here makes u.1)

pub sends_go_on : SendsGoOn
sends_go_on boot es j d e next s t legal at here kind brings next_at sends through again =
    by_full (waits_full boot es (suc j) d next t legal next_at sends through again)
  where
    T : State
    T = before boot es (suc j)

    there : socket_at T d ≡ Some t
    there = through_there T next.pid.0 d next.request t through

    still : is_dgram t.kind ≡ false
    still = ap is_dgram (parts_stay (before boot es j) T e.pid.0 j d e.request e.reply s t
        (step_did (before boot es j) T e.pid.0 j e.request e.reply e.released (moment boot es j e legal at).steps) here there).0 ∙ kind

    by_full : FindsFull T d t (request_addr next.request) (offered_bytes next.request) → ⊥
    by_full (at_peer k plain a goes) = room_no_wait T t (rooms_come boot es j d e s t legal at here brings there) a
    by_full (at_target k a short) = false≢true (sym still ∙ k)

pub datagrams_go_on : DatagramsGoOn
datagrams_go_on boot es j d number e next t legal at lets next_at sends through kind to again =
    by_full (waits_full boot es (suc j) d next t legal next_at sends through again)
  where
    S : State
    S = before boot es j

    T : State
    T = before boot es (suc j)

    -- where it goes
    goes : goes_to T t (request_addr next.request) ≡ Some number
    goes =
        let w = sent_through T next.pid.0 number next.request to in
        sym (ap (λ (o : Option (ℕ × Socket)). elim o as
        (λ _. Option ℕ) [ None ↦ None | Some found ↦ goes_to T found.1 (request_addr next.request) ]) through) ∙ w.2

    by_way : (u : Socket) → socket_at T number ≡ Some u → has_room u ≡ false → t.write_shut ≡ false → u.read_shut ≡ false →
        LetsGo S e d number T → ⊥
    by_way u there full writes reads (by_room target here makes) =
        false≢true (sym full ∙ queues_get_room boot es j number e target u legal at here makes there)
    by_way u there full writes reads (by_sender fd how is answered may behind) =
        false≢true (sym writes ∙ (shut_now boot es j d e fd how t legal at is answered behind
        (through_there T next.pid.0 d next.request t through)).1 may)
    by_way u there full writes reads (by_target fd how is answered may behind) =
        false≢true (sym reads ∙ (shut_now boot es j number e fd how u legal at is answered behind there).0 may)
    by_way u there full writes reads (gone none) = not_none there (ap socket_in none)

    by_full : FindsFull T d t (request_addr next.request) (offered_bytes next.request) → ⊥
    by_full (at_peer other plain a may) = false≢true (sym other ∙ kind)
    by_full (at_target same a short) =
        let named : named_target T t (request_addr next.request) ≡ Some number =
        sym (ap (λ b. if b then named_target T t (request_addr next.request) else peer_of t.phase) kind) ∙ goes in
        by_way a.target (ap (λ (i : ℕ). socket_at T i) (both_are named a.to) ∙ a.there) a.full a.writes a.reads lets

-- ---- connects

pub connects_find_a_place : ConnectsFindAPlace
connects_find_a_place boot es j c d e next fd addr s t client kept legal at here listens brings next_at request found kind led again =
    let T : State = before boot es (suc j) in
    let f = connects_wait boot es (suc j) c next fd addr client legal next_at request found kind again in
    let both : Ok (f.number, f.listener) ≡ Ok (d, t) = sym f.led ∙ led in
    let pair : (f.number, f.listener) ≡ (d, t) = cc both in
    let one : f.listener ≡ t = ap (λ (w : ℕ × Socket). w.1) pair in
    let p = places_come boot es j d e s t kept legal at here listens brings (look_up_there T client.kind addr d t led).0 in
    let same : f.none.kept ≡ p.kept = both_are f.none.listens (ap (λ (u : Socket). listener_of u.phase) one ∙ p.listens) in
    let full = f.none.full in
    let free = subst (λ (k : Listener). length k.backlog.pending < k.backlog.limit) (sym same) p.free in
    absurd (omega (arith, full, free))
