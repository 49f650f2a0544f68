-- What makes room in a queue, and so ends a wait to send.
use Rattle.std.proofs.Common.{◌≡◌, ◌⊎◌, ℕ, suc, ◌+◌, ◌-◌, ◌<◌, ◌==◌, true, false, not, if◌then◌else◌, cond, List, []}
use Rattle.std.proofs.Common.{◌∷◌, ◌++◌, length, take, Option, Some, None, Ok, refl, ap, sym, ◌∙◌, subst, inl, inr, ⊎_elim, arith}
use Rattle.std.specs.Prelude.{nat_lt}
use Rattle.std.proofs.lemmas.Bool.{eqb-true, ne_eqb, lt-ltb, not-false, false≢true}
use Rattle.std.proofs.lemmas.List.{length-append, append-nil}
use Rattle.std.proofs.lemmas.List.Concat.{length-flat_map}
use Rattle.ux_model.specs.Types.{Fd, SockOpt, Request, Reply}
use Rattle.ux_model.specs.Limits.{record_limit}
use Rattle.ux_model.specs.Message.{Message, queued_bytes, all_bytes}
use Rattle.ux_model.specs.Front.{front_of, stream_front, record_front}
use Rattle.ux_model.specs.Socket.{Socket, is_stream, peer_of, has_room, with_queue, with_queue_limit}
use Rattle.ux_model.specs.Description.{Description, socket_in}
use Rattle.ux_model.specs.State.{State, description_at, socket_at, with_socket_by}
use Rattle.ux_model.specs.Outcome.{Outcome, find_socket}
use Rattle.ux_model.specs.Options.{may_limit, set_opt}
use Rattle.ux_model.specs.Release.{settled}
use Rattle.ux_model.specs.Step.{Step, outcome}
use Rattle.ux_model.specs.Pedigree.{before}
use Rattle.ux_model.proofs.Changes.Walk.{either}
use Rattle.ux_model.proofs.Lists.ByPlace.{take_none}
use Rattle.ux_model.proofs.Lists.ChangedPlaces.{bool_cases}
use Rattle.ux_model.proofs.Lists.Fronts.{front_is_legal}
use Rattle.ux_model.proofs.Invariants.Dangling.{nothing_dangles}
use Rattle.ux_model.proofs.Pedigrees.Moments.{moment}
use Rattle.ux_model.proofs.Tables.Shows.{socket_found}
use Rattle.ux_laws.specs.Talking.{offered_bytes, is_peek, taken_count, given_bytes, sends_to, receives_through}
use Rattle.ux_laws.specs.Streams.{sent_now, received_now}
use Rattle.ux_laws.specs.Records.{is_given}
use Rattle.ux_laws.specs.Credentials.{socket_behind}
use Rattle.ux_laws.specs.Waits.{AwaitsRoom}
use Rattle.ux_laws.specs.Rooms.{MakesRoom, by_receive, by_limit, QueuesGetRoom, NeedsNoRoom, in_queue, shut, peer_shut, peer_gone}
use Rattle.ux_laws.specs.Rooms.{RoomOrWait}
use Rattle.ux_laws.specs.Rooms.{BringsRoom, at_peer, by_shutdown, by_peer, by_loss, RoomsCome}
use Rattle.ux_laws.proofs.Acts.{Did, either_none}
use Rattle.ux_laws.proofs.Doing.Calls.{step_did}
use Rattle.ux_laws.proofs.Delivering.{flow_balance, given_no_count, receives_there}
use Rattle.ux_laws.proofs.Flows.{waiting_at, waiting_is, still_waits, Flow, calm, put_in, taken, step_flow, at_socket, changed_waiting}
use Rattle.ux_laws.proofs.FewRecords.{records_are_few, record_room}
use Rattle.ux_laws.proofs.LeftAlone.{Lost, settled_lost}
use Rattle.ux_laws.proofs.Inputs.{PeersGo, peers_go}
use Rattle.ux_laws.proofs.SendWaits.{at_found, NoLimit, limit_kept}
use Rattle.ux_laws.proofs.WaitEnds.{parts_stay, socket_stays}
use Rattle.ux_laws.proofs.Wakes.{both_are, not_none, socket_changed, left_part, ok_own, behind_found, shut_now}

-- ---- room

-- a stream has some for another byte
stream_room_left : (s : Socket) → is_stream s.kind ≡ true → queued_bytes s.queue < s.queue_limit → has_room s ≡ true
stream_room_left s kind less =
    ap (λ b. if b then not (s.queue_limit - queued_bytes s.queue == 0) else nat_lt (length s.queue) record_limit) kind
    ∙ ap (λ b. not b) (ne_eqb (s.queue_limit - queued_bytes s.queue) 0 (λ z. omega (arith, z, less)))

-- ---- a receive

-- the bytes of a stream that are left
bytes_left : (S T : State) (p tag d : ℕ) (request : Request) (reply : Reply) (s t : Socket) → Flow S p tag request reply T →
    is_stream t.kind ≡ true → socket_at S d ≡ Some s → socket_at T d ≡ Some t → receives_through S d p request ≡ true →
    is_peek request ≡ false → is_given reply ≡ true → queued_bytes s.queue ≡ length (given_bytes reply) + queued_bytes t.queue
bytes_left S T p tag d request reply s t flow kind here there through takes gives =
    let b = flow_balance S T p tag request reply d flow (at_socket is_stream T d t there kind) in
    let none : sent_now d S p request reply ≡ [] = either_none (sends_to S d p request) (take (taken_count reply) (offered_bytes request))
    (ap (λ (n : ℕ). take n (offered_bytes request)) (given_no_count reply gives) ∙ take_none (offered_bytes request)) in
    let got : received_now d S p request reply ≡ given_bytes reply =
    ap (λ c. if c then [] else if receives_through S d p request then given_bytes reply else []) takes
    ∙ ap (λ c. if c then given_bytes reply else []) through in
    let whole : all_bytes (waiting_at S d) ≡ given_bytes reply ++ all_bytes (waiting_at T d) =
    sym (append-nil (all_bytes (waiting_at S d))) ∙ ap (λ (l : List ℕ). all_bytes (waiting_at S d) ++ l) (sym none) ∙ b.1
    ∙ ap (λ (l : List ℕ). l ++ all_bytes (waiting_at T d)) got in
    let joined : all_bytes s.queue ≡ given_bytes reply ++ all_bytes t.queue =
    ap (λ (q : List Message). all_bytes q) (sym (waiting_is S d s here)) ∙ whole
    ∙ ap (λ (q : List Message). given_bytes reply ++ all_bytes q) (waiting_is T d t there) in
    sym (length-flat_map (λ m. Message.bytes m) s.queue) ∙ ap (λ (l : List ℕ). length l) joined
    ∙ length-append (given_bytes reply) (all_bytes t.queue)
    ∙ ap (λ (n : ℕ). length (given_bytes reply) + n) (length-flat_map (λ m. Message.bytes m) t.queue)

-- the records that are left
records_left : (S T : State) (p tag d : ℕ) (request : Request) (reply : Reply) (s t : Socket) → Flow S p tag request reply T →
    is_stream s.kind ≡ false → socket_at S d ≡ Some s → socket_at T d ≡ Some t → receives_through S d p request ≡ true →
    is_peek request ≡ false → is_given reply ≡ true → (t.queue ≡ []) ⊎ (length t.queue < length s.queue)
records_left S T p tag d request reply s t (calm V c moves sh) kind here there through takes gives =
    let w = moves.record_in d through takes gives in
    let one : s ≡ w.0 = both_are here w.2 in
    ⊎_elim {C = (t.queue ≡ []) ⊎ (length t.queue < length s.queue)}
    (λ none. inl (still_waits V T d t sh there ∙ c.waiting d ∙ waiting_is S d w.0 w.2 ∙ none))
    (λ streams. absurd (false≢true (sym kind ∙ ap (λ (u : Socket). is_stream u.kind) one ∙ streams))) w.3
records_left S T p tag d request reply s t (put_in k m a sh) kind here there through takes gives =
    absurd (false≢true (sym (ap is_given a.answered) ∙ gives))
records_left S T p tag d request reply s t (taken k n u m ms a sh) kind here there through takes gives =
    let at : (k == d) ≡ true = sym (receives_there S p k d n request reply u m ms a) ∙ through in
    let one : s ≡ u = both_are here (ap (λ (i : ℕ). socket_at S i) (sym (eqb-true k d at)) ∙ a.there) in
    let left : t.queue ≡ ms = still_waits _ T d t sh there ∙ changed_waiting S k d (with_queue (front_of n u m ms).rest) u a.there
    ∙ ap (λ c. cond c (front_of n u m ms).rest (waiting_at S d)) at
    ∙ ap (λ c. (if c then stream_front u.passcred n m ms else record_front n m ms).rest)
    (sym (ap (λ (v : Socket). is_stream v.kind) one) ∙ kind) in
    let was : s.queue ≡ m ∷ ms = ap (λ (v : Socket). v.queue) one ∙ a.waiting in
    let fewer = ap (λ (q : List Message). length q) left in
    let more = ap (λ (q : List Message). length q) was in
    inr (omega (arith, fewer, more))

-- ---- a new limit

-- what the option leaves
limits : (S : State) (p d value : ℕ) (fd : Fd) (s : Socket) → find_socket S p fd ≡ Ok (d, s) →
    (set_opt S p fd SockOpt.QueueLimit value).reply ≡ Reply.Ok →
    (is_stream s.kind ≡ true) × ((set_opt S p fd SockOpt.QueueLimit value).next ≡ with_socket_by S d (with_queue_limit value))
unfolding set_opt
limits S p d value fd s found = at_found Q S p d fd s _ found
    (either Q (not (is_stream s.kind)) _ _ (λ b h. absurd (cc h))
    (λ b. either Q (not (may_limit value)) _ _ (λ c h. absurd (cc h)) (λ c h. (not-false (is_stream s.kind) b, refl))))
  where
    Q : Outcome → Type 0
    Q o = o.reply ≡ Reply.Ok → (is_stream s.kind ≡ true) × (o.next ≡ with_socket_by S d (with_queue_limit value))

step_limits : (S T : State) (p tag d value : ℕ) (fd : Fd) (reply : Reply) (gone : List ℕ) (s t : Socket) →
    Step S p tag (Request.SetOpt fd SockOpt.QueueLimit value) reply gone T → reply ≡ Reply.Ok → socket_at S d ≡ Some s →
    socket_behind S p fd ≡ Some d → socket_at T d ≡ Some t →
    (is_stream t.kind ≡ true) × (t.queue ≡ s.queue) × (t.queue_limit ≡ value)
unfolding Step outcome
step_limits S T p tag d value fd reply gone s t step answered here behind there =
    let w = behind_found S p d fd behind in
    let one : w.0 ≡ s = both_are (socket_found S p d fd w.0 w.1) here in
    let c = ok_own S step.0 (set_opt S p fd SockOpt.QueueLimit value) reply step.1 answered in
    let l = limits S p d value fd w.0 w.1 c.0 in
    let U : State = with_socket_by S d (with_queue_limit value) in
    let now = socket_changed S d (with_queue_limit value) s here in
    let ends : Lost U T d = subst (λ (V : State). Lost U V d) (sym (step.3 ∙ ap settled (c.1 ∙ l.1))) (settled_lost U d) in (
      left_part (λ (x : Socket). is_stream x.kind) U T d (with_queue_limit value s) t (λ x. refl) ends now there
          ∙ sym (ap (λ (x : Socket). is_stream x.kind) one) ∙ l.0,
      left_part (λ (x : Socket). x.queue) U T d (with_queue_limit value s) t (λ x. refl) ends now there,
      left_part (λ (x : Socket). x.queue_limit) U T d (with_queue_limit value s) t (λ x. refl) ends now there,
    )

-- ---- room in a queue

-- a receive sets no limit
receive_no_limit : (S : State) (p d k : ℕ) (request : Request) → receives_through S d p request ≡ true → NoLimit S p k request
receive_no_limit S p d k request through fd value is =
    absurd (false≢true (ap (receives_through S d p) (sym is) ∙ through))

pub queues_get_room : QueuesGetRoom
queues_get_room boot es j d e s t legal at here makes there = by_way makes
  where
    S : State
    S = before boot es j

    T : State
    T = before boot es (suc j)

    step : Step S e.pid.0 j e.request e.reply e.released T
    step = (moment boot es j e legal at).steps

    kind_stays : t.kind ≡ s.kind
    kind_stays = (parts_stay S T e.pid.0 j d e.request e.reply s t (step_did S T e.pid.0 j e.request e.reply e.released step) here there).0

    by_receiving : receives_through S d e.pid.0 e.request ≡ true → is_peek e.request ≡ false → is_given e.reply ≡ true →
        (is_stream s.kind ≡ true → queued_bytes s.queue < length (given_bytes e.reply) + s.queue_limit) → has_room t ≡ true
    by_receiving through takes gives enough = bool_cases (is_stream s.kind)
        (λ streams.
        let kind = ap is_stream kind_stays ∙ streams in
        let left = bytes_left S T e.pid.0 j d e.request e.reply s t flow kind here there through takes gives in
        let less = enough streams in
        let limit = limit_kept S T e.pid.0 j d e.request e.reply e.released s t step
        (receive_no_limit S e.pid.0 d d e.request through) here there in
        stream_room_left t kind (omega (arith, left, less, limit)))
        (λ records.
        let few = records_are_few boot (take j es) d s (front_is_legal boot es j legal) here records in
        record_room t (ap is_stream kind_stays ∙ records)
        ∙ lt-ltb (length t.queue) record_limit (⊎_elim {C = length t.queue < record_limit}
        (λ none. let long = ap (λ (q : List Message). length q) none in omega (arith, long))
        (λ less. omega (arith, less, few))
        (records_left S T e.pid.0 j d e.request e.reply s t flow records here there through takes gives)))
      where
        flow : Flow S e.pid.0 j e.request e.reply T
        flow = step_flow S T e.pid.0 j e.request e.reply e.released step

    by_way : MakesRoom S e d s → has_room t ≡ true
    by_way (by_receive through takes gives enough) = by_receiving through takes gives enough
    by_way (by_limit fd value is answered behind less) =
        let w = step_limits S T e.pid.0 j d value fd e.reply e.released s t
        (subst (λ (r : Request). Step S e.pid.0 j r e.reply e.released T) is step) answered here behind there in
        let queue = ap (λ (q : List Message). queued_bytes q) w.1 in
        let limit = w.2 in
        stream_room_left t w.0 (omega (arith, queue, limit, less))

-- ---- a send through a connected socket

pub room_no_wait : (S : State) (s : Socket) → NeedsNoRoom S s → AwaitsRoom S s → ⊥
room_no_wait S s (in_queue peer other to at room) a =
    let one : other ≡ a.other = both_are at (ap (λ (i : ℕ). socket_at S i) (both_are to a.to) ∙ a.there) in
    false≢true (sym a.full ∙ sym (ap has_room one) ∙ room)
room_no_wait S s (shut h) a = false≢true (sym a.writes ∙ h)
room_no_wait S s (peer_shut peer other to at h) a =
    let one : other ≡ a.other = both_are at (ap (λ (i : ℕ). socket_at S i) (both_are to a.to) ∙ a.there) in
    false≢true (sym a.reads ∙ sym (ap (λ (u : Socket). u.read_shut) one) ∙ h)
room_no_wait S s (peer_gone peer to none) a =
    not_none a.there (ap (λ (i : ℕ). socket_at S i) (both_are a.to to) ∙ ap socket_in none)

room_or_wait_here : (S : State) (s : Socket) (peer : ℕ) → PeersGo S s → peer_of s.phase ≡ Some peer → NeedsNoRoom S s ⊎ AwaitsRoom S s
room_or_wait_here S s peer go to = by_other (socket_at S peer) refl
  where
    by_other : (x : Option Socket) → socket_at S peer ≡ x → NeedsNoRoom S s ⊎ AwaitsRoom S s
    by_other None at = inl (peer_gone peer to (go peer to at))
    by_other (Some other) at = bool_cases s.write_shut (λ b. inl (shut b))
        (λ b. bool_cases other.read_shut (λ c. inl (peer_shut peer other to at c))
        (λ c. bool_cases (has_room other) (λ f. inl (in_queue peer other to at f))
        (λ f. inr (record { peer = peer; other = other; to = to; there = at; full = f; writes = b; reads = c }))))

pub room_or_wait : RoomOrWait
room_or_wait boot es j d peer s legal here to = record {
  one = room_or_wait_here (before boot es j) s peer
      (peers_go (before boot es j) d s (nothing_dangles boot (take j es) (front_is_legal boot es j legal)) here) to;
  apart = room_no_wait (before boot es j) s;
}

pub rooms_come : RoomsCome
rooms_come boot es j d e s t legal at here brings there = by_way brings
  where
    S : State
    S = before boot es j

    T : State
    T = before boot es (suc j)

    step : Step S e.pid.0 j e.request e.reply e.released T
    step = (moment boot es j e legal at).steps

    did : Did S e.pid.0 j e.request e.reply T
    did = step_did S T e.pid.0 j e.request e.reply e.released step

    still_to : (peer : ℕ) → peer_of s.phase ≡ Some peer → peer_of t.phase ≡ Some peer
    still_to = (parts_stay S T e.pid.0 j d e.request e.reply s t did here there).1

    -- the peer is gone, or is a socket still
    by_place : (peer : ℕ) (other : Socket) → peer_of s.phase ≡ Some peer → socket_at S peer ≡ Some other →
        ((u : Socket) → socket_at T peer ≡ Some u → NeedsNoRoom T t) → (x : Option Description) → description_at T peer ≡ x →
        NeedsNoRoom T t
    by_place peer other to was rest None is = peer_gone peer (still_to peer to) is
    by_place peer other to was rest (Some D) is =
        let u = socket_stays S T e.pid.0 j peer e.request e.reply other D did was is in rest u.0 u.1

    by_way : BringsRoom S e d s T → NeedsNoRoom T t
    by_way (at_peer peer other to was makes) = by_place peer other to was
        (λ u now. in_queue peer u (still_to peer to) now (queues_get_room boot es j peer e other u legal at was makes now))
        (description_at T peer) refl
    by_way (by_shutdown fd how is answered writes behind) =
        shut ((shut_now boot es j d e fd how t legal at is answered behind there).1 writes)
    by_way (by_peer peer fd how to is answered reads behind) =
        let w = behind_found S e.pid.0 peer fd behind in
        by_place peer w.0 to (socket_found S e.pid.0 peer fd w.0 w.1)
        (λ u now. peer_shut peer u (still_to peer to) now ((shut_now boot es j peer e fd how u legal at is answered behind now).0 reads))
        (description_at T peer) refl
    by_way (by_loss peer to gone) = peer_gone peer (still_to peer to) gone
