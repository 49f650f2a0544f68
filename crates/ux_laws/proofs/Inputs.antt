-- What reads, receives and peeks give, and when they give nothing.
use Rattle.std.proofs.Common.{◌≡◌, ℕ, suc, ◌<◌, ◌==◌, Bool, true, false, not, ◌&&◌, ◌||◌, if◌then◌else◌, is_some, min, List, [], ◌∷◌}
use Rattle.std.proofs.Common.{zero, slice_get, length, take, Result, Ok, Err, Option, Some, None, refl, ap, sym, ◌∙◌, subst, arith}
use Rattle.std.proofs.lemmas.Bool.{false≢true, and_parts, eqb-true}
use Rattle.std.proofs.lemmas.List.{length-take}
use Rattle.ux_model.specs.Types.{Errno, Fd, MsgFlags, Request, Reply, Entry}
use Rattle.ux_model.specs.Limits.{read_limit}
use Rattle.ux_model.specs.Flags.{are_receive_flags, no_flags}
use Rattle.ux_model.specs.Message.{Message, queued_bytes, all_bytes}
use Rattle.ux_model.specs.Stream.{joined_run}
use Rattle.ux_model.specs.Front.{Front, front_of, stream_front, record_front}
use Rattle.ux_model.specs.Socket.{Socket, is_stream, is_dgram, peer_of}
use Rattle.ux_model.specs.Description.{Description, Target, to_object, to_socket, socket_of, socket_in}
use Rattle.ux_model.specs.State.{State, description_at, socket_at}
use Rattle.ux_model.specs.Outcome.{Outcome, Chosen, own, lacking_memory, failing, refuse, answer, find_socket}
use Rattle.ux_model.specs.Peers.{target_peer, peer_in}
use Rattle.ux_model.specs.Invariants.{IsWhole}
use Rattle.ux_model.specs.Receiving.{Incoming, incoming, receive_front, nothing_received, at_end as ends, receive, recv_msg, bytes_alone}
use Rattle.ux_model.specs.Step.{Step, outcome}
use Rattle.ux_model.specs.History.{IsLegal}
use Rattle.ux_model.specs.Pedigree.{before}
use Rattle.ux_model.proofs.Changes.Walk.{either, maybe, by_queue}
use Rattle.ux_model.proofs.Lists.ChangedPlaces.{bool_cases}
use Rattle.ux_model.proofs.Lists.Fronts.{front_is_legal}
use Rattle.ux_model.proofs.Invariants.Dangling.{nothing_dangles}
use Rattle.ux_model.proofs.Pedigrees.Moments.{moment}
use Rattle.ux_model.proofs.Tables.Shows.{socket_found}
use Rattle.ux_model.specs.ReplyKinds.{is_reply_to}
use Rattle.ux_model.proofs.Sizes.ReplyKinds.{replies_are_of_their_kind}
use Rattle.ux_laws.specs.Talking.{is_peek, given_bytes, socket_through}
use Rattle.ux_laws.specs.Records.{is_count, is_given}
use Rattle.ux_laws.specs.Inputs.{IsInputOver, shut, peer_shut, peer_gone, GivesNone, at_end, of_empty, ReadsEndTruly, ReceivesEndTruly}
use Rattle.ux_laws.specs.Inputs.{AreFirst, ReceivesGiveTheFirst, ReadsGiveTheFirst, PeeksTakeNothing, EmptyQueuesGiveNothing}
use Rattle.ux_laws.specs.Inputs.{EmptyQueuesReadAsNothing}
use Rattle.ux_laws.proofs.Delivering.{front_bytes}
use Rattle.ux_laws.proofs.Flows.{waiting_is, still_waits, Flow, calm, put_in, taken, step_flow}
use Rattle.ux_laws.proofs.Ended.{peer_seen}
use Rattle.ux_laws.proofs.Telling.{LeadsToSocket, socket_is_found, leads_to_socket, front_reply, read_is}
use Rattle.ux_laws.proofs.NoEmpty.{AllHaveBytes, streams_have_bytes, gives_some}

-- ---- a receive

-- whoever has gone is no socket either
abbrev pub PeersGo : State → Socket → Type 0
PeersGo S s = (peer : ℕ) → peer_of s.phase ≡ Some peer → socket_at S peer ≡ None → description_at S peer ≡ None

pub peers_go : (S : State) (d : ℕ) (s : Socket) → IsWhole S → socket_at S d ≡ Some s → PeersGo S s
peers_go S d s whole here peer to none = at_place (description_at S peer) refl none
  where
    no_peer : (t : Target) → socket_of t ≡ None → target_peer t ≡ None
    no_peer (to_object o) h = refl
    no_peer (to_socket u) h = absurd (cc h)

    at_place : (x : Option Description) → description_at S peer ≡ x → socket_in x ≡ None → x ≡ None
    at_place None is h = refl
    at_place (Some D) is h =
        let back = whole.connections_mutual.returned d peer (peer_seen S d peer s here to) (ap is_some is) in
        let clash : None ≡ Some d = sym (no_peer D.target h) ∙ sym (ap peer_in is) ∙ back in
        absurd (cc clash)

-- what it comes to, of any type
data Comes (S : State) (p d : ℕ) (s : Socket) (asked : Incoming) (o : Outcome) : Type 0 where
  refused : is_given o.reply ≡ false → Comes S p d s asked o
  no_byte_asked : (is_stream s.kind && (asked.n == 0)) ≡ true → o ≡ answer nothing_received S → Comes S p d s asked o
  to_end : s.queue ≡ [] → IsInputOver S s → (is_dgram s.kind ≡ false → s.reset ≡ false) → o ≡ answer nothing_received S →
      Comes S p d s asked o
  from_queue : (m : Message) (ms : List Message) → s.queue ≡ m ∷ ms → o ≡ receive_front S p d s asked (front_of asked.n s m ms) →
      Comes S p d s asked o

comes : (S : State) (p d : ℕ) (s : Socket) (asked : Incoming) → PeersGo S s → Comes S p d s asked (receive S p d s asked)
comes S p d s asked go = either Q (is_dgram s.kind) _ _
    (λ k. by_queue Q s.queue _ _
    (λ none. either Q s.read_shut _ _ (λ b. to_end none (shut b) (λ c. absurd (false≢true (sym c ∙ k))) refl) (λ b. refused refl))
    (λ m ms q. from_queue m ms q refl))
    (λ k. maybe Q (peer_of s.phase) _ _ (refused refl)
    (λ peer is. either Q (is_stream s.kind && (asked.n == 0)) _ _ (λ b. no_byte_asked b refl)
    (λ b. by_queue Q s.queue _ _
    (λ none. either Q s.reset _ _ (λ r. refused refl)
    (λ r. either Q (ends S s peer) _ _ (λ f. to_end none (over peer is (socket_at S peer) refl f) (λ c. r) refl) (λ f. refused refl)))
    (λ m ms q. from_queue m ms q refl))))
  where
    Q : Outcome → Type 0
    Q o = Comes S p d s asked o

    over : (peer : ℕ) → peer_of s.phase ≡ Some peer → (x : Option Socket) → socket_at S peer ≡ x →
        (elim x as (λ _. Bool) [ None ↦ true | Some other ↦ s.read_shut || other.write_shut ]) ≡ true → IsInputOver S s
    over peer is None at h = peer_gone peer is (go peer is at)
    over peer is (Some other) at h =
        bool_cases s.read_shut (λ b. shut b) (λ b. peer_shut peer other is at (sym (ap (λ c. c || other.write_shut) b) ∙ h))

-- ---- its answer

-- the reply is reported whole, or the bytes alone
record Tells (told : Reply → Reply) : Type 0 where
  pub gives : (r : Reply) → is_given (told r) ≡ is_given r
  pub bytes : (r : Reply) → given_bytes (told r) ≡ given_bytes r

tells_whole : Tells (λ r. r)
tells_whole = record { gives = λ r. refl; bytes = λ r. refl }

tells_bytes : Tells bytes_alone
tells_bytes = record { gives = gives_alike; bytes = bytes_alike }
  where
    gives_alike : (r : Reply) → is_given (bytes_alone r) ≡ is_given r
    gives_alike (Reply.Received flags count bytes control from) = refl
    gives_alike _ = refl

    bytes_alike : (r : Reply) → given_bytes (bytes_alone r) ≡ given_bytes r
    bytes_alike (Reply.Received flags count bytes control from) = refl
    bytes_alike _ = refl

-- one of at most n bytes
data Answered (S : State) (s : Socket) (n : ℕ) (told : Reply → Reply) (reply : Reply) : Type 0 where
  no_gift : is_given reply ≡ false → Answered S s n told reply
  nothing_asked : (is_stream s.kind && (n == 0)) ≡ true → reply ≡ told nothing_received → Answered S s n told reply
  ended : s.queue ≡ [] → IsInputOver S s → (is_dgram s.kind ≡ false → s.reset ≡ false) → reply ≡ told nothing_received →
      Answered S s n told reply
  of_front : (m : Message) (ms : List Message) → s.queue ≡ m ∷ ms → given_bytes reply ≡ (front_of n s m ms).bytes →
      Answered S s n told reply

answered : (S U : State) (p d : ℕ) (s : Socket) (asked : Incoming) (told : Reply → Reply) (reply : Reply) → Tells told → PeersGo S s →
    Chosen S (record (receive S p d s asked) { reply = told (receive S p d s asked).reply }) reply U → Answered S s asked.n told reply
answered S U p d s asked told reply tells go (lacking_memory r may f) = no_gift (ap is_given r)
answered S U p d s asked told reply tells go (failing r f) = no_gift (ap is_given r)
answered S U p d s asked told reply tells go (own r f) = by_comes (comes S p d s asked go)
  where
    by_comes : Comes S p d s asked (receive S p d s asked) → Answered S s asked.n told reply
    by_comes (refused none) = no_gift (ap is_given r ∙ tells.gives (receive S p d s asked).reply ∙ none)
    by_comes (no_byte_asked b is) = nothing_asked b (r ∙ ap (λ (o : Outcome). told o.reply) is)
    by_comes (to_end q over clear is) = ended q over clear (r ∙ ap (λ (o : Outcome). told o.reply) is)
    by_comes (from_queue m ms q is) =
        let front : Front = front_of asked.n s m ms in
        of_front m ms q (ap given_bytes r ∙ tells.bytes (receive S p d s asked).reply ∙ ap (λ (o : Outcome). given_bytes o.reply) is
        ∙ (front_reply S p d s asked front).0.bytes)

-- recvmsg(2)
recv_answered : (S U : State) (p n space d : ℕ) (fd : Fd) (asked : MsgFlags) (s : Socket) (reply : Reply) → PeersGo S s →
    find_socket S p fd ≡ Ok (d, s) → Chosen S (recv_msg S p fd n space asked) reply U → Answered S s n (λ r. r) reply
unfolding recv_msg
recv_answered S U p n space d fd asked s reply go found chosen = bool_cases (are_receive_flags asked)
    (λ b. answered S U p d s (incoming n space asked) (λ r. r) reply tells_whole go (subst (λ (o : Outcome). Chosen S o reply U)
    (is ∙ ap of_flags b) chosen))
    (λ b. refusal (subst (λ (o : Outcome). Chosen S o reply U) (is ∙ ap of_flags b) chosen))
  where
    of_flags : Bool → Outcome
    of_flags b = if not b then refuse S Errno.EINVAL else receive S p d s (incoming n space asked)

    is : recv_msg S p fd n space asked ≡ of_flags (are_receive_flags asked)
    is = ap (λ (r : Result (ℕ × Socket) Errno). elim r as
        (λ _. Outcome) [
          | Err e ↦ refuse S e
          | Ok w ↦ if not (are_receive_flags asked) then refuse S Errno.EINVAL
              else receive S p w.0 w.1 (incoming n space asked)
        ]) found

    refusal : Chosen S (refuse S Errno.EINVAL) reply U → Answered S s n (λ r. r) reply
    refusal (own r f) = no_gift (ap is_given r)
    refusal (lacking_memory r may f) = no_gift (ap is_given r)
    refusal (failing r f) = no_gift (ap is_given r)

step_received : (S T : State) (p tag n space d : ℕ) (fd : Fd) (asked : MsgFlags) (s : Socket) (reply : Reply) (gone : List ℕ) →
    PeersGo S s → find_socket S p fd ≡ Ok (d, s) → Step S p tag (Request.RecvMsg fd n space asked) reply gone T →
    Answered S s n (λ r. r) reply
unfolding Step outcome
step_received S T p tag n space d fd asked s reply gone go found step =
    recv_answered S step.0 p n space d fd asked s reply go found step.1

-- read(2)
step_read : (S T : State) (p tag n d : ℕ) (fd : Fd) (s : Socket) (reply : Reply) (gone : List ℕ) → PeersGo S s → LeadsToSocket S p fd d s →
    Step S p tag (Request.Read fd n) reply gone T → Answered S s (min read_limit n) bytes_alone reply
unfolding Step outcome
step_read S T p tag n d fd s reply gone go l step =
    answered S step.0 p d s (incoming (min read_limit n) 0 no_flags) bytes_alone reply tells_bytes go
    (subst (λ (o : Outcome). Chosen S o reply step.0) (read_is S p n d fd s l) step.1)

-- ---- in a history

-- a receive of a legal history
received_in : (boot : State) (es : List Entry) (j n space d : ℕ) (e : Entry) (fd : Fd) (asked : MsgFlags) (s : Socket) → IsLegal boot es →
    slice_get es j ≡ Some e → e.request ≡ Request.RecvMsg fd n space asked →
    socket_through (before boot es j) e.pid.0 e.request ≡ Some (d, s) →
    Answered (before boot es j) s n (λ r. r) e.reply × (is_stream s.kind ≡ true → AllHaveBytes s.queue)
received_in boot es j n space d e fd asked s legal at request through =
    let S : State = before boot es j in
    let led : socket_through S e.pid.0 (Request.RecvMsg fd n space asked) ≡ Some (d, s) = sym (ap (socket_through S e.pid.0) request)
    ∙ through in
    let found = socket_is_found S e.pid.0 d fd s (Request.RecvMsg fd n space asked) refl led in
    let there = socket_found S e.pid.0 d fd s found in
    let front = front_is_legal boot es j legal in (
      step_received S (before boot es (suc j)) e.pid.0 j n space d fd asked s e.reply e.released
          (peers_go S d s (nothing_dangles boot (take j es) front) there) found
          (subst (λ (r : Request). Step S e.pid.0 j r e.reply e.released (before boot es (suc j))) request (moment boot es j e legal at).steps),
      λ streams. streams_have_bytes boot (take j es) d s front there streams,
    )

-- a read
read_in : (boot : State) (es : List Entry) (j n d : ℕ) (e : Entry) (fd : Fd) (s : Socket) → IsLegal boot es →
    slice_get es j ≡ Some e → e.request ≡ Request.Read fd n → socket_through (before boot es j) e.pid.0 e.request ≡ Some (d, s) →
    Answered (before boot es j) s (min read_limit n) bytes_alone e.reply × (is_stream s.kind ≡ true → AllHaveBytes s.queue)
read_in boot es j n d e fd s legal at request through =
    let S : State = before boot es j in
    let led : socket_through S e.pid.0 (Request.Read fd n) ≡ Some (d, s) = sym (ap (socket_through S e.pid.0) request) ∙ through in
    let found = socket_is_found S e.pid.0 d fd s (Request.Read fd n) refl led in
    let there = socket_found S e.pid.0 d fd s found in
    let front = front_is_legal boot es j legal in (
      step_read S (before boot es (suc j)) e.pid.0 j n d fd s e.reply e.released
          (peers_go S d s (nothing_dangles boot (take j es) front) there) (leads_to_socket S e.pid.0 d fd s found)
          (subst (λ (r : Request). Step S e.pid.0 j r e.reply e.released (before boot es (suc j))) request (moment boot es j e legal at).steps),
      λ streams. streams_have_bytes boot (take j es) d s front there streams,
    )

-- ---- the end of input

take_none_left : (n : ℕ) (xs : List ℕ) → 0 < n → take n xs ≡ [] → xs ≡ []
take_none_left zero xs some h = absurd (omega (arith, some))
take_none_left (suc n) [] some h = refl
take_none_left (suc n) (x ∷ xs) some h = absurd (cc h)

gives_none : (S : State) (s : Socket) (n : ℕ) (told : Reply → Reply) (reply : Reply) → 0 < n →
    (is_stream s.kind ≡ true → AllHaveBytes s.queue) → is_given reply ≡ true → given_bytes reply ≡ [] → Answered S s n told reply →
    GivesNone S s
gives_none S s n told reply some all gives none (no_gift h) = absurd (false≢true (sym h ∙ gives))
gives_none S s n told reply some all gives none (nothing_asked b is) =
    let zero_asked = eqb-true n 0 (and_parts (is_stream s.kind) (n == 0) b).1 in
    absurd (omega (arith, some, zero_asked))
gives_none S s n told reply some all gives none (ended q over clear is) = at_end q over clear
gives_none S s n told reply some all gives none (of_front m ms q is) = bool_cases (is_stream s.kind)
    (λ streams.
    let more = gives_some n s m ms streams (subst AllHaveBytes q (all streams)) some in
    let long : ◌≡◌ {A = ℕ} (length (front_of n s m ms).bytes) 0 = ap (λ (l : List ℕ). length l) (sym is ∙ none) in
    absurd (omega (arith, more, long)))
    (λ kind. of_empty m ms kind q (take_none_left n m.bytes some
    (sym (ap (λ b. (if b then stream_front s.passcred n m ms else record_front n m ms).bytes) kind) ∙ sym is ∙ none)))

pub reads_end_truly : ReadsEndTruly
reads_end_truly boot es j n d e fd s legal at request some through reply =
    let r = read_in boot es j n d e fd s legal at request through in
    gives_none (before boot es j) s (min read_limit n) bytes_alone e.reply (omega (arith, some)) r.1 (ap is_given reply)
    (ap given_bytes reply) r.0

pub receives_end_truly : ReceivesEndTruly
receives_end_truly boot es j n space count d e fd asked flags control from s legal at request some through reply =
    let r = received_in boot es j n space d e fd asked s legal at request through in
    gives_none (before boot es j) s n (λ r. r) e.reply some r.1 (ap is_given reply) (ap given_bytes reply) r.0

-- ---- what is given

-- the front of a stream
front_first : (n : ℕ) (s : Socket) (m : Message) (ms : List Message) → is_stream s.kind ≡ true →
    AreFirst (front_of n s m ms).bytes n (m ∷ ms)
front_first n s m ms streams =
    subst (λ b. AreFirst (if b then stream_front s.passcred n m ms else record_front n m ms).bytes n (m ∷ ms)) (sym streams) (record {
      behind = all_bytes (stream_front s.passcred n m ms).rest;
      joined = sym (front_bytes s.passcred n m ms);
      few = let long = length-take (min n (queued_bytes (joined_run s.passcred m ms))) (all_bytes (joined_run s.passcred m ms)) in
          omega (arith, long);
    })

-- no bytes are the first of any
none_first : (n : ℕ) (queue : List Message) (bytes : List ℕ) → bytes ≡ [] → AreFirst bytes n queue
none_first n queue bytes none = subst (λ (l : List ℕ). AreFirst l n queue) (sym none)
    (record { behind = all_bytes queue; joined = refl; few = omega arith })

gives_first : (S : State) (s : Socket) (n : ℕ) (told : Reply → Reply) (reply : Reply) → Tells told → is_stream s.kind ≡ true →
    is_given reply ≡ true → Answered S s n told reply → AreFirst (given_bytes reply) n s.queue
gives_first S s n told reply tells streams gives (no_gift h) = absurd (false≢true (sym h ∙ gives))
gives_first S s n told reply tells streams gives (nothing_asked b is) = none_first n s.queue (given_bytes reply)
    (ap given_bytes is ∙ tells.bytes nothing_received)
gives_first S s n told reply tells streams gives (ended q over clear is) = none_first n s.queue (given_bytes reply)
    (ap given_bytes is ∙ tells.bytes nothing_received)
gives_first S s n told reply tells streams gives (of_front m ms q is) =
    subst (λ (l : List ℕ). AreFirst l n s.queue) (sym is)
    (subst (AreFirst (front_of n s m ms).bytes n) (sym q) (front_first n s m ms streams))

pub receives_give_the_first : ReceivesGiveTheFirst
receives_give_the_first boot es j n space count d e fd asked flags bytes control from s legal at request reply through streams =
    let r = received_in boot es j n space d e fd asked s legal at request through in
    subst (λ (l : List ℕ). AreFirst l n s.queue) (ap given_bytes reply)
    (gives_first (before boot es j) s n (λ r. r) e.reply tells_whole streams (ap is_given reply) r.0)

pub reads_give_the_first : ReadsGiveTheFirst
reads_give_the_first boot es j n d e fd bytes s legal at request reply through streams =
    let r = read_in boot es j n d e fd s legal at request through in
    subst (λ (l : List ℕ). AreFirst l (min read_limit n) s.queue) (ap given_bytes reply)
    (gives_first (before boot es j) s (min read_limit n) bytes_alone e.reply tells_bytes streams (ap is_given reply) r.0)

-- ---- a peek

peek_no_count : (request : Request) (reply : Reply) → is_peek request ≡ true → is_reply_to request reply ≡ true → is_count reply ≡ false
peek_no_count (Request.RecvMsg fd n space flags) reply peek h = by_reply reply h
  where
    by_reply : (r : Reply) → is_reply_to (Request.RecvMsg fd n space flags) r ≡ true → is_count r ≡ false
    by_reply (Reply.Count k) h = absurd (false≢true h)
    by_reply _ h = refl
peek_no_count request reply peek h = absurd (false≢true peek)

peek_keeps : (S T : State) (p tag d : ℕ) (request : Request) (reply : Reply) (s t : Socket) → is_peek request ≡ true →
    is_count reply ≡ false → socket_at S d ≡ Some s → socket_at T d ≡ Some t → Flow S p tag request reply T → t.queue ≡ s.queue
peek_keeps S T p tag d request reply s t peek count here there (calm V c moves sh) =
    still_waits V T d t sh there ∙ c.waiting d ∙ waiting_is S d s here
peek_keeps S T p tag d request reply s t peek count here there (put_in k m a sh) =
    absurd (false≢true (sym count ∙ ap is_count a.answered))
peek_keeps S T p tag d request reply s t peek count here there (taken k n u m ms a sh) = absurd (false≢true (sym a.takes ∙ peek))

pub peeks_take_nothing : PeeksTakeNothing
peeks_take_nothing boot es j d e s t legal at peek here there =
    let S : State = before boot es j in
    let T : State = before boot es (suc j) in
    let step = (moment boot es j e legal at).steps in
    let kind = replies_are_of_their_kind S T e.pid.0 j e.request e.reply e.released step in
    peek_keeps S T e.pid.0 j d e.request e.reply s t peek (peek_no_count e.request e.reply peek kind) here there
    (step_flow S T e.pid.0 j e.request e.reply e.released step)

-- ---- where nothing waits

gives_nothing : (S : State) (s : Socket) (n : ℕ) (told : Reply → Reply) (reply : Reply) → s.queue ≡ [] → is_given reply ≡ true →
    Answered S s n told reply → reply ≡ told nothing_received
gives_nothing S s n told reply none gives (no_gift h) = absurd (false≢true (sym h ∙ gives))
gives_nothing S s n told reply none gives (nothing_asked b is) = is
gives_nothing S s n told reply none gives (ended q over clear is) = is
gives_nothing S s n told reply none gives (of_front m ms q is) = let clash : [] ≡ m ∷ ms = sym none ∙ q in absurd (cc clash)

pub empty_queues_give_nothing : EmptyQueuesGiveNothing
empty_queues_give_nothing boot es j n space d e fd asked s legal at request gives through none =
    gives_nothing (before boot es j) s n (λ r. r) e.reply none gives (received_in boot es j n space d e fd asked s legal at request through).0

pub empty_queues_read_as_nothing : EmptyQueuesReadAsNothing
empty_queues_read_as_nothing boot es j n d e fd s legal at request gives through none =
    gives_nothing (before boot es j) s (min read_limit n) bytes_alone e.reply none gives
    (read_in boot es j n d e fd s legal at request through).0
