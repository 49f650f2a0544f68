-- A wait to receive ends by a send, a shutdown or the loss of the peer, and by nothing else.
use Rattle.std.proofs.Common.{◌≡◌, ◌⊎◌, ℕ, suc, ◌==◌, Bool, true, false, not, ◌&&◌, ◌||◌, if◌then◌else◌, cond, is_some, min, List, [], ◌∷◌}
use Rattle.std.proofs.Common.{Option, Some, None, Result, Ok, Err, option_map, refl, ap, sym, ◌∙◌, subst, inl, inr, ⊎_elim, arith}
use Rattle.std.specs.Prelude.{is_none}
use Rattle.std.proofs.lemmas.Bool.{eqb-true, false≢true, or_parts}
use Rattle.ux_model.specs.Types.{Errno, Fd, Mode, MsgFlags, Request, Reply}
use Rattle.ux_model.specs.Limits.{read_limit}
use Rattle.ux_model.specs.Flags.{are_receive_flags, no_flags}
use Rattle.ux_model.specs.Front.{Front, front_of}
use Rattle.ux_model.specs.Socket.{Socket, is_stream, is_dgram, peer_of, tied_socket, sent, with_queue, with_reset, shut_down}
use Rattle.ux_model.specs.Description.{Description, Target, to_object, to_socket, socket_of, socket_in, changed, changed_target}
use Rattle.ux_model.specs.State.{State, description_at, socket_at, with_socket_by}
use Rattle.ux_model.specs.Outcome.{Outcome, Chosen, own, lacking_memory, failing, refuse, find_socket}
use Rattle.ux_model.specs.Connecting.{shutdown}
use Rattle.ux_model.specs.Receiving.{Incoming, incoming, receive_front, at_end, receive, recv_msg, bytes_alone}
use Rattle.ux_model.specs.Reading.{read}
use Rattle.ux_model.specs.Release.{settled}
use Rattle.ux_model.specs.Step.{Step, outcome}
use Rattle.ux_model.specs.Pedigree.{before}
use Rattle.ux_model.proofs.Changes.Walk.{either, maybe, by_queue}
use Rattle.ux_model.proofs.Lists.ChangedPlaces.{bool_cases, place-changed}
use Rattle.ux_model.proofs.Steps.Calls.{each_obeys}
use Rattle.ux_model.proofs.Pedigrees.Moments.{moment}
use Rattle.ux_model.proofs.Tables.Shows.{by_socket}
use Rattle.ux_laws.specs.Talking.{socket_through, sends_to, is_number}
use Rattle.ux_laws.specs.Records.{is_count}
use Rattle.ux_laws.specs.Credentials.{socket_behind}
use Rattle.ux_laws.specs.Waits.{IsWaiting, for_peer, for_datagram, ReceivesWait, ReadsWait, EndsWait, by_send, by_shutdown, by_loss}
use Rattle.ux_laws.specs.Waits.{WaitsEnd}
use Rattle.ux_laws.proofs.Parts.{SocketParts, socket_parts, Glance, glance_socket, glance_target, glance, Shrinks, seen_socket}
use Rattle.ux_laws.proofs.Acts.{Did}
use Rattle.ux_laws.proofs.Doing.Calls.{step_between, step_did}
use Rattle.ux_laws.proofs.Delivering.{sends_there}
use Rattle.ux_laws.proofs.Flows.{waiting_in, waiting_at, waiting_is, Flow, calm, put_in, taken, step_flow, changed_waiting}
use Rattle.ux_laws.proofs.Near.Single.{reset_in, shut_of, shut_in, is_shutdown, NearAt, stays, reached, new, gone as dropped}
use Rattle.ux_laws.proofs.Near.Calls.{chosen_near}
use Rattle.ux_laws.proofs.LeftAlone.{Lost, same, lost, reset, settled_lost}
use Rattle.ux_laws.proofs.Makers.{behind_is}
use Rattle.ux_laws.proofs.Opened.{Leads, did_leads}
use Rattle.ux_laws.proofs.Ended.{did_was, reset_is, socket_known}
use Rattle.ux_laws.proofs.Telling.{LeadsToSocket, socket_is_found, leads_to_socket, read_is}

-- ---- which receives wait

-- the reply of the front is no error
front_no_error : (S : State) (p d : ℕ) (s : Socket) (asked : Incoming) (front : Front) (e : Errno) →
    (receive_front S p d s asked front).reply ≡ Reply.Err e → ⊥
unfolding receive_front
front_no_error S p d s asked front e h = cc h

receive_waits : (S : State) (p d : ℕ) (s : Socket) (asked : Incoming) → (receive S p d s asked).reply ≡ Reply.Err Errno.EAGAIN →
    IsWaiting S d s
receive_waits S p d s asked = either Q (is_dgram s.kind) _ _
    (λ k. by_queue Q s.queue _ _ (λ none. either Q s.read_shut _ _ (λ b h. absurd (cc h)) (λ b h. for_datagram k none b))
    (λ m ms q h. absurd (front_no_error S p d s asked (front_of asked.n s m ms) Errno.EAGAIN h)))
    (λ k. maybe Q (peer_of s.phase) _ _ (λ h. absurd (cc h))
    (λ peer is. either Q (is_stream s.kind && (asked.n == 0)) _ _ (λ b h. absurd (cc h))
    (λ b. by_queue Q s.queue _ _
    (λ none. either Q s.reset _ _ (λ r h. absurd (cc h))
    (λ r. either Q (at_end S s peer) _ _ (λ f h. absurd (cc h)) (λ f h. for_other k peer is none r (socket_at S peer) refl f)))
    (λ m ms q h. absurd (front_no_error S p d s asked (front_of asked.n s m ms) Errno.EAGAIN h)))))
  where
    Q : Outcome → Type 0
    Q o = o.reply ≡ Reply.Err Errno.EAGAIN → IsWaiting S d s

    for_other : is_dgram s.kind ≡ false → (peer : ℕ) → peer_of s.phase ≡ Some peer → s.queue ≡ [] → s.reset ≡ false → (x : Option Socket) →
        socket_at S peer ≡ x →
        (elim x as (λ _. Bool) [ None ↦ true | Some other ↦ s.read_shut || other.write_shut ]) ≡ false → IsWaiting S d s
    for_other k peer is none r None at h = absurd (false≢true (sym h))
    for_other k peer is none r (Some other) at h = let parts = or_parts s.read_shut other.write_shut h in
        for_peer peer other k is at none r parts.0 parts.1

pub alone_error : (r : Reply) (e : Errno) → bytes_alone r ≡ Reply.Err e → r ≡ Reply.Err e
alone_error (Reply.Received flags count bytes control from) e h = absurd (cc h)
alone_error r e h = h

pub chosen_again : (S T : State) (o : Outcome) (reply : Reply) → Chosen S o reply T → reply ≡ Reply.Err Errno.EAGAIN →
    o.reply ≡ Reply.Err Errno.EAGAIN
chosen_again S T o reply (own e f) h = sym e ∙ h
chosen_again S T o reply (lacking_memory e may f) h = let clash : Reply.Err Errno.ENOMEM ≡ Reply.Err Errno.EAGAIN = sym e ∙ h in
    absurd (cc clash)
chosen_again S T o reply (failing e f) h = let clash : Reply.Err Errno.EIO ≡ Reply.Err Errno.EAGAIN = sym e ∙ h in absurd (cc clash)

pub recv_waits : (S : State) (p n space d : ℕ) (fd : Fd) (flags : MsgFlags) (s : Socket) → find_socket S p fd ≡ Ok (d, s) →
    (recv_msg S p fd n space flags).reply ≡ Reply.Err Errno.EAGAIN → IsWaiting S d s
unfolding recv_msg
recv_waits S p n space d fd flags s found h =
    either (λ o. o.reply ≡ Reply.Err Errno.EAGAIN → IsWaiting S d s) (not (are_receive_flags flags)) (refuse S Errno.EINVAL)
    (receive S p d s (incoming n space flags)) (λ b g. absurd (cc g)) (λ b g. receive_waits S p d s (incoming n space flags) g)
    (sym (ap (λ (r : Result (ℕ × Socket) Errno).
    (elim r as (λ _. Outcome) [
      | Err e ↦ refuse S e
      | Ok w ↦ if not (are_receive_flags flags) then refuse S Errno.EINVAL
          else receive S p w.0 w.1 (incoming n space flags)
    ]).reply) found) ∙ h)

step_recv_waits : (S T : State) (p tag n space d : ℕ) (fd : Fd) (flags : MsgFlags) (s : Socket) (reply : Reply) (gone : List ℕ) →
    find_socket S p fd ≡ Ok (d, s) → Step S p tag (Request.RecvMsg fd n space flags) reply gone T → reply ≡ Reply.Err Errno.EAGAIN →
    IsWaiting S d s
unfolding Step outcome
step_recv_waits S T p tag n space d fd flags s reply gone found step h =
    recv_waits S p n space d fd flags s found (chosen_again S step.0 (recv_msg S p fd n space flags) reply step.1 h)

step_read_waits : (S T : State) (p tag n d : ℕ) (fd : Fd) (s : Socket) (reply : Reply) (gone : List ℕ) → LeadsToSocket S p fd d s →
    Step S p tag (Request.Read fd n) reply gone T → reply ≡ Reply.Err Errno.EAGAIN → IsWaiting S d s
unfolding Step outcome
step_read_waits S T p tag n d fd s reply gone l step h =
    receive_waits S p d s (incoming (min read_limit n) 0 no_flags)
    (alone_error (receive S p d s (incoming (min read_limit n) 0 no_flags)).reply Errno.EAGAIN
    (sym (ap (λ (o : Outcome). o.reply) (read_is S p n d fd s l)) ∙ chosen_again S step.0 (read S p fd n) reply step.1 h))

pub receives_wait : ReceivesWait
receives_wait boot es j n space d e fd flags s legal at request through reply =
    let S : State = before boot es j in
    let led : socket_through S e.pid.0 (Request.RecvMsg fd n space flags) ≡ Some (d, s) = sym (ap (socket_through S e.pid.0) request)
    ∙ through in
    let moved : Step S e.pid.0 j (Request.RecvMsg fd n space flags) e.reply e.released (before boot es (suc j)) =
    subst (λ (r : Request). Step S e.pid.0 j r e.reply e.released (before boot es (suc j))) request (moment boot es j e legal at).steps in
    step_recv_waits S (before boot es (suc j)) e.pid.0 j n space d fd flags s e.reply e.released
    (socket_is_found S e.pid.0 d fd s (Request.RecvMsg fd n space flags) refl led) moved reply

pub reads_wait : ReadsWait
reads_wait boot es j n d e fd s legal at request through reply =
    let S : State = before boot es j in
    let led : socket_through S e.pid.0 (Request.Read fd n) ≡ Some (d, s) = sym (ap (socket_through S e.pid.0) request) ∙ through in
    let moved : Step S e.pid.0 j (Request.Read fd n) e.reply e.released (before boot es (suc j)) =
    subst (λ (r : Request). Step S e.pid.0 j r e.reply e.released (before boot es (suc j))) request (moment boot es j e legal at).steps in
    step_read_waits S (before boot es (suc j)) e.pid.0 j n d fd s e.reply e.released
    (leads_to_socket S e.pid.0 d fd s (socket_is_found S e.pid.0 d fd s (Request.Read fd n) refl led)) moved reply

-- ---- messages

-- a queue that was empty stays so, or the call sent to it
stays_empty : (S T : State) (p tag d : ℕ) (request : Request) (reply : Reply) → Flow S p tag request reply T → waiting_at S d ≡ [] →
    (waiting_at T d ≡ []) ⊎ ((sends_to S d p request ≡ true) × (is_count reply ≡ true))
stays_empty S T p tag d request reply flow none = by_flow flow
  where
    shrunk : (V : State) → Shrinks V T → waiting_at V d ≡ [] → waiting_at T d ≡ []
    shrunk V sh h = ⊎_elim {C = waiting_at T d ≡ []} (λ e. ap (λ (g : Glance). waiting_in g.0) e ∙ h)
        (λ e. ap (λ (g : Glance). waiting_in g.0) e) (sh.each d)

    by_flow : Flow S p tag request reply T → (waiting_at T d ≡ []) ⊎ ((sends_to S d p request ≡ true) × (is_count reply ≡ true))
    by_flow (calm V c moves sh) = inl (shrunk V sh (c.waiting d ∙ none))
    by_flow (put_in t m a sh) = bool_cases (t == d)
        (λ e. inr (sends_there S p tag t d request reply m a ∙ e, ap is_count a.answered))
        (λ e. inl (shrunk (with_socket_by S t (sent m)) sh
        (changed_waiting S t d (sent m) a.target a.there ∙ ap (λ b. cond b (sent m a.target).queue (waiting_at S d)) e ∙ none)))
    by_flow (taken t n s m ms a sh) = bool_cases (t == d)
        (λ e. let clash : m ∷ ms ≡ [] = sym (ap (λ (i : ℕ). waiting_at S i) (sym (eqb-true t d e)) ∙ waiting_is S t s a.there ∙ a.waiting)
        ∙ none in absurd (cc clash))
        (λ e. inl (shrunk (with_socket_by S t (with_queue (front_of n s m ms).rest)) sh
        (changed_waiting S t d (with_queue (front_of n s m ms).rest) s a.there
        ∙ ap (λ b. cond b (front_of n s m ms).rest (waiting_at S d)) e ∙ none)))

-- ---- what is shut down

shut_is : (S : State) (d : ℕ) (s : Socket) → socket_at S d ≡ Some s → shut_in (description_at S d) ≡ (s.read_shut, s.write_shut)
shut_is S d s there = at_place (description_at S d) there
  where
    at_target : (t : Target) → socket_of t ≡ Some s → shut_of t ≡ (s.read_shut, s.write_shut)
    at_target (to_object o) h = absurd (cc h)
    at_target (to_socket u) h = let one : u ≡ s = cc h in ap (λ (w : Socket). shut_of (to_socket w)) one

    at_place : (x : Option Description) → socket_in x ≡ Some s → shut_in x ≡ (s.read_shut, s.write_shut)
    at_place None h = absurd (cc h)
    at_place (Some D) h = at_target D.target h

-- a shutdown changes the socket that it is called on alone
shutdown_other : (S : State) (p k : ℕ) (fd : Fd) (how : Mode) → is_number k (socket_behind S p fd) ≡ false →
    description_at (shutdown S p fd how).next k ≡ description_at S k
unfolding shutdown
shutdown_other S p k fd how other = by_socket Q S p fd _ (λ e. refl)
    (λ d s found there. either Q (is_none (tied_socket s.phase)) _ _ (λ b. refl)
    (λ b.
    let at : (d == k) ≡ false = sym (ap (is_number k) (behind_is S p d fd s found)) ∙ other in
    place-changed S.descriptions d k (changed (shut_down how))
    ∙ ap (λ c. cond c (option_map (changed (shut_down how)) (description_at S k)) (description_at S k)) at))
  where
    Q : Outcome → Type 0
    Q o = description_at o.next k ≡ description_at S k

chosen_shutdown : (S U : State) (p tag k : ℕ) (fd : Fd) (how : Mode) (reply : Reply) → is_number k (socket_behind S p fd) ≡ false →
    Chosen S (outcome S p tag (Request.Shutdown fd how)) reply U → description_at U k ≡ description_at S k
unfolding outcome
chosen_shutdown S U p tag k fd how reply other (own e f) = ap (λ (V : State). description_at V k) f ∙ shutdown_other S p k fd how other
chosen_shutdown S U p tag k fd how reply other (lacking_memory e may f) = ap (λ (V : State). description_at V k) f
chosen_shutdown S U p tag k fd how reply other (failing e f) =
    ap (λ (V : State). description_at V k) ((each_obeys S p tag (Request.Shutdown fd how)).failed U f).0.left

-- of the calls that aren't a shutdown of this socket
abbrev pub Elsewhere : State → ℕ → ℕ → Request → Type 0
Elsewhere S p k request = (fd : Fd) (how : Mode) → request ≡ Request.Shutdown fd how → is_number k (socket_behind S p fd) ≡ false

is_one : (request : Request) → is_shutdown request ≡ true → (fd : Fd) × (how : Mode) × (request ≡ Request.Shutdown fd how)
is_one (Request.Shutdown fd how) h = (fd, how, refl)
is_one request h = absurd (false≢true h)

shut_kept : (S U T : State) (p tag k : ℕ) (request : Request) (reply : Reply) → Chosen S (outcome S p tag request) reply U → T ≡ settled U →
    Elsewhere S p k request → is_some (description_at T k) ≡ true →
    shut_in (description_at T k) ≡ shut_in (description_at S k)
shut_kept S U T p tag k request reply chosen is elsewhere there = by_lost (subst (λ (V : State). Lost U V k) (sym is) (settled_lost U k))
  where
    by_near : NearAt S p request k (description_at U k) → is_shutdown request ≡ false → is_some (description_at U k) ≡ true →
        shut_in (description_at U k) ≡ shut_in (description_at S k)
    by_near (stays e) other here = ap shut_in e
    by_near (reached r keeps) other here = keeps.1 other
    by_near (new more keeps) other here = keeps.1 other
    by_near (dropped off e) other here = absurd (false≢true (sym (ap is_some e) ∙ here))

    before_end : is_some (description_at U k) ≡ true → shut_in (description_at U k) ≡ shut_in (description_at S k)
    before_end here = bool_cases (is_shutdown request)
        (λ b.
        let w = is_one request b in
        ap shut_in (chosen_shutdown S U p tag k w.0 w.1 reply (elsewhere w.0 w.1 w.2)
        (subst (λ (r : Request). Chosen S (outcome S p tag r) reply U) w.2 chosen)))
        (λ b. by_near ((chosen_near S U p tag request reply chosen).each k) b here)

    reset_shut : (D : Description) → shut_in (Some (changed (with_reset true) D)) ≡ shut_in (Some D)
    reset_shut D = at_target D.target
      where
        at_target : (t : Target) → shut_of (changed_target (with_reset true) t) ≡ shut_of t
        at_target (to_object o) = refl
        at_target (to_socket s) = refl

    by_lost : Lost U T k → shut_in (description_at T k) ≡ shut_in (description_at S k)
    by_lost (same e) = ap shut_in e ∙ before_end (sym (ap is_some e) ∙ there)
    by_lost (lost e) = absurd (false≢true (sym (ap is_some e) ∙ there))
    by_lost (reset r had) = ap shut_in r.left ∙ reset_shut r.description ∙ sym (ap shut_in r.there) ∙ before_end (ap is_some r.there)

pub there_of : (S : State) (d : ℕ) (s : Socket) → socket_at S d ≡ Some s → is_some (description_at S d) ≡ true
there_of S d s h = go (description_at S d) h
  where
    go : (x : Option Description) → socket_in x ≡ Some s → is_some x ≡ true
    go None h = absurd (cc h)
    go (Some D) h = refl

-- ---- the law

-- kind and peer stay
pub parts_stay : (S T : State) (p tag d : ℕ) (request : Request) (reply : Reply) (s t : Socket) → Did S p tag request reply T →
    socket_at S d ≡ Some s → socket_at T d ≡ Some t →
    (t.kind ≡ s.kind) × ((peer : ℕ) → peer_of s.phase ≡ Some peer → peer_of t.phase ≡ Some peer)
parts_stay S T p tag d request reply s t did here there =
    ⊎_elim {C = (t.kind ≡ s.kind) × ((peer : ℕ) → peer_of s.phase ≡ Some peer → peer_of t.phase ≡ Some peer)}
    (λ w.
    let mine : Some w.0 ≡ Some (socket_parts s) = sym w.1 ∙ seen_socket S d s here in
    let is_mine : w.0 ≡ socket_parts s = cc mine in
    (w.2 ∙ ap (λ (r : SocketParts). r.kind) is_mine, λ peer is. w.3 peer (ap (λ (r : SocketParts). r.tie.peer) is_mine ∙ is)))
    (λ more. let known = socket_known S d s here in absurd (omega (arith, known, more)))
    (did_was S T p tag request reply d (socket_parts t) did (seen_socket T d t there))

-- a socket that stays is one still
pub socket_stays : (S T : State) (p tag d : ℕ) (request : Request) (reply : Reply) (s : Socket) (D : Description) →
    Did S p tag request reply T → socket_at S d ≡ Some s → description_at T d ≡ Some D → (t : Socket) × (socket_at T d ≡ Some t)
socket_stays S T p tag d request reply s D did here there = go D.target refl
  where
    go : (t : Target) → D.target ≡ t → (t : Socket) × (socket_at T d ≡ Some t)
    go (to_socket t) is = (t, ap socket_in there ∙ ap socket_of is)
    go (to_object o) is =
        let leads : Leads T d (o, D.mode) = ap (λ x. (glance x).1) there ∙ ap (λ (u : Target). (glance_target D.mode u).1) is in
        ⊎_elim {C = (t : Socket) × (socket_at T d ≡ Some t)}
        (λ old. let clash : None ≡ Some (o, D.mode) = sym (ap (λ (g : Glance). g.1) (glance_socket S d s here)) ∙ old in absurd (cc clash))
        (λ w. let known = socket_known S d s here in ⊎_elim {C = (t : Socket) × (socket_at T d ≡ Some t)}
        (λ v. let at = v.7 in absurd (omega (arith, known, at))) (λ v. let at = v.4 in absurd (omega (arith, known, at))) w)
        (did_leads S T p tag request reply d (o, D.mode) did leads)

-- a shutdown of this socket, or none of it
pub by_shutting : (S : State) (p k : ℕ) (request : Request) (Goal : Type 0) →
    ((fd : Fd) (how : Mode) → request ≡ Request.Shutdown fd how → socket_behind S p fd ≡ Some k → Goal) → (Elsewhere S p k request → Goal) →
    Goal
by_shutting S p k request Goal shuts rest = bool_cases (is_shutdown request)
    (λ b. let w = is_one request b in on w.0 w.1 w.2 (socket_behind S p w.0) refl (is_number k (socket_behind S p w.0)) refl)
    (λ b. rest (λ fd how is. absurd (false≢true (sym b ∙ ap is_shutdown is))))
  where
    on : (fd : Fd) (how : Mode) → request ≡ Request.Shutdown fd how → (o : Option ℕ) → socket_behind S p fd ≡ o → (b : Bool) →
        is_number k o ≡ b → Goal
    on fd how is o behind false h = rest (λ f g also. let one : fd ≡ f = fd_same (sym is ∙ also) in
        ap (λ (x : Fd). is_number k (socket_behind S p x)) (sym one) ∙ ap (is_number k) behind ∙ h)
      where
        fd_same : {a b : Fd} {x y : Mode} → Request.Shutdown a x ≡ Request.Shutdown b y → a ≡ b
        fd_same h = cc h
    on fd how is None behind true h = absurd (false≢true h)
    on fd how is (Some n) behind true h = shuts fd how is (behind ∙ ap Some (eqb-true n k h))

-- what is shut down, where nothing is shut down now
pub flags_kept : (S T : State) (p tag k : ℕ) (request : Request) (reply : Reply) (gone : List ℕ) (u v : Socket) →
    Step S p tag request reply gone T → Elsewhere S p k request → socket_at S k ≡ Some u → socket_at T k ≡ Some v →
    (v.read_shut ≡ u.read_shut) × (v.write_shut ≡ u.write_shut)
flags_kept S T p tag k request reply gone u v step elsewhere here there =
    let b = step_between S T p tag request reply gone step in
    let kept : shut_in (description_at T k) ≡ shut_in (description_at S k) =
    shut_kept S b.0 T p tag k request reply b.1 b.3 elsewhere (there_of T k v there) in
    let pairs : (v.read_shut, v.write_shut) ≡ (u.read_shut, u.write_shut) = sym (shut_is T k v there) ∙ kept ∙ shut_is S k u here in
    (ap (λ (x : Bool × Bool). x.0) pairs, ap (λ (x : Bool × Bool). x.1) pairs)

pub waits_end : WaitsEnd
waits_end boot es j d e s t legal at here waiting there = by_waiting waiting
  where
    S : State
    S = before boot es j

    T : State
    T = before boot es (suc j)

    step : Step S e.pid.0 j e.request e.reply e.released T
    step = (moment boot es j e legal at).steps

    Goal : Type 0
    Goal = IsWaiting (before boot es (suc j)) d t ⊎ EndsWait (before boot es j) e d s (before boot es (suc j))

    did : Did S e.pid.0 j e.request e.reply T
    did = step_did S T e.pid.0 j e.request e.reply e.released step

    -- a shutdown of one of these, or of neither
    by_place : (k : ℕ) → ((k ≡ d) ⊎ (peer_of s.phase ≡ Some k)) → (Elsewhere S e.pid.0 k e.request → Goal) → Goal
    by_place k which rest = by_shutting S e.pid.0 k e.request Goal (λ fd how is behind. inr (by_shutdown k fd how is behind which)) rest

    -- what is shut down, where nothing was shut down now
    flags_stay : (k : ℕ) (u v : Socket) → Elsewhere S e.pid.0 k e.request → socket_at S k ≡ Some u → socket_at T k ≡ Some v →
        (v.read_shut ≡ u.read_shut) × (v.write_shut ≡ u.write_shut)
    flags_stay k u v = flags_kept S T e.pid.0 j k e.request e.reply e.released u v step

    -- nothing is queued, or the call sent it
    by_queue_left : s.queue ≡ [] → (t.queue ≡ [] → Goal) → Goal
    by_queue_left none rest = ⊎_elim {C = Goal} (λ left. rest (sym (waiting_is T d t there) ∙ left)) (λ w. inr (by_send w.0 w.1))
        (stays_empty S T e.pid.0 j d e.request e.reply (step_flow S T e.pid.0 j e.request e.reply e.released step)
        (waiting_is S d s here ∙ none))

    -- ECONNRESET comes to be pending by the loss of the peer
    reset_lost : (peer : ℕ) → peer_of s.phase ≡ Some peer → s.reset ≡ false → t.reset ≡ true → description_at T peer ≡ None
    reset_lost peer is clear pending = by_lost b.0 b.1 b.2 (subst (λ (V : State). Lost b.0 V d) (sym b.3) (settled_lost b.0 d))
      where
        b : (U : State) × Chosen S (outcome S e.pid.0 j e.request) e.reply U × Did S e.pid.0 j e.request e.reply U × (T ≡ settled U)
        b = step_between S T e.pid.0 j e.request e.reply e.released step

        at_end : reset_in (description_at T d) ≡ true
        at_end = reset_is T d t there ∙ pending

        by_near : {x : Option Description} → NearAt S e.pid.0 e.request d x → reset_in x ≡ true → reset_in (description_at S d) ≡ true
        by_near (stays e) h = sym (ap reset_in e) ∙ h
        by_near (reached r keeps) h = keeps.0 h
        by_near (new more keeps) h = keeps.0 h
        by_near (dropped off e) h = absurd (false≢true (sym (ap reset_in e) ∙ h))

        by_lost : (U : State) → Chosen S (outcome S e.pid.0 j e.request) e.reply U → Did S e.pid.0 j e.request e.reply U → Lost U T d →
            description_at T peer ≡ None
        by_lost U c did (same x) = absurd (false≢true
            (sym (reset_is S d s here ∙ clear) ∙ by_near ((chosen_near S U e.pid.0 j e.request e.reply c).each d)
            (sym (ap reset_in x) ∙ at_end)))
        by_lost U c did (lost x) = absurd (false≢true (sym (ap reset_in x) ∙ at_end))
        by_lost U c did (reset r had) =
            let w = parts_stay S U e.pid.0 j d e.request e.reply s r.socket did here r.connected in
            let both : Some peer ≡ Some r.peer = sym (w.1 peer is) ∙ r.to in
            let one : peer ≡ r.peer = cc both in
            ap (λ (i : ℕ). description_at T i) one ∙ r.lost

    parts : (t.kind ≡ s.kind) × ((peer : ℕ) → peer_of s.phase ≡ Some peer → peer_of t.phase ≡ Some peer)
    parts = parts_stay S T e.pid.0 j d e.request e.reply s t did here there

    by_peer : (peer : ℕ) (other : Socket) → is_dgram s.kind ≡ false → peer_of s.phase ≡ Some peer → socket_at S peer ≡ Some other →
        s.reset ≡ false → s.read_shut ≡ false → other.write_shut ≡ false →
        Elsewhere S e.pid.0 d e.request → Elsewhere S e.pid.0 peer e.request → t.queue ≡ [] → (x : Option Description) →
        description_at T peer ≡ x → Goal
    by_peer peer other kind is at clear unshut others here_not peer_not none None h = inr (by_loss peer is h)
    by_peer peer other kind is at clear unshut others here_not peer_not none (Some D) h = bool_cases t.reset
        (λ pending. inr (by_loss peer is (reset_lost peer is clear pending)))
        (λ still_clear.
        let o = socket_stays S T e.pid.0 j peer e.request e.reply other D did at h in
        let mine = flags_stay d s t here_not here there in
        let its = flags_stay peer other o.0 peer_not at o.1 in
        inl (for_peer peer o.0 (ap is_dgram parts.0 ∙ kind) (parts.1 peer is) o.1 none still_clear (mine.0 ∙ unshut) (its.1 ∙ others)))

    by_waiting : IsWaiting S d s → Goal
    by_waiting (for_peer peer other kind is at none clear unshut others) = by_queue_left none
        (λ empty. by_place d (inl refl) (λ here_not. by_place peer (inr is)
        (λ peer_not. by_peer peer other kind is at clear unshut others here_not peer_not empty (description_at T peer) refl)))
    by_waiting (for_datagram kind none unshut) = by_queue_left none
        (λ empty. by_place d (inl refl) (λ here_not. let mine = flags_stay d s t here_not here there in
        inl (for_datagram (ap is_dgram parts.0 ∙ kind) empty (mine.0 ∙ unshut))))
