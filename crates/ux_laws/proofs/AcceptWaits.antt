-- A wait to accept ends by a connect to the listener, and by nothing else.
use Rattle.std.proofs.Common.{◌≡◌, ◌≢◌, ◌⊎◌, ℕ, suc, ◌==◌, Bool, true, false, not, ◌||◌, if◌then◌else◌, cond, is_some, List, [], ◌∷◌}
use Rattle.std.proofs.Common.{length, Option, Some, None, Result, Ok, Err, option_map, refl, ap, sym, ◌∙◌, subst, inl, inr, ⊎_elim}
use Rattle.std.proofs.Common.{slice_get, arith}
use Rattle.std.specs.Prelude.{nat_le, is_none}
use Rattle.std.proofs.lemmas.Bool.{eqb-true, eqb-false, false≢true}
use Rattle.ux_model.specs.Types.{Errno, Fd, Cred, Addr, SockType, OpenFlags, Request, Reply}
use Rattle.ux_model.specs.Names.{is_valid_addr, is_unnamed_addr}
use Rattle.ux_model.specs.Socket.{Socket, Phase, idle, listening, connected, associated, is_dgram, pending_ends, peer_of, takes_from}
use Rattle.ux_model.specs.Socket.{awaiting, with_reset, with_association}
use Rattle.ux_model.specs.Description.{Description, Target, to_object, to_socket, socket_of, socket_in, changed, changed_target}
use Rattle.ux_model.specs.Process.{own_cred, lowest_free}
use Rattle.ux_model.specs.State.{State, process_at, description_at, socket_at, table_of, next_description, with_socket_by, with_new}
use Rattle.ux_model.specs.Outcome.{Outcome, Chosen, own, lacking_memory, failing, find_socket, refuse}
use Rattle.ux_model.specs.Binding.{look_up}
use Rattle.ux_model.specs.Pairing.{socket_description}
use Rattle.ux_model.specs.Connecting.{listener_of, connect_to, connect_stream, connect_datagram, connect, server_end, tied as tied_by}
use Rattle.ux_model.specs.Connecting.{no_open_flags}
use Rattle.ux_model.specs.Accepting.{accept_first, accept}
use Rattle.ux_model.specs.Step.{Step, outcome}
use Rattle.ux_model.specs.Pedigree.{before}
use Rattle.ux_model.proofs.Changes.Walk.{either, maybe}
use Rattle.ux_model.proofs.Lists.ChangedPlaces.{bool_cases, place-changed}
use Rattle.ux_model.proofs.Steps.Calls.{each_obeys}
use Rattle.ux_model.proofs.Pedigrees.Moments.{moment}
use Rattle.ux_model.proofs.Tables.Shows.{by_socket}
use Rattle.ux_laws.specs.Waits.{AwaitsEnds, AcceptsWait, ConnectsTo, AcceptWaitsEnd}
use Rattle.ux_laws.proofs.Doing.Naming.{by_addr}
use Rattle.ux_laws.proofs.Near.Single.{none_in, awaits, awaits_of, awaits_in, awaits_on, is_connect, pushed_other, none_past, NearAt}
use Rattle.ux_laws.proofs.Near.Single.{stays}
use Rattle.ux_laws.proofs.Near.Single.{reached, new, gone as dropped}
use Rattle.ux_laws.proofs.Near.Calls.{chosen_near}
use Rattle.ux_laws.proofs.WaitEnds.{chosen_again}
use Rattle.ux_laws.proofs.LeftAlone.{Lost, same, lost, reset, settled_lost}

-- ---- as a test

none_is : (es : List ℕ) → none_in es ≡ true → es ≡ []
none_is [] h = refl
none_is (e ∷ es) h = absurd (false≢true h)

awaits_ends : (s : Socket) → awaits s.phase ≡ true → AwaitsEnds s
awaits_ends s h = record { listens = (by_phase s.phase h).0; none = (by_phase s.phase h).1 }
  where
    by_phase : (phase : Phase) → awaits phase ≡ true → (listener_of phase ≢ None) × (pending_ends phase ≡ [])
    by_phase idle h = absurd (false≢true h)
    by_phase (listening backlog cred) h = (λ e. cc e, none_is backlog.pending h)
    by_phase (connected peer) h = absurd (false≢true h)
    by_phase (associated target) h = absurd (false≢true h)

does_await : (phase : Phase) → listener_of phase ≢ None → pending_ends phase ≡ [] → awaits phase ≡ true
does_await idle some none = absurd (some refl)
does_await (listening backlog cred) some none = ap none_in none
does_await (connected peer) some none = absurd (some refl)
does_await (associated target) some none = absurd (some refl)

awaits_is : (S : State) (d : ℕ) (s : Socket) → socket_at S d ≡ Some s → awaits_in (description_at S d) ≡ awaits s.phase
awaits_is S d s there = at_place (description_at S d) there
  where
    at_target : (t : Target) → socket_of t ≡ Some s → awaits_of t ≡ awaits s.phase
    at_target (to_object o) h = absurd (cc h)
    at_target (to_socket u) h = let one : u ≡ s = cc h in ap (λ (w : Socket). awaits w.phase) one

    at_place : (x : Option Description) → socket_in x ≡ Some s → awaits_in x ≡ awaits s.phase
    at_place None h = absurd (cc h)
    at_place (Some D) h = at_target D.target h

-- ---- connect

changed_at : (T : State) (t d : ℕ) (change : Socket → Socket) (b : Bool) → (t == d) ≡ b →
    description_at (with_socket_by T t change) d ≡ cond b (option_map (changed change) (description_at T d)) (description_at T d)
changed_at T t d change b is = place-changed T.descriptions t d (changed change)
    ∙ ap (λ c. cond c (option_map (changed change) (description_at T d)) (description_at T d)) is

awaits_other : (T : State) (t d : ℕ) (change : Socket → Socket) → (t == d) ≡ false → awaits_in (description_at T d) ≡ true →
    awaits_in (description_at (with_socket_by T t change) d) ≡ true
awaits_other T t d change other h = ap awaits_in (changed_at T t d change false other) ∙ h

awaits_changed : (T : State) (t d : ℕ) (change : Socket → Socket) →
    ((s : Socket) → awaits s.phase ≡ true → awaits (change s).phase ≡ true) → awaits_in (description_at T d) ≡ true →
    awaits_in (description_at (with_socket_by T t change) d) ≡ true
awaits_changed T t d change keeps h = bool_cases (t == d)
    (λ e. ap awaits_in (changed_at T t d change true e) ∙ at_place (description_at T d) h) (λ e. awaits_other T t d change e h)
  where
    at_target : (u : Target) → awaits_of u ≡ true → awaits_of (changed_target change u) ≡ true
    at_target (to_object o) h = h
    at_target (to_socket s) h = keeps s h

    at_place : (x : Option Description) → awaits_in x ≡ true → awaits_in (option_map (changed change) x) ≡ true
    at_place None h = h
    at_place (Some D) h = at_target D.target h

awaits_by_new : (T : State) (D : Description) (d : ℕ) → awaits_in (description_at T d) ≡ true →
    awaits_in (description_at (with_new T D) d) ≡ true
awaits_by_new T D d h = bool_cases (length T.descriptions == d)
    (λ e.
    let at : length T.descriptions ≡ d = eqb-true (length T.descriptions) d e in
    absurd (false≢true (sym (ap awaits_in (none_past T.descriptions d (omega (arith, at)))) ∙ h)))
    (λ e. ap awaits_in (pushed_other T.descriptions (Some D) d (eqb-false (length T.descriptions) d e)) ∙ h)

-- the socket is a listener's at which none waits, or it is connected to
Connecting : ℕ → State → Addr → Outcome → Type 0
Connecting d S addr o = (awaits_in (description_at o.next d) ≡ true)
    ⊎ ((o.reply ≡ Reply.Ok) × (kind : SockType) × (s : Socket) × (look_up S kind addr ≡ Ok (d, s)))

connect_awaits : (S : State) (p d : ℕ) (fd : Fd) (addr : Addr) → awaits_in (description_at S d) ≡ true →
    Connecting d S addr (connect S p fd addr)
unfolding connect Connecting
connect_awaits S p d fd addr h = maybe Q (process_at S p) _ _ (inl h) (λ P here. by_socket Q S p fd _ (λ e. inl h)
    (λ c s found there. either Q (is_dgram s.kind) _ _ (λ b. datagram c s.kind) (λ b. stream c s there (own_cred p P))))
  where
    Q : Outcome → Type 0
    Q o = (awaits_in (description_at o.next d) ≡ true)
        ⊎ ((o.reply ≡ Reply.Ok) × (kind : SockType) × (s : Socket) × (look_up S kind addr ≡ Ok (d, s)))

    associates : (c : ℕ) (target : Option ℕ) → awaits_in (description_at (with_socket_by S c (with_association target)) d) ≡ true
    associates c target = awaits_changed S c d (with_association target) (λ s. awaits_on target s.phase) h

    datagram : (c : ℕ) (kind : SockType) → Q (connect_datagram S c kind addr)
    datagram c kind = either Q (not (is_valid_addr addr)) _ _ (λ b. inl h)
        (λ b. either Q (is_unnamed_addr addr) _ _ (λ e. inl (associates c None))
        (λ e. by_addr Q S kind addr _ (λ f. inl h)
        (λ t target is at. either Q (takes_from c target.phase) _ _ (λ f. inl (associates c (Some t))) (λ f. inl h))))

    -- the client doesn't listen
    is_other : (c : ℕ) (s : Socket) → socket_at S c ≡ Some s → is_some (listener_of s.phase) ≡ false → (b : Bool) → (c == d) ≡ b → b ≡ false
    is_other c s there idles false is = refl
    is_other c s there idles true is = absurd
        (clash s.phase idles (sym (awaits_is S c s there) ∙ ap (λ (k : ℕ). awaits_in (description_at S k)) (eqb-true c d is) ∙ h))
      where
        clash : (phase : Phase) → is_some (listener_of phase) ≡ false → awaits phase ≡ true → ⊥
        clash idle f g = false≢true g
        clash (listening backlog cred) f g = false≢true (sym f)
        clash (connected peer) f g = false≢true g
        clash (associated target) f g = false≢true g

    to_one : (c : ℕ) (cred : Cred) (kind : SockType) (l : ℕ) (other : Socket) → (c == d) ≡ false → look_up S kind addr ≡ Ok (l, other) →
        Q (connect_to S c cred l other)
    to_one c cred kind l other apart is = maybe Q (listener_of other.phase) _ _ (inl h)
        (λ kept k. either Q (nat_le kept.backlog.limit (length kept.backlog.pending)) _ _ (λ b. inl h)
        (λ b.
        let e : ℕ = next_description S in
        let U : State = with_socket_by S l (awaiting e) in
        let D : Description = socket_description no_open_flags (server_end other c cred) in
        bool_cases (l == d)
        (λ at. inr (refl, kind, other, is ∙ ap (λ (k : ℕ). let r : Result (ℕ × Socket) Errno = Ok (k, other) in r) (eqb-true l d at)))
        (λ at. inl (awaits_other (with_new U D) c d (tied_by e kept.cred) apart
        (awaits_by_new U D d (awaits_other S l d (awaiting e) at h))))))

    stream : (c : ℕ) (s : Socket) → socket_at S c ≡ Some s → (cred : Cred) → Q (connect_stream S c s addr cred)
    stream c s there cred = either Q (not (is_valid_addr addr) || is_unnamed_addr addr || is_some (listener_of s.phase)) _ _ (λ b. inl h)
        (λ b. either Q (is_some (peer_of s.phase)) _ _ (λ f. inl h)
        (λ f. by_addr Q S s.kind addr _ (λ g. inl h)
        (λ l other is at. to_one c cred s.kind l other
        (is_other c s there (last_of (not (is_valid_addr addr)) (is_unnamed_addr addr) (is_some (listener_of s.phase)) b) (c == d) refl)
        is)))
      where
        last_of : (x y z : Bool) → (x || y || z) ≡ false → z ≡ false
        last_of true y z h = absurd (false≢true (sym h))
        last_of false true z h = absurd (false≢true (sym h))
        last_of false false z h = h

-- ---- a call

Leaves : ℕ → State → ℕ → Request → Reply → State → Type 0
Leaves d S p request reply U = (awaits_in (description_at U d) ≡ true)
    ⊎ ((fd : Fd) × (addr : Addr) × (kind : SockType) × (s : Socket) × (request ≡ Request.Connect fd addr) × (reply ≡ Reply.Ok)
    × (look_up S kind addr ≡ Ok (d, s)))

chosen_connect : (S U : State) (p tag d : ℕ) (fd : Fd) (addr : Addr) (reply : Reply) →
    Chosen S (outcome S p tag (Request.Connect fd addr)) reply U → awaits_in (description_at S d) ≡ true →
    Leaves d S p (Request.Connect fd addr) reply U
unfolding outcome Leaves Connecting
chosen_connect S U p tag d fd addr reply (own e f) h =
    ⊎_elim {C = Leaves d S p (Request.Connect fd addr) reply U} (λ w. inl (ap (λ (V : State). awaits_in (description_at V d)) f ∙ w))
    (λ w. inr (fd, addr, w.1, w.2, refl, e ∙ w.0, w.3)) (connect_awaits S p d fd addr h)
chosen_connect S U p tag d fd addr reply (lacking_memory e may f) h = inl (ap (λ (V : State). awaits_in (description_at V d)) f ∙ h)
chosen_connect S U p tag d fd addr reply (failing e f) h =
    inl (ap (λ (V : State). awaits_in (description_at V d)) ((each_obeys S p tag (Request.Connect fd addr)).failed U f).0.left ∙ h)

is_one : (request : Request) → is_connect request ≡ true → (fd : Fd) × (addr : Addr) × (request ≡ Request.Connect fd addr)
is_one (Request.Connect fd addr) h = (fd, addr, refl)
is_one request h = absurd (false≢true h)

leaves : (S U : State) (p tag d : ℕ) (request : Request) (reply : Reply) → Chosen S (outcome S p tag request) reply U →
    awaits_in (description_at S d) ≡ true → (description_at U d ≡ None) ⊎ Leaves d S p request reply U
unfolding Leaves
leaves S U p tag d request reply chosen h = bool_cases (is_connect request)
    (λ b.
    let w = is_one request b in
    inr (subst (λ (r : Request). Leaves d S p r reply U) (sym w.2)
    (chosen_connect S U p tag d w.0 w.1 reply (subst (λ (r : Request). Chosen S (outcome S p tag r) reply U) w.2 chosen) h)))
    (λ b. by_near b ((chosen_near S U p tag request reply chosen).each d))
  where
    by_near : is_connect request ≡ false → NearAt S p request d (description_at U d) →
        (description_at U d ≡ None) ⊎ Leaves d S p request reply U
    by_near b (stays e) = inr (inl (ap awaits_in e ∙ h))
    by_near b (reached r keeps) = inr (inl (keeps.2 b h))
    by_near b (new more keeps) = inr (inl (keeps.2 b h))
    by_near b (dropped off e) = inl e

-- what goes at the end of a call
still_awaits : (U T : State) (d : ℕ) (t : Socket) → Lost U T d → socket_at T d ≡ Some t → awaits_in (description_at U d) ≡ true →
    awaits t.phase ≡ true
still_awaits U T d t gone there h = sym (awaits_is T d t there) ∙ by_lost gone
  where
    reset_awaits : (D : Description) → awaits_in (Some (changed (with_reset true) D)) ≡ awaits_in (Some D)
    reset_awaits D = at_target D.target
      where
        at_target : (u : Target) → awaits_of (changed_target (with_reset true) u) ≡ awaits_of u
        at_target (to_object o) = refl
        at_target (to_socket s) = refl

    by_lost : Lost U T d → awaits_in (description_at T d) ≡ true
    by_lost (same e) = ap awaits_in e ∙ h
    by_lost (lost e) = let clash : None ≡ Some t = sym (ap socket_in e) ∙ there in absurd (cc clash)
    by_lost (reset r had) = ap awaits_in r.left ∙ reset_awaits r.description ∙ sym (ap awaits_in r.there) ∙ h

pub still_there : (U T : State) (d : ℕ) (t : Socket) → Lost U T d → socket_at T d ≡ Some t → description_at U d ≢ None
still_there U T d t (same e) there none = let clash : None ≡ Some t = sym (ap socket_in (e ∙ none)) ∙ there in cc clash
still_there U T d t (lost e) there none = let clash : None ≡ Some t = sym (ap socket_in e) ∙ there in cc clash
still_there U T d t (reset r had) there none = let clash : None ≡ Some r.description = sym none ∙ r.there in cc clash

step_leaves : (S T : State) (p tag d : ℕ) (request : Request) (reply : Reply) (gone : List ℕ) (t : Socket) →
    Step S p tag request reply gone T → awaits_in (description_at S d) ≡ true → socket_at T d ≡ Some t →
    (awaits t.phase ≡ true) ⊎ ((fd : Fd) × (addr : Addr) × (kind : SockType) × (s : Socket) × (request ≡ Request.Connect fd addr)
    × (reply ≡ Reply.Ok) × (look_up S kind addr ≡ Ok (d, s)))
unfolding Step Leaves
step_leaves S T p tag d request reply gone t step h there =
    let ends : Lost step.0 T d = subst (λ (V : State). Lost step.0 V d) (sym step.3) (settled_lost step.0 d) in
    by_call ends (leaves S step.0 p tag d request reply step.1 h)
  where
    by_call : Lost step.0 T d → (description_at step.0 d ≡ None) ⊎ Leaves d S p request reply step.0 →
        (awaits t.phase ≡ true) ⊎ ((fd : Fd) × (addr : Addr) × (kind : SockType) × (s : Socket) × (request ≡ Request.Connect fd addr)
        × (reply ≡ Reply.Ok) × (look_up S kind addr ≡ Ok (d, s)))
    by_call ends (inl none) = absurd (still_there step.0 T d t ends there none)
    by_call ends (inr (inl w)) = inl (still_awaits step.0 T d t ends there w)
    by_call ends (inr (inr w)) = inr w

-- ---- the laws

accept_waits_here : (S : State) (p d : ℕ) (fd : Fd) (flags : OpenFlags) (s : Socket) → find_socket S p fd ≡ Ok (d, s) →
    (accept S p fd flags).reply ≡ Reply.Err Errno.EAGAIN → AwaitsEnds s
unfolding accept
accept_waits_here S p d fd flags s found h =
    at_socket (sym (ap (λ (r : Result (ℕ × Socket) Errno). (elim r as (λ _. Outcome) [
      | Err e ↦ refuse S e
      | Ok w ↦ if is_dgram w.1.kind then refuse S Errno.EOPNOTSUPP else if is_none (listener_of w.1.phase) then refuse S Errno.EINVAL
          else elim (lowest_free (table_of S p)) [
            | None ↦ refuse S Errno.EMFILE
            | Some n ↦ accept_first S p n w.0 flags
                (slice_get (pending_ends w.1.phase) 0)
          ]
    ]).reply) found) ∙ h)
  where
    Q : Outcome → Type 0
    Q o = o.reply ≡ Reply.Err Errno.EAGAIN → AwaitsEnds s

    first_none : (es : List ℕ) → slice_get es 0 ≡ None → es ≡ []
    first_none [] h = refl
    first_none (e ∷ es) h = absurd (cc h)

    listens : (phase : Phase) → is_none (listener_of phase) ≡ false → listener_of phase ≢ None
    listens phase is none = false≢true (sym is ∙ ap is_none none)

    oldest : (n : ℕ) (o : Option ℕ) → slice_get (pending_ends s.phase) 0 ≡ o → is_none (listener_of s.phase) ≡ false →
        Q (accept_first S p n d flags o)
    oldest n None first b g = record { listens = listens s.phase b; none = first_none (pending_ends s.phase) first }
    oldest n (Some e) first b g = absurd (cc g)

    at_socket : Q (if is_dgram s.kind then refuse S Errno.EOPNOTSUPP else if is_none (listener_of s.phase) then refuse S Errno.EINVAL
        else elim (lowest_free (table_of S p)) [
          | None ↦ refuse S Errno.EMFILE
          | Some n ↦ accept_first S p n d flags
              (slice_get (pending_ends s.phase) 0)
        ])
    at_socket = either Q (is_dgram s.kind) _ _ (λ a g. absurd (cc g))
        (λ a. either Q (is_none (listener_of s.phase)) _ _ (λ b g. absurd (cc g))
        (λ b. maybe Q (lowest_free (table_of S p)) _ _ (λ g. absurd (cc g))
        (λ n low. oldest n (slice_get (pending_ends s.phase) 0) refl b)))

step_accept_waits : (S T : State) (p tag d : ℕ) (fd : Fd) (flags : OpenFlags) (s : Socket) (reply : Reply) (gone : List ℕ) →
    find_socket S p fd ≡ Ok (d, s) → Step S p tag (Request.Accept fd flags) reply gone T → reply ≡ Reply.Err Errno.EAGAIN → AwaitsEnds s
unfolding Step outcome
step_accept_waits S T p tag d fd flags s reply gone found step h =
    accept_waits_here S p d fd flags s found (chosen_again S step.0 (accept S p fd flags) reply step.1 h)

pub accepts_wait : AcceptsWait
accepts_wait boot es j d e fd flags s legal at request found reply =
    let S : State = before boot es j in
    step_accept_waits S (before boot es (suc j)) e.pid.0 j d fd flags s e.reply e.released found
    (subst (λ (r : Request). Step S e.pid.0 j r e.reply e.released (before boot es (suc j))) request (moment boot es j e legal at).steps)
    reply

pub accept_waits_end : AcceptWaitsEnd
accept_waits_end boot es j d e s t legal at here awaited there =
    let S : State = before boot es j in
    let T : State = before boot es (suc j) in
    ⊎_elim {C = AwaitsEnds t ⊎ ConnectsTo S e d} (λ w. inl (awaits_ends t w))
    (λ w. inr (record { fd = w.0; addr = w.1; kind = w.2; listener = w.3; asked = w.4; answered = w.5; led = w.6 }))
    (step_leaves S T e.pid.0 j d e.request e.reply e.released t (moment boot es j e legal at).steps
    (awaits_is S d s here ∙ does_await s.phase awaited.listens awaited.none) there)
