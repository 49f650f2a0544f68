-- A wait to connect ends by an accept or a listen at the listener, and by nothing else.
use Rattle.std.proofs.Common.{◌≡◌, ◌⊎◌, ℕ, suc, ◌==◌, Bool, true, false, not, ◌||◌, if◌then◌else◌, cond, is_some, List, length, Option}
use Rattle.std.proofs.Common.{Some, None, Result, Ok, Err, option_map, refl, ap, sym, ◌∙◌, subst, inl, inr, ⊎_elim, slice_get, arith}
use Rattle.std.specs.Prelude.{nat_le, is_none, ℤ}
use Rattle.std.proofs.lemmas.Bool.{eqb-true, eqb-false, leb-true, le-leb, false≢true}
use Rattle.ux_model.specs.Types.{Errno, Fd, Cred, Addr, SockType, OpenFlags, Request, Reply}
use Rattle.ux_model.specs.Places.{filled, place}
use Rattle.ux_model.specs.Names.{PathTarget, file, bound, named, is_valid_addr, is_unnamed_addr}
use Rattle.ux_model.specs.Backlog.{backlog_of}
use Rattle.ux_model.specs.Socket.{Socket, Phase, idle, listening, connected, associated, is_dgram, pending_ends, peer_of, takes_from}
use Rattle.ux_model.specs.Socket.{awaiting, with_reset, with_association}
use Rattle.ux_model.specs.Description.{Description, Target, to_object, to_socket, socket_of, socket_in, changed, changed_target}
use Rattle.ux_model.specs.Process.{Descriptor, own_cred, lowest_free, fd_of, descriptor}
use Rattle.ux_model.specs.State.{State, process_at, description_at, socket_at, table_of, next_description, with_description_by}
use Rattle.ux_model.specs.State.{with_socket_by, with_table, with_new}
use Rattle.ux_model.specs.Outcome.{Outcome, Chosen, own, lacking_memory, failing, find_socket, refuse}
use Rattle.ux_model.specs.Binding.{same_kind, socket_of_target, look_up}
use Rattle.ux_model.specs.Pairing.{socket_description}
use Rattle.ux_model.specs.Connecting.{Listener, listener_of, with_listening, listen, connect_to, connect_stream, connect_datagram, connect}
use Rattle.ux_model.specs.Connecting.{server_end, tied as tied_by, no_open_flags}
use Rattle.ux_model.specs.Accepting.{client_name, accept_first, accept, without_first_end, as_accepted, accepted_with}
use Rattle.ux_model.specs.Step.{Step, outcome}
use Rattle.ux_model.specs.Pedigree.{before}
use Rattle.ux_model.proofs.Changes.Walk.{either, maybe}
use Rattle.ux_model.proofs.Lists.ChangedPlaces.{bool_cases, place-changed}
use Rattle.ux_model.proofs.Steps.NameCalls.{same_descriptions}
use Rattle.ux_model.proofs.Steps.Calls.{each_obeys}
use Rattle.ux_model.proofs.Pedigrees.Moments.{moment}
use Rattle.ux_model.proofs.Tables.Shows.{by_socket}
use Rattle.ux_laws.specs.Credentials.{socket_behind}
use Rattle.ux_laws.specs.Waits.{AwaitsPlace, FindsNoPlace, ConnectsWait, GivesPlace, by_accept, by_listen, ConnectWaitsEnd}
use Rattle.ux_laws.proofs.Doing.Naming.{by_addr}
use Rattle.ux_laws.proofs.Makers.{behind_is}
use Rattle.ux_laws.proofs.Near.Single.{is_full, full_of, full_in, full_on, may_give_place, pushed_other, none_past, NearAt, stays}
use Rattle.ux_laws.proofs.Near.Single.{reached, new}
use Rattle.ux_laws.proofs.Near.Single.{gone as dropped}
use Rattle.ux_laws.proofs.Near.Calls.{chosen_near}
use Rattle.ux_laws.proofs.LeftAlone.{Lost, same, lost, reset, settled_lost}
use Rattle.ux_laws.proofs.WaitEnds.{chosen_again}
use Rattle.ux_laws.proofs.AcceptWaits.{still_there}
use Rattle.ux_laws.proofs.SendWaits.{at_found}

-- ---- as a test

full_is : (phase : Phase) (kept : Listener) → listener_of phase ≡ Some kept →
    is_full phase ≡ nat_le kept.backlog.limit (length kept.backlog.pending)
full_is idle kept h = absurd (cc h)
full_is (listening backlog cred) kept h =
    ap (λ (o : Option Listener). elim o as (λ _. Bool) [ None ↦ false | Some k ↦ nat_le k.backlog.limit (length k.backlog.pending) ]) h
full_is (connected peer) kept h = absurd (cc h)
full_is (associated target) kept h = absurd (cc h)

awaits_place : (s : Socket) → is_full s.phase ≡ true → AwaitsPlace s
awaits_place s h = by_phase s.phase refl h
  where
    by_phase : (phase : Phase) → s.phase ≡ phase → is_full phase ≡ true → AwaitsPlace s
    by_phase idle is h = absurd (false≢true h)
    by_phase (listening backlog cred) is h =
        record {
          kept = record { backlog = backlog; cred = cred };
          listens = ap listener_of is;
          full =
              leb-true backlog.limit (length backlog.pending) h;
        }
    by_phase (connected peer) is h = absurd (false≢true h)
    by_phase (associated target) is h = absurd (false≢true h)

socket_full : (S : State) (d : ℕ) (s : Socket) → socket_at S d ≡ Some s → full_in (description_at S d) ≡ is_full s.phase
socket_full S d s there = at_place (description_at S d) there
  where
    at_target : (t : Target) → socket_of t ≡ Some s → full_of t ≡ is_full s.phase
    at_target (to_object o) h = absurd (cc h)
    at_target (to_socket u) h = let one : u ≡ s = cc h in ap (λ (w : Socket). is_full w.phase) one

    at_place : (x : Option Description) → socket_in x ≡ Some s → full_in x ≡ is_full s.phase
    at_place None h = absurd (cc h)
    at_place (Some D) h = at_target D.target h

-- ---- what keeps it full

full_by : (T : State) (t d : ℕ) (change : Description → Description) →
    ((D : Description) → full_of D.target ≡ true → full_of (change D).target ≡ true) → full_in (description_at T d) ≡ true →
    full_in (description_at (with_description_by T t change) d) ≡ true
full_by T t d change keeps h = ap full_in (place-changed T.descriptions t d change) ∙ by_place (t == d)
  where
    at_place : (x : Option Description) → full_in x ≡ true → full_in (option_map change x) ≡ true
    at_place None h = h
    at_place (Some D) h = keeps D h

    by_place : (b : Bool) → full_in (cond b (option_map change (description_at T d)) (description_at T d)) ≡ true
    by_place true = at_place (description_at T d) h
    by_place false = h

full_changed : (T : State) (t d : ℕ) (change : Socket → Socket) →
    ((s : Socket) → is_full s.phase ≡ true → is_full (change s).phase ≡ true) → full_in (description_at T d) ≡ true →
    full_in (description_at (with_socket_by T t change) d) ≡ true
full_changed T t d change keeps h = full_by T t d (changed change) (λ D. at_target D.target) h
  where
    at_target : (u : Target) → full_of u ≡ true → full_of (changed_target change u) ≡ true
    at_target (to_object o) h = h
    at_target (to_socket s) h = keeps s h

full_other : (T : State) (t d : ℕ) (change : Socket → Socket) → (t == d) ≡ false → full_in (description_at T d) ≡ true →
    full_in (description_at (with_socket_by T t change) d) ≡ true
full_other T t d change other h =
    ap full_in (place-changed T.descriptions t d (changed change)
    ∙ ap (λ c. cond c (option_map (changed change) (description_at T d)) (description_at T d)) other) ∙ h

full_by_new : (T : State) (D : Description) (d : ℕ) → full_in (description_at T d) ≡ true → full_in (description_at (with_new T D) d) ≡ true
full_by_new T D d h = bool_cases (length T.descriptions == d)
    (λ e.
    let at : length T.descriptions ≡ d = eqb-true (length T.descriptions) d e in
    absurd (false≢true (sym (ap full_in (none_past T.descriptions d (omega (arith, at)))) ∙ h)))
    (λ e. ap full_in (pushed_other T.descriptions (Some D) d (eqb-false (length T.descriptions) d e)) ∙ h)

full_table : (T : State) (p d : ℕ) (table : List (Option Descriptor)) → full_in (description_at T d) ≡ true →
    full_in (description_at (with_table T p table) d) ≡ true
full_table T p d table h = ap (λ (ds : List (Option Description)). full_in (place ds d)) (same_descriptions T p table) ∙ h

connect_full : (S : State) (p d : ℕ) (fd : Fd) (addr : Addr) → full_in (description_at S d) ≡ true →
    full_in (description_at (connect S p fd addr).next d) ≡ true
unfolding connect
connect_full S p d fd addr h = maybe Q (process_at S p) _ _ h (λ P here. by_socket Q S p fd _ (λ e. h)
    (λ c s found there. either Q (is_dgram s.kind) _ _ (λ b. datagram c s.kind) (λ b. stream c s there (own_cred p P))))
  where
    Q : Outcome → Type 0
    Q o = full_in (description_at o.next d) ≡ true

    associates : (c : ℕ) (target : Option ℕ) → full_in (description_at (with_socket_by S c (with_association target)) d) ≡ true
    associates c target = full_changed S c d (with_association target) (λ s. full_on target s.phase) h

    datagram : (c : ℕ) (kind : SockType) → Q (connect_datagram S c kind addr)
    datagram c kind = either Q (not (is_valid_addr addr)) _ _ (λ b. h) (λ b. either Q (is_unnamed_addr addr) _ _ (λ e. associates c None)
        (λ e. by_addr Q S kind addr _ (λ f. h) (λ t target is at. either Q (takes_from c target.phase) _ _ (λ f. associates c (Some t))
        (λ f. h))))

    -- a socket here that isn't full is another
    is_other : (c : ℕ) (s : Socket) → socket_at S c ≡ Some s → is_full s.phase ≡ false → (b : Bool) → (c == d) ≡ b → b ≡ false
    is_other c s there free false is = refl
    is_other c s there free true is = absurd
        (false≢true (sym free ∙ sym (socket_full S c s there) ∙ ap (λ (k : ℕ). full_in (description_at S k)) (eqb-true c d is) ∙ h))

    not_full : (phase : Phase) → is_some (listener_of phase) ≡ false → is_full phase ≡ false
    not_full idle f = refl
    not_full (listening backlog cred) f = absurd (false≢true (sym f))
    not_full (connected peer) f = refl
    not_full (associated target) f = refl

    to_one : (c : ℕ) (cred : Cred) (l : ℕ) (other : Socket) → (c == d) ≡ false → socket_at S l ≡ Some other →
        Q (connect_to S c cred l other)
    to_one c cred l other apart at = maybe Q (listener_of other.phase) _ _ h
        (λ kept k. either Q (nat_le kept.backlog.limit (length kept.backlog.pending)) _ _ (λ b. h)
        (λ b.
        let e : ℕ = next_description S in
        let U : State = with_socket_by S l (awaiting e) in
        let D : Description = socket_description no_open_flags (server_end other c cred) in
        full_other (with_new U D) c d (tied_by e kept.cred) apart
        (full_by_new U D d (full_other S l d (awaiting e) (is_other l other at (full_is other.phase kept k ∙ b) (l == d) refl) h))))

    stream : (c : ℕ) (s : Socket) → socket_at S c ≡ Some s → (cred : Cred) → Q (connect_stream S c s addr cred)
    stream c s there cred = either Q (not (is_valid_addr addr) || is_unnamed_addr addr || is_some (listener_of s.phase)) _ _ (λ b. h)
        (λ b. either Q (is_some (peer_of s.phase)) _ _ (λ f. h)
        (λ f. by_addr Q S s.kind addr _ (λ g. h)
        (λ l other is at. to_one c cred l other (is_other c s there
        (not_full s.phase (last_of (not (is_valid_addr addr)) (is_unnamed_addr addr) (is_some (listener_of s.phase)) b)) (c == d) refl)
        at)))
      where
        last_of : (x y z : Bool) → (x || y || z) ≡ false → z ≡ false
        last_of true y z h = absurd (false≢true (sym h))
        last_of false true z h = absurd (false≢true (sym h))
        last_of false false z h = h

accept_full : (S : State) (p d : ℕ) (fd : Fd) (flags : OpenFlags) → full_in (description_at S d) ≡ true →
    (full_in (description_at (accept S p fd flags).next d) ≡ true)
    ⊎ ((n : Fd) × (name : Addr) × ((accept S p fd flags).reply ≡ Reply.Accepted n name) × (socket_behind S p fd ≡ Some d))
unfolding accept
accept_full S p d fd flags h = by_socket Q S p fd _ (λ e. inl h)
    (λ c s found there. either Q (is_dgram s.kind) _ _ (λ a. inl h)
    (λ a. either Q (is_none (listener_of s.phase)) _ _ (λ b. inl h)
    (λ b. maybe Q (lowest_free (table_of S p)) _ _ (inl h) (λ n low. oldest c s found n (slice_get (pending_ends s.phase) 0)))))
  where
    Q : Outcome → Type 0
    Q o = (full_in (description_at o.next d) ≡ true)
        ⊎ ((n : Fd) × (name : Addr) × (o.reply ≡ Reply.Accepted n name) × (socket_behind S p fd ≡ Some d))

    oldest : (c : ℕ) (s : Socket) → find_socket S p fd ≡ Ok (c, s) → (n : ℕ) (o : Option ℕ) → Q (accept_first S p n c flags o)
    oldest c s found n None = inl h
    oldest c s found n (Some e) = bool_cases (c == d)
        (λ at. inr (fd_of n, client_name S e, refl, behind_is S p c fd s found ∙ ap Some (eqb-true c d at)))
        (λ at.
        let T : State = with_table S p (filled (table_of S p) n (descriptor flags e)) in
        inl (full_by (with_socket_by T c without_first_end) e d (accepted_with flags)
        (λ D. at_target D.target) (full_other T c d without_first_end at (full_table S p d _ h))))
      where
        at_target : (u : Target) → full_of u ≡ true → full_of (changed_target as_accepted u) ≡ true
        at_target (to_object o) h = h
        at_target (to_socket s) h = h

listen_full : (S : State) (p d : ℕ) (fd : Fd) (backlog : ℤ) → full_in (description_at S d) ≡ true →
    (full_in (description_at (listen S p fd backlog).next d) ≡ true)
    ⊎ (((listen S p fd backlog).reply ≡ Reply.Ok) × (socket_behind S p fd ≡ Some d))
unfolding listen
listen_full S p d fd backlog h = maybe Q (process_at S p) _ _ (inl h) (λ P here. by_socket Q S p fd _ (λ e. inl h)
    (λ c s found there. either Q (is_dgram s.kind) _ _ (λ a. inl h)
    (λ a. either Q (is_some (peer_of s.phase)) _ _ (λ b. inl h)
    (λ b. either Q (is_unnamed_addr s.name) _ _ (λ f. inl h)
    (λ f. bool_cases (c == d)
    (λ at. inr (refl, behind_is S p c fd s found ∙ ap Some (eqb-true c d at)))
    (λ at. inl (full_other S c d (with_listening (backlog_of backlog) (own_cred p P)) at h)))))))
  where
    Q : Outcome → Type 0
    Q o = (full_in (description_at o.next d) ≡ true) ⊎ ((o.reply ≡ Reply.Ok) × (socket_behind S p fd ≡ Some d))

-- ---- a call

abbrev Gives : ℕ → State → ℕ → Request → Reply → Type 0
Gives d S p request reply = ((fd : Fd) × (flags : OpenFlags) × (n : Fd) × (name : Addr) × (request ≡ Request.Accept fd flags)
    × (reply ≡ Reply.Accepted n name) × (socket_behind S p fd ≡ Some d))
    ⊎ ((fd : Fd) × (backlog : ℤ) × (request ≡ Request.Listen fd backlog) × (reply ≡ Reply.Ok) × (socket_behind S p fd ≡ Some d))

abbrev Leaves : ℕ → State → ℕ → Request → Reply → State → Type 0
Leaves d S p request reply U = (full_in (description_at U d) ≡ true) ⊎ Gives d S p request reply

-- of what a call does by itself
by_own_answer : (S U : State) (p tag d : ℕ) (request : Request) (reply : Reply) → Chosen S (outcome S p tag request) reply U →
    full_in (description_at S d) ≡ true →
    ((full_in (description_at (outcome S p tag request).next d) ≡ true) ⊎ Gives d S p request (outcome S p tag request).reply) →
    Leaves d S p request reply U
by_own_answer S U p tag d request reply (own e f) h w =
    ⊎_elim {C = Leaves d S p request reply U} (λ k. inl (ap (λ (V : State). full_in (description_at V d)) f ∙ k))
    (λ k. inr (subst (Gives d S p request) (sym e) k)) w
by_own_answer S U p tag d request reply (lacking_memory e may f) h w = inl (ap (λ (V : State). full_in (description_at V d)) f ∙ h)
by_own_answer S U p tag d request reply (failing e f) h w =
    inl (ap (λ (V : State). full_in (description_at V d)) ((each_obeys S p tag request).failed U f).0.left ∙ h)

by_near : (S U : State) (p d : ℕ) (request : Request) (reply : Reply) → may_give_place request ≡ false →
    full_in (description_at S d) ≡ true → NearAt S p request d (description_at U d) →
    (description_at U d ≡ None) ⊎ Leaves d S p request reply U
by_near S U p d request reply b h (stays e) = inr (inl (ap full_in e ∙ h))
by_near S U p d request reply b h (reached r keeps) = inr (inl (keeps.4 b h))
by_near S U p d request reply b h (new more keeps) = inr (inl (keeps.4 b h))
by_near S U p d request reply b h (dropped off e) = inl e

leaves : (S U : State) (p tag d : ℕ) (request : Request) (reply : Reply) → Chosen S (outcome S p tag request) reply U →
    full_in (description_at S d) ≡ true → (description_at U d ≡ None) ⊎ Leaves d S p request reply U
unfolding outcome
leaves S U p tag d (Request.Connect fd addr) reply c h =
    inr (by_own_answer S U p tag d (Request.Connect fd addr) reply c h (inl (connect_full S p d fd addr h)))
leaves S U p tag d (Request.Accept fd flags) reply c h = inr (by_own_answer S U p tag d (Request.Accept fd flags) reply c h
    (⊎_elim {C = (full_in (description_at (accept S p fd flags).next d) ≡ true)
    ⊎ Gives d S p (Request.Accept fd flags) (accept S p fd flags).reply} (λ k. inl k)
    (λ w. inr (inl (fd, flags, w.0, w.1, refl, w.2, w.3))) (accept_full S p d fd flags h)))
leaves S U p tag d (Request.Listen fd backlog) reply c h = inr (by_own_answer S U p tag d (Request.Listen fd backlog) reply c h
    (⊎_elim {C = (full_in (description_at (listen S p fd backlog).next d) ≡ true)
    ⊎ Gives d S p (Request.Listen fd backlog) (listen S p fd backlog).reply} (λ k. inl k)
    (λ w. inr (inr (fd, backlog, refl, w.0, w.1))) (listen_full S p d fd backlog h)))
leaves S U p tag d request reply c h = by_near S U p d request reply refl h ((chosen_near S U p tag request reply c).each d)

-- what goes at the end of a call
still_full : (U T : State) (d : ℕ) (t : Socket) → Lost U T d → socket_at T d ≡ Some t → full_in (description_at U d) ≡ true →
    is_full t.phase ≡ true
still_full U T d t gone there h = sym (socket_full T d t there) ∙ by_lost gone
  where
    reset_full : (D : Description) → full_in (Some (changed (with_reset true) D)) ≡ full_in (Some D)
    reset_full D = at_target D.target
      where
        at_target : (u : Target) → full_of (changed_target (with_reset true) u) ≡ full_of u
        at_target (to_object o) = refl
        at_target (to_socket s) = refl

    by_lost : Lost U T d → full_in (description_at T d) ≡ true
    by_lost (same e) = ap full_in e ∙ h
    by_lost (lost e) = let clash : None ≡ Some t = sym (ap socket_in e) ∙ there in absurd (cc clash)
    by_lost (reset r had) = ap full_in r.left ∙ reset_full r.description ∙ sym (ap full_in r.there) ∙ h

step_leaves : (S T : State) (p tag d : ℕ) (request : Request) (reply : Reply) (gone : List ℕ) (t : Socket) →
    Step S p tag request reply gone T → full_in (description_at S d) ≡ true → socket_at T d ≡ Some t →
    (is_full t.phase ≡ true) ⊎ Gives d S p request reply
unfolding Step
step_leaves S T p tag d request reply gone t step h there =
    by_call (subst (λ (V : State). Lost step.0 V d) (sym step.3) (settled_lost step.0 d)) (leaves S step.0 p tag d request reply step.1 h)
  where
    by_call : Lost step.0 T d → (description_at step.0 d ≡ None) ⊎ Leaves d S p request reply step.0 →
        (is_full t.phase ≡ true) ⊎ Gives d S p request reply
    by_call ends (inl none) = absurd (still_there step.0 T d t ends there none)
    by_call ends (inr (inl w)) = inl (still_full step.0 T d t ends there w)
    by_call ends (inr (inr w)) = inr w

-- ---- the laws

-- an address that leads nowhere is no reason to wait
pub nowhere_no_wait : (S : State) (kind : SockType) (addr : Addr) (e : Errno) → look_up S kind addr ≡ Err e →
    Reply.Err e ≡ Reply.Err Errno.EAGAIN → ⊥
nowhere_no_wait S kind addr e is h = by_addr addr is
  where
    Wrong : Result (ℕ × Socket) Errno → Type 0
    Wrong r = r ≡ Err e → ⊥

    told : Result (ℕ × Socket) Errno → Reply
    told r = elim r as (λ _. Reply) [ Err x ↦ Reply.Err x | Ok w ↦ Reply.Ok ]

    refused : Wrong (Err Errno.ECONNREFUSED)
    refused k = let clash : Reply.Err Errno.ECONNREFUSED ≡ Reply.Err Errno.EAGAIN = ap told k ∙ h in cc clash

    by_kind : (d : ℕ) (u : Socket) (b : Bool) → Wrong (if b then Ok (d, u) else Err Errno.EPROTOTYPE)
    by_kind d u true k = cc k
    by_kind d u false k = let clash : Reply.Err Errno.EPROTOTYPE ≡ Reply.Err Errno.EAGAIN = ap told k ∙ h in cc clash

    by_number : (d : ℕ) (o : Option Socket) →
        Wrong (elim o as (λ _. Result (ℕ × Socket) Errno)
        [ None ↦ Err Errno.ECONNREFUSED | Some u ↦ if same_kind kind u.kind then Ok (d, u) else Err Errno.EPROTOTYPE ])
    by_number d None k = refused k
    by_number d (Some u) k = by_kind d u (same_kind kind u.kind) k

    by_name : (o : Option ℕ) → Wrong (elim o as (λ _. Result (ℕ × Socket) Errno) [
      | None ↦ Err Errno.ECONNREFUSED
      | Some d ↦ elim (socket_at S d) as (λ _. Result (ℕ × Socket) Errno)
          [ None ↦ Err Errno.ECONNREFUSED | Some u ↦ if same_kind kind u.kind then Ok (d, u) else Err Errno.EPROTOTYPE ]
    ])
    by_name None k = refused k
    by_name (Some d) k = by_number d (socket_at S d) k

    by_target : (o : Option PathTarget) → Wrong
        (elim o as (λ _. Result (ℕ × Socket) Errno) [ None ↦ Err Errno.ENOENT | Some t ↦ socket_of_target S kind t ])
    by_target None k = let clash : Reply.Err Errno.ENOENT ≡ Reply.Err Errno.EAGAIN = ap told k ∙ h in cc clash
    by_target (Some (file o)) k = refused k
    by_target (Some (bound d)) k = by_number d (socket_at S d) k

    by_addr : (a : Addr) → Wrong (look_up S kind a)
    by_addr Addr.Unnamed k = let clash : Reply.Err Errno.EINVAL ≡ Reply.Err Errno.EAGAIN = ap told k ∙ h in cc clash
    by_addr (Addr.Path name) k = by_target (named name S.paths) k
    by_addr (Addr.Abstract name) k = by_name (named name S.abstract_names) k

connect_waits : (S : State) (p d : ℕ) (fd : Fd) (addr : Addr) (s : Socket) → find_socket S p fd ≡ Ok (d, s) → is_dgram s.kind ≡ false →
    (connect S p fd addr).reply ≡ Reply.Err Errno.EAGAIN → FindsNoPlace S s addr
unfolding connect
connect_waits S p d fd addr s found kind = maybe Q (process_at S p) _ _ (λ h. absurd (cc h))
    (λ P here. at_found Q S p d fd s _ found
    (either Q (is_dgram s.kind) _ _ (λ b. absurd (false≢true (sym kind ∙ b))) (λ b. stream (own_cred p P))))
  where
    Q : Outcome → Type 0
    Q o = o.reply ≡ Reply.Err Errno.EAGAIN → FindsNoPlace S s addr

    to_one : (cred : Cred) (l : ℕ) (other : Socket) → look_up S s.kind addr ≡ Ok (l, other) → Q (connect_to S d cred l other)
    to_one cred l other is = maybe Q (listener_of other.phase) _ _ (λ h. absurd (cc h))
        (λ kept k. either Q (nat_le kept.backlog.limit (length kept.backlog.pending)) _ _
        (λ b h. record { number = l; listener = other; led = is; none = awaits_place other (full_is other.phase kept k ∙ b) })
        (λ b h. absurd (cc h)))

    by_look_up : (cred : Cred) (r : Result (ℕ × Socket) Errno) → look_up S s.kind addr ≡ r →
        Q (elim r as (λ _. Outcome) [ Err e ↦ refuse S e | Ok w ↦ connect_to S d cred w.0 w.1 ])
    by_look_up cred (Err e) is = λ h. absurd (nowhere_no_wait S s.kind addr e is h)
    by_look_up cred (Ok w) is = to_one cred w.0 w.1 is

    stream : (cred : Cred) → Q (connect_stream S d s addr cred)
    stream cred = either Q (not (is_valid_addr addr) || is_unnamed_addr addr || is_some (listener_of s.phase)) _ _ (λ b h. absurd (cc h))
        (λ b. either Q (is_some (peer_of s.phase)) _ _ (λ f h. absurd (cc h)) (λ f. by_look_up cred (look_up S s.kind addr) refl))

step_connect_waits : (S T : State) (p tag d : ℕ) (fd : Fd) (addr : Addr) (s : Socket) (reply : Reply) (gone : List ℕ) →
    find_socket S p fd ≡ Ok (d, s) → is_dgram s.kind ≡ false → Step S p tag (Request.Connect fd addr) reply gone T →
    reply ≡ Reply.Err Errno.EAGAIN → FindsNoPlace S s addr
unfolding Step outcome
step_connect_waits S T p tag d fd addr s reply gone found kind step h =
    connect_waits S p d fd addr s found kind (chosen_again S step.0 (connect S p fd addr) reply step.1 h)

pub connects_wait : ConnectsWait
connects_wait boot es j d e fd addr s legal at request found kind reply =
    let S : State = before boot es j in
    step_connect_waits S (before boot es (suc j)) e.pid.0 j d fd addr s e.reply e.released found kind
    (subst (λ (r : Request). Step S e.pid.0 j r e.reply e.released (before boot es (suc j))) request (moment boot es j e legal at).steps)
    reply

pub connect_waits_end : ConnectWaitsEnd
connect_waits_end boot es j d e s t legal at here awaited there =
    let S : State = before boot es j in
    let T : State = before boot es (suc j) in
    let no_place : is_full s.phase ≡ true = full_is s.phase awaited.kept awaited.listens
    ∙ le-leb awaited.kept.backlog.limit (length awaited.kept.backlog.pending) awaited.full in
    ⊎_elim {C = AwaitsPlace t ⊎ GivesPlace S e d} (λ w. inl (awaits_place t w))
    (λ w. ⊎_elim {C = AwaitsPlace t ⊎ GivesPlace S e d} (λ a. inr (by_accept a.0 a.1 a.2 a.3 a.4 a.5 a.6))
    (λ l. inr (by_listen l.0 l.1 l.2 l.3 l.4)) w)
    (step_leaves S T e.pid.0 j d e.request e.reply e.released t (moment boot es j e legal at).steps (socket_full S d s here ∙ no_place)
    there)
