-- Moves of sockets by which others connect: a name given, listening, a connection, an accept.
use Rattle.std.proofs.Common.{◌≡◌, ℕ, ◌+◌, ◌<◌, ◌==◌, Bool, true, false, cond, List, [], ◌∷◌, ◌++◌, length, Option, Some, None, is_some}
use Rattle.std.proofs.Common.{option_map, option_and_then, refl, ap, sym, ◌∙◌, arith}
use Rattle.std.specs.Prelude.{IsSome, IsSomeAnd, is_none, slice_get, sum_by}
use Rattle.std.proofs.lemmas.Bool.{eq-eqb, ne_eqb}
use Rattle.std.proofs.lemmas.List.{length_push}
use Rattle.std.proofs.lemmas.List.Sums.{sum_by-set, sum_by_push}
use Rattle.ux_model.specs.Types.{Name, Addr, Cred, Mode, OpenFlags}
use Rattle.ux_model.specs.Names.{PathTarget, bound, named, is_unnamed_addr, autobind_name, IsFreeName, free_name}
use Rattle.ux_model.specs.Places.{place, changed_place}
use Rattle.ux_model.specs.Object.{View}
use Rattle.ux_model.specs.Socket.{Socket, Phase, idle, listening, connected, associated, peer_of, pending_ends, awaiting}
use Rattle.ux_model.specs.Socket.{phase_with_pending}
use Rattle.ux_model.specs.Description.{Description, Target, to_object, to_socket, socket_of, socket_in, changed, changed_target}
use Rattle.ux_model.specs.Process.{Process}
use Rattle.ux_model.specs.State.{State, socket_at, with_description_by, with_socket_by}
use Rattle.ux_model.specs.Pairing.{socket_description}
use Rattle.ux_model.specs.FileObjects.{is_opening}
use Rattle.ux_model.specs.References.{times, queue_refs, socket_refs, target_refs, description_refs, refs}
use Rattle.ux_model.specs.Peers.{target_peer, Paired}
use Rattle.ux_model.specs.Flight.{flying_at, flying_in, in_flight}
use Rattle.ux_model.specs.Owning.{target_name, name_in}
use Rattle.ux_model.specs.Binding.{with_name}
use Rattle.ux_model.specs.Connecting.{Listener, listener_of, with_listening, server_end, no_open_flags, tied, with_connection}
use Rattle.ux_model.specs.Accepting.{accepted_with, as_accepted, without_first_end}
use Rattle.ux_model.proofs.Lists.ChangedPlaces.{place-changed, length-changed, sum_by-changed}
use Rattle.ux_model.proofs.Changes.LeastNames.{free_name_is_least}
use Rattle.ux_model.proofs.Messages.Flying.{flying_at-changed, flying_changed}
use Rattle.ux_model.proofs.Counting.Making.{place-push, paired-tied}
use Rattle.ux_model.proofs.Releasing.OneGoes.{paired-changed}
use Rattle.ux_model.proofs.Counting.Owning.{owned_still, names_given, names_changed_socket, names_push, owned-push}
use Rattle.ux_model.proofs.Counting.Sockets.{peer_in-changed, peer_left, peer_awaiting, end_count, phase_left}
use Rattle.ux_slots.specs.Held.{Held, count_at, once, Adds}
use Rattle.ux_state.specs.declared.openings.Openings.{Openings}
use Rattle.ux_state.specs.Keeping.{state_of, IsState}
use Rattle.ux_state.specs.Moves.{IsUnnamedAt, IsUnconnectedAt, IsNoListenerAt, IsListenerAt, OnListener, first_end}
use Rattle.ux_state.proofs.Changing.{IsAlike}
use Rattle.ux_state.proofs.Links.{socket_linked}
use Rattle.ux_state.proofs.Opening.{counted_push, any_socket_counted, any_socket_inside}
use Rattle.ux_state.proofs.Queues.{one}
use Rattle.ux_state.proofs.SocketMoves.{there, held_by, held_by_changed, counted_changed, socket_changed, socket_kept}

-- what is there
pub that : {X : Type 0} (P : X → Type 0) (o : Option X) → IsSomeAnd o P → (x : X) × (o ≡ Some x) × P x
that P None some = absurd some
that P (Some x) some = (x, refl, some)

nothing : {X : Type 0} (o : Option X) → is_some o ≡ false → o ≡ None
nothing None e = refl
nothing (Some x) e = absurd (cc e)

pub not_some : {X : Type 0} (o : Option X) → (IsSome o → ⊥) → o ≡ None
not_some None h = refl
not_some (Some x) h = absurd (h refl)

-- ---- names

-- the name that autobind gives isn't there
pub free_unnamed : (names : List (Name × ℕ)) (name : Name) → free_name names ≡ Some name → named name names ≡ None
free_unnamed names name e = go (free_name names) (free_name_is_least names) e
  where
    none : (o : Option ℕ) → is_none o ≡ true → o ≡ None
    none None h = refl
    none (Some x) h = absurd (cc h)

    go : (free : Option Name) → IsFreeName names free → free ≡ Some name → named name names ≡ None
    go None least h = absurd (cc h)
    go (Some found) least h =
        let same : autobind_name least.0 ≡ name = cc (h, least.2) in
        none (named name names) (ap (λ n. is_none (named n names)) (sym same) ∙ least.3)

unnamed : (x : Option Description) (s : Socket) → socket_in x ≡ Some s → is_unnamed_addr s.name ≡ true → name_in x ≡ None
unnamed None s e none = absurd (cc e)
unnamed (Some D) s e none = by_target D.target e
  where
    by_name : (a : Addr) → is_unnamed_addr a ≡ true → (u : Socket) → target_name (to_socket (record u { name = a })) ≡ None
    by_name Addr.Unnamed e u = refl
    by_name (Addr.Path n) e u = absurd (cc e)
    by_name (Addr.Abstract n) e u = absurd (cc e)

    by_target : (t : Target) → socket_of t ≡ Some s → target_name t ≡ None
    by_target (to_object o) e = absurd (cc e)
    by_target (to_socket u) e = let same : u ≡ s = cc e in by_name u.name (ap (λ t. is_unnamed_addr (Socket.name t)) same ∙ none) u

gets : (n : Name) (x : Option Description) (s : Socket) → socket_in x ≡ Some s →
    name_in (option_map (changed (with_name (Addr.Abstract n))) x) ≡ Some n
gets n None s e = absurd (cc e)
gets n (Some D) s e = by_target D.target e
  where
    by_target : (t : Target) → socket_of t ≡ Some s → target_name (changed_target (with_name (Addr.Abstract n)) t) ≡ Some n
    by_target (to_object o) e = absurd (cc e)
    by_target (to_socket u) e = refl

-- ---- ends that wait

abbrev pub first_of : Option Socket → Option ℕ
first_of o = option_and_then (λ s. slice_get (pending_ends s.phase) 0) o

place_left : (k : ℕ) (x : Option Description) →
    description_refs k (option_map (changed without_first_end) x) + end_count k (first_of (socket_in x)) ≡ description_refs k x + 0
place_left k None = refl
place_left k (Some D) = by_target D.target
  where
    by_target : (t : Target) → target_refs k (changed_target without_first_end t) + end_count k (first_of (socket_of t)) ≡ target_refs k
        t + 0
    by_target (to_object o) = refl
    by_target (to_socket s) = let a = phase_left k s.phase in omega (arith, a)

-- a further end counts at a listener
awaiting_refs : (k e : ℕ) (s : Socket) (kept : Listener) → listener_of s.phase ≡ Some kept →
    socket_refs k (awaiting e s) ≡ socket_refs k s + one e k
awaiting_refs k e s kept = by_phase s.phase
  where
    by_phase : (p : Phase) → listener_of p ≡ Some kept →
        queue_refs k s.queue + times k (pending_ends (phase_with_pending e p)) ≡ queue_refs k s.queue + times k (pending_ends p) + one e k
    by_phase idle h = absurd (cc h)
    by_phase (listening backlog cred) h = let a = sum_by_push (λ n. cond {A = ℕ} (n == k) 1 0) backlog.pending e in omega (arith, a)
    by_phase (connected peer) h = absurd (cc h)
    by_phase (associated target) h = absurd (cc h)

-- nothing waits where nobody listens
none_waits : (k : ℕ) (p : Phase) → listener_of p ≡ None → ◌≡◌ {A = ℕ} (times k (pending_ends p)) 0
none_waits k idle h = refl
none_waits k (listening backlog cred) h = absurd (cc h)
none_waits k (connected peer) h = refl
none_waits k (associated target) h = refl

-- ---- an accept

pub accepted_alike : (flags : OpenFlags) (x y : Description) → y ≡ accepted_with flags x → IsAlike x y
accepted_alike flags x y e = record {
  holds = λ k. ap (λ D. target_refs k (Description.target D)) e ∙ holds k x.target;
  opens = λ allows o. ap (λ D. is_opening allows o (Some D)) e ∙ opens allows o x.target;
  peer = ap (λ D. target_peer (Description.target D)) e ∙ peer x.target;
  name = ap (λ D. target_name (Description.target D)) e ∙ name x.target;
  flies = λ u. ap (λ D. flying_at u (Description.target D)) e ∙ flying_at-changed u as_accepted (λ s. refl) x.target;
}
  where
    opens : (allows : Mode → Bool) (o : ℕ) (t : Target) →
        is_opening allows o (Some (record x { target = changed_target as_accepted t })) ≡ is_opening allows o
        (Some (record x { target = t }))
    opens allows o (to_object n) = refl
    opens allows o (to_socket s) = refl

    peer : (t : Target) → target_peer (changed_target as_accepted t) ≡ target_peer t
    peer (to_object n) = refl
    peer (to_socket s) = refl

    name : (t : Target) → target_name (changed_target as_accepted t) ≡ target_name t
    name (to_object n) = refl
    name (to_socket s) = refl

    holds : (k : ℕ) (t : Target) → target_refs k (changed_target as_accepted t) ≡ target_refs k t
    holds k (to_object n) = refl
    holds k (to_socket s) = refl

-- an end that waits is referred to
pub waiting_referenced : (S : State) (d e : ℕ) → first_end S d ≡ Some e → 0 < refs S e
unfolding refs
waiting_referenced S d e waits =
    let a = sum_by-changed (description_refs e) (changed without_first_end) (λ x. 0)
    (λ x. end_count e (first_of (socket_in x))) (place_left e) S.descriptions d in
    let b : end_count e (first_of (socket_at S d)) ≡ one e e = ap (end_count e) waits in
    let c : one e e ≡ 1 = ap (λ b. cond {A = ℕ} b 1 0) (eq-eqb e e refl) in
    omega (arith, a, b, c)

-- ---- a connection

ties_peer : (e : ℕ) (cred : Cred) (x : Option Description) (s : Socket) → socket_in x ≡ Some s → peer_of s.phase ≡ None →
    (D : Description) × (x ≡ Some D) × (target_peer D.target ≡ None) × (target_peer (changed_target (tied e cred) D.target) ≡ Some e)
ties_peer e cred None s h none = absurd (cc h)
ties_peer e cred (Some D) s h none = (D, refl, by_target D.target h, ties D.target h)
  where
    by_target : (t : Target) → socket_of t ≡ Some s → target_peer t ≡ None
    by_target (to_object o) h = absurd (cc h)
    by_target (to_socket u) h = let same : u ≡ s = cc h in ap (λ v. peer_of (Socket.phase v)) same ∙ none

    ties : (t : Target) → socket_of t ≡ Some s → target_peer (changed_target (tied e cred) t) ≡ Some e
    ties (to_object o) h = absurd (cc h)
    ties (to_socket u) h = refl

-- what a connect leaves, step by step
places_tied : (hs rs us ks ms : List (Option Description)) (c l i : ℕ) (lcred kcred : Cred) (E F : Description) → rs ≡ hs → i ≡ length rs →
    us ≡ changed_place rs l (changed (awaiting i)) → ks ≡ us ++ Some E ∷ [] →
    ms ≡ changed_place ks c (changed (tied i lcred)) → E ≡ F → lcred ≡ kcred →
    ms ≡ changed_place (changed_place hs l (changed (awaiting (length hs))) ++ Some F ∷ []) c (changed (tied (length hs) kcred))
places_tied hs rs us ks ms c l i lcred kcred E F r last u k m e creds =
    let number : i ≡ length hs = last ∙ ap length r in
    m ∙ ap (λ ds. changed_place ds c (changed (tied i lcred))) (k ∙ ap (λ ds. ds ++ Some E ∷ []) u)
    ∙ (λ j. changed_place (changed_place (r j) l (changed (awaiting (number j))) ++ Some (e j) ∷ []) c
    (changed (tied (number j) (creds j))))

on_both : (T : State) (l : ℕ) (P Q R : Socket → Listener → Type 0) → ((s : Socket) (kept : Listener) → P s kept → Q s kept → R s kept) →
    OnListener T l P → OnListener T l Q → OnListener T l R
on_both T l P Q R both = go (socket_at T l)
  where
    at : (s : Socket) (o : Option Listener) → IsSomeAnd o (P s) → IsSomeAnd o (Q s) → IsSomeAnd o (R s)
    at s None p q = absurd p
    at s (Some kept) p q = both s kept p q

    go : (o : Option Socket) → IsSomeAnd o (λ s. IsSomeAnd (listener_of (Socket.phase s)) (P s)) →
        IsSomeAnd o (λ s. IsSomeAnd (listener_of (Socket.phase s)) (Q s)) →
        IsSomeAnd o (λ s. IsSomeAnd (listener_of (Socket.phase s)) (R s))
    go None p q = absurd p
    go (Some s) p q = at s (listener_of s.phase) p q

module _ {ks : List Bool} {fs : ℕ → ℕ} (xs : List Openings) (ls : List ℕ) (H : Held Description) (os : List (Option View))
    (ps : List Process) (paths : List (Name × PathTarget)) (names : List (Name × ℕ))
    (state : IsState ks xs ls H fs (state_of os H ps paths names)) where
  abbrev S : State
  S = state_of os H ps paths names

  same_counts : (K : Held Description) → K.counts ≡ H.counts → (k : ℕ) → count_at K k ≡ count_at H k
  same_counts K same k = ap (λ cs. count_at (record H { counts = cs }) k) same

  -- a path more, of a socket that had no name
  pub path_given : (K : Held Description) (more : List (Name × PathTarget)) (d : ℕ) (name other : Name) → IsUnnamedAt S d →
      named name paths ≡ None → more ≡ paths ++ (name, bound d) ∷ [] →
      K.places ≡ changed_place H.places d (changed (with_name (Addr.Path other))) → K.counts ≡ H.counts →
      IsState ks xs ls K fs (state_of os K ps more names)
  path_given K more d name other free none is places counts =
      let f = that (λ s. is_unnamed_addr (Socket.name s) ≡ true) (socket_at S d) free in
      socket_changed xs ls H os ps paths names state K more names d (with_name (Addr.Path other)) f.0 f.1 places refl
      (λ k. let a = same_counts K counts k in omega (arith, a)) (λ u. refl)
      (rw is (socket_linked name d paths ls none state.linked))
      (owned_still H.places _ names (names_given H.places d _ (unnamed (place H.places d) f.0 f.1 f.2)) state.owned)

  -- a name of the abstract namespace more
  pub abstract_given : (K : Held Description) (shown : List (Name × ℕ)) (d : ℕ) (name other : Name) → other ≡ name → IsUnnamedAt S d →
      named name names ≡ None → shown ≡ names ++ (name, d) ∷ [] →
      K.places ≡ changed_place H.places d (changed (with_name (Addr.Abstract other))) → K.counts ≡ H.counts →
      IsState ks xs ls K fs (state_of os K ps paths shown)
  abstract_given K shown d name other same free none is places counts =
      let f = that (λ s. is_unnamed_addr (Socket.name s) ≡ true) (socket_at S d) free in
      let change : Description → Description = changed (with_name (Addr.Abstract other)) in
      let here : place (changed_place H.places d change) d ≡ option_map change (place H.places d) =
      place-changed H.places d d change ∙ ap (λ b. cond b (option_map change (place H.places d)) (place H.places d)) (eq-eqb d d refl) in
      socket_changed xs ls H os ps paths names state K paths shown d (with_name (Addr.Abstract other)) f.0 f.1 places refl
      (λ k. let a = same_counts K counts k in omega (arith, a)) (λ u. refl) state.linked
      (rw is (owned-push _ name d names none (ap name_in here ∙ gets other (place H.places d) f.0 f.1 ∙ ap (λ n. Some n) same)
      (owned_still H.places _ names (names_given H.places d _ (unnamed (place H.places d) f.0 f.1 f.2)) state.owned)))

  -- one that listens from now on
  pub listened : (K : Held Description) (d limit : ℕ) (cred : Cred) → IsUnconnectedAt S d →
      K.places ≡ changed_place H.places d (changed (with_listening limit cred)) → K.counts ≡ H.counts →
      IsState ks xs ls K fs (state_of os K ps paths names)
  listened K d limit cred free places counts =
      let f = that (λ s. is_some (peer_of (Socket.phase s)) ≡ false) (socket_at S d) free in
      socket_kept xs ls H os ps paths names state K d (with_listening limit cred) f.0 f.1 places
      (sym (nothing (peer_of (Socket.phase f.0)) f.2)) (λ t. refl) (λ k. let a = same_counts K counts k in omega (arith, a)) (λ u. refl)

  -- an end that is taken off was counted
  pub end_counted : (P : Held Description) (n e : ℕ) → first_of (socket_in (place H.places n)) ≡ Some e → P.counts ≡ H.counts →
      0 < count_at P e
  end_counted P n e waits counts =
      let a = waiting_referenced S n e waits in
      let b = state.counted e in
      let c = same_counts P counts e in
      omega (arith, a, b, c)

  -- and is no longer
  pub end_gone : (P K : Held Description) (n : ℕ) (o : Option ℕ) → o ≡ first_of (socket_in (place H.places n)) →
      P.places ≡ changed_place H.places n (changed without_first_end) → P.counts ≡ H.counts →
      K.places ≡ P.places → ((k : ℕ) → count_at P k ≡ count_at K k + end_count k o) → IsState ks xs ls K fs (state_of os K ps paths names)
  unfolding refs in_flight
  end_gone P K n o first leaves counts places less =
      let all : K.places ≡ changed_place H.places n (changed without_first_end) = places ∙ leaves in
      record {
        few_objects = state.few_objects;
        few_processes = state.few_processes;
        one_each = state.one_each;
        link_each = state.link_each;
        opened = rw all (counted_changed without_first_end H.places n xs state.opened);
        linked = state.linked;
        settled = state.settled;
        counted = λ k.
            let a = sum_by-changed (description_refs k) (changed without_first_end) (λ x. 0)
            (λ x. end_count k (first_of (socket_in x))) (place_left k) H.places n in
            let b = ap (sum_by (description_refs k)) all in
            let c = ap (end_count k) first in
            let d = less k in
            let e = same_counts P counts k in
            let f = state.counted k in
            omega (arith, a, b, c, d, e, f);
        flying = λ u. state.flying u ∙ sym (ap (sum_by (flying_in u)) all ∙ flying_changed u without_first_end (λ s. refl) H.places n);
        paired = rw all (paired-changed H.places n (changed without_first_end) (peer_in-changed without_first_end (λ s. peer_left s.phase))
            state.paired);
        owned = rw all (owned_still H.places _ names (names_changed_socket H.places n without_first_end (λ s. refl)) state.owned);
      }

  -- one that waits at listener l is connected to c
  module _ (c l : ℕ) (cred lcred : Cred) (s t : Socket) (kept : Listener) (client : socket_in (place H.places c) ≡ Some s)
      (no_peer : peer_of s.phase ≡ None) (no_listener : listener_of s.phase ≡ None)
      (listener : socket_in (place H.places l) ≡ Some t) (listens : listener_of t.phase ≡ Some kept) where
    abbrev e : ℕ
    e = length H.places

    abbrev E : Description
    E = socket_description no_open_flags (server_end t c cred)

    abbrev awaited : List (Option Description)
    awaited = changed_place H.places l (changed (awaiting e))

    abbrev all : List (Option Description)
    all = changed_place (awaited ++ Some E ∷ []) c (changed (tied e lcred))

    other : (l == c) ≡ false
    other = ne_eqb l c (λ h.
        let a : Some t ≡ Some s = sym listener ∙ ap (λ n. socket_in (place H.places n)) h ∙ client in
        let b : t ≡ s = cc a in
        let g : Some kept ≡ None = sym listens ∙ ap (λ u. listener_of (Socket.phase u)) b ∙ no_listener in
        absurd (cc g))

    long : length awaited ≡ length H.places
    long = length-changed H.places l (changed (awaiting e))

    at_c : place awaited c ≡ place H.places c
    at_c = place-changed H.places l c (changed (awaiting e))
        ∙ ap (λ b. cond b (option_map (changed (awaiting e)) (place H.places c)) (place H.places c)) other

    inside : c < length H.places
    inside = there H.places c s client

    still : place (awaited ++ Some E ∷ []) c ≡ place H.places c
    still = place-push awaited (Some E) c ∙ ap
        (λ b. cond b (Some E) (place awaited c)) (ne_eqb c (length awaited) (λ h. let a = inside in let b = long in omega (arith, h, a, b)))
        ∙ at_c

    held : (k : ℕ) → sum_by (description_refs k) all ≡ sum_by (description_refs k) H.places + one e k
    held k =
        let a1 = sum_by-set (description_refs k) H.places l (option_map (changed (awaiting e)) (place H.places l)) None
        (there H.places l t listener) in
        let a2 = held_by k (place H.places l) t listener in
        let a3 = held_by_changed k (awaiting e) (place H.places l) t listener in
        let a4 = awaiting_refs k e t kept listens in
        let b = sum_by_push (description_refs k) awaited (Some E) in
        let c1 = sum_by-set (description_refs k) (awaited ++ Some E ∷ []) c
        (option_map (changed (tied e lcred)) (place (awaited ++ Some E ∷ []) c)) None
        (let i = inside in let j = long in let m = length_push awaited (Some E) in omega (arith, i, j, m)) in
        let c2 = held_by k (place (awaited ++ Some E ∷ []) c) s (ap socket_in still ∙ client) in
        let c3 = held_by_changed k (tied e lcred) (place (awaited ++ Some E ∷ []) c) s (ap socket_in still ∙ client) in
        let c4 = none_waits k s.phase no_listener in
        omega (arith, a1, a2, a3, a4, b, c1, c2, c3, c4)

    -- nothing is sent
    flown : (u : ℕ) → sum_by (flying_in u) all ≡ sum_by (flying_in u) H.places
    flown u =
        let a = flying_changed u (awaiting e) (λ s. refl) H.places l in
        let b = sum_by_push (flying_in u) awaited (Some E) in
        let d = flying_changed u (tied e lcred) (λ s. refl) (awaited ++ Some E ∷ []) c in
        omega (arith, a, b, d)

    paired : Paired all
    paired =
        let f = ties_peer e lcred (place H.places c) s client no_peer in
        paired-tied awaited E f.0 (changed (tied e lcred) f.0) c (changed (tied e lcred))
        (paired-changed H.places l (changed (awaiting e)) (peer_in-changed (awaiting e) (λ u. peer_awaiting e u.phase)) state.paired)
        (at_c ∙ f.1) f.2 refl refl (f.3 ∙ ap (λ n. Some n) (sym long))

    pub connected_kept : (M : Held Description) → M.places ≡ all → ((k : ℕ) → count_at M k ≡ count_at H k + once e k) →
        IsState ks xs ls M fs (state_of os M ps paths names)
    unfolding refs in_flight
    connected_kept M places counts = record {
      few_objects = state.few_objects;
      few_processes = state.few_processes;
      one_each = state.one_each;
      link_each = state.link_each;
      opened = rw places (counted_changed (tied e lcred) (awaited ++ Some E ∷ []) c xs
          (counted_push awaited xs xs E (counted_changed (awaiting e) H.places l xs state.opened)
          (any_socket_inside xs no_open_flags (server_end t c cred) E refl)
          (any_socket_counted xs no_open_flags (server_end t c cred) E refl)));
      linked = state.linked;
      settled = state.settled;
      counted = λ k. let a = held k in let b = ap (sum_by (description_refs k)) places in let d = counts k in let f = state.counted k in
          omega (arith, a, b, d, f);
      flying = λ u. let a = flown u in let b = ap (sum_by (flying_in u)) places in let c = state.flying u in omega (arith, a, b, c);
      paired = rw places paired;
      owned = rw places (owned_still _ _ names (names_changed_socket (awaited ++ Some E ∷ []) c (tied e lcred) (λ u. refl))
          (owned_still _ _ names (names_push awaited E)
          (owned_still H.places _ names (names_changed_socket H.places l (awaiting e) (λ u. refl)) state.owned)));
    }

  -- the same, by what the calls of a connect say
  pub connection_kept : (R P K M : Held Description) (c l i : ℕ) (cred lcred : Cred) (E : Description) → IsUnconnectedAt S c →
      IsNoListenerAt S c → IsListenerAt S l →
      OnListener S l (λ t kept. E ≡ socket_description no_open_flags (server_end t c cred)) → R.places ≡ H.places → R.counts ≡ H.counts →
      i ≡ length R.places →
      P.places ≡ changed_place R.places l (changed (awaiting i)) → P.counts ≡ R.counts → Adds E P K →
      M.places ≡ changed_place K.places c (changed (tied i lcred)) → M.counts ≡ K.counts →
      IsState ks xs ls M fs (state_of os M ps paths names)
  connection_kept R P K M c l i cred lcred E free deaf listens end r_places r_counts last p_places p_counts adds m_places m_counts =
      let f = that (λ s. is_some (peer_of (Socket.phase s)) ≡ false) (socket_at S c) free in
      let g = that (λ s. is_some (listener_of (Socket.phase s)) ≡ false) (socket_at S c) deaf in
      let one_socket : Some g.0 ≡ Some f.0 = sym g.1 ∙ f.1 in
      let same : g.0 ≡ f.0 = cc one_socket in
      let h = that (λ t. IsSomeAnd (listener_of (Socket.phase t)) (λ kept. E ≡ socket_description no_open_flags (server_end t c cred)))
      (socket_at S l) end in
      let k = that (λ kept. E ≡ socket_description no_open_flags (server_end h.0 c cred)) (listener_of (Socket.phase h.0)) h.2 in
      connected_kept c l cred lcred f.0 h.0 k.0 f.1 (nothing _ f.2) (ap (λ s. listener_of (Socket.phase s)) (sym same) ∙ nothing _ g.2) h.1
      k.1 M
      (places_tied H.places R.places P.places K.places M.places c l i lcred lcred E _ r_places last p_places adds.places m_places k.2 refl)
      (λ n.
      let a : count_at M n ≡ count_at K n = ap (λ cs. count_at (record H { counts = cs }) n) m_counts in
      let b = adds.counts n in
      let d : count_at P n ≡ count_at H n = ap (λ cs. count_at (record H { counts = cs }) n) (p_counts ∙ r_counts) in
      let q : once (length P.places) n ≡ once (length H.places) n =
      ap (λ m. once m n) (ap length p_places ∙ length-changed R.places l (changed (awaiting i)) ∙ ap length r_places) in
      omega (arith, a, b, d, q))

-- the state that a connect leaves
pub connection_made : (V T : State) (R P K M : Held Description) (c l i : ℕ) (cred lcred : Cred) (E : Description) → V ≡ T →
    OnListener T l (λ t kept. E ≡ socket_description no_open_flags (server_end t c cred)) → OnListener T l (λ t kept. lcred ≡ kept.cred) →
    R.places ≡ V.descriptions → i ≡ length R.places →
    P.places ≡ changed_place R.places l (changed (awaiting i)) → Adds E P K → M.places ≡ changed_place K.places c (changed (tied i lcred)) →
    OnListener T l (λ t kept. record V { descriptions = M.places } ≡ with_connection T
    (record { client = c; client_cred = cred; listener = l; socket = t; listener_cred = kept.cred }))
connection_made V T R P K M c l i cred lcred E same end creds r_places last p_places adds m_places =
    on_both T l (λ t kept. E ≡ socket_description no_open_flags (server_end t c cred)) (λ t kept. lcred ≡ kept.cred)
    (λ t kept. record V { descriptions = M.places } ≡ with_connection T
    (record { client = c; client_cred = cred; listener = l; socket = t; listener_cred = kept.cred }))
    (λ t kept is_end is_cred.
    (λ j. record V {
      descriptions = places_tied V.descriptions R.places P.places K.places M.places c l i lcred kept.cred E _ r_places last
          p_places adds.places m_places is_end is_cred j;
    })
    ∙ ap (λ U. with_connection U (record { client = c; client_cred = cred; listener = l; socket = t; listener_cred = kept.cred })) same) end
    creds

-- one description changed
pub one_changed : (V T : State) (d : ℕ) (change : Description → Description) (ds : List (Option Description)) → V ≡ T →
    ds ≡ changed_place V.descriptions d change →
    record V { descriptions = ds } ≡ with_description_by T d change
one_changed V T d change ds same e = (λ j. record V { descriptions = e j }) ∙ ap (λ U. with_description_by U d change) same

-- one listens
pub listening_made : (V T : State) (d limit due : ℕ) (cred : Cred) (ds : List (Option Description)) → V ≡ T →
    ds ≡ changed_place V.descriptions d (changed (with_listening limit cred)) → limit ≡ due →
    record V { descriptions = ds } ≡ with_socket_by T d (with_listening due cred)
listening_made V T d limit due cred ds same e is =
    one_changed V T d (changed (with_listening due cred)) ds same
    (e ∙ ap (λ n. changed_place V.descriptions d (changed (with_listening n cred))) is)
