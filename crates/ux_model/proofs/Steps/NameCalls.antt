-- Of the calls of names and connections: that their outcomes obey what all do. One lemma a call.
use Rattle.std.proofs.Common.{◌≡◌, ℕ, zero, suc, ◌+◌, ◌≤◌, Bool, true, false, not, ◌&&◌, ◌||◌, inl, cond, List, [], ◌∷◌, ◌++◌, Option, Some}
use Rattle.std.proofs.Common.{None, refl, ap, sym, ◌∙◌, arith}
use Rattle.std.specs.Prelude.{nat_lt, nat_le, length, ℤ, is_none, is_some, option_map, slice_get}
use Rattle.std.proofs.lemmas.Bool.{eq-eqb, leb-true, and_parts}
use Rattle.ux_model.specs.Types.{Fd, Cred, Name, Addr, SockType, Mode, OpenFlags}
use Rattle.ux_model.specs.Places.{filled}
use Rattle.ux_model.specs.Limits.{name_limit}
use Rattle.ux_model.specs.Rooms.{name_bytes}
use Rattle.ux_model.specs.Names.{named, is_valid_addr, is_unnamed_addr, free_name}
use Rattle.ux_model.specs.Backlog.{backlog_of}
use Rattle.ux_model.specs.Socket.{Socket, Phase, is_dgram, new_socket, pending_ends, peer_of, tied_socket, takes_from, with_association}
use Rattle.ux_model.specs.Socket.{shut_down}
use Rattle.ux_model.specs.Description.{Description, Target, to_object, to_socket, socket_in, changed, changed_target}
use Rattle.ux_model.specs.Process.{Process, Descriptor, lowest_free, descriptor, own_cred}
use Rattle.ux_model.specs.State.{State, description_at, socket_at, process_at, table_of, next_description, with_socket_by, with_process}
use Rattle.ux_model.specs.State.{with_table, with_new}
use Rattle.ux_model.specs.References.{times}
use Rattle.ux_model.specs.Pairing.{socket_description}
use Rattle.ux_model.specs.Binding.{with_name, bind_to, bind}
use Rattle.ux_model.specs.Connecting.{make_socket, listener_of, with_listening, listen, connect_to, connect_stream, connect_datagram}
use Rattle.ux_model.specs.Connecting.{connect, shutdown}
use Rattle.ux_model.specs.Accepting.{as_accepted, accepted_with, phase_without_first_end, without_first_end, with_accepted, accept_first}
use Rattle.ux_model.specs.Accepting.{accept}
use Rattle.ux_model.specs.Peers.{at_target, at_socket}
use Rattle.ux_model.specs.Invariants.{pends, pends_at_all}
use Rattle.ux_model.proofs.Lists.ChangedPlaces.{changed_here, sum_by-changed}
use Rattle.ux_model.proofs.Counting.Sockets.{peer_left, end_count, phase_left, peer_associated, ends_associated}
use Rattle.ux_model.proofs.Changes.Bounds.{new_bounded, free_short}
use Rattle.ux_model.proofs.Changes.Sound.{IsSound, unaccepted, target_name, name_in}
use Rattle.ux_model.proofs.Changes.Walk.{either, maybe, found_socket, found_named}
use Rattle.ux_model.proofs.Changes.Reaching.{May, bindings_too, tables_alone, Reaches, still, description_made, connection_made, description_changed}
use Rattle.ux_model.proofs.Changes.Reaching.{path_bound, name_bound, KeepsPlace, KeepsTarget, KeepsSocket, kept_place, kept_socket}
use Rattle.ux_model.proofs.Changes.Reaching.{same_target, nothing_there, put_names, same_names, with_table_reached, with_socket_reached}
use Rattle.ux_model.proofs.Changes.Reaching.{some_pushed}
use Rattle.ux_model.proofs.Changes.HeldOpen.{with_table_objects}
use Rattle.ux_model.proofs.Changes.Obeying.{Obeys, Call, refuses, answers}

-- ---- socket

pub socket_obeys : (S : State) (p : ℕ) (kind : SockType) (flags : OpenFlags) → Call S (make_socket S p kind flags)
unfolding make_socket
socket_obeys S p kind flags = maybe (Call S) (lowest_free (table_of S p)) _ _ (refuses refl refl) (λ n low.
    let D : Description = socket_description flags (new_socket kind) in
    let T : State = with_new S D in
    answers refl refl refl (with_table_objects T p _)
    (with_table_reached T p _ (description_made D still
    (λ sound o h. absurd (cc h)) (record { refs = λ d. refl; peer = refl }) (new_bounded kind))
    (λ sound. put_names T (table_of T p) (table_of T p) n (descriptor flags (next_description S)) (some_pushed S.descriptions D)
    (same_names T (table_of T p)))))

-- ---- bind

same_socket : (S : State) (d : ℕ) (s t : Socket) → socket_at S d ≡ Some s → socket_at S d ≡ Some t → s ≡ t
same_socket S d s t h here = let same : Some s ≡ Some t = sym h ∙ here in cc same

-- a socket without a name gets one
name_given : {may : May} (S : State) (d : ℕ) (s : Socket) (name : Addr) → socket_at S d ≡ Some s → is_unnamed_addr s.name ≡ true →
    name_bytes name ≤ name_limit →
    Reaches S may (with_socket_by S d (with_name name))
name_given S d s name h unnamed short = with_socket_reached S d (with_name name) still (λ sound t here. record {
  holds = λ k gone. omega arith;
  peer = refl;
  pending = λ k. omega arith;
  waits = λ w. omega arith;
  flies = λ u limit are within. omega (arith, within);
  bounds = λ all own. record { short = short; each = own.each; limited = own.limited; all = own.all };
  named = λ a has.
      let none : is_unnamed_addr t.name ≡ true = ap (λ (u : Socket). is_unnamed_addr u.name) (sym (same_socket S d s t h here)) ∙ unnamed in
      let one : is_unnamed_addr t.name ≡ false = ap is_unnamed_addr has in
      absurd (cc (none, one));
})

-- and shows it
shows : (name : Addr) (x : Option Description) (s : Socket) → socket_in x ≡ Some s →
    name_in (option_map (changed (with_name name)) x) ≡ Some name
shows name None s h = absurd (cc h)
shows name (Some D) s h = by_target D.target h
  where
    by_target : (t : Target) → socket_in (Some (record D { target = t })) ≡ Some s →
        target_name (changed_target (with_name name) t) ≡ Some name
    by_target (to_object o) h = absurd (cc h)
    by_target (to_socket u) h = refl

pub abstract_given : {may : May} (S : State) (d : ℕ) (s : Socket) (name : Name) → socket_at S d ≡ Some s → is_unnamed_addr s.name ≡ true →
    length name ≤ name_limit → may.names ≡ true →
    Reaches S may (record (with_socket_by S d (with_name (Addr.Abstract name))) { abstract_names = S.abstract_names ++ (name, d) ∷ [] })
abstract_given S d s name h unnamed short told = name_bound name d (name_given S d s (Addr.Abstract name) h unnamed short)
    (ap name_in (changed_here S.descriptions d (changed (with_name (Addr.Abstract name))))
    ∙ shows (Addr.Abstract name) (description_at S d) s h) told

bind_to_obeys : (S : State) (d : ℕ) (s : Socket) (addr : Addr) → socket_at S d ≡ Some s → is_unnamed_addr s.name ≡ true →
    name_bytes addr ≤ name_limit → Obeys S bindings_too (bind_to S d addr)
bind_to_obeys S d s Addr.Unnamed h unnamed short = maybe (Obeys S bindings_too) (free_name S.abstract_names) _ _ (refuses refl refl)
    (λ name free. answers refl refl refl refl (abstract_given S d s name h unnamed (free_short S.abstract_names name free) refl))
bind_to_obeys S d s (Addr.Path name) h unnamed short = either (Obeys S bindings_too) (is_some (named name S.paths)) _ _ (λ b. refuses refl refl)
    (λ b. answers refl refl refl refl (path_bound name d (name_given S d s (Addr.Path name) h unnamed short) refl))
bind_to_obeys S d s (Addr.Abstract name) h unnamed short =
    either (Obeys S bindings_too) (is_some (named name S.abstract_names)) _ _ (λ b. refuses refl refl)
    (λ b. answers refl refl refl refl (abstract_given S d s name h unnamed short refl))

pub first_holds : (a b : Bool) → (not a || b) ≡ false → a ≡ true
first_holds true b h = refl
first_holds false b h = absurd (cc h)

second_holds : (a b : Bool) → (not a || not b) ≡ false → b ≡ true
second_holds true true h = refl
second_holds true false h = absurd (cc h)
second_holds false b h = absurd (cc h)

-- a valid address is no longer than a name may be
valid_short : (addr : Addr) → is_valid_addr addr ≡ true → name_bytes addr ≤ name_limit
valid_short Addr.Unnamed h = omega arith
valid_short (Addr.Path name) h = leb-true (length name) name_limit
    (and_parts (nat_lt 0 (length name)) _ (and_parts (nat_lt 0 (length name) && nat_le (length name) name_limit) _ h).0).1
valid_short (Addr.Abstract name) h = leb-true (length name) name_limit h

pub bind_obeys : (S : State) (p : ℕ) (fd : Fd) (addr : Addr) → Obeys S bindings_too (bind S p fd addr)
unfolding bind
bind_obeys S p fd addr = found_socket (Obeys S bindings_too) S p fd _ (refuses refl refl) (refuses refl refl)
    (λ d s h. either (Obeys S bindings_too) (not (is_unnamed_addr s.name) || not (is_valid_addr addr)) _ _ (λ b. refuses refl refl)
    (λ b. bind_to_obeys S d s addr h (first_holds (is_unnamed_addr s.name) (not (is_valid_addr addr)) b)
    (valid_short addr (second_holds (is_unnamed_addr s.name) (is_valid_addr addr) b))))

-- ---- listen

is_none_of : {X : Type 0} (o : Option X) → is_some o ≡ false → o ≡ None
is_none_of None h = refl
is_none_of (Some x) h = absurd (cc h)

listening_keeps : (S : State) (d : ℕ) (s : Socket) (limit : ℕ) (cred : Cred) → peer_of s.phase ≡ None →
    KeepsSocket S d s (with_listening limit cred s)
listening_keeps S d s limit cred free = record {
  holds = λ k gone. omega arith;
  peer = sym free;
  pending = λ k. omega arith;
  waits =
      λ w. omega arith;
  flies = λ u limit are within. omega (arith, within);
  bounds = λ all own. own;
  named = λ a has. has;
}

pub listen_obeys : (S : State) (p : ℕ) (fd : Fd) (backlog : ℤ) → Call S (listen S p fd backlog)
unfolding listen
listen_obeys S p fd backlog = maybe (Call S) (process_at S p) _ _ (refuses refl refl)
    (λ P here. found_socket (Call S) S p fd _ (refuses refl refl) (refuses refl refl)
    (λ d s h. either (Call S) (is_dgram s.kind) _ _ (λ a. refuses refl refl)
    (λ a. either (Call S) (is_some (peer_of s.phase)) _ _ (λ b. refuses refl refl)
    (λ b. either (Call S) (is_unnamed_addr s.name) _ _ (λ c. refuses refl refl)
    (λ c. answers refl refl refl refl (with_socket_reached S d (with_listening (backlog_of backlog) (own_cred p P)) still
    (λ sound t at_d. listening_keeps S d t (backlog_of backlog) (own_cred p P)
    (ap (λ (u : Socket). peer_of u.phase) (sym (same_socket S d s t h at_d)) ∙ is_none_of (peer_of s.phase) b))))))))

-- ---- connect

connect_to_obeys : (S : State) (d : ℕ) (s : Socket) (cred : Cred) (l : ℕ) (other : Socket) → socket_at S d ≡ Some s →
    peer_of s.phase ≡ None → socket_at S l ≡ Some other →
    Call S (connect_to S d cred l other)
connect_to_obeys S d s cred l other h free there = maybe (Call S) (listener_of other.phase) _ _ (refuses refl (inl refl))
    (λ kept listens. either (Call S) (nat_le kept.backlog.limit (length kept.backlog.pending)) _ _ (λ b. refuses refl refl)
    (λ b. answers refl refl refl refl (connection_made d l cred kept.cred s other still h free there)))

stream_obeys : (S : State) (d : ℕ) (s : Socket) (addr : Addr) (cred : Cred) → socket_at S d ≡ Some s →
    Call S (connect_stream S d s addr cred)
stream_obeys S d s addr cred h = either (Call S) (not (is_valid_addr addr) || is_unnamed_addr addr || is_some (listener_of s.phase)) _ _
    (λ b. refuses refl refl)
    (λ b. either (Call S) (is_some (peer_of s.phase)) _ _ (λ c. refuses refl refl)
    (λ c. found_named (Call S) S s.kind addr _ (refuses refl refl) (refuses refl refl) (refuses refl (inl refl)) (refuses refl refl)
    (λ l other there. connect_to_obeys S d s cred l other h (is_none_of (peer_of s.phase) c) there)))

-- ---- associations

association_keeps : (S : State) (n : ℕ) (s : Socket) (target : Option ℕ) → KeepsSocket S n s (with_association target s)
association_keeps S n s target = record {
  holds = λ d gone. let same = ap (times d) (ends_associated target s.phase) in omega (arith, same);
  peer = peer_associated target s.phase;
  pending = λ d. let same = ap (times d) (ends_associated target s.phase) in omega (arith, same);
  waits = λ w. omega arith;
  flies = λ u limit are within. omega (arith, within);
  bounds = λ all own. own;
  named = λ a has. has;
}

pub association_reached : (S : State) (d : ℕ) (target : Option ℕ) → Reaches S tables_alone (with_socket_by S d (with_association target))
association_reached S d target = with_socket_reached S d (with_association target) still (λ sound s here. association_keeps S d s target)

datagram_obeys : (S : State) (d : ℕ) (kind : SockType) (addr : Addr) → Call S (connect_datagram S d kind addr)
datagram_obeys S d kind addr = either (Call S) (not (is_valid_addr addr)) _ _ (λ b. refuses refl refl)
    (λ b. either (Call S) (is_unnamed_addr addr) _ _ (λ c. answers refl refl refl refl (association_reached S d None))
    (λ c. found_named (Call S) S kind addr _ (refuses refl refl) (refuses refl refl) (refuses refl (inl refl)) (refuses refl refl)
    (λ t target there. either (Call S) (takes_from d target.phase) _ _ (λ e. answers refl refl refl refl (association_reached S d (Some t)))
    (λ e. refuses refl refl))))

pub connect_obeys : (S : State) (p : ℕ) (fd : Fd) (addr : Addr) → Call S (connect S p fd addr)
unfolding connect
connect_obeys S p fd addr = maybe (Call S) (process_at S p) _ _ (refuses refl refl)
    (λ P here. found_socket (Call S) S p fd _ (refuses refl refl) (refuses refl refl)
    (λ d s h. either (Call S) (is_dgram s.kind) _ _ (λ b. datagram_obeys S d s.kind addr) (λ b. stream_obeys S d s addr (own_cred p P) h)))

-- ---- accept

split_place : (e : ℕ) (x : Option Description) →
    at_socket (pends e) (option_map (changed without_first_end) x) + at_socket
    (λ s. end_count e (slice_get (pending_ends s.phase) 0)) x ≡ at_socket (pends e) x + 0
split_place e None = refl
split_place e (Some D) = by_target D.target
  where
    by_target : (t : Target) → at_target (pends e) (changed_target without_first_end t) + at_target
        (λ s. end_count e (slice_get (pending_ends s.phase) 0)) t ≡ at_target (pends e) t + 0
    by_target (to_object o) = refl
    by_target (to_socket s) = let a = phase_left e s.phase in omega (arith, a)

at_is : (f : Socket → ℕ) (x : Option Description) (s : Socket) → socket_in x ≡ Some s → at_socket f x ≡ f s
at_is f None s h = absurd (cc h)
at_is f (Some D) s h = by_target D.target h
  where
    by_target : (t : Target) → socket_in (Some (record D { target = t })) ≡ Some s → at_target f t ≡ f s
    by_target (to_object o) h = absurd (cc h)
    by_target (to_socket u) h = let same : u ≡ s = cc h in ap f same

-- the oldest that waits at a listener waits no longer once it is taken off
one_fewer : (S : State) (d e : ℕ) (s : Socket) → socket_at S d ≡ Some s → slice_get (pending_ends s.phase) 0 ≡ Some e →
    pends_at_all e (with_socket_by S d without_first_end).descriptions + 1 ≡ pends_at_all e S.descriptions
one_fewer S d e s h first =
    let all = sum_by-changed (at_socket (pends e)) (changed without_first_end)
    (λ x. 0) (at_socket (λ s. end_count e (slice_get (pending_ends s.phase) 0))) (split_place e) S.descriptions d in
    let here : at_socket (λ s. end_count e (slice_get (pending_ends s.phase) 0)) (description_at S d) ≡ end_count e
    (slice_get (pending_ends s.phase) 0) = at_is (λ s. end_count e (slice_get (pending_ends s.phase) 0)) (description_at S d) s h in
    let one : end_count e (slice_get (pending_ends s.phase) 0) ≡ 1 = ap (end_count e) first
    ∙ ap (λ b. cond {A = ℕ} b 1 0) (eq-eqb e e refl) in
    omega (arith, all, here, one)

at_most_one : (x : Option Description) → at_socket unaccepted x ≤ 1
at_most_one None = omega arith
at_most_one (Some D) = by_target D.target
  where
    by_flag : (b : Bool) → cond {A = ℕ} b 0 1 ≤ 1
    by_flag true = omega arith
    by_flag false = omega arith

    by_target : (t : Target) → at_target unaccepted t ≤ 1
    by_target (to_object o) = omega arith
    by_target (to_socket s) = by_flag s.accepted

counted_there : (x : Option Description) → 1 ≤ at_socket unaccepted x → is_some x ≡ true
counted_there None h = absurd (omega (arith, h))
counted_there (Some D) h = refl

-- it is there
waiting_there : (S : State) (d e : ℕ) (s : Socket) → IsSound S → socket_at S d ≡ Some s → slice_get (pending_ends s.phase) 0 ≡ Some e →
    is_some (description_at S e) ≡ true
waiting_there S d e s sound h first =
    let one = one_fewer S d e s h first in
    let waits = sound.held.ends_wait e in
    counted_there (description_at S e) (omega (arith, one, waits))

-- and waits nowhere else
waits_nowhere : (S : State) (d e : ℕ) (s : Socket) → IsSound S → socket_at S d ≡ Some s → slice_get (pending_ends s.phase) 0 ≡ Some e →
    ◌≡◌ {A = ℕ} (pends_at_all e (with_socket_by S d without_first_end).descriptions) 0
waits_nowhere S d e s sound h first =
    let one = one_fewer S d e s h first in
    let waits = sound.held.ends_wait e in
    let most = at_most_one (description_at S e) in
    omega (arith, one, waits, most)

fewer_pending : (k : ℕ) (p : Phase) → times k (pending_ends (phase_without_first_end p)) ≤ times k (pending_ends p)
fewer_pending k p = let s = phase_left k p in omega (arith, s)

first_taken : (S : State) (d : ℕ) (s : Socket) → KeepsSocket S d s (without_first_end s)
first_taken S d s = record {
  holds = λ k gone. let less = fewer_pending k s.phase in omega (arith, less);
  peer = peer_left s.phase;
  pending = λ k. fewer_pending k s.phase;
  waits = λ w. omega arith;
  flies = λ u limit are within. omega (arith, within);
  bounds = λ all own. own;
  named = λ a has. has;
}

-- one that waits nowhere may be accepted
accepted_keeps : (S : State) (e : ℕ) (flags : OpenFlags) (x : Option Description) → ◌≡◌ {A = ℕ} (pends_at_all e S.descriptions) 0 →
    KeepsPlace S e x (option_map (accepted_with flags) x)
accepted_keeps S e flags None none = nothing_there S e
accepted_keeps S e flags (Some D) none = kept_place S e D (accepted_with flags D) (by_target D.target)
  where
    by_target : (t : Target) → KeepsTarget S e t (changed_target as_accepted t)
    by_target (to_object o) = same_target S e (to_object o)
    by_target (to_socket s) = kept_socket S e s (as_accepted s)
        (record {
          holds = λ k gone. omega arith;
          peer = refl;
          pending = λ k. omega arith;
          waits =
              λ w. absurd (omega (arith, w, none));
          flies = λ u limit are within. omega (arith, within);
          bounds = λ all own. own;
          named =
              λ a has. has;
        })

-- a table changes no description
pub same_descriptions : (S : State) (p : ℕ) (table : List (Option Descriptor)) → (with_table S p table).descriptions ≡ S.descriptions
same_descriptions S p table = go p (process_at S p)
  where
    go : (p : ℕ) (x : Option Process) → (elim x as
        (λ _. State) [ Some P ↦ with_process S p (record P { table = table }) | None ↦ S ]).descriptions ≡ S.descriptions
    go p None = refl
    go zero (Some P) = refl
    go (suc i) (Some P) = refl

accepted_reached : (S : State) (p n d e : ℕ) (flags : OpenFlags) (s : Socket) → socket_at S d ≡ Some s →
    slice_get (pending_ends s.phase) 0 ≡ Some e →
    Reaches S tables_alone (with_accepted S (record { process = p; number = n; flags = flags; listener = d; oldest = e }))
accepted_reached S p n d e flags s h first =
    let T : State = with_table S p (filled (table_of S p) n (descriptor flags e)) in
    let U : State = with_socket_by T d without_first_end in
    let same : T.descriptions ≡ S.descriptions = same_descriptions S p (filled (table_of S p) n (descriptor flags e)) in
    description_changed e (option_map (accepted_with flags) (description_at U e))
    (with_socket_reached T d without_first_end
    (with_table_reached S p (filled (table_of S p) n (descriptor flags e)) still
    (λ sound. put_names S (table_of S p) (table_of S p) n (descriptor flags e) (waiting_there S d e s sound h first)
    (same_names S (table_of S p))))
    (λ sound t here. first_taken T d t))
    (λ sound. accepted_keeps U e flags (description_at U e)
    (ap (λ (ds : List (Option Description)). pends_at_all e
    (with_socket_by (record S { descriptions = ds }) d without_first_end).descriptions) same ∙ waits_nowhere S d e s sound h first))

accept_first_obeys : (S : State) (p n d : ℕ) (flags : OpenFlags) (s : Socket) (first : Option ℕ) → socket_at S d ≡ Some s →
    slice_get (pending_ends s.phase) 0 ≡ first → Call S (accept_first S p n d flags first)
accept_first_obeys S p n d flags s None h first = refuses refl refl
accept_first_obeys S p n d flags s (Some e) h first =
    answers refl refl refl (with_table_objects S p (filled (table_of S p) n (descriptor flags e)))
    (accepted_reached S p n d e flags s h first)

pub accept_obeys : (S : State) (p : ℕ) (fd : Fd) (flags : OpenFlags) → Call S (accept S p fd flags)
unfolding accept
accept_obeys S p fd flags = found_socket (Call S) S p fd _ (refuses refl refl) (refuses refl refl)
    (λ d s h. either (Call S) (is_dgram s.kind) _ _ (λ a. refuses refl refl)
    (λ a. either (Call S) (is_none (listener_of s.phase)) _ _ (λ b. refuses refl refl)
    (λ b. maybe (Call S) (lowest_free (table_of S p)) _ _ (refuses refl refl)
    (λ n low. accept_first_obeys S p n d flags s (slice_get (pending_ends s.phase) 0) h refl))))

-- ---- shutdown

shut_keeps : (S : State) (d : ℕ) (s : Socket) (how : Mode) → KeepsSocket S d s (shut_down how s)
shut_keeps S d s how = record {
  holds = λ k gone. omega arith;
  peer = refl;
  pending = λ k. omega arith;
  waits = λ w. omega arith;
  flies =
      λ u limit are within. omega (arith, within);
  bounds = λ all own. own;
  named = λ a has. has;
}

pub shutdown_obeys : (S : State) (p : ℕ) (fd : Fd) (how : Mode) → Call S (shutdown S p fd how)
unfolding shutdown
shutdown_obeys S p fd how = found_socket (Call S) S p fd _ (refuses refl refl) (refuses refl refl)
    (λ d s h. either (Call S) (is_none (tied_socket s.phase)) _ _ (λ b. refuses refl refl)
    (λ b. answers refl refl refl refl (with_socket_reached S d (shut_down how) still (λ sound t here. shut_keeps S d t how))))
