-- The rights in flight of a user without privileged processes stay within the limit of those, through the changes of calls, releases and
-- whole histories.
use Rattle.std.proofs.Common.{◌≡◌, ℕ, zero, suc, ◌+◌, ◌≤◌, Bool, true, false, List, [], ◌∷◌, ◌++◌, length, map, set, take, Option, Some}
use Rattle.std.proofs.Common.{None, refl, ap, sym, subst, ◌∙◌, arith, ◌⊎◌, inl, inr, ◌==◌, ◌&&◌, ◌||◌, not}
use Rattle.std.specs.Prelude.{sum_by, option_map, if◌then◌else◌}
use Rattle.std.specs.List.{slice_get, enumerate_from}
use Rattle.std.proofs.lemmas.Bool.{eqb-true, false≢true, and_parts}
use Rattle.std.proofs.lemmas.List.{length-map, take_all}
use Rattle.std.proofs.lemmas.List.Sums.{sum_by-cons, sum_by_push}
use Rattle.ux_model.specs.Types.{Cred, Request, Reply, Entry}
use Rattle.ux_model.specs.Socket.{Socket}
use Rattle.ux_model.specs.Description.{Description, Target, to_object, to_socket}
use Rattle.ux_model.specs.Process.{Process}
use Rattle.ux_model.specs.State.{State, process_at, description_at, with_socket_by, with_process, with_child, with_new}
use Rattle.ux_model.specs.Outcome.{Chosen}
use Rattle.ux_model.specs.Users.{may_become, keeps_privileges, with_ids, set_ids}
use Rattle.ux_model.specs.Forking.{child_of}
use Rattle.ux_model.specs.Connecting.{with_connection}
use Rattle.ux_model.specs.Closing.{with_nothing_open}
use Rattle.ux_model.specs.Release.{place_after_loss, without, drop_rounds, drop_all, drop_unreferenced, has_unreferenced, settled}
use Rattle.ux_model.proofs.Releasing.Losses.{description_after_loss, target_after_loss}
use Rattle.ux_model.specs.Flight.{flying_at, flying_in, in_flight}
use Rattle.ux_model.specs.Boot.{IsBootState}
use Rattle.ux_model.specs.Step.{Step, outcome}
use Rattle.ux_model.specs.History.{replay, IsLegal}
use Rattle.ux_model.specs.Pedigree.{before}
use Rattle.ux_model.specs.FlightLaws.{AreLimited, becomes, FlightIsLimited, FlightOfUsersIsLimited}
use Rattle.ux_model.proofs.Steps.ChangedIds.{Becomes, ids_chosen}
use Rattle.ux_model.proofs.Lists.ChangedPlaces.{bool_cases, rest_of}
use Rattle.ux_model.proofs.Lists.Induction.{take_past, take_next}
use Rattle.ux_model.proofs.Lists.OnePlace.{more_by}
use Rattle.ux_model.proofs.Messages.Flying.{nothing_flying, flying_changed}
use Rattle.ux_model.proofs.Changes.Sound.{IsSound}
use Rattle.ux_model.proofs.Changes.Reaching.{May, may_change, Reaches, still, process_changed, process_forked, description_made, peers_made}
use Rattle.ux_model.proofs.Changes.Reaching.{connection_made, description_changed, object_changed, paths_taken, path_bound, name_bound}
use Rattle.ux_model.proofs.Changes.Reaching.{object_made, path_made, turned_off, IsOfSameUser, KeepsPlace}
use Rattle.ux_model.proofs.Steps.Calls.{each_obeys, chosen_reached}
use Rattle.ux_model.proofs.Processes.Living.{settled_keeps}
use Rattle.ux_model.proofs.Invariants.Dangling.{keeps_sound}

abbrev KeepsTo : ℕ → Process → Type 0
KeepsTo limit P = (P.privileged ≡ false) × (length P.table ≤ limit)

-- What each process is, so that those of a user keep to a limit, stays where one of the same user has no more room for descriptors.
record Upholds (u limit : ℕ) (K : Process → Type 0) : Type 0 where
  limited : (P : Process) → K P → P.uid ≡ u → KeepsTo limit P
  shrinks : (P Q : Process) → length Q.table ≤ length P.table → IsOfSameUser P Q → K P → K Q

abbrev AllAre : (Process → Type 0) → State → Type 0
AllAre K S = (p : ℕ) (P : Process) → process_at S p ≡ Some P → K P

limits : (u limit : ℕ) (K : Process → Type 0) (S : State) → Upholds u limit K → AllAre K S → AreLimited S u limit
limits u limit K S up all p P there is = up.limited P (all p P there) is

-- each process is so, and the rights in flight of the user keep to the limit
abbrev IsWithin : (Process → Type 0) → ℕ → ℕ → State → Type 0
IsWithin K u limit S = AllAre K S × (in_flight S u ≤ limit)

-- ---- processes

same_are : (K : Process → Type 0) (S T : State) → T.processes ≡ S.processes → AllAre K S → AllAre K T
same_are K S T same are zero P h = absurd (cc h)
same_are K S T same are (suc i) P h = are (suc i) P (ap (λ (Ps : List Process). slice_get Ps i) (sym same) ∙ h)

-- what stands in a list where one is put in the place of another
either_of : (Ps : List Process) (i j : ℕ) (Q R : Process) → slice_get (set Ps i Q) j ≡ Some R → (slice_get Ps j ≡ Some R) ⊎ (Q ≡ R)
either_of [] i j Q R h = inl h
either_of (P ∷ Ps) zero zero Q R h = inr (cc h)
either_of (P ∷ Ps) zero (suc j) Q R h = inl h
either_of (P ∷ Ps) (suc i) zero Q R h = inl h
either_of (P ∷ Ps) (suc i) (suc j) Q R h = either_of Ps i j Q R h

-- one process becomes another
process_are : (K : Process → Type 0) (S : State) (i : ℕ) (Q : Process) → K Q → AllAre K S →
    AllAre K (record S { processes = set S.processes i Q })
process_are K S i Q new are zero R h = absurd (cc h)
process_are K S i Q new are (suc j) R h = go (either_of S.processes i j Q R h)
  where
    go : (slice_get S.processes j ≡ Some R) ⊎ (Q ≡ R) → K R
    go (inl old) = are (suc j) R old
    go (inr e) = subst K e new

process_within : (K : Process → Type 0) (u limit : ℕ) (S : State) (i : ℕ) (Q : Process) → K Q → IsWithin K u limit S →
    IsWithin K u limit (record S { processes = set S.processes i Q })
unfolding in_flight
process_within K u limit S i Q new w = (process_are K S i Q new w.0, w.1)

-- a copy of a process is what the process is
either_last : (Ps : List Process) (j : ℕ) (Q R : Process) → slice_get (Ps ++ Q ∷ []) j ≡ Some R → (slice_get Ps j ≡ Some R) ⊎ (Q ≡ R)
either_last [] zero Q R h = inr (cc h)
either_last [] (suc j) Q R h = absurd (cc h)
either_last (P ∷ Ps) zero Q R h = inl h
either_last (P ∷ Ps) (suc j) Q R h = either_last Ps j Q R h

child_within : (K : Process → Type 0) (u limit : ℕ) (S : State) (i : ℕ) (P : Process) → Upholds u limit K →
    slice_get S.processes i ≡ Some P → IsWithin K u limit S →
    IsWithin K u limit (with_child S (child_of P))
unfolding in_flight
child_within K u limit S i P up there w = (are, w.1)
  where
    are : AllAre K (with_child S (child_of P))
    are zero R h = absurd (cc h)
    are (suc j) R h = go (either_last S.processes j (child_of P) R h)
      where
        go : (slice_get S.processes j ≡ Some R) ⊎ (child_of P ≡ R) → K R
        go (inl old) = w.0 (suc j) R old
        go (inr e) = subst K e (up.shrinks P (child_of P) (omega arith) (record { user = refl; group = refl; privileged = refl })
            (w.0 (suc i) P there))

-- where all tables are emptied
turned_are : (u limit : ℕ) (K : Process → Type 0) (Ps : List Process) → Upholds u limit K →
    ((i : ℕ) (P : Process) → slice_get Ps i ≡ Some P → K P) →
    (i : ℕ) (R : Process) → slice_get (map with_nothing_open Ps) i ≡ Some R → K R
turned_are u limit K [] up are i R h = absurd (cc h)
turned_are u limit K (P ∷ Ps) up are zero R h =
    let e : with_nothing_open P ≡ R = cc h in
    let long : length (with_nothing_open P).table ≡ length P.table = length-map P.table _ in
    subst K e (up.shrinks P (with_nothing_open P) (omega (arith, long)) (record { user = refl; group = refl; privileged = refl })
    (are zero P refl))
turned_are u limit K (P ∷ Ps) up are (suc i) R h = turned_are u limit K Ps up (λ j Q there. are (suc j) Q there) i R h

-- ---- changes of the descriptions

-- no more in flight
fewer_within : (K : Process → Type 0) (u limit : ℕ) (S T : State) → T.processes ≡ S.processes → in_flight T u ≤ in_flight S u →
    IsWithin K u limit S → IsWithin K u limit T
fewer_within K u limit S T same less w = let low : in_flight S u ≤ limit = w.1 in (same_are K S T same w.0, omega (arith, less, low))

same_within : (K : Process → Type 0) (u limit : ℕ) (S T : State) → T.processes ≡ S.processes → T.descriptions ≡ S.descriptions →
    IsWithin K u limit S → IsWithin K u limit T
unfolding in_flight
same_within K u limit S T same alike w = let e : in_flight T u ≡ in_flight S u = ap (sum_by (flying_in u)) alike in
    fewer_within K u limit S T same (omega (arith, e)) w

-- a new description has none
made_within : (K : Process → Type 0) (u limit : ℕ) (S : State) (D : Description) → flying_at u D.target ≡ 0 → IsWithin K u limit S →
    IsWithin K u limit (with_new S D)
unfolding in_flight
made_within K u limit S D none w =
    let all = sum_by_push (flying_in u) S.descriptions (Some D) in
    let less : in_flight (with_new S D) u ≤ in_flight S u = omega (arith, all, none) in
    fewer_within K u limit S (with_new S D) refl less w

changed_within : (K : Process → Type 0) (u limit : ℕ) (S : State) (d : ℕ) (change : Socket → Socket) →
    ((s : Socket) → (change s).queue ≡ s.queue) → IsWithin K u limit S → IsWithin K u limit (with_socket_by S d change)
unfolding in_flight
changed_within K u limit S d change stays w =
    let all : in_flight (with_socket_by S d change) u ≡ in_flight S u = flying_changed u change stays S.descriptions d in
    fewer_within K u limit S (with_socket_by S d change) refl (omega (arith, all)) w

connected_within : (K : Process → Type 0) (u limit : ℕ) (S : State) (d l : ℕ) (cred listener_cred : Cred) (listener : Socket) →
    IsWithin K u limit S → IsWithin K u limit
    (with_connection S (record { client = d; client_cred = cred; listener = l; socket = listener; listener_cred = listener_cred }))
connected_within K u limit S d l cred listener_cred listener w =
    changed_within K u limit _ d _ (λ s. refl) (made_within K u limit _ _ refl (changed_within K u limit S l _ (λ s. refl) w))

-- in one place there are no more than all together may be
changed_place_within : (K : Process → Type 0) (u limit : ℕ) (S : State) (d : ℕ) (x : Option Description) → Upholds u limit K →
    KeepsPlace S d (description_at S d) x → IsWithin K u limit S →
    IsWithin K u limit (record S { descriptions = set S.descriptions d x })
unfolding in_flight
changed_place_within K u limit S d x up keeps w =
    let low : in_flight S u ≤ limit = w.1 in
    let fits : in_flight S u + flying_in u x ≤ limit + flying_in u (description_at S d) =
    keeps.flies u limit (limits u limit K S up w.0) low in
    let room = rest_of (in_flight S u) limit low in
    let is : in_flight S u + room.0 ≡ limit = room.1 in
    let more : flying_in u x ≤ flying_in u (description_at S d) + room.0 = omega (arith, fits, is) in
    let all = more_by (flying_in u) S.descriptions d room.0 x more in
    (same_are K S (record S { descriptions = set S.descriptions d x }) refl w.0, omega (arith, all, is))

-- where everything goes
nothing_left : (u : ℕ) (ds : List (Option Description)) → sum_by (flying_in u) (map (λ D. None) ds) ≡ 0
nothing_left u [] = refl
nothing_left u (x ∷ ds) = let all = sum_by-cons (flying_in u) None (map (λ D. None) ds) in let rest = nothing_left u ds in
    omega (arith, all, rest)

turned_within : (K : Process → Type 0) (u limit : ℕ) (S : State) → Upholds u limit K → IsWithin K u limit S →
    IsWithin K u limit (record S {
      descriptions = map (λ D. None) S.descriptions;
      processes = map with_nothing_open S.processes;
      paths =
          [];
      abstract_names = [];
    })
unfolding in_flight
turned_within K u limit S up w = (are, let none = nothing_left u S.descriptions in omega (arith, none))
  where
    are : AllAre K (record S {
      descriptions = map (λ D. None) S.descriptions;
      processes = map with_nothing_open S.processes;
      paths =
          [];
      abstract_names = [];
    })
    are zero R h = absurd (cc h)
    are (suc i) R h = turned_are u limit K S.processes up (λ j P there. w.0 (suc j) P there) i R h

-- ---- a call that leaves who its process runs as

reached_within : (K : Process → Type 0) (u limit : ℕ) (S : State) (may : May) (T : State) → Upholds u limit K → may.users ≡ false →
    IsSound S → IsWithin K u limit S → Reaches S may T → IsWithin K u limit T
reached_within K u limit S may T up stay sound w still = w
reached_within K u limit S may T up stay sound w (process_changed {T = U} i P Q r h names kept same) =
    let before = reached_within K u limit S may U up stay sound w r in
    process_within K u limit U i Q (up.shrinks P Q (names sound).long (same stay) (before.0 (suc i) P h)) before
reached_within K u limit S may T up stay sound w (process_forked {T = U} i P r h makes) =
    child_within K u limit U i P up h (reached_within K u limit S may U up stay sound w r)
reached_within K u limit S may T up stay sound w (object_made {T = U} body r makes) =
    same_within K u limit U _ refl refl (reached_within K u limit S may U up stay sound w r)
reached_within K u limit S may T up stay sound w (description_made {T = U} D r leads nothing bounds) =
    made_within K u limit U D (nothing_flying u D.target nothing.refs) (reached_within K u limit S may U up stay sound w r)
reached_within K u limit S may T up stay sound w (peers_made {T = U} D E r peers) =
    made_within K u limit _ E (nothing_flying u E.target peers.second_refs)
    (made_within K u limit U D (nothing_flying u D.target peers.first_refs) (reached_within K u limit S may U up stay sound w r))
reached_within K u limit S may T up stay sound w (connection_made {T = U} d l cred listener_cred s listener r client free there) =
    connected_within K u limit U d l cred listener_cred listener (reached_within K u limit S may U up stay sound w r)
reached_within K u limit S may T up stay sound w (description_changed {T = U} d x r keeps) =
    changed_place_within K u limit U d x up (keeps sound) (reached_within K u limit S may U up stay sound w r)
reached_within K u limit S may T up stay sound w (object_changed {T = U} o old new r h same told) =
    same_within K u limit U _ refl refl (reached_within K u limit S may U up stay sound w r)
reached_within K u limit S may T up stay sound w (paths_taken {T = U} keep r told) =
    same_within K u limit U _ refl refl (reached_within K u limit S may U up stay sound w r)
reached_within K u limit S may T up stay sound w (path_made {T = U} name o r there told) =
    same_within K u limit U _ refl refl (reached_within K u limit S may U up stay sound w r)
reached_within K u limit S may T up stay sound w (path_bound {T = U} name d r told) =
    same_within K u limit U _ refl refl (reached_within K u limit S may U up stay sound w r)
reached_within K u limit S may T up stay sound w (name_bound {T = U} name d r shown told) =
    same_within K u limit U _ refl refl (reached_within K u limit S may U up stay sound w r)
reached_within K u limit S may T up stay sound w (turned_off {T = U} r told more) =
    turned_within K u limit U up (reached_within K u limit S may U up stay sound w r)

-- ---- what is released

target_left : (u : ℕ) (gone : ℕ → Bool) (S : State) (t : Target) → flying_at u (target_after_loss gone S t) ≡ flying_at u t
target_left u gone S (to_object o) = refl
target_left u gone S (to_socket s) = refl

place_left : (u : ℕ) (gone : ℕ → Bool) (S : State) (i : ℕ) (x : Option Description) →
    flying_in u (place_after_loss gone S (i, x)) ≤ flying_in u x
place_left u gone S i x = go (gone i) x
  where
    go : (b : Bool) (x : Option Description) →
        flying_in u (if◌then◌else◌ {A = Option Description} b None (option_map (description_after_loss gone S) x)) ≤ flying_in u x
    go true x = omega arith
    go false None = omega arith
    go false (Some D) = let same = target_left u gone S D.target in omega (arith, same)

all_left : (u : ℕ) (gone : ℕ → Bool) (S : State) (i : ℕ) (ds : List (Option Description)) →
    sum_by (flying_in u) (map (place_after_loss gone S) (enumerate_from i ds)) ≤ sum_by (flying_in u) ds
all_left u gone S i [] = omega arith
all_left u gone S i (x ∷ ds) =
    let new = sum_by-cons (flying_in u) (place_after_loss gone S (i, x)) (map (place_after_loss gone S) (enumerate_from (i + 1) ds)) in
    let old = sum_by-cons (flying_in u) x ds in
    let first = place_left u gone S i x in
    let rest = all_left u gone S (i + 1) ds in
    omega (arith, new, old, first, rest)

without_left : (u : ℕ) (gone : ℕ → Bool) (S : State) → in_flight (without gone S) u ≤ in_flight S u
unfolding in_flight without
without_left u gone S = all_left u gone S 0 S.descriptions

rounds_left : (u n : ℕ) (S : State) → in_flight (drop_rounds n S) u ≤ in_flight S u
unfolding drop_rounds
rounds_left u zero S = omega arith
rounds_left u (suc n) S = go (has_unreferenced S) (rounds_left u n (drop_all S)) (without_left u _ S)
  where
    go : (b : Bool) → in_flight (drop_rounds n (drop_all S)) u ≤ in_flight (drop_all S) u → in_flight (drop_all S) u ≤ in_flight S u →
        in_flight (elim b as (λ _. State) [ true ↦ drop_rounds n (drop_all S) | false ↦ S ]) u ≤ in_flight S u
    go true later first = omega (arith, later, first)
    go false later first = omega arith

settled_within : (K : Process → Type 0) (u limit : ℕ) (S : State) → IsWithin K u limit S → IsWithin K u limit (settled S)
unfolding settled drop_unreferenced
settled_within K u limit S w =
    let n : ℕ = length S.descriptions in
    same_within K u limit (drop_rounds n S) _ refl refl
    (fewer_within K u limit S (drop_rounds n S) (settled_keeps n S) (rounds_left u n S) w)

-- ---- a change of ids

-- where what its process is stays, so does it where the process has the new ids
ids_within : (K : Process → Type 0) (u limit : ℕ) (S T : State) (p uid gid : ℕ) (reply : Reply) →
    ((P : Process) → process_at S p ≡ Some P → may_become uid gid P ≡ true → reply ≡ Reply.Ok → K P → K (with_ids uid gid P)) →
    Chosen S (set_ids S p uid gid) reply T → IsWithin K u limit S → IsWithin K u limit T
ids_within K u limit S T p uid gid reply becomes c w = go (ids_chosen S T p uid gid reply c)
  where
    changed : (n : ℕ) (P : Process) → process_at S n ≡ Some P → K (with_ids uid gid P) →
        IsWithin K u limit (with_process S n (with_ids uid gid P))
    changed zero P h new = absurd (cc h)
    changed (suc i) P h new = process_within K u limit S i (with_ids uid gid P) new w

    go : (T ≡ S) ⊎ Becomes S p uid gid reply T → IsWithin K u limit T
    go (inl same) = subst (IsWithin K u limit) (sym same) w
    go (inr b) = subst (IsWithin K u limit) (sym b.next)
        (changed p b.process b.there (becomes b.process b.there b.may b.done (w.0 p b.process b.there)))

-- ---- over a history

-- what a call leaves of its process where it changes its ids
abbrev LeavesSo : (Process → Type 0) → State → Entry → Type 0
LeavesSo K S e = (P : Process) (uid gid : ℕ) → process_at S e.pid.0 ≡ Some P → e.request ≡ Request.SetIds uid gid → e.reply ≡ Reply.Ok →
    may_become uid gid P ≡ true → K P →
    K (with_ids uid gid P)

chosen_within : (K : Process → Type 0) (u limit tag : ℕ) (e : Entry) (S T : State) → Upholds u limit K → LeavesSo K S e → IsSound S →
    IsWithin K u limit S →
    Chosen S (outcome S e.pid.0 tag e.request) e.reply T → IsWithin K u limit T
unfolding outcome
chosen_within K u limit tag e S T up leaves sound w c = go e.request refl c
  where
    by_changes : (request : Request) → (may_change request).users ≡ false → Chosen S (outcome S e.pid.0 tag request) e.reply T →
        IsWithin K u limit T
    by_changes request stay chosen =
        reached_within K u limit S (may_change request) T up stay sound w
        (chosen_reached S T _ _ e.reply (each_obeys S e.pid.0 tag request) chosen)

    go : (request : Request) → e.request ≡ request → Chosen S (outcome S e.pid.0 tag request) e.reply T → IsWithin K u limit T
    go (Request.SetIds uid gid) is chosen =
        ids_within K u limit S T e.pid.0 uid gid e.reply (λ P there may done held. leaves P uid gid there is done may held) chosen w
    go request is chosen = by_changes request refl chosen

step_within : (K : Process → Type 0) (u limit tag : ℕ) (e : Entry) (S T : State) → Upholds u limit K → LeavesSo K S e → IsSound S →
    IsWithin K u limit S →
    Step S e.pid.0 tag e.request e.reply e.released T → IsWithin K u limit T
unfolding Step
step_within K u limit tag e S T up leaves sound w s =
    subst (IsWithin K u limit) (sym s.3) (settled_within K u limit s.0 (chosen_within K u limit tag e S s.0 up leaves sound w s.1))

boot_flight : (u : ℕ) (boot : State) → IsBootState boot → in_flight boot u ≡ 0
unfolding in_flight
boot_flight u boot boots = ap (sum_by (flying_in u)) boots.no_descriptions

-- so far into a history of which each call leaves it so
throughout : (K : Process → Type 0) (u limit : ℕ) (boot : State) (es : List Entry) → Upholds u limit K → IsLegal boot es → AllAre K boot →
    ((j : ℕ) (e : Entry) → slice_get es j ≡ Some e → LeavesSo K (before boot es j) e) → (n : ℕ) →
    IsSound (before boot es n) × IsWithin K u limit (before boot es n)
throughout K u limit boot es up legal are leaves zero =
    ((keeps_sound boot).at_boot legal.boots, (are, let none = boot_flight u boot legal.boots in omega (arith, none)))
throughout K u limit boot es up legal are leaves (suc n) = go (slice_get es n) refl (throughout K u limit boot es up legal are leaves n)
  where
    Holds : List Entry → Type 0
    Holds l = IsSound (replay boot l) × IsWithin K u limit (replay boot l)

    go : (o : Option Entry) → slice_get es n ≡ o → Holds (take n es) → Holds (take (suc n) es)
    go None h so_far = subst Holds (sym (take_past es n h)) so_far
    go (Some e) h so_far =
        let may = legal.each n e h in
        subst Holds (sym (take_next es n e h)) (
          (keeps_sound boot).by_entry (take n es) e (replay boot (take n es)) (replay boot (take n es ++ e ∷ [])) so_far.0 may.steps
              may.allowed,
          step_within K u limit (length (take n es)) e (replay boot (take n es)) (replay boot (take n es ++ e ∷ [])) up (leaves n e h)
              so_far.0 so_far.1 may.steps,
        )

at_the_end : (K : Process → Type 0) (u limit : ℕ) (boot : State) (es : List Entry) → Upholds u limit K → IsLegal boot es → AllAre K boot →
    ((j : ℕ) (e : Entry) → slice_get es j ≡ Some e → LeavesSo K (before boot es j) e) → in_flight (replay boot es) u ≤ limit
at_the_end K u limit boot es up legal are leaves =
    subst (λ (l : List Entry). in_flight (replay boot l) u ≤ limit) (take_all (length es) es (omega arith))
    (throughout K u limit boot es up legal are leaves (length es)).1.1

-- ---- the laws

-- of one user: a process that isn't privileged has the ids that it may become
pub flight_is_limited : FlightIsLimited
flight_is_limited boot es u limit legal are none = at_the_end Own u limit boot es upheld legal are left
  where
    Own : Process → Type 0
    Own P = P.uid ≡ u → KeepsTo limit P

    upheld : Upholds u limit Own
    upheld = record {
      limited = λ P held is. held is;
      shrinks = λ P Q long same held is. let old = held (sym same.user ∙ is) in let low : length P.table ≤ limit = old.1 in
          (same.privileged ∙ old.0, omega (arith, low, long));
    }

    left : (j : ℕ) (e : Entry) → slice_get es j ≡ Some e → LeavesSo Own (before boot es j) e
    left j e at P uid gid there asks done may held is = go P.privileged refl
      where
        go : (b : Bool) → P.privileged ≡ b → KeepsTo limit (with_ids uid gid P)
        go true privileged =
            let new : becomes e.request e.reply ≡ Some uid = ap (λ r. becomes r e.reply) asks
            ∙ ap (becomes (Request.SetIds uid gid)) done in
            absurd (none j e P at there privileged (new ∙ ap Some is))
        go false plain =
            let own_ids : ((P.uid == uid) && (P.gid == gid)) ≡ true = sym (ap (λ b. b || ((P.uid == uid) && (P.gid == gid))) plain) ∙ may in
            let same : P.uid ≡ uid = eqb-true P.uid uid (and_parts (P.uid == uid) (P.gid == gid) own_ids).0 in
            let old = held (same ∙ is) in
            (ap (λ b. b && ((uid == 0) || not (P.uid == 0))) plain, old.1)

-- of all users but 0: a privileged process of user 0 has lost its privileges where it is another's
pub flight_of_users_is_limited : FlightOfUsersIsLimited
flight_of_users_is_limited boot es u limit legal are other = at_the_end Few u limit boot es upheld legal are left
  where
    Few : Process → Type 0
    Few P = (P.privileged ≡ true → P.uid ≡ 0) × (length P.table ≤ limit)

    upheld : Upholds u limit Few
    upheld = record { limited = limited; shrinks = shrinks }
      where
        limited : (P : Process) → Few P → P.uid ≡ u → KeepsTo limit P
        limited P few is = (bool_cases P.privileged (λ is_so. absurd (other (sym is ∙ few.0 is_so))) (λ isnt. isnt), few.1)

        shrinks : (P Q : Process) → length Q.table ≤ length P.table → IsOfSameUser P Q → Few P → Few Q
        shrinks P Q long same few = let low : length P.table ≤ limit = few.1 in
            (λ is_so. same.user ∙ few.0 (sym same.privileged ∙ is_so), omega (arith, low, long))

    left : (j : ℕ) (e : Entry) → slice_get es j ≡ Some e → LeavesSo Few (before boot es j) e
    left j e at P uid gid there asks done may few = (root, few.1)
      where
        root : keeps_privileges uid P ≡ true → uid ≡ 0
        root is_so =
            let parts = and_parts P.privileged ((uid == 0) || not (P.uid == 0)) is_so in
            let was : P.uid ≡ 0 = few.0 parts.0 in
            bool_cases (uid == 0) (λ e. eqb-true uid 0 e)
            (λ n. absurd (false≢true (sym (ap (λ b. b || not (P.uid == 0)) n ∙ ap (λ (k : ℕ). not (k == 0)) was) ∙ parts.1)))
