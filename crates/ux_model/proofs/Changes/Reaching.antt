-- What a call may do to a state, part by part: each call's next state comes of its first by such changes. What each of these changes
-- keeps, every call keeps; and what a call may not change (`May`), it leaves. A call that changes what none of these do brings a further
-- one, which owes a line of `wider`, `objects_stay`, `paths_stay` and `names_stay` (here), of `exits_kept` (Living), of `reached_sound`
-- (ReachedSound), of `reached_there` (Closed), of `reached_as_many` (MadeObjects), of `reached_within` (FlightLaws), of `reached_bounded`
-- (StaysBounded) and of `reached_small` (SmallTables).
use Rattle.std.proofs.Common.{◌≡◌, ℕ, zero, suc, ◌+◌, ◌≤◌, ◌<◌, ◌==◌, Bool, true, false, cond, if◌then◌else◌, List, [], ◌∷◌, ◌++◌, length}
use Rattle.std.proofs.Common.{map, set, Option, Some, None, refl, ap, sym, subst, ◌∙◌, arith}
use Rattle.std.specs.Prelude.{is_some, filter, option_map}
use Rattle.std.specs.List.{slice_get}
use Rattle.std.proofs.lemmas.Bool.{eqb-true}
use Rattle.std.proofs.lemmas.List.{length-set, length-map}
use Rattle.std.proofs.lemmas.List.Sums.{sum_by-cons}
use Rattle.ux_model.specs.Types.{Cred, Name, Addr, Request}
use Rattle.ux_model.specs.Places.{place, filled, emptied}
use Rattle.ux_model.specs.Object.{Body, View}
use Rattle.ux_model.specs.Names.{PathTarget, bound}
use Rattle.ux_model.specs.Message.{Message}
use Rattle.ux_model.specs.Socket.{Socket, peer_of}
use Rattle.ux_model.specs.Description.{Description, Target, to_object, to_socket, socket_of, socket_in, changed, changed_target}
use Rattle.ux_model.specs.Process.{Process, Descriptor, kept_on_exec}
use Rattle.ux_model.specs.State.{State, description_at, socket_at, process_at, table_of, with_object, with_description, with_socket_by}
use Rattle.ux_model.specs.State.{with_process, with_table, with_child, with_new}
use Rattle.ux_model.specs.References.{names_description, table_refs, queue_refs, socket_refs, target_refs, description_refs, leads_to}
use Rattle.ux_model.specs.References.{is_open_of}
use Rattle.ux_model.specs.Peers.{target_peer, peer_in, at_target, at_socket, HoldsNothing}
use Rattle.ux_model.specs.Flight.{rights_sent_by, flying_at, flying_in, in_flight}
use Rattle.ux_model.specs.FlightLaws.{AreLimited}
use Rattle.ux_model.specs.Making.{with_made, with_path}
use Rattle.ux_model.specs.Connecting.{with_connection}
use Rattle.ux_model.specs.Closing.{with_nothing_open}
use Rattle.ux_model.specs.Users.{with_ids}
use Rattle.ux_model.specs.Forking.{child_of}
use Rattle.ux_model.specs.Invariants.{pends, pends_at_all}
use Rattle.ux_model.proofs.Changes.Named.{table_in}
use Rattle.ux_model.proofs.Changes.Sound.{IsSound, unaccepted, target_name, name_in}
use Rattle.ux_model.proofs.Changes.Bounds.{HasBounds, IsBounded, IsBoundedTarget, IsBoundedPlace, AreBounded}

-- the new table has no more places than the old one, and no more entries for a description that isn't there
pub record NamesWhatIsThere (S : State) (old new : List (Option Descriptor)) : Type 0 where
  pub counts : (d : ℕ) → is_some (description_at S d) ≡ false → table_refs d new ≤ table_refs d old
  pub long : length new ≤ length old

-- What a call may change beside descriptions and its process's table. A law on what stays asks for the part that it is about.
pub record May : Type 0 where
  -- who lives: it may end a process, or make one
  pub lives : Bool
  -- who its process runs as
  pub users : Bool
  -- it may make a file object
  pub objects : Bool
  -- what is in a file object
  pub files : Bool
  -- what paths lead to, and which there are
  pub paths : Bool
  -- the same of the abstract namespace
  pub names : Bool

abbrev pub tables_alone : May
tables_alone = record { lives = false; users = false; objects = false; files = false; paths = false; names = false }

abbrev pub lives_too : May
lives_too = record tables_alone { lives = true }

abbrev pub users_too : May
users_too = record tables_alone { users = true }

abbrev pub objects_too : May
objects_too = record tables_alone { objects = true }

-- create makes an object and its path
abbrev pub files_made : May
files_made = record tables_alone { objects = true; paths = true }

abbrev pub files_too : May
files_too = record tables_alone { files = true }

abbrev pub paths_too : May
paths_too = record tables_alone { paths = true }

abbrev pub names_too : May
names_too = record tables_alone { names = true }

-- bind gives a name of either kind, and the end of the layer takes all
abbrev pub bindings_too : May
bindings_too = record tables_alone { paths = true; names = true }

-- a process stays one of the same user and group, privileged as before
pub record IsOfSameUser (P Q : Process) : Type 0 where
  pub user : Q.uid ≡ P.uid
  pub group : Q.gid ≡ P.gid
  pub privileged : Q.privileged ≡ P.privileged

-- Of one place: from so many rights in flight to so many others, by user, so that all together stay within each limit of the processes.
abbrev pub StaysWithin : State → (ℕ → ℕ) → (ℕ → ℕ) → Type 0
StaysWithin S old new = (u limit : ℕ) → AreLimited S u limit → in_flight S u ≤ limit → in_flight S u + new u ≤ limit + old u

-- Of what stands at a place before and after: it leads where it led, keeps an abstract name that it has, and refers to what is there.
pub record KeepsReferences (S : State) (old new : Option Description) : Type 0 where
  pub held : is_some new ≡ is_some old
  pub leads : (o : ℕ) → is_open_of o new ≡ is_open_of o old
  pub holds : (d : ℕ) → is_some (description_at S d) ≡ false → description_refs d new ≤ description_refs d old
  pub named : (name : Name) → name_in old ≡ Some (Addr.Abstract name) → name_in new ≡ Some (Addr.Abstract name)

-- And of place n: it has the same peer, no more ends wait at it, and no more rights than may be; while it waits for accept itself, none has
-- taken it; and it keeps to the limits of its name and of what waits in its queue.
pub record KeepsPlace (S : State) (n : ℕ) (old new : Option Description) : Type 0 where
  pub references : KeepsReferences S old new
  pub peer : peer_in new ≡ peer_in old
  pub pending : (d : ℕ) → at_socket (pends d) new ≤ at_socket (pends d) old
  pub waits : 0 < pends_at_all n S.descriptions → at_socket unaccepted old ≤ at_socket unaccepted new
  pub flies : StaysWithin S (λ u. flying_in u old) (λ u. flying_in u new)
  pub bounds : AreBounded S → IsBoundedPlace old → IsBoundedPlace new

-- two new descriptions of sockets that are connected to one another, where the first gets number d
pub record ArePeers (d : ℕ) (D E : Description) : Type 0 where
  pub first_refs : (n : ℕ) → ◌≡◌ {A = ℕ} (target_refs n D.target) 0
  pub second_refs : (n : ℕ) → ◌≡◌ {A = ℕ} (target_refs n E.target) 0
  pub first_peer : target_peer D.target ≡ Some (d + 1)
  pub second_peer : target_peer E.target ≡ Some d
  pub first_bounds : IsBoundedTarget D.target
  pub second_bounds : IsBoundedTarget E.target

-- where a description leads to a file object, that is there
abbrev pub LeadsToThere : State → Description → Type 0
LeadsToThere S D = (o : ℕ) → leads_to o D.target ≡ true → is_some (place S.objects o) ≡ true

-- T comes of S by changes of one part each. A condition may use that nothing dangles in S.
pub data Reaches (S : State) (may : May) : State → Type 0 where
  still : Reaches S may S
  -- a process changes, and its table names what is there
  process_changed : {T : State} (i : ℕ) (P Q : Process) → Reaches S may T → slice_get T.processes i ≡ Some P →
      (IsSound S → NamesWhatIsThere T P.table Q.table) →
      (may.lives ≡ false → Q.exited ≡ P.exited) → (may.users ≡ false → IsOfSameUser P Q) →
      Reaches S may (record T { processes = set T.processes i Q })
  -- a copy of a process comes to be
  process_forked : {T : State} (i : ℕ) (P : Process) → Reaches S may T → slice_get T.processes i ≡ Some P → may.lives ≡ true →
      Reaches S may (with_child T (child_of P))
  -- a file object is made
  object_made : {T : State} (body : Body) → Reaches S may T → may.objects ≡ true → Reaches S may (with_made T body)
  -- a new description refers to nothing, and leads to a file object that is there, or to a socket without a peer
  description_made : {T : State} (D : Description) → Reaches S may T → (IsSound S → LeadsToThere T D) → HoldsNothing D →
      IsBoundedTarget D.target →
      Reaches S may (with_new T D)
  -- two sockets that are connected to one another
  peers_made : {T : State} (D E : Description) → Reaches S may T → ArePeers (length T.descriptions) D E →
      Reaches S may (with_new (with_new T D) E)
  -- a socket without a peer is connected to a new end, which waits at another
  connection_made : {T : State} (d l : ℕ) (cred listener_cred : Cred) (s listener : Socket) → Reaches S may T → socket_at T d ≡ Some s →
      peer_of s.phase ≡ None →
      socket_at T l ≡ Some listener → Reaches S may
      (with_connection T (record { client = d; client_cred = cred; listener = l; socket = listener; listener_cred = listener_cred }))
  -- what stands in one place changes
  description_changed : {T : State} (d : ℕ) (x : Option Description) → Reaches S may T →
      (IsSound S → KeepsPlace T d (description_at T d) x) →
      Reaches S may (record T { descriptions = set T.descriptions d x })
  -- a file object that is there changes, and stays open
  object_changed : {T : State} (o : ℕ) (old new : View) → Reaches S may T → place T.objects o ≡ Some old → new.opened ≡ old.opened →
      may.files ≡ true → Reaches S may (with_object T o new)
  -- paths are taken away
  paths_taken : {T : State} (keep : Name × PathTarget → Bool) → Reaches S may T → may.paths ≡ true →
      Reaches S may (record T { paths = filter keep T.paths })
  -- a path leads to a file object that is there
  path_made : {T : State} (name : Name) (o : ℕ) → Reaches S may T → is_some (place T.objects o) ≡ true → may.paths ≡ true →
      Reaches S may (with_path T name o)
  -- a path leads to a socket
  path_bound : {T : State} (name : Name) (d : ℕ) → Reaches S may T → may.paths ≡ true →
      Reaches S may (record T { paths = T.paths ++ (name, bound d) ∷ [] })
  -- a name of the abstract namespace leads to a socket that shows it
  name_bound : {T : State} (name : Name) (d : ℕ) → Reaches S may T → name_in (description_at T d) ≡ Some (Addr.Abstract name) →
      may.names ≡ true → Reaches S may (record T { abstract_names = T.abstract_names ++ (name, d) ∷ [] })
  -- everything goes but the file objects
  turned_off : {T : State} → Reaches S may T → may.paths ≡ true → may.names ≡ true →
      Reaches S may (record T {
        descriptions = map (λ D. None) T.descriptions;
        processes = map with_nothing_open T.processes;
        paths =
            [];
        abstract_names = [];
      })

-- What changes tables and descriptions alone is allowed to any call.
pub wider : (S : State) (may : May) (T : State) → Reaches S tables_alone T → Reaches S may T
wider S may T still = still
wider S may T (process_changed {T = U} i P Q r h names lives users) =
    process_changed i P Q (wider S may U r) h names (λ k. lives refl) (λ k. users refl)
wider S may T (process_forked {T = U} i P r h makes) = absurd (cc makes)
wider S may T (object_made {T = U} body r makes) = absurd (cc makes)
wider S may T (description_made {T = U} D r there holds bounds) = description_made D (wider S may U r) there holds bounds
wider S may T (peers_made {T = U} D E r peers) = peers_made D E (wider S may U r) peers
wider S may T (connection_made {T = U} d l cred listener_cred s listener r h alone k) =
    connection_made d l cred listener_cred s listener (wider S may U r) h alone k
wider S may T (description_changed {T = U} d x r keeps) = description_changed d x (wider S may U r) keeps
wider S may T (object_changed {T = U} o old new r h same told) = absurd (cc told)
wider S may T (paths_taken {T = U} keep r told) = absurd (cc told)
wider S may T (path_made {T = U} name o r there told) = absurd (cc told)
wider S may T (path_bound {T = U} name d r told) = absurd (cc told)
wider S may T (name_bound {T = U} name d r shown told) = absurd (cc told)
wider S may T (turned_off {T = U} r told more) = absurd (cc told)

-- What a call may not change stays.
pub objects_stay : (S : State) (may : May) (T : State) → may.objects ≡ false → may.files ≡ false → Reaches S may T → T.objects ≡ S.objects
objects_stay S may T made files still = refl
objects_stay S may T made files (process_changed {T = U} i P Q r h names lives users) = objects_stay S may U made files r
objects_stay S may T made files (process_forked {T = U} i P r h makes) = objects_stay S may U made files r
objects_stay S may T made files (object_made {T = U} body r makes) = absurd (cc (makes, made))
objects_stay S may T made files (description_made {T = U} D r there holds bounds) = objects_stay S may U made files r
objects_stay S may T made files (peers_made {T = U} D E r peers) = objects_stay S may U made files r
objects_stay S may T made files (connection_made {T = U} d l cred listener_cred s listener r h alone k) =
    objects_stay S may U made files r
objects_stay S may T made files (description_changed {T = U} d x r keeps) = objects_stay S may U made files r
objects_stay S may T made files (object_changed {T = U} o old new r h same told) = absurd (cc (told, files))
objects_stay S may T made files (paths_taken {T = U} keep r told) = objects_stay S may U made files r
objects_stay S may T made files (path_made {T = U} name o r there told) = objects_stay S may U made files r
objects_stay S may T made files (path_bound {T = U} name d r told) = objects_stay S may U made files r
objects_stay S may T made files (name_bound {T = U} name d r shown told) = objects_stay S may U made files r
objects_stay S may T made files (turned_off {T = U} r told more) = objects_stay S may U made files r

pub paths_stay : (S : State) (may : May) (T : State) → may.paths ≡ false → Reaches S may T → T.paths ≡ S.paths
paths_stay S may T calm still = refl
paths_stay S may T calm (process_changed {T = U} i P Q r h names lives users) = paths_stay S may U calm r
paths_stay S may T calm (process_forked {T = U} i P r h makes) = paths_stay S may U calm r
paths_stay S may T calm (object_made {T = U} body r makes) = paths_stay S may U calm r
paths_stay S may T calm (description_made {T = U} D r there holds bounds) = paths_stay S may U calm r
paths_stay S may T calm (peers_made {T = U} D E r peers) = paths_stay S may U calm r
paths_stay S may T calm (connection_made {T = U} d l cred listener_cred s listener r h alone k) = paths_stay S may U calm r
paths_stay S may T calm (description_changed {T = U} d x r keeps) = paths_stay S may U calm r
paths_stay S may T calm (object_changed {T = U} o old new r h same told) = paths_stay S may U calm r
paths_stay S may T calm (paths_taken {T = U} keep r told) = absurd (cc (told, calm))
paths_stay S may T calm (path_made {T = U} name o r there told) = absurd (cc (told, calm))
paths_stay S may T calm (path_bound {T = U} name d r told) = absurd (cc (told, calm))
paths_stay S may T calm (name_bound {T = U} name d r shown told) = paths_stay S may U calm r
paths_stay S may T calm (turned_off {T = U} r told more) = absurd (cc (told, calm))

pub names_stay : (S : State) (may : May) (T : State) → may.names ≡ false → Reaches S may T → T.abstract_names ≡ S.abstract_names
names_stay S may T calm still = refl
names_stay S may T calm (process_changed {T = U} i P Q r h names lives users) = names_stay S may U calm r
names_stay S may T calm (process_forked {T = U} i P r h makes) = names_stay S may U calm r
names_stay S may T calm (object_made {T = U} body r makes) = names_stay S may U calm r
names_stay S may T calm (description_made {T = U} D r there holds bounds) = names_stay S may U calm r
names_stay S may T calm (peers_made {T = U} D E r peers) = names_stay S may U calm r
names_stay S may T calm (connection_made {T = U} d l cred listener_cred s listener r h alone k) = names_stay S may U calm r
names_stay S may T calm (description_changed {T = U} d x r keeps) = names_stay S may U calm r
names_stay S may T calm (object_changed {T = U} o old new r h same told) = names_stay S may U calm r
names_stay S may T calm (paths_taken {T = U} keep r told) = names_stay S may U calm r
names_stay S may T calm (path_made {T = U} name o r there told) = names_stay S may U calm r
names_stay S may T calm (path_bound {T = U} name d r told) = names_stay S may U calm r
names_stay S may T calm (name_bound {T = U} name d r shown told) = absurd (cc (told, calm))
names_stay S may T calm (turned_off {T = U} r told more) = absurd (cc (more, calm))

-- ---- tables

-- what one place counts
abbrev one : ℕ → Option Descriptor → ℕ
one d e = cond (names_description d e) 1 0

filled_counts : (d : ℕ) (table : List (Option Descriptor)) (n : ℕ) (e : Descriptor) →
    table_refs d (filled table n e) ≤ table_refs d table + one d (Some e)
filled_counts d [] n e = omega arith
filled_counts d (x ∷ xs) zero e =
    let new = sum_by-cons (one d) (Some e) xs in
    let old = sum_by-cons (one d) x xs in
    omega (arith, new, old)
filled_counts d (x ∷ xs) (suc n) e =
    let new = sum_by-cons (one d) x (filled xs n e) in
    let old = sum_by-cons (one d) x xs in
    let rest = filled_counts d xs n e in
    omega (arith, new, old, rest)

emptied_counts : (d : ℕ) (table : List (Option Descriptor)) (n : ℕ) → table_refs d (emptied table n) ≤ table_refs d table
emptied_counts d [] n = omega arith
emptied_counts d (x ∷ xs) zero =
    let new = sum_by-cons (one d) None xs in
    let old = sum_by-cons (one d) x xs in
    omega (arith, new, old)
emptied_counts d (x ∷ xs) (suc n) =
    let new = sum_by-cons (one d) x (emptied xs n) in
    let old = sum_by-cons (one d) x xs in
    let rest = emptied_counts d xs n in
    omega (arith, new, old, rest)

pub none_counts : (d : ℕ) (table : List (Option Descriptor)) → table_refs d (map (λ e. None) table) ≡ 0
none_counts d [] = refl
none_counts d (x ∷ xs) = none_counts d xs

abbrev IsThere : State → Descriptor → Type 0
IsThere S e = is_some (description_at S e.description) ≡ true

put_counts : (S : State) (old table : List (Option Descriptor)) (n : ℕ) (e : Descriptor) → IsThere S e → NamesWhatIsThere S old table →
    (d : ℕ) → is_some (description_at S d) ≡ false →
    table_refs d (filled table n e) ≤ table_refs d old
put_counts S old table n e there names d gone = go (e.description == d) refl
  where
    go : (b : Bool) → (e.description == d) ≡ b → table_refs d (filled table n e) ≤ table_refs d old
    go true h =
        let same : e.description ≡ d = eqb-true e.description d h in
        let so : is_some (description_at S e.description) ≡ false = ap (λ k. is_some (description_at S k)) same ∙ gone in
        absurd (cc (so, there))
    go false h =
        let none : one d (Some e) ≡ 0 = ap (λ b. cond {A = ℕ} b 1 0) h in
        let put = filled_counts d table n e in
        let rest : table_refs d table ≤ table_refs d old = names.counts d gone in
        omega (arith, none, put, rest)

pub put_names : (S : State) (old table : List (Option Descriptor)) (n : ℕ) (e : Descriptor) → IsThere S e → NamesWhatIsThere S old table →
    NamesWhatIsThere S old (filled table n e)
put_names S old table n e there names = record {
  counts = put_counts S old table n e there names;
  long = let same = length-set table n (Some e) in let before = names.long in omega (arith, same, before);
}

pub taken_names : (S : State) (table : List (Option Descriptor)) (n : ℕ) → NamesWhatIsThere S table (emptied table n)
taken_names S table n = record {
  counts = λ d gone. emptied_counts d table n;
  long = let same = length-set table n None in
      omega (arith, same);
}

pub same_names : (S : State) (table : List (Option Descriptor)) → NamesWhatIsThere S table table
same_names S table = record { counts = λ d gone. omega arith; long = omega arith }

-- what exec leaves of one place, and of a table
kept_one : (d : ℕ) (x : Option Descriptor) → one d (kept_on_exec x) ≤ one d x
kept_one d None = omega arith
kept_one d (Some e) = go e.cloexec
  where
    go : (b : Bool) → one d (if b then None else Some e) ≤ one d (Some e)
    go true = omega arith
    go false = omega arith

kept_counts : (d : ℕ) (table : List (Option Descriptor)) → table_refs d (map kept_on_exec table) ≤ table_refs d table
kept_counts d [] = omega arith
kept_counts d (x ∷ xs) =
    let new = sum_by-cons (one d) (kept_on_exec x) (map kept_on_exec xs) in
    let old = sum_by-cons (one d) x xs in
    let first = kept_one d x in
    let rest = kept_counts d xs in
    omega (arith, new, old, first, rest)

pub kept_names : (S : State) (table : List (Option Descriptor)) → NamesWhatIsThere S table (map kept_on_exec table)
kept_names S table = record {
  counts = λ d gone. kept_counts d table;
  long = let same = length-map table kept_on_exec in
      omega (arith, same);
}

-- ---- one description

-- the same of a target, at place n
pub record KeepsTarget (S : State) (n : ℕ) (old new : Target) : Type 0 where
  pub leads : (o : ℕ) → leads_to o new ≡ leads_to o old
  pub holds : (d : ℕ) → is_some (description_at S d) ≡ false → target_refs d new ≤ target_refs d old
  pub peer : target_peer new ≡ target_peer old
  pub pending : (d : ℕ) → at_target (pends d) new ≤ at_target (pends d) old
  pub waits : 0 < pends_at_all n S.descriptions → at_target unaccepted old ≤ at_target unaccepted new
  pub flies : StaysWithin S (λ u. flying_at u old) (λ u. flying_at u new)
  pub bounds : AreBounded S → IsBoundedTarget old → IsBoundedTarget new
  pub named : (name : Name) → target_name old ≡ Some (Addr.Abstract name) → target_name new ≡ Some (Addr.Abstract name)

pub same_target : (S : State) (n : ℕ) (t : Target) → KeepsTarget S n t t
same_target S n t = record {
  leads = λ o. refl;
  holds = λ d gone. omega arith;
  peer = refl;
  pending = λ d. omega arith;
  waits =
      λ h. omega arith;
  flies = λ u limit are within. omega (arith, within);
  bounds = λ all own. own;
  named = λ name h. h;
}

pub kept_place : (S : State) (n : ℕ) (D E : Description) → KeepsTarget S n D.target E.target → KeepsPlace S n (Some D) (Some E)
kept_place S n D E k = record {
  references = record { held = refl; leads = k.leads; holds = k.holds; named = k.named };
  peer =
      k.peer;
  pending = k.pending;
  waits = k.waits;
  flies = k.flies;
  bounds = k.bounds;
}

-- the same of a socket
pub record KeepsSocket (S : State) (n : ℕ) (s t : Socket) : Type 0 where
  pub holds : (d : ℕ) → is_some (description_at S d) ≡ false → socket_refs d t ≤ socket_refs d s
  pub peer : peer_of t.phase ≡ peer_of s.phase
  pub pending : (d : ℕ) → pends d t ≤ pends d s
  pub waits : 0 < pends_at_all n S.descriptions → unaccepted s ≤ unaccepted t
  pub flies : StaysWithin S (λ u. rights_sent_by u s.queue) (λ u. rights_sent_by u t.queue)
  pub bounds : AreBounded S → IsBounded s → IsBounded t
  pub named : (name : Name) → s.name ≡ Addr.Abstract name → t.name ≡ Addr.Abstract name

pub kept_socket : (S : State) (n : ℕ) (s t : Socket) → KeepsSocket S n s t → KeepsTarget S n (to_socket s) (to_socket t)
kept_socket S n s t k = record {
  leads = λ o. refl;
  holds = k.holds;
  peer = k.peer;
  pending = k.pending;
  waits = k.waits;
  flies = k.flies;
  bounds = k.bounds;
  named = λ name h. ap Some (k.named name (let e : s.name ≡ Addr.Abstract name = cc h in e));
}

-- where only the queue and what is pending change, and the queue has no more rights and keeps to its limits
pub queue_changed : (S : State) (n : ℕ) (s : Socket) (queue : List Message) (reset : Bool) →
    ((d : ℕ) → is_some (description_at S d) ≡ false → queue_refs d queue ≤ queue_refs d s.queue) →
    ((u : ℕ) → rights_sent_by u queue ≤ rights_sent_by u s.queue) →
    (IsBounded s → HasBounds s.kind s.name s.queue_limit queue) → KeepsSocket S n s (record s { queue = queue; reset = reset })
queue_changed S n s queue reset holds fewer bounds = record {
  holds = λ d gone. let h : queue_refs d queue ≤ queue_refs d s.queue = holds d gone in omega (arith, h);
  peer = refl;
  pending = λ d. omega arith;
  waits = λ h. omega arith;
  flies = λ u limit are within. let less : rights_sent_by u queue ≤ rights_sent_by u s.queue = fewer u in omega (arith, within, less);
  bounds = λ all own. bounds own;
  named = λ name h. h;
}

-- where what is pending changes alone
pub pending_changed : (S : State) (n : ℕ) (s : Socket) (reset : Bool) → KeepsSocket S n s (record s { reset = reset })
pending_changed S n s reset = queue_changed S n s s.queue reset (λ d gone. omega arith) (λ u. omega arith) (λ own. own)

-- ---- the changes as calls make them

pub with_table_reached : {S : State} {may : May} (T : State) (p : ℕ) (table : List (Option Descriptor)) → Reaches S may T →
    (IsSound S → NamesWhatIsThere T (table_of T p) table) →
    Reaches S may (with_table T p table)
with_table_reached {S} {may} T zero table r names = r
with_table_reached {S} {may} T (suc i) table r names = go (slice_get T.processes i) refl names
  where
    go : (o : Option Process) → slice_get T.processes i ≡ o → (IsSound S → NamesWhatIsThere T (table_in o) table) →
        Reaches S may (elim o as (λ _. State) [
          | Some P ↦ record T { processes = set T.processes i (record P { table = table }) }
          | None ↦ T
        ])
    go None h names = r
    go (Some P) h names = process_changed i P (record P { table = table }) r h names (λ k. refl)
        (λ k. record { user = refl; group = refl; privileged = refl })

-- what a call may change
abbrev pub may_change : Request → May
may_change (Request.SetIds uid gid) = users_too
may_change (Request.Create path mode flags) = files_made
may_change (Request.MemFd flags) = objects_too
may_change (Request.EventFd value semaphore flags) = objects_too
may_change (Request.Pipe flags) = objects_too
may_change (Request.Read fd n) = files_too
may_change (Request.Write fd bytes) = files_too
may_change (Request.Unlink path) = paths_too
may_change (Request.Bind fd addr) = bindings_too
may_change (Request.SetOpt fd opt value) = names_too
may_change Request.Off = bindings_too
may_change Request.Exit = lives_too
may_change Request.Fork = lives_too
may_change _ = tables_alone

pub with_child_reached : {S : State} (T : State) (p : ℕ) (P : Process) → Reaches S lives_too T → process_at T p ≡ Some P →
    Reaches S lives_too (with_child T (child_of P))
with_child_reached T zero P r h = absurd (cc h)
with_child_reached T (suc i) P r h = process_forked i P r h refl

pub with_process_reached : {S : State} (T : State) (p : ℕ) (P Q : Process) → Reaches S lives_too T → process_at T p ≡ Some P →
    ((d : ℕ) → table_refs d Q.table ≡ 0) → length Q.table ≡ length P.table →
    IsOfSameUser P Q → Reaches S lives_too (with_process T p Q)
with_process_reached T zero P Q r h none long same = absurd (cc h)
with_process_reached T (suc i) P Q r h none long same =
    process_changed i P Q r h (λ sound. record { counts = λ d gone. let z = none d in omega (arith, z); long = omega (arith, long) })
    (λ e. absurd (cc e)) (λ e. same)

pub with_ids_reached : {S : State} (T : State) (p uid gid : ℕ) (P : Process) → Reaches S users_too T → process_at T p ≡ Some P →
    Reaches S users_too (with_process T p (with_ids uid gid P))
with_ids_reached T zero uid gid P r h = absurd (cc h)
with_ids_reached T (suc i) uid gid P r h =
    process_changed i P (with_ids uid gid P) r h (λ sound. same_names T P.table) (λ e. refl) (λ e. absurd (cc e))

pub with_description_reached : {S : State} {may : May} (T : State) (d : ℕ) (D E : Description) → Reaches S may T →
    description_at T d ≡ Some D → (IsSound S → KeepsTarget T d D.target E.target) →
    Reaches S may (with_description T d E)
with_description_reached T d D E r h keeps =
    description_changed d (Some E) r (λ sound. subst (λ x. KeepsPlace T d x (Some E)) (sym h) (kept_place T d D E (keeps sound)))

pub nothing_there : (S : State) (n : ℕ) → KeepsPlace S n None None
nothing_there S n = record {
  references =
      record { held = refl; leads = λ o. refl; holds = λ d gone. omega arith; named = λ name h. h };
  peer = refl;
  pending =
      λ d. omega arith;
  waits = λ h. omega arith;
  flies = λ u limit are within. omega (arith, within);
  bounds = λ all own. own;
}

pub with_socket_reached : {S : State} {may : May} (T : State) (d : ℕ) (change : Socket → Socket) → Reaches S may T →
    (IsSound S → (s : Socket) → socket_at T d ≡ Some s → KeepsSocket T d s (change s)) → Reaches S may (with_socket_by T d change)
with_socket_reached {S} {may} T d change r keeps =
    description_changed d (option_map (changed change) (description_at T d)) r (λ sound. at_place (keeps sound) (description_at T d) refl)
  where
    at_target : ((s : Socket) → socket_at T d ≡ Some s → KeepsSocket T d s (change s)) → (t : Target) → socket_at T d ≡ socket_of t →
        KeepsTarget T d t (changed_target change t)
    at_target k (to_object o) h = same_target T d (to_object o)
    at_target k (to_socket s) h = kept_socket T d s (change s) (k s h)

    at_place : ((s : Socket) → socket_at T d ≡ Some s → KeepsSocket T d s (change s)) → (x : Option Description) → description_at T d ≡ x →
        KeepsPlace T d x (option_map (changed change) x)
    at_place k None h = nothing_there T d
    at_place k (Some D) h = kept_place T d D (changed change D) (at_target k D.target (ap socket_in h))

-- ---- places

pub some_filled : {X : Type 0} (xs : List (Option X)) (n i : ℕ) (x : X) → is_some (place xs i) ≡ true →
    is_some (place (filled xs n x) i) ≡ true
some_filled [] n i x h = h
some_filled (y ∷ xs) zero zero x h = refl
some_filled (y ∷ xs) zero (suc i) x h = h
some_filled (y ∷ xs) (suc n) zero x h = h
some_filled (y ∷ xs) (suc n) (suc i) x h = some_filled xs n i x h

pub some_more : {X : Type 0} (xs ys : List (Option X)) (i : ℕ) → is_some (place xs i) ≡ true → is_some (place (xs ++ ys) i) ≡ true
some_more [] ys i h = absurd (cc h)
some_more (x ∷ xs) ys zero h = h
some_more (x ∷ xs) ys (suc i) h = some_more xs ys i h

pub some_pushed : {X : Type 0} (xs : List (Option X)) (x : X) → is_some (place (xs ++ Some x ∷ []) (length xs)) ≡ true
some_pushed [] x = refl
some_pushed (y ∷ xs) x = some_pushed xs x
