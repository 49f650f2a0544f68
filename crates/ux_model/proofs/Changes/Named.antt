-- What is named counts, and what counts is there. So where nothing dangles, what a table, a queue or a backlog names is there.
use Rattle.std.proofs.Common.{◌≡◌, ℕ, zero, suc, ◌≤◌, ◌<◌, ◌==◌, Bool, true, false, ◌&&◌, cond, List, [], ◌∷◌, sum_by, count_by, Option}
use Rattle.std.proofs.Common.{Some, None, refl, ap, sym, ◌∙◌, arith}
use Rattle.std.specs.Prelude.{is_some, nat_lt}
use Rattle.std.specs.List.{slice_get}
use Rattle.std.proofs.lemmas.Bool.{eq-eqb, lt-ltb}
use Rattle.std.proofs.lemmas.List.Sums.{sum_by-cons}
use Rattle.ux_model.specs.Types.{Name, Addr}
use Rattle.ux_model.specs.Places.{place}
use Rattle.ux_model.specs.Object.{View}
use Rattle.ux_model.specs.Names.{PathTarget, file}
use Rattle.ux_model.specs.Message.{Message}
use Rattle.ux_model.specs.Socket.{Socket, pending_ends}
use Rattle.ux_model.specs.Description.{Description, Target, to_object, to_socket, socket_of, socket_in}
use Rattle.ux_model.specs.Process.{Process, Descriptor}
use Rattle.ux_model.specs.State.{State, description_at, socket_at, table_of}
use Rattle.ux_model.specs.References.{names_description, table_refs, times, socket_refs, target_refs, path_names, leads_to, is_open_of}
use Rattle.ux_model.specs.References.{refs, orefs}
use Rattle.ux_model.specs.Boot.{is_open}
use Rattle.ux_model.specs.Peers.{at_target, at_socket}
use Rattle.ux_model.specs.Invariants.{pends, pends_at_all}
use Rattle.ux_model.proofs.Releasing.OneGoes.{held_refs}
use Rattle.ux_model.proofs.Changes.Sound.{IsHeld, unaccepted, target_name, name_in}

-- the table of a process that is there
abbrev pub table_in : Option Process → List (Option Descriptor)
table_in o = elim o as (λ _. List (Option Descriptor)) [ Some P ↦ P.table | None ↦ [] ]

-- ---- what is named counts

counts_at : {X : Type 0} (p : Option X → Bool) (xs : List (Option X)) (i : ℕ) (x : X) → place xs i ≡ Some x → p (Some x) ≡ true →
    0 < count_by p xs
counts_at p [] i x h passes = absurd (cc h)
counts_at p (y ∷ xs) zero x h passes =
    let s = sum_by-cons (λ y. cond (p y) 1 0) y xs in
    let one : cond {A = ℕ} (p y) 1 0 ≡ 1 = ap (λ b. cond {A = ℕ} b 1 0) (ap p h ∙ passes) in
    omega (arith, s, one)
counts_at p (y ∷ xs) (suc i) x h passes =
    let s = sum_by-cons (λ y. cond (p y) 1 0) y xs in
    let rest = counts_at p xs i x h passes in
    omega (arith, s, rest)

counts_in : {X : Type 0} (f : X → ℕ) (xs : List X) (i : ℕ) (x : X) → slice_get xs i ≡ Some x → f x ≤ sum_by f xs
counts_in f [] zero x h = absurd (cc h)
counts_in f [] (suc i) x h = absurd (cc h)
counts_in f (y ∷ xs) zero x h =
    let s = sum_by-cons f y xs in
    let same : f y ≡ f x = let e : y ≡ x = cc h in ap f e in
    omega (arith, s, same)
counts_in f (y ∷ xs) (suc i) x h =
    let s = sum_by-cons f y xs in
    let rest = counts_in f xs i x h in
    omega (arith, s, rest)

pub listed : (ns : List ℕ) (i n : ℕ) → slice_get ns i ≡ Some n → 0 < times n ns
listed ns i n h =
    let all = counts_in (λ m. cond {A = ℕ} (m == n) 1 0) ns i n h in
    let one : cond {A = ℕ} (n == n) 1 0 ≡ 1 = ap (λ b. cond {A = ℕ} b 1 0) (eq-eqb n n refl) in
    omega (arith, all, one)

table_counts : (d : ℕ) (Ps : List Process) (i : ℕ) →
    table_refs d (table_in (slice_get Ps i)) ≤ sum_by (λ P. table_refs d (Process.table P)) Ps
table_counts d [] i = omega arith
table_counts d (P ∷ Ps) zero = let s = sum_by-cons (λ P. table_refs d (Process.table P)) P Ps in omega (arith, s)
table_counts d (P ∷ Ps) (suc i) =
    let s = sum_by-cons (λ P. table_refs d (Process.table P)) P Ps in
    let rest = table_counts d Ps i in
    omega (arith, s, rest)

refs_of_table : (S : State) (p d : ℕ) → table_refs d (table_of S p) ≤ refs S d
unfolding refs
refs_of_table S zero d = omega arith
refs_of_table S (suc i) d = let t = table_counts d S.processes i in omega (arith, t)

pub entry_counts : (S : State) (p n : ℕ) (e : Descriptor) → place (table_of S p) n ≡ Some e → 0 < refs S e.description
entry_counts S p n e h =
    let here : 0 < table_refs e.description (table_of S p) =
    counts_at (names_description e.description) (table_of S p) n e h (eq-eqb e.description e.description refl) in
    let all = refs_of_table S p e.description in
    omega (arith, here, all)

-- what a socket refers to is counted
pub socket_counted : (S : State) (d k : ℕ) (s : Socket) → socket_at S d ≡ Some s → socket_refs k s ≤ refs S k
socket_counted S d k s h = at_place (description_at S d) refl h
  where
    at_target : (D : Description) (t : Target) → description_at S d ≡ Some D → D.target ≡ t → socket_of t ≡ Some s →
        socket_refs k s ≤ refs S k
    at_target D (to_object o) here is f = absurd (cc f)
    at_target D (to_socket u) here is f =
        let same : u ≡ s = cc f in
        let all = held_refs S d k D here in
        let parts : target_refs k D.target ≡ socket_refs k s = ap (target_refs k) is ∙ ap (socket_refs k) same in
        omega (arith, all, parts)

    at_place : (x : Option Description) → description_at S d ≡ x → socket_in x ≡ Some s → socket_refs k s ≤ refs S k
    at_place None here f = absurd (cc f)
    at_place (Some D) here f = at_target D D.target here refl f

pub right_counts : (S : State) (d i j r : ℕ) (s : Socket) (m : Message) → socket_at S d ≡ Some s → slice_get s.queue i ≡ Some m →
    slice_get m.rights j ≡ Some r → 0 < refs S r
right_counts S d i j r s m h waits brings =
    let all = socket_counted S d r s h in
    let queued = counts_in (λ m. times r (Message.rights m)) s.queue i m waits in
    let one = listed m.rights j r brings in
    omega (arith, all, queued, one)

pub opening_counts : (S : State) (d o : ℕ) (D : Description) → description_at S d ≡ Some D → D.target ≡ to_object o → 0 < orefs S o
unfolding orefs
opening_counts S d o D h t =
    let leads : leads_to o D.target ≡ true = ap (leads_to o) t ∙ eq-eqb o o refl in
    let here = counts_at (is_open_of o) S.descriptions d D h leads in
    omega (arith, here)

pub path_counts : (S : State) (i o : ℕ) (path : Name) → slice_get S.paths i ≡ Some (path, file o) → 0 < orefs S o
unfolding orefs
path_counts S i o path h =
    let all = counts_in (λ (e : Name × PathTarget). cond {A = ℕ} (path_names o e.1) 1 0) S.paths i (path, file o) h in
    let one : cond {A = ℕ} (o == o) 1 0 ≡ 1 = ap (λ b. cond {A = ℕ} b 1 0) (eq-eqb o o refl) in
    omega (arith, all, one)

-- ---- what counts is there

there_or_none : (b : Bool) (n : ℕ) → (b ≡ false → n ≡ 0) → 0 < n → b ≡ true
there_or_none true n none some = refl
there_or_none false n none some = let z : n ≡ 0 = none refl in absurd (omega (arith, z, some))

-- where what isn't there counts 0, and nothing is left that counts 0
pub exactly : (b : Bool) (n : ℕ) → (b ≡ false → n ≡ 0) → b && (n == 0) ≡ false → b ≡ nat_lt 0 n
exactly true zero none left = absurd (cc left)
exactly true (suc n) none left = sym (lt-ltb 0 (suc n) (omega arith))
exactly false n none left = let z : n ≡ 0 = none refl in ap (nat_lt 0) (sym z)

open_where_there : (o : Option View) → is_some o ≡ true → ((view : View) → o ≡ Some view → view.opened ≡ true) → is_open o ≡ true
open_where_there None some all = absurd (cc some)
open_where_there (Some view) some all = all view refl

pub named_there : (S : State) → IsHeld S → (o : ℕ) → 0 < orefs S o → is_some (place S.objects o) ≡ true
named_there S held o some = there_or_none (is_some (place S.objects o)) (orefs S o) (held.no_object_dangles o) some

pub named_open : (S : State) → IsHeld S → (o : ℕ) → 0 < orefs S o → is_open (place S.objects o) ≡ true
named_open S held o some =
    open_where_there (place S.objects o) (named_there S held o some) (held.all_open o)

pub described : (S : State) → IsHeld S → (d : ℕ) → 0 < refs S d → is_some (description_at S d) ≡ true
described S held d some = there_or_none (is_some (description_at S d)) (refs S d) (held.no_description_dangles d) some

-- ---- ends that wait

pub pending_listed : (S : State) (d i e : ℕ) (s : Socket) → socket_at S d ≡ Some s → slice_get (pending_ends s.phase) i ≡ Some e →
    0 < pends_at_all e S.descriptions
pending_listed S d i e s h waits = at_place (description_at S d) refl h
  where
    summed : (ds : List (Option Description)) (d : ℕ) → at_socket (pends e) (place ds d) ≤ pends_at_all e ds
    summed [] d = omega arith
    summed (x ∷ xs) zero = let t = sum_by-cons (at_socket (pends e)) x xs in omega (arith, t)
    summed (x ∷ xs) (suc d) = let t = sum_by-cons (at_socket (pends e)) x xs in let rest = summed xs d in omega (arith, t, rest)

    of_target : (t : Target) → socket_of t ≡ Some s → 0 < at_target (pends e) t
    of_target (to_object o) f = absurd (cc f)
    of_target (to_socket u) f =
        let same : u ≡ s = cc f in
        let one = listed (pending_ends s.phase) i e waits in
        let here : pends e u ≡ pends e s = ap (pends e) same in
        omega (arith, one, here)

    at_place : (x : Option Description) → description_at S d ≡ x → socket_in x ≡ Some s → 0 < pends_at_all e S.descriptions
    at_place None here f = absurd (cc f)
    at_place (Some D) here f =
        let all = summed S.descriptions d in
        let one = of_target D.target f in
        let same : at_socket (pends e) (description_at S d) ≡ at_target (pends e) D.target = ap (at_socket (pends e)) here in
        omega (arith, all, one, same)

pub at_most_one : (x : Option Description) → at_socket unaccepted x ≤ 1
at_most_one None = omega arith
at_most_one (Some D) = of_target D.target
  where
    of_socket : (b : Bool) → cond {A = ℕ} b 0 1 ≤ 1
    of_socket true = omega arith
    of_socket false = omega arith

    of_target : (t : Target) → at_target unaccepted t ≤ 1
    of_target (to_object o) = omega arith
    of_target (to_socket s) = of_socket s.accepted

pub waiting_socket : (x : Option Description) → 0 < at_socket unaccepted x → (t : Socket) × (socket_in x ≡ Some t) × (t.accepted ≡ false)
waiting_socket None h = absurd (omega (arith, h))
waiting_socket (Some D) h = of_target D.target h
  where
    not_accepted : (b : Bool) → 0 < cond {A = ℕ} b 0 1 → b ≡ false
    not_accepted true h = absurd (omega (arith, h))
    not_accepted false h = refl

    of_target : (t : Target) → 0 < at_target unaccepted t → (s : Socket) × (socket_of t ≡ Some s) × (s.accepted ≡ false)
    of_target (to_object o) h = absurd (omega (arith, h))
    of_target (to_socket s) h = (s, refl, not_accepted s.accepted h)

pub named_socket : (x : Option Description) (a : Addr) → name_in x ≡ Some a → (s : Socket) × (socket_in x ≡ Some s) × (s.name ≡ a)
named_socket None a h = absurd (cc h)
named_socket (Some D) a h = of_target D.target h
  where
    of_target : (t : Target) → target_name t ≡ Some a → (s : Socket) × (socket_of t ≡ Some s) × (s.name ≡ a)
    of_target (to_object o) h = absurd (cc h)
    of_target (to_socket s) h = (s, refl, (let e : s.name ≡ a = cc h in e))
