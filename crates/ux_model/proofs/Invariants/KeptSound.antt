-- Each change of a call keeps that nothing dangles. One lemma a change, and one line of `reached_sound` (ReachedSound).
use Rattle.std.proofs.Common.{◌≡◌, ◌⊎◌, inl, inr, ⊎_elim, ℕ, zero, suc, ◌+◌, ◌≤◌, ◌<◌, ◌==◌, Bool, true, false, if◌then◌else◌, cond, List}
use Rattle.std.proofs.Common.{[]}
use Rattle.std.proofs.Common.{◌∷◌, ◌++◌, length, map, set, sum_by, count_by, Option, Some, None, refl, ap, sym, subst, ◌∙◌, arith}
use Rattle.std.specs.Prelude.{is_some, filter}
use Rattle.std.specs.List.{slice_get}
use Rattle.std.proofs.lemmas.Bool.{eqb-true}
use Rattle.std.proofs.lemmas.List.{length-set}
use Rattle.std.proofs.lemmas.List.Sums.{sum_by-cons, sum_by_push}
use Rattle.ux_model.specs.Types.{Name, Addr}
use Rattle.ux_model.specs.Places.{place, filled}
use Rattle.ux_model.specs.Object.{Body, View, new_view}
use Rattle.ux_model.specs.Names.{PathTarget, file, bound}
use Rattle.ux_model.specs.Description.{Description, Target, to_object, to_socket}
use Rattle.ux_model.specs.Process.{Process}
use Rattle.ux_model.specs.State.{State, description_at, with_object, with_child, with_new}
use Rattle.ux_model.specs.References.{table_refs, target_refs, description_refs, path_names, leads_to, is_open_of, refs, orefs}
use Rattle.ux_model.specs.Peers.{target_peer, peer_in, at_target, at_socket, HoldsNothing}
use Rattle.ux_model.specs.Making.{with_made, with_path}
use Rattle.ux_model.specs.Closing.{with_nothing_open}
use Rattle.ux_model.specs.Forking.{child_of}
use Rattle.ux_model.specs.Invariants.{pends, pends_at_all}
use Rattle.ux_model.proofs.Counting.Moves.{process_counts, child_counts, new_counts, new_counts_at_object}
use Rattle.ux_model.proofs.Counting.Making.{paired-push, paired-pair}
use Rattle.ux_model.proofs.Releasing.OneGoes.{paired-alike}
use Rattle.ux_model.proofs.Lists.OnePlace.{same_at, no_more_by, at_each}
use Rattle.ux_model.proofs.Changes.Sound.{IsHeld, IsSound, unaccepted, name_in}
use Rattle.ux_model.proofs.Changes.Reaching.{NamesWhatIsThere, LeadsToThere, KeepsReferences, KeepsPlace, ArePeers, none_counts}
use Rattle.ux_model.proofs.Changes.Reaching.{some_filled, some_more}

-- ---- what is there stays there

none_before : {X Y : Type 0} (x : Option X) (y : Option Y) → (is_some x ≡ true → is_some y ≡ true) → is_some y ≡ false → is_some x ≡ false
none_before None y more h = refl
none_before (Some x) y more h = let m : is_some y ≡ true = more refl in absurd (cc (m, h))

pub none_less : (m n : ℕ) → m ≤ n → n ≡ 0 → m ≡ 0
none_less m n less none = omega (arith, less, none)

-- ---- a process

same_orefs_processes : (S : State) (Ps : List Process) (o : ℕ) → orefs (record S { processes = Ps }) o ≡ orefs S o
unfolding orefs
same_orefs_processes S Ps o = refl

pub process_held : (S : State) (i : ℕ) (P Q : Process) → IsHeld S → slice_get S.processes i ≡ Some P → NamesWhatIsThere S P.table Q.table →
    IsHeld (record S { processes = set S.processes i Q })
process_held S i P Q held h names = record {
  no_description_dangles = λ d gone.
      let moved = process_counts S (suc i) d P Q h in
      let less : table_refs d Q.table ≤ table_refs d P.table = names.counts d gone in
      let none : refs S d ≡ 0 = held.no_description_dangles d gone in
      omega (arith, moved, less, none);
  no_object_dangles = λ o gone. same_orefs_processes S (set S.processes i Q) o ∙ held.no_object_dangles o gone;
  all_open = held.all_open;
  ends_wait = held.ends_wait;
  names_owned = held.names_owned;
}

-- a copy of one
pub child_held : (S : State) (i : ℕ) (P : Process) → IsHeld S → slice_get S.processes i ≡ Some P → IsHeld (with_child S (child_of P))
child_held S i P held h = record {
  no_description_dangles = λ d gone.
      let more = child_counts S (child_of P) d in
      let own = process_counts S (suc i) d P (with_nothing_open P) h in
      let empty = none_counts d P.table in
      let none : refs S d ≡ 0 = held.no_description_dangles d gone in
      omega (arith, more, own, empty, none);
  no_object_dangles = λ o gone. same_orefs_processes S (S.processes ++ child_of P ∷ []) o ∙ held.no_object_dangles o gone;
  all_open = held.all_open;
  ends_wait = held.ends_wait;
  names_owned = held.names_owned;
}

-- ---- a new description

-- ends that wait at a target are references
pub pends_are_refs : (d : ℕ) (t : Target) → at_target (pends d) t ≤ target_refs d t
pends_are_refs d (to_object o) = omega arith
pends_are_refs d (to_socket s) = omega arith

at_more : {X : Type 0} (f : Option X → ℕ) (xs ys : List (Option X)) (i : ℕ) → ◌≡◌ {A = ℕ} (f None) 0 →
    f (place xs i) ≤ f (place (xs ++ ys) i)
at_more f [] ys i none = omega (arith, none)
at_more f (x ∷ xs) ys zero none = omega arith
at_more f (x ∷ xs) ys (suc i) none = at_more f xs ys i none

named_more : (xs ys : List (Option Description)) (i : ℕ) (a : Addr) → name_in (place xs i) ≡ Some a → name_in (place (xs ++ ys) i) ≡ Some a
named_more [] ys i a h = absurd (cc h)
named_more (x ∷ xs) ys zero a h = h
named_more (x ∷ xs) ys (suc i) a h = named_more xs ys i a h

-- one more leads to what is there, so nothing more leads to what isn't
led_or_not : (b there : Bool) (n m : ℕ) → m ≡ n + (if b then 1 else 0) → n ≡ 0 → (b ≡ true → there ≡ true) → there ≡ false → m ≡ 0
led_or_not true there n m e z h gone = let is : there ≡ true = h refl in absurd (cc (is, gone))
led_or_not false there n m e z h gone = omega (arith, e, z)

pub made_held : (S : State) (D : Description) → IsHeld S → LeadsToThere S D → ((d : ℕ) → ◌≡◌ {A = ℕ} (target_refs d D.target) 0) →
    IsHeld (with_new S D)
made_held S D held leads none = record {
  no_description_dangles = λ d gone.
      let more = new_counts S D d in
      let new : target_refs d D.target ≡ 0 = none d in
      let old : refs S d ≡ 0 = held.no_description_dangles d
      (none_before (place S.descriptions d) (place (S.descriptions ++ Some D ∷ []) d) (some_more S.descriptions (Some D ∷ []) d) gone) in
      omega (arith, more, new, old);
  no_object_dangles = λ o gone. led_or_not (leads_to o D.target) (is_some (place S.objects o)) (orefs S o) (orefs (with_new S D) o)
      (new_counts_at_object S D o) (held.no_object_dangles o gone) (leads o) gone;
  all_open = held.all_open;
  ends_wait = λ d.
      let s = sum_by_push (at_socket (pends d)) S.descriptions (Some D) in
      let new = pends_are_refs d D.target in
      let z : target_refs d D.target ≡ 0 = none d in
      let old = held.ends_wait d in
      let more = at_more (at_socket unaccepted) S.descriptions (Some D ∷ []) d refl in
      omega (arith, s, new, z, old, more);
  names_owned = λ i e h. named_more S.descriptions (Some D ∷ []) e.1 (Addr.Abstract e.0) (held.names_owned i e h);
}

pub made_sound : (S : State) (D : Description) → IsSound S → LeadsToThere S D → HoldsNothing D → IsSound (with_new S D)
made_sound S D sound leads nothing = record {
  held = made_held S D sound.held leads nothing.refs;
  paired = paired-push S.descriptions D nothing.peer sound.paired;
}

-- what is tied to a peer is a socket, which leads to no file object
leads_nowhere : (o p : ℕ) (t : Target) → target_peer t ≡ Some p → leads_to o t ≡ false
leads_nowhere o p (to_object n) h = absurd (cc h)
leads_nowhere o p (to_socket s) h = refl

pub peers_sound : (S : State) (D E : Description) → IsSound S → ArePeers (length S.descriptions) D E → IsSound (with_new (with_new S D) E)
peers_sound S D E sound peers = record {
  held = made_held (with_new S D) E
      (made_held S D sound.held (λ o h. absurd (cc (h, leads_nowhere o (length S.descriptions + 1) D.target peers.first_peer)))
      peers.first_refs)
      (λ o h. absurd (cc (h, leads_nowhere o (length S.descriptions) E.target peers.second_peer))) peers.second_refs;
  paired = paired-pair S.descriptions D E peers.first_peer peers.second_peer sound.paired;
}

-- ---- one place

fewer_refs : (S : State) (n d : ℕ) (x : Option Description) → description_refs d x ≤ description_refs d (description_at S n) →
    refs (record S { descriptions = set S.descriptions n x }) d ≤ refs S d
unfolding refs
fewer_refs S n d x less = let all = no_more_by (description_refs d) S.descriptions n x less in omega (arith, all)

fewer_orefs : (S : State) (n o : ℕ) (x : Option Description) → is_open_of o x ≡ is_open_of o (description_at S n) →
    orefs (record S { descriptions = set S.descriptions n x }) o ≤ orefs S o
unfolding orefs
fewer_orefs S n o x same =
    let alike : cond {A = ℕ} (is_open_of o x) 1 0 ≡ cond (is_open_of o (description_at S n)) 1 0 = ap (λ b. cond {A = ℕ} b 1 0) same in
    let all = no_more_by (λ x. cond {A = ℕ} (is_open_of o x) 1 0) S.descriptions n x (omega (arith, alike)) in
    omega (arith, all)

as_many : (p a b : ℕ) → p ≤ a → (0 < p → a ≤ b) → p ≤ b
as_many zero a b h more = omega arith
as_many (suc p) a b h more = let l : a ≤ b = more (omega arith) in omega (arith, h, l)

-- its place refers to what is there, and whatever waits is taken by no accept
pub place_held : (S : State) (n : ℕ) (x : Option Description) → IsHeld S → KeepsReferences S (description_at S n) x →
    ((d : ℕ) → pends_at_all d (set S.descriptions n x) ≤ at_socket unaccepted (place (set S.descriptions n x) d)) →
    IsHeld (record S { descriptions = set S.descriptions n x })
place_held S n x held keeps ends = record {
  no_description_dangles = λ d gone.
      let before : is_some (description_at S d) ≡ false = sym (same_at is_some S.descriptions n d x keeps.held) ∙ gone in
      none_less (refs (record S { descriptions = set S.descriptions n x }) d) (refs S d) (fewer_refs S n d x (keeps.holds d before))
      (held.no_description_dangles d before);
  no_object_dangles = λ o gone. none_less (orefs (record S { descriptions = set S.descriptions n x }) o) (orefs S o)
      (fewer_orefs S n o x (keeps.leads o)) (held.no_object_dangles o gone);
  all_open = held.all_open;
  ends_wait = ends;
  names_owned = λ i e h. at_each (λ y. name_in y ≡ Some (Addr.Abstract e.0)) S.descriptions n e.1 x (held.names_owned i e h)
      (λ q. subst (λ m. name_in (description_at S m) ≡ Some (Addr.Abstract e.0) → name_in x ≡ Some (Addr.Abstract e.0)) q
      (keeps.named e.0));
}

-- no more ends wait, and what waits itself is taken by no accept
pub ends_still : (S : State) (n : ℕ) (x : Option Description) → IsHeld S →
    ((d : ℕ) → at_socket (pends d) x ≤ at_socket (pends d) (description_at S n)) →
    (0 < pends_at_all n S.descriptions → at_socket unaccepted (description_at S n) ≤ at_socket unaccepted x) → (d : ℕ) →
    pends_at_all d (set S.descriptions n x) ≤ at_socket unaccepted (place (set S.descriptions n x) d)
ends_still S n x held pending waits d =
    let fewer = no_more_by (at_socket (pends d)) S.descriptions n x (pending d) in
    let old = held.ends_wait d in
    let all : pends_at_all d S.descriptions ≤ at_socket unaccepted (place (set S.descriptions n x) d) =
    at_each (λ y. pends_at_all d S.descriptions ≤ at_socket unaccepted y) S.descriptions n d x old
    (λ e h. as_many (pends_at_all d S.descriptions) (at_socket unaccepted (description_at S d)) (at_socket unaccepted x) h
    (subst (λ m. 0 < pends_at_all m S.descriptions → at_socket unaccepted (description_at S m) ≤ at_socket unaccepted x) e waits)) in
    omega (arith, fewer, all)

pub place_sound : (S : State) (n : ℕ) (x : Option Description) → IsSound S → KeepsPlace S n (description_at S n) x →
    IsSound (record S { descriptions = set S.descriptions n x })
place_sound S n x sound keeps = record {
  held = place_held S n x sound.held keeps.references (ends_still S n x sound.held keeps.pending keeps.waits);
  paired = paired-alike S.descriptions (set S.descriptions n x) (length-set S.descriptions n x)
      (λ i. same_at peer_in S.descriptions n i x keeps.peer)
      (λ i. same_at is_some S.descriptions n i x keeps.references.held) sound.paired;
}

-- ---- file objects and paths

pub same_orefs_objects : (S : State) (os : List (Option View)) (o : ℕ) → orefs (record S { objects = os }) o ≡ orefs S o
unfolding orefs
same_orefs_objects S os o = refl

pub same_refs_objects : (S : State) (os : List (Option View)) (d : ℕ) → refs (record S { objects = os }) d ≡ refs S d
unfolding refs
same_refs_objects S os d = refl

filled_is : {X : Type 0} (xs : List (Option X)) (n i : ℕ) (x y : X) → place (filled xs n x) i ≡ Some y → (place xs i ≡ Some y) ⊎ (x ≡ y)
filled_is [] n i x y h = inl h
filled_is (z ∷ xs) zero zero x y h = let e : x ≡ y = cc h in inr e
filled_is (z ∷ xs) zero (suc i) x y h = inl h
filled_is (z ∷ xs) (suc n) zero x y h = inl h
filled_is (z ∷ xs) (suc n) (suc i) x y h = filled_is xs n i x y h

pub object_held : (S : State) (o : ℕ) (old new : View) → IsHeld S → place S.objects o ≡ Some old → new.opened ≡ old.opened →
    IsHeld (with_object S o new)
object_held S n old new held here same = record {
  no_description_dangles = λ d gone. same_refs_objects S (filled S.objects n new) d ∙ held.no_description_dangles d gone;
  no_object_dangles = λ o gone. same_orefs_objects S (filled S.objects n new) o
      ∙ held.no_object_dangles o (none_before (place S.objects o) (place (filled S.objects n new) o) (some_filled S.objects n o new) gone);
  all_open = λ o view h. ⊎_elim {C = view.opened ≡ true} (λ p. held.all_open o view p)
      (λ e. sym (ap (λ (v : View). v.opened) e) ∙ same ∙ held.all_open n old here)
      (filled_is S.objects n o new view h);
  ends_wait = held.ends_wait;
  names_owned = held.names_owned;
}

-- one that was just made is open, and nothing leads to it yet
open_pushed : (xs : List (Option View)) (new : View) → new.opened ≡ true →
    ((o : ℕ) (view : View) → place xs o ≡ Some view → view.opened ≡ true) → (o : ℕ) (view : View) →
    place (xs ++ Some new ∷ []) o ≡ Some view → view.opened ≡ true
open_pushed [] new is each zero view h = let e : new ≡ view = cc h in sym (ap (λ (v : View). v.opened) e) ∙ is
open_pushed [] new is each (suc o) view h = absurd (cc h)
open_pushed (x ∷ xs) new is each zero view h = each zero view h
open_pushed (x ∷ xs) new is each (suc o) view h = open_pushed xs new is (λ k. each (suc k)) o view h

pub new_object_held : (S : State) (body : Body) → IsHeld S → IsHeld (with_made S body)
new_object_held S body held =
    let more : List (Option View) = S.objects ++ Some (new_view body) ∷ [] in
    record {
      no_description_dangles = λ d gone. same_refs_objects S more d ∙ held.no_description_dangles d gone;
      no_object_dangles = λ o gone. same_orefs_objects S more o
          ∙ held.no_object_dangles o (none_before (place S.objects o) (place more o)
          (some_more S.objects (Some (new_view body) ∷ []) o) gone);
      all_open = open_pushed S.objects (new_view body) refl held.all_open;
      ends_wait = held.ends_wait;
      names_owned = held.names_owned;
    }

filter_counts : {X : Type 0} (p keep : X → Bool) (xs : List X) → count_by p (filter keep xs) ≤ count_by p xs
filter_counts p keep [] = omega arith
filter_counts p keep (x ∷ xs) = kept_or_not p x xs (filter keep xs) (keep x) (filter_counts p keep xs)
  where
    kept_or_not : {X : Type 0} (p : X → Bool) (x : X) (xs ys : List X) (b : Bool) → count_by p ys ≤ count_by p xs →
        count_by p (if b then x ∷ ys else ys) ≤ count_by p (x ∷ xs)
    kept_or_not p x xs ys true h =
        let s = sum_by-cons (λ x. cond (p x) 1 0) x xs in
        let t = sum_by-cons (λ x. cond (p x) 1 0) x ys in
        omega (arith, s, t, h)
    kept_or_not p x xs ys false h = let s = sum_by-cons (λ x. cond (p x) 1 0) x xs in omega (arith, s, h)

same_refs_paths : (S : State) (ps : List (Name × PathTarget)) (d : ℕ) → refs (record S { paths = ps }) d ≡ refs S d
unfolding refs
same_refs_paths S ps d = refl

taken_counts : (S : State) (keep : Name × PathTarget → Bool) (o : ℕ) → orefs (record S { paths = filter keep S.paths }) o ≤ orefs S o
unfolding orefs
taken_counts S keep o = let f = filter_counts (λ (e : Name × PathTarget). path_names o e.1) keep S.paths in omega (arith, f)

pub paths_held : (S : State) (keep : Name × PathTarget → Bool) → IsHeld S → IsHeld (record S { paths = filter keep S.paths })
paths_held S keep held = record {
  no_description_dangles = λ d gone. same_refs_paths S (filter keep S.paths) d ∙ held.no_description_dangles d gone;
  no_object_dangles = λ o gone. none_less (orefs (record S { paths = filter keep S.paths }) o) (orefs S o) (taken_counts S keep o)
      (held.no_object_dangles o gone);
  all_open = held.all_open;
  ends_wait = held.ends_wait;
  names_owned = held.names_owned;
}

-- one more leads to a file object that is there
path_counts : (S : State) (name : Name) (n o : ℕ) → orefs (with_path S name n) o ≡ orefs S o + (if n == o then 1 else 0)
unfolding orefs
path_counts S name n o = let s = sum_by_push (λ (e : Name × PathTarget). cond {A = ℕ} (path_names o e.1) 1 0) S.paths (name, file n) in
    omega (arith, s)

pub new_path_held : (S : State) (name : Name) (n : ℕ) → IsHeld S → is_some (place S.objects n) ≡ true → IsHeld (with_path S name n)
new_path_held S name n held there = record {
  no_description_dangles = λ k gone. same_refs_paths S (S.paths ++ (name, file n) ∷ []) k ∙ held.no_description_dangles k gone;
  no_object_dangles = λ o gone. led_or_not (n == o) (is_some (place S.objects o)) (orefs S o) (orefs (with_path S name n) o)
      (path_counts S name n o) (held.no_object_dangles o gone)
      (λ h. subst (λ k. is_some (place S.objects k) ≡ true) (eqb-true n o h) there) gone;
  all_open = held.all_open;
  ends_wait = held.ends_wait;
  names_owned = held.names_owned;
}

-- ---- names of sockets

bound_counts : (S : State) (name : Name) (d o : ℕ) → orefs (record S { paths = S.paths ++ (name, bound d) ∷ [] }) o ≡ orefs S o
unfolding orefs
bound_counts S name d o = let s = sum_by_push (λ (e : Name × PathTarget). cond {A = ℕ} (path_names o e.1) 1 0) S.paths (name, bound d) in
    omega (arith, s)

pub path_held : (S : State) (name : Name) (d : ℕ) → IsHeld S → IsHeld (record S { paths = S.paths ++ (name, bound d) ∷ [] })
path_held S name d held = record {
  no_description_dangles = λ k gone. same_refs_paths S (S.paths ++ (name, bound d) ∷ []) k ∙ held.no_description_dangles k gone;
  no_object_dangles = λ o gone. bound_counts S name d o ∙ held.no_object_dangles o gone;
  all_open = held.all_open;
  ends_wait = held.ends_wait;
  names_owned = held.names_owned;
}

same_refs_names : (S : State) (names : List (Name × ℕ)) (d : ℕ) → refs (record S { abstract_names = names }) d ≡ refs S d
unfolding refs
same_refs_names S names d = refl

same_orefs_names : (S : State) (names : List (Name × ℕ)) (o : ℕ) → orefs (record S { abstract_names = names }) o ≡ orefs S o
unfolding orefs
same_orefs_names S names o = refl

pushed_is : {X : Type 0} (xs : List X) (x y : X) (i : ℕ) → slice_get (xs ++ x ∷ []) i ≡ Some y → (slice_get xs i ≡ Some y) ⊎ (x ≡ y)
pushed_is [] x y zero h = let e : x ≡ y = cc h in inr e
pushed_is [] x y (suc i) h = absurd (cc h)
pushed_is (z ∷ xs) x y zero h = inl h
pushed_is (z ∷ xs) x y (suc i) h = pushed_is xs x y i h

pub name_held : (S : State) (name : Name) (d : ℕ) → IsHeld S → name_in (description_at S d) ≡ Some (Addr.Abstract name) →
    IsHeld (record S { abstract_names = S.abstract_names ++ (name, d) ∷ [] })
name_held S name d held shown = record {
  no_description_dangles = λ k gone. same_refs_names S (S.abstract_names ++ (name, d) ∷ []) k ∙ held.no_description_dangles k gone;
  no_object_dangles = λ o gone. same_orefs_names S (S.abstract_names ++ (name, d) ∷ []) o ∙ held.no_object_dangles o gone;
  all_open = held.all_open;
  ends_wait = held.ends_wait;
  names_owned = λ i e h. ⊎_elim {C = name_in (description_at S e.1) ≡ Some (Addr.Abstract e.0)} (λ p. held.names_owned i e p)
      (λ p. subst (λ (f : Name × ℕ). name_in (description_at S f.1) ≡ Some (Addr.Abstract f.0)) p shown)
      (pushed_is S.abstract_names (name, d) e i h);
}

-- ---- the end of the layer

-- where no description is there, none counts
none_sum : {X : Type 0} (f : Option X → ℕ) (xs : List (Option X)) → ◌≡◌ {A = ℕ} (f None) 0 → sum_by f (map (λ x. None) xs) ≡ 0
none_sum f [] none = refl
none_sum f (x ∷ xs) none =
    let s = sum_by-cons f None (map (λ x. None) xs) in
    let rest = none_sum f xs none in
    omega (arith, s, rest, none)

none_at : (xs : List (Option Description)) (i : ℕ) → place {X = Description} (map (λ x. None) xs) i ≡ None
none_at [] i = refl
none_at (x ∷ xs) zero = refl
none_at (x ∷ xs) (suc i) = none_at xs i

nothing_open : (d : ℕ) (Ps : List Process) → sum_by (λ P. table_refs d (Process.table P)) (map with_nothing_open Ps) ≡ 0
nothing_open d [] = refl
nothing_open d (P ∷ Ps) =
    let s = sum_by-cons (λ P. table_refs d (Process.table P)) (with_nothing_open P) (map with_nothing_open Ps) in
    let none = none_counts d P.table in
    let rest = nothing_open d Ps in
    omega (arith, s, none, rest)

abbrev turned : State → State
turned S = record S {
  descriptions = map (λ D. None) S.descriptions;
  processes = map with_nothing_open S.processes;
  paths =
      [];
  abstract_names = [];
}

nobody_refers : (S : State) (d : ℕ) → refs (turned S) d ≡ 0
unfolding refs
nobody_refers S d =
    let tables = nothing_open d S.processes in
    let descriptions = none_sum (description_refs d) S.descriptions refl in
    omega (arith, tables, descriptions)

nothing_leads : (S : State) (o : ℕ) → orefs (turned S) o ≡ 0
unfolding orefs
nothing_leads S o = let none = none_sum (λ D. cond {A = ℕ} (is_open_of o D) 1 0) S.descriptions refl in omega (arith, none)

pub off_sound : (S : State) → IsSound S → IsSound (turned S)
off_sound S sound = record {
  held = record {
    no_description_dangles = λ d gone. nobody_refers S d;
    no_object_dangles = λ o gone. nothing_leads S o;
    all_open = sound.held.all_open;
    ends_wait = λ d. let none = none_sum (at_socket (pends d)) S.descriptions refl in omega (arith, none);
    names_owned = λ i e h. no_name i e h;
  };
  paired = record { returned = λ i p e there. nobody i p e; known = λ i p e. nobody i p e };
}
  where
    no_name : (i : ℕ) (e : Name × ℕ) → slice_get [] i ≡ Some e →
        name_in (place (map (λ D. None) S.descriptions) e.1) ≡ Some (Addr.Abstract e.0)
    no_name zero e h = absurd (cc h)
    no_name (suc i) e h = absurd (cc h)

    nobody : {P : Type 0} (i p : ℕ) → peer_in (place (map (λ D. None) S.descriptions) i) ≡ Some p → P
    nobody i p e = let none : peer_in (place (map (λ D. None) S.descriptions) i) ≡ None = ap peer_in (none_at S.descriptions i) in
        absurd (cc (none, e))
