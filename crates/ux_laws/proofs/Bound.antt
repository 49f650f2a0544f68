-- What a bind that is answered ok leaves, and which calls make a path lead to a socket.
use Rattle.std.proofs.Common.{◌≡◌, ◌⊎◌, ℕ, suc, Bool, true, false, not, ◌||◌, if◌then◌else◌, cond, is_some, List, [], ◌∷◌, ◌++◌}
use Rattle.std.proofs.Common.{Option, Some, None, Result, Ok, Err, option_map, refl, ap, sym, ◌∙◌, subst, inl, inr, ⊎_elim}
use Rattle.std.specs.Prelude.{is_none}
use Rattle.std.proofs.lemmas.Bool.{eq-eqb, false≢true, or_parts, not-false}
use Rattle.ux_model.specs.Types.{Errno, Fd, Name, Addr, SockType, Mode, OpenFlags, Request, Reply}
use Rattle.ux_model.specs.Object.{memory}
use Rattle.ux_model.specs.Names.{PathTarget, file, bound, same_name, named, without_name, free_name, is_valid_path, is_valid_addr}
use Rattle.ux_model.specs.Names.{is_unnamed_addr, autobind_name, IsFreeName}
use Rattle.ux_model.specs.Socket.{Socket}
use Rattle.ux_model.specs.Description.{Description, Target, to_object, to_socket, socket_of, socket_in, changed, changed_target}
use Rattle.ux_model.specs.Process.{Descriptor, lowest_free}
use Rattle.ux_model.specs.State.{State, description_at, socket_at, table_of, with_socket_by, with_table, with_new}
use Rattle.ux_model.specs.Outcome.{Outcome, Chosen, own, lacking_memory, failing, find_socket}
use Rattle.ux_model.specs.Naming.{unlink}
use Rattle.ux_model.specs.Binding.{same_kind, socket_of_kind, socket_of_target, look_up, with_name, bind_to, bind}
use Rattle.ux_model.specs.Opening.{file_description}
use Rattle.ux_model.specs.Making.{next_object, object_table_full, with_made, with_path, create_file}
use Rattle.ux_model.specs.Closing.{off}
use Rattle.ux_model.specs.Step.{outcome}
use Rattle.ux_model.specs.Pedigree.{before}
use Rattle.ux_model.proofs.Changes.Walk.{either, maybe}
use Rattle.ux_model.proofs.Changes.LeastNames.{free_name_is_least}
use Rattle.ux_model.proofs.Counting.Owning.{same_is, is_same}
use Rattle.ux_model.proofs.Lists.ChangedPlaces.{bool_cases, place-changed}
use Rattle.ux_model.proofs.Steps.Calls.{each_obeys}
use Rattle.ux_model.proofs.Pedigrees.Moments.{moment}
use Rattle.ux_model.proofs.Tables.Shows.{by_socket, socket_found}
use Rattle.ux_laws.specs.OwnNames.{IsNewName, of_path, of_abstract, autobound, NamesIt, by_bind, PathsAreAsked, IsBound, BindsName}
use Rattle.ux_laws.proofs.Doing.Calls.{step_between}
use Rattle.ux_laws.proofs.Makers.{behind_is}
use Rattle.ux_laws.proofs.Near.Single.{name_of, name_in}
use Rattle.ux_laws.proofs.LeftAlone.{Lost, settled_lost}
use Rattle.ux_laws.proofs.OwnNames.{no_name, none_listed, lost_name}
use Rattle.ux_laws.proofs.NamesLeft.{named_left, each_left, RoundsLeave, settled_leaves}
use Rattle.ux_laws.proofs.SendWaits.{at_found}
use Rattle.ux_laws.proofs.Touching.Tables.{table_alike}

-- ---- lists of names

-- the last of a list that had no such name
named_last : {X : Type 0} (name : Name) (x : X) (es : List (Name × X)) → named name es ≡ None → named name (es ++ (name, x) ∷ []) ≡ Some x
named_last name x [] h = ap (λ b. if b then Some x else None) (is_same name name refl)
named_last {X} name x (e ∷ es) h = go (same_name e.0 name) (named_last name x es) h
  where
    go : (b : Bool) → (named name es ≡ None → named name (es ++ (name, x) ∷ []) ≡ Some x) → (if b then Some e.1 else named name es) ≡ None →
        (if b then Some e.1 else named name (es ++ (name, x) ∷ [])) ≡ Some x
    go true rest h = absurd (cc h)
    go false rest h = rest h

-- what a longer list has was there, or is the last
named_either : {X : Type 0} (name other : Name) (x y : X) (es : List (Name × X)) → named other (es ++ (name, x) ∷ []) ≡ Some y →
    (named other es ≡ Some y) ⊎ ((name ≡ other) × (x ≡ y))
named_either {X} name other x y [] h = go (same_name name other) refl h
  where
    go : (b : Bool) → same_name name other ≡ b → (if b then Some x else None) ≡ Some y → (None ≡ Some y) ⊎ ((name ≡ other) × (x ≡ y))
    go true is h = inr (same_is name other is, cc h)
    go false is h = absurd (cc h)
named_either {X} name other x y (e ∷ es) h = go (same_name e.0 other) (named_either name other x y es) h
  where
    go : (b : Bool) → (named other (es ++ (name, x) ∷ []) ≡ Some y → (named other es ≡ Some y) ⊎ ((name ≡ other) × (x ≡ y))) →
        (if b then Some e.1 else named other (es ++ (name, x) ∷ [])) ≡ Some y →
        ((if b then Some e.1 else named other es) ≡ Some y) ⊎ ((name ≡ other) × (x ≡ y))
    go true rest h = inl h
    go false rest h = rest h

-- a name that is taken away is nobody's
named_gone : {X : Type 0} (name : Name) (es : List (Name × X)) → named name (without_name name es) ≡ None
named_gone name [] = refl
named_gone {X} name (e ∷ es) = go (same_name e.0 name) refl (named_gone name es)
  where
    go : (b : Bool) → same_name e.0 name ≡ b → named name (without_name name es) ≡ None →
        named name (cond (not b) (e ∷ without_name name es) (without_name name es)) ≡ None
    go true is rest = rest
    go false is rest = ap (λ b. if b then Some e.1 else named name (without_name name es)) is ∙ rest

-- autobind's name is nobody's
free_is_free : (names : List (Name × ℕ)) (name : Name) → free_name names ≡ Some name → named name names ≡ None
free_is_free names name h =
    let least = subst (IsFreeName names) h (free_name_is_least names) in
    ap (λ (n : Name). named n names) least.2 ∙ none_there (named (autobind_name least.0) names) least.3
  where
    none_there : (o : Option ℕ) → is_none o ≡ true → o ≡ None
    none_there None h = refl
    none_there (Some x) h = absurd (false≢true h)

-- ---- a bind

-- the name leads to socket d
abbrev Leads : State → Addr → ℕ → Type 0
Leads S Addr.Unnamed d = ⊥
Leads S (Addr.Path name) d = named name S.paths ≡ Some (bound d)
Leads S (Addr.Abstract name) d = named name S.abstract_names ≡ Some d

-- socket d had no name, and has one that was asked for and that leads to it
record Binds (S : State) (addr : Addr) (d : ℕ) (s : Socket) (next : State) : Type 0 where
  pub nameless : s.name ≡ Addr.Unnamed
  pub name : Addr
  pub asked : IsNewName S addr name
  pub has : name_in (description_at next d) ≡ Some name
  pub leads : Leads next name d

named_now : (S : State) (d : ℕ) (s : Socket) (name : Addr) → socket_at S d ≡ Some s →
    name_in (description_at (with_socket_by S d (with_name name)) d) ≡ Some name
named_now S d s name there = ap name_in (place-changed S.descriptions d d (changed (with_name name)))
    ∙ ap (λ b. name_in (cond b (option_map (changed (with_name name)) (description_at S d)) (description_at S d))) (eq-eqb d d refl)
    ∙ at_place (description_at S d) there
  where
    at_target : (t : Target) → socket_of t ≡ Some s → name_of (changed_target (with_name name) t) ≡ Some name
    at_target (to_object o) h = absurd (cc h)
    at_target (to_socket u) h = refl

    at_place : (x : Option Description) → socket_in x ≡ Some s → name_in (option_map (changed (with_name name)) x) ≡ Some name
    at_place None h = absurd (cc h)
    at_place (Some D) h = at_target D.target h

bind_binds : (S : State) (p d : ℕ) (fd : Fd) (addr : Addr) (s : Socket) → find_socket S p fd ≡ Ok (d, s) → socket_at S d ≡ Some s →
    (bind S p fd addr).reply ≡ Reply.Ok → Binds S addr d s (bind S p fd addr).next
unfolding bind
bind_binds S p d fd addr s found there =
    at_found Q S p d fd s _ found (either Q (not (is_unnamed_addr s.name) || not (is_valid_addr addr)) _ _ (λ b h. absurd (cc h))
    (λ b. to (no_name s.name (not-false (is_unnamed_addr s.name)
    (or_parts (not (is_unnamed_addr s.name)) (not (is_valid_addr addr)) b).0)) addr refl))
  where
    Q : Outcome → Type 0
    Q o = o.reply ≡ Reply.Ok → Binds S addr d s o.next

    to : s.name ≡ Addr.Unnamed → (a : Addr) → addr ≡ a → Q (bind_to S d a)
    to none Addr.Unnamed is = maybe Q (free_name S.abstract_names) _ _ (λ h. absurd (cc h)) (λ name least h. record {
      nameless = none;
      name = Addr.Abstract name;
      asked = autobound name is least refl;
      has = named_now S d s (Addr.Abstract name) there;
      leads = named_last name d S.abstract_names (free_is_free S.abstract_names name least);
    })
    to none (Addr.Path name) is = either Q (is_some (named name S.paths)) _ _ (λ b h. absurd (cc h)) (λ b h. record {
      nameless = none;
      name = Addr.Path name;
      asked = of_path name is (none_listed (named name S.paths) b) (sym is);
      has = named_now S d s (Addr.Path name) there;
      leads = named_last name (bound d) S.paths (none_listed (named name S.paths) b);
    })
    to none (Addr.Abstract name) is = either Q (is_some (named name S.abstract_names)) _ _ (λ b h. absurd (cc h)) (λ b h. record {
      nameless = none;
      name = Addr.Abstract name;
      asked = of_abstract name is (none_listed (named name S.abstract_names) b) (sym is);
      has = named_now S d s (Addr.Abstract name) there;
      leads = named_last name d S.abstract_names (none_listed (named name S.abstract_names) b);
    })

-- the name of a socket that is there leads to it
leads_to_it : (T : State) (d : ℕ) (t : Socket) (name : Addr) → socket_at T d ≡ Some t → Leads T name d → look_up T t.kind name ≡ Ok (d, t)
leads_to_it T d t name there leads = by_name name leads
  where
    same : (kind : SockType) → same_kind kind kind ≡ true
    same SockType.Stream = refl
    same SockType.Dgram = refl
    same SockType.Seq = refl

    of_kind : socket_of_kind T t.kind d ≡ Ok (d, t)
    of_kind = ap (λ (o : Option Socket). elim o as (λ _. Result (ℕ × Socket) Errno) [
      | None ↦ Err Errno.ECONNREFUSED
      | Some s ↦ if same_kind t.kind s.kind then Ok (d, s) else Err Errno.EPROTOTYPE
    ]) there ∙ ap (λ b. if b then Ok (d, t) else Err Errno.EPROTOTYPE) (same t.kind)

    by_name : (a : Addr) → Leads T a d → look_up T t.kind a ≡ Ok (d, t)
    by_name Addr.Unnamed h = absurd h
    by_name (Addr.Path path) h = ap (λ (o : Option PathTarget). elim o as (λ _. Result (ℕ × Socket) Errno) [
      | None ↦ Err Errno.ENOENT
      | Some target ↦ socket_of_target T t.kind target
    ]) h ∙ of_kind
    by_name (Addr.Abstract free) h = ap (λ (o : Option ℕ). elim o as (λ _. Result (ℕ × Socket) Errno) [
      | None ↦ Err Errno.ECONNREFUSED
      | Some e ↦ socket_of_kind T t.kind e
    ]) h ∙ of_kind

-- and still does at the end of a call
leads_then : (U T : State) (d : ℕ) (t : Socket) (name : Addr) → RoundsLeave U T → socket_at T d ≡ Some t → Leads U name d → Leads T name d
leads_then U T d t Addr.Unnamed end there h = h
leads_then U T d t (Addr.Path name) end there h = ap (named name) end.paths ∙ h
leads_then U T d t (Addr.Abstract name) end there h = ⊎_elim {C = named name T.abstract_names ≡ Some d} (λ is. is)
    (λ gone. let clash : None ≡ Some t = sym (ap socket_in gone) ∙ there in absurd (cc clash)) (end.stay name d h)

bound_then : (S U T : State) (addr : Addr) (d : ℕ) (s t : Socket) → Binds S addr d s U → RoundsLeave U T → Lost U T d →
    socket_at T d ≡ Some t → IsBound S addr d s t T
bound_then S U T addr d s t binds end goes there =
    let both : Some binds.name ≡ Some t.name = sym binds.has ∙ lost_name U T d t goes there in
    let one : binds.name ≡ t.name = cc both in
    record {
      nameless = binds.nameless;
      asked = subst (IsNewName S addr) one binds.asked;
      leads = leads_to_it T d t t.name there (subst (λ (name : Addr). Leads T name d) one
          (leads_then U T d t binds.name end there binds.leads));
    }

chosen_binds : (S U : State) (p tag d : ℕ) (fd : Fd) (addr : Addr) (s : Socket) (reply : Reply) → find_socket S p fd ≡ Ok (d, s) →
    Chosen S (outcome S p tag (Request.Bind fd addr)) reply U → reply ≡ Reply.Ok → Binds S addr d s U
unfolding outcome
chosen_binds S U p tag d fd addr s reply found (own e f) ok =
    subst (Binds S addr d s) (sym f) (bind_binds S p d fd addr s found (socket_found S p d fd s found) (sym e ∙ ok))
chosen_binds S U p tag d fd addr s reply found (lacking_memory e may f) ok =
    let clash : Reply.Err Errno.ENOMEM ≡ Reply.Ok = sym e ∙ ok in absurd (cc clash)
chosen_binds S U p tag d fd addr s reply found (failing e f) ok =
    let clash : Reply.Err Errno.EIO ≡ Reply.Ok = sym e ∙ ok in absurd (cc clash)

pub binds_name : BindsName
binds_name boot es j d e fd addr s t legal at request ok found there =
    let S : State = before boot es j in
    let T : State = before boot es (suc j) in
    let b = step_between S T e.pid.0 j e.request e.reply e.released (moment boot es j e legal at).steps in
    bound_then S b.0 T addr d s t
    (chosen_binds S b.0 e.pid.0 j d fd addr s e.reply found
    (subst (λ (r : Request). Chosen S (outcome S e.pid.0 j r) e.reply b.0) request b.1) ok)
    (subst (λ (V : State). RoundsLeave b.0 V) (sym b.3) (settled_leaves b.0))
    (subst (λ (V : State). Lost b.0 V d) (sym b.3) (settled_lost b.0 d)) there

-- ---- paths

-- a path that leads to a socket did so before, or the call gave it
record Paths (S : State) (p : ℕ) (request : Request) (paths : List (Name × PathTarget)) : Type 0 where
  pub each : (path : Name) (d : ℕ) → named path paths ≡ Some (bound d) →
      (named path S.paths ≡ Some (bound d)) ⊎ NamesIt S p request d (Addr.Path path)

paths_same : {S : State} {p : ℕ} {request : Request} {paths : List (Name × PathTarget)} → paths ≡ S.paths → Paths S p request paths
paths_same is = record { each = λ path d h. inl (ap (named path) (sym is) ∙ h) }

bind_paths : (S : State) (p : ℕ) (fd : Fd) (addr : Addr) → Paths S p (Request.Bind fd addr) (bind S p fd addr).next.paths
unfolding bind
bind_paths S p fd addr = by_socket Q S p fd _ (λ e. paths_same refl)
    (λ d s found there. either Q (not (is_unnamed_addr s.name) || not (is_valid_addr addr)) _ _ (λ b. paths_same refl)
    (λ b. to d s found addr refl))
  where
    Q : Outcome → Type 0
    Q o = Paths S p (Request.Bind fd addr) o.next.paths

    to : (d : ℕ) (s : Socket) → find_socket S p fd ≡ Ok (d, s) → (a : Addr) → addr ≡ a → Q (bind_to S d a)
    to d s found Addr.Unnamed is = maybe Q (free_name S.abstract_names) _ _ (paths_same refl) (λ name least. paths_same refl)
    to d s found (Addr.Path name) is = either Q (is_some (named name S.paths)) _ _ (λ b. paths_same refl) (λ b. record {
      each = λ path k h. ⊎_elim {C = (named path S.paths ≡ Some (bound k)) ⊎ NamesIt S p (Request.Bind fd addr) k (Addr.Path path)}
          (λ old. inl old)
          (λ w.
          let same : d ≡ k = cc w.1 in
          let asked : addr ≡ Addr.Path path = is ∙ ap (λ (n : Name). Addr.Path n) w.0 in
          inr (by_bind fd addr refl (behind_is S p d fd s found ∙ ap Some same) (of_path path asked
          (ap (λ (n : Name). named n S.paths) (sym w.0) ∙ none_listed (named name S.paths) b) (sym asked))))
          (named_either name path (bound d) (bound k) S.paths h);
    })
    to d s found (Addr.Abstract name) is =
        either Q (is_some (named name S.abstract_names)) _ _ (λ b. paths_same refl) (λ b. paths_same refl)

create_paths : (S : State) (p : ℕ) (path : Name) (mode : Mode) (flags : OpenFlags) →
    Paths S p (Request.Create path mode flags) (create_file S p path mode flags).next.paths
unfolding create_file
create_paths S p path mode flags = either Q (not (is_valid_path path)) _ _ (λ b. paths_same refl)
    (λ b. either Q (is_some (named path S.paths)) _ _ (λ c. paths_same refl)
    (λ c. maybe Q (lowest_free (table_of S p)) _ _ (paths_same refl)
    (λ n low. either Q (object_table_full S) _ _ (λ full. paths_same refl) (λ full. made _))))
  where
    Q : Outcome → Type 0
    Q o = Paths S p (Request.Create path mode flags) o.next.paths

    made : (table : List (Option Descriptor)) → Paths S p (Request.Create path mode flags)
        (with_table (with_new (with_path (with_made S (memory [])) path (next_object S)) (file_description (next_object S) mode flags)) p
        table).paths
    made table =
        let t = table_alike (with_new (with_path (with_made S (memory [])) path (next_object S))
        (file_description (next_object S) mode flags)) p table in
        record {
          each = λ other d h. ⊎_elim {C = (named other S.paths ≡ Some (bound d)) ⊎ NamesIt S p (Request.Create path mode flags) d
              (Addr.Path other)}
              (λ old. inl old) (λ w. absurd (cc w.1))
              (named_either path other (file (next_object S)) (bound d) S.paths (sym (ap (named other) t.paths) ∙ h));
        }

unlink_paths : (S : State) (p : ℕ) (path : Name) → Paths S p (Request.Unlink path) (unlink S path).next.paths
unfolding unlink
unlink_paths S p path = either Q (not (is_valid_path path)) _ _ (λ b. paths_same refl)
    (λ b. either Q (not (is_some (named path S.paths))) _ _ (λ b. paths_same refl) (λ b. record {
      each = λ other d h. bool_cases (same_name path other)
          (λ is.
          let clash : None ≡ Some (bound d) = sym (named_gone path S.paths) ∙ ap (λ (n : Name). named n (without_name path S.paths))
          (same_is path other is) ∙ h in
          absurd (cc clash))
          (λ apart. inl (sym (named_left path other S.paths apart) ∙ h));
    }))
  where
    Q : Outcome → Type 0
    Q o = Paths S p (Request.Unlink path) o.next.paths

off_paths : (S : State) (p : ℕ) → Paths S p Request.Off (off S).next.paths
unfolding off
off_paths S p = record { each = λ path d h. absurd (cc h) }

each_paths : (S : State) (p tag : ℕ) (request : Request) → Paths S p request (outcome S p tag request).next.paths
unfolding outcome
each_paths S p tag (Request.Bind fd addr) = bind_paths S p fd addr
each_paths S p tag (Request.Create path mode flags) = create_paths S p path mode flags
each_paths S p tag (Request.Unlink path) = unlink_paths S p path
each_paths S p tag Request.Off = off_paths S p
each_paths S p tag request = record { each = λ path d h. inl (sym ((each_left S p tag request).paths path refl) ∙ h) }

chosen_paths : (S U : State) (p tag : ℕ) (request : Request) (reply : Reply) → Chosen S (outcome S p tag request) reply U →
    Paths S p request U.paths
chosen_paths S U p tag request reply (own e f) =
    subst (λ (V : State). Paths S p request V.paths) (sym f) (each_paths S p tag request)
chosen_paths S U p tag request reply (lacking_memory e may f) = paths_same (ap (λ (V : State). V.paths) f)
chosen_paths S U p tag request reply (failing e f) =
    paths_same (ap (λ (V : State). V.paths) ((each_obeys S p tag request).failed U f).0.left)

pub paths_are_asked : PathsAreAsked
paths_are_asked boot es j d e path legal at other h =
    let S : State = before boot es j in
    let T : State = before boot es (suc j) in
    let b = step_between S T e.pid.0 j e.request e.reply e.released (moment boot es j e legal at).steps in
    let end = settled_leaves b.0 in
    let stays : T.paths ≡ b.0.paths = ap (λ (V : State). V.paths) b.3 ∙ end.paths in
    ⊎_elim {C = NamesIt S e.pid.0 e.request d (Addr.Path path)} (λ old. absurd (other old)) (λ gives. gives)
    ((chosen_paths S b.0 e.pid.0 j e.request e.reply b.1).each path d (sym (ap (named path) stays) ∙ h))
