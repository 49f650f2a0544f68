-- What a call does to names: it binds or takes away those that it gives, and those of sockets that it frees go.
use Rattle.std.proofs.Common.{◌≡◌, ◌⊎◌, ℕ, zero, suc, ◌==◌, Bool, true, false, not, ◌||◌, if◌then◌else◌, cond, List, [], ◌∷◌, ◌++◌, length}
use Rattle.std.proofs.Common.{filter, Some, None, Ok, option_map, refl, ap, sym, ◌∙◌, subst, slice_get, inl, inr, ⊎_elim, Option}
use Rattle.std.specs.Prelude.{is_some}
use Rattle.std.proofs.lemmas.Bool.{false≢true, eqb-false}
use Rattle.ux_model.specs.Types.{Fd, Name, Addr, SockOpt, Request, Reply, Entry, Mode, OpenFlags}
use Rattle.ux_model.specs.Object.{memory}
use Rattle.ux_model.specs.Names.{PathTarget, bound, same_name, named, without_name, is_valid_path, is_valid_addr, is_unnamed_addr}
use Rattle.ux_model.specs.Names.{free_name, file}
use Rattle.ux_model.specs.Socket.{Socket, is_stream, tied_socket}
use Rattle.ux_model.specs.Process.{Descriptor, lowest_free}
use Rattle.ux_model.specs.State.{State, description_at, table_of, with_table, with_new}
use Rattle.ux_model.specs.Outcome.{Outcome, Chosen, own, lacking_memory, failing, find_socket}
use Rattle.ux_model.specs.Naming.{unlink}
use Rattle.ux_model.specs.Binding.{bind_to, bind}
use Rattle.ux_model.specs.Opening.{file_description}
use Rattle.ux_model.specs.Making.{next_object, object_table_full, with_made, with_path, create_file}
use Rattle.ux_model.specs.Options.{may_limit, change_option, set_opt}
use Rattle.ux_model.specs.Closing.{off}
use Rattle.ux_model.specs.Release.{without, is_unreferenced, drop_all, drop_rounds, drop_unreferenced, has_unreferenced, settled}
use Rattle.ux_model.proofs.Releasing.Losses.{description_after_loss}
use Rattle.ux_model.specs.Step.{Step, outcome}
use Rattle.ux_model.specs.History.{IsLegal}
use Rattle.ux_model.specs.Giving.{description_of}
use Rattle.ux_model.specs.Pedigree.{before}
use Rattle.ux_model.proofs.Changes.Walk.{either, maybe}
use Rattle.ux_model.proofs.Lists.ChangedPlaces.{bool_cases}
use Rattle.ux_model.proofs.Releasing.ReleaseLaws.{description_at-without}
use Rattle.ux_model.proofs.Lists.Rising.{place_mapped}
use Rattle.ux_model.proofs.Steps.Calls.{each_obeys}
use Rattle.ux_model.proofs.Pedigrees.Moments.{moment}
use Rattle.ux_model.proofs.Tables.Shows.{by_socket}
use Rattle.ux_laws.specs.OwnNames.{IsNewName, of_abstract, autobound, NamesIt, by_bind, by_passcred, AbstractNamesAreAsked}
use Rattle.ux_laws.specs.Reach.{is_path, names_path, CallsLeavePathsAlone, AbstractNamesStay, AbstractNamesAreBound}
use Rattle.ux_laws.proofs.Touching.Tables.{table_alike}
use Rattle.ux_laws.proofs.Near.Leading.{own_number}
use Rattle.ux_laws.proofs.Makers.{behind_is}
use Rattle.ux_laws.proofs.OwnNames.{none_listed}
use Rattle.ux_laws.proofs.LeftAlone.{Lost, stays_gone, rounds_lost, settled_lost}
use Rattle.ux_laws.proofs.Touching.Contents.{NamesSame}
use Rattle.ux_laws.proofs.Touching.Calls.{each_names}
use Rattle.ux_laws.proofs.Touching.Paths.{names_equal}

-- ---- lists of names

named_front : {X : Type 0} (name : Name) (es : List (Name × X)) (x : Name × X) (d : X) → named name es ≡ Some d →
    named name (es ++ x ∷ []) ≡ Some d
named_front name [] x d h = absurd (cc h)
named_front {X} name (e ∷ es) x d h = go (same_name e.0 name) (named_front name es x d) h
  where
    go : (b : Bool) → (named name es ≡ Some d → named name (es ++ x ∷ []) ≡ Some d) → (if b then Some e.1 else named name es) ≡ Some d →
        (if b then Some e.1 else named name (es ++ x ∷ [])) ≡ Some d
    go true rest h = h
    go false rest h = rest h

-- what is pushed under another name changes nothing
named_other : {X : Type 0} (name : Name) (es : List (Name × X)) (x : Name × X) → same_name x.0 name ≡ false →
    named name (es ++ x ∷ []) ≡ named name es
named_other name [] x h = ap (λ b. if b then Some x.1 else None) h
named_other {X} name (e ∷ es) x h = go (same_name e.0 name) (named_other name es x h)
  where
    go : (b : Bool) → named name (es ++ x ∷ []) ≡ named name es →
        (if b then Some e.1 else named name (es ++ x ∷ [])) ≡ (if b then Some e.1 else named name es)
    go true rest = refl
    go false rest = rest

-- each socket of this name in the list has a property
abbrev pub OwnNames : (mine : ℕ → Type 0) (name : Name) → List (Name × ℕ) → Type 0
OwnNames mine name [] = Unit {0}
OwnNames mine name (e ∷ es) = (same_name e.0 name ≡ true → mine e.1) × OwnNames mine name es

own_of_none : (mine : ℕ → Type 0) (name : Name) (es : List (Name × ℕ)) → named name es ≡ None → OwnNames mine name es
own_of_none mine name [] h = tt
own_of_none mine name (e ∷ es) h = go (same_name e.0 name) (own_of_none mine name es) h
  where
    go : (b : Bool) → (named name es ≡ None → OwnNames mine name es) → (if b then Some e.1 else named name es) ≡ None →
        (b ≡ true → mine e.1) × OwnNames mine name es
    go true rest h = absurd (cc h)
    go false rest h = (λ is. absurd (false≢true is), rest h)

own_pushed : (mine : ℕ → Type 0) (name : Name) (es : List (Name × ℕ)) (x : Name × ℕ) → (same_name x.0 name ≡ true → mine x.1) →
    OwnNames mine name es → OwnNames mine name (es ++ x ∷ [])
own_pushed mine name [] x h all = (h, tt)
own_pushed mine name (e ∷ es) x h all = (all.0, own_pushed mine name es x h all.1)

own_kept : (mine : ℕ → Type 0) (name : Name) (keep : Name × ℕ → Bool) (es : List (Name × ℕ)) → OwnNames mine name es →
    OwnNames mine name (filter keep es)
own_kept mine name keep [] all = tt
own_kept mine name keep (e ∷ es) all = go (keep e) (own_kept mine name keep es all.1)
  where
    go : (b : Bool) → OwnNames mine name (filter keep es) → OwnNames mine name (cond b (e ∷ filter keep es) (filter keep es))
    go true rest = (all.0, rest)
    go false rest = rest

own_found : (mine : ℕ → Type 0) (name : Name) (es : List (Name × ℕ)) (d : ℕ) → OwnNames mine name es → named name es ≡ Some d → mine d
own_found mine name [] d all h = absurd (cc h)
own_found mine name (e ∷ es) d all h = go (same_name e.0 name) refl (own_found mine name es d all.1) h
  where
    go : (b : Bool) → same_name e.0 name ≡ b → (named name es ≡ Some d → mine d) → (if b then Some e.1 else named name es) ≡ Some d → mine d
    go true is rest h =
        let same : e.1 ≡ d = cc h in
        subst mine same (all.0 is)
    go false is rest h = rest h

-- where some are taken out
named_kept : (gone : ℕ → Bool) (name : Name) (es : List (Name × ℕ)) (d : ℕ) → named name es ≡ Some d → gone d ≡ false →
    named name (filter (λ e. not (gone e.1)) es) ≡ Some d
named_kept gone name [] d h stays = absurd (cc h)
named_kept gone name (e ∷ es) d h stays = by_name (same_name e.0 name) refl (named_kept gone name es d) h
  where
    kept : (g : Bool) → (if same_name e.0 name then Some e.1 else named name (filter (λ x. not (gone x.1)) es)) ≡ Some d → g ≡ false →
        named name (cond (not g) (e ∷ filter (λ x. not (gone x.1)) es) (filter (λ x. not (gone x.1)) es)) ≡ Some d
    kept true h g = absurd (false≢true (sym g))
    kept false h g = h

    skipped : (g : Bool) → same_name e.0 name ≡ false → named name (filter (λ x. not (gone x.1)) es) ≡ Some d →
        named name (cond (not g) (e ∷ filter (λ x. not (gone x.1)) es) (filter (λ x. not (gone x.1)) es)) ≡ Some d
    skipped true other h = h
    skipped false other h = ap (λ b. if b then Some e.1 else named name (filter (λ x. not (gone x.1)) es)) other ∙ h

    by_name : (b : Bool) → same_name e.0 name ≡ b →
        (named name es ≡ Some d → gone d ≡ false → named name (filter (λ x. not (gone x.1)) es) ≡ Some d) →
        (if b then Some e.1 else named name es) ≡ Some d →
        named name (cond (not (gone e.1)) (e ∷ filter (λ x. not (gone x.1)) es) (filter (λ x. not (gone x.1)) es)) ≡ Some d
    by_name true is rest h =
        let same : e.1 ≡ d = cc h in
        kept (gone e.1) (ap (λ b. if b then Some e.1 else named name (filter (λ x. not (gone x.1)) es)) is ∙ h) (ap gone same ∙ stays)
    by_name false is rest h = skipped (gone e.1) is (rest h stays)

-- a path that isn't taken away
pub named_left : (name path : Name) (es : List (Name × PathTarget)) → same_name name path ≡ false →
    named path (without_name name es) ≡ named path es
named_left name path [] other = refl
named_left name path (e ∷ es) other = by_name (same_name e.0 name) refl (named_left name path es other)
  where
    by_name : (b : Bool) → same_name e.0 name ≡ b → named path (without_name name es) ≡ named path es →
        named path (cond (not b) (e ∷ without_name name es) (without_name name es)) ≡
        (if same_name e.0 path then Some e.1 else named path es)
    by_name true is rest =
        let same : e.0 ≡ name = names_equal e.0 name is in
        rest ∙ sym (ap (λ b. if b then Some e.1 else named path es) (ap (λ (n : Name). same_name n path) same ∙ other))
    by_name false is rest = ap (λ o. if same_name e.0 path then Some e.1 else o) rest

-- ---- a call

-- the call gives socket d, which a number of its process leads to, this name
pub record IsAsked (S : State) (p : ℕ) (request : Request) (name : Name) (d : ℕ) : Type 0 where
  pub number : ℕ
  pub leads : description_of S p number ≡ Some d
  pub gives : NamesIt S p request d (Addr.Abstract name)

pub record NamesLeft (S : State) (p : ℕ) (request : Request) (U : State) : Type 0 where
  pub stay : (name : Name) (d : ℕ) → named name S.abstract_names ≡ Some d →
      (named name U.abstract_names ≡ Some d) ⊎ (description_at U d ≡ None)
  pub mine : (name : Name) → named name S.abstract_names ≡ None → OwnNames (IsAsked S p request name) name U.abstract_names
  pub paths : (path : Name) → names_path request path ≡ false → named path U.paths ≡ named path S.paths

by_same : {S : State} {p : ℕ} {request : Request} {U : State} → NamesSame S U → NamesLeft S p request U
by_same {S} {p} {request} {U} k = record {
  stay = λ name d h. inl (ap (λ l. named name l) k.abstracts ∙ h);
  mine = λ name none. own_of_none (IsAsked S p request name) name U.abstract_names (ap (λ l. named name l) k.abstracts ∙ none);
  paths = λ path other. ap (λ l. named path l) k.paths;
}

unchanged : {S : State} {p : ℕ} {request : Request} {U : State} → U.abstract_names ≡ S.abstract_names → U.paths ≡ S.paths →
    NamesLeft S p request U
unchanged h k = by_same (record { paths = k; abstracts = h })

-- one more name of the abstract namespace, of a socket of the caller's own
one_bound : {S : State} {p : ℕ} {request : Request} (U : State) (name : Name) (d : ℕ) → IsAsked S p request name d →
    U.abstract_names ≡ S.abstract_names ++ (name, d) ∷ [] → U.paths ≡ S.paths → NamesLeft S p request U
one_bound {S} {p} {request} U name d asked is same = record {
  stay = λ x k h. inl (ap (λ l. named x l) is ∙ named_front x S.abstract_names (name, d) k h);
  mine = λ x none. subst (OwnNames (IsAsked S p request x) x) (sym is)
      (own_pushed (IsAsked S p request x) x S.abstract_names (name, d)
      (λ alike. subst (λ (y : Name). IsAsked S p request y d) (names_equal name x alike) asked)
      (own_of_none (IsAsked S p request x) x S.abstract_names none));
  paths = λ path other. ap (λ l. named path l) same;
}

bind_left : (S : State) (p : ℕ) (fd : Fd) (addr : Addr) → NamesLeft S p (Request.Bind fd addr) (bind S p fd addr).next
unfolding bind
bind_left S p fd addr = by_socket Q S p fd _ (λ e. unchanged refl refl)
    (λ d s found there. either Q (not (is_unnamed_addr s.name) || not (is_valid_addr addr)) _ _ (λ b. unchanged refl refl)
    (λ b. to d s found addr refl))
  where
    Q : Outcome → Type 0
    Q o = NamesLeft S p (Request.Bind fd addr) o.next

    asked : (d : ℕ) (s : Socket) → find_socket S p fd ≡ Ok (d, s) → (name : Name) → IsNewName S addr (Addr.Abstract name) →
        IsAsked S p (Request.Bind fd addr) name d
    asked d s found name new_name = record {
      number = fd.0;
      leads = own_number S p d fd s found;
      gives = by_bind fd addr refl (behind_is S p d fd s found) new_name;
    }

    to : (d : ℕ) (s : Socket) → find_socket S p fd ≡ Ok (d, s) → (a : Addr) → addr ≡ a → Q (bind_to S d a)
    to d s found Addr.Unnamed is = maybe Q (free_name S.abstract_names) _ _ (unchanged refl refl)
        (λ name h. one_bound _ name d (asked d s found name (autobound name is h refl)) refl refl)
    to d s found (Addr.Path name) is = either Q (is_some (named name S.paths)) _ _ (λ b. unchanged refl refl) (λ b. record {
      stay = λ x k h. inl h;
      mine = λ x none. own_of_none (IsAsked S p (Request.Bind fd addr) x) x S.abstract_names none;
      paths = λ path other. named_other path S.paths (name, bound d) (sym (ap (λ (y : Addr). is_path y path) is) ∙ other);
    })
    to d s found (Addr.Abstract name) is = either Q (is_some (named name S.abstract_names)) _ _ (λ b. unchanged refl refl)
        (λ b. one_bound _ name d
        (asked d s found name (of_abstract name is (none_listed (named name S.abstract_names) b) (sym is))) refl refl)

create_left : (S : State) (p : ℕ) (path : Name) (mode : Mode) (flags : OpenFlags) →
    NamesLeft S p (Request.Create path mode flags) (create_file S p path mode flags).next
unfolding create_file
create_left S p path mode flags = either Q (not (is_valid_path path)) _ _ (λ b. unchanged refl refl)
    (λ b. either Q (is_some (named path S.paths)) _ _ (λ c. unchanged refl refl)
    (λ c. maybe Q (lowest_free (table_of S p)) _ _ (unchanged refl refl)
    (λ n low. either Q (object_table_full S) _ _ (λ full. unchanged refl refl) (λ full. made _))))
  where
    Q : Outcome → Type 0
    Q o = NamesLeft S p (Request.Create path mode flags) o.next

    made : (table : List (Option Descriptor)) → NamesLeft S p (Request.Create path mode flags)
        (with_table (with_new (with_path (with_made S (memory [])) path (next_object S)) (file_description (next_object S) mode flags)) p
        table)
    made table =
        let t = table_alike (with_new (with_path (with_made S (memory [])) path (next_object S))
        (file_description (next_object S) mode flags)) p table in
        record {
          stay = λ x d h. inl (ap (λ l. named x l) t.abstracts ∙ h);
          mine = λ x none. own_of_none (IsAsked S p (Request.Create path mode flags) x) x _ (ap (λ l. named x l) t.abstracts ∙ none);
          paths = λ other elsewhere. ap (λ l. named other l) t.paths ∙ named_other other S.paths (path, file (next_object S)) elsewhere;
        }

unlink_left : (S : State) (p : ℕ) (path : Name) → NamesLeft S p (Request.Unlink path) (unlink S path).next
unfolding unlink
unlink_left S p path = either Q (not (is_valid_path path)) _ _ (λ b. unchanged refl refl)
    (λ b. either Q (not (is_some (named path S.paths))) _ _ (λ b. unchanged refl refl) (λ b. record {
      stay = λ x k h. inl h;
      mine = λ x none. own_of_none (IsAsked S p (Request.Unlink path) x) x S.abstract_names none;
      paths = λ other elsewhere. named_left path other S.paths elsewhere;
    }))
  where
    Q : Outcome → Type 0
    Q o = NamesLeft S p (Request.Unlink path) o.next

set_opt_left : (S : State) (p : ℕ) (fd : Fd) (opt : SockOpt) (value : ℕ) →
    NamesLeft S p (Request.SetOpt fd opt value) (set_opt S p fd opt value).next
unfolding set_opt
set_opt_left S p fd opt value = by_socket Q S p fd _ (λ e. unchanged refl refl) (λ d s found there. by_option d s found opt refl)
  where
    Q : Outcome → Type 0
    Q o = NamesLeft S p (Request.SetOpt fd opt value) o.next

    by_option : (d : ℕ) (s : Socket) → find_socket S p fd ≡ Ok (d, s) → (o : SockOpt) → opt ≡ o → Q (change_option S d s value o)
    by_option d s found SockOpt.Kind is = unchanged refl refl
    by_option d s found SockOpt.Error is = unchanged refl refl
    by_option d s found SockOpt.PassCred is = either Q (value == 0) _ _ (λ b. unchanged refl refl)
        (λ some. either Q (not (is_unnamed_addr s.name) || is_some (tied_socket s.phase)) _ _ (λ b. unchanged refl refl)
        (λ b. maybe Q (free_name S.abstract_names) _ _ (unchanged refl refl) (λ name free. one_bound _ name d (record {
          number = fd.0;
          leads = own_number S p d fd s found;
          gives = by_passcred fd value (ap (λ (o : SockOpt). Request.SetOpt fd o value) is) (eqb-false value 0 some)
              (behind_is S p d fd s found) (autobound name refl free refl);
        }) refl refl)))
    by_option d s found SockOpt.PeerCred is = unchanged refl refl
    by_option d s found SockOpt.AcceptConn is = unchanged refl refl
    by_option d s found SockOpt.QueueLimit is = either Q (not (is_stream s.kind)) _ _ (λ b. unchanged refl refl)
        (λ b. either Q (not (may_limit value)) _ _ (λ c. unchanged refl refl) (λ c. unchanged refl refl))

off_left : (S : State) (p : ℕ) → NamesLeft S p Request.Off (off S).next
unfolding off
off_left S p = record {
  stay = λ name d h. inr (place_mapped (λ D. None) S.descriptions d refl);
  mine = λ name none. tt;
  paths = λ path other. absurd (false≢true (sym other));
}

pub each_left : (S : State) (p tag : ℕ) (request : Request) → NamesLeft S p request (outcome S p tag request).next
unfolding outcome
each_left S p tag (Request.Bind fd addr) = bind_left S p fd addr
each_left S p tag (Request.Create path mode flags) = create_left S p path mode flags
each_left S p tag (Request.Unlink path) = unlink_left S p path
each_left S p tag (Request.SetOpt fd opt value) = set_opt_left S p fd opt value
each_left S p tag Request.Off = off_left S p
each_left S p tag request = by_same (each_names S p tag request refl)

chosen_left : (S T : State) (p tag : ℕ) (request : Request) (reply : Reply) → Chosen S (outcome S p tag request) reply T →
    NamesLeft S p request T
chosen_left S T p tag request reply (own e f) = subst (NamesLeft S p request) (sym f) (each_left S p tag request)
chosen_left S T p tag request reply (lacking_memory e may f) = subst (NamesLeft S p request) (sym f) (unchanged refl refl)
chosen_left S T p tag request reply (failing e f) =
    let one = ((each_obeys S p tag request).failed T f).0 in
    unchanged (ap (λ (U : State). U.abstract_names) one.left) (ap (λ (U : State). U.paths) one.left)

-- ---- what goes at the end of a call

pub record RoundsLeave (S T : State) : Type 1 where
  pub stay : (name : Name) (d : ℕ) → named name S.abstract_names ≡ Some d →
      (named name T.abstract_names ≡ Some d) ⊎ (description_at T d ≡ None)
  pub mine : (mine : ℕ → Type 0) (name : Name) → OwnNames mine name S.abstract_names → OwnNames mine name T.abstract_names
  pub paths : T.paths ≡ S.paths

round_leaves : (gone : ℕ → Bool) (S : State) → RoundsLeave S (without gone S)
unfolding without
round_leaves gone S = record {
  stay = λ name d h. bool_cases (gone d)
      (λ b. inr (description_at-without gone S d
      ∙ ap (λ c. if c then None else option_map (description_after_loss gone S) (description_at S d)) b))
      (λ b. inl (named_kept gone name S.abstract_names d h b));
  mine = λ mine name all. own_kept mine name (λ e. not (gone e.1)) S.abstract_names all;
  paths = refl;
}

rounds_leave : (n : ℕ) (S : State) → RoundsLeave S (drop_rounds n S)
unfolding drop_rounds
rounds_leave zero S = record { stay = λ name d h. inl h; mine = λ mine name all. all; paths = refl }
rounds_leave (suc n) S = go (rounds_leave n (drop_all S)) (λ d. rounds_lost n (drop_all S) d) (has_unreferenced S)
  where
    first : RoundsLeave S (drop_all S)
    first = round_leaves (is_unreferenced S) S

    go : RoundsLeave (drop_all S) (drop_rounds n (drop_all S)) → ((d : ℕ) → Lost (drop_all S) (drop_rounds n (drop_all S)) d) → (b : Bool) →
        RoundsLeave S (elim b as (λ _. State) [ true ↦ drop_rounds n (drop_all S) | false ↦ S ])
    go rest lost true = record {
      stay = λ name d h. ⊎_elim {C = (named name (drop_rounds n (drop_all S)).abstract_names ≡ Some d)
          ⊎ (description_at (drop_rounds n (drop_all S)) d ≡ None)}
          (λ is. rest.stay name d is) (λ none. inr (stays_gone (drop_all S) (drop_rounds n (drop_all S)) d (lost d) none))
          (first.stay name d h);
      mine = λ mine name all. rest.mine mine name (first.mine mine name all);
      paths = rest.paths ∙ first.paths;
    }
    go rest lost false = record { stay = λ name d h. inl h; mine = λ mine name all. all; paths = refl }

pub settled_leaves : (S : State) → RoundsLeave S (settled S)
unfolding settled drop_unreferenced
settled_leaves S = let r = rounds_leave (length S.descriptions) S in
    record { stay = λ name d h. r.stay name d h; mine = λ mine name all. r.mine mine name all; paths = r.paths }

-- ---- the laws

record StepLeaves (S : State) (p : ℕ) (request : Request) (T : State) : Type 1 where
  pub between : State
  pub call : NamesLeft S p request between
  pub end : RoundsLeave between T
  pub lost : (d : ℕ) → Lost between T d

step_leaves : (S T : State) (p tag : ℕ) (request : Request) (reply : Reply) (gone : List ℕ) → Step S p tag request reply gone T →
    StepLeaves S p request T
unfolding Step
step_leaves S T p tag request reply gone s = record {
  between = s.0;
  call = chosen_left S s.0 p tag request reply s.1;
  end = subst (λ (U : State). RoundsLeave s.0 U) (sym s.3) (settled_leaves s.0);
  lost = λ d. subst (λ (U : State). Lost s.0 U d) (sym s.3) (settled_lost s.0 d);
}

moved : (boot : State) (es : List Entry) (j : ℕ) (e : Entry) → IsLegal boot es → slice_get es j ≡ Some e →
    StepLeaves (before boot es j) e.pid.0 e.request (before boot es (suc j))
moved boot es j e legal at = step_leaves (before boot es j) (before boot es (suc j)) e.pid.0 j e.request e.reply e.released
    (moment boot es j e legal at).steps

pub calls_leave_paths_alone : CallsLeavePathsAlone
calls_leave_paths_alone boot es j e path legal at other =
    let w = moved boot es j e legal at in
    ap (λ l. named path l) w.end.paths ∙ w.call.paths path other

pub abstract_names_stay : AbstractNamesStay
abstract_names_stay boot es j d e name legal at h =
    let w = moved boot es j e legal at in
    let T = before boot es (suc j) in
    ⊎_elim {C = (named name T.abstract_names ≡ Some d) ⊎ (description_at T d ≡ None)} (λ is. w.end.stay name d is)
    (λ none. inr (stays_gone w.between T d (w.lost d) none)) (w.call.stay name d h)

pub abstract_names_are_bound : AbstractNamesAreBound
abstract_names_are_bound boot es j d e name legal at none h =
    let w = moved boot es j e legal at in
    let T = before boot es (suc j) in
    let a = own_found (IsAsked (before boot es j) e.pid.0 e.request name) name T.abstract_names d
    (w.end.mine (IsAsked (before boot es j) e.pid.0 e.request name) name (w.call.mine name none)) h in
    (a.number, a.leads)

pub abstract_names_are_asked : AbstractNamesAreAsked
abstract_names_are_asked boot es j d e name legal at none h =
    let w = moved boot es j e legal at in
    let T = before boot es (suc j) in
    (own_found (IsAsked (before boot es j) e.pid.0 e.request name) name T.abstract_names d
    (w.end.mine (IsAsked (before boot es j) e.pid.0 e.request name) name (w.call.mine name none)) h).gives
