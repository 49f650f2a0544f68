-- Two states that are apart and look alike, and changes of both that leave them so.
use Rattle.std.proofs.Common.{◌≡◌, ℕ, zero, suc, ◌==◌, Bool, true, false, cond, List, [], ◌∷◌, map, Option, Some, None, option_map, refl}
use Rattle.std.proofs.Common.{ap, sym}
use Rattle.std.proofs.Common.{◌∙◌, subst, slice_set}
use Rattle.std.proofs.lemmas.Bool.{eqb-true, eqb-false, eq-eqb}
use Rattle.std.proofs.lemmas.List.{get_or-set_other}
use Rattle.ux_model.specs.Places.{place, filled}
use Rattle.ux_model.specs.Object.{View, Body}
use Rattle.ux_model.specs.Message.{Message}
use Rattle.ux_model.specs.Socket.{Socket}
use Rattle.ux_model.specs.Description.{Description, Target, to_object, to_socket, socket_of, socket_in, changed, changed_target}
use Rattle.ux_model.specs.Process.{Process, Descriptor}
use Rattle.ux_model.specs.State.{State, description_at, socket_at, process_at, with_object, with_description, with_description_by}
use Rattle.ux_model.specs.State.{with_socket_by, with_process, with_table}
use Rattle.ux_model.specs.Giving.{held_at}
use Rattle.ux_model.proofs.Changes.Named.{table_in}
use Rattle.ux_model.proofs.Lists.ByPlace.{get_set_same, get_set_other}
use Rattle.ux_model.proofs.Lists.ChangedPlaces.{bool_cases, place-changed}
use Rattle.ux_laws.specs.Files.{body_in, body_at}
use Rattle.ux_laws.specs.Apartness.{Sides, SocketIsOn, TargetIsOn, AreApart, body_behind, untold, untold_in, shown_as, shown_at}
use Rattle.ux_laws.proofs.Aside.Processes.{by_list}
use Rattle.ux_laws.proofs.Aside.Unseen.{socket_aside}

pub record Twins (sides : Sides) (S T : State) : Type 0 where
  pub left : AreApart sides S
  pub right : AreApart sides T
  pub processes : (p : ℕ) → sides.process p ≡ true → process_at T p ≡ process_at S p
  pub descriptions : (d : ℕ) → sides.description d ≡ true → shown_at T d ≡ shown_at S d

pub other_way : {sides : Sides} {S T : State} → Twins sides S T → Twins sides T S
other_way twins = record {
  left = twins.right;
  right = twins.left;
  processes = λ p mine. sym (twins.processes p mine);
  descriptions = λ d mine. sym (twins.descriptions d mine);
}

-- ---- tables

-- each entry leads to this side
abbrev pub TableIsOn : Sides → Bool → List (Option Descriptor) → Type 0
TableIsOn sides side table = (n : ℕ) (e : Descriptor) → place table n ≡ Some e → sides.description e.description ≡ side

pub process_same : (S : State) (p : ℕ) (P Q : Process) → process_at S p ≡ Some Q → process_at (with_process S p P) p ≡ Some P
process_same S zero P Q h = absurd (cc h)
process_same S (suc i) P Q h = get_set_same S.processes i P Q h

pub process_other : (S : State) (p q : ℕ) (P : Process) → (p == q) ≡ false → process_at (with_process S p P) q ≡ process_at S q
process_other S zero q P other = refl
process_other S (suc i) zero P other = refl
process_other S (suc i) (suc j) P other = get_set_other S.processes i j P (λ e. eqb-false (suc i) (suc j) other (ap suc e))

pub process_descriptions : (S : State) (p : ℕ) (P : Process) → (with_process S p P).descriptions ≡ S.descriptions
process_descriptions S zero P = refl
process_descriptions S (suc i) P = refl

pub process_objects : (S : State) (p : ℕ) (P : Process) → (with_process S p P).objects ≡ S.objects
process_objects S zero P = refl
process_objects S (suc i) P = refl

apart_process : (sides : Sides) (S : State) (p : ℕ) (P Q : Process) → AreApart sides S → process_at S p ≡ Some Q →
    TableIsOn sides (sides.process p) P.table → AreApart sides (with_process S p P)
apart_process sides S p P Q apart there on = record {
  tables = λ q n e is. bool_cases (p == q)
      (λ same.
      let at : p ≡ q = eqb-true p q same in
      on n e (sym (ap (λ x. place (table_in x) n) (process_same S p P Q there))
      ∙ ap (λ (k : ℕ). held_at (with_process S p P) k n) at ∙ is) ∙ ap sides.process at)
      (λ other. apart.tables q n e (sym (ap (λ x. place (table_in x) n) (process_other S p q P other)) ∙ is));
  descriptions = λ d D is. apart.descriptions d D (sym (ap (λ ds. place ds d) (process_descriptions S p P)) ∙ is);
}

-- what a description shows depends on itself and on file objects alone
pub shown_same : (S U : State) (d : ℕ) → description_at U d ≡ description_at S d → U.objects ≡ S.objects → shown_at U d ≡ shown_at S d
shown_same S U d here objects = ap (option_map (shown_as U)) here ∙ by_place (description_at S d)
  where
    by_target : (t : Target) → body_behind U t ≡ body_behind S t
    by_target (to_object o) = ap (λ (os : List (Option View)). body_in (place os o)) objects
    by_target (to_socket s) = refl

    by_place : (x : Option Description) → option_map (shown_as U) x ≡ option_map (shown_as S) x
    by_place None = refl
    by_place (Some D) = ap (λ (b : Option Body). Some (changed untold_in D, b)) (by_target D.target)

pub twins_process : {sides : Sides} (S T : State) (p : ℕ) (P Q : Process) → Twins sides S T → sides.process p ≡ true →
    process_at S p ≡ Some Q → TableIsOn sides true P.table → Twins sides (with_process S p P) (with_process T p P)
twins_process {sides} S T p P Q twins mine there on = record {
  left = apart_process sides S p P Q twins.left there (subst (λ b. TableIsOn sides b P.table) (sym mine) on);
  right = apart_process sides T p P Q twins.right (twins.processes p mine ∙ there) (subst (λ b. TableIsOn sides b P.table) (sym mine) on);
  processes = λ q other. bool_cases (p == q)
      (λ same. subst (λ (k : ℕ). process_at (with_process T p P) k ≡ process_at (with_process S p P) k) (eqb-true p q same)
      (process_same T p P Q (twins.processes p mine ∙ there) ∙ sym (process_same S p P Q there)))
      (λ apart. process_other T p q P apart ∙ twins.processes q other ∙ sym (process_other S p q P apart));
  descriptions = λ d own. shown_same T (with_process T p P) d (here T d) (process_objects T p P)
      ∙ twins.descriptions d own ∙ sym (shown_same S (with_process S p P) d (here S d) (process_objects S p P));
}
  where
    here : (U : State) (d : ℕ) → description_at (with_process U p P) d ≡ description_at U d
    here U d = ap (λ (ds : List (Option Description)). place ds d) (process_descriptions U p P)

pub twins_table : {sides : Sides} (S T : State) (p : ℕ) (table other : List (Option Descriptor)) → Twins sides S T →
    sides.process p ≡ true →
    other ≡ table → TableIsOn sides true table → Twins sides (with_table S p table) (with_table T p other)
twins_table {sides} S T p table other twins mine same on =
    subst (λ (t : List (Option Descriptor)). Twins sides (with_table S p table) (with_table T p t)) (sym same)
    (subst (λ (x : Option Process). Twins sides (with_table S p table)
    (elim x as (λ _. State) [ Some P ↦ with_process T p (record P { table = table }) | None ↦ T ])) (sym (twins.processes p mine))
    (go (process_at S p) refl))
  where
    go : (x : Option Process) → process_at S p ≡ x →
        Twins sides (elim x as (λ _. State) [ Some P ↦ with_process S p (record P { table = table }) | None ↦ S ])
        (elim x as (λ _. State) [ Some P ↦ with_process T p (record P { table = table }) | None ↦ T ])
    go None is = twins
    go (Some P) is = twins_process S T p (record P { table = table }) P twins mine is on

-- ---- descriptions

pub apart_by : (sides : Sides) (S : State) (d : ℕ) (change : Description → Description) → AreApart sides S →
    ((D : Description) → description_at S d ≡ Some D → TargetIsOn sides (sides.description d) (change D).target) →
    AreApart sides (with_description_by S d change)
apart_by sides S d change apart on = record {
  tables = λ p n e is. apart.tables p n e (sym (ap (λ x. place (table_in x) n) (by_list p S (with_description_by S d change) refl)) ∙ is);
  descriptions = λ i D is. bool_cases (d == i)
      (λ same.
      let at : d ≡ i = eqb-true d i same in
      changed_one i D at (description_at S i) refl (sym (place-changed S.descriptions d i change
      ∙ ap (λ b. cond b (option_map change (description_at S i)) (description_at S i)) same) ∙ is))
      (λ other. apart.descriptions i D (sym (place-changed S.descriptions d i change
      ∙ ap (λ b. cond b (option_map change (description_at S i)) (description_at S i)) other) ∙ is));
}
  where
    changed_one : (i : ℕ) (D : Description) → d ≡ i → (x : Option Description) → description_at S i ≡ x → option_map change x ≡ Some D →
        TargetIsOn sides (sides.description i) D.target
    changed_one i D at None here is = absurd (cc is)
    changed_one i D at (Some E) here is =
        let same : change E ≡ D = cc is in
        subst (λ (F : Description). TargetIsOn sides (sides.description i) F.target) same
        (subst (λ (k : ℕ). TargetIsOn sides (sides.description k) (change E).target) at
        (on E (ap (λ (k : ℕ). description_at S k) at ∙ here)))

-- both descriptions of a number, or neither
pub both_shown : (S T : State) (d : ℕ) (D : Description) → shown_at T d ≡ shown_at S d → description_at S d ≡ Some D →
    (E : Description) × (description_at T d ≡ Some E) × (shown_as T E ≡ shown_as S D)
both_shown S T d D shown here = go (description_at T d) refl
    (shown ∙ ap (option_map (shown_as S)) here)
  where
    go : (x : Option Description) → description_at T d ≡ x →
        option_map (shown_as T) x ≡ Some (shown_as S D) →
        (E : Description) × (description_at T d ≡ Some E)
        × (shown_as T E ≡ shown_as S D)
    go None is h = absurd (cc h)
    go (Some E) is h = (E, is, cc h)

pub none_shown : (S T : State) (d : ℕ) → shown_at T d ≡ shown_at S d → description_at S d ≡ None → description_at T d ≡ None
none_shown S T d shown here = go (description_at T d) refl
    (shown ∙ ap (option_map (shown_as S)) here)
  where
    go : (x : Option Description) → description_at T d ≡ x →
        option_map (shown_as T) x ≡ None → description_at T d ≡ None
    go None is h = is
    go (Some E) is h = absurd (cc h)

pub twins_by : {sides : Sides} (S T : State) (d : ℕ) (f g : Description → Description) → Twins sides S T → sides.description d ≡ true →
    ((D E : Description) → description_at S d ≡ Some D → description_at T d ≡ Some E →
    shown_as T E ≡ shown_as S D →
    TargetIsOn sides true (f D).target × TargetIsOn sides true (g E).target
    × (shown_as T (g E) ≡ shown_as S (f D))) →
    Twins sides (with_description_by S d f) (with_description_by T d g)
twins_by {sides} S T d f g twins mine same = record {
  left = apart_by sides S d f twins.left (λ D is. subst (λ b. TargetIsOn sides b (f D).target) (sym mine) (at_left D is));
  right = apart_by sides T d g twins.right (λ E is. subst (λ b. TargetIsOn sides b (g E).target) (sym mine) (at_right E is));
  processes = λ p own. by_list p T (with_description_by T d g) refl ∙ twins.processes p own
      ∙ sym (by_list p S (with_description_by S d f) refl);
  descriptions = λ i own. bool_cases (d == i)
      (λ at. subst (λ (k : ℕ). shown_at (with_description_by T d g) k ≡ shown_at (with_description_by S d f) k) (eqb-true d i at)
      (ap (see T) (here T g) ∙ changed_alike (description_at S d) refl ∙ sym (ap (see S) (here S f))))
      (λ other. ap (see T) (there T g i other) ∙ twins.descriptions i own ∙ sym (ap (see S) (there S f i other)));
}
  where
    see : (U : State) → Option Description → Option (Description × Option Body)
    see U x = option_map (shown_as U) x

    here : (U : State) (h : Description → Description) →
        description_at (with_description_by U d h) d ≡ option_map h (description_at U d)
    here U h = place-changed U.descriptions d d h
        ∙ ap (λ b. cond b (option_map h (description_at U d)) (description_at U d)) (eq-eqb d d refl)

    there : (U : State) (h : Description → Description) (i : ℕ) → (d == i) ≡ false →
        description_at (with_description_by U d h) i ≡ description_at U i
    there U h i other = place-changed U.descriptions d i h
        ∙ ap (λ b. cond b (option_map h (description_at U i)) (description_at U i)) other

    at_left : (D : Description) → description_at S d ≡ Some D → TargetIsOn sides true (f D).target
    at_left D is = let w = both_shown S T d D (twins.descriptions d mine) is in (same D w.0 is w.1 w.2).0

    at_right : (E : Description) → description_at T d ≡ Some E → TargetIsOn sides true (g E).target
    at_right E is = let w = both_shown T S d E (sym (twins.descriptions d mine)) is in (same w.0 E w.1 is (sym w.2)).1

    changed_alike : (x : Option Description) → description_at S d ≡ x → see T (option_map g (description_at T d)) ≡ see S (option_map f
        (description_at S d))
    changed_alike None is = ap (λ x. see T (option_map g x)) (none_shown S T d (twins.descriptions d mine) is)
        ∙ sym (ap (λ x. see S (option_map f x)) is)
    changed_alike (Some D) is =
        let w = both_shown S T d D (twins.descriptions d mine) is in
        ap (λ x. see T (option_map g x)) w.1 ∙ ap (λ (x : Description × Option Body). Some x) (same D w.0 is w.1 w.2).2
        ∙ sym (ap (λ x. see S (option_map f x)) is)

-- of a description that is put there
pub put_by : (S : State) (d : ℕ) (D E : Description) → description_at S d ≡ Some D → with_description S d E ≡ with_description_by S d
    (λ x. E)
put_by S d D E here = ap (λ (o : Option Description). record S { descriptions = slice_set S.descriptions d (option_map (λ x. E) o) })
    (sym here)

pub twins_put : {sides : Sides} (S T : State) (d : ℕ) (D E F G : Description) → Twins sides S T → sides.description d ≡ true →
    description_at S d ≡ Some D → description_at T d ≡ Some E → TargetIsOn sides true F.target → TargetIsOn sides true G.target →
    shown_as T G ≡ shown_as S F → Twins sides (with_description S d F) (with_description T d G)
twins_put {sides} S T d D E F G twins mine here there left right shown =
    subst (λ (U : State). Twins sides U (with_description T d G)) (sym (put_by S d D F here))
    (subst (λ (V : State). Twins sides (with_description_by S d (λ x. F)) V) (sym (put_by T d E G there))
    (twins_by S T d (λ x. F) (λ x. G) twins mine (λ x y is at old. (left, right, shown))))

-- ---- what is behind

-- what a description shows, by its parts: it leads to the same file object, or to a socket with the same queue but for who sent
pub target_cases : (Q : Description → Description → Type 0) (S T : State) (D E : Description) → shown_as T E ≡ shown_as S D →
    ((o : ℕ) → D.target ≡ to_object o → E.target ≡ to_object o → body_at T o ≡ body_at S o →
    Q (record D { target = to_object o }) (record D { target = to_object o })) →
    ((s : Socket) (q : List Message) → D.target ≡ to_socket s → E.target ≡ to_socket (record s { queue = q }) →
    map untold q ≡ map untold s.queue →
    Q (record D { target = to_socket s }) (record D { target = to_socket (record s { queue = q }) })) → Q D E
target_cases Q S T D E shown of_object of_socket = subst (λ (F : Description). Q D F) (sym parts) (go D.target E.target refl refl
    (ap (λ (w : Description × Option Body). (w.0).target) shown) (ap (λ (w : Description × Option Body). w.1) shown))
  where
    parts : E ≡ record D { target = E.target }
    parts = ap (λ (w : Description × Option Body). record (w.0) { target = E.target }) shown

    go : (t u : Target) → D.target ≡ t → E.target ≡ u → changed_target untold_in E.target ≡ changed_target untold_in D.target →
        body_behind T E.target ≡ body_behind S D.target → Q D (record D { target = E.target })
    go (to_object o) (to_object k) is at alike body =
        let moved : to_object k ≡ to_object o = sym (ap (changed_target untold_in) at) ∙ alike ∙ ap (changed_target untold_in) is in
        let same : k ≡ o = cc moved in
        let led : E.target ≡ to_object o = at ∙ ap to_object same in
        subst (λ (t : Target). Q (record D { target = t }) (record D { target = E.target })) (sym is)
        (subst (λ (t : Target). Q (record D { target = to_object o }) (record D { target = t })) (sym led)
        (of_object o is led (sym (ap (body_behind T) led) ∙ body ∙ ap (body_behind S) is)))
    go (to_object o) (to_socket s) is at alike body =
        let moved : to_socket (untold_in s) ≡ to_object o = sym (ap (changed_target untold_in) at) ∙ alike ∙ ap
        (changed_target untold_in) is in
        absurd (cc moved)
    go (to_socket s) (to_object o) is at alike body =
        let moved : to_object o ≡ to_socket (untold_in s) = sym (ap (changed_target untold_in) at) ∙ alike ∙ ap
        (changed_target untold_in) is in
        absurd (cc moved)
    go (to_socket s) (to_socket u) is at alike body =
        let moved : to_socket (untold_in u) ≡ to_socket (untold_in s) =
        sym (ap (changed_target untold_in) at) ∙ alike ∙ ap (changed_target untold_in) is in
        let same : untold_in u ≡ untold_in s = cc moved in
        let made : u ≡ record s { queue = u.queue } = ap (λ (x : Socket). record x { queue = u.queue }) same in
        let led : E.target ≡ to_socket (record s { queue = u.queue }) = at ∙ ap to_socket made in
        subst (λ (t : Target). Q (record D { target = t }) (record D { target = E.target })) (sym is)
        (subst (λ (t : Target). Q (record D { target = to_socket s }) (record D { target = t })) (sym led)
        (of_socket s u.queue is led (ap (λ (x : Socket). x.queue) same)))

-- the socket with a number is there in both, or in neither
pub socket_cases : (R : Option Socket → Option Socket → Type 0) (S T : State) (d : ℕ) → shown_at T d ≡ shown_at S d → R None None →
    ((s : Socket) (q : List Message) → socket_at S d ≡ Some s → socket_at T d ≡ Some (record s { queue = q }) →
    map untold q ≡ map untold s.queue → R (Some s) (Some (record s { queue = q }))) → R (socket_at S d) (socket_at T d)
socket_cases R S T d shown none some = go (description_at S d) refl
  where
    go : (x : Option Description) → description_at S d ≡ x → R (socket_at S d) (socket_at T d)
    go None is = subst (λ (y : Option Socket). R (socket_at S d) y) (sym (ap socket_in (none_shown S T d shown is)))
        (subst (λ (x : Option Socket). R x None) (sym (ap socket_in is)) none)
    go (Some D) is =
        let w = both_shown S T d D shown is in
        subst (λ (y : Option Socket). R (socket_at S d) y) (sym (ap socket_in w.1))
        (subst (λ (x : Option Socket). R x (socket_in (Some w.0))) (sym (ap socket_in is))
        (target_cases (λ (D E : Description). R (socket_in (Some D)) (socket_in (Some E))) S T D w.0 w.2
        (λ o at led body. none)
        (λ s q at led same. some s q (ap socket_in is ∙ ap socket_of at) (ap socket_in w.1 ∙ ap socket_of led) same)))

-- and so is a file object, of which what is in it alone is the same
pub object_cases : (R : Option View → Option View → Type 0) (S T : State) (o : ℕ) → body_at T o ≡ body_at S o → R None None →
    ((view : View) (opened : Bool) (faults : ℕ) → place S.objects o ≡ Some view →
    place T.objects o ≡ Some (record view { opened = opened; faults = faults }) →
    R (Some view) (Some (record view { opened = opened; faults = faults }))) → R (place S.objects o) (place T.objects o)
object_cases R S T o same none some = go (place S.objects o) (place T.objects o) refl refl same
  where
    go : (x y : Option View) → place S.objects o ≡ x → place T.objects o ≡ y → body_in (place T.objects o) ≡ body_in (place S.objects o) →
        R (place S.objects o) (place T.objects o)
    go None None is at alike = subst (λ (y : Option View). R (place S.objects o) y) (sym at) (subst (λ (x : Option View). R x None)
        (sym is) none)
    go None (Some v) is at alike =
        let clash : Some v.body ≡ None = sym (ap body_in at) ∙ alike ∙ ap body_in is in absurd (cc clash)
    go (Some v) None is at alike =
        let clash : None ≡ Some v.body = sym (ap body_in at) ∙ alike ∙ ap body_in is in absurd (cc clash)
    go (Some v) (Some w) is at alike =
        let both : Some w.body ≡ Some v.body = sym (ap body_in at) ∙ alike ∙ ap body_in is in
        let body : w.body ≡ v.body = cc both in
        let made : w ≡ record v { opened = w.opened; faults = w.faults } = ap (λ (b : Body). record w { body = b }) body in
        let there : place T.objects o ≡ Some (record v { opened = w.opened; faults = w.faults }) = at ∙ ap (λ (z : View). Some z) made in
        subst (λ (y : Option View). R (place S.objects o) y) (sym there)
        (subst (λ (x : Option View). R x (Some (record v { opened = w.opened; faults = w.faults }))) (sym is)
        (some v w.opened w.faults is there))

-- ---- sockets and file objects that change

pub socket_on : (sides : Sides) (S : State) (d : ℕ) (s : Socket) → AreApart sides S → sides.description d ≡ true → socket_at S d ≡ Some s →
    SocketIsOn sides true s
socket_on sides S d s apart mine is = subst (λ b. SocketIsOn sides b s) mine (socket_aside sides S d s apart is)

pub twins_socket : {sides : Sides} (S T : State) (d : ℕ) (f g : Socket → Socket) → Twins sides S T → sides.description d ≡ true →
    ((s : Socket) (q : List Message) → SocketIsOn sides true s → SocketIsOn sides true (record s { queue = q }) →
    socket_at S d ≡ Some s → socket_at T d ≡ Some (record s { queue = q }) → map untold q ≡ map untold s.queue →
    SocketIsOn sides true (f s) × SocketIsOn sides true (g (record s { queue = q }))
    × (untold_in (g (record s { queue = q })) ≡ untold_in (f s))) → Twins sides (with_socket_by S d f) (with_socket_by T d g)
twins_socket {sides} S T d f g twins mine same = twins_by S T d (changed f) (changed g) twins mine
    (λ D E here there shown. go D E here there shown)
  where
    Q : Description → Description → Type 0
    Q D E = TargetIsOn sides true (changed f D).target × TargetIsOn sides true (changed g E).target
        × (shown_as T (changed g E) ≡ shown_as S (changed f D))

    go : (D E : Description) → description_at S d ≡ Some D → description_at T d ≡ Some E → shown_as T E ≡ shown_as S D → Q D E
    go D E here there shown = target_cases Q S T D E shown
        (λ o is led body.
        let on : sides.object o ≡ true = subst (λ (t : Target). TargetIsOn sides true t) is
        (subst (λ b. TargetIsOn sides b D.target) mine (twins.left.descriptions d D here)) in
        (on, on, ap (λ (b : Option Body). (record D { target = to_object o }, b)) body))
        (λ s q is led alike.
        let here_s : socket_at S d ≡ Some s = ap socket_in here ∙ ap socket_of is in
        let there_s : socket_at T d ≡ Some (record s { queue = q }) = ap socket_in there ∙ ap socket_of led in
        let w = same s q (socket_on sides S d s twins.left mine here_s) (socket_on sides T d
        (record s { queue = q }) twins.right mine there_s)
        here_s there_s alike in
        (w.0, w.1, ap (λ (x : Socket). (record D { target = to_socket x }, none_behind)) w.2))
      where
        none_behind : Option Body
        none_behind = None

pub put_other : (S : State) (o k : ℕ) (v : View) → (o == k) ≡ false → body_at (with_object S o v) k ≡ body_at S k
put_other S o k v other = ap body_in (get_or-set_other S.objects o k (Some v) None (λ e. eqb-false o k other (sym e)))

pub put_here : (S : State) (o : ℕ) (v w : View) → place S.objects o ≡ Some w → body_at (with_object S o v) o ≡ Some v.body
put_here S o v w here = ap body_in (put S.objects o here)
  where
    put : (os : List (Option View)) (n : ℕ) → place os n ≡ Some w → place (filled os n v) n ≡ Some v
    put [] n h = absurd (cc h)
    put (x ∷ xs) zero h = refl
    put (x ∷ xs) (suc n) h = put xs n h

pub twins_object : {sides : Sides} (S T : State) (o : ℕ) (v w old older : View) → Twins sides S T → place S.objects o ≡ Some old →
    place T.objects o ≡ Some older → w.body ≡ v.body → Twins sides (with_object S o v) (with_object T o w)
twins_object {sides} S T o v w old older twins here there same = record {
  left = record {
    tables = λ p n e is. twins.left.tables p n e (sym (ap (λ x. place (table_in x) n) (by_list p S (with_object S o v) refl)) ∙ is);
    descriptions = λ d D is. twins.left.descriptions d D is;
  };
  right = record {
    tables = λ p n e is. twins.right.tables p n e (sym (ap (λ x. place (table_in x) n) (by_list p T (with_object T o w) refl)) ∙ is);
    descriptions = λ d D is. twins.right.descriptions d D is;
  };
  processes = λ p mine. by_list p T (with_object T o w) refl ∙ twins.processes p mine ∙ sym (by_list p S (with_object S o v) refl);
  descriptions = λ d mine. by_place d mine (description_at S d) refl;
}
  where
    body : (k : ℕ) → body_at T k ≡ body_at S k → body_at (with_object T o w) k ≡ body_at (with_object S o v) k
    body k alike = bool_cases (o == k)
        (λ at. subst (λ (n : ℕ). body_at (with_object T o w) n ≡ body_at (with_object S o v) n) (eqb-true o k at)
        (put_here T o w older there ∙ ap (λ (b : Body). Some b) same ∙ sym (put_here S o v old here)))
        (λ other. put_other T o k w other ∙ alike ∙ sym (put_other S o k v other))

    Q : Description → Description → Type 0
    Q D E = shown_as (with_object T o w) E ≡ shown_as (with_object S o v) D

    by_place : (d : ℕ) → sides.description d ≡ true → (x : Option Description) → description_at S d ≡ x →
        shown_at (with_object T o w) d ≡ shown_at (with_object S o v) d
    by_place d mine None is = ap (option_map (shown_as (with_object T o w))) (none_shown S T d (twins.descriptions d mine) is)
        ∙ sym (ap (option_map (shown_as (with_object S o v))) is)
    by_place d mine (Some D) is =
        let x = both_shown S T d D (twins.descriptions d mine) is in
        ap (option_map (shown_as (with_object T o w))) x.1
        ∙ ap (λ (y : Description × Option Body). Some y) (target_cases Q S T D x.0 x.2
        (λ k at led alike. ap (λ (b : Option Body). (record D { target = to_object k }, b)) (body k alike))
        (λ s q at led alike. ap (λ (ms : List Message).
        (record D { target = to_socket (record s { queue = ms }) }, none_behind)) alike))
        ∙ sym (ap (option_map (shown_as (with_object S o v))) is)
      where
        none_behind : Option Body
        none_behind = None
