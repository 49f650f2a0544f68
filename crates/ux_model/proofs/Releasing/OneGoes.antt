-- One description goes: its place is emptied, and one other is notified.
use Rattle.std.proofs.Common.{◌≡◌, ℕ, zero, suc, ◌+◌, ◌<◌, ◌≤◌, Bool, true, false, ◌&&◌, ◌||◌, ◌==◌, cond, List, [], ◌∷◌, length, get_or}
use Rattle.std.proofs.Common.{map, Option, Some, None, is_some, option_map, option_and_then, sym, ◌∙◌, ap, subst, refl, zero-add, arith}
use Rattle.std.specs.List.{sum_by, list_any, enumerate_from}
use Rattle.std.proofs.lemmas.Bool.{eqb-true, eqb-false, eq-eqb, ne_eqb, and_parts}
use Rattle.std.proofs.lemmas.List.{get_or-map, get_or-set_same, get_or-set_other, ext_get_or, length-map, length-set}
use Rattle.std.proofs.lemmas.List.FromFn.{length-enumerate_from, get_or-enumerate_from}
use Rattle.std.proofs.lemmas.List.Folds.{list_any_none, list_any_at}
use Rattle.std.proofs.lemmas.List.Elements.{All-from_get_or}
use Rattle.std.proofs.lemmas.List.Sums.{sum_by-set, get_or-le-sum_by}
use mathlib.Core.Bool.{or-false}
use Rattle.ux_model.specs.Places.{place, filled, emptied, changed_place}
use Rattle.ux_model.specs.Socket.{Phase, idle, listening, connected, associated, peer_of, with_reset}
use Rattle.ux_model.specs.Description.{Description, Target, to_object, to_socket, socket_of, changed, changed_target}
use Rattle.ux_model.specs.State.{State, description_at, socket_at}
use Rattle.ux_model.specs.References.{refs, table_refs, target_refs, description_refs}
use Rattle.ux_model.specs.Release.{resets_peer, place_after_loss, without, is_unreferenced, has_unreferenced}
use Rattle.ux_model.proofs.Releasing.Losses.{is_reset_by_loss, target_after_loss, description_after_loss}
use Rattle.ux_model.specs.Peers.{target_peer, peer_in, Paired, lost_peer, with_peer_reset}
use Rattle.ux_model.proofs.Releasing.AnyOrder.{live_in, fewer_live}
use Rattle.ux_model.proofs.Lists.ChangedPlaces.{bool_cases, place_within, place-changed, length-changed, sum_by-changed}

-- ---- who is notified

abbrev pub tells : Option ℕ → ℕ → Bool
tells None i = false
tells (Some p) i = p == i

place-told : (l : Option ℕ) (ds : List (Option Description)) (i : ℕ) →
    place (with_peer_reset l ds) i ≡ cond (tells l i) (option_map (changed (with_reset true)) (place ds i)) (place ds i)
place-told None ds i = refl
place-told (Some p) ds i = place-changed ds p i (changed (with_reset true))

length-told : (l : Option ℕ) (ds : List (Option Description)) → length (with_peer_reset l ds) ≡ length ds
length-told None ds = refl
length-told (Some p) ds = length-changed ds p (changed (with_reset true))

-- what is notified has this peer
tells_peer : (D : Description) (i : ℕ) → tells (lost_peer D) i ≡ true → target_peer D.target ≡ Some i
tells_peer D i = go (resets_peer (socket_of D.target)) (target_peer D.target)
  where
    go : (r : Bool) (l : Option ℕ) → tells (cond r l None) i ≡ true → l ≡ Some i
    go true None h = absurd (cc h)
    go true (Some p) h = ap Some (eqb-true p i h)
    go false l h = absurd (cc h)

-- where its peer is this one, it is notified exactly if the loss resets
tells_where : (D : Description) (i : ℕ) → target_peer D.target ≡ Some i → tells (lost_peer D) i ≡ resets_peer (socket_of D.target)
tells_where D i h = ap (λ l. tells (cond (resets_peer (socket_of D.target)) l None) i) h ∙ go (resets_peer (socket_of D.target))
  where
    go : (r : Bool) → tells (cond r (Some i) None) i ≡ r
    go true = eq-eqb i i refl
    go false = refl

untold : (D : Description) (i : ℕ) → (target_peer D.target ≡ Some i → ⊥) → tells (lost_peer D) i ≡ false
untold D i other = bool_cases (tells (lost_peer D) i) (λ h. absurd (other (tells_peer D i h))) (λ h. h)

-- a socket is reset by the loss of D exactly where it is notified
reset_as_told : (S : State) (d i : ℕ) (D : Description) (phase : Phase) → description_at S d ≡ Some D →
    (peer_of phase ≡ Some d → target_peer D.target ≡ Some i) → (target_peer D.target ≡ Some i → peer_of phase ≡ Some d) →
    is_reset_by_loss (λ n. n == d) S phase ≡ tells (lost_peer D) i
reset_as_told S d i D idle here there back = sym (untold D i (λ h. absurd (cc (back h))))
reset_as_told S d i D (listening backlog cred) here there back = sym (untold D i (λ h. absurd (cc (back h))))
reset_as_told S d i D (associated target) here there back = sym (untold D i (λ h. absurd (cc (back h))))
reset_as_told S d i D (connected peer) here there back = bool_cases (peer == d)
    (λ h.
    let e : peer ≡ d = eqb-true peer d h in
    let socket : resets_peer (socket_at S peer) ≡ resets_peer (socket_of D.target) =
    ap (λ n. resets_peer (socket_at S n)) e ∙ ap (λ x. resets_peer (option_and_then (λ E. socket_of (Description.target E)) x)) here in
    ap (λ b. b && resets_peer (socket_at S peer)) h ∙ socket ∙ sym (tells_where D i (there (ap Some e))))
    (λ h. ap (λ b. b && resets_peer (socket_at S peer)) h ∙ sym (untold D i (λ q. wrong h (back q))))
  where
    wrong : (peer == d) ≡ false → Some peer ≡ Some d → ⊥
    wrong h q = let e : peer ≡ d = cc q in eqb-false peer d h e

-- what is left at a place that doesn't go
told_target : (S : State) (d i : ℕ) (D : Description) (t : Target) → description_at S d ≡ Some D →
    (target_peer t ≡ Some d → target_peer D.target ≡ Some i) → (target_peer D.target ≡ Some i → target_peer t ≡ Some d) →
    target_after_loss (λ n. n == d) S t ≡ cond (tells (lost_peer D) i) (changed_target (with_reset true) t) t
told_target S d i D (to_object o) here there back = go (tells (lost_peer D) i)
  where
    go : (b : Bool) → to_object o ≡ cond b (to_object o) (to_object o)
    go true = refl
    go false = refl
told_target S d i D (to_socket s) here there back =
    ap (λ b. to_socket (record s { reset = s.reset || b })) (reset_as_told S d i D s.phase here there back) ∙ go (tells (lost_peer D) i)
  where
    always : (r : Bool) → r || true ≡ true
    always true = refl
    always false = refl

    go : (b : Bool) → to_socket (record s { reset = s.reset || b }) ≡ cond b (to_socket (record s { reset = true })) (to_socket s)
    go true = ap (λ r. to_socket (record s { reset = r })) (always s.reset)
    go false = ap (λ r. to_socket (record s { reset = r })) (or-false s.reset)

told_place : (S : State) (d i : ℕ) (D : Description) (x : Option Description) → Paired S.descriptions → description_at S d ≡ Some D →
    description_at S i ≡ x →
    option_map (description_after_loss (λ n. n == d) S) x ≡ cond (tells (lost_peer D) i) (option_map (changed (with_reset true)) x) x
told_place S d i D None paired here at = go (tells (lost_peer D) i)
  where
    go : (b : Bool) → ◌≡◌ {A = Option Description} None (cond b None None)
    go true = refl
    go false = refl
told_place S d i D (Some E) paired here at =
    ap (λ t. Some (record E { target = t })) (told_target S d i D E.target here there back) ∙ go (tells (lost_peer D) i)
  where
    there : target_peer E.target ≡ Some d → target_peer D.target ≡ Some i
    there h = sym (ap peer_in here) ∙ paired.returned i d (ap peer_in at ∙ h) (ap is_some here)

    back : target_peer D.target ≡ Some i → target_peer E.target ≡ Some d
    back h = sym (ap peer_in at) ∙ paired.returned d i (ap peer_in here ∙ h) (ap is_some at)

    go : (b : Bool) → Some (record E { target = cond b (changed_target (with_reset true) E.target) E.target }) ≡ cond b
        (Some (changed (with_reset true) E)) (Some E)
    go true = refl
    go false = refl

-- ---- all places

-- the place i of a list that is numbered from 0
numbered : {X : Type 0} (xs : List X) (i : ℕ) (d : ℕ × X) → i < length xs → get_or (enumerate_from 0 xs) i d ≡ (i, get_or xs i d.1)
numbered xs i d inside = get_or-enumerate_from 0 xs i d inside ∙ ap (λ n. (n, get_or xs i d.1)) (zero-add i)

after_loss : (S : State) (d i : ℕ) (D : Description) → Paired S.descriptions → description_at S d ≡ Some D → d < length S.descriptions →
    place (with_peer_reset (lost_peer D) (emptied S.descriptions d)) i ≡ place_after_loss (λ n. n == d) S (i, description_at S i)
after_loss S d i D paired here inside = place-told (lost_peer D) (emptied S.descriptions d) i ∙ bool_cases (i == d)
    (λ h.
    let gone : place (emptied S.descriptions d) i ≡ None = ap (place (emptied S.descriptions d)) (eqb-true i d h)
    ∙ get_or-set_same S.descriptions d None None inside in
    ap (λ x. cond (tells (lost_peer D) i) (option_map (changed (with_reset true)) x) x) gone ∙ nothing (tells (lost_peer D) i)
    ∙ sym (ap (λ b. cond b None (option_map (description_after_loss (λ n. n == d) S) (description_at S i))) h))
    (λ h.
    let still : place (emptied S.descriptions d) i ≡ description_at S i = get_or-set_other S.descriptions d i None None (eqb-false i d h) in
    ap (λ x. cond (tells (lost_peer D) i) (option_map (changed (with_reset true)) x) x) still
    ∙ sym (told_place S d i D (description_at S i) paired here refl)
    ∙ sym (ap (λ b. cond b None (option_map (description_after_loss (λ n. n == d) S) (description_at S i))) h))
  where
    nothing : (b : Bool) → cond b (option_map (changed (with_reset true)) None) None ≡ None
    nothing true = refl
    nothing false = refl

-- its place is emptied, and its peer notified: that is the definitions' loss
pub one_goes : (S : State) (d : ℕ) (D : Description) → Paired S.descriptions → description_at S d ≡ Some D →
    with_peer_reset (lost_peer D) (emptied S.descriptions d) ≡ map (place_after_loss (λ n. n == d) S) (enumerate_from 0 S.descriptions)
one_goes S d D paired here =
    let inside : d < length S.descriptions = place_within S.descriptions d D here in
    let long : length (with_peer_reset (lost_peer D) (emptied S.descriptions d)) ≡ length S.descriptions =
    length-told (lost_peer D) (emptied S.descriptions d) ∙ length-set S.descriptions d None in
    let long' : length (map (place_after_loss (λ n. n == d) S) (enumerate_from 0 S.descriptions)) ≡ length S.descriptions =
    length-map (enumerate_from 0 S.descriptions) (place_after_loss (λ n. n == d) S) ∙ length-enumerate_from 0 S.descriptions in
    ext_get_or None _ _ (long ∙ sym long') (λ i h.
    let at : i < length S.descriptions = subst (λ n. i < n) long h in
    let at_all : i < length (enumerate_from 0 S.descriptions) = subst (λ n. i < n) (sym (length-enumerate_from 0 S.descriptions)) at in
    after_loss S d i D paired here inside ∙
    sym (get_or-map (place_after_loss (λ n. n == d) S) (enumerate_from 0 S.descriptions) i (0, None) None at_all ∙
    ap (place_after_loss (λ n. n == d) S) (numbered S.descriptions i (0, None) at)))

-- ---- what is left

reset_refs : (k : ℕ) (x : Option Description) → description_refs k (option_map (changed (with_reset true)) x) ≡ description_refs k x
reset_refs k None = refl
reset_refs k (Some D) = by_target D.target
  where
    by_target : (t : Target) → target_refs k (changed_target (with_reset true) t) ≡ target_refs k t
    by_target (to_object o) = refl
    by_target (to_socket s) = refl

told_refs : (k : ℕ) (l : Option ℕ) (ds : List (Option Description)) →
    sum_by (description_refs k) (with_peer_reset l ds) ≡ sum_by (description_refs k) ds
told_refs k None ds = refl
told_refs k (Some p) ds = let e = sum_by-changed (description_refs k) (changed (with_reset true)) (λ x. 0) (λ x. 0)
    (λ x. let h = reset_refs k x in omega (arith, h)) ds p in omega (arith, e)

-- the references that the lost one held go, and no others
pub left_refs : (S T : State) (d k : ℕ) (D : Description) → description_at S d ≡ Some D → T.processes ≡ S.processes →
    T.descriptions ≡ with_peer_reset (lost_peer D) (emptied S.descriptions d) →
    refs T k + target_refs k D.target ≡ refs S k
unfolding refs
left_refs S T d k D here same e =
    let a : sum_by (description_refs k) T.descriptions ≡ sum_by (description_refs k) (emptied S.descriptions d) =
    ap (sum_by (description_refs k)) e ∙ told_refs k (lost_peer D) (emptied S.descriptions d) in
    let b = sum_by-set (description_refs k) S.descriptions d None None (place_within S.descriptions d D here) in
    let c : description_refs k (place S.descriptions d) ≡ target_refs k D.target = ap (description_refs k) here in
    let p : sum_by (λ P. table_refs k P.table) T.processes ≡ sum_by (λ P. table_refs k P.table) S.processes =
    ap (sum_by (λ P. table_refs k P.table)) same in
    omega (arith, a, b, c, p)

-- what a description holds is counted
pub held_refs : (S : State) (d k : ℕ) (D : Description) → description_at S d ≡ Some D → target_refs k D.target ≤ refs S k
unfolding refs
held_refs S d k D here =
    let a = get_or-le-sum_by (description_refs k) S.descriptions d None (place_within S.descriptions d D here) in
    let b : description_refs k (place S.descriptions d) ≡ target_refs k D.target = ap (description_refs k) here in
    omega (arith, a, b)

peer-reset : (x : Option Description) → peer_in (option_map (changed (with_reset true)) x) ≡ peer_in x
peer-reset None = refl
peer-reset (Some D) = by_target D.target
  where
    by_target : (t : Target) → target_peer (changed_target (with_reset true) t) ≡ target_peer t
    by_target (to_object o) = refl
    by_target (to_socket s) = refl

some-map : {X : Type 0} (f : X → X) (x : Option X) → is_some (option_map f x) ≡ is_some x
some-map f None = refl
some-map f (Some x) = refl

-- peers stay as they are where each place names the same
pub paired-alike : (ds es : List (Option Description)) → length es ≡ length ds → ((n : ℕ) → peer_in (place es n) ≡ peer_in (place ds n)) →
    ((n : ℕ) → is_some (place es n) ≡ is_some (place ds n)) →
    Paired ds → Paired es
paired-alike ds es long peer held paired = record {
  returned = λ i q e there. peer q ∙ paired.returned i q (sym (peer i) ∙ e) (sym (held q) ∙ there);
  known = λ i q e. let a = paired.known i q (sym (peer i) ∙ e) in omega (arith, a, long);
}

-- as where one changes, which names the same
pub paired-here : (ds : List (Option Description)) (p : ℕ) (f : Description → Description) →
    peer_in (option_map f (place ds p)) ≡ peer_in (place ds p) → Paired ds → Paired (changed_place ds p f)
paired-here ds p f same = paired-alike ds (changed_place ds p f) (length-changed ds p f)
    (λ n. ap peer_in (place-changed ds p n f) ∙ either n peer_in same)
    (λ n. ap is_some (place-changed ds p n f) ∙ either n is_some (some-map f (place ds p)))
  where
    either : {Y : Type 0} (n : ℕ) (g : Option Description → Y) → g (option_map f (place ds p)) ≡ g (place ds p) →
        g (cond (p == n) (option_map f (place ds n)) (place ds n)) ≡ g (place ds n)
    either n g e = bool_cases (p == n)
        (λ h. ap (λ b. g (cond b (option_map f (place ds n)) (place ds n))) h
        ∙ subst (λ i. g (option_map f (place ds i)) ≡ g (place ds i)) (eqb-true p n h) e)
        (λ h. ap (λ b. g (cond b (option_map f (place ds n)) (place ds n))) h)

pub paired-changed : (ds : List (Option Description)) (p : ℕ) (f : Description → Description) →
    ((x : Option Description) → peer_in (option_map f x) ≡ peer_in x) → Paired ds → Paired (changed_place ds p f)
paired-changed ds p f same = paired-here ds p f (same (place ds p))

-- or is put again
pub paired-filled : (ds : List (Option Description)) (d : ℕ) (x y : Description) → place ds d ≡ Some x →
    target_peer y.target ≡ target_peer x.target → Paired ds → Paired (filled ds d y)
paired-filled ds d x y here same = paired-alike ds (filled ds d y) (length-set ds d (Some y))
    (λ n. at n peer_in (same ∙ sym (ap peer_in here)))
    (λ n. at n is_some (sym (ap is_some here)))
  where
    at : {Y : Type 0} (n : ℕ) (g : Option Description → Y) → g (Some y) ≡ g (place ds d) → g (place (filled ds d y) n) ≡ g (place ds n)
    at n g e = bool_cases (n == d)
        (λ h. let q : n ≡ d = eqb-true n d h in
        ap (λ m. g (place (filled ds d y) m)) q ∙ ap g (get_or-set_same ds d (Some y) None (place_within ds d x here)) ∙ e
        ∙ ap (λ m. g (place ds m)) (sym q))
        (λ h. ap g (get_or-set_other ds d n (Some y) None (eqb-false n d h)))

pub paired-emptied : (ds : List (Option Description)) (d : ℕ) → d < length ds → Paired ds → Paired (emptied ds d)
paired-emptied ds d inside paired = record {
  returned = λ i q e there. bool_cases (q == d)
      (λ g. absurd (cc (there, ap is_some (ap (place (emptied ds d)) (eqb-true q d g) ∙ get_or-set_same ds d None None inside))))
      (λ g.
      let at_q : place (emptied ds d) q ≡ place ds q = get_or-set_other ds d q None None (eqb-false q d g) in
      ap peer_in at_q ∙ paired.returned i q (before i q e) (sym (ap is_some at_q) ∙ there));
  known = λ i q e. let a = paired.known i q (before i q e) in let b = length-set ds d None in omega (arith, a, b);
}
  where
    before : (i q : ℕ) → peer_in (place (emptied ds d) i) ≡ Some q → peer_in (place ds i) ≡ Some q
    before i q e = bool_cases (i == d)
        (λ h. absurd (cc (e, ap peer_in (ap (place (emptied ds d)) (eqb-true i d h) ∙ get_or-set_same ds d None None inside))))
        (λ h. sym (ap peer_in (get_or-set_other ds d i None None (eqb-false i d h))) ∙ e)

pub paired-told : (l : Option ℕ) (ds : List (Option Description)) → Paired ds → Paired (with_peer_reset l ds)
paired-told None ds paired = paired
paired-told (Some p) ds paired = paired-changed ds p (changed (with_reset true)) peer-reset paired

-- ---- again and again

off : (b : Bool) → b && false ≡ false
off true = refl
off false = refl

-- none is left where no count is 0
pub none_unreferenced : (S : State) → ((k : ℕ) → is_some (description_at S k) ≡ true → 0 < refs S k) → has_unreferenced S ≡ false
none_unreferenced S each = list_any_none (λ e. is_unreferenced S e.0) (enumerate_from 0 S.descriptions)
    (All-from_get_or (λ e. is_unreferenced S e.0 ≡ false) (enumerate_from 0 S.descriptions) (0, None) (λ i h.
    let inside : i < length S.descriptions = subst (λ n. i < n) (length-enumerate_from 0 S.descriptions) h in
    ap (λ e. is_unreferenced S e.0) (numbered S.descriptions i (0, None) inside) ∙ at i))
  where
    at : (i : ℕ) → is_unreferenced S i ≡ false
    at i = bool_cases (is_some (description_at S i))
        (λ h. let more : 0 < refs S i = each i h in
        let ne : (refs S i == 0) ≡ false = ne_eqb (refs S i) 0 (λ e. omega (arith, e, more)) in
        ap (λ b. is_some (description_at S i) && b) ne ∙ off (is_some (description_at S i)))
        (λ h. ap (λ b. b && (refs S i == 0)) h)

pub unreferenced : (S : State) (d : ℕ) (D : Description) → description_at S d ≡ Some D → refs S d ≡ 0 → is_unreferenced S d ≡ true
unreferenced S d D here none = ap (λ b. b && (refs S d == 0)) (ap is_some here) ∙ eq-eqb (refs S d) 0 none

pub fewer_live_without : (S : State) (d : ℕ) → is_unreferenced S d ≡ true →
    live_in (State.descriptions (without (λ n. n == d) S)) < live_in S.descriptions
unfolding without
fewer_live_without S d e =
    let some : is_some (description_at S d) ≡ true = (and_parts _ _ e).0 in
    let inside : d < length S.descriptions = within S.descriptions d some in
    let found : list_any (λ e. e.0 == d) (enumerate_from 0 S.descriptions) ≡ true =
    list_any_at (λ e. e.0 == d) (enumerate_from 0 S.descriptions) d (0, None)
    (subst (λ n. d < n) (sym (length-enumerate_from 0 S.descriptions)) inside)
    (ap (λ e. e.0 == d) (numbered S.descriptions d (0, None) inside) ∙ eq-eqb d d refl) in
    let fewer = fewer_live (λ n. n == d) S 0 S.descriptions
    (λ n h. let same : n ≡ d = let q : 0 + n ≡ d = eqb-true (0 + n) d h in omega (arith, q) in
    ap (λ m. is_some (description_at S m)) same ∙ some) found in
    omega (arith, fewer)
  where
    within : (ds : List (Option Description)) (n : ℕ) → is_some (place ds n) ≡ true → n < length ds
    within [] n h = absurd (cc h)
    within (x ∷ xs) zero h = omega arith
    within (x ∷ xs) (suc n) h = let r = within xs n h in omega (arith, r)
