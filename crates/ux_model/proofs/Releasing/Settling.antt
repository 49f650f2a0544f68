-- What was released once has nothing more to release.
use Rattle.std.proofs.Common.{◌≡◌, ℕ, zero, suc, ◌+◌, ◌<◌, ◌==◌, Bool, true, false, ◌&&◌, ◌||◌, if◌then◌else◌, cond, List, [], ◌∷◌, length}
use Rattle.std.proofs.Common.{map, count_by, Option, Some, None, refl, ap, sym, subst, ◌∙◌, arith}
use Rattle.std.specs.Prelude.{is_some, filter, option_map}
use Rattle.std.specs.List.{enumerate_from, list_any}
use Rattle.std.proofs.lemmas.Bool.{ne_eqb, eq-eqb, and_right, and_left}
use Rattle.std.proofs.lemmas.List.Sums.{sum_by-cons}
use Rattle.ux_model.specs.Types.{Name, Entry, Request, Reply}
use Rattle.ux_model.specs.Places.{place}
use Rattle.ux_model.specs.Object.{View, closed}
use Rattle.ux_model.specs.Names.{PathTarget, file}
use Rattle.ux_model.specs.State.{State}
use Rattle.ux_model.specs.References.{path_names, refs, orefs}
use Rattle.ux_model.specs.Release.{without, is_unreferenced, has_unreferenced, drop_all, drop_rounds, drop_unreferenced, is_orphan}
use Rattle.ux_model.specs.Release.{without_orphans}
use Rattle.ux_model.specs.Release.{settled, released, released_objects, orphans}
use Rattle.ux_model.specs.Boot.{IsBootState}
use Rattle.ux_model.specs.Step.{Step}
use Rattle.ux_model.specs.History.{Chain, no_call, another_call}
use Rattle.ux_model.specs.Invariants.{NoneLeftUnreferenced, SettlesAtOnce, StaysSettled}
use Rattle.ux_model.proofs.Releasing.ReleaseLaws.{map_twice, place-map}
use Rattle.ux_model.proofs.Releasing.AnyOrder.{End, unreferenced_end, settled_of_none}
use Rattle.ux_model.proofs.Lists.ChangedPlaces.{bool_cases}
use Rattle.ux_model.proofs.Lists.Induction.{IsKept, kept_throughout}

-- ---- descriptions

none_found : {X : Type 0} (U : ℕ → Bool) (k : ℕ) (xs : List X) → ((d : ℕ) → U d ≡ false) →
    list_any (λ e. U e.0) (enumerate_from k xs) ≡ false
none_found U k [] none = refl
none_found U k (x ∷ xs) none = ap (λ b. b || list_any (λ e. U e.0) (enumerate_from (k + 1) xs)) (none k) ∙ none_found U (k + 1) xs none

pub none_left_unreferenced : NoneLeftUnreferenced
none_left_unreferenced S = go (unreferenced_end S)
  where
    go : End S (drop_unreferenced S) → has_unreferenced (drop_unreferenced S) ≡ false
    go all = none_found (is_unreferenced (drop_unreferenced S)) 0 (drop_unreferenced S).descriptions
        (λ d. ap (λ R. is_unreferenced R d) all.2 ∙ all.3 d)

no_round : (n : ℕ) (S : State) → has_unreferenced S ≡ false → drop_rounds n S ≡ S
unfolding drop_rounds
no_round zero S h = refl
no_round (suc n) S h = ap (λ b. elim b as (λ _. State) [ true ↦ drop_rounds n (drop_all S) | false ↦ S ]) h

pub nothing_dropped : (S : State) → has_unreferenced S ≡ false → drop_unreferenced S ≡ S
unfolding drop_unreferenced
nothing_dropped S h = no_round (length S.descriptions) S h

-- ---- file objects

-- those that go are descriptions alone
rounds_keep : (n : ℕ) (S : State) → (drop_rounds n S).objects ≡ S.objects
unfolding drop_rounds without
rounds_keep zero S = refl
rounds_keep (suc n) S = go (has_unreferenced S) (rounds_keep n (drop_all S))
  where
    go : (b : Bool) → (drop_rounds n (drop_all S)).objects ≡ S.objects →
        (elim b as (λ _. State) [ true ↦ drop_rounds n (drop_all S) | false ↦ S ]).objects ≡ S.objects
    go true h = h
    go false h = refl

pub drop_keeps : (S : State) → (drop_unreferenced S).objects ≡ S.objects
unfolding drop_unreferenced
drop_keeps S = rounds_keep (length S.descriptions) S

-- a file object refers to nothing
no_description_freed : (S : State) → has_unreferenced (without_orphans S) ≡ has_unreferenced S
unfolding refs
no_description_freed S = refl

abbrev kept_object : State → ℕ × Option View → Option View
kept_object S e = if is_orphan S e then None else e.1

gone_once : {X : Type 0} (b : Bool) (x : Option X) →
    (if is_some (if is_some x && b then None else x) && b then None else (if is_some x && b then None else x)) ≡
    (if is_some x && b then None else x)
gone_once true None = refl
gone_once true (Some x) = refl
gone_once false None = refl
gone_once false (Some x) = refl

no_orphan_twice : (S : State) → without_orphans (without_orphans S) ≡ without_orphans S
unfolding orefs
no_orphan_twice S = λ j. record S {
  objects =
      map_twice (kept_object S) (kept_object S) (kept_object S) (λ i x. gone_once (orefs S i == 0) x) 0 S.objects j;
}

-- what stands in a place without orphans
pub object_left : (S : State) (o : ℕ) → place (without_orphans S).objects
    o ≡ (if is_some (place S.objects o) && (orefs S o == 0) then None else place S.objects o)
object_left S o =
    let e : 0 + o ≡ o = omega arith in
    place-map (λ e. if is_orphan S e then None else e.1) (λ i. refl) 0 o S.objects
    ∙ ap (λ n. if is_some (place S.objects o) && (orefs S n == 0) then None else place S.objects o) e

-- ---- both

settled_drops_nothing : (S : State) → drop_unreferenced (settled S) ≡ settled S
unfolding settled
settled_drops_nothing S = nothing_dropped (settled S) (no_description_freed (drop_unreferenced S) ∙ none_left_unreferenced S)

pub settles_at_once : SettlesAtOnce
unfolding settled
settles_at_once S = ap without_orphans (settled_drops_nothing S) ∙ no_orphan_twice (drop_unreferenced S)

-- ---- which states have nothing to release

-- no description and no file object is there without a reference
pub record HasNoneLeft (S : State) : Type 0 where
  pub descriptions : (d : ℕ) → is_unreferenced S d ≡ false
  pub objects : (o : ℕ) → is_orphan S (o, place S.objects o) ≡ false

pub none_left : (S : State) → settled S ≡ S → HasNoneLeft S
unfolding settled
none_left S h =
    let found : has_unreferenced S ≡ false = sym (ap has_unreferenced h) ∙ no_description_freed (drop_unreferenced S)
    ∙ none_left_unreferenced S in
    let same : without_orphans S ≡ S = sym (ap without_orphans (nothing_dropped S found)) ∙ h in
    record {
      descriptions = settled_of_none S found;
      objects = λ o. stays (place S.objects o) (orefs S o == 0) (sym (object_left S o) ∙ ap (λ R. place (State.objects R) o) same);
    }
  where
    stays : {X : Type 0} (x : Option X) (b : Bool) → (if is_some x && b then None else x) ≡ x → is_some x && b ≡ false
    stays None b e = refl
    stays (Some x) true e = absurd (cc e)
    stays (Some x) false e = refl

all_stay : {X : Type 0} (f : ℕ → Bool) (k : ℕ) (xs : List (Option X)) → ((i : ℕ) → is_some (place xs i) && f (k + i) ≡ false) →
    map (λ e. if is_some e.1 && f e.0 then None else e.1) (enumerate_from k xs) ≡ xs
all_stay f k [] stay = refl
all_stay f k (x ∷ xs) stay =
    let e : k ≡ k + 0 = omega arith in
    let here : is_some x && f k ≡ false = ap (λ n. is_some x && f n) e ∙ stay 0 in
    let rest = all_stay f (k + 1) xs (λ i. let e : (k + 1) + i ≡ k + suc i = omega arith in
    ap (λ n. is_some (place xs i) && f n) e ∙ stay (suc i)) in
    λ j. (ap (λ b. if b then None else x) here j) ∷ rest j

pub settled_where_none_left : (S : State) → HasNoneLeft S → settled S ≡ S
unfolding settled
settled_where_none_left S left =
    let found : has_unreferenced S ≡ false = none_found (is_unreferenced S) 0 S.descriptions left.descriptions in
    let stays = all_stay (λ o. orefs S o == 0) 0 S.objects
    (λ i. let e : 0 + i ≡ i = omega arith in ap (λ n. is_some (place S.objects i) && (orefs S n == 0)) e ∙ left.objects i) in
    ap without_orphans (nothing_dropped S found) ∙ (λ j. record S { objects = stays j })

-- ---- boot states

-- the numbers of a list, in order
abbrev pub numbers_from : {X : Type 0} → ℕ → List X → List ℕ
numbers_from k xs = map (λ e. e.0) (enumerate_from k xs)

named_once : {X : Type 0} (k i : ℕ) (xs : List (Option X)) → is_some (place xs i) ≡ true →
    0 < count_by (λ n. n == k + i) (numbers_from k xs)
named_once k i [] h = absurd (cc h)
named_once k zero (x ∷ xs) h =
    let s = sum_by-cons (λ n. cond (n == k + 0) 1 0) k (numbers_from (k + 1) xs) in
    let e : k ≡ k + 0 = omega arith in
    let one : cond {A = ℕ} (k == k + 0) 1 0 ≡ 1 = ap (λ b. cond {A = ℕ} b 1 0) (eq-eqb k (k + 0) e) in
    omega (arith, s, one)
named_once k (suc i) (x ∷ xs) h =
    let s = sum_by-cons (λ n. cond (n == k + suc i) 1 0) k (numbers_from (k + 1) xs) in
    let e : (k + 1) + i ≡ k + suc i = omega arith in
    let rest : 0 < count_by (λ n. n == k + suc i) (numbers_from (k + 1) xs) =
    subst (λ m. 0 < count_by (λ n. n == m) (numbers_from (k + 1) xs)) e (named_once (k + 1) i xs h) in
    omega (arith, s, rest)

pub count_by-map : {X Y : Type 0} (p : Y → Bool) (f : X → Y) (xs : List X) → count_by p (map f xs) ≡ count_by (λ x. p (f x)) xs
count_by-map p f [] = refl
count_by-map p f (x ∷ xs) =
    let s = sum_by-cons (λ y. cond (p y) 1 0) (f x) (map f xs) in
    let t = sum_by-cons (λ x. cond (p (f x)) 1 0) x xs in
    let rest = count_by-map p f xs in
    omega (arith, s, t, rest)

-- each file object has its path, and there is no other
pub paths_count : (boot : State) → IsBootState boot → (o : ℕ) →
    count_by (λ e. path_names o e.1) boot.paths ≡ count_by (λ n. n == o) (numbers_from 0 boot.objects)
paths_count boot boots o =
    sym (count_by-map (path_names o) (λ (e : Name × PathTarget). e.1) boot.paths)
    ∙ ap (count_by (path_names o)) boots.paths
    ∙ count_by-map (path_names o) (λ (e : ℕ × Option View). file e.0) (enumerate_from 0 boot.objects)
    ∙ sym (count_by-map (λ n. n == o) (λ (e : ℕ × Option View). e.0) (enumerate_from 0 boot.objects))

object_named : (boot : State) → IsBootState boot → (o : ℕ) → is_some (place boot.objects o) ≡ true → 0 < orefs boot o
unfolding orefs
object_named boot boots o h =
    let e : 0 + o ≡ o = omega arith in
    let named : 0 < count_by (λ n. n == o) (numbers_from 0 boot.objects) =
    subst (λ m. 0 < count_by (λ n. n == m) (numbers_from 0 boot.objects)) e (named_once 0 o boot.objects h) in
    let same = paths_count boot boots o in
    omega (arith, named, same)

pub boot_settled : (boot : State) → IsBootState boot → settled boot ≡ boot
boot_settled boot boots = settled_where_none_left boot (record {
  descriptions = λ d. ap (λ ds. is_some (place ds d) && (refs boot d == 0)) boots.no_descriptions;
  objects = λ o. bool_cases (is_some (place boot.objects o))
      (λ h. let n = object_named boot boots o h in
      and_right (is_some (place boot.objects o)) (orefs boot o == 0) (ne_eqb (orefs boot o) 0 (λ z. omega (arith, z, n))))
      (λ h. and_left (is_some (place boot.objects o)) (orefs boot o == 0) h);
})

-- ---- over a history

abbrev HasSettled : List Entry → State → Type 0
HasSettled es S = settled S ≡ S

step_settles : (S T : State) (p tag : ℕ) (request : Request) (reply : Reply) (gone : List ℕ) → Step S p tag request reply gone T →
    settled T ≡ T
unfolding Step
step_settles S T p tag request reply gone s = ap settled s.3 ∙ settles_at_once s.0 ∙ sym s.3

-- whatever calls were made
pub chain_settled : (boot T : State) → IsBootState boot → Chain boot T → settled T ≡ T
chain_settled boot T boots no_call = boot_settled boot boots
chain_settled boot T boots (another_call {S = S} p tag request reply gone U before step) = step_settles S U p tag request reply gone step

keeps_settled : (boot : State) → IsKept boot HasSettled
keeps_settled boot = record {
  at_boot = boot_settled boot;
  by_entry =
      λ es e S T before step allowed. step_settles S T e.pid.0 (length es) e.request e.reply e.released step;
}

pub stays_settled : StaysSettled
stays_settled boot es legal = kept_throughout boot HasSettled (keeps_settled boot) es legal

-- ---- what a settled state releases

-- the numbers of file objects, closed
abbrev pub closed_numbers : List (ℕ × Option View) → List ℕ
closed_numbers xs = map (λ (e : ℕ × Option View). e.0) (map (λ (e : ℕ × Option View). (e.0, option_map closed e.1)) xs)

one_more : {X : Type 0} (b : Bool) (k : ℕ) (x : X) (rest : List (ℕ × Option X)) → rest ≡ [] →
    (if is_some (if b then None else Some x) && b then (k, (if b then None else Some x)) ∷ rest else rest) ≡ []
one_more true k x rest h = h
one_more false k x rest h = h

none_orphaned : {X : Type 0} (f : ℕ → Bool) (k : ℕ) (xs : List (Option X)) →
    filter (λ e. is_some e.1 && f e.0) (enumerate_from k (map (λ e. if is_some e.1 && f e.0 then None else e.1) (enumerate_from k xs))) ≡ []
none_orphaned f k [] = refl
none_orphaned f k (None ∷ xs) = none_orphaned f (k + 1) xs
none_orphaned f k (Some x ∷ xs) = one_more (f k) k x _ (none_orphaned f (k + 1) xs)

orphans_gone : (S : State) → orphans (without_orphans S) ≡ []
unfolding orefs
orphans_gone S = none_orphaned (λ o. orefs S o == 0) 0 S.objects

-- what nothing led to has gone, so nothing more goes
settled_releases_none : (S : State) → released (settled S) ≡ []
unfolding settled released_objects
settled_releases_none S = ap (λ T. closed_numbers (orphans T)) (settled_drops_nothing S)
    ∙ ap closed_numbers (orphans_gone (drop_unreferenced S))

pub releases_nothing : (S : State) → settled S ≡ S → released S ≡ []
releases_nothing S h = ap released (sym h) ∙ settled_releases_none S
