-- References of what is on one side, which stand on that side alone.
use Rattle.std.proofs.Common.{◌≡◌, ℕ, zero, suc, ◌≤◌, ◌==◌, Bool, true, false, cond, List, [], ◌∷◌, sum_by, Option, Some, None, refl}
use Rattle.std.proofs.Common.{ap, sym, ◌∙◌, arith, slice_get}
use Rattle.std.specs.List.{AllByRecursion}
use Rattle.std.proofs.lemmas.Bool.{eqb-true, false≢true}
use Rattle.std.proofs.lemmas.List.Sums.{sum_by-cons}
use Rattle.ux_model.specs.Places.{place}
use Rattle.ux_model.specs.Message.{Message}
use Rattle.ux_model.specs.Description.{Description, Target, to_object, to_socket}
use Rattle.ux_model.specs.Process.{Process, Descriptor}
use Rattle.ux_model.specs.State.{State, description_at, process_at}
use Rattle.ux_model.specs.References.{names_description, table_refs, times, queue_refs, target_refs, description_refs, refs}
use Rattle.ux_model.proofs.Lists.ChangedPlaces.{bool_cases}
use Rattle.ux_laws.specs.Apartness.{Sides, TargetIsOn, AreApart}

-- ---- sums of two lists, place by place

abbrev pub counts : {X : Type 0} → (X → ℕ) → Option X → ℕ
counts f None = 0
counts f (Some x) = f x

pub sums_least : {X : Type 0} (f : X → ℕ) (xs ys : List X) → ((i : ℕ) → counts f (slice_get xs i) ≤ counts f (slice_get ys i)) →
    sum_by f xs ≤ sum_by f ys
sums_least f [] ys h = omega arith
sums_least f (x ∷ xs) [] h =
    let one = sum_by-cons f x xs in
    let first = h 0 in
    let rest = sums_least f xs [] (λ i. h (suc i)) in
    omega (arith, one, first, rest)
sums_least f (x ∷ xs) (y ∷ ys) h =
    let one = sum_by-cons f x xs in
    let other = sum_by-cons f y ys in
    let first = h 0 in
    let rest = sums_least f xs ys (λ i. h (suc i)) in
    omega (arith, one, other, first, rest)

pub at_place : {X : Type 0} (g : Option X → ℕ) (xs : List (Option X)) (i : ℕ) → g None ≡ 0 → counts g (slice_get xs i) ≡ g (place xs i)
at_place g [] i h = sym h
at_place g (x ∷ xs) zero h = refl
at_place g (x ∷ xs) (suc i) h = at_place g xs i h

-- ---- what stands on the other side counts nothing

other_number : (of : ℕ → Bool) (d n : ℕ) → of d ≡ true → of n ≡ false → (n == d) ≡ false
other_number of d n mine other = bool_cases (n == d)
    (λ same. absurd (false≢true (sym other ∙ ap of (eqb-true n d same) ∙ mine)))
    (λ e. e)

none_in_table : (d : ℕ) (table : List (Option Descriptor)) →
    ((n : ℕ) (e : Descriptor) → place table n ≡ Some e → (e.description == d) ≡ false) → table_refs d table ≡ 0
none_in_table d [] h = refl
none_in_table d (x ∷ xs) h =
    let both = sum_by-cons (λ (y : Option Descriptor). cond {A = ℕ} (names_description d y) 1 0) x xs in
    let rest = none_in_table d xs (λ n e is. h (suc n) e is) in
    let first = at_first x (λ e is. h 0 e is) in
    omega (arith, both, rest, first)
  where
    at_first : (y : Option Descriptor) → ((e : Descriptor) → y ≡ Some e → (e.description == d) ≡ false) →
        cond {A = ℕ} (names_description d y) 1 0 ≡ 0
    at_first None h = refl
    at_first (Some e) h = ap (λ b. cond {A = ℕ} b 1 0) (h e refl)

none_of_times : (of : ℕ → Bool) (d : ℕ) (ns : List ℕ) → of d ≡ true → AllByRecursion (λ n. of n ≡ false) ns → times d ns ≡ 0
none_of_times of d [] mine all = refl
none_of_times of d (n ∷ ns) mine all =
    let both = sum_by-cons (λ (m : ℕ). cond {A = ℕ} (m == d) 1 0) n ns in
    let first = ap (λ b. cond {A = ℕ} b 1 0) (other_number of d n mine all.0) in
    let rest = none_of_times of d ns mine all.1 in
    omega (arith, both, first, rest)

none_in_queue : (of : ℕ → Bool) (d : ℕ) (queue : List Message) → of d ≡ true →
    AllByRecursion (λ (m : Message). AllByRecursion (λ n. of n ≡ false) m.rights) queue → queue_refs d queue ≡ 0
none_in_queue of d [] mine all = refl
none_in_queue of d (m ∷ ms) mine all =
    let both = sum_by-cons (λ (m : Message). times d m.rights) m ms in
    let first = none_of_times of d m.rights mine all.0 in
    let rest = none_in_queue of d ms mine all.1 in
    omega (arith, both, first, rest)

none_in_target : (sides : Sides) (d : ℕ) (t : Target) → sides.description d ≡ true → TargetIsOn sides false t → target_refs d t ≡ 0
none_in_target sides d (to_object o) mine on = refl
none_in_target sides d (to_socket s) mine on =
    let queue = none_in_queue sides.description d s.queue mine on.rights in
    let ends = none_of_times sides.description d _ mine on.pending in
    omega (arith, queue, ends)

-- ---- a state

abbrev pub table_counts : ℕ → Option Process → ℕ
table_counts d x = counts (λ (P : Process). table_refs d P.table) x

-- Of a watched description there are in U as many references as in S at least, where those of its own side are as many.
pub refs_least : (sides : Sides) (S U : State) (d : ℕ) → AreApart sides S → sides.description d ≡ true →
    ((p : ℕ) → sides.process p ≡ true → table_counts d (process_at S p) ≤ table_counts d (process_at U p)) →
    ((x : ℕ) → sides.description x ≡ true → description_refs d (description_at S x) ≤ description_refs d (description_at U x)) →
    refs S d ≤ refs U d
unfolding refs
refs_least sides S U d apart mine tables there =
    let one = sums_least (λ (P : Process). table_refs d P.table) S.processes U.processes (λ i. by_process i) in
    let two = sums_least (description_refs d) S.descriptions U.descriptions (λ i. by_description i) in
    omega (arith, one, two)
  where
    none_held : (p : ℕ) (x : Option Process) → process_at S p ≡ x → sides.process p ≡ false → table_counts d x ≡ 0
    none_held p None is other = refl
    none_held p (Some P) is other = none_in_table d P.table (λ n e at. other_number sides.description d e.description mine
        (apart.tables p n e (ap (λ (y : Option Process).
        place (elim y as (λ _. List (Option Descriptor)) [ Some P ↦ P.table | None ↦ [] ]) n) is ∙ at) ∙ other))

    by_process : (i : ℕ) → table_counts d (process_at S (suc i)) ≤ table_counts d (process_at U (suc i))
    by_process i = bool_cases (sides.process (suc i)) (λ on. tables (suc i) on)
        (λ off. let none = none_held (suc i) (process_at S (suc i)) refl off in omega (arith, none))

    none_referred : (x : ℕ) (y : Option Description) → description_at S x ≡ y → sides.description x ≡ false → description_refs d y ≡ 0
    none_referred x None is other = refl
    none_referred x (Some D) is other = none_in_target sides d D.target mine
        (on_false (sides.description x) other (apart.descriptions x D is))
      where
        on_false : (b : Bool) → b ≡ false → TargetIsOn sides b D.target → TargetIsOn sides false D.target
        on_false true h on = absurd (false≢true (sym h))
        on_false false h on = on

    at_one : (x : ℕ) → description_refs d (description_at S x) ≤ description_refs d (description_at U x)
    at_one x = bool_cases (sides.description x) (λ on. there x on)
        (λ off. let none = none_referred x (description_at S x) refl off in omega (arith, none))

    by_description : (i : ℕ) →
        counts (description_refs d) (slice_get S.descriptions i) ≤ counts (description_refs d) (slice_get U.descriptions i)
    by_description i =
        let old = at_place (description_refs d) S.descriptions i refl in
        let new = at_place (description_refs d) U.descriptions i refl in
        let both = at_one i in
        omega (arith, old, new, both)
