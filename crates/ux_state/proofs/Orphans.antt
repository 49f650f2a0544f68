-- The file objects that neither a path nor a description leads to, one at a time.
use Rattle.std.proofs.Common.{◌≡◌, ℕ, zero, suc, ◌+◌, ◌-◌, ◌<◌, ◌≤◌, Bool, true, false, not, ◌&&◌, ◌||◌, eqb, nat_lt, if◌then◌else◌, List}
use Rattle.std.proofs.Common.{[], ◌∷◌, ◌++◌, length, cond, get_or, set, take, drop, map, Option, Some, None, is_some, option_map, sym, ◌∙◌}
use Rattle.std.proofs.Common.{subst, ap, refl, zero-add, arith, append_assoc, length-append, length-drop, length-take-le}
use Rattle.std.specs.Prelude.{MatchOption}
use Rattle.std.specs.List.{count_by, sum_by, list_any, list_all, enumerate_from, filter}
use Rattle.std.proofs.lemmas.Bool.{ne_eqb, lt-ltb, and_right}
use Rattle.std.proofs.lemmas.List.{get_or-set_same, take_all, drop_all, take_more, append-nil, map-append}
use Rattle.std.proofs.lemmas.List.{set-append_right, set-get_or, get_or-append_right, get_or-drop}
use Rattle.std.proofs.lemmas.List.{drop_more, length-map}
use Rattle.std.proofs.lemmas.List.Elements.{filter-append}
use Rattle.std.proofs.lemmas.List.FromFn.{length-enumerate_from}
use Rattle.std.proofs.lemmas.List.Folds.{sum_by-zero}
use Rattle.std.proofs.lemmas.List.{get_or_read}
use Rattle.ux_model.specs.Types.{Mode}
use Rattle.ux_model.specs.Flags.{can_read, can_write}
use Rattle.ux_model.specs.Places.{place}
use Rattle.ux_model.specs.Object.{View, closed}
use Rattle.ux_model.specs.Description.{Description}
use Rattle.ux_model.specs.State.{State}
use Rattle.ux_model.specs.References.{path_names, leads_to, is_open_of, orefs}
use Rattle.ux_model.specs.FileObjects.{is_opening}
use Rattle.ux_model.specs.Release.{is_orphan, orphans, without_orphans}
use Rattle.ux_state.specs.declared.openings.Openings.{Openings}
use Rattle.ux_state.specs.Counting.{one_if, none_open, counts_of, Counted}
use Rattle.ux_state.specs.Links.{AreLinked}
use Rattle.ux_slots.specs.Held.{Held}
use Rattle.ux_number_sets.specs.Sets.{has_number, IsFirstFree}
use Rattle.ux_state.specs.Keeping.{IsState}
use Rattle.ux_state.specs.Settling.{left, handed, handed_from, is_loose, AreSettled, NoOrphans, IsNextLook}

-- ---- whether any is counted

not_or : (a b : Bool) → (not a && not b) ≡ not (a || b)
not_or true b = refl
not_or false b = refl

all_not_any : {X : Type 0} (f : X → ℕ) (p : X → Bool) → ((x : X) → eqb (f x) 0 ≡ not (p x)) → (xs : List X) →
    list_all (λ x. eqb (f x) 0) xs ≡ not (list_any p xs)
all_not_any f p same [] = refl
all_not_any f p same (x ∷ xs) = (λ j. same x j && all_not_any f p same xs j) ∙ not_or (p x) (list_any p xs)

sum_none : {X : Type 0} (f : X → ℕ) (p : X → Bool) → ((x : X) → eqb (f x) 0 ≡ not (p x)) → (xs : List X) →
    eqb (sum_by f xs) 0 ≡ not (list_any p xs)
sum_none f p same xs = sum_by-zero f xs ∙ all_not_any f p same xs

none_counted : (b : Bool) → eqb (one_if b) 0 ≡ not b
none_counted true = refl
none_counted false = refl

count_zero : {X : Type 0} (p : X → Bool) (xs : List X) → eqb (count_by p xs) 0 ≡ not (list_any p xs)
count_zero p xs = sum_none (λ x. one_if (p x)) p (λ x. none_counted (p x)) xs

some_counted : (n : ℕ) (b : Bool) → eqb n 0 ≡ not b → b ≡ nat_lt 0 n
some_counted zero true e = e
some_counted zero false e = refl
some_counted (suc n) true e = sym (lt-ltb 0 (suc n) (omega arith))
some_counted (suc n) false e = absurd (cc (e, ne_eqb (suc n) 0 (λ h. omega (arith, h))))

pub any_counted : {X : Type 0} (p : X → Bool) (xs : List X) → list_any p xs ≡ nat_lt 0 (count_by p xs)
any_counted p xs = some_counted (count_by p xs) (list_any p xs) (count_zero p xs)

-- ---- each description is open for something

in_turn : (a b c d : Bool) → (a || b) || (c || d) ≡ (a || c) || (b || d)
in_turn true b c d = refl
in_turn false true true d = refl
in_turn false true false d = refl
in_turn false false c d = refl

any_or : {X : Type 0} (p q r : X → Bool) → ((x : X) → p x ≡ (q x || r x)) → (xs : List X) → list_any p xs ≡ (list_any q xs || list_any r xs)
any_or p q r same [] = refl
any_or p q r same (x ∷ xs) = (λ j. same x j || any_or p q r same xs j) ∙ in_turn (q x) (r x) (list_any q xs) (list_any r xs)

read_or_written : (b : Bool) (mode : Mode) → b ≡ ((b && can_read mode) || (b && can_write mode))
read_or_written false mode = refl
read_or_written true Mode.Read = refl
read_or_written true Mode.Write = refl
read_or_written true Mode.Both = refl

open_either : (o : ℕ) (D : Option Description) → is_open_of o D ≡ (is_opening can_read o D || is_opening can_write o D)
open_either o None = refl
open_either o (Some D) = read_or_written (leads_to o D.target) D.mode

pub any_open : (ds : List (Option Description)) (openings : List Openings) (o : ℕ) (x : Openings) → o < length openings →
    x ≡ get_or openings o x → Counted ds openings →
    list_any (is_open_of o) ds ≡ (nat_lt 0 x.readers || nat_lt 0 x.writers)
unfolding Counted
any_open ds openings o x inside e counted =
    let here : counts_of openings o ≡ x = sym (get_or_read openings o x inside e none_open) in
    any_or (is_open_of o) (is_opening can_read o) (is_opening can_write o) (open_either o) ds
    ∙ (λ j. any_counted (is_opening can_read o) ds j || any_counted (is_opening can_write o) ds j)
    ∙ (λ j. nat_lt 0 (sym (counted.readers o) j) || nat_lt 0 (sym (counted.writers o) j))
    ∙ ap (λ (y : Openings). nat_lt 0 y.readers || nat_lt 0 y.writers) here

-- ---- whether nothing leads to it

sum_zero : (a b : ℕ) → eqb (a + b) 0 ≡ (eqb b 0 && eqb a 0)
sum_zero zero zero = refl
sum_zero zero (suc b) = ap (λ n. eqb n 0) (zero-add (suc b)) ∙ ne_eqb (suc b) 0 (λ h. omega (arith, h))
    ∙ sym (ap (λ t. t && true) (ne_eqb (suc b) 0 (λ h. omega (arith, h))))
sum_zero (suc a) b = ne_eqb (suc a + b) 0 (λ h. omega (arith, h))
    ∙ sym (and_right (eqb b 0) (eqb (suc a) 0) (ne_eqb (suc a) 0 (λ h. omega (arith, h))))

pub no_orefs : (S : State) (o : ℕ) → (not (list_any (is_open_of o) S.descriptions) && not (list_any (λ e. path_names o e.1) S.paths)) ≡ eqb
    (orefs S o) 0
unfolding orefs
no_orefs S o = sym (sum_zero (count_by (λ e. path_names o e.1) S.paths) (count_by (is_open_of o) S.descriptions)
    ∙ (λ j. count_zero (is_open_of o) S.descriptions j && count_zero (λ e. path_names o e.1) S.paths j))

-- ---- a pass over all places

-- the first n places, with their numbers
abbrev pub first : {X : Type 0} → ℕ → List X → List (ℕ × X)
first n xs = enumerate_from 0 (take n xs)

enumerate_from-append : {X : Type 0} (k : ℕ) (xs ys : List X) →
    enumerate_from k (xs ++ ys) ≡ enumerate_from k xs ++ enumerate_from (k + length xs) ys
enumerate_from-append k [] ys = let e : k ≡ k + 0 = omega arith in ap (λ n. enumerate_from n ys) e
enumerate_from-append k (x ∷ xs) ys =
    let e : (k + 1) + length xs ≡ k + suc (length xs) = omega arith in
    ap (λ zs. (k, x) ∷ zs) (enumerate_from-append (k + 1) xs ys ∙ ap (λ n. enumerate_from (k + 1) xs ++ enumerate_from n ys) e)

long_first : {X : Type 0} (n : ℕ) (xs : List X) → n ≤ length xs → length (first n xs) ≡ n
long_first n xs le = length-enumerate_from 0 (take n xs) ∙ length-take-le n xs le

first_more : {X : Type 0} (xs : List X) (i : ℕ) (d : X) → i < length xs → first (i + 1) xs ≡ first i xs ++ (i, get_or xs i d) ∷ []
first_more xs i d inside =
    let le : i ≤ length xs = omega arith in
    let e : 0 + length (take i xs) ≡ i = zero-add (length (take i xs)) ∙ length-take-le i xs le in
    ap (enumerate_from 0) (take_more xs i d inside) ∙ enumerate_from-append 0 (take i xs) (get_or xs i d ∷ [])
    ∙ ap (λ n. first i xs ++ (n, get_or xs i d) ∷ []) e

-- the places where the pass has come to place i, and what it has handed out
abbrev pub places_at : State → ℕ → List (Option View)
places_at S i = map (left S) (first i S.objects) ++ drop i S.objects

abbrev pub handed_at : State → ℕ → List (ℕ × Option View)
handed_at S i = map handed (filter (is_orphan S) (first i S.objects))

-- the pass stands before place i
pub record Passed (S : State) (i : ℕ) (T : State) (gone : List (ℕ × Option View)) : Type 0 where
  pub state : T ≡ record S { objects = places_at S i }
  pub out : gone ≡ handed_at S i
  pub few : length gone ≤ i

abbrev passed_places : State → ℕ → List (Option View)
passed_places S i = map (left S) (first i S.objects)

long_passed : (S : State) (i : ℕ) → i ≤ length S.objects → length (passed_places S i) ≡ i
long_passed S i le = length-map (first i S.objects) (left S) ∙ long_first i S.objects le

pub length-places_at : (S : State) (i : ℕ) → i ≤ length S.objects → length (places_at S i) ≡ length S.objects
length-places_at S i le = omega (arith, length-append (passed_places S i) (drop i S.objects), long_passed S i le, length-drop i S.objects)

-- the place that the pass comes to
pub here_at : (S : State) (i : ℕ) → i ≤ length S.objects → get_or (places_at S i) i None ≡ get_or S.objects i None
here_at S i le =
    let back : i + (i - i) ≡ i = omega arith in
    get_or-append_right (passed_places S i) (drop i S.objects) i i None (long_passed S i le) (omega arith)
    ∙ get_or-drop i S.objects (i - i) None ∙ ap (λ n. get_or S.objects n None) back

pub set-places_at : (S : State) (i : ℕ) (y : Option View) → i < length S.objects → y ≡ left S (i, get_or S.objects i None) →
    set (places_at S i) i y ≡ places_at S (i + 1)
set-places_at S i y inside e =
    let le : i ≤ length S.objects = omega arith in
    let none : i - i ≡ 0 = omega arith in
    let rest : List (Option View) = drop (i + 1) S.objects in
    let x : ℕ × Option View = (i, get_or S.objects i None) in
    set-append_right (passed_places S i) (drop i S.objects) i i y (long_passed S i le) (omega arith)
    ∙ ap (λ n. passed_places S i ++ set (drop i S.objects) n y) none
    ∙ ap (λ ys. passed_places S i ++ set ys 0 y) (drop_more S.objects i None inside)
    ∙ ap (λ z. passed_places S i ++ z ∷ rest) e
    ∙ sym (append_assoc (passed_places S i) (left S x ∷ []) rest)
    ∙ ap (λ ys. ys ++ rest) (sym (map-append (left S) (first i S.objects) (x ∷ [])))
    ∙ ap (λ ys. map (left S) ys ++ rest) (sym (first_more S.objects i None inside))

handed_more : (S : State) (i : ℕ) → i < length S.objects →
    handed_at S (i + 1) ≡ handed_at S i ++ handed_from S (i, get_or S.objects i None)
handed_more S i inside =
    let x : ℕ × Option View = (i, get_or S.objects i None) in
    ap (λ es. map handed (filter (is_orphan S) es)) (first_more S.objects i None inside)
    ∙ ap (map handed) (filter-append (is_orphan S) (first i S.objects) (x ∷ []))
    ∙ map-append handed (filter (is_orphan S) (first i S.objects)) (filter (is_orphan S) (x ∷ []))

-- closing objects changes no reference
orefs-objects : (S : State) (xs : List (Option View)) (o : ℕ) → orefs (record S { objects = xs }) o ≡ orefs S o
unfolding orefs
orefs-objects S xs o = refl

orefs_then : (S T : State) (i o : ℕ) (gone : List (ℕ × Option View)) → Passed S i T gone → eqb (orefs T o) 0 ≡ eqb (orefs S o) 0
orefs_then S T i o gone passed = ap (λ R. eqb (orefs R o) 0) passed.state ∙ ap (λ n. eqb n 0) (orefs-objects S (places_at S i) o)

pub inside_then : (S T : State) (i : ℕ) (gone : List (ℕ × Option View)) → Passed S i T gone → i < length S.objects → i < length T.objects
inside_then S T i gone passed inside =
    let same : length T.objects ≡ length (places_at S i) = ap (λ R. length (State.objects R)) passed.state in
    omega (arith, same, length-places_at S i (omega arith), inside)

-- ---- one place of a pass

-- its object's references are what they were
orphan_then : (S T : State) (i : ℕ) (gone : List (ℕ × Option View)) → Passed S i T gone → (x : ℕ × Option View) →
    is_orphan T x ≡ is_orphan S x
orphan_then S T i gone passed x = ap (λ b. is_some x.1 && b) (orefs_then S T i x.0 gone passed)

here_then : (S T : State) (i : ℕ) (gone : List (ℕ × Option View)) → Passed S i T gone → i ≤ length S.objects →
    get_or T.objects i None ≡ get_or S.objects i None
here_then S T i gone passed le = ap (λ R. get_or (State.objects R) i None) passed.state ∙ here_at S i le

left_then : (S T : State) (i : ℕ) (gone : List (ℕ × Option View)) → Passed S i T gone → i ≤ length S.objects →
    left T (i, get_or T.objects i None) ≡ left S (i, get_or S.objects i None)
left_then S T i gone passed le =
    ap (λ b. if b then None else get_or T.objects i None) (orphan_then S T i gone passed (i, get_or T.objects i None))
    ∙ ap (λ x. left S (i, x)) (here_then S T i gone passed le)

handed_then : (S T : State) (i : ℕ) (gone : List (ℕ × Option View)) → Passed S i T gone → i ≤ length S.objects →
    handed_from T (i, get_or T.objects i None) ≡ handed_from S (i, get_or S.objects i None)
handed_then S T i gone passed le =
    ap (λ b. map handed (cond b ((i, get_or T.objects i None) ∷ []) [])) (orphan_then S T i gone passed (i, get_or T.objects i None))
    ∙ ap (λ x. handed_from S (i, x)) (here_then S T i gone passed le)

few_out : (b : Bool) (e : ℕ × Option View) → length (map handed (cond b (e ∷ []) [])) ≤ 1
few_out true e = omega arith
few_out false e = omega arith

-- the pass looks at place i
pub Passed-one : (S T U : State) (i : ℕ) (gone more : List (ℕ × Option View)) → Passed S i T gone → i < length S.objects →
    U ≡ record T { objects = set T.objects i (left T (i, get_or T.objects i None)) } →
    more ≡ gone ++ handed_from T (i, get_or T.objects i None) → Passed S (i + 1) U more
Passed-one S T U i gone more passed inside next out =
    let le : i ≤ length S.objects = omega (arith, inside) in
    let one = few_out (is_orphan T (i, get_or T.objects i None)) (i, get_or T.objects i None) in
    let long : length more ≡ length gone + length (handed_from T (i, get_or T.objects i None)) = ap length out ∙ length-append gone _ in
    record {
      state = next ∙ ap (λ (R : State). record R { objects = set (State.objects R) i (left T (i, get_or T.objects i None)) }) passed.state
          ∙ ap (λ xs. record S { objects = xs }) (set-places_at S i (left T (i, get_or T.objects i None)) inside
          (left_then S T i gone passed le));
      out = out ∙ (λ j. passed.out j ++ handed_then S T i gone passed le j) ∙ sym (handed_more S i inside);
      few = omega (arith, passed.few, one, long);
    }

-- what a look at a place without an orphan would change
pub set_same : (T : State) (i : ℕ) → is_orphan T (i, get_or T.objects i None) ≡ false →
    T ≡ record T { objects = set T.objects i (left T (i, get_or T.objects i None)) }
set_same T i none =
    ap (λ xs. record T { objects = xs }) (sym (set-get_or T.objects i None)
    ∙ ap (set T.objects i) (sym (ap (λ b. if b then None else get_or T.objects i None) none)))

none_out : (T : State) (i : ℕ) (gone : List (ℕ × Option View)) → is_orphan T (i, get_or T.objects i None) ≡ false →
    gone ≡ gone ++ handed_from T (i, get_or T.objects i None)
none_out T i gone none = sym (ap (λ b. gone ++ map handed (cond b ((i, get_or T.objects i None) ∷ []) [])) none ∙ append-nil gone)

-- the pass goes over places without orphans
pub Passed-over : (S T : State) (i k : ℕ) (gone : List (ℕ × Option View)) → Passed S i T gone → i + k ≤ length S.objects →
    ((n : ℕ) → i ≤ n → n < i + k → is_orphan T (n, get_or T.objects n None) ≡ false) → Passed S (i + k) T gone
Passed-over S T i zero gone passed within none = let e : i ≡ i + 0 = omega arith in subst (λ n. Passed S n T gone) e passed
Passed-over S T i (suc k) gone passed within none =
    let next = Passed-one S T T i gone gone passed (omega (arith, within)) (set_same T i (none i (omega arith) (omega arith)))
    (none_out T i gone (none i (omega arith) (omega arith))) in
    let e : (i + 1) + k ≡ i + suc k = omega arith in
    subst (λ n. Passed S n T gone) e (Passed-over S T (i + 1) k gone next (omega (arith, within))
    (λ n after before. none n (omega (arith, after)) (omega (arith, before))))

-- ---- settled objects

and_assoc : (a b c : Bool) → ((a && b) && c) ≡ (a && (b && c))
and_assoc true b c = refl
and_assoc false b c = refl

zero_open : (ds : List (Option Description)) (o : ℕ) → eqb (count_by (is_open_of o) ds) 0 ≡ (eqb (count_by (is_opening can_read o) ds) 0
    && eqb (count_by (is_opening can_write o) ds) 0)
zero_open ds o =
    count_zero (is_open_of o) ds ∙ ap not (any_or (is_open_of o) (is_opening can_read o) (is_opening can_write o) (open_either o) ds)
    ∙ sym (not_or (list_any (is_opening can_read o) ds) (list_any (is_opening can_write o) ds))
    ∙ (λ j. sym (count_zero (is_opening can_read o) ds) j && sym (count_zero (is_opening can_write o) ds) j)

-- what a look leaves is there only where something leads to it
none_left : (b : Bool) (x : Option View) → (is_some (if is_some x && b then None else x) && b) ≡ false
none_left true None = refl
none_left true (Some v) = refl
none_left false None = refl
none_left false (Some v) = refl

-- what the counts say is loose has no reference
pub loose_is : (S : State) (xs : List Openings) (ls : List ℕ) (o : ℕ) → Counted S.descriptions xs →
    AreLinked S.paths ls → is_loose xs ls o ≡ eqb (orefs S o) 0
unfolding orefs Counted AreLinked
loose_is S xs ls o counted linked =
    (λ j. eqb (counted.readers o j) 0 && (eqb (counted.writers o j) 0 && eqb (linked.counted o j) 0))
    ∙ sym (and_assoc (eqb (count_by (is_opening can_read o) S.descriptions) 0) (eqb (count_by (is_opening can_write o) S.descriptions) 0) _)
    ∙ ap (λ b. b && eqb (count_by (λ e. path_names o e.1) S.paths) 0) (sym (zero_open S.descriptions o))
    ∙ sym (sum_zero (count_by (λ e. path_names o e.1) S.paths) (count_by (is_open_of o) S.descriptions))

-- a settled object is no orphan
pub settled_stays : (S : State) (ks : List Bool) (xs : List Openings) (ls : List ℕ) (o : ℕ) → AreSettled ks xs ls S.objects →
    Counted S.descriptions xs → AreLinked S.paths ls → has_number ks o ≡ true → is_orphan S (o, get_or S.objects o None) ≡ false
settled_stays S ks xs ls o settled counted linked here =
    ap (λ b. is_some (get_or S.objects o None) && b) (sym (loose_is S xs ls o counted linked)) ∙ settled.held o here

-- what was looked at is no orphan
pub settled_here : (S T : State) (o : ℕ) → o < length S.objects →
    T ≡ record S { objects = set S.objects o (left S (o, place S.objects o)) } → is_orphan T (o, place T.objects o) ≡ false
settled_here S T o inside next =
    (λ j. is_some (place (State.objects (next j)) o) && eqb (orefs (next j) o) 0)
    ∙ (λ j. is_some (get_or-set_same S.objects o (left S (o, place S.objects o)) None inside j)
    && eqb (orefs-objects S (set S.objects o (left S (o, place S.objects o))) o j) 0)
    ∙ none_left (eqb (orefs S o) 0) (place S.objects o)

-- what comes out of a place to which nothing leads
pub taken_out : {C : Type 0} (S : State) (o : ℕ) (x : Option View) (one : C → List (ℕ × Option View)) (taken : Option C) →
    eqb (orefs S o) 0 ≡ true → x ≡ place S.objects o →
    MatchOption taken (x ≡ None) (λ c. (is_some x ≡ true) × (one c ≡ (o, option_map closed x) ∷ [])) →
    (elim taken [ None ↦ [] | Some c ↦ one c ]) ≡ handed_from S (o, place S.objects o)
taken_out S o x one None orphan here is =
    ap (λ (y : Option View). map handed (cond (is_some y && eqb (orefs S o) 0) ((o, y) ∷ []) [])) (sym is ∙ here)
taken_out S o x one (Some c) orphan here is =
    is.1 ∙ sym (ap (λ b. map handed (cond b ((o, x) ∷ []) [])) ((λ j. is.0 j && orphan j)))
    ∙ ap (λ (y : Option View). map handed (cond (is_some y && eqb (orefs S o) 0) ((o, y) ∷ []) [])) here

-- and so it is settled
pub settled_then : (S : State) (xs : List Openings) (ls : List ℕ) (o : ℕ) → Counted S.descriptions xs → AreLinked S.paths ls →
    is_orphan S (o, place S.objects o) ≡ false → (is_some (place S.objects o) && is_loose xs ls o) ≡ false
settled_then S xs ls o counted linked none = ap (λ b. is_some (place S.objects o) && b) (loose_is S xs ls o counted linked) ∙ none

-- the pass comes to the next place at which it looks
pub record Comes (S T : State) (o : ℕ) (gone : List (ℕ × Option View)) : Type 0 where
  pub passed : Passed S o T gone
  pub inside : o < length S.objects

long_then : (S T : State) (i : ℕ) (gone : List (ℕ × Option View)) → Passed S i T gone → i ≤ length S.objects →
    length T.objects ≡ length S.objects
long_then S T i gone passed le = ap (λ R. length (State.objects R)) passed.state ∙ length-places_at S i le

Passed-to : (S T : State) (from o : ℕ) (gone : List (ℕ × Option View)) → Passed S from T gone → from ≤ o → o ≤ length S.objects →
    NoOrphans T from o → Passed S o T gone
Passed-to S T from o gone passed after within none =
    let e : from + (o - from) ≡ o = omega (arith, after) in
    subst (λ n. Passed S n T gone) e (Passed-over S T from (o - from) gone passed (omega (arith, e, within))
    (λ i later before. none i later (omega (arith, before, e))))

pub comes : (S T : State) (from o : ℕ) (gone : List (ℕ × Option View)) → Passed S from T gone → from ≤ length S.objects →
    IsNextLook T from o → Comes S T o gone
comes S T from o gone passed le next =
    let inside : o < length S.objects = let a = long_then S T from gone passed le in let b = next.within in omega (arith, a, b) in
    record { passed = Passed-to S T from o gone passed next.after (omega (arith, inside)) next.before; inside = inside }

-- or to the end
pub comes_to_end : (S T : State) (from : ℕ) (gone : List (ℕ × Option View)) → Passed S from T gone → from ≤ length S.objects →
    NoOrphans T from (length T.objects) → Passed S (length S.objects) T gone
comes_to_end S T from gone passed le none =
    let long = long_then S T from gone passed le in
    Passed-to S T from (length S.objects) gone passed le (omega arith) (λ i after before. none i after (omega (arith, before, long)))

-- the set of the settled shows where it looks next
pub looks_next : {ks : List Bool} {fs : ℕ → ℕ} (xs : List Openings) (ls : List ℕ) (H : Held Description) (S : State) →
    IsState ks xs ls H fs S → (from o : ℕ) → IsFirstFree ks from o → o < length S.objects → IsNextLook S from o
looks_next {ks = ks} xs ls H S state from o first inside = record {
  within = inside;
  after = first.after;
  before = λ i after before. settled_stays S ks xs ls i state.settled state.opened state.linked (first.before i after before);
}

-- or that it looks at none, where the first that isn't settled is none of theirs
pub looks_no_more : {ks : List Bool} {fs : ℕ → ℕ} (xs : List Openings) (ls : List ℕ) (H : Held Description) (S : State) →
    IsState ks xs ls H fs S → (from o : ℕ) → IsFirstFree ks from o → length S.objects ≤ o → NoOrphans S from (length S.objects)
looks_no_more {ks = ks} xs ls H S state from o first past i after before =
    settled_stays S ks xs ls i state.settled state.opened state.linked (first.before i after (omega (arith, before, past)))

-- or where all are settled
pub looks_at_none : {ks : List Bool} {fs : ℕ → ℕ} (xs : List Openings) (ls : List ℕ) (H : Held Description) (S : State) →
    IsState ks xs ls H fs S → (from : ℕ) → ((i : ℕ) → from ≤ i → i < length ks → has_number ks i ≡ true) →
    NoOrphans S from (length S.objects)
looks_at_none {ks = ks} xs ls H S state from all i after before =
    settled_stays S ks xs ls i state.settled state.opened state.linked
    (all i after (let few = state.few_objects in let long = state.settled.long in omega (arith, before, few, long)))

-- the pass is over
pub Passed-all : (S T : State) (gone : List (ℕ × Option View)) → Passed S (length S.objects) T gone →
    (gone ≡ map handed (orphans S)) × (T ≡ without_orphans S)
Passed-all S T gone passed =
    let all : take (length S.objects) S.objects ≡ S.objects = take_all (length S.objects) S.objects (omega arith) in
    let rest : drop (length S.objects) S.objects ≡ [] = drop_all (length S.objects) S.objects (omega arith) in (
      passed.out ∙ ap (λ xs. map handed (filter (is_orphan S) (enumerate_from 0 xs))) all,
      passed.state ∙ ap (λ xs. record S { objects = xs }) ((λ j. map (left S) (enumerate_from 0 (all j)) ++ rest j) ∙ append-nil _),
    )
