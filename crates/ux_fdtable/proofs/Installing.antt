-- Many numbers at once: which are the lowest, and what a table is with them open.
use Rattle.std.proofs.Common.{◌≡◌, ℕ, zero, suc, ◌+◌, ◌<◌, ◌≤◌, max, Bool, true, List, [], ◌∷◌, ◌++◌, length, map, take, Option, Some, None}
use Rattle.std.proofs.Common.{inl, inr, ap, sym, refl, ◌∙◌, arith}
use Rattle.std.specs.Prelude.{is_some}
use Rattle.std.proofs.lemmas.Bool.{cases_eq}
use Rattle.std.proofs.lemmas.List.{append_assoc, append-nil, length-append, length-map, length-set, map-append, take_all, get_or-set_same}
use Rattle.std.proofs.lemmas.List.{get_or-set_other}
use Rattle.ux_model.specs.Places.{filled, empty_places_from}
use Rattle.ux_model.specs.Process.{Descriptor, free_numbers}
use Rattle.ux_model.specs.Delivery.{installed}
use Rattle.ux_types.specs.declared.identity.Fd.{Fd}
use Rattle.ux_number_sets.specs.Sets.{PutsNumber}
use Rattle.ux_fdtable.specs.Padded.{AreBelow, IsReaching, IsTable, padded}
use Rattle.ux_fdtable.proofs.Places.{length-padded, padded_padded, place_padded, set_padded}

-- ---- the lowest numbers

pub few_empty : (i : ℕ) (xs : List (Option Descriptor)) → length (empty_places_from i xs) ≤ length xs
few_empty i [] = omega arith
few_empty i (None ∷ xs) = let rest = few_empty (suc i) xs in omega (arith, rest)
few_empty i (Some x ∷ xs) = let rest = few_empty (suc i) xs in omega (arith, rest)

pub one_more : (numbers : List Fd) (fd : Fd) (rest more all : List ℕ) → map (λ fd. Fd.0 fd) numbers ++ rest ≡ all → rest ≡ fd.0 ∷ more →
    map (λ fd. Fd.0 fd) (numbers ++ fd ∷ []) ++ more ≡ all
one_more numbers fd rest more all so_far next =
    ap (λ ns. ns ++ more) (map-append (λ fd. Fd.0 fd) numbers (fd ∷ [])) ∙ append_assoc (map (λ fd. Fd.0 fd) numbers) (fd.0 ∷ []) more
    ∙ ap (λ ns. map (λ fd. Fd.0 fd) numbers ++ ns) (sym next) ∙ so_far

pub room_for_one : (numbers : List Fd) (n : ℕ) (rest more : List ℕ) (T : List (Option Descriptor)) →
    map (λ fd. Fd.0 fd) numbers ++ rest ≡ free_numbers T → rest ≡ n ∷ more → length numbers < length T
room_for_one numbers n rest more T so_far next =
    let all = ap length so_far in
    let parts = length-append (map (λ fd. Fd.0 fd) numbers) rest in
    let long = length-map numbers (λ fd. Fd.0 fd) in
    let some = ap length next in
    let few = few_empty 0 T in
    omega (arith, all, parts, long, some, few)

pub all_of_them : (numbers : List Fd) (count : ℕ) (rest : List ℕ) (T : List (Option Descriptor)) →
    map (λ fd. Fd.0 fd) numbers ++ rest ≡ free_numbers T → length numbers ≤ count → rest ≡ [] →
    map (λ fd. Fd.0 fd) numbers ≡ take count (free_numbers T)
all_of_them numbers count rest T so_far few none =
    let ns : List ℕ = map (λ fd. Fd.0 fd) numbers in
    let whole : ns ≡ free_numbers T = sym (append-nil ns) ∙ ap (λ more. ns ++ more) (sym none) ∙ so_far in
    let long = length-map numbers (λ fd. Fd.0 fd) in
    sym (ap (take count) (sym whole) ∙ take_all count ns (omega (arith, long, few)))

-- they are those of the table
pub free_below : (ns : List ℕ) (m : ℕ) (T : List (Option Descriptor)) → ns ≡ take m (free_numbers T) → AreBelow (length T) ns
free_below ns m T front = rw front (front_below m 0 T (length T) (omega arith))
  where
    front_below : (m i : ℕ) (xs : List (Option Descriptor)) (limit : ℕ) → i + length xs ≤ limit →
        AreBelow limit (take m (empty_places_from i xs))
    front_below zero i xs limit fits = tt
    front_below (suc m) i [] limit fits = tt
    front_below (suc m) i (None ∷ xs) limit fits = (omega (arith, fits), front_below m (suc i) xs limit (omega (arith, fits)))
    front_below (suc m) i (Some x ∷ xs) limit fits = front_below (suc m) (suc i) xs limit (omega (arith, fits))

-- ---- places that reach further

-- of the first number and of those behind it
pub parts_below : (limit : ℕ) (left : List Fd) (fd : Fd) (behind : List Fd) → left ≡ fd ∷ behind →
    AreBelow limit (map (λ fd. Fd.0 fd) left) → (fd.0 < limit) × AreBelow limit (map (λ fd. Fd.0 fd) behind)
parts_below limit left fd behind is fits = rw is at fits

pub both_below : (limit : ℕ) (left : List Fd) (fd : Fd) (behind : List Fd) → left ≡ fd ∷ behind → fd.0 < limit →
    AreBelow limit (map (λ fd. Fd.0 fd) behind) → AreBelow limit (map (λ fd. Fd.0 fd) left)
both_below limit left fd behind is first rest = rw is (first, rest)

pub some_left : {X : Type 0} (left : List Fd) (fd : Fd) (behind : List Fd) → left ≡ fd ∷ behind → left ≡ [] → X
some_left left fd behind is none = absurd (cc (is, none))

reached_table : (xs : List (Option Descriptor)) (limit n : ℕ) (in_use : List Bool) → n < limit → IsTable xs limit in_use →
    IsTable (padded xs (n + 1)) limit in_use
reached_table xs limit n in_use small table =
    let reached : length (padded xs (n + 1)) ≡ max (length xs) (n + 1) = length-padded xs (n + 1) in
    record {
      within = omega (arith, reached, small, table.within);
      small = table.small;
      covered = table.covered;
      agrees = λ i inside. table.agrees i inside ∙ ap is_some (sym (place_padded xs (n + 1) i));
    }

pub reach_more : (n : ℕ) (all : List ℕ) (old xs ys : List (Option Descriptor)) → ((limit : ℕ) → AreBelow limit all → n < limit) →
    IsReaching all old xs → ys ≡ padded xs (n + 1) → IsReaching all old ys
reach_more n all old xs ys below reaching is limit in_use fits table =
    let before = reaching limit in_use fits table in
    let after = reached_table xs limit n in_use (below limit fits) before.0 in
    let same : padded (padded xs (n + 1)) limit ≡ padded xs limit =
    padded_padded xs (n + 1) limit (let small = below limit fits in omega (arith, small)) before.0.within in
    rw is (after, same ∙ before.1)

pub still_reaching : (all : List ℕ) (old xs ys : List (Option Descriptor)) → IsReaching all old xs → ys ≡ xs → IsReaching all old ys
still_reaching all old xs ys reaching is = rw is reaching

pub reaches_itself : (all : List ℕ) (xs : List (Option Descriptor)) → IsReaching all xs xs
reaches_itself all xs limit in_use fits table = (table, refl)

pub below_more : (limit more : ℕ) (ns : List ℕ) → limit ≤ more → AreBelow limit ns → AreBelow more ns
below_more limit more [] le fits = tt
below_more limit more (n ∷ ns) le fits = let first = fits.0 in (omega (arith, first, le), below_more limit more ns le fits.1)

-- ---- places that are filled

pub filled_table : (xs : List (Option Descriptor)) (limit n : ℕ) (in_use new : List Bool) (e : Descriptor) → n < length xs →
    PutsNumber in_use new n true → IsTable xs limit in_use → IsTable (filled xs n e) limit new
filled_table xs limit n in_use new e small put table = record {
  within = omega (arith, length-set xs n (Some e), table.within);
  small = table.small;
  covered = omega (arith, table.covered, put.same_length);
  agrees = λ i inside. elim (cases_eq i n) [
    | inl same ↦ rw (same, get_or-set_same xs n (Some e) None small) put.this
    | inr other ↦ put.others i other ∙ table.agrees i inside ∙ sym (ap is_some (get_or-set_other xs n i (Some e) None other))
  ];
}

-- where the places reach the numbers, what is behind them stays
pub installed_padded : (cloexec : Bool) (ns ds : List ℕ) (xs : List (Option Descriptor)) (limit : ℕ) → AreBelow (length xs) ns →
    padded (installed cloexec ns ds xs) limit ≡ installed cloexec ns ds (padded xs limit)
installed_padded cloexec [] ds xs limit inside = refl
installed_padded cloexec (n ∷ ns) [] xs limit inside = refl
installed_padded cloexec (n ∷ ns) (d ∷ ds) xs limit inside =
    let e : Descriptor = record { description = d; cloexec = cloexec } in
    let long = length-set xs n (Some e) in
    installed_padded cloexec ns ds (filled xs n e) limit (below_more (length xs) (length (filled xs n e)) ns (omega (arith, long)) inside.1)
    ∙ ap (installed cloexec ns ds) (set_padded xs limit n (Some e) inside.0)
