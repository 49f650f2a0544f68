-- The first free place of a table, by the set of its numbers in use.
use Rattle.std.proofs.Common.{◌≡◌, ℕ, zero, suc, ◌+◌, ◌-◌, ◌<◌, ◌≤◌, Bool, true, false, List, [], ◌∷◌, length, drop, Option, Some, None}
use Rattle.std.proofs.Common.{inl, inr, ap, sym, refl, ◌∙◌, arith, add-zero}
use Rattle.std.specs.Prelude.{is_some}
use Rattle.std.proofs.lemmas.Bool.{cases_lt}
use Rattle.std.proofs.lemmas.List.{at_drop_more, drop_all}
use Rattle.ux_model.specs.Places.{place, empty_places_from}
use Rattle.ux_model.specs.Process.{Descriptor}
use Rattle.ux_number_sets.specs.Sets.{has_number, IsFirstFree, FindsFirstFree}
use Rattle.ux_fdtable.specs.Padded.{padded, IsTable, FindsFree}
use Rattle.ux_fdtable.proofs.Places.{length-padded, place_padded}

next : (i : ℕ) (xs : List (Option Descriptor)) → empty_places_from (suc i) xs ≡ empty_places_from (i + 1) xs
next i xs = let e : suc i ≡ i + 1 = omega arith in ap (λ n. empty_places_from n xs) e

held_first : (i : ℕ) (x : Option Descriptor) (xs : List (Option Descriptor)) → is_some x ≡ true →
    empty_places_from i (x ∷ xs) ≡ empty_places_from (i + 1) xs
held_first i None xs e = absurd (cc e)
held_first i (Some y) xs e = next i xs

free_first : (i : ℕ) (x : Option Descriptor) (xs : List (Option Descriptor)) → is_some x ≡ false →
    empty_places_from i (x ∷ xs) ≡ i ∷ empty_places_from (i + 1) xs
free_first i None xs e = ap (λ ns. i ∷ ns) (next i xs)
free_first i (Some y) xs e = absurd (cc e)

held_place : (T : List (Option Descriptor)) (i : ℕ) → i < length T → is_some (place T i) ≡ true →
    empty_places_from i (drop i T) ≡ empty_places_from (i + 1) (drop (i + 1) T)
held_place T i inside held = at_drop_more (empty_places_from i) T i None inside ∙ held_first i (place T i) (drop (i + 1) T) held

free_place : (T : List (Option Descriptor)) (i : ℕ) → i < length T → is_some (place T i) ≡ false →
    empty_places_from i (drop i T) ≡ i ∷ empty_places_from (i + 1) (drop (i + 1) T)
free_place T i inside free = at_drop_more (empty_places_from i) T i None inside ∙ free_first i (place T i) (drop (i + 1) T) free

-- places that are held are passed over
pass_over : (T : List (Option Descriptor)) (from k : ℕ) → from + k ≤ length T →
    ((i : ℕ) → from ≤ i → i < from + k → is_some (place T i) ≡ true) →
    empty_places_from from (drop from T) ≡ empty_places_from (from + k) (drop (from + k) T)
pass_over T from zero inside held = rw (add-zero from) refl
pass_over T from (suc k) inside held =
    let e : from + suc k ≡ from + k + 1 = omega arith in
    rw e (pass_over T from k (omega arith) (λ i low high. held i low (omega arith))
    ∙ held_place T (from + k) (omega arith) (held (from + k) (omega arith) (omega arith)))

pass_to : (T : List (Option Descriptor)) (from n : ℕ) → from ≤ n → n ≤ length T →
    ((i : ℕ) → from ≤ i → i < n → is_some (place T i) ≡ true) → empty_places_from from (drop from T) ≡ empty_places_from n (drop n T)
pass_to T from n low inside held =
    let e : from + (n - from) ≡ n = omega arith in
    pass_over T from (n - from) (omega arith) (λ i after before. held i after (omega arith)) ∙ ap (λ m. empty_places_from m (drop m T)) e

-- ---- in a table

held_if_in_use : (xs : List (Option Descriptor)) (limit : ℕ) (in_use : List Bool) (i : ℕ) (k : Bool) → IsTable xs limit in_use → i < limit →
    has_number in_use i ≡ k → is_some (place (padded xs limit) i) ≡ k
held_if_in_use xs limit in_use i k table inside present = ap is_some (place_padded xs limit i) ∙ sym (table.agrees i inside) ∙ present

pub length_of_table : (xs : List (Option Descriptor)) (limit : ℕ) (in_use : List Bool) → IsTable xs limit in_use →
    length (padded xs limit) ≡ limit
length_of_table xs limit in_use table = omega (arith, length-padded xs limit, table.within)

-- every number from here on is in use
none_free : (xs : List (Option Descriptor)) (limit from : ℕ) (in_use : List Bool) → IsTable xs limit in_use →
    ((i : ℕ) → from ≤ i → i < limit → has_number in_use i ≡ true) → empty_places_from from (drop from (padded xs limit)) ≡ []
none_free xs limit from in_use table present =
    let long : length (padded xs limit) ≡ limit = length_of_table xs limit in_use table in
    elim (cases_lt limit from) [
      | inl past ↦ ap (empty_places_from from) (drop_all from (padded xs limit) (omega arith))
      | inr low ↦ pass_to (padded xs limit) from limit low (omega arith)
          (λ i after before. held_if_in_use xs limit in_use i true table before (present i after before))
          ∙ ap (empty_places_from limit) (drop_all limit (padded xs limit) (omega arith))
    ]

first_free : (xs : List (Option Descriptor)) (limit from n : ℕ) (in_use : List Bool) → IsTable xs limit in_use → IsFirstFree in_use from n →
    FindsFree (padded xs limit) from (Some n)
first_free xs limit from n in_use table found =
    let small : n < limit = omega (arith, found.within, table.covered) in
    let long : length (padded xs limit) ≡ limit = length_of_table xs limit in_use table in (
      omega arith,
      pass_to (padded xs limit) from n found.after (omega arith)
          (λ i low high. held_if_in_use xs limit in_use i true table (omega arith) (found.before i low high))
          ∙ free_place (padded xs limit) n (omega arith) (held_if_in_use xs limit in_use n false table small found.free),
    )

pub finds_free : (xs : List (Option Descriptor)) (limit from : ℕ) (in_use : List Bool) (answer : Option ℕ) → IsTable xs limit in_use →
    FindsFirstFree in_use from answer → FindsFree (padded xs limit) from answer
finds_free xs limit from in_use None table none =
    none_free xs limit from in_use table (λ i low high. none i low (omega (arith, table.covered)))
finds_free xs limit from in_use (Some n) table found = first_free xs limit from n in_use table found
