-- Lemmas that lead from the sets of groups to the set of all their numbers.
use Rattle.std.proofs.Common.{◌≡◌, ◌≢◌, ℕ, ◌+◌, ◌-◌, ◌*◌, ◌/◌, ◌%◌, ◌<◌, ◌≤◌, max, Bool, true, false, List, [], ◌∷◌, ◌++◌, length, get_or}
use Rattle.std.proofs.Common.{None, inl, inr, refl, ap, sym, subst, ◌∙◌, arith}
use Rattle.std.proofs.lemmas.Bool.{cases_lt, cases_eq}
use Rattle.std.proofs.lemmas.List.{get_or_past, get_or_append_left, get_or-append_right, length-append}
use Rattle.std.proofs.lemmas.List.FromFn.{length-map-range_with_len, get_or-map-range_with_len, fill_by_all}
use Rattle.ux_number_sets.specs.Sets.{has_number, IsEmptySet, IsFirstFree, FindsFirstFree, PutsNumber}
use Rattle.ux_number_sets.specs.Groups.{group_len, group, in_group, set_of_groups, IsFull, AreGroups, AddsGroups, PutsInGroup, PutsFull}

-- ---- the numbers in groups

pub groups_length : (groups : List (List Bool)) (count : ℕ) → length (set_of_groups groups count) ≡ group_len * count
groups_length groups count = length-map-range_with_len (in_group groups) 0 (group_len * count)

number_in : (groups : List (List Bool)) (count n : ℕ) → n < group_len * count →
    has_number (set_of_groups groups count) n ≡ in_group groups n
number_in groups count n low = get_or-map-range_with_len (in_group groups) 0 (group_len * count) n n false low (omega arith)

free_past : (groups : List (List Bool)) (count n : ℕ) → group_len * count ≤ n → has_number (set_of_groups groups count) n ≡ false
free_past groups count n high = get_or_past (set_of_groups groups count) n false (omega (arith, high, groups_length groups count))

-- in a group that isn't there no number is
none_past : (groups : List (List Bool)) (g i : ℕ) → length groups ≤ g → has_number (group groups g) i ≡ false
none_past groups g i high = ap (λ m. has_number m i) (get_or_past groups g [] high)

not_full : (numbers : List Bool) → has_number numbers 0 ≡ false → IsFull numbers → ⊥
not_full numbers free full = let clash : false ≡ true = sym free ∙ full 0 (omega arith) in absurd (cc clash)

pub none_in_groups : (full : List Bool) (count : ℕ) → length full ≡ count →
    IsEmptySet (group_len * count) (set_of_groups [] (length full))
none_in_groups full count e = record {
  len = groups_length [] (length full) ∙ ap (λ k. group_len * k) e;
  none = λ n. elim (cases_lt n (group_len * length full)) [
    | inl low ↦ number_in [] (length full) n low ∙ none_past [] (n / group_len) (n % group_len) (omega arith)
    | inr high ↦ free_past [] (length full) n high
  ];
}

pub no_groups : (full : List Bool) → length full ≤ group_len → ((g : ℕ) → has_number full g ≡ false) → AreGroups [] full
no_groups full small free = record {
  few = omega arith;
  small = small;
  long = λ g low. absurd (omega (arith, low));
  full_groups = λ g low present. let clash : false ≡ true = sym (free g) ∙ present in absurd (cc clash);
  open_groups = λ g low present. not_full (group [] g) (none_past [] g 0 (omega arith));
}

-- ---- further groups

pub no_more_groups : (groups : List (List Bool)) → AddsGroups groups groups
no_more_groups groups = record { more = omega arith; kept = λ g low. refl; added = λ g high low. absurd (omega (arith, high, low)) }

pub one_group_more : (old now : List (List Bool)) (numbers : List Bool) → AddsGroups old now → IsEmptySet group_len numbers →
    AddsGroups old (now ++ numbers ∷ [])
one_group_more old now numbers r none =
    let long : length (now ++ numbers ∷ []) ≡ length now + 1 = length-append now (numbers ∷ []) in
    record {
      more = omega (arith, long, r.more);
      kept = λ g low. get_or_append_left now (numbers ∷ []) [] g (omega (arith, low, r.more)) ∙ r.kept g low;
      added = λ g high low. elim (cases_lt g (length now)) [
        | inl before ↦ subst (IsEmptySet group_len) (sym (get_or_append_left now (numbers ∷ []) [] g before)) (r.added g high before)
        | inr last ↦
            let here : g ≡ length now = omega (arith, last, low, long) in
            let first : g - length now ≡ 0 = omega (arith, here) in
            subst (IsEmptySet group_len) (sym (get_or-append_right now (numbers ∷ []) (length now) g [] refl last
            ∙ ap (λ k. get_or (numbers ∷ []) k []) first)) none
      ];
    }

same_number : (old new : List (List Bool)) → AddsGroups old new → (g i : ℕ) → has_number (group new g) i ≡ has_number (group old g) i
same_number old new r g i = elim (cases_lt g (length old)) [
  | inl there ↦ ap (λ m. has_number m i) (r.kept g there)
  | inr past ↦ elim (cases_lt g (length new)) [
    | inl made ↦ (r.added g past made).none i ∙ sym (none_past old g i past)
    | inr beyond ↦ none_past new g i beyond ∙ sym (none_past old g i past)
  ]
]

pub same_set : (old new : List (List Bool)) (count : ℕ) → AddsGroups old new → set_of_groups new count ≡ set_of_groups old count
same_set old new count r =
    sym (fill_by_all (in_group new) (set_of_groups old count) (group_len * count) false (groups_length old count)
    (λ n low. number_in old count n low ∙ sym (same_number old new r (n / group_len) (n % group_len))))

pub more_are_groups : (old new : List (List Bool)) (full : List Bool) → AreGroups old full → AddsGroups old new → length new ≤ length full →
    AreGroups new full
more_are_groups old new full groups r few = record {
  few = few;
  small = groups.small;
  long = λ g low. elim (cases_lt g (length old)) [
    | inl there ↦ ap length (r.kept g there) ∙ groups.long g there
    | inr past ↦ (r.added g past low).len
  ];
  full_groups = λ g low present i inside. same_number old new r g i ∙ groups.full_groups g low present i inside;
  open_groups = λ g low free whole. groups.open_groups g low free (λ i inside. sym (same_number old new r g i) ∙ whole i inside);
}

-- ---- one number

pub put_are_groups : (old new : List (List Bool)) (before after : List Bool) (g i : ℕ) (is_in : Bool) → AreGroups old before →
    g < length old → PutsInGroup old new g i is_in → PutsFull (group new g) before after g → AreGroups new after
put_are_groups old new before after g i is_in groups there put put_full = record {
  few = omega (arith, groups.few, put.same_length, put_full.same_length);
  small = omega (arith, groups.small, put_full.same_length);
  long = λ h low. elim (cases_eq h g) [
    | inl here ↦ rw here (put.this.same_length ∙ groups.long g there)
    | inr other ↦ ap length (put.others h other) ∙ groups.long h (omega (arith, low, put.same_length))
  ];
  full_groups = λ h low present. elim (cases_eq h g) [
    | inl here ↦ subst (λ k. IsFull (group new k)) (sym here) (put_full.yes (sym (ap (has_number after) here) ∙ present))
    | inr other ↦ subst IsFull (sym (put.others h other))
        (groups.full_groups h (omega (arith, low, put_full.same_length)) (sym (put_full.others h other) ∙ present))
  ];
  open_groups = λ h low free whole. elim (cases_eq h g) [
    | inl here ↦ put_full.no (sym (ap (has_number after) here) ∙ free) (subst (λ k. IsFull (group new k)) here whole)
    | inr other ↦ groups.open_groups h (omega (arith, low, put_full.same_length)) (sym (put_full.others h other) ∙ free)
        (subst IsFull (put.others h other) whole)
  ];
}

put_number : (old new : List (List Bool)) (count n : ℕ) (is_in : Bool) → n < group_len * count →
    PutsInGroup old new (n / group_len) (n % group_len) is_in → PutsNumber (set_of_groups old count) (set_of_groups new count) n is_in
put_number old new count n is_in low put = record {
  same_length = groups_length new count ∙ sym (groups_length old count);
  this = number_in new count n low ∙ put.this.this;
  others = λ i other. elim (cases_lt i (group_len * count)) [
    | inl inside ↦ number_in new count i inside ∙ elsewhere i other ∙ sym (number_in old count i inside)
    | inr past ↦ free_past new count i past ∙ sym (free_past old count i past)
  ];
}
  where
    elsewhere : (i : ℕ) → i ≢ n → in_group new i ≡ in_group old i
    elsewhere i other = elim (cases_eq (i / group_len) (n / group_len)) [
      | inl here ↦
          let apart : i % group_len ≢ n % group_len = omega (arith, here, other) in
          ap (λ g. has_number (group new g) (i % group_len)) here ∙ put.this.others (i % group_len) apart
          ∙ ap (λ g. has_number (group old g) (i % group_len)) (sym here)
      | inr away ↦ ap (λ m. has_number m (i % group_len)) (put.others (i / group_len) away)
    ]

pub put_group_number : (old new : List (List Bool)) (before after : List Bool) (n : ℕ) (is_in : Bool) → n < group_len * length before →
    PutsInGroup old new (n / group_len) (n % group_len) is_in → length after ≡ length before
    → PutsNumber (set_of_groups old (length before)) (set_of_groups new (length after)) n is_in
put_group_number old new before after n is_in low put same = rw same (put_number old new (length before) n is_in low put)

-- where there is room for the group of each number, further groups are no more than that
pub few_groups : (old new full : ℕ) (n : ℕ) → old ≤ full → new ≤ max old (n / group_len + 1) → n < group_len * full → new ≤ full
few_groups old new full n few more low = omega (arith, few, more, low)

-- taking a number out of a group that isn't there changes nothing
pub nothing_put : (groups : List (List Bool)) (count n : ℕ) → n < group_len * count → length groups ≤ n / group_len →
    PutsNumber (set_of_groups groups count) (set_of_groups groups count) n false
nothing_put groups count n low past = record {
  same_length = refl;
  this = number_in groups count n low ∙ none_past groups (n / group_len) (n % group_len) past;
  others = λ i other. refl;
}

-- ---- searches

-- all groups are full
pub all_in : (groups : List (List Bool)) (full : List Bool) → AreGroups groups full →
    ((g : ℕ) → 0 ≤ g → g < length full → has_number full g ≡ true)
    → FindsFirstFree (set_of_groups groups (length full)) 0 None
all_in groups full kept whole = λ n from low.
    let inside : n < group_len * length full = omega (arith, low, groups_length groups (length full)) in
    number_in groups (length full) n inside ∙ kept.full_groups (n / group_len) (omega (arith, inside))
    (whole (n / group_len) (omega arith) (omega (arith, inside))) (n % group_len) (omega arith)

-- the first number of the first group that isn't full
first_free : (groups : List (List Bool)) (full : List Bool) (g i : ℕ) → AreGroups groups full → IsFirstFree full 0 g → i < group_len →
    has_number (group groups g) i ≡ false
    → ((k : ℕ) → k < i → has_number (group groups g) k ≡ true) → IsFirstFree (set_of_groups groups (length full)) 0 (g * group_len + i)
first_free groups full g i kept first low free before =
    let inside : g * group_len + i < group_len * length full = omega (arith, low, first.within) in
    let q : (g * group_len + i) / group_len ≡ g = omega (arith, low) in
    let r : (g * group_len + i) % group_len ≡ i = omega (arith, low) in
    record {
      within = omega (arith, inside, groups_length groups (length full));
      after = omega arith;
      free = number_in groups (length full) (g * group_len + i) inside ∙ rw (q, r) free;
      before = λ n from small. number_in groups (length full) n (omega (arith, small, inside)) ∙ elim (cases_lt (n / group_len) g) [
        | inl earlier ↦ kept.full_groups (n / group_len) (omega (arith, earlier, first.within))
            (first.before (n / group_len) (omega arith) earlier) (n % group_len) (omega arith)
        | inr here ↦
            let same : n / group_len ≡ g = omega (arith, small, here, low) in
            ap (λ h. has_number (group groups h) (n % group_len)) same ∙ before (n % group_len) (omega (arith, small, same))
      ];
    }

-- in a group that isn't there yet
pub first_in_none : (groups : List (List Bool)) (full : List Bool) (g : ℕ) → AreGroups groups full → IsFirstFree full 0 g →
    length groups ≤ g → IsFirstFree (set_of_groups groups (length full)) 0 (g * group_len)
first_in_none groups full g kept first past =
    let e : g * group_len + 0 ≡ g * group_len = omega arith in
    subst (IsFirstFree (set_of_groups groups (length full)) 0) e
    (first_free groups full g 0 kept first (omega arith) (none_past groups g 0 past) (λ k low. absurd (omega (arith, low))))

-- in a group that is there
pub first_in_group : (groups : List (List Bool)) (full : List Bool) (g i : ℕ) → AreGroups groups full → IsFirstFree full 0 g →
    g < length groups → IsFirstFree (group groups g) 0 i → IsFirstFree (set_of_groups groups (length full)) 0 (g * group_len + i)
first_in_group groups full g i kept first there found =
    first_free groups full g i kept first (omega (arith, found.within, kept.long g there)) found.free
    (λ k low. found.before k (omega arith) low)

-- a group that isn't full has a free number
pub found_none : (groups : List (List Bool)) (full : List Bool) (g : ℕ) → AreGroups groups full → IsFirstFree full 0 g →
    g < length groups → FindsFirstFree (group groups g) 0 None → ⊥
found_none groups full g kept first there whole =
    kept.open_groups g first.within first.free (λ i low. whole i (omega arith) (omega (arith, low, kept.long g there)))
