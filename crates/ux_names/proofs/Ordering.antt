-- Lemmas on names in order of their numbers.
use Rattle.std.proofs.Common.{◌≡◌, ◌≢◌, ℕ, zero, suc, ◌+◌, ◌<◌, ◌≤◌, Bool, true, false, cond, not, List, [], ◌∷◌, ◌++◌, length, map, filter}
use Rattle.std.proofs.Common.{Option, Some, None, inl, inr, refl, ap, sym, subst, ◌∙◌, ◌⊎◌, get_or, position, IsPermutation, arith}
use Rattle.std.proofs.Common.{true≢false}
use Rattle.std.specs.Prelude.{option_map}
use Rattle.std.specs.List.{All, AllByRecursion, IsDistinct, range_with_len, flat_map, swap_remove, position_or_len}
use Rattle.std.specs.List.Sorted.{IsNonDecreasingBy}
use Rattle.std.specs.Map.{lookup, keys_of}
use Rattle.std.proofs.lemmas.Bool.{cases_Bool, cases_eq, cases_lt, eq-eqb, ne_eqb}
use Rattle.std.proofs.lemmas.List.{append-nil, append_assoc, length-append, length-map, get_or-map, get_or_default}
use Rattle.std.proofs.lemmas.List.Elements.{All-nil, All-cons, All-head, All-filter, filter_passes, filter-append}
use Rattle.std.proofs.lemmas.List.Sums.{length-filter}
use Rattle.std.proofs.lemmas.List.Sorted.{All-permutation, sum_by-IsPermutation, length_permutation, IsPermutation-swap_remove}
use Rattle.indexmap.specs.IndexMap.{swap_remove_entry}
use Rattle.indexmap.proofs.MapLemmas.{swap_remove_entry-found, swap_remove_entry-missing, Found-position, Missing-position}
use Rattle.ux_model.specs.Types.{Name}
use Rattle.ux_model.specs.Names.{same_name, named, without_name}
use Rattle.ux_names.specs.declared.listing.Binding.{Binding}
use Rattle.ux_names.specs.Order.{has_number, shown, bound_as, in_order, AreNumbered}
use Rattle.ux_names.proofs.NameLaws.{same_name_tells, same_name_at, same_name_sym, nothing_without}

-- ---- what passes a test

module _ {A : Type 0} where
  kept : (p : A → Bool) (x : A) (xs : List A) → p x ≡ true → filter p (x ∷ xs) ≡ x ∷ filter p xs
  kept p x xs passes = ap (λ b. cond b (x ∷ filter p xs) (filter p xs)) passes

  left_out : (p : A → Bool) (x : A) (xs : List A) → p x ≡ false → filter p (x ∷ xs) ≡ filter p xs
  left_out p x xs fails = ap (λ b. cond b (x ∷ filter p xs) (filter p xs)) fails

  nothing_in : (xs : List A) → length xs ≤ 0 → xs ≡ []
  nothing_in [] short = refl
  nothing_in (x ∷ xs) short = absurd (omega (arith, short))

  fewer : (p : A → Bool) (x : A) (xs : List A) → length (filter p xs) ≤ length (filter p (x ∷ xs))
  fewer p x xs = elim (cases_Bool (p x)) [
    | inl passes ↦ omega (arith, ap length (kept p x xs passes))
    | inr fails ↦ omega (arith, ap length (left_out p x xs fails))
  ]

  alone : (p : A → Bool) (x : A) (xs : List A) → p x ≡ true → length (filter p (x ∷ xs)) ≤ 1 → filter p xs ≡ []
  alone p x xs passes few = nothing_in (filter p xs) (omega (arith, ap length (kept p x xs passes), few))

  count_moved : (p : A → Bool) (xs ys : List A) → IsPermutation xs ys → length (filter p ys) ≡ length (filter p xs)
  count_moved p xs ys moved = length-filter p ys ∙ sum_by-IsPermutation (λ x. cond (p x) 1 0) xs ys moved ∙ sym (length-filter p xs)

  none_pass : (p : A → Bool) (x : A) (xs : List A) → filter p xs ≡ [] → All (λ z. p z ≡ true → z ≡ x) xs
  none_pass p x [] none = All-nil (λ z. p z ≡ true → z ≡ x)
  none_pass p x (y ∷ ys) none = elim (cases_Bool (p y)) [
    | inl passes ↦ let clash : y ∷ filter p ys ≡ [] = sym (kept p y ys passes) ∙ none in absurd (cc clash)
    | inr fails ↦ All-cons (λ z. p z ≡ true → z ≡ x) y ys
        (λ h. absurd (true≢false (sym h ∙ fails))) (none_pass p x ys (sym (left_out p y ys fails) ∙ none))
  ]

  one_passes : (p : A → Bool) (x : A) (xs : List A) → filter p xs ≡ x ∷ [] → All (λ z. p z ≡ true → z ≡ x) xs
  one_passes p x [] one = All-nil (λ z. p z ≡ true → z ≡ x)
  one_passes p x (y ∷ ys) one = elim (cases_Bool (p y)) [
    | inl passes ↦
        let l : y ∷ filter p ys ≡ x ∷ [] = sym (kept p y ys passes) ∙ one in
        let head : y ≡ x = cc l in
        let rest : filter p ys ≡ [] = cc l in
        All-cons (λ z. p z ≡ true → z ≡ x) y ys (λ h. head) (none_pass p x ys rest)
    | inr fails ↦ All-cons (λ z. p z ≡ true → z ≡ x) y ys
        (λ h. absurd (true≢false (sym h ∙ fails))) (one_passes p x ys (sym (left_out p y ys fails) ∙ one))
  ]

  -- where at most one passes, the order doesn't matter
  filter_moved : (p : A → Bool) (xs ys : List A) → IsPermutation xs ys → length (filter p xs) ≤ 1 → filter p xs ≡ filter p ys
  filter_moved p xs ys moved few = by (filter p xs) (filter p ys) refl refl few (count_moved p xs ys moved)
    where
      by : (us vs : List A) → filter p xs ≡ us → filter p ys ≡ vs → length us ≤ 1 → length vs ≡ length us → us ≡ vs
      by [] [] first second short same = refl
      by [] (v ∷ vs) first second short same = absurd (omega (arith, same))
      by (u ∷ []) [] first second short same = absurd (omega (arith, same))
      by (u ∷ []) (v ∷ []) first second short same =
          let passes : All (λ z. p z ≡ true) (v ∷ []) = subst (All (λ z. p z ≡ true)) second (filter_passes p ys) in
          let is : All (λ z. p z ≡ true → z ≡ u) (v ∷ []) =
          subst (All (λ z. p z ≡ true → z ≡ u)) second
          (All-filter p (λ z. p z ≡ true → z ≡ u) ys (All-permutation (λ z. p z ≡ true → z ≡ u) xs ys moved (one_passes p u xs first))) in
          ap (λ z. z ∷ []) (sym (All-head (λ z. p z ≡ true → z ≡ u) v [] is (All-head (λ z. p z ≡ true) v [] passes)))
      by (u ∷ []) (v ∷ w ∷ vs) first second short same = absurd (omega (arith, same))
      by (u ∷ t ∷ us) vs first second short same = absurd (omega (arith, short))

-- ---- lists whose elements are seen otherwise

pub map_twice : {A B C : Type 0} (f : A → B) (g : B → C) (xs : List A) → map g (map f xs) ≡ map (λ x. g (f x)) xs
map_twice f g [] = refl
map_twice f g (x ∷ xs) = ap (λ l. g (f x) ∷ l) (map_twice f g xs)

pub mapped_sorted : {A B : Type 0} (f : A → B) (n : B → ℕ) (xs : List A) → IsNonDecreasingBy (λ x. n (f x)) xs →
    IsNonDecreasingBy n (map f xs)
mapped_sorted f n [] up i j d low high = absurd (omega (arith, high))
mapped_sorted f n (x ∷ xs) up i j d low high =
    let within : j < length (x ∷ xs) = omega (arith, high, length-map (x ∷ xs) f) in
    omega (
      arith,
      ap n (get_or-map f (x ∷ xs) i x d (omega (arith, low, within))),
      ap n (get_or-map f (x ∷ xs) j x d within),
      up i j x low within,
    )

-- ---- lists that stand end to end, one for each number

module _ {A : Type 0} where
  flat_below : (f g : ℕ → List A) (a len : ℕ) → ((n : ℕ) → a ≤ n → n < a + len → f n ≡ g n) →
      flat_map f (range_with_len a len) ≡ flat_map g (range_with_len a len)
  flat_below f g a zero same = refl
  flat_below f g a (suc len) same =
      (λ i. same a (omega arith) (omega arith) i ++ flat_below f g (a + 1) len
      (λ n low high. same n (omega (arith, low)) (omega (arith, high))) i)

  flat_more : (f : ℕ → List A) (a len n : ℕ) → a + len ≡ n →
      flat_map f (range_with_len a (suc len)) ≡ flat_map f (range_with_len a len) ++ f n
  flat_more f a zero n at = let here : a ≡ n = omega (arith, at) in append-nil (f a) ∙ ap f here
  flat_more f a (suc len) n at = ap (λ l. f a ++ l) (flat_more f (a + 1) len n (omega (arith, at)))
      ∙ sym (append_assoc (f a) (flat_map f (range_with_len (a + 1) len)) (f n))

  flat_as_long : (f g : ℕ → List A) (a len : ℕ) → ((n : ℕ) → a ≤ n → length (g n) ≡ length (f n)) →
      length (flat_map g (range_with_len a len)) ≡ length (flat_map f (range_with_len a len))
  flat_as_long f g a zero same = refl
  flat_as_long f g a (suc len) same =
      omega (
        arith,
        length-append (f a) (flat_map f (range_with_len (a + 1) len)),
        length-append (g a) (flat_map g (range_with_len (a + 1) len)),
        same a (omega arith),
        flat_as_long f g (a + 1) len (λ n low. same n (omega (arith, low))),
      )

  -- one list is longer by one
  flat_longer : (f g : ℕ → List A) (k a len : ℕ) → a ≤ k → k < a + len → ((n : ℕ) → n ≢ k → length (g n) ≡ length (f n)) →
      length (g k) ≡ suc (length (f k)) → length (flat_map g (range_with_len a len)) ≡ suc (length (flat_map f (range_with_len a len)))
  flat_longer f g k a zero low high others here = absurd (omega (arith, low, high))
  flat_longer f g k a (suc len) low high others here =
      let left = length-append (f a) (flat_map f (range_with_len (a + 1) len)) in
      let right = length-append (g a) (flat_map g (range_with_len (a + 1) len)) in
      elim (cases_eq a k) [
        | inl is ↦
            let first : length (g a) ≡ suc (length (f a)) = subst (λ n. length (g n) ≡ suc (length (f n))) (sym is) here in
            omega (
              arith,
              left,
              right,
              first,
              flat_as_long f g (a + 1) len
                  (λ n above. others n (λ e. absurd (omega (arith, above, e, is)))),
            )
        | inr apart ↦ omega (
          arith,
          left,
          right,
          others a apart,
          flat_longer f g k (a + 1) len (omega (arith, low, apart)) (omega (arith, high)) others here,
        )
      ]

  flat_filter : (p : A → Bool) (f : ℕ → List A) (ns : List ℕ) → filter p (flat_map f ns) ≡ flat_map (λ n. filter p (f n)) ns
  flat_filter p f [] = refl
  flat_filter p f (n ∷ ns) = filter-append p (f n) (flat_map f ns) ∙ ap (λ l. filter p (f n) ++ l) (flat_filter p f ns)

module _ {X : Type 0} (name : Name) where
  named_later : (xs ys : List (Name × X)) → named name xs ≡ None → named name (xs ++ ys) ≡ named name ys
  named_later [] ys none = refl
  named_later (x ∷ xs) ys none = elim (cases_Bool (same_name x.0 name)) [
    | inl same ↦ let clash : Some x.1 ≡ None = rw same at none in absurd (cc clash)
    | inr apart ↦ let rest : named name xs ≡ None = rw apart at none in rw apart (named_later xs ys rest)
  ]

  named_before : (v : X) (xs ys : List (Name × X)) → named name xs ≡ Some v → named name (xs ++ ys) ≡ Some v
  named_before v [] ys some = absurd (cc some)
  named_before v (x ∷ xs) ys some = elim (cases_Bool (same_name x.0 name)) [
    | inl same ↦ let here : Some x.1 ≡ Some v = rw same at some in rw same here
    | inr apart ↦ let rest : named name xs ≡ Some v = rw apart at some in rw apart (named_before v xs ys rest)
  ]

  flat_unnamed : (f : ℕ → List (Name × X)) (ns : List ℕ) → ((n : ℕ) → named name (f n) ≡ None) → named name (flat_map f ns) ≡ None
  flat_unnamed f [] none = refl
  flat_unnamed f (n ∷ ns) none = named_later (f n) (flat_map f ns) (none n) ∙ flat_unnamed f ns none

  flat_named : (f : ℕ → List (Name × X)) (v : X) (k a len : ℕ) → a ≤ k → k < a + len → ((n : ℕ) → n ≢ k → named name (f n) ≡ None) →
      named name (f k) ≡ Some v → named name (flat_map f (range_with_len a len)) ≡ Some v
  flat_named f v k a zero low high others here = absurd (omega (arith, low, high))
  flat_named f v k a (suc len) low high others here = elim (cases_eq a k) [
    | inl is ↦ named_before v (f a) (flat_map f (range_with_len (a + 1) len)) (ap (λ n. named name (f n)) is ∙ here)
    | inr apart ↦ named_later (f a) (flat_map f (range_with_len (a + 1) len)) (others a apart)
        ∙ flat_named f v k (a + 1) len (omega (arith, low, apart)) (omega (arith, high)) others here
  ]

-- ---- names in order

nothing_flat : (X : Type 0) (a len : ℕ) → length (flat_map (bound_as {X = X} []) (range_with_len a len)) ≡ 0
nothing_flat X a zero = refl
nothing_flat X a (suc len) = nothing_flat X (a + 1) len

nothing_in_order : (X : Type 0) (next : ℕ) → length (in_order {X = X} [] next) ≡ 0
unfolding in_order
nothing_in_order X next = nothing_flat X 0 next

module _ {X : Type 0} where
  pub none_numbered : (next : ℕ) → AreNumbered {X = X} [] next
  none_numbered next = record { once = λ n. omega arith; given = λ n after. omega arith; few = omega arith }

  -- where no number was given yet
  pub none_given : (es : List (Name × Binding X)) → in_order es 0 ≡ []
  unfolding in_order
  none_given es = refl

  pub moved_in_order : (es fs : List (Name × Binding X)) (next : ℕ) → IsPermutation es fs → AreNumbered es next →
      in_order es next ≡ in_order fs next
  unfolding in_order
  moved_in_order es fs next moved numbered =
      flat_below (bound_as es) (bound_as fs) 0 next
      (λ n low high. ap (map shown) (filter_moved (has_number n) es fs moved (numbered.once n)))

  pub moved_numbered : (es fs : List (Name × Binding X)) (next : ℕ) → IsPermutation es fs → AreNumbered es next → AreNumbered fs next
  moved_numbered es fs next moved numbered = record {
    once = λ n. omega (arith, numbered.once n, count_moved (has_number n) es fs moved);
    given = λ n after. omega (arith, numbered.given n after, count_moved (has_number n) es fs moved);
    few = omega (arith, numbered.few, length_permutation es fs moved);
  }

  pub rest_numbered : (e : Name × Binding X) (es : List (Name × Binding X)) (next : ℕ) → AreNumbered (e ∷ es) next → AreNumbered es next
  rest_numbered e es next numbered = record {
    once = λ n. omega (arith, numbered.once n, fewer (has_number n) e es);
    given = λ n after. omega (arith, numbered.given n after, fewer (has_number n) e es);
    few = omega (arith, numbered.few);
  }

  own_number : (e : Name × Binding X) → has_number e.1.number e ≡ true
  own_number e = eq-eqb e.1.number e.1.number refl

  other_number : (e : Name × Binding X) (n : ℕ) → n ≢ e.1.number → has_number n e ≡ false
  other_number e n apart = ne_eqb e.1.number n (λ is. apart (sym is))

  below_next : (e : Name × Binding X) (es : List (Name × Binding X)) (next : ℕ) → AreNumbered (e ∷ es) next → e.1.number < next
  below_next e es next numbered = elim (cases_lt e.1.number next) [
    | inl low ↦ low
    | inr high ↦ absurd (omega (arith, numbered.given e.1.number high, ap length (kept (has_number e.1.number) e es (own_number e))))
  ]

  -- ---- the name at the head of the list, wherever it stands in the order

  module _ (e : Name × Binding X) (es : List (Name × Binding X)) (next : ℕ) (numbered : AreNumbered (e ∷ es) next) where
    rest_here : filter (has_number e.1.number) es ≡ []
    rest_here = alone (has_number e.1.number) e es (own_number e) (numbered.once e.1.number)

    head_here : bound_as (e ∷ es) e.1.number ≡ shown e ∷ []
    head_here = ap (map shown) (kept (has_number e.1.number) e es (own_number e) ∙ ap (λ l. e ∷ l) rest_here)

    head_other : (n : ℕ) → n ≢ e.1.number → bound_as (e ∷ es) n ≡ bound_as es n
    head_other n apart = ap (map shown) (left_out (has_number n) e es (other_number e n apart))

    in_order_longer : length (in_order (e ∷ es) next) ≡ suc (length (in_order es next))
    unfolding in_order
    in_order_longer =
        flat_longer (bound_as es) (bound_as (e ∷ es)) e.1.number 0 next (omega arith) (omega (arith, below_next e es next numbered))
        (λ n apart. ap length (head_other n apart))
        (ap length head_here ∙ ap suc (sym (ap (λ l. length (map shown l)) rest_here)))

    module _ (name : Name) (here : e.0 ≡ name) (others : (n : ℕ) → named name (bound_as es n) ≡ None) where
      head_named : named name (in_order (e ∷ es) next) ≡ Some e.1.value
      unfolding in_order
      head_named =
          flat_named name (bound_as (e ∷ es)) e.1.value e.1.number 0 next (omega arith) (omega (arith, below_next e es next numbered))
          (λ n apart. ap (named name) (head_other n apart) ∙ others n)
          (ap (named name) head_here ∙ rw (same_name_at e.0 name here) refl)

      head_removed : without_name name (in_order (e ∷ es) next) ≡ in_order es next
      unfolding in_order
      head_removed =
          flat_filter (λ z. not (same_name z.0 name)) (bound_as (e ∷ es)) (range_with_len 0 next)
          ∙ flat_below (λ n. without_name name (bound_as (e ∷ es) n)) (bound_as es) 0 next
          (λ n low high. elim (cases_eq n e.1.number) [
            | inl is ↦
                ap (λ k. without_name name (bound_as (e ∷ es) k)) is ∙ ap (without_name name) head_here
                ∙ rw (same_name_at e.0 name here) refl
                ∙ sym (ap (bound_as es) is ∙ ap (map shown) rest_here)
            | inr apart ↦ ap (without_name name) (head_other n apart) ∙ nothing_without name (bound_as es n) (others n)
          ])

  pub length_in_order : (es : List (Name × Binding X)) (next : ℕ) → AreNumbered es next → length (in_order es next) ≡ length es
  length_in_order [] next numbered = nothing_in_order X next
  length_in_order (e ∷ es) next numbered = in_order_longer e es next numbered
      ∙ ap suc (length_in_order es next (rest_numbered e es next numbered))

  -- ---- a name that is bound

  module _ (es : List (Name × Binding X)) (next : ℕ) (numbered : AreNumbered es next) (name : Name) (b : Binding X) (is : b.number ≡ next)
    where
      pushed : (n : ℕ) → filter (has_number n) (es ++ (name, b) ∷ []) ≡ filter (has_number n) es ++ filter (has_number n) ((name, b) ∷ [])
      pushed n = filter-append (has_number n) es ((name, b) ∷ [])

      at_next : filter (has_number next) (es ++ (name, b) ∷ []) ≡ (name, b) ∷ []
      at_next =
          let new : has_number next (name, b) ≡ true = eq-eqb b.number next is in
          pushed next ∙ (λ i. nothing_in (filter (has_number next) es) (numbered.given next (omega arith)) i ++ kept (has_number next)
          (name, b) [] new i)

      elsewhere : (n : ℕ) → n ≢ next → filter (has_number n) (es ++ (name, b) ∷ []) ≡ filter (has_number n) es
      elsewhere n apart =
          let new : has_number n (name, b) ≡ false = ne_eqb b.number n (λ e. apart (sym e ∙ is)) in
          pushed n ∙ ap (λ l. filter (has_number n) es ++ l) (left_out (has_number n) (name, b) [] new)
          ∙ append-nil (filter (has_number n) es)

      pub bound_in_order : in_order (es ++ (name, b) ∷ []) (next + 1) ≡ in_order es next ++ (name, b.value) ∷ []
      unfolding in_order
      bound_in_order =
          let all = bound_as (es ++ (name, b) ∷ []) in
          let one : next + 1 ≡ suc next = omega arith in
          ap (λ len. flat_map all (range_with_len 0 len)) one ∙ flat_more all 0 next next (omega arith)
          ∙ (λ i. flat_below all (bound_as es) 0 next
          (λ n low high. ap (map shown) (elsewhere n (λ e. absurd (omega (arith, e, high))))) i ++ ap (map shown) at_next i)

      pub bound_numbered : AreNumbered (es ++ (name, b) ∷ []) (next + 1)
      bound_numbered = record {
        once = λ n. elim (cases_eq n next) [
          | inl here ↦ subst (λ k. length (filter (has_number k) (es ++ (name, b) ∷ [])) ≤ 1) (sym here) (omega (arith, ap length at_next))
          | inr apart ↦ omega (arith, numbered.once n, ap length (elsewhere n apart))
        ];
        given = λ n after. omega (
          arith,
          numbered.given n (omega (arith, after)),
          ap length (elsewhere n (λ e. absurd (omega (arith, e, after)))),
        );
        few = omega (arith, numbered.few, length-append es ((name, b) ∷ []));
      }

  -- ---- a name among the entries

  absent : (name : Name) (es : List (Name × Binding X)) → filter (λ e. same_name name e.0) es ≡ [] → (n : ℕ) →
      named name (bound_as es n) ≡ None
  absent name [] none n = refl
  absent name (e ∷ es) none n = elim (cases_Bool (same_name name e.0)) [
    | inl same ↦ let clash : e ∷ filter (λ y. same_name name y.0) es ≡ [] = sym (kept (λ y. same_name name y.0) e es same) ∙ none in
        absurd (cc clash)
    | inr apart ↦
        let rest = absent name es (sym (left_out (λ y. same_name name y.0) e es apart) ∙ none) n in
        elim (cases_Bool (has_number n e)) [
          | inl this ↦ ap (λ l. named name (map shown l)) (kept (has_number n) e es this) ∙ rw (same_name_sym e.0 name, apart) rest
          | inr other ↦ ap (λ l. named name (map shown l)) (left_out (has_number n) e es other) ∙ rest
        ]
  ]

  unlisted : (name : Name) (es : List (Name × Binding X)) → lookup (same_name name) es ≡ None → filter (λ e. same_name name e.0) es ≡ []
  unlisted name [] none = refl
  unlisted name (e ∷ es) none = elim (cases_Bool (same_name name e.0)) [
    | inl same ↦ let clash : Some e.1 ≡ None = rw same at none in absurd (cc clash)
    | inr apart ↦ let rest : lookup (same_name name) es ≡ None = rw apart at none in
        left_out (λ y. same_name name y.0) e es apart ∙ unlisted name es rest
  ]

  -- a name that differs from each key stands nowhere
  all_apart : (name : Name) (es : List (Name × Binding X)) → AllByRecursion (λ y. same_name name y ≡ false) (keys_of es) →
      filter (λ e. same_name name e.0) es ≡ []
  all_apart name [] apart = refl
  all_apart name (e ∷ es) apart = left_out (λ y. same_name name y.0) e es apart.0 ∙ all_apart name es apart.1

  once_named : (name : Name) (es : List (Name × Binding X)) → IsDistinct same_name (keys_of es) →
      length (filter (λ e. same_name name e.0) es) ≤ 1
  unfolding IsDistinct
  once_named name [] distinct = omega arith
  once_named name (e ∷ es) distinct = elim (same_name_tells name e.0) [
    | inl same ↦
        let apart : AllByRecursion (λ y. same_name name y ≡ false) (keys_of es) =
        subst (λ (k : Name). AllByRecursion (λ y. same_name k y ≡ false) (keys_of es)) (sym same.1) distinct.0 in
        omega (arith, ap length (kept (λ y. same_name name y.0) e es same.0), ap length (all_apart name es apart))
    | inr other ↦ omega (arith, ap length (left_out (λ y. same_name name y.0) e es other.0), once_named name es distinct.1)
  ]

  -- the first key that is the name
  first_is : (name : Name) (es : List (Name × Binding X)) (d : Name × Binding X) (i : ℕ) →
      position_or_len (same_name name) (keys_of es) ≡ i → i < length es →
      (same_name name (get_or es i d).0 ≡ true) × (lookup (same_name name) es ≡ Some (get_or es i d).1)
  first_is name [] d i at within = absurd (omega (arith, within))
  first_is name (e ∷ es) d zero at within = elim (cases_Bool (same_name name e.0)) [
    | inl same ↦ (same, rw same refl)
    | inr apart ↦ absurd (omega (arith, (rw apart at at)))
  ]
  first_is name (e ∷ es) d (suc i) at within = elim (cases_Bool (same_name name e.0)) [
    | inl same ↦ absurd (omega (arith, (rw same at at)))
    | inr apart ↦ let found = first_is name es d i (omega (arith, (rw apart at at))) (omega (arith, within)) in
        (found.0, (rw apart found.1))
  ]

  -- the name isn't there
  record IsUnlisted (name : Name) (es : List (Name × Binding X)) : Type 0 where
    pub looked : lookup (same_name name) es ≡ None
    pub stays : swap_remove_entry (same_name name) es ≡ es

  -- the name's entry, and the others in the order in which its removal leaves them
  record IsListed (name : Name) (es : List (Name × Binding X)) (e : Name × Binding X) (rest : List (Name × Binding X)) : Type 0 where
    pub moved : IsPermutation es (e ∷ rest)
    pub here : e.0 ≡ name
    pub others : (n : ℕ) → named name (bound_as rest n) ≡ None
    pub looked : lookup (same_name name) es ≡ Some e.1
    pub leaves : swap_remove_entry (same_name name) es ≡ rest

  look : (name : Name) (es : List (Name × Binding X)) → IsDistinct same_name (keys_of es) →
      IsUnlisted name es ⊎ ((e : Name × Binding X) × (rest : List (Name × Binding X)) × IsListed name es e rest)
  look name [] distinct = inl (record { looked = refl; stays = refl })
  look name (x ∷ xs) distinct = by (position (same_name name) (keys_of (x ∷ xs))) refl
    where
      by : (r : Option ℕ) → position (same_name name) (keys_of (x ∷ xs)) ≡ r →
          IsUnlisted name (x ∷ xs) ⊎ ((e : Name × Binding X) × (rest : List (Name × Binding X)) × IsListed name (x ∷ xs) e rest)
      by None p = inl (record {
        looked = (Missing-position (same_name name) (x ∷ xs) p).value;
        stays =
            swap_remove_entry-missing (same_name name) (x ∷ xs) p;
      })
      by (Some i) p =
          let es = x ∷ xs in
          let f = Found-position (same_name name) es i p in
          let at = first_is name es x i f.or_len f.within in
          let e = get_or es i x in
          let moved = IsPermutation-swap_remove es i e f.within (get_or_default es i x e f.within) in
          let few : length (filter (λ y. same_name name y.0) (e ∷ swap_remove es i e)) ≤ 1 =
          omega (arith, count_moved (λ y. same_name name y.0) es (e ∷ swap_remove es i e) moved, once_named name es distinct) in
          inr (
            e,
            swap_remove es i e,
            record {
              moved = moved;
              here = sym (elim (same_name_tells name e.0) [ inl same ↦ same.1 | inr apart ↦ absurd (true≢false (sym at.0 ∙ apart.0)) ]);
              others = absent name (swap_remove es i e) (alone (λ y. same_name name y.0) e (swap_remove es i e) at.0 few);
              looked = at.1;
              leaves = swap_remove_entry-found (same_name name) es i e p;
            },
          )

  none_in_order : (name : Name) (es : List (Name × Binding X)) (next : ℕ) → lookup (same_name name) es ≡ None →
      named name (in_order es next) ≡ None
  unfolding in_order
  none_in_order name es next none = flat_unnamed name (bound_as es) (range_with_len 0 next) (absent name es (unlisted name es none))

  module _ (name : Name) (es : List (Name × Binding X)) (next : ℕ) (distinct : IsDistinct same_name (keys_of es))
      (numbered : AreNumbered es next) where
    pub named_in_order : named name (in_order es next) ≡ option_map (λ (b : Binding X). b.value) (lookup (same_name name) es)
    named_in_order = elim (look name es distinct) [
      | inl none ↦ none_in_order name es next none.looked ∙ sym (ap (option_map (λ (b : Binding X). b.value)) none.looked)
      | inr found ↦
          let e = found.0 in
          let listed = found.2 in
          ap (named name) (moved_in_order es (e ∷ found.1) next listed.moved numbered)
          ∙ head_named e found.1 next (moved_numbered es (e ∷ found.1) next listed.moved numbered) name listed.here listed.others
          ∙ sym (ap (option_map (λ (b : Binding X). b.value)) listed.looked)
    ]

    pub absent_from_map : named name (in_order es next) ≡ None → lookup (same_name name) es ≡ None
    absent_from_map none = no_value (lookup (same_name name) es) (sym named_in_order ∙ none)
      where
        no_value : (o : Option (Binding X)) → option_map (λ (b : Binding X). b.value) o ≡ None → o ≡ None
        no_value None h = refl
        no_value (Some b) h = absurd (cc h)

    pub removed_in_order : in_order (swap_remove_entry (same_name name) es) next ≡ without_name name (in_order es next)
    removed_in_order = elim (look name es distinct) [
      | inl none ↦ ap (λ l. in_order l next) none.stays
          ∙ sym (nothing_without name (in_order es next) (none_in_order name es next none.looked))
      | inr found ↦
          let e = found.0 in
          let listed = found.2 in
          ap (λ l. in_order l next) listed.leaves
          ∙ sym (ap (without_name name) (moved_in_order es (e ∷ found.1) next listed.moved numbered)
          ∙ head_removed e found.1 next (moved_numbered es (e ∷ found.1) next listed.moved numbered) name listed.here listed.others)
    ]

    pub removed_numbered : AreNumbered (swap_remove_entry (same_name name) es) next
    removed_numbered = elim (look name es distinct) [
      | inl none ↦ subst (λ l. AreNumbered l next) (sym none.stays) numbered
      | inr found ↦
          subst (λ l. AreNumbered l next) (sym found.2.leaves)
          (rest_numbered found.0 found.1 next (moved_numbered es (found.0 ∷ found.1) next found.2.moved numbered))
    ]

  -- ---- entries that were sorted

  -- the numbers rise, from `low` on and below `high`
  abbrev Climbs : ℕ → ℕ → List (Name × Binding X) → Type 0
  Climbs low high [] = Unit {0}
  Climbs low high (e ∷ es) = (low ≤ e.1.number) × (e.1.number < high) × Climbs (e.1.number + 1) high es

  abbrev IsFrom : ℕ → List (Name × Binding X) → Type 0
  IsFrom low [] = Unit {0}
  IsFrom low (e ∷ es) = low ≤ e.1.number

  none_below : (n low high : ℕ) (es : List (Name × Binding X)) → n < low → Climbs low high es → filter (has_number n) es ≡ []
  none_below n low high [] under climbs = refl
  none_below n low high (e ∷ es) under climbs =
      left_out (has_number n) e es (other_number e n (λ is. absurd (omega (arith, is, under, climbs.0))))
      ∙ none_below n (e.1.number + 1) high es (omega (arith, under, climbs.0)) climbs.2

  climb_in_order : (es : List (Name × Binding X)) (low len high : ℕ) → low + len ≡ high → Climbs low high es →
      flat_map (bound_as es) (range_with_len low len) ≡ map shown es
  climb_in_order [] low zero high end climbs = refl
  climb_in_order (e ∷ es) low zero high end climbs = absurd (omega (arith, end, climbs.0, climbs.1))
  climb_in_order [] low (suc len) high end climbs = climb_in_order [] (low + 1) len high (omega (arith, end)) climbs
  climb_in_order (e ∷ es) low (suc len) high end climbs = elim (cases_eq low e.1.number) [
    | inl is ↦
        let later : Climbs (low + 1) high es = subst (λ k. Climbs (k + 1) high es) (sym is) climbs.2 in
        let this : has_number low e ≡ true = eq-eqb e.1.number low (sym is) in
        let here : bound_as (e ∷ es) low ≡ shown e ∷ [] =
        ap (map shown) (kept (has_number low) e es this ∙ ap (λ l. e ∷ l) (none_below low (low + 1) high es (omega arith) later)) in
        let beyond : flat_map (bound_as (e ∷ es)) (range_with_len (low + 1) len) ≡ flat_map (bound_as es) (range_with_len (low + 1) len) =
        flat_below (bound_as (e ∷ es)) (bound_as es) (low + 1) len
        (λ n above under. ap (map shown) (left_out (has_number n) e es (other_number e n (λ at. absurd (omega (arith, at, is, above)))))) in
        (λ i. here i ++ (beyond ∙ climb_in_order es (low + 1) len high (omega (arith, end)) later) i)
    | inr apart ↦
        let later : Climbs (low + 1) high (e ∷ es) = (omega (arith, apart, climbs.0), climbs.1, climbs.2) in
        (λ i. map shown (none_below low (low + 1) high (e ∷ es) (omega arith) later i) ++ climb_in_order (e ∷ es) (low + 1) len high
        (omega (arith, end)) later i)
  ]

  sorted_climbs : (es : List (Name × Binding X)) (low next : ℕ) → IsNonDecreasingBy (λ e. e.1.number) es → AreNumbered es next →
      IsFrom low es → Climbs low next es
  sorted_climbs [] low next sorted numbered from = tt
  sorted_climbs (e ∷ es) low next sorted numbered from =
      let rest = rest_numbered e es next numbered in (
        from,
        below_next e es next numbered,
        sorted_climbs es (e.1.number + 1) next
            (λ i j d low high. sorted (suc i) (suc j) d (omega (arith, low)) (omega (arith, high))) rest (higher es sorted numbered),
      )
    where
      higher : (fs : List (Name × Binding X)) → IsNonDecreasingBy (λ y. y.1.number) (e ∷ fs) → AreNumbered (e ∷ fs) next →
          IsFrom (e.1.number + 1) fs
      higher [] up unique = tt
      higher (f ∷ fs) up unique =
          let none = rest_here e (f ∷ fs) next unique in
          let apart : e.1.number ≢ f.1.number =
          λ is. let clash : f ∷ filter (has_number e.1.number) fs ≡ [] =
          sym (kept (has_number e.1.number) f fs (eq-eqb f.1.number e.1.number (sym is))) ∙ none in absurd (cc clash) in
          let below : e.1.number ≤ f.1.number = up 0 1 e (omega arith) (omega arith) in
          omega (arith, apart, below)

  climb : (es : List (Name × Binding X)) (next : ℕ) → Climbs 0 next es → in_order es next ≡ map shown es
  unfolding in_order
  climb es next climbs = climb_in_order es 0 next next (omega arith) climbs

  from_start : (es : List (Name × Binding X)) → IsFrom 0 es
  from_start [] = tt
  from_start (e ∷ es) = omega arith

  pub sorted_in_order : (es sorted : List (Name × Binding X)) (next : ℕ) → AreNumbered es next → IsPermutation es sorted →
      IsNonDecreasingBy (λ e. e.1.number) sorted → map shown sorted ≡ in_order es next
  sorted_in_order es sorted next numbered moved up =
      sym (moved_in_order es sorted next moved numbered ∙ all sorted (moved_numbered es sorted next moved numbered) up)
    where
      all : (fs : List (Name × Binding X)) → AreNumbered fs next → IsNonDecreasingBy (λ e. e.1.number) fs → in_order fs next ≡ map shown fs
      all fs unique rises = climb fs next (sorted_climbs fs 0 next rises unique (from_start fs))
