-- Free numbers of a table rise, and so what is installed at some of them stands there.
use Rattle.std.proofs.Common.{◌≡◌, ℕ, zero, suc, ◌+◌, ◌<◌, ◌≤◌, Bool, false, ◌==◌, ◌||◌, List, [], ◌∷◌, length, take, drop, map, Option}
use Rattle.std.proofs.Common.{Some, None, refl, ap, sym, ◌∙◌, arith, slice_get, slice_set, subst}
use Rattle.std.specs.List.{list_any}
use Rattle.std.proofs.lemmas.Bool.{eqb-true, eqb-false, or_parts}
use Rattle.std.proofs.lemmas.List.{get_or-set_other, length-set, length-drop}
use Rattle.ux_model.specs.Places.{place, filled, empty_places_from}
use Rattle.ux_model.specs.Process.{Descriptor, free_numbers, lowest_free, lowest_free_from, two_lowest_free}
use Rattle.ux_model.specs.Delivery.{installed}
use Rattle.ux_model.proofs.Lists.ChangedPlaces.{bool_cases}

-- numbers from low on and below high, rising
abbrev pub Rise : ℕ → ℕ → List ℕ → Type 0
Rise low high [] = Unit {0}
Rise low high (n ∷ ns) = (low ≤ n) × (n < high) × Rise (suc n) high ns

pub rise_from : (low from high : ℕ) (ns : List ℕ) → from ≤ low → Rise low high ns → Rise from high ns
rise_from low from high [] h r = tt
rise_from low from high (n ∷ ns) h r = (omega (arith, r.0, h), r.1, r.2)

pub rise_one : (n high : ℕ) → n < high → Rise 0 high (n ∷ [])
rise_one n high h = (omega arith, h, tt)

rise_empty : {X : Type 0} (i : ℕ) (xs : List (Option X)) → Rise i (i + length xs) (empty_places_from i xs)
rise_empty i [] = tt
rise_empty i (None ∷ xs) =
    let same : suc i + length xs ≡ i + suc (length xs) = omega arith in
    (omega arith, omega arith, subst (λ (h : ℕ). Rise (suc i) h (empty_places_from (suc i) xs)) same (rise_empty (suc i) xs))
rise_empty i (Some x ∷ xs) =
    let same : suc i + length xs ≡ i + suc (length xs) = omega arith in
    rise_from (suc i) i (i + suc (length xs)) (empty_places_from (suc i) xs) (omega arith)
    (subst (λ (h : ℕ). Rise (suc i) h (empty_places_from (suc i) xs)) same (rise_empty (suc i) xs))

pub rise_free : (table : List (Option Descriptor)) → Rise 0 (length table) (free_numbers table)
rise_free table =
    let same : 0 + length table ≡ length table = omega arith in
    subst (λ (h : ℕ). Rise 0 h (free_numbers table)) same (rise_empty 0 table)

pub rise_take : (n low high : ℕ) (ns : List ℕ) → Rise low high ns → Rise low high (take n ns)
rise_take zero low high [] r = tt
rise_take zero low high (m ∷ ns) r = tt
rise_take (suc n) low high [] r = tt
rise_take (suc n) low high (m ∷ ns) r = (r.0, r.1, rise_take n (suc m) high ns r.2)

pub rise_at : (low high : ℕ) (ns : List ℕ) (i n : ℕ) → Rise low high ns → slice_get ns i ≡ Some n → (low ≤ n) × (n < high)
rise_at low high [] i n r h = absurd (cc h)
rise_at low high (m ∷ ns) zero n r h = let e : m ≡ n = cc h in (omega (arith, r.0, e), omega (arith, r.1, e))
rise_at low high (m ∷ ns) (suc i) n r h = let p = rise_at (suc m) high ns i n r.2 h in (omega (arith, r.0, p.0), p.1)

pub rise_once : (low high : ℕ) (ns : List ℕ) (i j n : ℕ) → Rise low high ns → slice_get ns i ≡ Some n → slice_get ns j ≡ Some n → i ≡ j
rise_once low high [] i j n r h k = absurd (cc h)
rise_once low high (m ∷ ns) zero zero n r h k = refl
rise_once low high (m ∷ ns) zero (suc j) n r h k = let e : m ≡ n = cc h in let p = rise_at (suc m) high ns j n r.2 k in
    absurd (omega (arith, e, p.0))
rise_once low high (m ∷ ns) (suc i) zero n r h k = let e : m ≡ n = cc k in let p = rise_at (suc m) high ns i n r.2 h in
    absurd (omega (arith, e, p.0))
rise_once low high (m ∷ ns) (suc i) (suc j) n r h k = ap suc (rise_once (suc m) high ns i j n r.2 h k)

-- what lies below is none of them
pub rise_above : (low high : ℕ) (ns : List ℕ) (n : ℕ) → Rise low high ns → n < low → list_any (λ m. m == n) ns ≡ false
rise_above low high [] n r h = refl
rise_above low high (m ∷ ns) n r h = bool_cases (m == n)
    (λ e. absurd (omega (arith, eqb-true m n e, r.0, h)))
    (λ e. ap (λ b. b || list_any (λ m. m == n) ns) e ∙ rise_above (suc m) high ns n r.2 (omega (arith, r.0, h)))

pub lowest_below : (table : List (Option Descriptor)) (n : ℕ) → lowest_free table ≡ Some n → n < length table
lowest_below table n h = (rise_at 0 (length table) (free_numbers table) 0 n (rise_free table) h).1

pub two_rise : (table : List (Option Descriptor)) (n : ℕ × ℕ) → two_lowest_free table ≡ Some n → Rise 0 (length table) (n.0 ∷ n.1 ∷ [])
two_rise table n h = go (free_numbers table) refl (rise_free table)
  where
    go : (ns : List ℕ) → free_numbers table ≡ ns → Rise 0 (length table) ns → Rise 0 (length table) (n.0 ∷ n.1 ∷ [])
    go [] e r = absurd (cc (rw e at h))
    go (a ∷ []) e r = absurd (cc (rw e at h))
    go (a ∷ b ∷ ns) e r =
        let two : Some (a, b) ≡ Some n = rw e at h in
        let same : (a, b) ≡ n = cc two in
        subst (λ (m : ℕ × ℕ). Rise 0 (length table) (m.0 ∷ m.1 ∷ [])) same (r.0, r.1, (r.2.0, r.2.1, tt))

pub lowest_from_within : (table : List (Option Descriptor)) (minimum n : ℕ) → lowest_free_from minimum table ≡ Some n →
    (minimum ≤ n) × (n < length table)
lowest_from_within table minimum n h =
    let rest : List (Option Descriptor) = drop minimum table in
    let p = rise_at minimum (minimum + length rest) (empty_places_from minimum rest) 0 n (rise_empty minimum rest) h in
    (p.0, omega (arith, p.0, p.1, length-drop minimum table))

-- ---- what stands at them

pub place_filled : {X : Type 0} (ds : List (Option X)) (n : ℕ) (x : Option X) → n < length ds → place (slice_set ds n x) n ≡ x
place_filled [] n x h = absurd (omega (arith, h))
place_filled (y ∷ ds) zero x h = refl
place_filled (y ∷ ds) (suc n) x h = place_filled ds n x (omega (arith, h))

pub place_other : {X : Type 0} (ds : List (Option X)) (k n : ℕ) (x : Option X) → (k == n) ≡ false → place (slice_set ds k x) n ≡ place ds n
place_other ds k n x h = get_or-set_other ds k n x None (λ e. eqb-false k n h (sym e))

pub place_mapped : {X : Type 0} (f : Option X → Option X) (ds : List (Option X)) (n : ℕ) → f None ≡ None →
    place (map f ds) n ≡ f (place ds n)
place_mapped f [] n h = sym h
place_mapped f (d ∷ ds) zero h = refl
place_mapped f (d ∷ ds) (suc n) h = place_mapped f ds n h

-- the other numbers stay
pub installed_other : (c : Bool) (ns ds : List ℕ) (t : List (Option Descriptor)) (n : ℕ) → list_any (λ m. m == n) ns ≡ false →
    place (installed c ns ds t) n ≡ place t n
installed_other c [] ds t n h = refl
installed_other c (m ∷ ns) [] t n h = refl
installed_other c (m ∷ ns) (d ∷ ds) t n h =
    let p = or_parts (m == n) (list_any (λ m. m == n) ns) h in
    installed_other c ns ds (filled t m (record { description = d; cloexec = c })) n p.1
    ∙ place_other t m n (Some (record { description = d; cloexec = c })) p.0

-- what is reported of a number at which a description was installed
abbrev pub IsInstalled : Bool → List ℕ → List (Option Descriptor) → ℕ → ℕ → Type 0
IsInstalled c ds table i n = (d : ℕ) × (slice_get ds i ≡ Some d) × (place table n ≡ Some (record { description = d; cloexec = c }))

-- these have the descriptions, as long as there are any
pub installed_at : (c : Bool) (low : ℕ) (ns ds : List ℕ) (t : List (Option Descriptor)) (i n : ℕ) → Rise low (length t) ns →
    length ns ≤ length ds → slice_get ns i ≡ Some n →
    IsInstalled c ds (installed c ns ds t) i n
installed_at c low [] ds t i n r l h = absurd (cc h)
installed_at c low (m ∷ ns) [] t i n r l h = absurd (omega (arith, l))
installed_at c low (m ∷ ns) (d ∷ ds) t zero n r l h =
    let e : m ≡ n = cc h in
    let put : Option Descriptor = Some (record { description = d; cloexec = c }) in
    let here : place (installed c (m ∷ ns) (d ∷ ds) t) m ≡ put =
    installed_other c ns ds (slice_set t m put) m (rise_above (suc m) (length t) ns m r.2 (omega arith)) ∙ place_filled t m put r.1 in
    (d, refl, subst (λ (k : ℕ). place (installed c (m ∷ ns) (d ∷ ds) t) k ≡ put) e here)
installed_at c low (m ∷ ns) (d ∷ ds) t (suc i) n r l h =
    let put : Option Descriptor = Some (record { description = d; cloexec = c }) in
    installed_at c (suc m) ns ds (slice_set t m put) i n (subst (λ (k : ℕ). Rise (suc m) k ns) (sym (length-set t m put)) r.2)
    (omega (arith, l)) h
