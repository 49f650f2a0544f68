-- Lemmas on the numbers of an index, in order.
use Rattle.std.proofs.Common.{◌≡◌, ℕ, List, [], ◌++◌, Option, Some, None, Result, Ok, Err, refl, sym, ap, ◌∙◌, subst}
use Rattle.std.specs.Prelude.{◌↔◌, nat_eq, IfOk, IsSome, is_some}
use Rattle.std.specs.Cmp.{nat_eq_equiv}
use Rattle.std.specs.HashMap as map
use Rattle.std.specs.List.{Contains, IsDistinct}
use Rattle.std.specs.List.Sorted.{IsPermutation, IsNonDecreasing, IsStrictlyIncreasing}
use Rattle.std.proofs.lemmas.List.{append-nil}
use Rattle.std.proofs.lemmas.List.Sorted.{Contains-permutation, IsPermutation-sym}
use Rattle.std.proofs.lemmas.Map.Keys.{IsDistinct-IsPermutation, IsStrictlyIncreasing-from_distinct}
use Rattle.std.proofs.lemmas.Map.Views.{hash_map_contains_key_iff, exact_unsigned_eq}
use Rattle.ux_model.specs.Places.{place}
use Rattle.ux_slots.specs.Kept.{Index, value_in, slot_of, seen, IsKept}
use Rattle.ux_slots.specs.Held.{Lists}
use Rattle.ux_slots.proofs.Keeping.{place_is, absent, present, slot_found}
use Rattle.ux_slots.specs.declared.slot.Slot.{Slot}

-- at the end of the loop all keys are there
pub whole : (xs rest ks : List ℕ) → xs ++ rest ≡ ks → rest ≡ [] → xs ≡ ks
whole xs rest ks is none = sym (append-nil xs) ∙ ap (λ (zs : List ℕ). xs ++ zs) (sym none) ∙ is

pub sorted_there : (m : Index) (xs ys : List ℕ) → xs ≡ map.keys m → IsPermutation xs ys → (d : ℕ) →
    Contains ys d ↔ IsSome (map.get nat_eq m d)
sorted_there m xs ys is moved d =
    let at_key = hash_map_contains_key_iff nat_eq_equiv exact_unsigned_eq m d in (
      λ c. at_key.1 (subst (λ (zs : List ℕ). Contains zs d) is (Contains-permutation ys xs d (IsPermutation-sym xs ys moved) c)),
      λ s. Contains-permutation xs ys d moved (subst (λ (zs : List ℕ). Contains zs d) (sym is) (at_key.0 s)),
    )

pub sorted_rises : (m : Index) (xs ys : List ℕ) → xs ≡ map.keys m → map.IsUnique nat_eq m → IsPermutation xs ys → IsNonDecreasing ys →
    IsStrictlyIncreasing ys
sorted_rises m xs ys is unique moved up = IsStrictlyIncreasing-from_distinct ys up
    (IsDistinct-IsPermutation nat_eq nat_eq_equiv.symm xs ys moved (subst (IsDistinct nat_eq) (sym is) unique))

module _ {T : Type 0} where
  -- a number has a key where a value is there
  pub listed : (slot : ℕ → Option (Slot T)) (key : ℕ → Option ℕ) (next : ℕ) (head : Option ℕ) → IsKept slot key next head → (ids : List ℕ) →
      ((d : ℕ) → Contains ids d ↔ IsSome (key d)) → IsStrictlyIncreasing ids → Lists (seen value_in (slot_of slot key) next) ids
  listed slot key next head kept ids there rising = record {
    there = λ d. (λ c. has d ((there d).0 c), λ s. (there d).1 (known d s));
    rising = rising;
  }
    where
      shown : (d : ℕ) → is_some (place (seen value_in (slot_of slot key) next) d) ≡ is_some (key d)
      shown d = go (key d) refl
        where
          go : (o : Option ℕ) → key d ≡ o → is_some (place (seen value_in (slot_of slot key) next) d) ≡ is_some (key d)
          go None e = ap is_some (place_is slot key next head kept d ∙ ap value_in (absent slot key next head kept d e)) ∙ sym (ap is_some e)
          go (Some k) e =
              let found = slot_found slot key next head kept d k e in
              ap is_some (place_is slot key next head kept d
              ∙ ap value_in (present slot key next head kept d k (Some found.0) e found.1)) ∙ sym (ap is_some e)

      has : (d : ℕ) → IsSome (key d) → IsSome (place (seen value_in (slot_of slot key) next) d)
      has d s = shown d ∙ s

      known : (d : ℕ) → IsSome (place (seen value_in (slot_of slot key) next) d) → IsSome (key d)
      known d s = sym (shown d) ∙ s

  -- of what a function may give
  pub given_listed : {V E : Type 0} (items : V → List ℕ) (slot : ℕ → Option (Slot T)) (key : ℕ → Option ℕ) (next : ℕ) (head : Option ℕ) →
      IsKept slot key next head → (r : Result V E) → IfOk r (λ v. (d : ℕ) → Contains (items v) d ↔ IsSome (key d)) →
      IfOk r (λ v. IsStrictlyIncreasing (items v)) → IfOk r (λ v. Lists (seen value_in (slot_of slot key) next) (items v))
  given_listed items slot key next head kept (Ok v) there rising = listed slot key next head kept (items v) there rising
  given_listed items slot key next head kept (Err e) there rising = tt
