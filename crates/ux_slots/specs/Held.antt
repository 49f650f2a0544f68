-- What contracts see of `Slots`: values by number, and how many references are counted to each.
use Rattle.std.specs.Prelude.{◌≡◌, ◌↔◌, ℕ, ◌+◌, ◌<◌, ◌==◌, cond, List, [], ◌∷◌, ◌++◌, length, Option, Some, IsSome, slice_index_or, refl}
use Rattle.std.specs.List.{Contains}
use Rattle.std.specs.List.Sorted.{IsStrictlyIncreasing}
use Rattle.std.specs.Coded.{Coded, code_by, coded×, coded_ℕ, coded_list, coded_option}
use Rattle.ux_model.specs.Places.{place, filled}

pub record Held (T : Type 0) : Type 0 where
  -- the values in the order in which they were put in; empty once taken out
  pub places : List (Option T)
  -- by the same numbers, how many references are counted
  pub counts : List ℕ
  -- how many more values can be put in without memory
  pub room : ℕ

abbrev pub held_code : {T : Type 0} → Coded T → Coded (Held T)
held_code {T} code =
    code_by
    (List (Option T) × (List ℕ × ℕ))
    (coded× (coded_list (coded_option code)) (coded× (coded_list coded_ℕ) coded_ℕ))
    (λ h. (h.places, (h.counts, h.room)))
    (λ p. record { places = p.0; counts = p.1.0; room = p.1.1 })
    (λ _. refl)

-- one for this number, and none for any other
abbrev pub once : ℕ → ℕ → ℕ
once d k = cond (d == k) 1 0

module _ {T : Type 0} where
  -- the references that are counted to d; none to what isn't there
  abbrev pub count_at : Held T → ℕ → ℕ
  count_at held d = slice_index_or held.counts d 0

  -- d has another value
  abbrev pub with_value : Held T → ℕ → T → Held T
  with_value held d x = record held { places = filled held.places d x }

  -- so many more references are counted to each number, and no value has changed
  pub record HasMore (extra : ℕ → ℕ) (old new : Held T) : Type 0 where
    pub places : new.places ≡ old.places
    pub counts : (d : ℕ) → count_at new d ≡ count_at old d + extra d

  -- one value more, with one reference
  pub record Adds (x : T) (old new : Held T) : Type 0 where
    pub places : new.places ≡ old.places ++ Some x ∷ []
    pub counts : (d : ℕ) → count_at new d ≡ count_at old d + once (length old.places) d

  -- each value that is there has a reference
  abbrev pub IsNoneDead : Held T → Type 0
  IsNoneDead held = (d : ℕ) → IsSome (place held.places d) → 0 < count_at held d

  -- the number of each value that is there, once and rising, and no other
  pub record Lists (places : List (Option T)) (ids : List ℕ) : Type 0 where
    pub there : (d : ℕ) → Contains ids d ↔ IsSome (place places d)
    pub rising : IsStrictlyIncreasing ids
