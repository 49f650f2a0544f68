-- How a listing keeps its names: in any order, each with the number of its binding. No public clause cites this module.
use Rattle.std.specs.Prelude.{ℕ, ◌≤◌, ◌-◌, ◌^◌, ◌==◌, min, Bool, List, length, map, filter}
use Rattle.std.specs.List.{range_with_len, flat_map}
use Rattle.ux_model.specs.Types.{Name}
use Rattle.ux_names.specs.declared.listing.Binding.{Binding}

-- for how many more names there is memory, and a number
abbrev pub room_of : ℕ → ℕ → ℕ
room_of spare next = min spare (2 ^ 64 - 1 - next)

module _ {X : Type 0} where
  abbrev pub has_number : ℕ → Name × Binding X → Bool
  has_number n e = e.1.number == n

  -- the entry as contracts see it
  abbrev pub shown : Name × Binding X → Name × X
  shown e = (e.0, e.1.value)

  -- the names that were bound under this number
  abbrev pub bound_as : List (Name × Binding X) → ℕ → List (Name × X)
  bound_as es n = map shown (filter (has_number n) es)

  -- the names in order of their numbers, all of which are below `next`
  unfoldable pub in_order : List (Name × Binding X) → ℕ → List (Name × X)
  in_order es next = flat_map (bound_as es) (range_with_len 0 next)

  -- no number stands twice, and none is still to be given
  pub record AreNumbered (es : List (Name × Binding X)) (next : ℕ) : Type 0 where
    pub once : (n : ℕ) → length (filter (has_number n) es) ≤ 1
    pub given : (n : ℕ) → next ≤ n → length (filter (has_number n) es) ≤ 0
    pub few : length es ≤ next
