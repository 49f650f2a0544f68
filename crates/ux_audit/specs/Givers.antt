-- Which entries gave each number: lists of their places in the history.
use Rattle.std.specs.Prelude.{◌≡◌, ℕ, ◌<◌, ◌≤◌, Bool, true, List, [], Option, Some, None}
use Rattle.std.specs.List.{slice_get}
use Rattle.std.specs.Global.{Vec}
use Rattle.ux_model.specs.Types.{Entry}
use Rattle.ux_model.specs.History.{makes}
use Rattle.ux_audit.specs.Shown.{shows}

abbrev pub items_in : {X : Type 0} → Option (Vec X) → List X
items_in None = []
items_in (Some xs) = xs.items

-- of some lists, the one with this number
abbrev pub items_at : {X : Type 0} → List (Vec X) → ℕ → List X
items_at lists k = items_in (slice_get lists k)

-- of rows of lists, the one of this process and number
abbrev pub places_at : List (Vec (Vec ℕ)) → ℕ → ℕ → List ℕ
places_at rows p n = items_at (items_at rows p) n

-- no later number is less
abbrev pub Rises : List ℕ → Type 0
Rises xs = (i l a b : ℕ) → i ≤ l → slice_get xs i ≡ Some a → slice_get xs l ≡ Some b → a ≤ b

-- these are the places below k of the entries that pass
pub record ArePlaces (entries : List Entry) (passes : Entry → Bool) (k : ℕ) (xs : List ℕ) : Type 0 where
  pub only : (i j : ℕ) → slice_get xs i ≡ Some j → (j < k) × ((e : Entry) → slice_get entries j ≡ Some e → passes e ≡ true)
  pub all : (j : ℕ) (e : Entry) → j < k → slice_get entries j ≡ Some e → passes e ≡ true → (i : ℕ) × (slice_get xs i ≡ Some j)
  pub rising : Rises xs

-- for each process the entries that made it, and for each of its numbers those of its own that gave it
pub record AreGivers (entries : List Entry) (k : ℕ) (births : List (Vec ℕ)) (rows : List (Vec (Vec ℕ))) : Type 0 where
  pub made : (p : ℕ) → ArePlaces entries (λ e. makes p e.request e.reply) k (items_at births p)
  pub gave : (p n : ℕ) → ArePlaces entries (λ e. shows e p n) k (places_at rows p n)

-- none of these is below
abbrev pub NoneBelow : ℕ → List ℕ → Type 0
NoneBelow until xs = (i k : ℕ) → slice_get xs i ≡ Some k → until ≤ k

-- the greatest of these that is below
pub record IsLastBelow (until : ℕ) (xs : List ℕ) (j : ℕ) : Type 0 where
  pub below : j < until
  pub there : (i : ℕ) × (slice_get xs i ≡ Some j)
  pub last : (i k : ℕ) → slice_get xs i ≡ Some k → k < until → k ≤ j
