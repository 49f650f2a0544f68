-- What has changed since it was told.
use Rattle.std.specs.Prelude.{◌≡◌, ◌≢◌, ℕ, ◌+◌, ◌<◌, ◌≤◌, ◌==◌, nat_lt, if◌then◌else◌, List, [], ◌∷◌, Option, Some, None}
use Rattle.std.specs.List.{slice_get}
use Rattle.ux_model.specs.State.{State}
use Rattle.ux_watch.specs.declared.told.Told.{Told}
use Rattle.ux_watch.specs.declared.watch.Change.{Change}
use Rattle.ux_watch.specs.Telling.{told, gone}

-- what a list says of every number: of one that isn't in it, what holds of a description that isn't there
abbrev pub told_at : List Change → ℕ → Told
told_at [] d = gone
told_at (c ∷ rest) d = if c.id == d then c.now else told_at rest d

-- what is told of a description now
abbrev pub change_of : State → ℕ → Change
change_of S d = record { id = d; now = told S d }

-- each is of a description of which something else was told, with what holds now
abbrev pub AreNew : (ℕ → Told) → State → List Change → Type 0
AreNew last S changes =
    (i : ℕ) (c : Change) → slice_get changes i ≡ Some c → (c.now ≡ told S c.id) × (last c.id ≢ told S c.id)

-- each description of which something else was told is among them
abbrev pub HasEachNew : (ℕ → Told) → State → List Change → Type 0
HasEachNew last S changes =
    (d : ℕ) → last d ≢ told S d → (i : ℕ) × (slice_get changes i ≡ Some (change_of S d))

-- a later one is of a greater number
abbrev pub AreRising : List Change → Type 0
AreRising changes =
    (i l : ℕ) (a b : Change) → i < l → slice_get changes i ≡ Some a → slice_get changes l ≡ Some b → a.id < b.id

-- ---- of two lists

-- the numbers rise, from this one on
abbrev pub IsFrom : ℕ → List Change → Type 0
IsFrom n [] = Unit {0}
IsFrom n (c ∷ rest) = (n ≤ c.id) × IsFrom (c.id + 1) rest

-- so one list of what is told has become the other
pub record AreChanges (before after : ℕ → Told) (changes : List Change) : Type 0 where
  pub new : (i : ℕ) (c : Change) → slice_get changes i ≡ Some c → (c.now ≡ after c.id) × (before c.id ≢ after c.id)
  pub each : (d : ℕ) → before d ≢ after d → (i : ℕ) × (slice_get changes i ≡ Some (record { id = d; now = after d }))
  pub rising : AreRising changes

-- the lower of the first numbers
abbrev pub lower : List Change → List Change → Option ℕ
lower [] [] = None
lower [] (b ∷ ys) = Some b.id
lower (a ∷ xs) [] = Some a.id
lower (a ∷ xs) (b ∷ ys) = Some (if nat_lt b.id a.id then b.id else a.id)

-- what the first says, where it is of this number
abbrev pub first_at : List Change → ℕ → Told
first_at [] d = gone
first_at (c ∷ rest) d = if c.id == d then c.now else gone

-- the list without the first, where that is of this number
abbrev pub without : List Change → ℕ → List Change
without [] d = []
without (c ∷ rest) d = if c.id == d then rest else c ∷ rest
