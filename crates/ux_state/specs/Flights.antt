-- Kept counts of the rights in flight, by user id.
use Rattle.std.specs.Prelude.{◌≡◌, ℕ, ◌+◌, nat_eq, List, Option}
use Rattle.std.specs.Option.{unwrap_or}
use Rattle.std.specs.Map.{lookup}
use Rattle.ux_model.specs.Flight.{of_user, of_sender}

-- how many a user has; of one who isn't listed, none
abbrev pub flights_of : List (ℕ × ℕ) → ℕ → ℕ
flights_of counts uid = unwrap_or (lookup (nat_eq uid) counts) 0

-- the new counts have so many more of this user
abbrev pub SendsMore : ℕ → ℕ → List (ℕ × ℕ) → List (ℕ × ℕ) → Type 0
SendsMore sender count old new = (uid : ℕ) → flights_of new uid ≡ flights_of old uid + of_user uid sender count

-- the same, where there may be no sender
abbrev pub SendsMoreFrom : Option ℕ → ℕ → List (ℕ × ℕ) → List (ℕ × ℕ) → Type 0
SendsMoreFrom sender count old new = (uid : ℕ) → flights_of new uid ≡ flights_of old uid + of_sender uid sender count
