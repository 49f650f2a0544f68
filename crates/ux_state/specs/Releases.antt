-- What is left of many references to release.
use Rattle.std.specs.Prelude.{◌≡◌, ℕ, ◌+◌}
use Rattle.ux_model.specs.Description.{Description}
use Rattle.ux_slots.specs.Held.{Held, count_at}

-- of all that was to be released, this is left to do
pub record Left (all left : ℕ → ℕ) (old now : Held Description) : Type 0 where
  pub places : now.places ≡ old.places
  pub counts : (d : ℕ) → count_at old d + left d ≡ count_at now d + all d
