use Rattle.std.proofs.Common.{◌≡◌, ℕ, ◌-◌, ◌<◌, ◌≤◌, length, Some}
use Rattle.std.specs.List.{slice_get}
use Rattle.ux_audit.proofs.lists.last_below.Given as goal

abbrev pub invariant-loop-low : goal.invariant-loop-low
invariant-loop-low l = record {
  order : l.low ≤ l.high;
  within : l.high ≤ length l.places;
  below : (i k : ℕ) → i < l.low → slice_get l.places i ≡ Some k → k < l.until;
  past : (i k : ℕ) → l.high ≤ i → slice_get l.places i ≡ Some k → l.until ≤ k;
}

abbrev pub decreases-loop-low : goal.decreases-loop-low
decreases-loop-low l = l.high - l.low
