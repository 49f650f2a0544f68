use Rattle.std.proofs.Common.{◌≡◌, ℕ, ◌≤◌, [], length, map}
use Rattle.ux_fdtable.specs.Padded.{AreBelow, IsReaching}
use Rattle.ux_fdtable.proofs.table.reach_all.Given as goal

abbrev pub invariant-loop-fd : goal.invariant-loop-fd
invariant-loop-fd l = record {
  -- what is left is of the whole, and the others are reached
  of_all : (limit : ℕ) → AreBelow limit (map (λ fd. fd.0) l.numbers) → AreBelow limit (map (λ fd. fd.0) l.left);
  reached : (limit : ℕ) → length l.places.items ≤ limit → AreBelow limit (map (λ fd. fd.0) l.left) →
      AreBelow limit (map (λ fd. fd.0) l.numbers);
  none : l.numbers ≡ [] → l.left ≡ [];
  kept : IsReaching (map (λ fd. fd.0) l.numbers) l.fn.places.items l.places.items;
}

abbrev pub decreases-loop-fd : goal.decreases-loop-fd
decreases-loop-fd l = length l.left
