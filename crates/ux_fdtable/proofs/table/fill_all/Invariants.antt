use Rattle.std.proofs.Common.{◌≡◌, ℕ, ◌≤◌, length, map}
use Rattle.ux_model.specs.Delivery.{installed}
use Rattle.ux_fdtable.specs.Padded.{AreBelow, IsTable}
use Rattle.ux_fdtable.proofs.table.fill_all.Given as goal

abbrev pub invariant-loop-fd : goal.invariant-loop-fd
invariant-loop-fd l = record {
  inside : AreBelow (length l.places.items) (map (λ fd. fd.0) l.left);
  covered : length l.places.items ≤ length l.in_use;
  filled : installed l.cloexec (map (λ fd. fd.0) l.left) l.rest l.places.items ≡ installed l.cloexec (map (λ fd. fd.0) l.numbers)
      l.references l.fn.places.items;
  table : (limit : ℕ) → IsTable l.fn.places.items limit l.fn.in_use → IsTable l.places.items limit l.in_use;
}

abbrev pub decreases-loop-fd : goal.decreases-loop-fd
decreases-loop-fd l = length l.left
