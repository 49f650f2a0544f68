use Rattle.std.proofs.Common.{◌≡◌, ◌≤◌, take, length}
use Rattle.ux_rights.proofs.references.RefList.from_slice.Given as goal

abbrev pub invariant-loop-description : goal.invariant-loop-description
invariant-loop-description l = record {
  so_far : l.references.items ≡ take l.description-index l.descriptions;
  room : length l.descriptions ≤ l.references.capacity;
  inline : 4 ≤ l.references.capacity;
}
