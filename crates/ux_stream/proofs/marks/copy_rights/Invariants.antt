use Rattle.std.proofs.Common.{◌≡◌, ◌≤◌, drop}
use Rattle.ux_stream.specs.Marks.{barrier_count, rights_among, origin_among}
use Rattle.ux_stream.proofs.marks.copy_rights.Given as goal

-- no rights came so far
abbrev pub invariant-loop-i : goal.invariant-loop-i
invariant-loop-i g l = record {
  within : l.left ≤ barrier_count (drop l.i l.marks.items);
  told : rights_among l.left (drop l.i l.marks.items) ≡ rights_among l.n l.marks.items;
  origin : origin_among l.left (drop l.i l.marks.items) ≡ origin_among l.n l.marks.items;
}
