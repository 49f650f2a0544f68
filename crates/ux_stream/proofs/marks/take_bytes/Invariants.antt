use Rattle.std.proofs.Common.{◌≡◌, ◌+◌, ◌≤◌, length}
use Rattle.ux_stream.specs.Marks.{barrier_count, rights_among, origin_among, marks_without}
use Rattle.ux_stream.proofs.marks.take_bytes.Given as goal

-- no rights came so far, and what is still to be taken leaves the same
abbrev pub invariant-loop-left : goal.invariant-loop-left
invariant-loop-left g l = record {
  within : l.left ≤ barrier_count l.marks.items;
  told : rights_among l.left l.marks.items ≡ rights_among l.n l.initial.marks.items;
  origin : origin_among l.left l.marks.items ≡ origin_among l.n l.initial.marks.items;
  rest : marks_without l.left l.marks.items ≡ marks_without l.n l.initial.marks.items;
}

abbrev pub decreases-loop-left : goal.decreases-loop-left
decreases-loop-left g l = l.left + length l.marks.items
