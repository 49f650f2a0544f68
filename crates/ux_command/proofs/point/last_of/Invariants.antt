use Rattle.std.proofs.Common.{◌≡◌, ◌+◌, ◌<◌, ◌≤◌, ℕ, None, IsTrue, is_some, slice_index_or}
use Rattle.ux_command.proofs.point.last_of.Given as goal

-- the last so far
abbrev pub invariant-loop-index : goal.invariant-loop-index
invariant-loop-index l = record {
  within : l.count ≤ l.index;
  behind : (i : ℕ) → l.count ≤ i → i < l.index → slice_index_or l.lines i None ≡ None;
  last : (last : ℕ) → l.count ≡ last + 1 → IsTrue (is_some (slice_index_or l.lines last None));
}
