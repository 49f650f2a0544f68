use Rattle.std.proofs.Common.{◌≡◌, ◌-◌, ◌≤◌, ◌++◌, min, length, drop, map, vec_capacity}
use Rattle.ux_model.specs.Places.{empty_places_from}
use Rattle.ux_model.specs.Process.{free_numbers}
use Rattle.ux_fdtable.proofs.table.Table.lowest_numbers.Given as goal

abbrev pub invariant-loop-from : goal.invariant-loop-from
invariant-loop-from l = record {
  so_far : map (λ fd. fd.0) l.numbers.items ++ empty_places_from l.from (drop l.from l.self) ≡ free_numbers l.self;
  few : length l.numbers.items ≤ l.count;
  room : min l.count (length l.self) ≤ vec_capacity l.numbers;
}

abbrev pub decreases-loop-from : goal.decreases-loop-from
decreases-loop-from l = l.count - length l.numbers.items
