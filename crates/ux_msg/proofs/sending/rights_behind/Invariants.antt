use Rattle.std.proofs.Common.{◌≡◌, ◌≤◌, ◌++◌, length, map}
use Rattle.std.specs.Prelude.{option_map}
use Rattle.ux_model.specs.Sending.{descriptions_behind}
use Rattle.ux_msg.proofs.sending.rights_behind.Given as goal

abbrev pub invariant-loop-fd : goal.invariant-loop-fd
invariant-loop-fd l = record {
  so_far : descriptions_behind l.table (map (λ fd. fd.0) l.numbers) ≡ option_map
      (λ ds. l.rights ++ ds) (descriptions_behind l.table (map (λ fd. fd.0) l.left));
  fewer : length l.left ≤ length l.numbers;
}

abbrev pub decreases-loop-fd : goal.decreases-loop-fd
decreases-loop-fd l = length l.left
