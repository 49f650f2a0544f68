use Rattle.std.proofs.Common.{◌≡◌, ℕ, ◌-◌, ◌≤◌, length, map}
use Rattle.ux_state.proofs.Orphans.{Passed}
use Rattle.ux_state.proofs.state.State.close_orphans.Given as goal

abbrev pub invariant-loop-o : goal.invariant-loop-o
invariant-loop-o g l =
    Passed l.fn.self l.from l.self l.released × (l.from ≤ length l.fn.self.objects) ×
    (l.numbers ≡ map {B = ℕ} (λ r. r.0) l.released)

abbrev pub decreases-loop-o : goal.decreases-loop-o
decreases-loop-o g l = length l.fn.self.objects - l.from
