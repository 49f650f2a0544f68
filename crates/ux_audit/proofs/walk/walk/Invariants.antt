use Rattle.std.proofs.Common.{◌≡◌, ◌≤◌, true, length}
use Rattle.ux_model.specs.State.{State}
use Rattle.ux_model.specs.History.{replay, IsLegal}
use Rattle.ux_model.specs.Giving.{is_held}
use Rattle.ux_audit.proofs.Walking.{IsWalking}
use Rattle.ux_audit.proofs.walk.walk.Given as goal

abbrev pub invariant-loop-j : goal.invariant-loop-j
invariant-loop-j l = record {
  within : l.until ≤ length l.entries;
  walking : (boot : State) → IsLegal boot l.entries → is_held (replay boot l.entries) l.fn.pid.0 l.fn.fd.0 ≡ true →
      IsWalking boot l.entries l.fn.pid.0 l.fn.fd.0 l.links.items l.holder.0 l.number.0 l.until;
}

abbrev pub decreases-loop-j : goal.decreases-loop-j
decreases-loop-j l = l.until
