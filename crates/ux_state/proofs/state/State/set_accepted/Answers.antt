use Rattle.std.proofs.Common.{ap, sym, ◌∙◌, refl}
use Rattle.std.specs.Option.{option_copied_mut}
use Rattle.ux_state.proofs.Changing.{changed_kept}
use Rattle.ux_state.proofs.Tying.{accepted_alike}
use Rattle.ux_state.proofs.state.State.set_accepted.Goals as goal
use Rattle.ux_state.proofs.state.State.set_accepted.Goals.{in-Some, in_default}

pub invariant_of-self : goal.invariant_of-self
invariant_of-self g c = elim c.match-get_mut.branch [
  | in-Some w ↦ rw w.self-inside-is (changed_kept _ _ _ _ _ _ _ _ _ w.in-Some.x.now w.set_accepted.new.self c.self.invariant
      (sym c.get_mut.ensures.value ∙ ap option_copied_mut w.in-Some.is) refl refl
      (accepted_alike c.args.flags _ _ w.set_accepted.ensures))
  | in_default w ↦ rw w.self-inside-is c.self.invariant
]
