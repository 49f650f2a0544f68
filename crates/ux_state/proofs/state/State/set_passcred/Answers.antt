use Rattle.std.proofs.Common.{ap, sym, ◌∙◌, refl}
use Rattle.std.specs.Option.{option_copied_mut}
use Rattle.ux_model.specs.Socket.{with_passcred}
use Rattle.ux_state.proofs.Changing.{changed_kept, changed_alike}
use Rattle.ux_state.proofs.state.State.set_passcred.Goals as goal
use Rattle.ux_state.proofs.state.State.set_passcred.Goals.{in-Some, in_default}

pub invariant_of-self : goal.invariant_of-self
invariant_of-self g c = elim c.match-get_mut.branch [
  | in-Some w ↦ rw w.self-inside-is (changed_kept _ _ _ _ _ _ _ _ _ w.in-Some.x.now w.set_passcred.new.self c.self.invariant
      (sym c.get_mut.ensures.value ∙ ap option_copied_mut w.in-Some.is) refl refl
      (changed_alike (with_passcred c.args.on) _ _ (λ s. refl) (λ s. refl) (λ s. refl) (λ k s. refl) w.set_passcred.ensures))
  | in_default w ↦ rw w.self-inside-is c.self.invariant
]
