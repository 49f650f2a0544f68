use Rattle.std.proofs.Common.{ap, sym, ◌∙◌, refl}
use Rattle.std.specs.Option.{option_copied_mut}
use Rattle.ux_state.proofs.Changing.{changed_kept, offset_alike}
use Rattle.ux_state.proofs.state.State.set_offset.Goals as goal
use Rattle.ux_state.proofs.state.State.set_offset.Goals.{in-Some, in_default}

pub invariant_of-self : goal.invariant_of-self
invariant_of-self g c = elim c.match-get_mut.branch [
  | in-Some w ↦ rw w.self-inside-is (changed_kept _ _ _ _ _ _ _ _ _ w.in-Some.x.now w.set_offset.new.self c.self.invariant
      (sym c.get_mut.ensures.value ∙ ap option_copied_mut w.in-Some.is) refl refl
      (offset_alike c.args.offset _ _ w.set_offset.ensures))
  | in_default w ↦ rw w.self-inside-is c.self.invariant
]
