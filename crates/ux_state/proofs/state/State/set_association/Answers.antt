use Rattle.std.proofs.Common.{◌+◌, ap, sym, ◌∙◌, refl}
use Rattle.std.specs.Option.{option_copied_mut}
use Rattle.ux_model.specs.Socket.{with_association}
use Rattle.ux_model.specs.References.{times, queue_refs}
use Rattle.ux_model.proofs.Counting.Sockets.{peer_associated, ends_associated}
use Rattle.ux_state.proofs.Changing.{changed_kept, changed_alike}
use Rattle.ux_state.proofs.state.State.set_association.Goals as goal
use Rattle.ux_state.proofs.state.State.set_association.Goals.{in-Some, in_default}

pub invariant_of-self : goal.invariant_of-self
invariant_of-self g c = elim c.match-get_mut.branch [
  | in-Some w ↦ rw w.self-inside-is (changed_kept _ _ _ _ _ _ _ _ _ w.in-Some.x.now w.set_association.new.self c.self.invariant
      (sym c.get_mut.ensures.value ∙ ap option_copied_mut w.in-Some.is) refl refl
      (changed_alike (with_association c.args.target) _ _ (λ s. peer_associated c.args.target s.phase) (λ s. refl) (λ s. refl)
      (λ k s. ap (λ es. queue_refs k s.queue + times k es) (ends_associated c.args.target s.phase)) w.set_association.ensures))
  | in_default w ↦ rw w.self-inside-is c.self.invariant
]
