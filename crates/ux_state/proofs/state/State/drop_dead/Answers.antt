use Rattle.std.proofs.Common.{◌==◌, ap, refl, sym, subst, ◌∙◌}
use Rattle.ux_model.specs.Release.{is_unreferenced, has_unreferenced, without}
use Rattle.ux_model.specs.Peers.{with_peer_reset}
use Rattle.ux_state.specs.Keeping.{state_of}
use Rattle.ux_state.specs.Settling.{LooksAgain}
use Rattle.ux_state.proofs.Dropping.{counted_among, all_counted, all_flying, left_kept, is_without, was_dead, none_dead}
use Rattle.ux_state.proofs.state.State.drop_dead.Goals as goal

pub returns-in_default : goal.returns-in_default
returns-in_default g c = (
  ap (λ h. state_of c.self.inside.objects.items h c.self.inside.processes.items c.self.inside.paths.names c.self.inside.abstract_names)
      c.in_default.ensures.unchanged ∙ c.self.view_is,
  ap has_unreferenced (sym c.self.view_is) ∙ none_dead _ _ _ _ _ _ _ c.self.invariant (c.in_default.ensures.none.0 refl),
)

pub count_out-requires : goal.count_out-requires
count_out-requires g c = counted_among _ _ c.in-Some.gone.0 c.in-Some.gone.1 c.in-Some.ensures.dead c.self.invariant.opened

pub release_held-requires-clause-counted : goal.release_held-requires-clause-counted
release_held-requires-clause-counted g c =
    λ k. all_counted _ _ _ _ _ _ _ c.self.invariant c.reset_peer.new.slots c.in-Some.gone.0 k c.in-Some.gone.1 c.in-Some.ensures.dead
    (c.reset_peer.ensures.counts ∙ c.in-Some.ensures.counts)

pub release_held-requires-clause-flying : goal.release_held-requires-clause-flying
release_held-requires-clause-flying g c =
    λ u. all_flying _ _ _ _ _ _ _ c.self.invariant c.in-Some.gone.0 u c.in-Some.gone.1 c.in-Some.ensures.dead

pub invariant_of-self-2 : goal.invariant_of-self-2
invariant_of-self-2 g c =
    left_kept _ _ _ _ _ _ _ c.self.invariant _ c.reset_peer.new.slots c.release_held.new.slots _ c.in-Some.gone.0 c.in-Some.gone.1
    c.in-Some.ensures.dead
    (sym c.release_held.ensures.counted.places ∙ c.reset_peer.ensures.places
    ∙ (λ j. with_peer_reset (c.lost_peer.ensures j) (c.in-Some.ensures.taken j)))
    (c.reset_peer.ensures.counts ∙ c.in-Some.ensures.counts) c.release_held.ensures.counted.counts c.release_held.ensures.flying
    c.count_out.ensures c.drop_name.ensures
    (subst (λ o. LooksAgain o c.self.inside.settled c.look_again.new.settled) c.object.ensures c.look_again.ensures)

pub returns : goal.returns
returns g c = (
  ap (λ S. is_unreferenced S c.in-Some.gone.0) (sym c.self.view_is)
      ∙ was_dead _ _ _ _ _ _ _ c.self.invariant c.in-Some.gone.0 c.in-Some.gone.1 c.in-Some.ensures.dead c.in-Some.ensures.uncounted,
  is_without _ _ _ _ _ _ _ c.self.invariant c.release_held.new.slots _ c.in-Some.gone.0 c.in-Some.gone.1 c.in-Some.ensures.dead
      (sym c.release_held.ensures.counted.places ∙ c.reset_peer.ensures.places
      ∙ (λ j. with_peer_reset (c.lost_peer.ensures j) (c.in-Some.ensures.taken j))) c.drop_name.ensures
      ∙ ap (without (λ n. n == c.in-Some.gone.0)) c.self.view_is,
)
