use Rattle.std.proofs.Common.{◌<◌, length, is_some, ap, sym, subst, ◌∙◌}
use Rattle.std.proofs.lemmas.Bool.{and_right}
use Rattle.std.proofs.lemmas.List.{length-set}
use Rattle.ux_model.specs.Places.{place}
use Rattle.ux_model.specs.State.{State}
use Rattle.ux_state.proofs.Orphans.{set_same, taken_out}
use Rattle.ux_state.proofs.Settling.{set_there, there_is}
use Rattle.ux_state.proofs.TableCounts.{objects_kept}
use Rattle.ux_state.proofs.state.State.take_orphan.Goals as goal

pub invariant_of-self : goal.invariant_of-self
invariant_of-self g c =
    objects_kept _ _ _ _ _ _ _ c.self.invariant _ (length-set c.self.inside.objects.items c.args.o c.take_closed.new.self)
    (set_there c.self.inside.objects.items c.args.o c.take_closed.new.self
    (λ there. absurd (cc (sym (ap is_some c.take_closed.ensures.empty) ∙ there))))

pub returns-clause-orphan : goal.returns-clause-orphan
returns-clause-orphan g c =
    taken_out c.args.self.now c.args.o c.index_mut.result.now (λ c. c.object) c.take_closed.result
    (sym c.is_orphan.ensures ∙ c.if-not-is_orphan.false)
    (there_is c.self.inside.objects.items c.args.o c.index_mut.result.now
    (subst (λ (S : State). c.args.o < length S.objects) (sym c.self.view_is) c.requires) c.index_mut.ensures.value
    ∙ ap (λ S. place (State.objects S) c.args.o) c.self.view_is) c.take_closed.ensures.object

pub returns-then-not-is_orphan-clause-state : goal.returns-then-not-is_orphan-clause-state
returns-then-not-is_orphan-clause-state g c =
    set_same c.args.self.now c.args.o
    (and_right (is_some (place c.args.self.now.objects c.args.o)) _ (sym c.is_orphan.ensures ∙ c.if-not-is_orphan.true))
