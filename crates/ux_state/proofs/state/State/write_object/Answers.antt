use Rattle.std.proofs.Common.{◌≡◌, ◌<◌, length, true, ap, is_some, sym, ◌∙◌, arith}
use Rattle.std.proofs.lemmas.List.{length-set}
use Rattle.std.specs.Prelude.{Option, slice_set}
use Rattle.ux_model.specs.Places.{place}
use Rattle.ux_model.specs.Object.{View}
use Rattle.ux_model.specs.State.{State, with_object}
use Rattle.ux_state.specs.Keeping.{state_of}
use Rattle.ux_state.proofs.Found.{held_inside}
use Rattle.ux_state.proofs.Settling.{set_there, there_is}
use Rattle.ux_state.proofs.TableCounts.{objects_kept}
use Rattle.ux_state.proofs.state.State.write_object.Goals as goal

pub invariant_of-self : goal.invariant_of-self
invariant_of-self g c =
    objects_kept _ _ _ _ _ _ _ c.self.invariant _ (length-set c.self.inside.objects.items c.args.number c.write.new.self)
    (set_there c.self.inside.objects.items c.args.number c.write.new.self
    (λ _. ap (λ S. is_some (place (State.objects S) c.args.number)) c.self.view_is ∙ c.requires))

pub returns : goal.returns
returns g c =
    let held : is_some (place c.self.inside.objects.items c.args.number) ≡ true =
    ap (λ S. is_some (place (State.objects S) c.args.number)) c.self.view_is ∙ c.requires in
    let here = there_is c.self.inside.objects.items c.args.number c.index_mut-place.result.now
    (held_inside c.self.inside.objects.items c.args.number held) c.index_mut-place.ensures.value in
    record {
      before = c.write.ensures.before;
      after = c.write.ensures.after;
      found = ap (λ S. place (State.objects S) c.args.number) (sym c.self.view_is) ∙ sym here ∙ c.write.ensures.found;
      gives = c.write.ensures.gives;
      kept =
          ap (λ (x : Option View). state_of (slice_set c.self.inside.objects.items c.args.number x) c.self.inside.descriptions
          c.self.inside.processes.items c.self.inside.paths.names c.self.inside.abstract_names) c.write.ensures.kept
          ∙ ap (λ S. with_object S c.args.number c.write.ensures.after) c.self.view_is;
    }
