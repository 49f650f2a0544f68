use Rattle.std.proofs.Common.{◌<◌, length, refl, ap, arith}
use Rattle.ux_model.specs.State.{State}
use Rattle.ux_state.proofs.Added.{link_fits, path_added}
use Rattle.ux_state.proofs.Tying.{not_some}
use Rattle.ux_state.proofs.state.State.add_path.Goals as goal

pub overflow_add-index_mut : goal.overflow_add-index_mut
overflow_add-index_mut g c =
    let inside : c.args.object < length c.self.inside.links.items =
    omega (arith, ap (λ S. length (State.objects S)) c.self.view_is, c.self.invariant.link_each, c.requires.there) in
    let few = link_fits _ _ _ _ _ _ _ c.self.invariant c.in_ok-listed.listed c.args.object c.index_mut.result.now c.len-many.result
    c.bind.new.self.names inside c.index_mut.ensures.value c.in_ok-bind.ensures.ok c.len-many.ensures in
    omega (arith, few, c.len-many.type_inv)

pub invariant_of-self-2 : goal.invariant_of-self-2
invariant_of-self-2 g c =
    let inside : c.args.object < length c.self.inside.links.items =
    omega (arith, ap (λ S. length (State.objects S)) c.self.view_is, c.self.invariant.link_each, c.requires.there) in
    path_added _ _ _ _ _ _ _ c.self.invariant c.in_ok-listed.listed c.args.object c.index_mut.result.now _ _ c.bind.new.self.names
    (not_some _ (λ some. absurd (cc (c.in_ok-bind.ensures.taken.1 some)))) inside c.index_mut.ensures.value refl refl
    c.in_ok-bind.ensures.ok
