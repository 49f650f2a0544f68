use Rattle.std.proofs.Common.{◌≡◌, length, ap, arith}
use Rattle.ux_model.specs.State.{State}
use Rattle.ux_state.proofs.Added.{links_same, grown_kept, none_added, object_added}
use Rattle.ux_state.proofs.state.State.add_object.Goals as goal

pub invariant_of-self : goal.invariant_of-self
invariant_of-self g c = grown_kept _ _ _ _ _ _ c.self.invariant c.make_counts.ensures.counts (links_same _)

pub invariant_of-self-in_err-make_link_count : goal.invariant_of-self-in_err-make_link_count
invariant_of-self-in_err-make_link_count g c =
    grown_kept _ _ _ _ _ _ c.self.invariant c.make_counts.ensures.counts c.make_link_count.ensures.counts

pub invariant_of-self-in_err-push : goal.invariant_of-self-in_err-push
invariant_of-self-in_err-push g c =
    let grown = grown_kept _ _ _ _ _ _ c.self.invariant c.make_counts.ensures.counts c.make_link_count.ensures.counts in
    let next : c.len-next.result ≡ length c.self.inside.objects.items = omega (arith, c.len-next.ensures, c.self.inside.objects.ok.0) in
    none_added _ _ _ _ _ _ _ grown c.push.new.self.items c.len-next.result next c.look_again.ensures
    c.in_err-push.ensures.items

pub invariant_of-self-2 : goal.invariant_of-self-2
invariant_of-self-2 g c =
    let grown = grown_kept _ _ _ _ _ _ c.self.invariant c.make_counts.ensures.counts c.make_link_count.ensures.counts in
    let next : c.len-next.result ≡ length c.self.inside.objects.items = omega (arith, c.len-next.ensures, c.self.inside.objects.ok.0) in
    object_added _ _ _ _ _ _ _ grown c.push.new.self.items c.len-next.result c.new-2.result next c.look_again.ensures
    c.in_ok-push.ensures.items
    (omega (arith, ap (λ S. length (State.objects S)) c.self.view_is, next, c.requires.few))
    c.in_ok-make_counts.ensures.long c.in_ok-make_link_count.ensures.long
