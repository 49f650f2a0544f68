use Rattle.std.proofs.Common.{◌≡◌, [], ◌∷◌, ◌++◌, length, Some, ap, sym, ◌∙◌, arith}
use Rattle.ux_model.specs.Process.{Process}
use Rattle.ux_model.specs.State.{State, is_live}
use Rattle.ux_model.specs.References.{table_refs}
use Rattle.ux_model.specs.Forking.{child_of}
use Rattle.ux_state.proofs.Lookups.{stands_at}
use Rattle.ux_state.proofs.TableCounts.{table_counted, child_kept}
use Rattle.ux_state.proofs.Opening.{child_put}
use Rattle.ux_state.proofs.state.State.fork_process.Goals as goal

pub retain_table-requires-clause-held : goal.retain_table-requires-clause-held
retain_table-requires-clause-held g c = λ k.
    let live = ap (λ S. is_live S c.args.parent.0) c.self.view_is ∙ c.requires.live in
    let at = stands_at _ c.args.self.now c.args.parent.0 c.process.result.now c.self.view_is c.process.ensures in
    let all = table_counted _ _ _ _ _ _ _ c.self.invariant c.args.parent.0 c.process.result.now live at k in
    let same = ap (λ P. table_refs k (Process.table P)) (c.child.view_is ∙ c.in_ok-child.ensures) in
    omega (arith, all, same)

pub invariant_of-self-2 : goal.invariant_of-self-2
invariant_of-self-2 g c =
    let long = ap (λ S. length (State.processes S)) c.self.view_is in
    let pushed = c.in_ok-push.ensures.items ∙ ap (λ ps. ps ++ c.in_ok-child.child ∷ []) c.in_ok-reserve.ensures.items in
    rw pushed (child_kept _ _ _ _ _ _ _ c.self.invariant c.retain_table.new.slots c.in_ok-child.child (omega (arith, c.requires.few, long))
    c.retain_table.ensures.places (λ k.
    let counts = c.retain_table.ensures.counts k in
    let table = ap (λ P. table_refs k (Process.table P)) c.child.view_is in
    omega (arith, counts, table)))

pub returns-clause-made : goal.returns-clause-made
returns-clause-made g c = λ P h.
    let one : Some c.process.result.now ≡ Some P = sym c.process.ensures ∙ h in
    let same : c.process.result.now ≡ P = cc one in
    child_put _ c.args.self.now c.retain_table.new.slots.places c.push.new.self.items c.in_ok-child.child P c.self.view_is
    c.retain_table.ensures.places
    (c.in_ok-push.ensures.items ∙ ap (λ ps. ps ++ c.in_ok-child.child ∷ []) c.in_ok-reserve.ensures.items)
    (c.in_ok-child.ensures ∙ ap child_of same)
