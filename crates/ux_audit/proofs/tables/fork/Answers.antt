use Rattle.std.proofs.Common.{◌≡◌, ◌<◌, ◌==◌, cond, length, ap, ◌∙◌, arith}
use Rattle.ux_model.specs.Places.{place}
use Rattle.ux_audit.specs.Flags.{flag_at}
use Rattle.ux_audit.proofs.Rows.{flag_at-set, mark_at_read}
use Rattle.ux_audit.proofs.tables.fork.Goals as goal

pub returns-clause-flags : goal.returns-clause-flags
returns-clause-flags c = λ q n.
    let mid = c.reach-2.new.tables.items in
    let parent_in : c.args.parent.0 < length mid = omega (arith, c.in_ok-reach.ensures.within, c.reach-2.ensures.more) in
    let row_is : place c.in_ok-row.row.items n ≡ flag_at mid c.args.parent.0 n =
    ap (λ xs. place xs n) (c.in_ok-row.ensures.items ∙ c.as_slice.ensures.value)
    ∙ mark_at_read mid c.args.parent.0 n c.index.result.now parent_in c.index.ensures in
    flag_at-set mid c.args.child.0 q n c.in_ok-row.row (flag_at c.args.tables.now.items c.args.parent.0 n) c.in_ok-reach-2.ensures.within
    (λ e. row_is ∙ c.reach-2.ensures.same c.args.parent.0 n ∙ c.reach.ensures.same c.args.parent.0 n)
    ∙ ap (λ m. cond (c.args.child.0 == q) (flag_at c.args.tables.now.items c.args.parent.0 n) m)
    (c.reach-2.ensures.same q n ∙ c.reach.ensures.same q n)
