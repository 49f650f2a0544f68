use Rattle.std.proofs.Common.{Vec, Global, ap, ◌∙◌}
use Rattle.ux_watch.specs.declared.watch.Change.{Change}
use Rattle.ux_watch.specs.Changing.{told_at}
use Rattle.ux_watch.proofs.Changing.{pushed_as, skipped_as}
use Rattle.ux_watch.proofs.watch.changes_between.Goals.{then-not-is_same+in_ok-push, else-not-is_same}
use Rattle.ux_watch.proofs.watch.changes_between.Goals as goal

pub loop-id-preserved : goal.loop-id-preserved
loop-id-preserved c = elim c.if-not-is_same.branch [
  | then-not-is_same+in_ok-push w ↦ pushed_as (told_at c.args.before.now) (told_at c.args.now.now) c.loop-id.old.now c.loop-id.new.now
      c.without-old.result.now c.without-new.result.now c.loop-id.changes.items c.if-not-is_same.changes.items c.lower.result c.in-Some.id
      c.first_at-told.result c.first_at.result c.is_same.result c.lower.ensures c.in-Some.is c.first_at-told.ensures c.first_at.ensures
      c.is_same.ensures c.without-old.ensures c.without-new.ensures c.loop-id.invariant w.if-not-is_same.true
      (ap (λ (v : Vec Change Global). v.items) w.changes-is ∙ w.in_ok-push.ensures.items)
  | else-not-is_same w ↦ skipped_as (told_at c.args.before.now) (told_at c.args.now.now) c.loop-id.old.now c.loop-id.new.now
      c.without-old.result.now c.without-new.result.now c.loop-id.changes.items c.if-not-is_same.changes.items c.lower.result c.in-Some.id
      c.first_at-told.result c.first_at.result c.is_same.result c.lower.ensures c.in-Some.is c.first_at-told.ensures c.first_at.ensures
      c.is_same.ensures c.without-old.ensures c.without-new.ensures c.loop-id.invariant w.if-not-is_same.false
      (ap (λ (v : Vec Change Global). v.items) w.changes-is)
]
