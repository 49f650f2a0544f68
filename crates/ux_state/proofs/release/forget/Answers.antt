use Rattle.std.proofs.Common.{refl}
use Rattle.ux_state.proofs.Dropping.{fewer_left, still_alike, none_counted, none_left}
use Rattle.ux_state.proofs.release.forget.Goals as goal

pub loop-gone-smaller : goal.loop-gone-smaller
loop-gone-smaller c = fewer_left c.loop-gone.slots c.next_dead.new.self c.in-Some.gone.0 c.in-Some.gone.1 c.in-Some.ensures.dead
    c.in-Some.ensures.taken

pub loop-gone-preserved : goal.loop-gone-preserved
loop-gone-preserved c = (
  still_alike c.args.slots.now.places c.loop-gone.slots c.next_dead.new.self c.in-Some.gone.0 c.in-Some.ensures.taken
      c.loop-gone.invariant.0,
  none_counted c.loop-gone.slots c.next_dead.new.self c.in-Some.ensures.counts c.loop-gone.invariant.1,
)

pub returns-clause-places : goal.returns-clause-places
returns-clause-places c = none_left c.args.slots.now.places c.loop-gone.slots c.next_dead.new.self c.in_default.ensures.unchanged
    (c.in_default.ensures.none.0 refl) c.loop-gone.invariant.1 c.loop-gone.invariant.0
