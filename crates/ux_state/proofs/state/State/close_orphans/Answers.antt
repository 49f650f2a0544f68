use Rattle.std.proofs.Common.{◌<◌, ◌++◌, length, ap, sym, ◌∙◌, arith}
use Rattle.ux_state.proofs.Orphans.{comes, comes_to_end, Passed-one, Passed-all, settled_here}
use Rattle.ux_state.proofs.state.State.close_orphans.Goals as goal

pub take_orphan-orphan-requires : goal.take_orphan-orphan-requires
take_orphan-orphan-requires g c = c.in-Some.ensures.look.within

pub keep_settled-requires-clause-no_orphan : goal.keep_settled-requires-clause-no_orphan
keep_settled-requires-clause-no_orphan g c =
    settled_here c.loop-o.self c.take_orphan-orphan.new.self c.in-Some.o c.in-Some.ensures.look.within c.take_orphan-orphan.ensures.state

pub hand_out-requires-clause-room : goal.hand_out-requires-clause-room
hand_out-requires-clause-room g c =
    let here = comes c.args.self.now c.loop-o.self c.loop-o.from c.in-Some.o c.loop-o.released c.loop-o.invariant.0 c.loop-o.invariant.1
    c.in-Some.ensures.look in
    omega (arith, here.passed.few, c.in-Some.ensures.small)

pub overflow_add-from : goal.overflow_add-from
overflow_add-from g c = omega (arith, c.in-Some.ensures.small)

pub loop-o-smaller : goal.loop-o-smaller
loop-o-smaller g c =
    let here = comes c.args.self.now c.loop-o.self c.loop-o.from c.in-Some.o c.loop-o.released c.loop-o.invariant.0 c.loop-o.invariant.1
    c.in-Some.ensures.look in
    omega (arith, here.inside, c.in-Some.ensures.look.after)

pub loop-o-preserved : goal.loop-o-preserved
loop-o-preserved g c =
    let here = comes c.args.self.now c.loop-o.self c.loop-o.from c.in-Some.o c.loop-o.released c.loop-o.invariant.0 c.loop-o.invariant.1
    c.in-Some.ensures.look in (
      Passed-one c.args.self.now c.loop-o.self c.keep_settled.new.self c.in-Some.o c.loop-o.released c.hand_out.new.released
          here.passed here.inside (c.keep_settled.ensures ∙ c.take_orphan-orphan.ensures.state)
          (c.hand_out.ensures.released ∙ ap (λ rs. c.loop-o.released ++ rs) c.take_orphan-orphan.ensures.orphan),
      omega (arith, here.inside),
      c.hand_out.ensures.numbers,
    )

pub returns-clause-released : goal.returns-clause-released
returns-clause-released g c =
    (Passed-all c.args.self.now c.loop-o.self c.loop-o.released
    (comes_to_end c.args.self.now c.loop-o.self c.loop-o.from c.loop-o.released c.loop-o.invariant.0 c.loop-o.invariant.1
    c.in_default.ensures.look)).0

pub returns-clause-state : goal.returns-clause-state
returns-clause-state g c =
    (Passed-all c.args.self.now c.loop-o.self c.loop-o.released
    (comes_to_end c.args.self.now c.loop-o.self c.loop-o.from c.loop-o.released c.loop-o.invariant.0 c.loop-o.invariant.1
    c.in_default.ensures.look)).1
