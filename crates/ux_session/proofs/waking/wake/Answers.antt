use Rattle.std.proofs.Common.{refl, ◌∙◌, ◌==◌, eq-eqb}
use Rattle.ux_session.specs.Sessions.{is_asked}
use Rattle.ux_session.specs.Going.{desk}
use Rattle.ux_session.proofs.Growing.{nobody_woke}
use Rattle.ux_session.proofs.Going.{woke_by}
use Rattle.ux_session.proofs.waking.wake.Goals as goal

pub loop-turn-init : goal.loop-turn-init
loop-turn-init g c = record {
  wakes = nobody_woke (is_asked c.args.order.now) (desk c.args.serial.now c.args.calls.now.items) c.args.answered.now.items;
  sound = c.requires;
  order = refl;
}

pub loop-turn-preserved : goal.loop-turn-preserved
loop-turn-preserved g c = record {
  wakes = woke_by (is_asked c.args.order.now) (c.start-start.result == 0) (desk c.args.serial.now c.args.calls.now.items)
      (desk c.loop-turn.serial c.loop-turn.calls.items) (desk c.make_next.new.serial c.make_next.new.calls.items)
      c.args.answered.now.items c.loop-turn.answered.items c.reserve.new.self.items c.push_reserved.new.self.items
      c.in-Ok-Some.field-0 c.in-Ok-Some.number c.in-Ok-Some.field-0-is c.in-Ok-Some.ensures.some
      (λ a. eq-eqb c.start-start.result 0 (c.start-start.ensures.first (c.loop-turn.invariant.order ∙ a)))
      c.loop-turn.invariant.wakes c.reserve.ensures.items c.push_reserved.ensures.items;
  sound = c.make_next.ensures.sound;
  order = c.start-start.ensures.same ∙ c.loop-turn.invariant.order;
}
