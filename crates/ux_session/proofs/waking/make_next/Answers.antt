use Rattle.ux_session.proofs.Going.{next_by, next_sound}
use Rattle.ux_session.proofs.waking.make_next.Goals as goal

pub returns-in-Some-clause-some : goal.returns-in-Some-clause-some
returns-in-Some-clause-some g c =
    next_by c.args.serial.now c.try_from.new.serial c.deref.result.now c.args.calls.now.items c.take.new.calls.items
    c.in_ok-place.field-0 c.in-Some.place c.take.result c.args.start c.in-Some.is c.deref.ensures.value c.in_ok-place.ensures.some
    c.in_ok-place.ensures.first c.take.ensures.number c.take.ensures.left

pub returns-in-Some-clause-sound : goal.returns-in-Some-clause-sound
returns-in-Some-clause-sound g c =
    next_sound c.args.serial.now c.try_from.new.serial c.deref.result.now c.args.calls.now.items c.take.new.calls.items
    c.in_ok-place.field-0 c.in-Some.place c.in-Some.is c.deref.ensures.value c.in_ok-place.ensures.some c.requires.sound
    c.take.ensures.left
