use Rattle.ux_syntax.proofs.Names.{name_starts, name_more}
use Rattle.ux_syntax.proofs.paths.name_of.Goals as goal

pub loop-rest-init : goal.loop-rest-init
loop-rest-init c = rw c.new-bytes.ensures.items (name_starts c.args.text.now)

pub loop-rest-preserved : goal.loop-rest-preserved
loop-rest-preserved c =
    rw c.in_ok-push.ensures.items
    (name_more c.args.text.now c.loop-rest.bytes.items c.loop-rest.rest.now (c.in_ok-byte.byte, c.in_ok-byte.after.now) c.in_ok-byte.ensures
    c.loop-rest.invariant)
