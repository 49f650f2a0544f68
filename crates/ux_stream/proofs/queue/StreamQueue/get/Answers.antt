use Rattle.std.proofs.Common.{◌∙◌, sym, arith}
use Rattle.ux_stream.proofs.Cuts.{cut_at}
use Rattle.ux_stream.proofs.queue.StreamQueue.get.Goals as goal

pub returns-clause-mark : goal.returns-clause-mark
returns-clause-mark g c =
    let whole = c.self.invariant.whole in
    rw (← c.self.view_is) (c.mark_at.ensures
    ∙ sym (cut_at c.args.index c.self.inside.marks.items c.self.inside.ring.items (omega (arith, whole))))
