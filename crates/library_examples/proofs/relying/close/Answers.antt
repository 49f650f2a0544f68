use Rattle.std.proofs.Common.{false}
use Rattle.library_examples.proofs.Closing.{close_answer}
use Rattle.library_examples.proofs.relying.close.Goals as goal

pub returns : goal.returns
returns g c = close_answer g.W.BookName.boot c.args.seat.now c.args.fd false c.call.result c.call.ensures.receipt c.call.ensures.shown
