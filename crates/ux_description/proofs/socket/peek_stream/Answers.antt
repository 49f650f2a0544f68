use Rattle.std.proofs.Common.{None}
use Rattle.ux_description.proofs.Fronts.{stream_shows}
use Rattle.ux_description.proofs.socket.peek_stream.Goals as goal

pub returns : goal.returns
returns c = stream_shows c.args.wants_cred c.args.n c.args.queue.now c.in_ok-front.front _ c.in_ok-front.ensures.shows
    (λ i. record {
      bytes = c.in_ok-front.front.bytes;
      whole = c.len.ensures i;
      rights = c.in_ok-front.front.rights;
      origin =
          c.in_ok-front.front.origin;
      cred = c.in_ok-front.front.cred;
      from = None;
    })
