use Rattle.std.proofs.Common.{◌≤◌, length, arith}
use Rattle.ux_audit.proofs.Listing.{listed_next, listed_row}
use Rattle.ux_audit.proofs.held.list_row.Goals as goal

pub loop-n-preserved : goal.loop-n-preserved
loop-n-preserved c = λ flags are start.
    listed_next flags c.args.pid c.loop-n.n c.loop-n.held.items c.list_number.new.held.items _ (are c.loop-n.n)
    (c.loop-n.invariant flags are start) c.in_ok-list_number.ensures

pub returns : goal.returns
returns c = λ flags are start.
    let past : length c.args.row.now ≤ c.loop-n.n = omega arith in
    listed_row flags c.args.pid c.loop-n.n c.args.row.now c.loop-n.held.items are past (c.loop-n.invariant flags are start)
