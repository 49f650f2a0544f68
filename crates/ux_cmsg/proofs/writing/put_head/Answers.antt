use Rattle.std.specs.Int.{w32, w64, to_le_bytes}
use Rattle.ux_cmsg.proofs.Written.{three_appended}
use Rattle.ux_cmsg.proofs.writing.put_head.Goals as goal

pub returns : goal.returns
returns g c =
    three_appended c.args.out.now.items (to_le_bytes w64 c.args.len) _ (to_le_bytes w32 1) _ (to_le_bytes w32 c.args.kind) _
    (rw c.to_le_bytes.ensures at c.in_ok-extend_from_slice.ensures.items)
    (rw c.to_le_bytes-2.ensures at c.in_ok-extend_from_slice-2.ensures.items)
    (rw c.to_le_bytes-3.ensures at c.in_ok-extend_from_slice-3.ensures.items)
