use Rattle.std.proofs.Common.{◌∙◌}
use Rattle.ux_stream.proofs.Parts.{put_behind}
use Rattle.ux_stream.proofs.byte_ring.joined_short.Goals as goal

pub returns : goal.returns
returns c = c.short.ensures ∙ put_behind _ c.args.first.now c.args.second.now _ _ _ c.copy_from_slice.ensures.after
    c.copy_from_slice-2.ensures.after
