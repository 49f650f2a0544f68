use Rattle.std.proofs.Common.{rules, ◌++◌, ◌≡◌, length, min}
use Rattle.ux_stream.proofs.Parts.{front_in_parts}
use Rattle.ux_stream.proofs.byte_ring.ByteRing.front.Goals as goal

pub returns-clause-bytes : goal.returns-clause-bytes
returns-clause-bytes g c =
    let whole : c.as_slices.result.0.now ++ c.as_slices.result.1.now ≡ c.args.self.now.items = search rules in
    let count : c.min-count.result ≡ min c.args.n (length c.args.self.now.items) = search rules in
    rw (← front_in_parts c.args.n c.min-count.result c.min-first.result _ _ _ whole count c.min-first.ensures) c.joined.ensures.bytes
