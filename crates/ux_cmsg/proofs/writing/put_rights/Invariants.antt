use Rattle.std.proofs.Common.{◌≡◌, ◌+◌, ◌*◌, ◌<◌, ◌^◌, ◌++◌, length, map, take}
use Rattle.std.specs.Int.{w32, to_le_bytes}
use Rattle.std.specs.List.{flat_map, AllByRecursion}
use Rattle.ux_cmsg.specs.Items.{head_bytes}
use Rattle.ux_cmsg.proofs.writing.put_rights.Given as goal

abbrev pub invariant-loop-fd : goal.invariant-loop-fd
invariant-loop-fd g l =
    (l.out.items ≡ (l.fn.out.items ++ head_bytes (16 + 4 * length l.rights) 1) ++ flat_map (to_le_bytes w32)
    (map (λ fd. fd.0) (take l.fd-index l.rights)))
    × AllByRecursion (λ n. n < 2 ^ 32) (map (λ fd. fd.0) (take l.fd-index l.rights))
