use Rattle.std.proofs.Common.{◌≡◌, ◌≤◌, ◌+◌, ◌/◌, ◌++◌, length, map, vec_len, vec_capacity}
use Rattle.ux_model.specs.ControlReading.{numbers_in}
use Rattle.ux_cmsg.proofs.reading.read_numbers.Given as goal

abbrev pub invariant-loop-number : goal.invariant-loop-number
invariant-loop-number g l = (map (λ fd. fd.0) l.numbers.items ++ numbers_in l.rest ≡ numbers_in l.payload)
    × (vec_len l.numbers + length l.rest / 4 ≤ vec_capacity l.numbers)

abbrev pub decreases-loop-number : goal.decreases-loop-number
decreases-loop-number g l = length l.rest
