use Rattle.std.proofs.Common.{rules, arith, ◌+◌, ◌<◌, drop, length}
use Rattle.ux_model.specs.Places.{empty_places_from}
use Rattle.ux_fdtable.proofs.Installing.{room_for_one}
use Rattle.ux_fdtable.proofs.table.Table.lowest_numbers.Goals as goal

pub push_reserved-requires : goal.push_reserved-requires
push_reserved-requires c =
    let n = c.in-Some.number in
    let one = room_for_one c.loop-from.numbers.items n (empty_places_from c.loop-from.from (drop c.loop-from.from c.args.self.now))
    (empty_places_from (n + 1) (drop (n + 1) c.args.self.now)) c.args.self.now
    c.loop-from.invariant.so_far (search rules) in
    let wanted : length c.loop-from.numbers.items < c.args.count = search rules in
    let room = c.loop-from.invariant.room in
    omega (arith, one, wanted, room)
