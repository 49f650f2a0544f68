use Rattle.std.proofs.Common.{arith}
use Rattle.ux_book.proofs.Trails.{gives}
use Rattle.ux_book.proofs.trail.give_back.Goals as goal

pub split_seat-requires : goal.split_seat-requires
split_seat-requires c =
    let one = c.requires.table.1 in
    (c.requires.table.0, omega (arith, one), λ s h at. gives s.views c.args.keeper.now.id c.args.keeper.now.me.0 c.requires.keeper.0 h at)
