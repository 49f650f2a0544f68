use Rattle.std.proofs.Common.{◌≡◌, true, false, ap, ◌∙◌, arith}
use Rattle.ux_book.proofs.Trails.{gives, takes_in}
use Rattle.ux_book.proofs.trail.take_in.Goals as goal

pub split_seat-seat-requires : goal.split_seat-seat-requires
split_seat-seat-requires c =
    let one = c.requires.table.2 in
    let own : c.args.token.now.me.0.owns ≡ true = ap (λ m. m.0.owns) c.requires.token in
    (c.requires.table.1, omega (arith, one), λ s h at. gives s.views c.args.token.now.id c.args.token.now.me.0 own h at)

pub join_seat-requires : goal.join_seat-requires
join_seat-requires c =
    let one = c.requires.table.2 in
    let split = c.split_seat-seat.ensures in
    let k = c.args.keeper.now.me.0 in
    let whole : k.keeps ≡ true = ap (λ m. m.0.keeps) c.requires.keeper in
    let alone : k.owns ≡ false = ap (λ m. m.0.owns) c.requires.keeper in (
      c.requires.table.0,
      split.3 ∙ c.requires.table.1,
      ap (λ m. m.1) split.4,
      omega (arith, one),
      λ s h at apart there. takes_in s.views c.args.keeper.now.id k c.split_seat-seat.result.id c.split_seat-seat.result.me.0 whole alone h
          at apart there,
    )
