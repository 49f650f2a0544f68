use Rattle.std.proofs.Common.{◌≡◌, true, ap, arith}
use Rattle.ux_book.proofs.Trails.{opens}
use Rattle.ux_book.proofs.trail.Trail.open.Goals as goal

pub split_seat-seat-requires : goal.split_seat-seat-requires
split_seat-seat-requires c =
    let one : c.self.inside.table.shared.table_id.words ≡ 1 = c.self.invariant.0 in
    let k = c.self.inside.keeper in
    let whole : k.me.0.keeps ≡ true = ap (λ m. m.0.keeps) c.self.invariant.2 in
    (c.self.invariant.1, omega (arith, one), λ s h at. opens s.views k.id k.me.0 whole h at)
