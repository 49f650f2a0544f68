use Rattle.std.proofs.Common.{◌≡◌, true, false, refl, sym, ap, ◌∙◌, arith}
use Rattle.atomic_table.specs.Table.{keeps}
use Rattle.ux_book.specs.Trails.{Trailed, Placed, unclaimed}
use Rattle.ux_book.proofs.Trails.{copies, takes_in, checks}
use Rattle.ux_book.proofs.trail.Trail.find.Goals as goal

pub split_seat-again-requires : goal.split_seat-again-requires
split_seat-again-requires c =
    let one : c.self.inside.table.shared.table_id.words ≡ 1 = c.self.invariant.0 in (
      ap (λ (m : Placed). m.id) c.place.view_is ∙ c.requires
          ∙ sym (ap (λ (t : Trailed). t.id) c.self.view_is),
      omega (arith, one),
      λ s h at. copies s.views c.place.inside.seat.id c.place.inside.seat.me.0 h at,
    )

pub join_seat-requires : goal.join_seat-requires
join_seat-requires c =
    let one : c.self.inside.table.shared.table_id.words ≡ 1 = c.self.invariant.0 in
    let again = c.split_seat-again.ensures in
    let k = c.self.inside.keeper in
    let whole : k.me.0.keeps ≡ true = ap (λ m. m.0.keeps) c.self.invariant.2 in
    let alone : k.me.0.owns ≡ false = ap (λ m. m.0.owns) c.self.invariant.2 in (
      c.self.invariant.1,
      again.3 ∙ ap (λ (m : Placed). m.id) c.place.view_is ∙ c.requires ∙ sym (ap (λ (t : Trailed). t.id) c.self.view_is),
      ap (λ m. m.1) again.4,
      omega (arith, one),
      λ s h at apart there. takes_in s.views k.id k.me.0 c.split_seat-again.result.id c.split_seat-again.result.me.0 whole alone h at apart
          there,
    )

pub load-requires : goal.load-requires
load-requires c =
    let one : c.self.inside.table.shared.table_id.words ≡ 1 = c.self.invariant.0 in
    let join = c.join_seat.ensures in
    let v = c.join_seat.new.seat.me.0 in
    let keep : v.keeps ≡ true = ap (λ m. m.0.keeps) join.2 ∙ ap (λ m. m.0.keeps) c.self.invariant.2 in (
      join.0 ∙ c.self.invariant.1,
      omega (arith, one),
      λ s h long at small.
          let k = checks s.views c.join_seat.new.seat.id v keep h at in
          (unclaimed v, keeps, tt, k.0, (k.1, refl)),
    )
