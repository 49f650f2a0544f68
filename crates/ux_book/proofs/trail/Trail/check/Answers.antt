use Rattle.std.proofs.Common.{◌≡◌, true, refl, ap, ◌∙◌, arith}
use Rattle.atomic_table.specs.Table.{keeps}
use Rattle.ux_book.specs.Trails.{unclaimed}
use Rattle.ux_book.proofs.Trails.{checks}
use Rattle.ux_book.proofs.trail.Trail.check.Goals as goal

pub load-requires : goal.load-requires
load-requires c =
    let one : c.self.inside.table.shared.table_id.words ≡ 1 = c.self.invariant.0 in
    let v = c.take_in.new.keeper.me.0 in
    let keep : v.keeps ≡ true = ap (λ m. m.0.keeps) c.take_in.ensures.keeper in (
      c.take_in.ensures.same ∙ c.self.invariant.1,
      omega (arith, one),
      λ s h long at small.
          let k = checks s.views c.take_in.new.keeper.id v keep h at in
          (unclaimed v, keeps, tt, k.0, (k.1, refl)),
    )
