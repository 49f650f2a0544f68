use Rattle.std.proofs.Common.{ap, arith, refl}
use Rattle.ux_model.specs.Types.{Entry}
use Rattle.atomic_table.specs.Table.{keeps}
use Rattle.ux_book.specs.Trails.{noted}
use Rattle.ux_book.proofs.Trails.{adds}
use Rattle.ux_book.proofs.trail.note.Goals as goal

pub store-requires : goal.store-requires
store-requires g c =
    let one = c.requires.table.1 in
    let v = c.args.keeper.now.me.0 in (
      c.requires.table.0,
      omega (arith, one),
      λ s h long at small. (
        noted v g.T.Noted.entry,
        keeps,
        tt,
        adds s.views c.args.keeper.now.id v g.T.Noted.entry c.requires.keeper.0 c.requires.keeper.1
            (ap (λ (e : Entry). e.pid.0) c.requires.entry) h at,
        refl,
      ),
    )
