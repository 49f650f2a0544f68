use Rattle.std.proofs.Common.{◌<◌, List, Option, length, ap, sym, ◌∙◌}
use Rattle.ux_model.specs.Places.{place}
use Rattle.ux_model.specs.Process.{Descriptor}
use Rattle.ux_fdtable.proofs.Places.{held_inside, set_padded}
use Rattle.ux_fdtable.proofs.table.Table.set_cloexec.Goals as goal

pub returns-in-Some : goal.returns-in-Some
returns-in-Some c =
    let inside : c.args.fd.0 < length c.self.inside.places.items =
    held_inside c.self.inside.places.items c.self.inside.limit c.args.fd.0 c.in-Some.descriptor
    (ap (λ (T : List (Option Descriptor)). place T c.args.fd.0) c.self.view_is ∙ sym c.in-Some.ensures) in
    rw (← c.in-Some.ensures, ← c.descriptor.view_is, ← c.self.view_is)
    (set_padded c.self.inside.places.items c.self.inside.limit c.args.fd.0 _ inside)
