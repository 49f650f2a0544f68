use Rattle.std.proofs.Common.{ap, sym, ◌∙◌}
use Rattle.ux_model.specs.Process.{Descriptor}
use Rattle.ux_model.specs.Outcome.{find_description}
use Rattle.ux_kernel.proofs.FileCalls.{write_found}
use Rattle.ux_kernel.proofs.kernel.Kernel.write.Goals as goal

pub returns : goal.returns
returns g c =
    write_found c.args.self.now c.write_at.new.self c.args.pid.0 c.args.tag c.args.fd c.args.bytes.now _ c.in-Ok.found.descriptor
    c.in-Ok.found.description.now c.write_at.result
    (ap (λ S. find_description S c.args.pid.0 c.args.fd) (sym c.self.view_is) ∙ c.in-Ok.ensures)
    (ap (λ e. Descriptor.description e) c.entry.view_is) c.write_at.ensures
