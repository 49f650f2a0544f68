use Rattle.std.proofs.Common.{ap, sym, ◌∙◌}
use Rattle.ux_model.specs.Types.{Reply, Errno}
use Rattle.ux_model.specs.Process.{Descriptor}
use Rattle.ux_model.specs.State.{State}
use Rattle.ux_model.specs.Outcome.{find_description}
use Rattle.ux_kernel.proofs.FileCalls.{written_to}
use Rattle.ux_kernel.proofs.kernel.Kernel.write_lacks_room.Goals as goal

pub returns-in-Some : goal.returns-in-Some
returns-in-Some g c = record {
  again = λ yes tag.
      written_to c.args.self.now c.args.pid.0 tag c.args.fd c.in-Some.file c.in-Ok.found.descriptor c.in-Ok.found.description.now
      c.args.bytes.now (Reply.Err Errno.EAGAIN)
      (ap (λ (S : State). find_description S c.args.pid.0 c.args.fd) (sym c.self.view_is) ∙ c.in-Ok.ensures)
      (c.in-Some.ensures.0 ∙ ap (λ (e : Descriptor). e.description) c.descriptor.view_is)
      c.in-Some.ensures.1 (c.file_lacks_room.ensures.again yes);
}
