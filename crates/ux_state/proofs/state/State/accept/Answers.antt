use Rattle.std.proofs.Common.{◌<◌, sym, subst, ap}
use Rattle.ux_model.specs.Process.{Descriptor}
use Rattle.ux_model.specs.References.{refs}
use Rattle.ux_state.proofs.Tying.{waiting_referenced}
use Rattle.ux_state.proofs.state.State.accept.Goals as goal

pub put_lowest-requires-clause-held : goal.put_lowest-requires-clause-held
put_lowest-requires-clause-held g c =
    subst (λ n. 0 < refs c.args.self.now n) (sym (ap (λ e. Descriptor.description e) c.new_entry.ensures))
    (waiting_referenced c.args.self.now c.args.listener c.in-Some.end (sym c.in-Some.ensures))
