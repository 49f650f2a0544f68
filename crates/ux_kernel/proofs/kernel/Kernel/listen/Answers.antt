use Rattle.std.proofs.Common.{rules, ap, sym, ◌∙◌, w32, SFits}
use Rattle.std.proofs.lemmas.Int.{to_z-of_z}
use Rattle.ux_model.specs.State.{with_socket_by}
use Rattle.ux_model.specs.Backlog.{backlog_of}
use Rattle.ux_model.specs.Connecting.{with_listening}
use Rattle.ux_model.specs.Outcome.{Outcome, find_socket}
use Rattle.ux_kernel.proofs.Listening.{listened}
use Rattle.ux_kernel.proofs.kernel.Kernel.listen.Goals as goal

pub returns : goal.returns
returns g c =
    let fits : SFits w32 c.args.backlog = search rules in
    let e = listened c.args.self.now c.args.pid.0 c.args.fd c.args.backlog c.in-Ok.found.id c.in-Ok.found.socket.now
    c.credentials-cred.result
    (ap (λ S. find_socket S c.args.pid.0 c.args.fd) (sym c.self.view_is) ∙ c.in-Ok.ensures) (search rules) (search rules) (search rules)
    (search rules) in (
      ap (λ o. Outcome.reply o) (sym e),
      c.listen.ensures
          ∙ (λ j. with_socket_by (c.self.view_is j) c.in-Ok.found.id
          (with_listening (backlog_of (to_z-of_z w32 c.args.backlog fits j)) c.credentials-cred.result))
          ∙ ap (λ o. Outcome.next o) (sym e),
    )
