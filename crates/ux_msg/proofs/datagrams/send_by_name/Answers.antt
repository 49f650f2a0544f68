use Rattle.std.proofs.Common.{Some, rules}
use Rattle.ux_rights.specs.Drafts.{drafted}
use Rattle.ux_msg.proofs.Found.{named_gives}
use Rattle.ux_msg.proofs.datagrams.send_by_name.Goals as goal

pub returns : goal.returns
returns g c =
    named_gives c.args.state.now c.send_to_target.new.state c.args.limit c.args.id c.in-Ok.found.id _ c.in-Some.socket.now
    c.in-Ok.found.socket.now c.args.addr.now (λ s. drafted c.args.draft c.args.rights (Some s.name)) c.send_to_target.result
    (search rules) (search rules) c.send_to_target.ensures (search rules)
