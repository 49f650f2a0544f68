use Rattle.std.proofs.Common.{rules, ◌≡◌, ◌+◌, ◌-◌, ◌≤◌, ℕ, List, length, map, Some, None, refl}
use Rattle.ux_model.specs.Types.{Fd, Request}
use Rattle.ux_model.specs.Delivery.{control_bytes}
use Rattle.ux_calls.specs.Calls.{no_msg_flags}
use Rattle.delortxa.specs.declared.whole.Way.{Way}
use Rattle.delortxa.specs.Giving.{request_of}
use Rattle.delortxa.proofs.Giving.{first_failed, early_after}
use Rattle.delortxa.proofs.whole.give_all_with.Goals as goal

-- the first call
abbrev passing : Fd → List ℕ → List Fd → Request
passing fd bytes rights = Request.SendMsg fd None bytes (control_bytes None (map (λ right. right.0) rights)) no_msg_flags

pub returns-in-Err-clause-early : goal.returns-in-Err-clause-early
returns-in-Err-clause-early g c =
    first_failed g.P.Calls.did g.P.Calls.unmade c.args.who (request_of Way.Send c.args.fd) c.args.bytes.now
    (passing c.args.fd c.args.bytes.now c.args.rights.now) c.args.caller.now c.send_rights.new.self
    (record { taken = 0; error = Some c.in-Err.error }) c.in-Err.error refl refl c.in-Err.ensures.failed

pub returns-in-Err-give_all-clause-early : goal.returns-in-Err-give_all-clause-early
returns-in-Err-give_all-clause-early g c =
    let left = c.split_at.result.1.now in
    let more = c.in-Err-give_all.more in
    let short : length left ≤ length c.args.bytes.now = search rules in
    early_after g.P.Calls.did g.P.Calls.unmade c.args.who (request_of Way.Send c.args.fd) c.args.bytes.now
    (passing c.args.fd c.args.bytes.now c.args.rights.now) c.args.caller.now c.send_rights.new.self c.give_all.new.caller c.in-Ok.taken left
    (record { taken = length c.args.bytes.now - length left + more.taken; error = more.error }) more c.in-Ok.ensures.made
    (search rules) c.in-Err-give_all.ensures.early refl refl short
