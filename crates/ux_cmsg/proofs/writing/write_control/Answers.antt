use Rattle.ux_cmsg.proofs.Written.{control_spelled}
use Rattle.ux_cmsg.proofs.writing.write_control.Goals as goal

pub returns-clause-spelled : goal.returns-clause-spelled
returns-clause-spelled g c =
    control_spelled c.args.control.now c.cred-cred.result _ c.put_items.new.out.items c.cred-cred.ensures c.rights-rights.ensures
    c.in_ok-put_items.ensures.cred_fits c.in_ok-put_items.ensures.rights_fit
    (rw c.in_ok-out.ensures.items at c.in_ok-put_items.ensures.written)
