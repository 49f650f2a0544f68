use Rattle.ux_cmsg.proofs.Written.{all_written}
use Rattle.ux_cmsg.proofs.writing.put_rights.Goals as goal

pub returns-clause-written : goal.returns-clause-written
returns-clause-written g c = all_written c.args.out.now.items c.loop-fd.out.items c.args.rights.now c.loop-fd.fd-index c.loop-fd-test.false
    c.loop-fd.invariant.0
