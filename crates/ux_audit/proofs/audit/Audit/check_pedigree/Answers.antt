use Rattle.ux_audit.proofs.Checking.{found_alone}
use Rattle.ux_audit.proofs.audit.Audit.check_pedigree.Goals as goal

pub returns : goal.returns
returns c = λ boot legal. found_alone boot c.args.self.now c.in_ok-found.found c.args.chain.now c.args.pid.0 c.args.fd.0 c.is_found.result
    legal
    (c.in_ok-found.ensures.chain boot legal) (c.in_ok-found.ensures.held boot legal) c.is_found.ensures
