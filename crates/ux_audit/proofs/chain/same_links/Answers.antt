use Rattle.std.proofs.Common.{rules, arith}
use Rattle.ux_audit.proofs.Checking.{lists_same}
use Rattle.ux_audit.proofs.chain.same_links.Goals as goal

pub returns : goal.returns
returns c = (λ t. lists_same c.args.a.now c.args.b.now c.if-a-b.false (λ k h. c.loop-i.invariant k (omega arith)), λ e. search rules)
