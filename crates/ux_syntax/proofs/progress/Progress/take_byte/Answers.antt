use Rattle.ux_syntax.proofs.progress.Progress.take_byte.Goals as goal

pub returns-then-byte-eq10-clause-fault : goal.returns-then-byte-eq10-clause-fault
returns-then-byte-eq10-clause-fault c = rw c.if-byte-eq10.true c.end_line.ensures.fault
