use denote.Param.Send.{sendable}
use Rattle.ux_threads.proofs.work.fn.join_scope.scope.Goals as goal

pub start_work-requires-send-W : goal.start_work-requires-send-W
start_work-requires-send-W g c κs within = let b = c.requires.1.1.1.1 in let w = b.0 in let o = b.1 in search sendable

pub start_work-requires-send-O : goal.start_work-requires-send-O
start_work-requires-send-O g c κs within = let b = c.requires.1.1.1.1 in let w = b.0 in let o = b.1 in search sendable

pub lead-requires-send-W : goal.lead-requires-send-W
lead-requires-send-W g c κs within = let b = c.requires.1.1.1.1 in let w = b.0 in let o = b.1 in search sendable

pub lead-requires-send-O : goal.lead-requires-send-O
lead-requires-send-O g c κs within = let b = c.requires.1.1.1.1 in let w = b.0 in let o = b.1 in search sendable
