use Rattle.ux_stream.specs.Marks.{cut_by}
use Rattle.ux_stream.proofs.Cuts.{reach_within, reach_fits, queue_off, front_rights, front_origin, front_rest}
use Rattle.ux_stream.proofs.queue.StreamQueue.skip.Goals as goal

pub drop_front-requires : goal.drop_front-requires
drop_front-requires g c = reach_fits _ _ _ _ _ c.reach_of-reach.ensures c.self.invariant

pub take_bytes-rights-requires-clause-within : goal.take_bytes-rights-requires-clause-within
take_bytes-rights-requires-clause-within g c = reach_within _ _ _ _ c.reach_of-reach.ensures

pub invariant_of-self : goal.invariant_of-self
invariant_of-self g c = rw (c.take_bytes-rights.ensures.left, c.drop_front.ensures)
    (queue_off c.reach_of-reach.result.count c.self.inside.marks.items c.self.inside.ring.items c.self.invariant)

pub returns-clause-rights : goal.returns-clause-rights
returns-clause-rights g c = rw (← c.self.view_is)
    (front_rights _ _ _ _ _ _ c.reach_of-reach.ensures c.self.invariant c.take_bytes-rights.ensures.rights)

pub returns-clause-origin : goal.returns-clause-origin
returns-clause-origin g c = rw (← c.self.view_is)
    (front_origin _ _ _ _ _ _ c.reach_of-reach.ensures c.self.invariant c.take_bytes-rights.ensures.origin)

pub returns-clause-rest : goal.returns-clause-rest
returns-clause-rest g c = rw (← c.self.view_is)
    (front_rest _ _ _ _ _ _ c.reach_of-reach.ensures c.self.invariant
    (λ j. cut_by (c.take_bytes-rights.ensures.left j) (c.drop_front.ensures j)))
