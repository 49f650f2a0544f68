use Rattle.ux_stream.proofs.Cuts.{reach_within, front_bytes, front_rights, front_origin, some_origin}
use Rattle.ux_stream.proofs.Showing.{front_cred, front_shows}
use Rattle.ux_stream.proofs.queue.StreamQueue.peek.Goals as goal

pub copy_rights-requires-clause-within : goal.copy_rights-requires-clause-within
copy_rights-requires-clause-within g c = reach_within _ _ _ _ c.reach_of-reach.ensures

pub returns-clause-shows : goal.returns-clause-shows
returns-clause-shows g c = rw (← c.self.view_is) (
    front_shows c.args.wants_cred c.args.n _ _
    (front_bytes _ _ _ _ _ _ c.reach_of-reach.ensures c.self.invariant c.in_ok-bytes.ensures.bytes)
    (front_rights _ _ _ _ _ _ c.reach_of-reach.ensures c.self.invariant c.in_ok-rights.ensures.rights)
    (front_origin _ _ _ _ _ _ c.reach_of-reach.ensures c.self.invariant c.in_ok-rights.ensures.origin)
    (front_cred c.args.wants_cred c.args.n c.reach_of-reach.result _ _ c.reach_of-reach.ensures)
    )

pub returns-clause-some_origin : goal.returns-clause-some_origin
returns-clause-some_origin g c = some_origin c.reach_of-reach.result.count c.self.inside.marks.items _ _ c.in_ok-rights.ensures.rights
    c.in_ok-rights.ensures.origin
