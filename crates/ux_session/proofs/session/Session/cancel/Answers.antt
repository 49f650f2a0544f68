use Rattle.ux_session.specs.Sessions.{is_asked}
use Rattle.ux_session.proofs.Sounding.{session_without}
use Rattle.ux_session.proofs.session.Session.cancel.Goals as goal

pub invariant_of-self : goal.invariant_of-self
invariant_of-self g c =
    session_without c.self.inside.serial c.self.inside.calls.items c.drop_numbered.new.calls.items c.args.number
    (is_asked c.self.inside.order) c.self.inside.stalled c.drop_numbered.ensures c.self.invariant

pub returns-clause-held : goal.returns-clause-held
returns-clause-held g c =
    (session_without c.self.inside.serial c.self.inside.calls.items c.drop_numbered.new.calls.items c.args.number
    (is_asked c.self.inside.order) c.self.inside.stalled c.drop_numbered.ensures c.self.invariant).held
