use Rattle.std.proofs.Common.{ap, sym, ◌∙◌, None}
use Rattle.ux_session.specs.Sessions.{Sessioned, is_asked, left_by}
use Rattle.ux_session.proofs.Sounding.{left_sound}
use Rattle.ux_session.proofs.Growing.{call_extends}
use Rattle.ux_session.proofs.session.Session.call.Goals as goal

pub go_on-requires : goal.go_on-requires
go_on-requires g c =
    let made = c.in_ok-make_call.ensures.made in
    left_sound c.self.inside.serial c.make_call.new.serial c.args.pid c.args.request.now made.reply c.self.inside.calls.items
    made.answers c.self.invariant.sound

pub returns-clause-behind : goal.returns-clause-behind
returns-clause-behind g c =
    let made = c.in_ok-make_call.ensures.made in
    call_extends c.args.self.now c.self.inside.serial c.make_call.new.serial c.go_on.new.serial c.args.pid c.args.request.now made.reply
    (is_asked c.self.inside.order) (left_by c.args.pid c.args.request.now c.self.inside.calls.items) c.go_on.new.calls.items
    c.entries-from.result.now None c.in_ok-answered.answered.items c.push_reserved.new.self.items c.go_on.new.answered.items
    (ap (λ (s : Sessioned). s.book) c.self.view_is) c.entries-from.ensures.entries made.answers c.in_ok-answered.ensures.items
    c.push_reserved.ensures.items c.go_on.ensures.wakes
