use Rattle.std.proofs.Common.{ap, sym, subst, ◌∙◌, not, List, Some}
use Rattle.std.specs.List.{All}
use Rattle.ux_session.specs.declared.pending.Pending.{Pending}
use Rattle.ux_session.specs.Sessions.{Sessioned, IsSound, is_asked, left_by}
use Rattle.ux_session.specs.Going.{desk, WakesMore}
use Rattle.ux_session.proofs.Sounding.{left_sound}
use Rattle.ux_session.proofs.Growing.{call_extends, pends_now}
use Rattle.ux_session.proofs.session.Session.pend.Goals as goal

pub go_on-requires : goal.go_on-requires
go_on-requires g c =
    let made = c.in_ok-make_or_wait.ensures.made c.if-not-branch.false in
    subst (λ (l : List Pending). All (IsSound c.make_or_wait.new.serial) (left_by c.args.call.pid c.args.call.request l))
    (sym c.reserve.ensures.items)
    (left_sound c.self.inside.serial c.make_or_wait.new.serial c.args.call.pid c.args.call.request made.reply c.self.inside.calls.items
    made.answers c.self.invariant.sound)

pub returns-clause-made : goal.returns-clause-made
returns-clause-made g c =
    let seen : Sessioned = record {
      book = c.self.inside.serial;
      pending = c.self.inside.calls.items;
      asked = is_asked c.self.inside.order;
      stalled = c.self.inside.stalled;
    } in
    let left : Sessioned = record {
      book = c.go_on.new.serial;
      pending = c.go_on.new.calls.items;
      asked = is_asked c.go_on.new.order;
      stalled = not c.go_on.result;
    } in
    pends_now c.args.self.now seen left c.make_or_wait.new.serial c.args.call c.in_ok-answered.answered.items
    c.push_reserved-2.new.self.items c.go_on.new.answered.items c.self.view_is
    (c.in_ok-make_or_wait.ensures.made c.if-not-branch.false) c.in_ok-answered.ensures.items c.push_reserved-2.ensures.items
    (subst (λ (l : List Pending). WakesMore (is_asked c.self.inside.order)
    (desk c.make_or_wait.new.serial (left_by c.args.call.pid c.args.call.request l)) c.push_reserved-2.new.self.items
    (desk c.go_on.new.serial c.go_on.new.calls.items) c.go_on.new.answered.items) c.reserve.ensures.items c.go_on.ensures.wakes)
    c.go_on.ensures.order

pub returns-clause-behind : goal.returns-clause-behind
returns-clause-behind g c =
    let made = c.in_ok-make_or_wait.ensures.made c.if-not-branch.false in
    call_extends c.args.self.now c.self.inside.serial c.make_or_wait.new.serial c.go_on.new.serial c.args.call.pid c.args.call.request
    made.reply (is_asked c.self.inside.order) (left_by c.args.call.pid c.args.call.request c.reserve.new.self.items)
    c.go_on.new.calls.items c.entries-from.result.now (Some c.args.call.number) c.in_ok-answered.answered.items
    c.push_reserved-2.new.self.items c.go_on.new.answered.items (ap (λ (s : Sessioned). s.book) c.self.view_is)
    c.entries-from.ensures.entries made.answers c.in_ok-answered.ensures.items c.push_reserved-2.ensures.items c.go_on.ensures.wakes
