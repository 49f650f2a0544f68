use Rattle.std.proofs.Common.{length, subst, arith}
use Rattle.ux_model.specs.State.{State}
use Rattle.ux_state.specs.Settling.{IsNextLook, NoOrphans}
use Rattle.ux_state.proofs.Orphans.{looks_next, looks_no_more, looks_at_none}
use Rattle.ux_state.proofs.state.State.next_look.Goals as goal

pub returns-in_default-clause-look : goal.returns-in_default-clause-look
returns-in_default-clause-look g c =
    subst (λ (S : State). NoOrphans S c.args.from (length S.objects)) c.self.view_is
    (looks_at_none _ _ _ _ c.self.invariant c.args.from c.in_default.ensures)

pub returns-then-o-len-clause-look : goal.returns-then-o-len-clause-look
returns-then-o-len-clause-look g c =
    subst (λ (S : State). IsNextLook S c.args.from c.in-Some.o) c.self.view_is
    (looks_next _ _ _ _ c.self.invariant c.args.from c.in-Some.o c.in-Some.ensures
    (omega (arith, c.if-o-len.true, c.len.ensures, c.self.inside.objects.ok.0)))

pub returns-else-o-len-clause-look : goal.returns-else-o-len-clause-look
returns-else-o-len-clause-look g c =
    subst (λ (S : State). NoOrphans S c.args.from (length S.objects)) c.self.view_is
    (looks_no_more _ _ _ _ c.self.invariant c.args.from c.in-Some.o c.in-Some.ensures
    (omega (arith, c.if-o-len.false, c.len.ensures, c.self.inside.objects.ok.0)))
