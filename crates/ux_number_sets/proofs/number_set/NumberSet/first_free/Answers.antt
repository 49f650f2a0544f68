use Rattle.std.proofs.Common.{arith}
use Rattle.ux_number_sets.proofs.SetLaws.{set_length, in_at, first_free}
use Rattle.ux_number_sets.proofs.number_set.NumberSet.first_free.Goals as goal

pub returns-in_err-number : goal.returns-in_err-number
returns-in_err-number c =
    rw (c.from_residual.ensures, ← c.self.view_is)
    (λ i after low. let inside = rw set_length at low in
    in_at c.self.inside.words c.self.inside.capacity i inside (c.in_err-number.ensures i after (omega (arith, inside, c.self.invariant))))

pub returns-then-number-self : goal.returns-then-number-self
returns-then-number-self c = rw (← c.self.view_is)
    (first_free c.self.inside.words c.self.inside.capacity _ _ c.in_ok-number.ensures c.if-number-self.true)

pub returns-else-number-self : goal.returns-else-number-self
returns-else-number-self c =
    rw (← c.self.view_is) (λ i after low. let inside = rw set_length at low in
    in_at c.self.inside.words c.self.inside.capacity i inside
    (c.in_ok-number.ensures.before i after (omega (arith, inside, c.if-number-self.false))))
