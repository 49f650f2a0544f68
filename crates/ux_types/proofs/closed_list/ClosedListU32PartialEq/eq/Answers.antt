use Rattle.std.proofs.Common.{◌≡◌, ◌++◌, ◌&&◌, ◌==◌, ℕ, Bool, List, refl, ap, sym, subst, ◌∙◌, arith}
use Rattle.std.specs.Cmp.Lexicographic.{pointwise}
use Rattle.ux_types.proofs.Joined.{joined_equal}
use Rattle.ux_types.proofs.closed_list.ClosedListU32PartialEq.eq.Goals as goal

pub returns-then-eq : goal.returns-then-eq
returns-then-eq g c =
    c.eq-then-eq.ensures
    ∙ ap (λ (b : Bool). b && pointwise ◌==◌ c.self.inside.more c.other.inside.more) (sym c.if-eq.true ∙ c.eq.ensures)
    ∙ joined_equal g.row.FEW c.self.inside.few.items c.self.inside.more c.other.inside.few.items c.other.inside.more
    c.self.invariant.0 c.other.invariant.0 c.self.invariant.1 c.other.invariant.1
    ∙ ap (λ (l : List ℕ). pointwise ◌==◌ l (c.other.inside.few.items ++ c.other.inside.more)) c.self.view_is
    ∙ ap (λ (l : List ℕ). pointwise ◌==◌ c.args.self.now l) c.other.view_is

pub returns-else-eq : goal.returns-else-eq
returns-else-eq g c =
    c.if-eq.false
    ∙ ap (λ (b : Bool). b && pointwise ◌==◌ c.self.inside.more c.other.inside.more) (sym c.if-eq.false ∙ c.eq.ensures)
    ∙ joined_equal g.row.FEW c.self.inside.few.items c.self.inside.more c.other.inside.few.items c.other.inside.more
    c.self.invariant.0 c.other.invariant.0 c.self.invariant.1 c.other.invariant.1
    ∙ ap (λ (l : List ℕ). pointwise ◌==◌ l (c.other.inside.few.items ++ c.other.inside.more)) c.self.view_is
    ∙ ap (λ (l : List ℕ). pointwise ◌==◌ c.args.self.now l) c.other.view_is
