use Rattle.std.proofs.Common.{not, ◌&&◌, map, sym, ◌∙◌, ap}
use Rattle.ux_model.specs.Boot.{are_distinct}
use Rattle.ux_kernel.proofs.Boots.{distinct_front}
use Rattle.ux_kernel.proofs.boot.are_distinct.Goals as goal

pub returns-then-is_named : goal.returns-then-is_named
returns-then-is_named g c =
    let front = distinct_front c.loop-first.left.now c.in-Some.rest.now c.in-Some.first.now c.is_named.result c.in-Some.ensures.cases.0
    c.is_named.ensures in
    ap (λ b. not b && are_distinct (map (λ o. o.0) c.in-Some.rest.now)) (sym c.if-is_named.true) ∙ sym front ∙ c.loop-first.invariant

pub loop-first-preserved : goal.loop-first-preserved
loop-first-preserved g c =
    let front = distinct_front c.loop-first.left.now c.in-Some.rest.now c.in-Some.first.now c.is_named.result c.in-Some.ensures.cases.0
    c.is_named.ensures in
    ap (λ b. not b && are_distinct (map (λ o. o.0) c.in-Some.rest.now)) (sym c.if-is_named.false) ∙ sym front ∙ c.loop-first.invariant
