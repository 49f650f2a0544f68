use Rattle.std.proofs.Common.{◌∙◌, sym, arith, Some, None}
use Rattle.ux_model.specs.ControlReading.{control_of}
use Rattle.std.proofs.lemmas.Bool.{eqb-true}
use Rattle.std.proofs.lemmas.Grind.{common_steps}
use Rattle.std.proofs.lemmas.List.{nil_from_length}
use Rattle.ux_cmsg.specs.Found.{parts_view}
use Rattle.ux_cmsg.proofs.Collecting.{read_none, read_more, read_all, read_twice, read_stuck, read_is, less_left}
use Rattle.ux_cmsg.proofs.reading.read_items.Goals as goal

pub loop-rest-init : goal.loop-rest-init
loop-rest-init c = read_none c.args.bytes.now (λ i. omega (arith, c.type_inv.bytes i))

pub returns-in_err-item : goal.returns-in_err-item
returns-in_err-item c = rw c.from_residual.ensures
    (read_is c.args.bytes.now None (λ i. omega (arith, c.type_inv.bytes i))
    (read_stuck c.args.bytes.now c.loop-rest.rest.now (parts_view c.loop-rest.parts) c.loop-rest.invariant (grind (arith, common_steps))
    (sym c.in_err-item.ensures)))

pub returns-in_err-parts : goal.returns-in_err-parts
returns-in_err-parts c = rw c.from_residual-in_err-parts.ensures
    (read_is c.args.bytes.now None (λ i. omega (arith, c.type_inv.bytes i))
    (read_twice c.args.bytes.now c.loop-rest.rest.now _ (parts_view c.loop-rest.parts) _ c.loop-rest.invariant (sym c.in_ok-item.ensures)
    (sym c.in_err-parts.ensures)))

pub loop-rest-smaller : goal.loop-rest-smaller
loop-rest-smaller c = less_left c.args.bytes.now c.loop-rest.rest.now _ (parts_view c.loop-rest.parts) _ c.loop-rest.invariant
    (sym c.in_ok-item.ensures)

pub loop-rest-preserved : goal.loop-rest-preserved
loop-rest-preserved c = read_more c.args.bytes.now c.loop-rest.rest.now _ (parts_view c.loop-rest.parts) _ _ c.loop-rest.invariant
    (sym c.in_ok-item.ensures) (sym c.in_ok-parts.ensures)

pub returns : goal.returns
returns c = read_is c.args.bytes.now (Some (control_of (parts_view c.loop-rest.parts)))
    (λ i. omega (arith, c.type_inv.bytes i))
    (read_all c.args.bytes.now c.loop-rest.rest.now (parts_view c.loop-rest.parts) c.loop-rest.invariant
    (nil_from_length _ (eqb-true _ _ (sym c.is_empty.ensures ∙ c.loop-rest-test.false))))
