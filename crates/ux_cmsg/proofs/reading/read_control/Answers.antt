use Rattle.std.proofs.Common.{arith, rules}
use Rattle.ux_model.specs.ControlReading.{control_of}
use Rattle.ux_cmsg.specs.Found.{parts_view}
use Rattle.ux_cmsg.proofs.Collecting.{has_bytes, read_spells, where_none, where_some}
use Rattle.ux_cmsg.proofs.reading.read_control.Goals as goal

pub returns-in_err-read_parts-clause-no_memory : goal.returns-in_err-read_parts-clause-no_memory
returns-in_err-read_parts-clause-no_memory g c =
    λ e. has_bytes c.args.bytes.now (control_of (parts_view c.in_ok-parts.parts)) (rw c.in_ok-parts.ensures.ok_part at c.read_items.ensures)
    (λ f. absurd (cc (c.in_err-read_parts.ensures.none f)))

pub returns-in_err-parts-clause-spells_none : goal.returns-in_err-parts-clause-spells_none
returns-in_err-parts-clause-spells_none g c =
    where_none c.args.bytes.now (λ i. omega (arith, c.type_inv.bytes i)) (search rules) (search rules)

pub returns-in_err-read_parts-clause-spells_none : goal.returns-in_err-read_parts-clause-spells_none
returns-in_err-read_parts-clause-spells_none g c =
    where_some c.args.bytes.now (control_of (parts_view c.in_ok-parts.parts))
    (λ i. omega (arith, c.type_inv.bytes i)) (rw c.in_ok-parts.ensures.ok_part at c.read_items.ensures)
    (λ e. search rules)

pub returns-clause-spelled : goal.returns-clause-spelled
returns-clause-spelled g c =
    read_spells c.args.bytes.now c.in_ok-read_parts.field-0 (λ i. omega (arith, c.type_inv.bytes i)) (search rules)

pub returns-clause-spells_none : goal.returns-clause-spells_none
returns-clause-spells_none g c =
    where_some c.args.bytes.now (control_of (parts_view c.in_ok-parts.parts))
    (λ i. omega (arith, c.type_inv.bytes i)) (rw c.in_ok-parts.ensures.ok_part at c.read_items.ensures)
    (λ e. cc e)
