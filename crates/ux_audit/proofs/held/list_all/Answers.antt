use Rattle.std.proofs.Common.{◌∙◌, ap, sym, arith}
use Rattle.ux_model.specs.Places.{place}
use Rattle.ux_audit.specs.Flags.{flag_at}
use Rattle.ux_audit.proofs.Rows.{mark_at_read}
use Rattle.ux_audit.proofs.held.list_all.Goals as goal

pub loop-pid-preserved : goal.loop-pid-preserved
loop-pid-preserved c =
    let tables = c.args.tables.now in
    let row = c.index-tables-pid.result in
    c.in_ok-list_row.ensures (flag_at tables)
    (λ n. sym (mark_at_read tables c.loop-pid.pid n row (omega arith) c.index-tables-pid.is)
    ∙ sym (ap (λ xs. place xs n) c.as_slice.ensures.value)) c.loop-pid.invariant
