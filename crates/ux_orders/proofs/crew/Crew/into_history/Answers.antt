use Rattle.std.proofs.Common.{◌≡◌, List, sym, ap, ◌∙◌}
use Rattle.ux_model.specs.Types.{Entry}
use Rattle.ux_book.specs.Books.{KeptHistory}
use Rattle.ux_orders.specs.Threads.{calls_in}
use Rattle.ux_orders.specs.Crews.{Crewed}
use Rattle.ux_orders.proofs.Crewing.{ended_calls, on_ok}
use Rattle.ux_orders.proofs.Threads.{all_processes}
use Rattle.ux_orders.proofs.crew.Crew.into_history.Goals.{else-off-via-then-off+else-is_err, else-off-via-else-off}
use Rattle.ux_orders.proofs.crew.Crew.into_history.Goals as goal

pub returns-clause-calls : goal.returns-clause-calls
returns-clause-calls g c =
    let old = c.self.inside.serial in
    let lines = c.self.inside.lines.now in
    let calls : calls_in c.else-off.serial.entries ≡ old.entries = elim c.else-off.branch [
      | else-off-via-then-off+else-is_err w ↦ ap (λ (b : KeptHistory). calls_in b.entries) w.serial-is
          ∙ ended_calls old w.off.new.self lines c.self.invariant.threaded
          (on_ok w.off.result (sym w.is_err.ensures.value ∙ w.if-is_err.false) w.off.ensures.made)
      | else-off-via-else-off w ↦ ap (λ (b : KeptHistory). calls_in b.entries) w.serial-is
          ∙ all_processes c.self.invariant.threaded
    ] in
    ap (λ (es : List Entry). calls_in es) c.into_entries.ensures.entries ∙ calls ∙ ap (λ (v : Crewed). v.book.entries) c.self.view_is
