use Rattle.std.proofs.Common.{◌≡◌, ◌<◌, ◌+◌, ◌++◌, refl, ap, sym, subst, ◌∙◌, arith}
use Rattle.std.proofs.lemmas.Bool.{not-true, not-false}
use Rattle.ux_model.specs.Types.{Request}
use Rattle.ux_book.specs.Books.{KeptHistory}
use Rattle.ux_book.specs.Sitting.{MakesOne}
use Rattle.ux_syntax.specs.Spelling.{plan_of, known_count}
use Rattle.ux_syntax.specs.Turns.{call_lines}
use Rattle.ux_script.specs.Runs.{exits_of, Makes, Grows}
use Rattle.ux_script.proofs.Runs.{makes_more, makes_same, boot_kept, grows_then, grows_one, exit_known, exit_made, exit_there}
use Rattle.ux_script.proofs.run.make_exits.Goals as goal
use Rattle.ux_script.proofs.run.make_exits.Goals.{then-is_live+in_ok-exit, else-is_live}

pub loop-index-preserved : goal.loop-index-preserved
loop-index-preserved g c =
    let script = c.args.script.now in
    let lines = script.lines.items in
    let n = c.loop-index.index in
    let old = c.loop-index.serial in
    let so_far = c.loop-index.invariant.so_far in
    let made = call_lines lines ++ exits_of lines n in
    let inside : n < known_count (plan_of script) = omega (arith, c.loop-index-test.true, c.requires.count) in
    let known = c.is_live.ensures ∙ exit_known old script n so_far inside in
    elim c.if-is_live.branch [
      | then-is_live+in_ok-exit w ↦
          let one : MakesOne old w.exit.new.self (record { 0 = n + 1 }) Request.Exit =
          record { reply = _; answers = w.in_ok-exit.ensures.made } in
          record {
            so_far = subst (λ (h : KeptHistory). Makes h (plan_of script) (call_lines lines ++ exits_of lines (n + 1))) (sym w.serial-is)
                (makes_same _ script _ _ (exit_made lines made n (not-true _ (sym known ∙ w.if-is_live.true)) refl)
                (makes_more old w.exit.new.self script (record { 0 = n + 1 }) Request.Exit made one
                (let same = w.in_ok-exit.ensures.many in omega (arith, same)) so_far));
            same_boot = subst (λ (h : KeptHistory). h.boot ≡ c.args.serial.now.boot) (sym w.serial-is)
                (boot_kept old w.exit.new.self (record { 0 = n + 1 }) Request.Exit one ∙ c.loop-index.invariant.same_boot);
            grows = subst (λ (h : KeptHistory). Grows c.args.serial.now.entries h.entries) (sym w.serial-is)
                (grows_then _ _ _ c.loop-index.invariant.grows (grows_one old w.exit.new.self (record { 0 = n + 1 }) Request.Exit one));
          }
      | else-is_live w ↦ record {
        so_far = subst (λ (h : KeptHistory). Makes h (plan_of script) (call_lines lines ++ exits_of lines (n + 1))) (sym w.serial-is)
            (makes_same old script made _ (exit_there lines made n (not-false _ (sym known ∙ w.if-is_live.false)) refl) so_far);
        same_boot = subst (λ (h : KeptHistory). h.boot ≡ c.args.serial.now.boot) (sym w.serial-is) c.loop-index.invariant.same_boot;
        grows = subst (λ (h : KeptHistory). Grows c.args.serial.now.entries h.entries) (sym w.serial-is) c.loop-index.invariant.grows;
      }
    ]

pub returns-clause-made : goal.returns-clause-made
returns-clause-made g c =
    let script = c.args.script.now in
    let over : c.loop-index.index ≡ c.args.count = omega arith in
    makes_same c.loop-index.serial script _ _ (ap (λ m. call_lines script.lines.items ++ exits_of script.lines.items m) over)
    c.loop-index.invariant.so_far
