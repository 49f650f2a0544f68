use Rattle.std.proofs.Common.{◌≡◌, true, ◌<◌, ◌+◌, take, length, ap, sym, subst, ◌∙◌}
use Rattle.std.proofs.lemmas.Bool.{false≢true}
use Rattle.std.proofs.lemmas.Result.{err_from_is_err_and}
use Rattle.ux_model.specs.State.{is_live}
use Rattle.ux_book.specs.Books.{KeptHistory, state_of}
use Rattle.ux_model.specs.Types.{Pid}
use Rattle.ux_syntax.specs.Lines.{Line}
use Rattle.ux_syntax.specs.Spelling.{plan_of}
use Rattle.ux_syntax.specs.Turns.{call_lines}
use Rattle.ux_script.specs.Runs.{Makes, Grows}
use Rattle.ux_book.specs.Sitting.{MakesOne}
use Rattle.ux_script.proofs.Runs.{makes_more, makes_same, boot_kept, grows_then, grows_one, call_made, wait_passed, no_stranger}
use Rattle.ux_script.proofs.run.make_calls.Goals as goal
use Rattle.ux_script.proofs.run.make_calls.Goals.{in-Call+in_ok-make_call-in-Call, in-Wait}

pub loop-index-preserved : goal.loop-index-preserved
loop-index-preserved g c =
    let script = c.args.script.now in
    let lines = script.lines.items in
    let i = c.loop-index.index in
    let line = c.index-lines-index.result in
    let old = c.loop-index.serial in
    let inside : i < length lines = rw c.as_slice-lines.ensures.value at c.loop-index-test.true in
    let item = rw c.as_slice-lines.ensures.value at c.index-lines-index.is in
    let act_is : line.act ≡ c.line.inside.act = ap (λ (l : Line). l.act) (sym c.line.view_is) in
    let pid_is : c.line.inside.pid ≡ line.pid = ap (λ (l : Line). l.pid) c.line.view_is in
    elim c.match-line.branch [
      | in-Call+in_ok-make_call-in-Call w ↦
          let request = w.in-Call.request in
          let one = subst (λ (pid : Pid). MakesOne old w.make_call.new.serial pid request) pid_is w.in_ok-make_call-in-Call.ensures.entry in
          record {
            so_far = subst (λ (h : KeptHistory). Makes h (plan_of script) (call_lines (take (i + 1) lines))) (sym w.serial-is)
                (makes_same _ script _ _ (call_made lines i line request inside item (act_is ∙ w.in-Call.is))
                (makes_more old w.make_call.new.serial script line.pid request (call_lines (take i lines)) one
                w.in_ok-make_call-in-Call.ensures.made c.loop-index.invariant.so_far));
            same_boot = subst (λ (h : KeptHistory). h.boot ≡ c.args.serial.now.boot) (sym w.serial-is)
                (boot_kept old w.make_call.new.serial line.pid request one ∙ c.loop-index.invariant.same_boot);
            grows = subst (λ (h : KeptHistory). Grows c.args.serial.now.entries h.entries) (sym w.serial-is)
                (grows_then _ _ _ c.loop-index.invariant.grows (grows_one old w.make_call.new.serial line.pid request one));
          }
      | in-Wait w ↦ record {
        so_far = subst (λ (h : KeptHistory). Makes h (plan_of script) (call_lines (take (i + 1) lines))) (sym w.serial-is)
            (makes_same old script _ _ (wait_passed lines i line _ _ inside item (act_is ∙ w.in-Wait.is)) c.loop-index.invariant.so_far);
        same_boot = subst (λ (h : KeptHistory). h.boot ≡ c.args.serial.now.boot) (sym w.serial-is) c.loop-index.invariant.same_boot;
        grows = subst (λ (h : KeptHistory). Grows c.args.serial.now.entries h.entries) (sym w.serial-is) c.loop-index.invariant.grows;
      }
    ]

-- the process of a call of an orderly script lives when it is that line's turn
pub returns-in_err-make_call-in-Call-clause-stranger : goal.returns-in_err-make_call-in-Call-clause-stranger
returns-in_err-make_call-in-Call-clause-stranger g c =
    let script = c.args.script.now in
    let i = c.loop-index.index in
    let line = c.index-lines-index.result in
    let request = c.in-Call.request in
    let inside : i < length script.lines.items = rw c.as_slice-lines.ensures.value at c.loop-index-test.true in
    let item = rw c.as_slice-lines.ensures.value at c.index-lines-index.is in
    let p = err_from_is_err_and c.from_residual.result c.from_residual.ensures.1 in
    rw (p.1, p.2) (λ stranger orderly.
    let here = no_stranger c.loop-index.serial script i line request orderly c.loop-index.invariant.so_far inside item
    (ap (λ (l : Line). l.act) (sym c.line.view_is) ∙ c.in-Call.is) in
    let lives = subst (λ (l : Line). is_live (state_of c.loop-index.serial) l.pid.0 ≡ true) (sym c.line.view_is) here.1 in
    false≢true (sym (c.in_err-make_call-in-Call.ensures.stranger stranger here.0) ∙ lives))
