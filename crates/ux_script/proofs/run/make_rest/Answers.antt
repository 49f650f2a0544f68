use Rattle.std.proofs.Common.{◌++◌, ◌∙◌, arith}
use Rattle.std.proofs.lemmas.Result.{err_from_is_err_and}
use Rattle.ux_model.specs.Types.{Request}
use Rattle.ux_syntax.specs.Turns.{call_lines}
use Rattle.ux_script.specs.Runs.{exits_of}
use Rattle.ux_script.proofs.Runs.{all_known, makes_more, makes_same, boot_kept, grows_then, grows_one, without_end, with_end}
use Rattle.ux_script.proofs.Runs.{no_stranger_ends, ok_then, ok_both, err_then}
use Rattle.ux_script.proofs.run.make_rest.Goals as goal

pub make_exits-requires-clause-count : goal.make_exits-requires-clause-count
make_exits-requires-clause-count g c = all_known _ c.args.script.now _ c.process_count-count.ensures.count c.requires

pub returns-in_err-make_exits-clause-stranger : goal.returns-in_err-make_exits-clause-stranger
returns-in_err-make_exits-clause-stranger g c =
    let p = err_from_is_err_and c.from_residual.result c.from_residual.ensures.1 in
    rw (p.1, p.2) (λ stranger orderly. c.in_err-make_exits.ensures.stranger stranger)

pub returns-then-not-script-clause-made : goal.returns-then-not-script-clause-made
returns-then-not-script-clause-made g c =
    let script = c.args.script.now in
    makes_same c.make_exits.new.serial script _ _
    (without_end script c.process_count-count.result (all_known _ script _ c.process_count-count.ensures.count c.requires)
    c.if-not-script.true) c.in_ok-make_exits.ensures.made

pub returns-clause-made : goal.returns-clause-made
returns-clause-made g c =
    let script = c.args.script.now in
    ok_both c.end.result
    (λ one. makes_same c.end.new.serial script _ _
    (with_end script c.process_count-count.result (all_known _ script _ c.process_count-count.ensures.count c.requires)
    c.if-not-script.false)
    (makes_more c.make_exits.new.serial c.end.new.serial script (record { 0 = 0 }) Request.Off
    (call_lines script.lines.items ++ exits_of script.lines.items c.process_count-count.result) one.0
    (let same = one.1 in omega (arith, same)) c.in_ok-make_exits.ensures.made))
    c.end.ensures.entry c.end.ensures.made

pub returns-clause-boot : goal.returns-clause-boot
returns-clause-boot g c =
    ok_then c.end.result
    (λ one. boot_kept c.make_exits.new.serial c.end.new.serial (record { 0 = 0 }) Request.Off one ∙ c.in_ok-make_exits.ensures.boot)
    c.end.ensures.entry

pub returns-clause-stranger : goal.returns-clause-stranger
returns-clause-stranger g c =
    err_then c.end.result
    (λ refused f stranger orderly. no_stranger_ends c.make_exits.new.serial c.args.script.now c.process_count-count.result orderly
    (all_known _ c.args.script.now _ c.process_count-count.ensures.count c.requires) c.in_ok-make_exits.ensures.made refused)
    c.end.ensures.stranger

pub returns-clause-grows : goal.returns-clause-grows
returns-clause-grows g c =
    ok_then c.end.result
    (λ one. grows_then _ _ _ c.in_ok-make_exits.ensures.grows
    (grows_one c.make_exits.new.serial c.end.new.serial (record { 0 = 0 }) Request.Off one))
    c.end.ensures.entry
