use Rattle.std.proofs.Common.{sym, ◌∙◌}
use Rattle.ux_script_names.proofs.Parts.{begun}
use Rattle.ux_script_names.proofs.words.put_each.Goals as goal

pub loop-part-init : goal.loop-part-init
loop-part-init g c = begun c.args.separator (g.S.Standing.stands c.args.standing.now) c.args.text.now _ _ _ _ _
    c.in_ok-parts.ensures (sym c.deref.ensures.value ∙ c.in-Some.ensures.cases.0) c.in_ok-put.ensures
