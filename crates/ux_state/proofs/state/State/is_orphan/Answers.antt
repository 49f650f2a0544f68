use Rattle.std.proofs.Common.{not, ◌&&◌, ap, sym, ◌∙◌}
use Rattle.std.specs.List.{list_any}
use Rattle.ux_model.specs.References.{path_names}
use Rattle.ux_state.proofs.Orphans.{no_orefs}
use Rattle.ux_state.proofs.state.State.is_orphan.Goals as goal

pub returns-then-not-is_open : goal.returns-then-not-is_open
returns-then-not-is_open g c =
    sym (ap (λ b. not b && not c.is_named.result) c.if-not-is_open.true) ∙ (λ j. not (c.is_open.ensures j) && not (c.is_named.ensures j))
    ∙ no_orefs c.args.self.now c.args.o

pub returns-else-not-is_open : goal.returns-else-not-is_open
returns-else-not-is_open g c =
    ap not c.if-not-is_open.false ∙ sym (ap (λ b. not b && not (list_any (λ e. path_names c.args.o e.1) c.args.self.now.paths))
    c.if-not-is_open.false)
    ∙ (λ j. not (c.is_open.ensures j) && not (list_any (λ e. path_names c.args.o e.1) c.args.self.now.paths))
    ∙ no_orefs c.args.self.now c.args.o
