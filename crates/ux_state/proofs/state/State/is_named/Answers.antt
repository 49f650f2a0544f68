use Rattle.std.proofs.Common.{◌<◌, length, arith, ap, sym, ◌∙◌}
use Rattle.std.specs.List.{list_any}
use Rattle.ux_model.specs.State.{State}
use Rattle.ux_model.specs.References.{path_names}
use Rattle.ux_state.proofs.Links.{any_link}
use Rattle.ux_state.proofs.state.State.is_named.Goals as goal

pub returns : goal.returns
returns g c =
    let inside : c.args.o < length c.self.inside.links.items =
    omega (arith, ap (λ S. length (State.objects S)) c.self.view_is, c.self.invariant.link_each, c.requires) in
    sym (any_link c.self.inside.paths.names c.self.inside.links.items c.args.o c.index.result.now inside c.index.ensures
    c.self.invariant.linked)
    ∙ ap (λ S. list_any (λ e. path_names c.args.o e.1) (State.paths S)) c.self.view_is
