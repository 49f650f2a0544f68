use Rattle.std.proofs.Common.{◌≡◌, true, is_some, nat_lt, ap, ◌∙◌}
use Rattle.ux_model.specs.Places.{place}
use Rattle.ux_model.specs.Flags.{can_read}
use Rattle.ux_model.specs.State.{State}
use Rattle.ux_model.specs.FileObjects.{is_open_for}
use Rattle.ux_state.proofs.Found.{readers_there}
use Rattle.ux_state.proofs.state.State.has_reader.Goals as goal

pub returns : goal.returns
returns g c =
    let held : is_some (place c.self.inside.objects.items c.args.number) ≡ true =
    ap (λ S. is_some (place (State.objects S) c.args.number)) c.self.view_is ∙ c.requires in
    ap (nat_lt 0) (readers_there _ _ _ _ c.args.number c.index-counts.result.now c.self.invariant held c.index-counts.ensures)
    ∙ ap (λ S. is_open_for can_read S c.args.number) c.self.view_is
