use Rattle.std.proofs.Common.{◌<◌, ◌||◌, nat_lt, length, arith, ap, sym, ◌∙◌}
use Rattle.std.specs.List.{list_any}
use Rattle.std.proofs.lemmas.Bool.{lt-ltb, le-ltb, or_left}
use Rattle.ux_model.specs.State.{State}
use Rattle.ux_model.specs.References.{is_open_of}
use Rattle.ux_state.proofs.Orphans.{any_open}
use Rattle.ux_state.proofs.state.State.is_open.Goals as goal

pub returns-then-counts-gt0 : goal.returns-then-counts-gt0
returns-then-counts-gt0 g c =
    let inside : c.args.o < length c.self.inside.openings.items =
    omega (arith, ap (λ S. length (State.objects S)) c.self.view_is, c.self.invariant.one_each, c.requires) in
    let yes = lt-ltb 0 c.index-counts.result.now.readers c.if-counts-gt0.true in
    let found = any_open c.self.inside.descriptions.places c.self.inside.openings.items c.args.o c.index-counts.result.now inside
    c.index-counts.ensures c.self.invariant.opened in
    yes ∙ sym (or_left _ (nat_lt 0 c.index-counts.result.now.writers) yes) ∙ sym found
    ∙ ap (λ S. list_any (is_open_of c.args.o) (State.descriptions S)) c.self.view_is

pub returns-else-counts-gt0 : goal.returns-else-counts-gt0
returns-else-counts-gt0 g c =
    let inside : c.args.o < length c.self.inside.openings.items =
    omega (arith, ap (λ S. length (State.objects S)) c.self.view_is, c.self.invariant.one_each, c.requires) in
    let no = le-ltb 0 c.index-counts.result.now.readers c.if-counts-gt0.false in
    let found = any_open c.self.inside.descriptions.places c.self.inside.openings.items c.args.o c.index-counts.result.now inside
    c.index-counts.ensures c.self.invariant.opened in
    sym (ap (λ b. b || nat_lt 0 c.index-counts.result.now.writers) no) ∙ sym found
    ∙ ap (λ S. list_any (is_open_of c.args.o) (State.descriptions S)) c.self.view_is
