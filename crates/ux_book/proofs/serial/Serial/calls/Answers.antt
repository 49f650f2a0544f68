use Rattle.std.proofs.Common.{Some, None, ap, subst, sym, ◌∙◌, ◌≡◌, ℕ, Option, List}
use Rattle.std.specs.Prelude.{if◌then◌else◌}
use Rattle.ux_model.specs.State.{is_live}
use Rattle.ux_model.specs.History.{calls_of}
use Rattle.ux_model.specs.Places.{place}
use Rattle.ux_book.specs.Books.{KeptHistory, state_of}
use Rattle.ux_book.specs.Pasts.{Caller}
use Rattle.ux_book.proofs.Sitting.{calls_told}
use Rattle.ux_book.proofs.serial.Serial.calls.Goals as goal

pub returns-in-Some : goal.returns-in-Some
returns-in-Some g c =
    let at = ap (λ (xs : List (Option Caller)). place xs c.args.pid.0) (sym c.deref.ensures.value) ∙ c.in-Some.ensures.some in
    ap (λ (n : ℕ). Some n) c.calls.ensures.count
    ∙ calls_told c.self.inside.book c.self.inside.shares.items c.args.pid.0 (Some c.in-Some.share.now) c.self.invariant at
    ∙ ap (λ (b : KeptHistory). if is_live (state_of b) c.args.pid.0 then Some (calls_of c.args.pid.0 b.entries) else None) c.self.view_is
