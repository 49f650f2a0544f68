use Rattle.std.proofs.Common.{◌≡◌, ℕ, length, true, refl, ap, sym, subst, ◌∙◌, arith}
use Rattle.ux_model.specs.State.{State, is_live}
use Rattle.ux_book.specs.Pasts.{Caller, calls_by, has_exit}
use Rattle.ux_book.specs.Books.{KeptHistory, state_of}
use Rattle.ux_book.specs.Recording.{Knows}
use Rattle.ux_book.proofs.Slips.{lives}
use Rattle.ux_book.proofs.book.Book.recognize.Goals as goal

pub returns-clause-live : goal.returns-clause-live
returns-clause-live g c =
    let book = c.self.invariant.0 in
    let share = c.share.invariant in
    let is_pid = share.1 in
    let within = c.check.ensures.given in
    let given = book.given in
    let at = ap (λ (U : State). length U.processes) book.at_replay in
    subst (λ (b : KeptHistory). is_live (state_of b) c.args.share.now.pid.0 ≡ true) c.self.view_is
    (subst (λ (x : Caller). is_live (state_of (record { boot = g.W.BookName.boot; entries = c.self.inside.trail.entries })) x.pid.0 ≡ true)
    c.share.view_is
    (lives g.W.BookName.boot c.self.inside.trail.entries c.share.inside.pid.0 book.legal share.3 (omega (arith, is_pid, within, given, at))
    (ap (λ (p : ℕ). has_exit (calls_by p c.self.inside.trail.entries)) (sym is_pid) ∙ ap has_exit (sym c.check.ensures.past) ∙ share.4)))

pub returns-clause-knows : goal.returns-clause-knows
returns-clause-knows g c =
    let boot = g.W.BookName.boot in
    let book : KeptHistory = record { boot = boot; entries = c.self.inside.trail.entries } in
    let exactly = ap (λ (p : ℕ). calls_by p c.self.inside.trail.entries) (sym c.share.invariant.1) ∙ sym c.check.ensures.past in
    subst (λ (b : KeptHistory). Knows boot b c.args.share.now) c.self.view_is
    (subst (Knows boot book) c.share.view_is (record { boot_is = refl; legal = c.self.invariant.0.legal; exactly = exactly }))
