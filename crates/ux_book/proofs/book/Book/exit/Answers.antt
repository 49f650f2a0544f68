use Rattle.std.proofs.Common.{length, refl, ap, sym, ◌∙◌}
use Rattle.ux_model.specs.Types.{Request, Reply}
use Rattle.ux_book.specs.Trails.{Owned}
use Rattle.ux_book.proofs.Slips.{may_call_now, call_made}
use Rattle.ux_book.proofs.book.Book.exit.Goals as goal

pub append_last-requires-clause-call : goal.append_last-requires-clause-call
append_last-requires-clause-call g c =
    let parts = c.into_parts-k.ensures in
    may_call_now c.args.self.now c.recognize.new.self c.args.share
    (record { pid = c.into_parts-k.result.0; past = c.into_parts-k.result.2.past }) c.into_parts-k.result.1 Request.Exit
    c.recognize.ensures.live (sym c.recognize.ensures.knows.exactly) c.recognize.ensures.book
    ((λ j. record { pid = parts.pid j; past = parts.token.2 j }) ∙ c.recognize.ensures.share)
    (parts.count ∙ ap length (sym parts.token.2)) refl

pub returns : goal.returns
returns g c =
    let parts = c.into_parts-k.ensures in
    call_made g.W.BookName.boot c.args.self.now c.recognize.new.self c.append_last.new.self c.args.share
    (record { pid = c.into_parts-k.result.0; past = c.into_parts-k.result.2.past })
    (record { pid = c.into_parts-k.result.0; past = c.append_last.new.token.past })
    c.into_parts-k.result.1 Request.Exit Reply.Ok c.append_last.new.released c.recognize.ensures.book
    ((λ j. record { pid = parts.pid j; past = parts.token.2 j }) ∙ c.recognize.ensures.share)
    c.recognize.ensures.knows.boot_is c.recognize.ensures.knows.legal (sym c.recognize.ensures.knows.exactly)
    (parts.count ∙ ap length (sym parts.token.2))
    c.append_last.ensures.adds (ap (λ (t : Owned). record { pid = c.into_parts-k.result.0; past = t.past }) c.append_last.ensures.token)
    c.append_last.ensures.handed_out
