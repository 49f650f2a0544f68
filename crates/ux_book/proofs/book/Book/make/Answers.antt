use Rattle.std.proofs.Common.{◌≡◌, ◌+◌, ◌++◌, ◌∷◌, [], ℕ, true, length, map, ap, sym, subst, ◌∙◌, arith}
use Rattle.std.proofs.lemmas.Bool.{false≢true, or_parts}
use Rattle.std.proofs.lemmas.List.{length-append}
use Rattle.ux_model.specs.Types.{Entry}
use Rattle.ux_model.specs.History.{is_exit, is_off}
use Rattle.ux_model.specs.Waiting.{may_wait, should_wait}
use Rattle.ux_book.specs.Pasts.{Caller, has_exit}
use Rattle.ux_book.specs.Books.{KeptHistory, state_of, entry_of}
use Rattle.ux_book.specs.Receipts.{IsSlip}
use Rattle.ux_book.specs.Trails.{Owned, Placed}
use Rattle.ux_book.proofs.Pasts.{exit_push}
use Rattle.ux_book.proofs.Slips.{may_call_now, call_made, not_yet, slip}
use Rattle.ux_book.proofs.Appending.{not_off}
use Rattle.ux_book.proofs.book.Book.make.Goals.{then-tried, else-tried}
use Rattle.ux_book.proofs.book.Book.make.Goals as goal

pub append-requires-clause-call : goal.append-requires-clause-call
append-requires-clause-call g c =
    may_call_now c.args.self.now c.recognize.new.self c.args.share.now
    (record { pid = c.share.inside.pid; past = c.share.inside.token.past }) c.share.inside.k c.args.request.now
    c.recognize.ensures.live (sym c.recognize.ensures.knows.exactly) c.recognize.ensures.book (c.share.view_is ∙ c.recognize.ensures.share)
    c.share.invariant.2 (not_off c.args.request.now c.requires.call)

pub new_receipt-requires-clause-slip : goal.new_receipt-requires-clause-slip
new_receipt-requires-clause-slip g c =
    let made = rw c.in-Some.is at c.in_ok-reply.ensures.appended in
    let number = c.entry_count-number.ensures in
    let e : Entry = entry_of (state_of c.recognize.new.self) c.share.inside.pid c.share.inside.k c.args.request.now c.in-Some.reply
    (map (λ o. o.0) c.append.new.released) in
    let looked : c.args.tried ≡ true → c.if-tried.waits ≡ may_wait (state_of c.recognize.new.self) c.share.inside.pid.0 c.args.request.now =
    elim c.if-tried.branch [
      | then-tried w ↦ λ t. w.waits-is ∙ w.may_wait-waits.ensures
      | else-tried w ↦ λ t. absurd (false≢true (sym w.if-tried.false ∙ t))
    ] in
    let done = not_yet (state_of c.recognize.new.self) c.share.inside.pid.0 c.args.request.now c.in-Some.reply c.if-tried.waits c.args.tried
    looked (rw c.in-Some.is at c.in_ok-reply.ensures.done) in
    subst (λ (n : ℕ). IsSlip g.W.BookName.boot (record { number = n; entry = c.in-Some.place.entry; tried = c.args.tried }))
    (sym number.count)
    (subst (λ (x : Entry). IsSlip g.W.BookName.boot
    (record { number = length c.recognize.new.self.entries; entry = x; tried = c.args.tried }))
    (ap (λ (m : Placed). m.entry) (sym made.place_is))
    (slip e c.args.tried number.boot number.legal made.adds done))

pub invariant_of-share-2 : goal.invariant_of-share-2
invariant_of-share-2 g c =
    let made = rw c.in-Some.is at c.in_ok-reply.ensures.appended in
    let was = c.share.invariant in
    let past : c.append.new.token.past ≡ c.share.inside.token.past ++ record { request = c.args.request.now; reply = c.in-Some.reply } ∷
    [] = ap (λ (t : Owned). t.past) made.token in
    let long : length c.append.new.token.past ≡ length c.share.inside.token.past + 1 = ap length past
    ∙ length-append c.share.inside.token.past _ in
    let count = was.2 in (
      ap (λ (t : Owned). t.id) made.token ∙ was.0,
      ap (λ (t : Owned). t.pid) made.token ∙ was.1,
      omega (arith, long, count),
      was.3,
      ap has_exit past ∙ exit_push c.share.inside.token.past (record { request = c.args.request.now; reply = c.in-Some.reply }) was.4
          (or_parts (is_exit c.args.request.now) (is_off c.args.request.now) c.requires.call).0,
    )

pub returns-clause-call : goal.returns-clause-call
returns-clause-call g c =
    let made = rw c.in-Some.is at c.in_ok-reply.ensures.appended in
    call_made g.W.BookName.boot c.args.self.now c.recognize.new.self c.append.new.self c.args.share.now
    (record { pid = c.share.inside.pid; past = c.share.inside.token.past })
    (record { pid = c.share.inside.pid; past = c.append.new.token.past })
    c.share.inside.k c.args.request.now c.in-Some.reply c.append.new.released c.recognize.ensures.book
    (c.share.view_is ∙ c.recognize.ensures.share) c.recognize.ensures.knows.boot_is c.recognize.ensures.knows.legal
    (sym c.recognize.ensures.knows.exactly) c.share.invariant.2
    made.adds (ap (λ (t : Owned). record { pid = c.share.inside.pid; past = t.past }) made.token) made.handed_out

pub returns-clause-done : goal.returns-clause-done
returns-clause-done g c =
    let looked : c.args.tried ≡ true → c.if-tried.waits ≡ may_wait (state_of c.recognize.new.self) c.share.inside.pid.0 c.args.request.now =
    elim c.if-tried.branch [
      | then-tried w ↦ λ t. w.waits-is ∙ w.may_wait-waits.ensures
      | else-tried w ↦ λ t. absurd (false≢true (sym w.if-tried.false ∙ t))
    ] in
    let done = not_yet (state_of c.recognize.new.self) c.share.inside.pid.0 c.args.request.now c.in-Some.reply c.if-tried.waits c.args.tried
    looked (rw c.in-Some.is at c.in_ok-reply.ensures.done) in
    λ t. ap (λ (b : KeptHistory). should_wait (state_of b) c.args.share.now.pid.0 c.args.request.now c.in-Some.reply)
    (sym c.recognize.ensures.book)
    ∙ ap (λ (x : Caller). should_wait (state_of c.recognize.new.self) x.pid.0 c.args.request.now c.in-Some.reply)
    (sym (c.share.view_is ∙ c.recognize.ensures.share))
    ∙ done t
