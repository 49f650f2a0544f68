use Rattle.std.proofs.Common.{option_map, ap, sym, ◌∙◌, arith}
use Rattle.ux_model.specs.Types.{Fd}
use Rattle.ux_audit.proofs.Originating.{never_undelivered, never_later, never_unsent, origin_received, place_found, read_entry}
use Rattle.ux_audit.proofs.origin.received.Goals as goal

pub returns-in_default-clause-none : goal.returns-in_default-clause-none
returns-in_default-clause-none c = never_undelivered c.args.entries.now c.args.j c.args.fd.0 c.args.entry.now c.requires.at
    c.requires.receiving c.in_default.is

pub returns-then-sent-j-clause-none : goal.returns-then-sent-j-clause-none
returns-then-sent-j-clause-none c = never_later c.args.entries.now c.args.j c.args.fd.0 c.in-Some.tag c.args.entry.now c.requires.at
    c.requires.receiving c.in-Some.is c.if-sent-j.true

pub returns-in_default-3-clause-none : goal.returns-in_default-3-clause-none
returns-in_default-3-clause-none c =
    never_unsent c.args.entries.now c.args.j c.args.fd.0 c.in-Some.tag c.in-Some-2.place c.args.entry.now c.index-entries-sent.result
    c.requires.at c.requires.receiving c.in-Some.is
    (read_entry c.args.entries.now c.in-Some.tag c.index-entries-sent.result (omega arith) c.index-entries-sent.is)
    (place_found c.args.entry.now c.args.fd.0 c.in-Some-2.place c.in_ok-place.field-0 c.in-Some-2.is c.in_ok-place.ensures)
    (sym c.in_ok-right.ensures ∙ ap (option_map (λ (f : Fd). f.0)) c.in_default-3.is)

pub returns-clause-found : goal.returns-clause-found
returns-clause-found c =
    origin_received c.args.entries.now c.args.j c.args.fd.0 c.in-Some.tag c.in-Some-2.place c.in-Some-3.right.0 c.args.entry.now
    c.index-entries-sent.result c.requires.at c.requires.receiving c.in-Some.is c.if-sent-j.false
    (read_entry c.args.entries.now c.in-Some.tag c.index-entries-sent.result (omega arith) c.index-entries-sent.is)
    (place_found c.args.entry.now c.args.fd.0 c.in-Some-2.place c.in_ok-place.field-0 c.in-Some-2.is c.in_ok-place.ensures)
    (sym c.in_ok-right.ensures ∙ ap (option_map (λ (f : Fd). f.0)) c.in-Some-3.is)
