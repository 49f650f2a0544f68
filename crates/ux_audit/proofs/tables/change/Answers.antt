use Rattle.std.proofs.Common.{◌==◌, Bool, map, Option, Some, ap, ◌∙◌, if◌then◌else◌}
use Rattle.std.specs.List.{list_any}
use Rattle.ux_model.specs.Types.{Fd}
use Rattle.ux_model.specs.Places.{place}
use Rattle.ux_model.specs.Changes.{cloexec_of}
use Rattle.ux_audit.specs.Flags.{flag_at, flag_left, flag_own}
use Rattle.ux_audit.proofs.Rows.{flag_at-set, mark_at_read, OnOk_then}
use Rattle.ux_audit.proofs.tables.change.Goals as goal

pub returns-clause-flags : goal.returns-clause-flags
returns-clause-flags c = OnOk_then c.put_all.result c.put_all.ensures.flags (λ each q n.
    let e = c.args.entry.now in
    let numbers = map (λ (fd : Fd). fd.0) c.args.numbers.now in
    let mid = c.reach.new.tables.items in
    let old = c.args.tables.now.items in
    flag_at-set mid e.pid.0 q n c.put_all.new.row (flag_own e.request numbers n (flag_at old q n)) c.in_ok-reach.ensures.within
    (λ same. each n
    ∙ ap (λ (x : Bool). if list_any (λ m. m == n) numbers then Some x else place c.leave.new.row.items n) c.cloexec_of.ensures
    ∙ ap (λ (m : Option Bool). if list_any (λ m. m == n) numbers then Some (cloexec_of e.request) else m)
    (c.leave.ensures.flags n ∙ ap (flag_left e.request n)
    (mark_at_read mid e.pid.0 n c.index_mut-row.result.now c.in_ok-reach.ensures.within c.index_mut-row.ensures.value
    ∙ c.reach.ensures.same e.pid.0 n ∙ ap (λ p. flag_at old p n) same)))
    ∙ ap (λ (m : Option Bool). if e.pid.0 == q then flag_own e.request numbers n (flag_at old q n) else m) (c.reach.ensures.same q n))
