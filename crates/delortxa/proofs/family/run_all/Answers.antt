use Rattle.std.proofs.Common.{◌≡◌, length, rules}
use Rattle.std.specs.Prelude.{IfOk}
use Rattle.delortxa.specs.Promising.{Ended}
use Rattle.delortxa.proofs.Layers.{past_at, each_promises, both_ok}
use Rattle.delortxa.proofs.family.run_all.Goals as goal

pub map_vec-requires-after_bounds : goal.map_vec-requires-after_bounds
map_vec-requires-after_bounds g c κs within = λ i seat lt is. (past_at c.args.seats.items i seat c.requires.fresh lt is, search rules)

pub returns-clause-each : goal.returns-clause-each
returns-clause-each g c =
    let seats = c.args.seats.items in
    let long : IfOk c.map_vec.result (λ outputs. length outputs.items ≡ length seats) = search rules in
    both_ok c.map_vec.result _ _ _
    (λ outputs long each. each_promises (Ended (g.P.FamilyProgram.promise g.W.BookName.boot)) c.args.program.now seats outputs.items
    c.requires.fresh long
    (λ i d lt. let given = (each i d lt).1 in (given.job, given.job_read, given.call.met)))
    long c.map_vec.ensures.each
