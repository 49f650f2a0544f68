use Rattle.std.proofs.Common.{◌≡◌, ◌++◌}
use Rattle.ux_syntax.specs.Spelling.{plan_of}
use Rattle.ux_replay.specs.Runs.{requests_of, asked, ending}
use Rattle.ux_replay.proofs.Fronts.{same_behind}
use Rattle.ux_replay.proofs.script_calls.follows.Goals as goal

pub returns-in-Some : goal.returns-in-Some
returns-in-Some c =
    let pid = c.args.pid in
    let s = plan_of c.args.script.now in
    let e : asked pid s.lines ++ requests_of pid c.in-Some.rest.now ≡ requests_of pid c.args.entries.now =
    rw c.deref.ensures.value at c.in-Some.ensures.some in
    let same = same_behind (asked pid s.lines) (requests_of pid c.in-Some.rest.now) (ending s pid) (requests_of pid c.args.entries.now) e in
    (λ t. same.0 (c.ends.ensures.0 t), λ t. c.ends.ensures.1 (same.1 t))
