use Rattle.std.proofs.Common.{◌≡◌, [], ◌++◌, drop, ap, rules}
use Rattle.ux_replay.specs.Runs.{requests_of, asked}
use Rattle.ux_replay.proofs.script_calls.is_front.Goals as goal

-- what the process has not made yet is what it lacks
pub returns-in_default-next_of-clause-front : goal.returns-in_default-next_of-clause-front
returns-in_default-next_of-clause-front c =
    let pid = c.args.pid in
    let more = asked pid (drop c.loop-line.line-index c.args.lines.now) in
    let none : requests_of pid c.loop-line.rest.now ≡ [] = search rules in
    λ _. (more, c.loop-line.invariant.0 more (ap (λ t. t ++ more) none))
