use Rattle.std.proofs.Common.{◌≡◌, List, ◌++◌, drop}
use Rattle.ux_model.specs.Types.{Request}
use Rattle.ux_replay.specs.Runs.{asked, requests_of}
use Rattle.ux_replay.proofs.script_calls.behind.Given as goal

-- what follows the calls that are left follows all of them, and the other way round
abbrev pub invariant-loop-line : goal.invariant-loop-line
invariant-loop-line l =
    ((more : List Request) → asked l.pid (drop l.line-index l.lines) ++ more ≡ requests_of l.pid l.rest →
    asked l.pid l.lines ++ more ≡ requests_of l.pid l.entries)
    × ((more : List Request) → asked l.pid l.lines ++ more ≡ requests_of l.pid l.entries →
    asked l.pid (drop l.line-index l.lines) ++ more ≡ requests_of l.pid l.rest)
