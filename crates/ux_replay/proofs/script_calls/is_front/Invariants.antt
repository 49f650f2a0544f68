use Rattle.std.proofs.Common.{◌≡◌, List, ◌++◌, drop}
use Rattle.ux_model.specs.Types.{Request}
use Rattle.ux_replay.specs.Runs.{asked, requests_of}
use Rattle.ux_replay.proofs.script_calls.is_front.Given as goal

-- what the calls that are left lack, all of them lack, and the other way round
abbrev pub invariant-loop-line : goal.invariant-loop-line
invariant-loop-line l =
    ((more : List Request) → requests_of l.pid l.rest ++ more ≡ asked l.pid (drop l.line-index l.lines) →
    requests_of l.pid l.entries ++ more ≡ asked l.pid l.lines)
    × ((more : List Request) → requests_of l.pid l.entries ++ more ≡ asked l.pid l.lines →
    requests_of l.pid l.rest ++ more ≡ asked l.pid (drop l.line-index l.lines))
