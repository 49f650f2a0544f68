use Rattle.std.proofs.Common.{◌≡◌, ℕ, ◌+◌, ◌≤◌, List, ◌++◌, drop}
use Rattle.ux_syntax.specs.Spelling.{plan_of}
use Rattle.ux_syntax.specs.Results.{KnowsExits}
use Rattle.ux_syntax.specs.Continuing.{continued}
use Rattle.ux_syntax.proofs.progress.Progress.take_bytes.Given as goal

abbrev pub invariant-loop-byte : goal.invariant-loop-byte
invariant-loop-byte l =
    KnowsExits (plan_of l.self.reader.script) l.self.reader.exited.items
    × (l.self.number ≤ l.initial.self.number + l.byte-index)
    × ((rest : List ℕ) → continued (plan_of l.initial.self.reader.script) l.initial.self.number l.initial.self.line.items (l.bytes ++ rest)
    ≡ continued (plan_of l.self.reader.script) l.self.number l.self.line.items (drop l.byte-index l.bytes ++ rest))
