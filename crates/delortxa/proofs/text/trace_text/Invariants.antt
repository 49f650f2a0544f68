use Rattle.std.proofs.Common.{◌≡◌, take}
use Rattle.std.specs.String.{string_bytes}
use Rattle.ux_trace.specs.Trace.{trace}
use Rattle.delortxa.proofs.text.trace_text.Given as goal

abbrev pub invariant-loop-number : goal.invariant-loop-number
invariant-loop-number l = string_bytes l.text ≡ trace (take l.number l.entries)
