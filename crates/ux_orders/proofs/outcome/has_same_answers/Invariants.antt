use Rattle.std.proofs.Common.{◌≡◌, drop}
use Rattle.ux_orders.specs.Outcomes.{answers_of}
use Rattle.ux_orders.proofs.outcome.has_same_answers.Given as goal

-- what is left is alike exactly where all is
abbrev pub invariant-loop-entry : goal.invariant-loop-entry
invariant-loop-entry l =
    (answers_of l.pid (drop l.entry-index l.one) ≡ answers_of l.pid l.rest → answers_of l.pid l.one ≡ answers_of l.pid l.other)
    × (answers_of l.pid l.one ≡ answers_of l.pid l.other → answers_of l.pid (drop l.entry-index l.one) ≡ answers_of l.pid l.rest)
