use Rattle.std.proofs.Common.{◌≡◌, ℕ, Bool, Option}
use Rattle.ux_model.specs.Places.{place}
use Rattle.ux_audit.specs.Holdings.{AreListed}
use Rattle.ux_audit.proofs.held.list_row.Given as goal

abbrev pub invariant-loop-n : goal.invariant-loop-n
invariant-loop-n l = (flags : ℕ → ℕ → Option Bool) → ((n : ℕ) → flags l.pid n ≡ place l.row n) →
    AreListed flags l.pid 0 l.initial.held.items → AreListed flags l.pid l.n l.held.items
