-- How the queue keeps its messages. No public clause cites this module.
use Rattle.std.specs.Prelude.{◌≡◌, ◌≤◌, ℕ, List, length}
use Rattle.ux_model.specs.Limits.{record_limit}
use Rattle.ux_model.specs.Message.{Message, queued_bytes}

-- there are no more than may be, and so many are their bytes
pub record IsCounted (records : List Message) (bytes : ℕ) : Type 0 where
  pub few : length records ≤ record_limit
  pub counted : bytes ≡ queued_bytes records
