-- The entry at which a replay stopped.
use Rattle.std.specs.Prelude.{ℕ}
use Rattle.ux_replay.specs.declared.check.ReplayFault.{ReplayFault}
use Rattle.ux_replay.specs.declared.check.ReplayFault.TheVariants.{Differs, NoMemory}

abbrev pub entry_at : ReplayFault → ℕ
entry_at (Differs n) = n
entry_at (NoMemory n) = n
