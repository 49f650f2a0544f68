-- What contracts see of a script's line.
use Rattle.ux_model.specs.Types.{Pid}
use Rattle.ux_syntax.specs.declared.script.Act.{Act}

-- its process, and what it asks for
pub record Line : Type 0 where
  pub pid : Pid
  pub act : Act
