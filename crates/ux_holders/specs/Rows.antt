-- What a snapshot has of each thing.
use Rattle.std.specs.Prelude.{ℕ, Bool, List, Option}
use Rattle.ux_model.specs.Types.{Pid, Cred, Addr, SockType, Mode}
use Rattle.ux_holders.specs.declared.rows.NumberRow.{NumberRow}

pub record ProcessRow : Type 0 where
  pub pid : Pid
  -- its open numbers, rising
  pub numbers : List NumberRow

pub record MessageRow : Type 0 where
  -- the number of the call that sent it
  pub tag : ℕ
  -- how many of its bytes wait
  pub len : ℕ
  pub rights : List ℕ
  pub cred : Cred

pub record SocketRow : Type 0 where
  pub kind : SockType
  pub name : Addr
  pub peer : Option ℕ
  pub association : Option ℕ
  -- how many ends may wait, and those that do
  pub backlog : Option ℕ
  pub pending : List ℕ
  pub messages : List MessageRow
  pub passcred : Bool
  pub read_shut : Bool
  pub write_shut : Bool
  pub reset : Bool

pub data TargetRow : Type 0 where
  to_object : ℕ → TargetRow
  to_socket : SocketRow → TargetRow

pub record DescriptionRow : Type 0 where
  pub id : ℕ
  pub references : ℕ
  pub offset : ℕ
  pub mode : Mode
  pub append : Bool
  pub nonblock : Bool
  pub target : TargetRow
