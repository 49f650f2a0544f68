-- How many bytes a reply holds, at most, by its request and the limits.
use Rattle.std.specs.Prelude.{ℕ, ◌≤◌, ◌+◌, ◌*◌, min, length, Option, Some, None}
use Rattle.ux_model.specs.Types.{Addr, Request, Reply}
use Rattle.ux_model.specs.Limits.{name_limit, read_limit, rights_limit, greatest_queue_limit}
use Rattle.ux_model.specs.Control.{head_len, number_len, cred_space}

-- ---- what a reply holds

abbrev pub name_bytes : Addr → ℕ
name_bytes Addr.Unnamed = 0
name_bytes (Addr.Path name) = length name
name_bytes (Addr.Abstract name) = length name

abbrev pub sender_bytes : Option Addr → ℕ
sender_bytes None = 0
sender_bytes (Some addr) = name_bytes addr

-- bytes of data, of control and of a name
pub record Size : Type 0 where
  pub data_bytes : ℕ
  pub control : ℕ
  pub name : ℕ

abbrev pub no_bytes : Size
no_bytes = record { data_bytes = 0; control = 0; name = 0 }

unfoldable pub size_of : Reply → Size
size_of (Reply.Bytes bytes) = record no_bytes { data_bytes = length bytes }
size_of (Reply.Received flags count bytes control from) =
    record { data_bytes = length bytes; control = length control; name = sender_bytes from }
size_of (Reply.Accepted fd addr) = record no_bytes { name = name_bytes addr }
size_of (Reply.Addr addr) = record no_bytes { name = name_bytes addr }
size_of _ = no_bytes

-- ---- the room that is enough for it

-- credentials with their padding, and the most rights that a message passes
abbrev pub control_limit : ℕ
control_limit = cred_space + (head_len + number_len * rights_limit)

unfoldable pub room_for : Request → Size
room_for (Request.Read fd n) = record no_bytes { data_bytes = min read_limit n }
room_for (Request.RecvMsg fd n space flags) =
    record { data_bytes = min greatest_queue_limit n; control = min control_limit space; name = name_limit }
room_for (Request.Accept fd flags) = record no_bytes { name = name_limit }
room_for (Request.GetSockName fd) = record no_bytes { name = name_limit }
room_for (Request.GetPeerName fd) = record no_bytes { name = name_limit }
room_for _ = no_bytes

pub record Fits (size room : Size) : Type 0 where
  pub data_fits : size.data_bytes ≤ room.data_bytes
  pub control_fits : size.control ≤ room.control
  pub name_fits : size.name ≤ room.name
