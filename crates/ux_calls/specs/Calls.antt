-- What the functions that make requests choose for their callers.
use Rattle.std.specs.Prelude.{ℕ, ◌+◌, ◌*◌, ◌/◌}
use Rattle.ux_model.specs.Types.{OpenFlags, MsgFlags}
use Rattle.ux_model.specs.Control.{head_len, alignment}

-- no flag of a description or a descriptor
abbrev pub no_open_flags : OpenFlags
no_open_flags = record { 0 = 0 }

-- no flag of a message
abbrev pub no_msg_flags : MsgFlags
no_msg_flags = record { 0 = 0 }

-- how many bytes of control so many descriptors take (CMSG_SPACE of cmsg(3)): a head and their numbers, two to the alignment
abbrev pub rights_space : ℕ → ℕ
rights_space count = head_len + alignment * ((count + 1) / 2)
