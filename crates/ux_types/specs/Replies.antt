-- What a reply holds.
use Rattle.std.specs.Prelude.{Bool, true, false}
use Rattle.ux_types.specs.declared.replies.Reply.{Reply}

-- It holds bytes or a name, which a copy owns too, and not numbers alone.
abbrev pub has_parts : Reply → Bool
has_parts (Reply.Bytes bytes) = true
has_parts (Reply.Received flags count bytes control from) = true
has_parts (Reply.Accepted fd addr) = true
has_parts (Reply.Addr addr) = true
has_parts reply = false
