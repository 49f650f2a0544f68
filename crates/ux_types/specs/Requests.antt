-- What a request holds.
use Rattle.std.specs.Prelude.{Bool, true, false}
use Rattle.ux_types.specs.declared.requests.Request.{Request}

-- It holds a name, an address, bytes or a list, which a copy allocates, and not numbers alone.
abbrev pub has_parts : Request → Bool
has_parts (Request.Open path mode flags) = true
has_parts (Request.Create path mode flags) = true
has_parts (Request.Write fd bytes) = true
has_parts (Request.Unlink path) = true
has_parts (Request.Bind fd addr) = true
has_parts (Request.Connect fd addr) = true
has_parts (Request.SendMsg fd addr bytes control flags) = true
has_parts (Request.PollMany fds waits) = true
has_parts request = false
