-- What a keeper of entries has.
use Rattle.std.specs.Prelude.{◌≡◌, Option, Some, true, IsSomeAnd}
use Rattle.ux_types.specs.Requests.{has_parts}
use Rattle.ux_model.specs.Types.{Request}
use Rattle.ux_model.specs.Rooms.{Size, room_for, Fits}

-- a copy of the request where it holds more than numbers, and room for one of its reply
pub record IsReady (copy : Option Request) (kept : Option Size) (request : Request) : Type 0 where
  pub copied : has_parts request ≡ true → copy ≡ Some request
  pub room : IsSomeAnd kept (λ r. Fits (room_for request) r)
