-- A reply is as large as its request and the limits allow.
use Rattle.std.specs.Prelude.{List}
use Rattle.ux_model.specs.Types.{Entry}
use Rattle.ux_model.specs.State.{State}
use Rattle.ux_model.specs.Rooms.{size_of, room_for, Fits}
use Rattle.ux_model.specs.History.{MayFollow, IsLegal}

-- each call of a legal history is answered within the room that is enough for its request
abbrev pub RepliesFit : Type 0
RepliesFit =
    (boot : State) (entries : List Entry) (e : Entry) → IsLegal boot entries → MayFollow boot entries e →
    Fits (size_of e.reply) (room_for e.request)
