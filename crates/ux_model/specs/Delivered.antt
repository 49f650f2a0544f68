-- Which rights a receive delivers, at which numbers, and of which message (recvmsg(2), unix(7)).
use Rattle.std.specs.Prelude.{ℕ, ◌==◌, if◌then◌else◌, List, [], ◌∷◌, length, Option, None, option_map, Ok, Err}
use Rattle.ux_model.specs.Types.{Request, Reply}
use Rattle.ux_model.specs.Message.{Message}
use Rattle.ux_model.specs.Stream.{Origin}
use Rattle.ux_model.specs.Front.{Front, front_of}
use Rattle.ux_model.specs.Delivery.{delivery}
use Rattle.ux_model.specs.Socket.{Socket}
use Rattle.ux_model.specs.Process.{Descriptor}
use Rattle.ux_model.specs.State.{State, table_of}
use Rattle.ux_model.specs.Outcome.{find_socket}

-- The rights that come with the first bytes of a queue, the send that they are of, and the numbers that the first of them get.
pub record Brought : Type 0 where
  pub rights : List ℕ
  pub origin : Option Origin
  pub numbers : List ℕ

abbrev pub nothing_brought : Brought
nothing_brought = record { rights = []; origin = None; numbers = [] }

-- by what a receive takes of the queue of a socket, with this control space, to a process with this table
abbrev pub brought_by : Socket → ℕ → List (Option Descriptor) → Front → Brought
brought_by s space table front = record {
  rights = front.rights;
  origin = front.origin;
  numbers = (delivery s.passcred front.cred front.rights space table).numbers;
}

abbrev pub brought_from : Socket → ℕ → ℕ → List (Option Descriptor) → List Message → Brought
brought_from s n space table [] = nothing_brought
brought_from s n space table (m ∷ ms) = brought_by s space table (front_of n s m ms)

-- to process p by this request, where it isn't refused
abbrev pub brought : State → ℕ → Request → Brought
brought S p (Request.RecvMsg fd n space flags) = elim (find_socket S p fd) [
  | Err e ↦ nothing_brought
  | Ok found ↦ brought_from found.1 n space (table_of S p) found.1.queue
]
brought S p _ = nothing_brought

-- the number of the call that sent what was brought, where at least one right got a number
abbrev pub tag_of : Brought → Option ℕ
tag_of b = if length b.numbers == 0 then None else option_map (λ (o : Origin). o.tag) b.origin

-- The same by a reply, which reports that something was received or not. A peek installs rights too; and where a receive joins the bytes of
-- several messages of a stream, the tag is that of the one whose rights came along.
abbrev pub told_of : Brought → Reply → Option ℕ
told_of b (Reply.Received flags count bytes control from) = tag_of b
told_of b _ = None

-- the tag of the message of which the call that gave this reply installed at least one right
abbrev pub delivered_by : State → ℕ → Request → Reply → Option ℕ
delivered_by S p (Request.RecvMsg fd n space flags) reply = told_of (brought S p (Request.RecvMsg fd n space flags)) reply
delivered_by S p _ reply = None
