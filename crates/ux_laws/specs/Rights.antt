-- Rights come with their message, once (unix(7), SCM_RIGHTS; cmsg(3)).
use Rattle.std.specs.Prelude.{◌≡◌, ℕ, suc, ◌+◌, ◌<◌, ◌≤◌, Bool, true, false, nat_lt, List, [], length, take, Option, Some}
use Rattle.std.specs.List.{slice_get}
use Rattle.ux_model.specs.Types.{Fd, Addr, MsgFlags, Request, Reply, Entry}
use Rattle.ux_model.specs.Message.{Message, queued_bytes}
use Rattle.ux_model.specs.Control.{head_len, number_len}
use Rattle.ux_model.specs.Socket.{Socket, is_stream}
use Rattle.ux_model.specs.State.{State}
use Rattle.ux_model.specs.History.{IsLegal}
use Rattle.ux_model.specs.Changes.{sources}
use Rattle.ux_model.specs.Pedigree.{before}
use Rattle.ux_model.specs.PedigreeLaws.{WasSentNothing}
use Rattle.ux_laws.specs.Talking.{is_peek, socket_through}

-- ---- once

-- Call i installed rights of the message that call tag sent, and isn't a peek.
pub record TakesRights (entries : List Entry) (i tag : ℕ) : Type 0 where
  pub call : Entry
  pub there : slice_get entries i ≡ Some call
  pub takes : is_peek call.request ≡ false
  pub delivers : call.delivered ≡ Some tag

-- one call at most does, of the rights of one send
abbrev pub RightsComeOnce : Type 0
RightsComeOnce = (boot : State) (entries : List Entry) (i j tag : ℕ) → IsLegal boot entries → TakesRights entries i tag →
    TakesRights entries j tag → i ≡ j

-- ---- with their message

-- A receive or a peek that gives these bytes installs rights of one message, the one with this tag.
pub record AreOfMessage (boot : State) (entries : List Entry) (j : ℕ) (e : Entry) (bytes : List ℕ) (tag : ℕ) : Type 0 where
  pub number : ℕ
  pub socket : Socket
  pub place : ℕ
  pub message : Message
  pub through : socket_through (before boot entries j) e.pid.0 e.request ≡ Some (number, socket)
  pub waits : slice_get socket.queue place ≡ Some message
  pub sent : message.tag ≡ tag
  -- What it installs leads to what was sent with that message.
  pub rights : sources (before boot entries j) e.pid.0 e.request ≡ message.rights
  -- At a stream it gives a byte of it at least; elsewhere the message is the oldest.
  pub begun : is_stream socket.kind ≡ true → queued_bytes (take place socket.queue) < length bytes
  pub oldest : is_stream socket.kind ≡ false → place ≡ 0
  -- It gives no byte of a later message,
  pub last : length bytes ≤ queued_bytes (take (suc place) socket.queue)
  -- and those before have no rights.
  pub others : (i : ℕ) (m : Message) → i < place → slice_get socket.queue i ≡ Some m → m.rights ≡ []

abbrev pub RightsComeWithTheirMessage : Type 0
RightsComeWithTheirMessage = (boot : State) (entries : List Entry) (j n space count tag : ℕ) (e : Entry) (fd : Fd) (asked flags : MsgFlags)
    (bytes control : List ℕ) (from : Option Addr) → IsLegal boot entries → slice_get entries j ≡ Some e →
    e.request ≡ Request.RecvMsg fd n space asked → e.reply ≡ Reply.Received flags count bytes control from → e.delivered ≡ Some tag →
    AreOfMessage boot entries j e bytes tag

-- ---- none

-- The request asks for no rights: it is no receive, or has less control space than a right takes.
abbrev pub asks_no_rights : Request → Bool
asks_no_rights (Request.RecvMsg fd n space flags) = nat_lt space (head_len + number_len)
asks_no_rights _ = true

-- Who makes no others is sent nothing.
abbrev pub RightsAreAsked : Type 0
RightsAreAsked = (boot : State) (entries : List Entry) (p : ℕ) →
    ((j : ℕ) (e : Entry) → slice_get entries j ≡ Some e → e.pid.0 ≡ p → asks_no_rights e.request ≡ true) → WasSentNothing boot entries p
