-- Which calls end the wait of a poll(2) of a descriptor that leads to a socket.
use Rattle.std.specs.Prelude.{◌≡◌, ◌≢◌, ℕ, suc, Bool, true, false, List, Some, None, Ok}
use Rattle.std.specs.List.{slice_get}
use Rattle.ux_model.specs.Types.{Errno, Fd, Addr, PollFd, PollFds, PollFlags, Request, Reply, Entry}
use Rattle.ux_model.specs.Flags.{asks_input, asks_room, asks_end}
use Rattle.ux_model.specs.Socket.{Socket, is_dgram, peer_of, association_of}
use Rattle.ux_model.specs.State.{State, description_at, socket_at}
use Rattle.ux_model.specs.Outcome.{find_socket}
use Rattle.ux_model.specs.Binding.{look_up}
use Rattle.ux_model.specs.ReadyCalls.{moves_data}
use Rattle.ux_model.specs.History.{IsLegal}
use Rattle.ux_model.specs.Pedigree.{before}
use Rattle.ux_laws.specs.Progress.{EndsInput, BringsInput}
use Rattle.ux_laws.specs.Rooms.{BringsRoom, LetsGo}

-- What a call from S to T does for a poll that asks for these events of socket d, which is s and then t:
pub data WakesPoll (S : State) (e : Entry) (d : ℕ) (s : Socket) (T : State) (t : Socket) (events : PollFlags) : Type 0 where
  -- it brings input to a datagram socket or a connected one,
  by_input : asks_input events ≡ true → moves_data s ≡ true → BringsInput S e d s T → WakesPoll S e d s T t events
  -- or an end to a listener, by a connect of a stream or seqpacket socket;
  by_end : (c : ℕ) (fd : Fd) (addr : Addr) (client : Socket) → asks_input events ≡ true → e.request ≡ Request.Connect fd addr →
      e.reply ≡ Reply.Ok → find_socket S e.pid.0 fd ≡ Ok (c, client) → is_dgram client.kind ≡ false →
      look_up S client.kind addr ≡ Ok (d, s) → WakesPoll S e d s T t events
  -- it brings room to a connected socket,
  by_room : (peer : ℕ) → asks_room events ≡ true → is_dgram s.kind ≡ false → peer_of s.phase ≡ Some peer → BringsRoom S e d s T →
      WakesPoll S e d s T t events
  -- or lets a datagram go where a datagram socket is associated then;
  by_target : (number : ℕ) → asks_room events ≡ true → is_dgram s.kind ≡ true → association_of t.phase ≡ Some number →
      LetsGo S e d number T → WakesPoll S e d s T t events
  -- it ends the input of a connected socket,
  by_over : (peer : ℕ) → asks_end events ≡ true → is_dgram s.kind ≡ false → peer_of s.phase ≡ Some peer → EndsInput S e d s T →
      WakesPoll S e d s T t events
  -- or frees its peer, whatever is asked for.
  by_loss : (peer : ℕ) → is_dgram s.kind ≡ false → peer_of s.phase ≡ Some peer → description_at T peer ≡ None →
      WakesPoll S e d s T t events

-- So the next call, a poll of a descriptor that leads to the socket, among others or not, doesn't wait.
abbrev pub PollsAreWoken : Type 0
PollsAreWoken = (boot : State) (entries : List Entry) (j i d : ℕ) (e next : Entry) (fds : PollFds) (waits : Bool) (asked : PollFd)
    (s t : Socket) → IsLegal boot entries → slice_get entries j ≡ Some e → socket_at (before boot entries j) d ≡ Some s →
    slice_get entries (suc j) ≡ Some next → next.request ≡ Request.PollMany fds waits → slice_get fds i ≡ Some asked →
    find_socket (before boot entries (suc j)) next.pid.0 asked.fd ≡ Ok (d, t) →
    WakesPoll (before boot entries j) e d s (before boot entries (suc j)) t asked.events → next.reply ≢ Reply.Err Errno.EAGAIN
