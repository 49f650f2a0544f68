-- The end of a connection: what a socket is answered once its peer is gone (unix(7), ECONNRESET and EPIPE; POSIX.1-2017, recv and send).
use Rattle.std.specs.Prelude.{◌≡◌, ◌≢◌, ◌⊎◌, ℕ, suc, ◌≤◌, ◌<◌, ◌==◌, min, Bool, true, false, not, ◌||◌, List, [], ◌∷◌, length, Some, None}
use Rattle.std.specs.List.{slice_get}
use Rattle.ux_model.specs.Types.{Errno, Fd, MsgFlags, Request, Reply, Entry}
use Rattle.ux_model.specs.Flags.{are_receive_flags}
use Rattle.ux_model.specs.Limits.{read_limit}
use Rattle.ux_model.specs.Message.{Message}
use Rattle.ux_model.specs.Front.{front_of}
use Rattle.ux_model.specs.Socket.{Socket, is_dgram, peer_of}
use Rattle.ux_model.specs.State.{State, description_at, socket_at}
use Rattle.ux_model.specs.Receiving.{nothing_received}
use Rattle.ux_model.specs.History.{IsLegal}
use Rattle.ux_model.specs.Pedigree.{before}
use Rattle.ux_laws.specs.Talking.{socket_through, given_bytes}
use Rattle.ux_laws.specs.Records.{is_count, is_given}

-- Socket d, which is s, was connected to a peer that is gone.
pub record HasEnded (S : State) (d : ℕ) (s : Socket) : Type 0 where
  pub peer : ℕ
  pub there : socket_at S d ≡ Some s
  pub connected : peer_of s.phase ≡ Some peer
  pub gone : description_at S peer ≡ None
  pub kind : is_dgram s.kind ≡ false

-- ---- for ever

-- As long as it is there its peer stays gone, and no ECONNRESET comes to be pending.
pub record StaysEnded (S : State) (d : ℕ) (s t : Socket) : Type 0 where
  pub ended : HasEnded S d t
  pub reset : t.reset ≡ true → s.reset ≡ true

abbrev pub EndsAreForEver : Type 0
EndsAreForEver = (boot : State) (entries : List Entry) (j k d : ℕ) (s t : Socket) → IsLegal boot entries → j ≤ k → k ≤ length entries →
    HasEnded (before boot entries j) d s → socket_at (before boot entries k) d ≡ Some t → StaysEnded (before boot entries k) d s t

-- ECONNRESET comes to be pending by the loss of the peer alone.
abbrev pub ResetsAreOfLosses : Type 0
ResetsAreOfLosses = (boot : State) (entries : List Entry) (j d : ℕ) (e : Entry) (s t : Socket) → IsLegal boot entries →
    slice_get entries j ≡ Some e → socket_at (before boot entries j) d ≡ Some s → socket_at (before boot entries (suc j)) d ≡ Some t →
    s.reset ≡ false → t.reset ≡ true → HasEnded (before boot entries (suc j)) d t ⊎ (is_dgram t.kind ≡ true)

-- calls that close descriptors and do nothing else
abbrev pub is_closing : Request → Bool
is_closing (Request.Close fd) = true
is_closing (Request.Dup2 fd to) = true
is_closing Request.Exec = true
is_closing Request.Exit = true
is_closing _ = false

-- By such a call that frees the peer it does exactly where the peer had messages that nobody had read, or where no accept had taken it.
abbrev pub LossesReset : Type 0
LossesReset = (boot : State) (entries : List Entry) (j d peer : ℕ) (e : Entry) (s t u : Socket) → IsLegal boot entries →
    slice_get entries j ≡ Some e → is_closing e.request ≡ true → socket_at (before boot entries j) d ≡ Some s →
    peer_of s.phase ≡ Some peer → socket_at (before boot entries j) peer ≡ Some u →
    description_at (before boot entries (suc j)) peer ≡ None →
    socket_at (before boot entries (suc j)) d ≡ Some t → t.reset ≡ (s.reset || (not (length u.queue == 0) || not u.accepted))

-- ---- sends

-- A send or a write to a peer that is gone takes nothing.
abbrev pub SendsFindNobody : Type 0
SendsFindNobody = (boot : State) (entries : List Entry) (j d : ℕ) (e : Entry) (s : Socket) → IsLegal boot entries →
    slice_get entries j ≡ Some e → socket_through (before boot entries j) e.pid.0 e.request ≡ Some (d, s) →
    HasEnded (before boot entries j) d s → is_count e.reply ≡ false

-- A write is answered EPIPE.
abbrev pub WritesBreak : Type 0
WritesBreak = (boot : State) (entries : List Entry) (j d : ℕ) (e : Entry) (fd : Fd) (bytes : List ℕ) (s : Socket) → IsLegal boot entries →
    slice_get entries j ≡ Some e → e.request ≡ Request.Write fd bytes →
    socket_through (before boot entries j) e.pid.0 e.request ≡ Some (d, s) → HasEnded (before boot entries j) d s →
    e.reply ≡ Reply.Err Errno.EPIPE

-- ---- receives

-- What a read or a receive of at most n bytes, more than none, is answered then: what is queued, in front, where memory doesn't lack; else
-- ECONNRESET, which is pending no longer, where it was; else the end of input.
pub data IsAtEnd (S : State) (d n : ℕ) (s : Socket) (reply end : Reply) (T : State) : Type 0 where
  queued : (m : Message) (ms : List Message) → s.queue ≡ m ∷ ms → is_given reply ≡ true → given_bytes reply ≡ (front_of n s m ms).bytes →
      IsAtEnd S d n s reply end T
  lacking : s.queue ≢ [] → reply ≡ Reply.Err Errno.ENOMEM → IsAtEnd S d n s reply end T
  reset : s.queue ≡ [] → s.reset ≡ true → reply ≡ Reply.Err Errno.ECONNRESET → ((t : Socket) → socket_at T d ≡ Some t → t.reset ≡ false) →
      IsAtEnd S d n s reply end T
  ended : s.queue ≡ [] → s.reset ≡ false → reply ≡ end → IsAtEnd S d n s reply end T

abbrev pub ReadsTellTheEnd : Type 0
ReadsTellTheEnd = (boot : State) (entries : List Entry) (j n d : ℕ) (e : Entry) (fd : Fd) (s : Socket) → IsLegal boot entries →
    slice_get entries j ≡ Some e → e.request ≡ Request.Read fd n → 0 < n →
    socket_through (before boot entries j) e.pid.0 e.request ≡ Some (d, s) → HasEnded (before boot entries j) d s →
    IsAtEnd (before boot entries j) d (min read_limit n) s e.reply (Reply.Bytes []) (before boot entries (suc j))

abbrev pub ReceivesTellTheEnd : Type 0
ReceivesTellTheEnd = (boot : State) (entries : List Entry) (j n space d : ℕ) (e : Entry) (fd : Fd) (asked : MsgFlags) (s : Socket) →
    IsLegal boot entries → slice_get entries j ≡ Some e → e.request ≡ Request.RecvMsg fd n space asked → 0 < n →
    are_receive_flags asked ≡ true → socket_through (before boot entries j) e.pid.0 e.request ≡ Some (d, s) →
    HasEnded (before boot entries j) d s → IsAtEnd (before boot entries j) d n s e.reply nothing_received (before boot entries (suc j))
