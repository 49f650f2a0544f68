-- A connection as long as its ends are there (unix(7); connect(2), socketpair(2)).
use Rattle.std.specs.Prelude.{◌≡◌, ◌≢◌, ℕ, ◌≤◌, List, length, Some, None}
use Rattle.ux_model.specs.Types.{Entry}
use Rattle.ux_model.specs.Socket.{Socket, peer_of}
use Rattle.ux_model.specs.State.{State, description_at, socket_at}
use Rattle.ux_model.specs.History.{IsLegal}
use Rattle.ux_model.specs.Pedigree.{before}

-- Socket d, which was s and is t now, is of the same type and connected to this peer, as that is to it while it is there.
pub record StaysJoined (S : State) (d peer : ℕ) (s t : Socket) : Type 0 where
  pub kind : t.kind ≡ s.kind
  pub to : peer_of t.phase ≡ Some peer
  pub back : description_at S peer ≢ None → (u : Socket) × (socket_at S peer ≡ Some u) × (peer_of u.phase ≡ Some d)

-- What was connected once is connected to the same peer from then on.
abbrev pub ConnectionsStay : Type 0
ConnectionsStay = (boot : State) (entries : List Entry) (j k d peer : ℕ) (s t : Socket) → IsLegal boot entries → j ≤ k → k ≤ length entries →
    socket_at (before boot entries j) d ≡ Some s → peer_of s.phase ≡ Some peer → socket_at (before boot entries k) d ≡ Some t →
    StaysJoined (before boot entries k) d peer s t
