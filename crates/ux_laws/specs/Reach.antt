-- What a call leaves alone: descriptions, tables and names that its process has no way to.
use Rattle.std.specs.Prelude.{◌≡◌, ◌≢◌, ◌⊎◌, ℕ, suc, Bool, true, false, List, Option, Some, None, Ok}
use Rattle.std.specs.List.{slice_get}
use Rattle.ux_model.specs.Types.{Name, Addr, SockType, Request, Entry}
use Rattle.ux_model.specs.Names.{same_name, named as named_in}
use Rattle.ux_model.specs.Socket.{Socket, pending_ends, peer_of, tied_socket, with_reset}
use Rattle.ux_model.specs.Description.{Description, changed}
use Rattle.ux_model.specs.State.{State, description_at, socket_at}
use Rattle.ux_model.specs.Binding.{look_up}
use Rattle.ux_model.specs.History.{is_off, makes, IsLegal}
use Rattle.ux_model.specs.Giving.{held_at, description_of}
use Rattle.ux_model.specs.Pedigree.{before}

-- ---- what a call can reach

-- the address that a connect or a send gives
abbrev pub asked_addr : Request → Option Addr
asked_addr (Request.Connect fd addr) = Some addr
asked_addr (Request.SendMsg fd addr bytes control flags) = addr
asked_addr _ = None

-- Description d is in reach of a call of process p.
pub data IsInReach (S : State) (p : ℕ) (request : Request) (d : ℕ) : Type 0 where
  -- A descriptor of its own leads there,
  held : (n : ℕ) → description_of S p n ≡ Some d → IsInReach S p request d
  -- or to a socket that is connected to it, or associated with it;
  tied : (n e : ℕ) (s : Socket) → description_of S p n ≡ Some e → socket_at S e ≡ Some s → tied_socket s.phase ≡ Some d →
      IsInReach S p request d
  -- or to a listening socket at which it is the oldest end that waits;
  pending : (n e : ℕ) (s : Socket) → description_of S p n ≡ Some e → socket_at S e ≡ Some s → slice_get (pending_ends s.phase) 0 ≡ Some d →
      IsInReach S p request d
  -- or it is a socket that the address leads to, which the call gives.
  named : (kind : SockType) (addr : Addr) (s : Socket) → asked_addr request ≡ Some addr → look_up S kind addr ≡ Ok (d, s) →
      IsInReach S p request d

-- ---- what happens to others

-- Its peer goes, by whose loss it is reset, and it is the same otherwise.
pub record LosesPeer (S T : State) (d : ℕ) : Type 0 where
  pub description : Description
  pub socket : Socket
  pub peer : ℕ
  pub there : description_at S d ≡ Some description
  pub connected : socket_at S d ≡ Some socket
  pub to : peer_of socket.phase ≡ Some peer
  pub lost : description_at T peer ≡ None
  pub left : description_at T d ≡ Some (changed (with_reset true) description)

-- A description that was made before a call, and what the call leaves of it.
pub data IsLeft (S : State) (p : ℕ) (request : Request) (T : State) (d : ℕ) : Type 0 where
  alone : description_at T d ≡ description_at S d → IsLeft S p request T d
  in_reach : IsInReach S p request d → IsLeft S p request T d
  freed : description_at T d ≡ None → IsLeft S p request T d
  loses_peer : LosesPeer S T d → IsLeft S p request T d

-- A call changes no description but those in its reach, those that it frees, and the peers of these.
abbrev pub CallsLeaveOthersAlone : Type 0
CallsLeaveOthersAlone = (boot : State) (entries : List Entry) (j d : ℕ) (e : Entry) → IsLegal boot entries → slice_get entries j ≡ Some e →
    description_at (before boot entries j) d ≢ None → IsLeft (before boot entries j) e.pid.0 e.request (before boot entries (suc j)) d

-- It changes no table but its process's own and that of a child that it makes; the end of the layer empties all.
abbrev pub CallsLeaveTablesAlone : Type 0
CallsLeaveTablesAlone = (boot : State) (entries : List Entry) (j q n : ℕ) (e : Entry) → IsLegal boot entries →
    slice_get entries j ≡ Some e → is_off e.request ≡ false → e.pid.0 ≢ q → makes q e.request e.reply ≡ false →
    held_at (before boot entries (suc j)) q n ≡ held_at (before boot entries j) q n

-- ---- names

abbrev pub is_path : Addr → Name → Bool
is_path (Addr.Path name) path = same_name name path
is_path _ path = false

-- the call binds this path, makes a file under it, or takes it away; the end of the layer takes all
abbrev pub names_path : Request → Name → Bool
names_path (Request.Bind fd addr) path = is_path addr path
names_path (Request.Create name mode flags) path = same_name name path
names_path (Request.Unlink name) path = same_name name path
names_path Request.Off path = true
names_path _ path = false

-- Each other path names what it named, or nothing still.
abbrev pub CallsLeavePathsAlone : Type 0
CallsLeavePathsAlone = (boot : State) (entries : List Entry) (j : ℕ) (e : Entry) (path : Name) → IsLegal boot entries →
    slice_get entries j ≡ Some e → names_path e.request path ≡ false →
    named_in path (before boot entries (suc j)).paths ≡ named_in path (before boot entries j).paths

-- A name of the abstract namespace goes only with its socket.
abbrev pub AbstractNamesStay : Type 0
AbstractNamesStay = (boot : State) (entries : List Entry) (j d : ℕ) (e : Entry) (name : Name) → IsLegal boot entries →
    slice_get entries j ≡ Some e → named_in name (before boot entries j).abstract_names ≡ Some d →
    (named_in name (before boot entries (suc j)).abstract_names ≡ Some d) ⊎ (description_at (before boot entries (suc j)) d ≡ None)

-- One that leads to no socket gets one of the caller's own.
abbrev pub AbstractNamesAreBound : Type 0
AbstractNamesAreBound = (boot : State) (entries : List Entry) (j d : ℕ) (e : Entry) (name : Name) → IsLegal boot entries →
    slice_get entries j ≡ Some e → named_in name (before boot entries j).abstract_names ≡ None →
    named_in name (before boot entries (suc j)).abstract_names ≡ Some d →
    (n : ℕ) × (description_of (before boot entries j) e.pid.0 n ≡ Some d)
