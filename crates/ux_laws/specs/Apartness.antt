-- Processes that are apart from the rest: neither side has a way to what the other has (Rushby, "Noninterference, Transitivity, and
-- Channel-Control Security Policies", 1992).
use Rattle.std.specs.Prelude.{◌≡◌, ℕ, suc, ◌≤◌, ◌==◌, Bool, true, false, List, [], Option, Some, None, option_map, map, drop, filter, Ok}
use Rattle.std.specs.List.{slice_get, AllByRecursion}
use Rattle.ux_model.specs.Types.{Name, Addr, Pid, Mode, OpenFlags, SockType, SockOpt, Request, Reply, Entry}
use Rattle.ux_model.specs.Object.{Body}
use Rattle.ux_model.specs.Names.{file, named}
use Rattle.ux_model.specs.Message.{Message}
use Rattle.ux_model.specs.Socket.{Socket, tied_socket, pending_ends}
use Rattle.ux_model.specs.Description.{Description, Target, to_object, to_socket, changed}
use Rattle.ux_model.specs.Process.{Descriptor}
use Rattle.ux_model.specs.State.{State, description_at, process_at, next_process, next_description}
use Rattle.ux_model.specs.Binding.{look_up}
use Rattle.ux_model.specs.Making.{next_object}
use Rattle.ux_model.specs.Step.{lacks_memory, fails}
use Rattle.ux_model.specs.History.{is_off, replay, IsLegal}
use Rattle.ux_model.specs.Giving.{held_at}
use Rattle.ux_model.specs.Pedigree.{before}
use Rattle.ux_laws.specs.Files.{body_at}
use Rattle.ux_laws.specs.Reach.{asked_addr}

-- What all share tells of others in spite of that, and is evaluated in proofs/ChannelExample.antt: process numbers (fork), who lives
-- (credentials that a privileged process gives), the least name of autobind, names in use (bind), paths that are found (open), rights in
-- flight of a common user, numbers of file objects (which are reported closed), and full tables of file objects and of processes. Who gets
-- a lock first is outside of the definitions, in which calls are made one after another.

-- ---- two sides

-- Which processes are watched, and which descriptions and file objects are theirs; all others are on the other side.
pub record Sides : Type 0 where
  pub process : ℕ → Bool
  pub description : ℕ → Bool
  pub object : ℕ → Bool

-- All that a socket refers to is on one side: whom it is tied to, the ends that wait there for accept, and the rights that messages pass.
pub record SocketIsOn (sides : Sides) (side : Bool) (s : Socket) : Type 0 where
  pub tied : (d : ℕ) → tied_socket s.phase ≡ Some d → sides.description d ≡ side
  pub pending : AllByRecursion (λ d. sides.description d ≡ side) (pending_ends s.phase)
  pub rights : AllByRecursion (λ (m : Message). AllByRecursion (λ d. sides.description d ≡ side) m.rights) s.queue

abbrev pub TargetIsOn : Sides → Bool → Target → Type 0
TargetIsOn sides side (to_object o) = sides.object o ≡ side
TargetIsOn sides side (to_socket s) = SocketIsOn sides side s

-- No way leads from one side to the other: each number leads to its process's side, and each description refers to its own.
pub record AreApart (sides : Sides) (S : State) : Type 0 where
  pub tables : (p n : ℕ) (e : Descriptor) → held_at S p n ≡ Some e → sides.description e.description ≡ sides.process p
  pub descriptions : (d : ℕ) (D : Description) → description_at S d ≡ Some D → TargetIsOn sides (sides.description d) D.target

-- All that is theirs was made before: what is made from now on is on the other side.
pub record AllTheirsAreMade (sides : Sides) (S : State) : Type 0 where
  pub processes : (p : ℕ) → next_process S ≤ p → sides.process p ≡ false
  pub descriptions : (d : ℕ) → next_description S ≤ d → sides.description d ≡ false
  pub objects : (o : ℕ) → next_object S ≤ o → sides.object o ≡ false

-- ---- what the watched ones see

-- what is in the file object that a description leads to
abbrev pub body_behind : State → Target → Option Body
body_behind S (to_object o) = body_at S o
body_behind S (to_socket s) = None

-- a description, with that
abbrev pub seen_at : State → ℕ → Option (Description × Option Body)
seen_at S d = option_map (λ (D : Description). (D, body_behind S D.target)) (description_at S d)

-- Their processes, with their tables and ids, their descriptions and what is in their file objects are in T as they were in S.
pub record IsUnseen (sides : Sides) (S T : State) : Type 0 where
  pub processes : (p : ℕ) → sides.process p ≡ true → process_at T p ≡ process_at S p
  pub descriptions : (d : ℕ) → sides.description d ≡ true → seen_at T d ≡ seen_at S d

-- ---- local respect

-- the address that the call gives, if any, leads to no socket of theirs
abbrev pub AsksForNoneOf : Sides → State → Request → Type 0
AsksForNoneOf sides S request = (kind : SockType) (addr : Addr) (d : ℕ) (s : Socket) → asked_addr request ≡ Some addr →
    look_up S kind addr ≡ Ok (d, s) → sides.description d ≡ false

-- Nothing that they see changes by a call of another process, of whatever kind, that gives no address of theirs.
abbrev pub OthersChangeNothingSeen : Type 0
OthersChangeNothingSeen = (boot : State) (entries : List Entry) (sides : Sides) (j : ℕ) (e : Entry) → IsLegal boot entries →
    slice_get entries j ≡ Some e → AreApart sides (before boot entries j) → AllTheirsAreMade sides (before boot entries j) →
    is_off e.request ≡ false → sides.process e.pid.0 ≡ false → AsksForNoneOf sides (before boot entries j) e.request →
    IsUnseen sides (before boot entries j) (before boot entries (suc j))

-- ---- step consistency

-- No reply tells the number of the call that sent a message.
abbrev pub untold : Message → Message
untold m = record m { tag = 0 }

abbrev pub untold_in : Socket → Socket
untold_in s = record s { queue = map untold s.queue }

-- a description without such numbers, with what is in the file object behind it
abbrev pub shown_as : State → Description → Description × Option Body
shown_as S D = (changed untold_in D, body_behind S D.target)

abbrev pub shown_at : State → ℕ → Option (Description × Option Body)
shown_at S d = option_map (shown_as S) (description_at S d)

-- The watched ones can't tell the states apart.
pub record LookAlike (sides : Sides) (S T : State) : Type 0 where
  pub processes : (p : ℕ) → sides.process p ≡ true → process_at T p ≡ process_at S p
  pub descriptions : (d : ℕ) → sides.description d ≡ true → shown_at T d ≡ shown_at S d

-- what the environment chose: that memory lacked, or that a file object failed
abbrev pub ChoseAlike : Reply → Reply → Type 0
ChoseAlike one other = (lacks_memory other ≡ lacks_memory one) × (fails other ≡ fails one)

-- SO_PASSCRED turned on may bind a name
abbrev pub may_set : SockOpt → ℕ → Bool
may_set SockOpt.PassCred value = value == 0
may_set _ value = true

-- A call that goes by the caller's descriptors alone, or by none, and makes nothing that is numbered for all: no process, no description
-- and no file object. A send of this kind gives no address and no control buffer.
abbrev pub goes_by_descriptors : Request → Bool
goes_by_descriptors (Request.Dup fd) = true
goes_by_descriptors (Request.Dup2 fd to) = true
goes_by_descriptors (Request.DupFrom fd minimum) = true
goes_by_descriptors (Request.GetFlags fd) = true
goes_by_descriptors (Request.SetFlags fd flags) = true
goes_by_descriptors (Request.Close fd) = true
goes_by_descriptors (Request.InQueue fd) = true
goes_by_descriptors (Request.OutQueue fd) = true
goes_by_descriptors (Request.GetSockName fd) = true
goes_by_descriptors (Request.GetPeerName fd) = true
goes_by_descriptors (Request.Shutdown fd how) = true
goes_by_descriptors (Request.GetOpt fd opt) = true
goes_by_descriptors (Request.SetOpt fd opt value) = may_set opt value
goes_by_descriptors (Request.Listen fd backlog) = true
goes_by_descriptors (Request.Poll fd) = true
goes_by_descriptors (Request.PollMany fds waits) = true
goes_by_descriptors (Request.RecvMsg fd n space flags) = true
goes_by_descriptors (Request.SendMsg fd None bytes [] flags) = true
goes_by_descriptors (Request.Read fd n) = true
goes_by_descriptors (Request.Write fd bytes) = true
goes_by_descriptors (Request.Lseek fd offset whence) = true
goes_by_descriptors (Request.Accept fd flags) = true
goes_by_descriptors (Request.SetIds uid gid) = true
goes_by_descriptors Request.Exec = true
goes_by_descriptors Request.Exit = true
goes_by_descriptors _ = false

-- The same call by the same process, in two states that are apart and that the watched ones can't tell apart, is answered the same, where
-- the environment chose alike, and leaves two such states.
abbrev pub SameCallsAreAnsweredAlike : Type 0
SameCallsAreAnsweredAlike = (boot other : State) (entries others : List Entry) (sides : Sides) (j k : ℕ) (e f : Entry) →
    IsLegal boot entries → IsLegal other others → slice_get entries j ≡ Some e → slice_get others k ≡ Some f →
    AreApart sides (before boot entries j) → AreApart sides (before other others k) →
    LookAlike sides (before boot entries j) (before other others k) → goes_by_descriptors e.request ≡ true →
    sides.process e.pid.0 ≡ true → f.pid ≡ e.pid → f.request ≡ e.request → ChoseAlike e.reply f.reply →
    (f.reply ≡ e.reply) × LookAlike sides (before boot entries (suc j)) (before other others (suc k))

-- ---- apartness stays

-- No call by descriptors makes a way, whichever side makes it: where from some call on all calls are such, the sides stay apart.
abbrev pub ApartnessStays : Type 0
ApartnessStays = (boot : State) (entries : List Entry) (sides : Sides) (from i : ℕ) → IsLegal boot entries →
    AreApart sides (before boot entries from) →
    ((k : ℕ) (e : Entry) → from ≤ k → slice_get entries k ≡ Some e → goes_by_descriptors e.request ≡ true) → from ≤ i →
    AreApart sides (before boot entries i)

-- the path that the call opens, if any, leads to no file object of theirs
abbrev pub OpensNoneOf : Sides → State → Request → Type 0
OpensNoneOf sides S request = (path : Name) (mode : Mode) (flags : OpenFlags) (o : ℕ) → request ≡ Request.Open path mode flags →
    named path S.paths ≡ Some (file o) → sides.object o ≡ false

-- Nor does any call of another process that gives no address of theirs and opens no file object of theirs: what it makes is on its side.
abbrev pub OthersKeepToTheirSide : Type 0
OthersKeepToTheirSide = (boot : State) (entries : List Entry) (sides : Sides) (j : ℕ) (e : Entry) → IsLegal boot entries →
    slice_get entries j ≡ Some e → AreApart sides (before boot entries j) → AllTheirsAreMade sides (before boot entries j) →
    is_off e.request ≡ false → sides.process e.pid.0 ≡ false → AsksForNoneOf sides (before boot entries j) e.request →
    OpensNoneOf sides (before boot entries j) e.request → AreApart sides (before boot entries (suc j))

-- ---- two histories

-- The sides are apart at this moment, and no call makes a way from then on: those of the watched ones go by descriptors, and those of
-- others give no address and open no file object of theirs, and aren't the layer's end.
pub record StayApart (sides : Sides) (boot : State) (entries : List Entry) (from : ℕ) : Type 0 where
  pub apart : AreApart sides (before boot entries from)
  pub made : AllTheirsAreMade sides (before boot entries from)
  pub theirs : (i : ℕ) (e : Entry) → from ≤ i → slice_get entries i ≡ Some e → sides.process e.pid.0 ≡ true →
      goes_by_descriptors e.request ≡ true
  pub on : (i : ℕ) (e : Entry) → from ≤ i → slice_get entries i ≡ Some e → is_off e.request ≡ false
  pub asks : (i : ℕ) (e : Entry) → from ≤ i → slice_get entries i ≡ Some e → sides.process e.pid.0 ≡ false →
      AsksForNoneOf sides (before boot entries i) e.request
  pub opens : (i : ℕ) (e : Entry) → from ≤ i → slice_get entries i ≡ Some e → sides.process e.pid.0 ≡ false →
      OpensNoneOf sides (before boot entries i) e.request

-- their calls, in order
abbrev pub calls_of_theirs : Sides → List Entry → List Entry
calls_of_theirs sides entries = filter (λ (e : Entry). sides.process e.pid.0) entries

-- what they ask, and what the environment chooses
abbrev pub asks : Entry → Pid × Request × Bool × Bool
asks e = (e.pid, e.request, lacks_memory e.reply, fails e.reply)

abbrev pub asked_by : List Entry → List (Pid × Request × Bool × Bool)
asked_by entries = map asks entries

abbrev pub told_to : List Entry → List Reply
told_to entries = map (λ (e : Entry). e.reply) entries

-- Two histories, from two moments on that the watched ones can't tell apart: where they ask the same, and the environment chooses the same
-- for them, they are told the same, and can't tell the last states apart.
abbrev pub ApartMeansApart : Type 0
ApartMeansApart = (boot other : State) (entries others : List Entry) (sides : Sides) (j k : ℕ) → IsLegal boot entries →
    IsLegal other others →
    StayApart sides boot entries j → StayApart sides other others k → LookAlike sides (before boot entries j) (before other others k) →
    asked_by (calls_of_theirs sides (drop k others)) ≡ asked_by (calls_of_theirs sides (drop j entries)) →
    (told_to (calls_of_theirs sides (drop k others)) ≡ told_to (calls_of_theirs sides (drop j entries)))
    × LookAlike sides (replay boot entries) (replay other others)
