-- Laws: what holds in every state that a legal history leads to, or any chain of calls. Nothing here defines a call.
use Rattle.std.specs.Prelude.{◌≡◌, ◌⊎◌, ℕ, suc, ◌<◌, ◌≤◌, true, false, List, [], ◌∷◌, ◌++◌, take, length, Some, Option, None, is_some}
use Rattle.std.specs.Prelude.{nat_lt, slice_get, sum_by, ◌+◌, Bool, if◌then◌else◌}
use Rattle.ux_model.specs.Types.{Errno, Name, Addr, Request, Reply, Entry}
use Rattle.ux_model.specs.Places.{place}
use Rattle.ux_model.specs.Object.{View, after_failure}
use Rattle.ux_model.specs.Names.{file}
use Rattle.ux_model.specs.Message.{Message}
use Rattle.ux_model.specs.Socket.{Socket, pending_ends, association_of, with_association, with_reset}
use Rattle.ux_model.specs.Description.{Description, to_object}
use Rattle.ux_model.specs.Process.{Descriptor}
use Rattle.ux_model.specs.State.{State, description_at, socket_at, table_of, with_object, with_socket_by}
use Rattle.ux_model.specs.References.{times, refs, orefs}
use Rattle.ux_model.specs.Boot.{is_open, IsBootState}
use Rattle.ux_model.specs.Peers.{Paired, at_socket}
use Rattle.ux_model.specs.Release.{has_unreferenced, drop_unreferenced, settled}
use Rattle.ux_model.specs.Step.{Step}
use Rattle.ux_model.specs.History.{replay, Chain, IsLegal}

-- ---- nothing is left over

-- after the rounds no description is there that nothing refers to
abbrev pub NoneLeftUnreferenced : Type 0
NoneLeftUnreferenced = (S : State) → has_unreferenced (drop_unreferenced S) ≡ false

-- what was released once has nothing more to release
abbrev pub SettlesAtOnce : Type 0
SettlesAtOnce = (S : State) → settled (settled S) ≡ settled S

-- no state of a legal history has anything left to release
abbrev pub StaysSettled : Type 0
StaysSettled = (boot : State) (entries : List Entry) → IsLegal boot entries → settled (replay boot entries) ≡ replay boot entries

-- ---- a refusal changes nothing

-- T is S with one more failure of one file object, and nothing else
pub record OneMoreFailure (S T : State) : Type 0 where
  pub object : ℕ
  pub view : View
  pub there : place S.objects object ≡ Some view
  pub left : T ≡ with_object S object (after_failure view)

-- T is S without the ECONNRESET that was pending at one socket, and nothing else
pub record ResetCleared (S T : State) : Type 0 where
  pub description : ℕ
  pub socket : Socket
  pub there : socket_at S description ≡ Some socket
  pub was_pending : socket.reset ≡ true
  pub left : T ≡ with_socket_by S description (with_reset false)

-- T is S where a datagram socket is no longer associated, whose target was gone, and nothing else
pub record AssociationEnded (S T : State) : Type 0 where
  pub description : ℕ
  pub target : ℕ
  pub socket : Socket
  pub there : socket_at S description ≡ Some socket
  pub was_associated : association_of socket.phase ≡ Some target
  pub was_gone : socket_at S target ≡ None
  pub left : T ≡ with_socket_by S description (with_association None)

-- What an error leaves of S: the very state, but for a failure of a file object, for a pending error, which its answer clears, and for an
-- association to what is gone, by which nothing was sent.
abbrev pub LeftByRefusal : State → Errno → State → Type 0
LeftByRefusal S Errno.EIO T = OneMoreFailure S T
LeftByRefusal S Errno.ECONNRESET T = ResetCleared S T
LeftByRefusal S Errno.ECONNREFUSED T = (T ≡ S) ⊎ AssociationEnded S T
LeftByRefusal S _ T = T ≡ S

-- of a state that has nothing left to release, as all states of legal histories are
abbrev pub RefusalChangesNothing : Type 0
RefusalChangesNothing = (S T : State) (p tag : ℕ) (request : Request) (error : Errno) (gone : List ℕ) → settled S ≡ S →
    Step S p tag request (Reply.Err error) gone T → LeftByRefusal S error T × (gone ≡ [])

-- so of an entry of a legal history that reports an error
abbrev pub RefusedEntryChangesNothing : Type 0
RefusedEntryChangesNothing =
    (boot : State) (before : List Entry) (e : Entry) (error : Errno) → IsLegal boot (before ++ e ∷ []) → e.reply ≡ Reply.Err error →
    LeftByRefusal (replay boot before) error (replay boot (before ++ e ∷ [])) × (e.released ≡ [])

-- ---- nothing dangles

-- how often an end waits for accept at one socket, and at all
abbrev pub pends : ℕ → Socket → ℕ
pends e s = times e (pending_ends s.phase)

abbrev pub pends_at_all : ℕ → List (Option Description) → ℕ
pends_at_all e ds = sum_by (at_socket (pends e)) ds

-- What is there is what is referenced, and whatever is named is there.
pub record IsWhole (S : State) : Type 0 where
  -- a description is there exactly if a descriptor, a message or a listening socket refers to it
  pub descriptions_referenced : (d : ℕ) → is_some (description_at S d) ≡ nat_lt 0 (refs S d)
  -- a file object is there exactly if a description or a path leads to it, and it is open then
  pub objects_referenced : (o : ℕ) → is_some (place S.objects o) ≡ nat_lt 0 (orefs S o)
  pub objects_open : (o : ℕ) (view : View) → place S.objects o ≡ Some view → view.opened ≡ true
  pub descriptors_lead : (p n : ℕ) (e : Descriptor) → place (table_of S p) n ≡ Some e → is_some (description_at S e.description) ≡ true
  -- ancillary data: each right in a message that waits
  pub rights_lead : (d i j r : ℕ) (s : Socket) (m : Message) → socket_at S d ≡ Some s → slice_get s.queue i ≡ Some m →
      slice_get m.rights j ≡ Some r →
      is_some (description_at S r) ≡ true
  pub descriptions_lead : (d o : ℕ) (D : Description) → description_at S d ≡ Some D → D.target ≡ to_object o →
      is_open (place S.objects o) ≡ true
  pub paths_lead : (i o : ℕ) (path : Name) → slice_get S.paths i ≡ Some (path, file o) → is_open (place S.objects o) ≡ true
  -- an end in a backlog is a socket that no accept has taken, and stands in no other backlog, nor twice
  pub pending_ends_wait : (d i e : ℕ) (s : Socket) → socket_at S d ≡ Some s → slice_get (pending_ends s.phase) i ≡ Some e →
      (t : Socket) × (socket_at S e ≡ Some t) × (t.accepted ≡ false)
  pub pending_once : (e : ℕ) → pends_at_all e S.descriptions ≤ 1
  -- the peer of a socket, while it is there, has that one as its own peer
  pub connections_mutual : Paired S.descriptions
  pub abstract_names_lead : (i : ℕ) (e : Name × ℕ) → slice_get S.abstract_names i ≡ Some e →
      (s : Socket) × (socket_at S e.1 ≡ Some s) × (s.name ≡ Addr.Abstract e.0)

-- whatever calls were made from a boot state on
abbrev pub WholeAfterAnyCalls : Type 0
WholeAfterAnyCalls = (boot T : State) → IsBootState boot → Chain boot T → IsWhole T

-- so in each state of a legal history
abbrev pub NothingDangles : Type 0
NothingDangles = (boot : State) (entries : List Entry) → IsLegal boot entries → IsWhole (replay boot entries)

-- ---- closed once

-- how often the entries report that a file object was closed
abbrev pub times_released : ℕ → List Entry → ℕ
times_released o entries = sum_by (λ e. times o e.released) entries

-- With the entry at place i a file object that was made before it loses its last reference: it has none after that, and had one after all
-- fewer entries after which it had been made.
abbrev pub LosesLast : State → List Entry → ℕ → ℕ → Type 0
LosesLast boot entries i o =
    (o < length (replay boot (take i entries)).objects) × (orefs (replay boot (take (suc i) entries)) o ≡ 0)
    × ((n : ℕ) → n ≤ i → o < length (replay boot (take n entries)).objects → 0 < orefs (replay boot (take n entries)) o)

-- Of a file object: one entry at most reports that it was closed, that by which it loses its last reference; and it is there in no state
-- after that.
pub record IsClosedOnce (boot : State) (entries : List Entry) (o : ℕ) : Type 0 where
  pub once : times_released o entries ≤ 1
  pub only_at_the_last : (i : ℕ) (e : Entry) → slice_get entries i ≡ Some e → 0 < times o e.released → LosesLast boot entries i o
  pub surely_at_the_last : (i : ℕ) (e : Entry) → slice_get entries i ≡ Some e → LosesLast boot entries i o → times o e.released ≡ 1
  pub gone_for_good : (i n : ℕ) (e : Entry) → slice_get entries i ≡ Some e → 0 < times o e.released → i < n →
      place (replay boot (take n entries)).objects o ≡ None

abbrev pub ClosedOnce : Type 0
ClosedOnce = (boot : State) (entries : List Entry) (o : ℕ) → IsLegal boot entries → IsClosedOnce boot entries o

-- With the entry at place i a file object of the boot state loses its last reference: it has none after that, and had one after all fewer
-- entries.
abbrev pub LosesLastOfBoot : State → List Entry → ℕ → ℕ → Type 0
LosesLastOfBoot boot entries i o =
    (orefs (replay boot (take (suc i) entries)) o ≡ 0) × ((n : ℕ) → n ≤ i → 0 < orefs (replay boot (take n entries)) o)

-- The same of a file object that was there from the start.
pub record IsClosedOnceSinceBoot (boot : State) (entries : List Entry) (o : ℕ) : Type 0 where
  pub once : times_released o entries ≤ 1
  pub only_at_the_last : (i : ℕ) (e : Entry) → slice_get entries i ≡ Some e → 0 < times o e.released → LosesLastOfBoot boot entries i o
  pub surely_at_the_last : (i : ℕ) (e : Entry) → slice_get entries i ≡ Some e → LosesLastOfBoot boot entries i o → times o e.released ≡ 1
  pub gone_for_good : (i n : ℕ) (e : Entry) → slice_get entries i ≡ Some e → 0 < times o e.released → i < n →
      place (replay boot (take n entries)).objects o ≡ None

abbrev pub BootObjectsClosedOnce : Type 0
BootObjectsClosedOnce = (boot : State) (entries : List Entry) (o : ℕ) → IsLegal boot entries → o < length boot.objects →
    IsClosedOnceSinceBoot boot entries o

-- ---- who makes file objects

-- the call made one
abbrev pub makes_object : Request → Reply → Bool
makes_object (Request.Create path mode flags) (Reply.Fd fd) = true
makes_object (Request.MemFd flags) (Reply.Fd fd) = true
makes_object (Request.EventFd value semaphore flags) (Reply.Fd fd) = true
makes_object (Request.Pipe flags) (Reply.Fds first second) = true
makes_object _ _ = false

-- no step forgets a file object's number, so none is given twice; and these calls alone make one
abbrev pub TheseAloneMakeObjects : Type 0
TheseAloneMakeObjects = (S T : State) (p tag : ℕ) (request : Request) (reply : Reply) (gone : List ℕ) → Step S p tag request reply gone T →
    length T.objects ≡ length S.objects + (if makes_object request reply then 1 else 0)
