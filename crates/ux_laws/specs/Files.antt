-- No file without a way to it: who changes a file object, and who reads it (open(2), pipe2(2), read(2), write(2); unix(7), SCM_RIGHTS).
use Rattle.std.specs.Prelude.{◌≡◌, ◌≢◌, ◌⊎◌, ℕ, suc, ◌≤◌, Bool, true, false, List, [], ◌∷◌, ◌++◌, length, take, Option, Some, None}
use Rattle.std.specs.List.{slice_get}
use Rattle.ux_model.specs.Types.{Fd, Name, Mode, OpenFlags, Request, Reply, Entry, Link, How}
use Rattle.ux_model.specs.Places.{place}
use Rattle.ux_model.specs.Flags.{can_read, can_write}
use Rattle.ux_model.specs.Object.{Body, memory, View, is_memory}
use Rattle.ux_model.specs.Names.{file, named}
use Rattle.ux_model.specs.Description.{object_of}
use Rattle.ux_model.specs.State.{State}
use Rattle.ux_model.specs.Outcome.{find_description}
use Rattle.ux_model.specs.Making.{next_object}
use Rattle.ux_model.specs.History.{makes, replay, IsLegal}
use Rattle.ux_model.specs.Giving.{is_held, given}
use Rattle.ux_model.specs.Pedigree.{before, IsPedigree}
use Rattle.ux_model.specs.PedigreeLaws.{WasSentNothing}
use Rattle.ux_laws.specs.Talking.{if_found}

-- ---- what is in a file object, and what leads there

-- of one that is there
abbrev pub body_in : Option View → Option Body
body_in None = None
body_in (Some view) = Some view.body

abbrev pub body_at : State → ℕ → Option Body
body_at S o = body_in (place S.objects o)

-- the file object that a descriptor of process p leads to
abbrev pub object_behind : State → ℕ → Fd → Option ℕ
object_behind S p fd = elim (if_found (find_description S p fd)) [ None ↦ None | Some found ↦ object_of found.1.target ]

-- ---- ways

-- The link's call opened the file object by a path, in a mode that allows this.
pub record IsOpening (boot : State) (entries : List Entry) (allows : Mode → Bool) (o : ℕ) (b : Link) : Type 0 where
  pub call : Entry
  pub path : Name
  pub mode : Mode
  pub flags : OpenFlags
  pub there : slice_get entries b.entry ≡ Some call
  pub asked : call.request ≡ Request.Open path mode flags
  pub leads : named path (before boot entries b.entry).paths ≡ Some (file o)
  pub allowed : allows mode ≡ true

-- in which modes a call opens the file object that it makes, in the order of the numbers that it gives
abbrev pub made_modes : Request → List Mode
made_modes (Request.Create path mode flags) = mode ∷ []
made_modes (Request.MemFd flags) = Mode.Both ∷ []
made_modes (Request.EventFd value semaphore flags) = Mode.Both ∷ []
made_modes (Request.Pipe flags) = Mode.Read ∷ Mode.Write ∷ []
made_modes _ = []

-- The link's call made the file object, and opened it under the link's number in a mode that allows this.
pub record IsMaking (boot : State) (entries : List Entry) (allows : Mode → Bool) (o : ℕ) (b : Link) : Type 0 where
  pub call : Entry
  pub place : ℕ
  pub mode : Mode
  pub there : slice_get entries b.entry ≡ Some call
  pub number : slice_get (given (before boot entries b.entry) call.pid.0 call.request call.reply) place ≡ Some b.fd.0
  pub opens : slice_get (made_modes call.request) place ≡ Some mode
  pub new : o ≡ next_object (before boot entries b.entry)
  pub allowed : allows mode ≡ true

-- A way begins with either.
pub data BeginsWay (boot : State) (entries : List Entry) (allows : Mode → Bool) (o : ℕ) (b : Link) : Type 0 where
  by_opening : IsOpening boot entries allows o b → BeginsWay boot entries allows o b
  by_making : IsMaking boot entries allows o b → BeginsWay boot entries allows o b

-- A number of process p leads to the file object by a pedigree that begins with such a call.
pub record HasWay (boot : State) (entries : List Entry) (allows : Mode → Bool) (o p n : ℕ) : Type 0 where
  pub first : Link
  pub rest : List Link
  pub pedigree : IsPedigree boot entries (first ∷ rest) p n
  pub begins : BeginsWay boot entries allows o first

-- each number that a process holds has a pedigree
abbrev pub EachHoldingHasAPedigree : Type 0
EachHoldingHasAPedigree = (boot : State) (entries : List Entry) (p n : ℕ) → IsLegal boot entries →
    is_held (replay boot entries) p n ≡ true → (chain : List Link) × IsPedigree boot entries chain p n

-- ---- changes

-- Call j changed what was in the file object.
pub data IsChange (boot : State) (entries : List Entry) (j : ℕ) (e : Entry) (o : ℕ) (old : Body) : Type 0 where
  -- it is a write by a number that leads to an opening for writing
  by_write : (fd : Fd) (bytes : List ℕ) → e.request ≡ Request.Write fd bytes →
      object_behind (before boot entries j) e.pid.0 fd ≡ Some o →
      HasWay boot (take j entries) can_write o e.pid.0 fd.0 → IsChange boot entries j e o old
  -- or a read of a pipe or a counter, which takes what it gives, by one that leads to an opening for reading
  by_read : (fd : Fd) (n : ℕ) → e.request ≡ Request.Read fd n → is_memory old ≡ false →
      object_behind (before boot entries j) e.pid.0 fd ≡ Some o →
      HasWay boot (take j entries) can_read o e.pid.0 fd.0 → IsChange boot entries j e o old

-- a call leaves what is in a file object, or it is such a change
abbrev pub ChangesHaveAWay : Type 0
ChangesHaveAWay = (boot : State) (entries : List Entry) (j o : ℕ) (e : Entry) (old new : Body) → IsLegal boot entries →
    slice_get entries j ≡ Some e → body_at (before boot entries j) o ≡ Some old → body_at (before boot entries (suc j)) o ≡ Some new →
    (new ≡ old) ⊎ IsChange boot entries j e o old

-- ---- reads

-- a read of a file object that is answered its bytes is by a number that leads to an opening for reading
abbrev pub ReadsHaveAWay : Type 0
ReadsHaveAWay = (boot : State) (entries : List Entry) (j o n : ℕ) (e : Entry) (fd : Fd) (bytes : List ℕ) → IsLegal boot entries →
    slice_get entries j ≡ Some e → e.request ≡ Request.Read fd n → object_behind (before boot entries j) e.pid.0 fd ≡ Some o →
    e.reply ≡ Reply.Bytes bytes →
    HasWay boot (take j entries) can_read o e.pid.0 fd.0

-- ---- files that nobody writes

-- No call opens the file object by a path in a mode that allows this.
abbrev pub IsNeverOpened : State → List Entry → (Mode → Bool) → ℕ → Type 0
IsNeverOpened boot entries allows o = (b : Link) → ¬ (IsOpening boot entries allows o b)

-- A memory file that is never opened for writing has at each moment, as long as it is there, the bytes of the start.
abbrev pub UnwrittenFilesStay : Type 0
UnwrittenFilesStay = (boot : State) (entries : List Entry) (j o : ℕ) (bytes : List ℕ) (body : Body) → IsLegal boot entries →
    body_at boot o ≡ Some (memory bytes) → IsNeverOpened boot entries can_write o → body_at (before boot entries j) o ≡ Some body →
    body ≡ memory bytes

-- They stand in the whole one after another.
pub record IsRunOf (bytes whole : List ℕ) : Type 0 where
  pub ahead : List ℕ
  pub behind : List ℕ
  pub joined : whole ≡ ahead ++ bytes ++ behind

-- So what a read of it is answered is a run of these.
abbrev pub ReadsTellTheFile : Type 0
ReadsTellTheFile = (boot : State) (entries : List Entry) (j o n : ℕ) (e : Entry) (fd : Fd) (bytes given : List ℕ) → IsLegal boot entries →
    body_at boot o ≡ Some (memory bytes) → IsNeverOpened boot entries can_write o → slice_get entries j ≡ Some e →
    e.request ≡ Request.Read fd n → object_behind (before boot entries j) e.pid.0 fd ≡ Some o → e.reply ≡ Reply.Bytes given →
    IsRunOf given bytes

-- A path that leads at some moment to a file object of the start is the one that did then.
abbrev pub FilesKeepTheirPath : Type 0
FilesKeepTheirPath = (boot : State) (entries : List Entry) (j o : ℕ) (path other : Name) → IsLegal boot entries →
    named path boot.paths ≡ Some (file o) → named other (before boot entries j).paths ≡ Some (file o) → other ≡ path

-- ---- who was sent nothing

-- Processes, with those that made them, of which none was sent a descriptor.
pub record WereSentNothing (boot : State) (entries : List Entry) (are : ℕ → Bool) : Type 0 where
  pub makers : (j q : ℕ) (e : Entry) → slice_get entries j ≡ Some e → makes q e.request e.reply ≡ true → are q ≡ true →
      are e.pid.0 ≡ true
  pub sent_nothing : (q : ℕ) → are q ≡ true → WasSentNothing boot entries q

-- The chain begins with a call of one of them, which made what its holdings lead to.
pub record BeginsWithACallOf (entries : List Entry) (are : ℕ → Bool) (chain : List Link) : Type 0 where
  pub first : Link
  pub rest : List Link
  pub begins : chain ≡ first ∷ rest
  pub call : Entry
  pub there : slice_get entries first.entry ≡ Some call
  pub made : first.how ≡ How.Made
  pub caller : call.pid.0 ≡ first.pid.0
  pub theirs : are call.pid.0 ≡ true

-- They hold only what they made: the pedigree of each number of theirs begins with a call of their own.
abbrev pub HoldOnlyWhatTheyMade : Type 0
HoldOnlyWhatTheyMade = (boot : State) (entries : List Entry) (are : ℕ → Bool) (chain : List Link) (p n : ℕ) → IsLegal boot entries →
    WereSentNothing boot entries are → are p ≡ true → IsPedigree boot entries chain p n → BeginsWithACallOf entries are chain

-- ---- strangers

-- Such processes, of which none opened this path.
pub record AreStrangers (boot : State) (entries : List Entry) (path : Name) (are : ℕ → Bool) : Type 0 where
  pub sent_nothing : WereSentNothing boot entries are
  pub never_opened : (j : ℕ) (e : Entry) (mode : Mode) (flags : OpenFlags) → slice_get entries j ≡ Some e → are e.pid.0 ≡ true →
      e.request ≢ Request.Open path mode flags

-- No number of theirs leads to the file object that this path names at the start.
abbrev pub StrangersHaveNoWay : Type 0
StrangersHaveNoWay = (boot : State) (entries : List Entry) (path : Name) (are : ℕ → Bool) (j o q : ℕ) (fd : Fd) →
    IsLegal boot entries → named path boot.paths ≡ Some (file o) → AreStrangers boot entries path are → are q ≡ true →
    object_behind (before boot entries j) q fd ≢ Some o

-- So they don't change what is in it.
abbrev pub StrangersChangeNothing : Type 0
StrangersChangeNothing = (boot : State) (entries : List Entry) (path : Name) (are : ℕ → Bool) (j o : ℕ) (e : Entry) (old new : Body) →
    IsLegal boot entries → named path boot.paths ≡ Some (file o) → AreStrangers boot entries path are →
    slice_get entries j ≡ Some e → are e.pid.0 ≡ true → body_at (before boot entries j) o ≡ Some old →
    body_at (before boot entries (suc j)) o ≡ Some new → new ≡ old

-- Nor of one process of the start, which no other made.
abbrev pub StrangerHasNoWay : Type 0
StrangerHasNoWay = (boot : State) (entries : List Entry) (path : Name) (j o q : ℕ) (fd : Fd) → IsLegal boot entries →
    named path boot.paths ≡ Some (file o) → q ≤ length boot.processes → WasSentNothing boot entries q →
    ((i : ℕ) (e : Entry) (mode : Mode) (flags : OpenFlags) → slice_get entries i ≡ Some e → e.pid.0 ≡ q →
    e.request ≢ Request.Open path mode flags) → object_behind (before boot entries j) q fd ≢ Some o
