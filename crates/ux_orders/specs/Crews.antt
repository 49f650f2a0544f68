-- What the crew of a run keeps: the book, the script's lines, and how far each process has come in them.
use Rattle.std.specs.Prelude.{◌≡◌, ℕ, ◌+◌, ◌<◌, Bool, true, List, ◌∷◌, [], ◌++◌, drop, get_or, length, Some, None, ◌==◌}
use Rattle.std.specs.List.{slice_get, list_any, AllByRecursion}
use Rattle.ux_model.specs.Types.{Pid, Request, Entry}
use Rattle.ux_model.specs.State.{is_live}
use Rattle.ux_model.specs.History.{calls_of}
use Rattle.ux_book.specs.Books.{KeptHistory, state_of, processes, MustWait}
use Rattle.ux_syntax.specs.declared.script.Act.{Act}
use Rattle.ux_syntax.specs.Lines.{Line}
use Rattle.ux_orders.specs.declared.chooser.Ready.{Ready}
use Rattle.ux_orders.specs.declared.member.Next.{Next}
use Rattle.ux_orders.specs.Lists.{pids_of}
use Rattle.ux_orders.specs.Threads.{next_line, call_in, asks, Follows, Threaded}

pub record Crewed : Type 0 where
  pub book : KeptHistory
  pub lines : List Line

-- what a process comes to in these lines behind so many of its calls, and from there on, it comes to in what is left of them
abbrev pub IsLeft : ℕ → ℕ → List Line → List Line → Type 0
IsLeft p k lines left = (come : ℕ → ℕ → Bool) (j : ℕ) → next_line come p (k + j) lines ≡ next_line come p j left

-- each process that lives has its place in the lines, behind which its next ones are
pub record HasPlaces (book : KeptHistory) (lines : List Line) (places : List ℕ) : Type 0 where
  pub each : (p : ℕ) → is_live (state_of book) p ≡ true → IsLeft p (calls_of p book.entries) lines (drop (get_or places p 0) lines)
  pub long : processes book < length places

-- what a crew keeps true
pub record IsCrew (book : KeptHistory) (lines : List Line) (places : List ℕ) : Type 0 where
  pub at : HasPlaces book lines places
  pub threaded : Threaded book.boot lines book.entries

-- the process made the call that it asks for, as one more entry
pub record Steps (old new : Crewed) (pid : Pid) : Type 0 where
  pub entry : Entry
  pub whose : entry.pid ≡ pid
  pub follows : Follows old.book.boot old.lines old.book.entries entry
  pub book : new.book ≡ record { boot = old.book.boot; entries = old.book.entries ++ entry ∷ [] }
  pub lines : new.lines ≡ old.lines

-- what the process asks for, if it asks for a call, would have to wait
abbrev pub IsHeld : Crewed → Pid → Type 0
IsHeld crew pid = (request : Request) → asks crew.book crew.lines pid.0 ≡ Some request → MustWait crew.book pid request

-- What a process does next is this, whose lines are left: where it is a line, that line is the one that it comes to, and behind a call what
-- is left is behind that line.
abbrev pub IsNext : (ℕ → ℕ → Bool) → ℕ → List Line → List Line → Next → Type 0
IsNext come p lines left (Next.Call place) =
    (line : Line) × (slice_get lines place ≡ Some line) × (next_line come p 0 left ≡ Some line)
    × ((request : Request) × (line.act ≡ Act.Call request))
    × ((other : ℕ → ℕ → Bool) (j : ℕ) → next_line other p (j + 1) left ≡ next_line other p j (drop (place + 1) lines))
IsNext come p lines left (Next.Wait place) =
    (line : Line) × (slice_get lines place ≡ Some line) × (next_line come p 0 left ≡ Some line) × (call_in line.act ≡ None)
IsNext come p lines left Next.Exit = next_line come p 0 left ≡ None

-- so is what this process does next, which is its call from there on
pub record IsDueCall (crew : Crewed) (pid : Pid) (place : ℕ) : Type 0 where
  pub line : Line
  pub request : Request
  pub stands : slice_get crew.lines place ≡ Some line
  pub calls : line.act ≡ Act.Call request
  pub asked : asks crew.book crew.lines pid.0 ≡ Some request
  pub left : IsLeft pid.0 (calls_of pid.0 crew.book.entries + 1) crew.lines (drop (place + 1) crew.lines)

abbrev pub IsDue : Crewed → Pid → Next → Type 0
IsDue crew pid (Next.Call place) = IsDueCall crew pid place
IsDue crew pid (Next.Wait place) = asks crew.book crew.lines pid.0 ≡ None
IsDue crew pid Next.Exit = asks crew.book crew.lines pid.0 ≡ Some Request.Exit

-- some process made the call that it asks for
pub record Makes (old new : Crewed) : Type 0 where
  pub pid : Pid
  pub steps : Steps old new pid

-- the first of these made their calls, and the next of them is held
pub record StopsAt (crew : Crewed) (pids : List Pid) : Type 0 where
  pub before : List Pid
  pub pid : Pid
  pub behind : List Pid
  pub all : pids ≡ before ++ pid ∷ behind
  pub made : pids_of crew.book.entries ≡ before
  pub held : IsHeld crew pid

-- the process is one of these
abbrev pub is_among : Pid → List Ready → Bool
is_among pid ready = list_any (λ one. one.pid.0 == pid.0) ready

-- each process that asks for a call is one of these
abbrev pub HasReady : Crewed → List Ready → Type 0
HasReady crew ready = (pid : Pid) (request : Request) → asks crew.book crew.lines pid.0 ≡ Some request → is_among pid ready ≡ true

-- each of these is held
abbrev pub AreHeld : Crewed → List Ready → Type 0
AreHeld crew ready = AllByRecursion (λ one. IsHeld crew one.pid) ready
