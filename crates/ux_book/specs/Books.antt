-- What a book is, and how it grows.
use Rattle.std.specs.Prelude.{◌≡◌, ℕ, ◌+◌, ◌-◌, ◌≤◌, Bool, true, ◌==◌, ◌&&◌, ◌||◌, List, [], ◌∷◌, ◌++◌, length, count_by, if◌then◌else◌}
use Rattle.atomic_table.specs.Seated.{TableId}
use Rattle.ux_model.specs.Types.{Pid, Request, Reply, Entry, Errno}
use Rattle.ux_model.specs.State.{State}
use Rattle.ux_model.specs.Step.{Step}
use Rattle.ux_model.specs.Delivered.{delivered_by}
use Rattle.ux_model.specs.Waiting.{may_wait}
use Rattle.ux_model.specs.History.{calls_of, live_count, is_exit, is_off, is_fork, replay, is_allowed, MayFollow, IsLegal}
use Rattle.ux_book.specs.Pasts.{Caller}
use Rattle.ux_book.specs.Trails.{Trailed, Owned}

-- a book: where its history began, and its entries
pub record KeptHistory : Type 0 where
  pub boot : State
  pub entries : List Entry

-- the state that a book's history has come to
abbrev pub state_of : KeptHistory → State
state_of book = replay book.boot book.entries

-- how many processes were made, those that have exited too
abbrev pub processes : KeptHistory → ℕ
processes book = length (state_of book).processes

-- the process may make this call, and has made so many
abbrev pub may_call : KeptHistory → ℕ → ℕ → Request → Bool
may_call book p k request = is_allowed (state_of book) p k request && (calls_of p book.entries == k)

-- how often the layer was ended
abbrev pub ends_of : List Entry → ℕ
ends_of entries = count_by (λ e. is_off e.request) entries

-- the last call of a process, or of the layer
abbrev pub is_last : Request → Bool
is_last request = is_exit request || is_off request

-- exit, off and fork, each of which a book has a function for
abbrev pub has_own_call : Request → Bool
has_own_call request = is_last request || is_fork request

-- the entry of a call that a process makes in this state, which reports the message of which rights came with it
abbrev pub entry_of : State → Pid → ℕ → Request → Reply → List ℕ → Entry
entry_of S pid k request reply released =
    record { pid = pid; k = k; request = request; reply = reply; released = released; delivered = delivered_by S pid.0 request reply }

-- the entry of a call that this caller makes at the end of a book
abbrev pub call_by : KeptHistory → Caller → Request → Reply → List ℕ → Entry
call_by book c request reply released = entry_of (state_of book) c.pid (length c.past) request reply released

-- the call may wait, and would have to: it can be answered EAGAIN, which changes nothing
pub record MustWait (book : KeptHistory) (pid : Pid) (request : Request) : Type 0 where
  pub waits : may_wait (state_of book) pid.0 request ≡ true
  pub again : Step (state_of book) pid.0 (length book.entries) request (Reply.Err Errno.EAGAIN) [] (state_of book)

-- the book has this entry more, which may follow
pub record Adds (old new : KeptHistory) (e : Entry) : Type 0 where
  pub next : MayFollow old.boot old.entries e
  pub appended : new ≡ record old { entries = old.entries ++ e ∷ [] }

-- how many entries are still to come at least: each live process's exit, and the layer's end
abbrev pub last_entries : State → List Entry → ℕ
last_entries S entries = live_count S + (1 - ends_of entries)

-- What a book keeps true: its entries are a legal history that leads to the kernel's state, and there is room for the last ones.
-- Its trail has them, and gave a token to each process and to nobody, whose only call is the layer's end.
pub record IsBook (boot : State) (id : TableId) (kernel : State) (trail : Trailed) (own : Owned) (ended : Bool) (space : ℕ) : Type 0 where
  pub legal : IsLegal boot trail.entries
  pub at_replay : kernel ≡ replay boot trail.entries
  pub trail_id : trail.id ≡ id
  pub given : trail.given ≡ length kernel.processes + 1
  pub own_id : own.id ≡ id
  pub own_pid : own.pid ≡ 0
  pub ends : ends_of trail.entries ≡ (if ended then 1 else 0)
  pub nobodys : calls_of 0 trail.entries ≡ ends_of trail.entries
  pub room : last_entries kernel trail.entries ≤ space
