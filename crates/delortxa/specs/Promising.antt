-- What the processes of a layer promise.
use Rattle.std.specs.Prelude.{◌≡◌, ℕ, suc, List, [], ◌∷◌, Option, Some, None}
use Rattle.std.specs.List.{slice_get}
use Rattle.ux_model.specs.Types.{Pid, Request, Reply, Entry}
use Rattle.ux_book.specs.Pasts.{Caller, calls_by, made}

-- what each process gave is as the program promises of it, by their numbers
abbrev pub EachPromises : {P T : Type 0} → (Pid → P → T → Type 0) → P → List T → Type 0
EachPromises {P} {T} promise program outputs = (i : ℕ) (output : T) → slice_get outputs i ≡ Some output →
    promise (record { 0 = suc i }) program output

-- So of what it gave and of the calls that it made: these and its exit are its calls among all entries.
abbrev pub EachPromisesCalls : {P T : Type 0} → (Pid → P → T → Caller → Type 0) → P → List T → List Entry → Type 0
EachPromisesCalls {P} {T} promise program outputs entries = (i : ℕ) (output : T) → slice_get outputs i ≡ Some output →
    (c : Caller) × promise (record { 0 = suc i }) program output c × (calls_by c.pid.0 entries ≡ (made c Request.Exit Reply.Ok).past)

-- a process gave this, and has exited after the calls that are promised of it
abbrev pub Ended : {P T : Type 0} → (Pid → P → T → Caller → Type 0) → Pid → P → T × Caller → Type 0
Ended promise pid program gone = (c : Caller) × promise pid program gone.0 c × (gone.1 ≡ made c Request.Exit Reply.Ok)

-- ---- processes that others make

-- What each child gave is as the program promises of it, of some task and of the calls that it made: these and its exit are its calls among
-- all entries.
abbrev pub EachChildPromises : {P T C : Type 0} → (Pid → P → T → C → Caller → Type 0) → P → List (Pid × C) → List Entry → Type 0
EachChildPromises {P} {T} {C} promise program children entries = (i : ℕ) (child : Pid × C) → slice_get children i ≡ Some child →
    (task : T) × (c : Caller) × promise child.0 program task child.1 c × (calls_by c.pid.0 entries ≡ (made c Request.Exit Reply.Ok).past)

-- a child gave this, and has exited after the calls that are promised of it
abbrev pub EndedAsChild : {P T C : Type 0} → (Pid → P → T → C → Caller → Type 0) → P → (Pid × C) × Caller → Type 0
EndedAsChild {P} {T} promise program gone = (task : T) × (c : Caller) × promise gone.0.0 program task gone.0.1 c ×
    (gone.1 ≡ made c Request.Exit Reply.Ok)

-- so it is of each
abbrev pub EachEnded : {T : Type 0} → (T → Type 0) → List T → Type 0
EachEnded {T} has_ended all = (i : ℕ) (x : T) → slice_get all i ≡ Some x → has_ended x

-- those that are there
abbrev pub present : {A : Type 0} → List (Option A) → List A
present [] = []
present (Some x ∷ options) = x ∷ present options
present (None ∷ options) = present options
