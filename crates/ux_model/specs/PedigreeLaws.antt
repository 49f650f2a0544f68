-- Laws of pedigrees.
use Rattle.std.specs.Prelude.{◌≡◌, ◌≢◌, None, ℕ, suc, ◌<◌, List, length, Some}
use Rattle.std.specs.List.{slice_get}
use Rattle.ux_model.specs.Types.{Entry, How, Link}
use Rattle.ux_model.specs.Message.{Message}
use Rattle.ux_model.specs.Socket.{Socket}
use Rattle.ux_model.specs.State.{State, socket_at, table_of}
use Rattle.ux_model.specs.Sending.{descriptions_behind}
use Rattle.ux_model.specs.History.{replay, IsLegal}
use Rattle.ux_model.specs.Giving.{description_of, sent_by}
use Rattle.ux_model.specs.Pedigree.{before, delivered, IsPedigree}

-- the message is of an entry that sent its rights
pub record IsSent (boot : State) (entries : List Entry) (m : Message) : Type 0 where
  pub sending : Entry
  pub there : slice_get entries m.tag ≡ Some sending
  pub rights : descriptions_behind (table_of (before boot entries m.tag) sending.pid.0) (sent_by sending.request) ≡ Some m.rights

-- each message with rights that nobody has received was sent
abbrev pub MessagesAreSent : Type 0
MessagesAreSent =
    (boot : State) (entries : List Entry) (d k : ℕ) (s : Socket) (m : Message) → IsLegal boot entries →
    socket_at (replay boot entries) d ≡ Some s →
    slice_get s.queue k ≡ Some m → 0 < length m.rights → IsSent boot entries m

-- the chain of a holding is one alone
abbrev pub ChainIsOne : Type 0
ChainIsOne =
    (boot : State) (entries : List Entry) (p n : ℕ) (chain other : List Link) → IsLegal boot entries → IsPedigree boot entries chain p n →
    IsPedigree boot entries other p n → chain ≡ other

-- the holding of this link, once it was taken, leads to this description
abbrev pub LeadsTo : State → List Entry → ℕ → Link → Type 0
LeadsTo boot entries d b = description_of (before boot entries (suc b.entry)) b.pid.0 b.fd.0 ≡ Some d

-- all holdings of a chain lead to one description, and so does the number at the history's end
pub record OfOneDescription (boot : State) (entries : List Entry) (chain : List Link) (p n : ℕ) : Type 0 where
  pub description : ℕ
  pub each : (i : ℕ) (b : Link) → slice_get chain i ≡ Some b → LeadsTo boot entries description b
  pub at_the_end : description_of (replay boot entries) p n ≡ Some description

abbrev pub PedigreeIsOfOne : Type 0
PedigreeIsOfOne =
    (boot : State) (entries : List Entry) (chain : List Link) (p n : ℕ) → IsLegal boot entries → IsPedigree boot entries chain p n →
    OfOneDescription boot entries chain p n

-- no call of process q delivered it a right
abbrev pub WasSentNothing : State → List Entry → ℕ → Type 0
WasSentNothing boot entries q =
    (j : ℕ) (e : Entry) → slice_get entries j ≡ Some e → e.pid.0 ≡ q → delivered (before boot entries j) e ≡ None

-- who was sent nothing holds only what it made, copied or inherited: no link of its own is a receipt
abbrev pub HoldsOnlyItsOwn : Type 0
HoldsOnlyItsOwn =
    (boot : State) (entries : List Entry) (chain : List Link) (p n q : ℕ) → IsLegal boot entries → IsPedigree boot entries chain p n →
    WasSentNothing boot entries q → (i tag : ℕ) (b : Link) → slice_get chain i ≡ Some b → b.pid.0 ≡ q → b.how ≢ How.Received tag
