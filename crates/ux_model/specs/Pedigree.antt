-- Through whose hands a descriptor came.
use Rattle.std.specs.Prelude.{◌≡◌, ℕ, suc, ◌<◌, Bool, true, false, ◌&&◌, not, List, [], ◌∷◌, ◌++◌, length, take, Option, Some}
use Rattle.std.specs.List.{slice_get}
use Rattle.ux_model.specs.Types.{Entry, How, Link}
use Rattle.ux_model.specs.State.{State}
use Rattle.ux_model.specs.Delivered.{delivered_by}
use Rattle.ux_model.specs.History.{replay}
use Rattle.ux_model.specs.Giving.{is_held, given, gives, how_of, copied, sent_by}

-- the state in which the call with number j was made
abbrev pub before : State → List Entry → ℕ → State
before boot entries j = replay boot (take j entries)

-- call j took the number away: it stood in the process's table before, and doesn't after
abbrev pub takes_away : State → List Entry → ℕ → ℕ → ℕ → Bool
takes_away boot entries j p n = is_held (before boot entries j) p n && not (is_held (before boot entries (suc j)) p n)

-- A holding stands until call until: between that and its own, no call gives the number anew or takes it away.
pub record Stands (boot : State) (entries : List Entry) (a : Link) (until : ℕ) : Type 0 where
  pub earlier : a.entry < until
  pub untouched : (j : ℕ) (e : Entry) → a.entry < j → j < until → slice_get entries j ≡ Some e →
      (gives (before boot entries j) e a.pid.0 a.fd.0 ≡ false) × (takes_away boot entries j a.pid.0 a.fd.0 ≡ false)

-- the tag of the message of which a call that was made in state S delivered rights
abbrev pub delivered : State → Entry → Option ℕ
delivered S e = delivered_by S e.pid.0 e.request e.reply

-- the link's entry gave its process the number, and in this way
pub record IsGiven (boot : State) (entries : List Entry) (b : Link) (e : Entry) : Type 0 where
  pub there : slice_get entries b.entry ≡ Some e
  pub gave : gives (before boot entries b.entry) e b.pid.0 b.fd.0 ≡ true
  pub way : how_of e.request (delivered (before boot entries b.entry) e) ≡ Some b.how

-- The message with this tag carried the sender's number, as the right that got the receiver's number: it was sent as the ith, and the
-- receiver's is the ith that was installed.
pub record IsCarried (boot : State) (entries : List Entry) (tag : ℕ) (a b : Link) (e : Entry) : Type 0 where
  pub sending : Entry
  pub there : slice_get entries tag ≡ Some sending
  pub sender : sending.pid.0 ≡ a.pid.0
  pub place : ℕ
  pub installed : slice_get (given (before boot entries b.entry) e.pid.0 e.request e.reply) place ≡ Some b.fd.0
  pub right : slice_get (sent_by sending.request) place ≡ Some a.fd.0

-- b, taken by entry e, was given from a, by the call with number giving
abbrev pub IsFrom : State → List Entry → How → Link → Link → Entry → ℕ → Type 0
IsFrom boot entries How.Made a b e giving = ⊥
IsFrom boot entries How.Dup a b e giving = (giving ≡ b.entry) × (a.pid.0 ≡ e.pid.0) × (copied e.request ≡ Some a.fd.0)
IsFrom boot entries (How.Received tag) a b e giving = (giving ≡ tag) × IsCarried boot entries tag a b e
IsFrom boot entries How.Forked a b e giving = (giving ≡ b.entry) × (a.pid.0 ≡ e.pid.0) × (a.fd.0 ≡ b.fd.0)

-- The chain leads from the call that made a description to this last link.
pub data IsChain (boot : State) (entries : List Entry) : List Link → Link → Type 0 where
  first : (b : Link) (e : Entry) → IsGiven boot entries b e → b.how ≡ How.Made → IsChain boot entries (b ∷ []) b
  onward : {chain : List Link} (a b : Link) (e : Entry) (giving : ℕ) → IsChain boot entries chain a → Stands boot entries a giving →
      IsGiven boot entries b e → IsFrom boot entries b.how a b e giving → IsChain boot entries (chain ++ b ∷ []) b

-- a chain that leads to the number of this process, which stands to the history's end
pub record IsPedigree (boot : State) (entries : List Entry) (chain : List Link) (p n : ℕ) : Type 0 where
  pub last : Link
  pub leads : IsChain boot entries chain last
  pub process : last.pid.0 ≡ p
  pub number : last.fd.0 ≡ n
  pub stands : Stands boot entries last (length entries)
