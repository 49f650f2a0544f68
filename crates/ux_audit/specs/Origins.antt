-- Where a holding came from, by the entry that gave it.
use Rattle.std.specs.Prelude.{◌≡◌, ℕ, ◌<◌, ◌≤◌, true, false, List, Some, MatchOption}
use Rattle.std.specs.List.{slice_get}
use Rattle.ux_model.specs.Types.{Entry, How, Link}
use Rattle.ux_model.specs.State.{State}
use Rattle.ux_model.specs.History.{IsLegal}
use Rattle.ux_model.specs.Giving.{how_of}
use Rattle.ux_model.specs.Pedigree.{IsFrom}
use Rattle.ux_audit.specs.Shown.{gave}
use Rattle.ux_audit.specs.declared.hands.Giver.{Giver}
use Rattle.ux_audit.specs.declared.hands.HoldingOrigin.{HoldingOrigin}

-- the entry at place j gave the process the number
abbrev pub GivesAt : List Entry → ℕ → ℕ → ℕ → Type 0
GivesAt entries p n j = (e : Entry) → slice_get entries j ≡ Some e → gave e p n ≡ true

-- from the one place on and before the other, none did
abbrev pub NoneGives : List Entry → ℕ → ℕ → ℕ → ℕ → Type 0
NoneGives entries p n from until = (k : ℕ) (e : Entry) → from ≤ k → k < until → slice_get entries k ≡ Some e → gave e p n ≡ false

-- in no legal history did the entry at place j give anybody the number
abbrev pub NeverGiven : List Entry → ℕ → ℕ → Type 0
NeverGiven entries n j = (boot : State) (q : ℕ) (e : Entry) → IsLegal boot entries → slice_get entries j ≡ Some e → gave e q n ≡ true → ⊥

-- whoever holds the giver's number, a holding that entry e at place j gave with number n is from that one
pub record IsGiver (entries : List Entry) (j n : ℕ) (e : Entry) (how : How) (g : Giver) : Type 0 where
  pub earlier : g.until ≤ j
  pub hands_on : (boot : State) (a b : Link) → IsLegal boot entries → a.pid.0 ≡ g.pid.0 → a.fd.0 ≡ g.fd.0 → b.entry ≡ j → b.fd.0 ≡ n →
      IsFrom boot entries how a b e g.until

pub record IsOrigin (entries : List Entry) (j n : ℕ) (e : Entry) (o : HoldingOrigin) : Type 0 where
  pub way : how_of e.request e.delivered ≡ Some o.how
  pub from : MatchOption o.from (o.how ≡ How.Made) (IsGiver entries j n e o.how)
