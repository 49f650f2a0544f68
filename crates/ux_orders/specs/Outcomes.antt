-- What runs of a script come to.
use Rattle.std.specs.Prelude.{◌≡◌, ◌<◌, ◌≤◌, ◌⊎◌, ℕ, Bool, true, false, ◌==◌, List, [], ◌∷◌, ◌++◌, slice_index_or, slice_set, map, filter}
use Rattle.std.specs.Prelude.{length}
use Rattle.std.specs.List.{AllByRecursion}
use Rattle.ux_model.specs.Types.{Reply, Entry}
use Rattle.ux_model.specs.State.{State}
use Rattle.ux_syntax.specs.Spelling.{Plan, known_count}
use Rattle.ux_orders.specs.Orders.{entries_of, IsRunOf}
use Rattle.ux_orders.specs.declared.ran.Ran.{Ran}

-- a reply, and the file objects that were closed with it
abbrev pub answer_of : Entry → Reply × List ℕ
answer_of e = (e.reply, e.released)

-- how a process was answered, in order
abbrev pub answers_of : ℕ → List Entry → List (Reply × List ℕ)
answers_of p entries = map answer_of (filter (λ e. e.pid.0 == p) entries)

-- each of so many processes, and nobody, was answered alike
abbrev pub SameAnswers : ℕ → List Entry → List Entry → Type 0
SameAnswers n a b = (p : ℕ) → p ≤ n → answers_of p a ≡ answers_of p b

-- Each process was answered alike in both runs, and all lines were made, or the same processes wait in the same lines. A run that was
-- broken off has no outcome.
abbrev pub SameOutcome : ℕ → Ran → Ran → Type 0
SameOutcome n (Ran.Whole a) (Ran.Whole b) = SameAnswers n a.items b.items
SameOutcome n (Ran.Deadlock a v) (Ran.Deadlock b w) = (v.items ≡ w.items) × SameAnswers n a.items b.items
SameOutcome n _ _ = ⊥

-- the run was broken off
abbrev pub is_broken_off : Ran → Bool
is_broken_off (Ran.BrokenOff entries) = true
is_broken_off _ = false

-- each process that is left has to wait
abbrev pub is_deadlock : Ran → Bool
is_deadlock (Ran.Deadlock entries waits) = true
is_deadlock _ = false

-- a run of the script to its end from this state
pub record IsRun (boot : State) (s : Plan) (ran : Ran) : Type 0 where
  pub run : IsRunOf boot s ran
  pub ended : is_broken_off ran ≡ false

-- one of these runs has the outcome of this one, and isn't longer
abbrev pub HasOutcome : ℕ → List Ran → Ran → Type 0
HasOutcome n [] ran = ⊥
HasOutcome n (known ∷ more) ran = (SameOutcome n ran known × (length (entries_of known) ≤ length (entries_of ran))) ⊎ HasOutcome n more ran

-- The list that is kept after this run is the one before with the run behind it; or another in it has the same outcome, and it stands in
-- that one's place, where that one is longer, or else the list is as it was.
pub data Keeps (n : ℕ) (old new : List Ran) (ran : Ran) : Type 0 where
  added : new ≡ old ++ ran ∷ [] → Keeps n old new ran
  replaced : (i : ℕ) → i < length old → SameOutcome n ran (slice_index_or old i ran) →
      length (entries_of ran) ≤ length (entries_of (slice_index_or old i ran)) → new ≡ slice_set old i ran → Keeps n old new ran
  known : (i : ℕ) → i < length old → SameOutcome n ran (slice_index_or old i ran) →
      length (entries_of (slice_index_or old i ran)) ≤ length (entries_of ran) → new ≡ old → Keeps n old new ran

-- each outcome that was kept is kept still
abbrev pub KeepsAll : Plan → List Ran → List Ran → Type 0
KeepsAll s old new = (ran : Ran) → HasOutcome (known_count s) old ran → HasOutcome (known_count s) new ran

-- so many runs of the script from this state were made to their end, and the outcome of each is that of one of these, which isn't longer
pub record Cover (boot : State) (s : Plan) (orders : ℕ) (outcomes : List Ran) : Type 0 where
  pub runs : List Ran
  pub counted : length runs ≡ orders
  pub each : AllByRecursion (IsRun boot s) runs
  pub covered : AllByRecursion (HasOutcome (known_count s) outcomes) runs
