-- Runs are legal histories; and where no outcome is a deadlock, none is.
use Rattle.std.proofs.Common.{◌≡◌, ⊎_elim, ℕ, false, List, [], ◌∷◌, refl}
use Rattle.std.specs.List.{AllByRecursion, list_any}
use Rattle.std.proofs.lemmas.Bool.{or_parts}
use Rattle.ux_model.specs.Types.{Entry}
use Rattle.ux_model.specs.State.{State}
use Rattle.ux_model.specs.History.{has_live, replay}
use Rattle.ux_syntax.specs.Spelling.{Plan, known_count}
use Rattle.ux_orders.specs.declared.ran.Ran.{Ran}
use Rattle.ux_orders.specs.Outcomes.{SameOutcome, HasOutcome, IsRun, is_deadlock}
use Rattle.ux_orders.specs.Threads.{HasCalls, KnowsAll}
use Rattle.ux_orders.proofs.Breaking.{legal_of}
use Rattle.library_examples.specs.Histories.{IsHistory, LeavesNone}

-- those of the runs of one script
pub all_legal : (boot : State) (s : Plan) (runs : List Ran) → AllByRecursion (IsRun boot s) runs → AllByRecursion IsHistory runs
all_legal boot s [] all = all
all_legal boot s (run ∷ runs) all = ((boot, legal_of boot s run all.0.run), all_legal boot s runs all.1)

-- ---- no deadlock

same_end : (n : ℕ) (a b : Ran) → SameOutcome n a b → is_deadlock b ≡ false → is_deadlock a ≡ false
same_end n (Ran.Whole a) b same e = refl
same_end n (Ran.Deadlock a v) (Ran.Whole b) same e = absurd same
same_end n (Ran.Deadlock a v) (Ran.Deadlock b w) same e = e
same_end n (Ran.Deadlock a v) (Ran.BrokenOff b) same e = absurd same
same_end n (Ran.BrokenOff a) b same e = refl

no_deadlock : (n : ℕ) (outcomes : List Ran) (ran : Ran) → list_any (λ r. is_deadlock r) outcomes ≡ false → HasOutcome n outcomes ran →
    is_deadlock ran ≡ false
no_deadlock n [] ran none has = absurd has
no_deadlock n (known ∷ more) ran none has =
    let neither = or_parts (is_deadlock known) (list_any (λ r. is_deadlock r) more) none in
    ⊎_elim {C = is_deadlock ran ≡ false} (λ here. same_end n ran known here.0 neither.0)
    (λ there. no_deadlock n more ran neither.1 there) has

none_left : (boot : State) (calls : List Entry) (ran : Ran) → HasCalls boot calls ran → is_deadlock ran ≡ false →
    has_live (replay boot calls) ≡ false
none_left boot calls (Ran.Whole entries) has e = has.1
none_left boot calls (Ran.Deadlock entries waits) has e = absurd cc
none_left boot calls (Ran.BrokenOff entries) has e = absurd has

-- where all is known and no outcome is a deadlock
pub leaves_none : (boot : State) (s : Plan) (outcomes : List Ran) → KnowsAll boot s outcomes →
    list_any (λ r. is_deadlock r) outcomes ≡ false → LeavesNone boot s.lines
leaves_none boot s outcomes knows none = λ calls all.
    let known = knows calls all in
    none_left boot calls known.ran known.has (no_deadlock (known_count s) outcomes known.ran none known.known)
