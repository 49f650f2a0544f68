-- A run that is broken off where it had ended.
use Rattle.std.proofs.Common.{◌≡◌, true, false, List, [], ◌++◌, sym, ◌∙◌, subst, append-nil}
use Rattle.ux_model.specs.Types.{Pid, Entry}
use Rattle.ux_model.specs.State.{State}
use Rattle.ux_model.specs.History.{IsLegal}
use Rattle.ux_syntax.specs.Spelling.{Plan}
use Rattle.ux_replay.specs.Runs.{HasBegun, requests_of}
use Rattle.ux_orders.specs.declared.ran.Ran.{Ran}
use Rattle.ux_orders.specs.Orders.{entries_of, IsRunOf}
use Rattle.ux_orders.specs.Outcomes.{is_broken_off}
use Rattle.ux_orders.specs.Lists.{pids_of, MakesList}

-- who has made all calls has made the first of them
begun : (boot : State) (s : Plan) (a : Ran) → IsRunOf boot s a → HasBegun boot s (entries_of a)
begun boot s (Ran.Whole entries) run = record {
  legal = run.legal;
  calls =
      λ p known. ([], append-nil (requests_of p entries.items) ∙ run.calls p known);
}
begun boot s (Ran.Deadlock entries waits) run = run
begun boot s (Ran.BrokenOff entries) run = run

pub broken : (boot : State) (s : Plan) (a r : Ran) → entries_of r ≡ entries_of a → is_broken_off r ≡ true →
    IsRunOf boot s a → IsRunOf boot s r
broken boot s a (Ran.Whole entries) same e run = absurd cc
broken boot s a (Ran.Deadlock entries waits) same e run = absurd cc
broken boot s a (Ran.BrokenOff entries) same e run = subst (λ (es : List Entry). HasBegun boot s es) (sym same) (begun boot s a run)

pub made : (pids : List Pid) (ran : Ran) → is_broken_off ran ≡ false → (rest : List Pid) × (pids_of (entries_of ran) ≡ pids ++ rest) →
    MakesList pids ran
made pids (Ran.Whole entries) e list = list
made pids (Ran.Deadlock entries waits) e list = list
made pids (Ran.BrokenOff entries) e list = absurd cc

pub made_first : (pids : List Pid) (ran : Ran) → is_broken_off ran ≡ true → (rest : List Pid) × (pids ≡ pids_of (entries_of ran) ++ rest) →
    MakesList pids ran
made_first pids (Ran.Whole entries) e list = absurd cc
made_first pids (Ran.Deadlock entries waits) e list = absurd cc
made_first pids (Ran.BrokenOff entries) e list = list

pub legal_of : (boot : State) (s : Plan) (ran : Ran) → IsRunOf boot s ran → IsLegal boot (entries_of ran)
legal_of boot s ran run = let first = begun boot s ran run in first.legal
