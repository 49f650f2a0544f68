-- The last call of a live process succeeds, and so does the end of the layer.
use Rattle.std.proofs.Common.{◌≡◌, ℕ, List, true, false, refl, ap, ◌∙◌}
use Rattle.std.specs.Prelude.{Option, Some, None, map}
use Rattle.ux_model.specs.Types.{Errno, Request, Reply}
use Rattle.ux_model.specs.Process.{Process}
use Rattle.ux_model.specs.State.{State, is_live, process_at, with_process}
use Rattle.ux_model.specs.Outcome.{Outcome, Chosen, own, lacking_memory, failing, answer, refuse}
use Rattle.ux_model.specs.Closing.{exit, off}
use Rattle.ux_model.specs.Step.{Step, outcome}
use Rattle.ux_state.proofs.Lookups.{live_at}

-- an outcome that is a plain success
record Succeeds (o : Outcome) : Type 0 where
  reply : o.reply ≡ Reply.Ok
  memory : o.may_lack_memory ≡ false
  failure : o.failure ≡ None

succeeds : (S T : State) (o : Outcome) (reply : Reply) → Succeeds o → Chosen S o reply T → reply ≡ Reply.Ok
succeeds S T o reply plain (own e f) = e ∙ plain.reply
succeeds S T o reply plain (lacking_memory e may f) = absurd (cc (may, plain.memory))
succeeds S T o reply plain (failing e f) = absurd (cc (f, plain.failure))

abbrev exits_of : State → ℕ → Option Process → Outcome
exits_of S p found = elim found as (λ _. Outcome) [
  | None ↦ refuse S Errno.ESRCH
  | Some P ↦ answer Reply.Ok (with_process S p (record P { exited = true; table = map (λ e. None) P.table }))
]

exit_succeeds : (S : State) (p : ℕ) → is_live S p ≡ true → Succeeds (exit S p)
unfolding exit
exit_succeeds S p live =
    let found : process_at S p ≡ Some (live_at S p live).0 = (live_at S p live).1.found in
    record {
      reply = ap (λ (o : Option Process). (exits_of S p o).reply) found;
      memory = ap (λ (o : Option Process). (exits_of S p o).may_lack_memory) found;
      failure = ap (λ (o : Option Process). (exits_of S p o).failure) found;
    }

off_succeeds : (S : State) → Succeeds (off S)
unfolding off
off_succeeds S = record { reply = refl; memory = refl; failure = refl }

pub exit_is_ok : (S T : State) (p n : ℕ) (request : Request) (reply : Reply) (gone : List ℕ) → request ≡ Request.Exit → is_live S p ≡ true →
    Step S p n request reply gone T → reply ≡ Reply.Ok
unfolding Step outcome
exit_is_ok S T p n Request.Exit reply gone is live step = succeeds S step.0 (exit S p) reply (exit_succeeds S p live) step.1
exit_is_ok S T p n request reply gone is live step = absurd (cc is)

pub off_is_ok : (S T : State) (p n : ℕ) (reply : Reply) (gone : List ℕ) → Step S p n Request.Off reply gone T → reply ≡ Reply.Ok
unfolding Step outcome
off_is_ok S T p n reply gone step = succeeds S step.0 (off S) reply (off_succeeds S) step.1
