-- What comes of a change of ids: nothing changes, or its process has the new ids.
use Rattle.std.proofs.Common.{◌≡◌, ◌⊎◌, inl, inr, ℕ, true, ◌==◌, ◌||◌, not, Some, None, refl, ◌∙◌}
use Rattle.std.proofs.lemmas.Bool.{not-false}
use Rattle.ux_model.specs.Types.{Errno, Reply}
use Rattle.ux_model.specs.Process.{Process}
use Rattle.ux_model.specs.State.{State, process_at, with_process}
use Rattle.ux_model.specs.Outcome.{Outcome, Chosen, own, lacking_memory, failing, refuse}
use Rattle.ux_model.specs.Users.{no_id, may_become, with_ids, set_ids}
use Rattle.ux_model.proofs.Changes.Walk.{either, maybe}

pub record Becomes (S : State) (p uid gid : ℕ) (reply : Reply) (T : State) : Type 0 where
  pub process : Process
  pub there : process_at S p ≡ Some process
  pub may : may_become uid gid process ≡ true
  pub done : reply ≡ Reply.Ok
  pub next : T ≡ with_process S p (with_ids uid gid process)

record IsOfIds (S : State) (p uid gid : ℕ) (o : Outcome) : Type 0 where
  next : (o.next ≡ S) ⊎ Becomes S p uid gid o.reply o.next
  failure : o.failure ≡ None

ids_are : (S : State) (p uid gid : ℕ) → IsOfIds S p uid gid (set_ids S p uid gid)
unfolding set_ids
ids_are S p uid gid = maybe (IsOfIds S p uid gid) (process_at S p) _ _ still
    (λ P h. either (IsOfIds S p uid gid) ((uid == no_id) || (gid == no_id)) _ _ (λ b. still)
    (λ b. either (IsOfIds S p uid gid) (not (may_become uid gid P)) _ _ (λ c. still)
    (λ c. record {
      next = inr (record { process = P; there = h; may = not-false (may_become uid gid P) c; done = refl; next = refl });
      failure = refl;
    })))
  where
    still : {e : Errno} → IsOfIds S p uid gid (refuse S e)
    still {e} = record { next = inl refl; failure = refl }

pub ids_chosen : (S T : State) (p uid gid : ℕ) (reply : Reply) → Chosen S (set_ids S p uid gid) reply T →
    (T ≡ S) ⊎ Becomes S p uid gid reply T
ids_chosen S T p uid gid reply (own e f) = go (ids_are S p uid gid).next
  where
    o : Outcome
    o = set_ids S p uid gid

    go : (o.next ≡ S) ⊎ Becomes S p uid gid o.reply o.next → (T ≡ S) ⊎ Becomes S p uid gid reply T
    go (inl same) = inl (f ∙ same)
    go (inr b) = inr (record { process = b.process; there = b.there; may = b.may; done = e ∙ b.done; next = f ∙ b.next })
ids_chosen S T p uid gid reply (lacking_memory e may f) = inl f
ids_chosen S T p uid gid reply (failing e f) = absurd (cc (f, (ids_are S p uid gid).failure))
