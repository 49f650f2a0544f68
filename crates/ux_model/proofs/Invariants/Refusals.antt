-- A refusal changes nothing, but for a failure of a file object, a pending error and an association to what is gone.
use Rattle.std.proofs.Common.{◌≡◌, ◌⊎◌, inl, inr, ℕ, ◌+◌, ◌==◌, false, ◌&&◌, [], ◌∷◌, ◌++◌, length, Option, Some, None, refl, ap, sym}
use Rattle.std.proofs.Common.{subst, ◌∙◌, arith}
use Rattle.std.specs.Prelude.{is_some, option_map}
use Rattle.ux_model.specs.Types.{Errno}
use Rattle.ux_model.specs.Places.{place}
use Rattle.ux_model.specs.Object.{View, after_failure}
use Rattle.ux_model.specs.Socket.{Socket, with_association, with_reset}
use Rattle.ux_model.specs.Description.{Description, Target, to_object, to_socket, changed, changed_target}
use Rattle.ux_model.specs.State.{State, description_at, with_object, with_socket_by}
use Rattle.ux_model.specs.References.{leads_to, times, queue_refs, socket_refs, refs, orefs}
use Rattle.ux_model.specs.Release.{settled}
use Rattle.ux_model.specs.Asking.{AskingChangesNothing}
use Rattle.ux_model.proofs.Steps.Asking.{each_asks, chosen_asked}
use Rattle.ux_model.specs.Step.{Step, outcome}
use Rattle.ux_model.specs.History.{replay}
use Rattle.ux_model.specs.Invariants.{OneMoreFailure, ResetCleared, AssociationEnded, LeftByRefusal, RefusalChangesNothing}
use Rattle.ux_model.specs.Invariants.{RefusedEntryChangesNothing}
use Rattle.ux_model.proofs.Changes.Reaching.{may_change}
use Rattle.ux_model.proofs.Counting.Moves.{same_target_counts_alike}
use Rattle.ux_model.proofs.Counting.Sockets.{socket_counts, ends_associated}
use Rattle.ux_model.proofs.Lists.OnePlace.{same_at}
use Rattle.ux_model.proofs.Releasing.Settling.{HasNoneLeft, none_left, settled_where_none_left, stays_settled, releases_nothing}
use Rattle.ux_model.proofs.Lists.Induction.{legal_before, last_may}
use Rattle.ux_model.proofs.Steps.Calls.{each_obeys, chosen_left}

-- ---- what a refusal leaves has nothing to release either

-- the same is there, with as many references
left_alike : (S T : State) → ((d : ℕ) → is_some (description_at T d) ≡ is_some (description_at S d)) → ((d : ℕ) → refs T d ≡ refs S d) →
    ((o : ℕ) → is_some (place T.objects o) ≡ is_some (place S.objects o)) → ((o : ℕ) → orefs T o ≡ orefs S o) → settled S ≡ S →
    settled T ≡ T
left_alike S T held counted there led here = go (none_left S here)
  where
    go : HasNoneLeft S → settled T ≡ T
    go left = settled_where_none_left T (record {
      descriptions = λ d. (λ j. held d j && (counted d j == 0)) ∙ left.descriptions d;
      objects = λ o. (λ j. there o j && (led o j == 0)) ∙ left.objects o;
    })

same_refs_objects : (S : State) (o d : ℕ) (view : View) → refs (with_object S o view) d ≡ refs S d
unfolding refs
same_refs_objects S o d view = refl

same_orefs_objects : (S : State) (n o : ℕ) (view : View) → orefs (with_object S n view) o ≡ orefs S o
unfolding orefs
same_orefs_objects S n o view = refl

failure_settled : (S T : State) → OneMoreFailure S T → settled S ≡ S → settled T ≡ T
failure_settled S T one here = subst (λ R. settled R ≡ R) (sym one.left) (left_alike S (with_object S one.object (after_failure one.view))
    (λ d. refl)
    (λ d. same_refs_objects S one.object d (after_failure one.view))
    (λ o. same_at is_some S.objects one.object o (Some (after_failure one.view)) (sym (ap is_some one.there)))
    (λ o. same_orefs_objects S one.object o (after_failure one.view))
    here)

-- a socket changes, and refers to as much
changed_leads : (change : Socket → Socket) (o : ℕ) (t : Target) → leads_to o (changed_target change t) ≡ leads_to o t
changed_leads change o (to_object n) = refl
changed_leads change o (to_socket s) = refl

mapped : (change : Socket → Socket) (x : Option Description) → is_some (option_map (changed change) x) ≡ is_some x
mapped change None = refl
mapped change (Some D) = refl

changed_settled : (S T : State) (n : ℕ) (change : Socket → Socket) →
    ((d : ℕ) (s : Socket) → socket_refs d (change s) + 0 ≡ socket_refs d s + 0) → T ≡ with_socket_by S n change → settled S ≡ S →
    settled T ≡ T
changed_settled S T n change alike left here = subst (λ R. settled R ≡ R) (sym left) (left_alike S (with_socket_by S n change)
    (λ d. same_at is_some S.descriptions n d (option_map (changed change) (description_at S n)) (mapped change (description_at S n)))
    (λ d. let e = socket_counts S n d change (λ s. 0) (λ s. 0) (alike d) in omega (arith, e))
    (λ o. refl)
    (λ o. same_target_counts_alike S n o (changed change) (λ D. changed_leads change o D.target))
    here)

cleared_settled : (S T : State) → ResetCleared S T → settled S ≡ S → settled T ≡ T
cleared_settled S T one here = changed_settled S T one.description (with_reset false) (λ d s. refl) one.left here

-- an association is no reference
ended_refs : (d : ℕ) (s : Socket) → socket_refs d (with_association None s) + 0 ≡ socket_refs d s + 0
ended_refs d s = ap (λ es. queue_refs d s.queue + times d es + 0) (ends_associated None s.phase)

ended_settled : (S T : State) → (T ≡ S) ⊎ AssociationEnded S T → settled S ≡ S → settled T ≡ T
ended_settled S T (inl left) here = ap settled left ∙ here ∙ sym left
ended_settled S T (inr one) here = changed_settled S T one.description (with_association None) ended_refs one.left here

left_settled : (S T : State) (e : Errno) → LeftByRefusal S e T → settled S ≡ S → settled T ≡ T
left_settled S T Errno.EIO left here = failure_settled S T left here
left_settled S T Errno.ECONNRESET left here = cleared_settled S T left here
left_settled S T Errno.ECONNREFUSED left here = ended_settled S T left here
left_settled S T e left here = ap settled left ∙ here ∙ sym left

-- ---- the laws

pub refusal_changes_nothing : RefusalChangesNothing
unfolding Step
refusal_changes_nothing S T p tag request error gone here s =
    let left = chosen_left S s.0 (may_change request) (outcome S p tag request) error (each_obeys S p tag request) s.1 in
    let still = left_settled S s.0 error left here in
    (subst (LeftByRefusal S error) (sym (s.3 ∙ still)) left, s.2 ∙ releases_nothing s.0 still)

pub refused_entry_changes_nothing : RefusedEntryChangesNothing
refused_entry_changes_nothing boot before e error legal h =
    let may = last_may boot before e legal in
    let S : State = replay boot before in
    let T : State = replay boot (before ++ e ∷ []) in
    refusal_changes_nothing S T e.pid.0 (length before) e.request error e.released
    (stays_settled boot before (legal_before boot before e legal))
    (subst (λ r. Step S e.pid.0 (length before) e.request r e.released T) h may.steps)

pub asking_changes_nothing : AskingChangesNothing
unfolding Step
asking_changes_nothing S T p tag request reply gone asking here s =
    let same : s.0 ≡ S = chosen_asked S s.0 (outcome S p tag request) reply (each_asks S p tag request asking) s.1 in
    let still : settled s.0 ≡ s.0 = ap settled same ∙ here ∙ sym same in
    (s.3 ∙ still ∙ same, s.2 ∙ releases_nothing s.0 still)
