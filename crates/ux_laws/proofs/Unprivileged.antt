-- A process without privileges stays so, of its user and group, through the changes of calls, and a child is what its parent is.
use Rattle.std.proofs.Common.{◌≡◌, ◌⊎◌, inl, inr, ℕ, zero, suc, ◌+◌, ◌≤◌, ◌==◌, ◌&&◌, ◌||◌, not, true, false, List, [], ◌∷◌, ◌++◌, length}
use Rattle.std.proofs.Common.{map, set, Some, refl, ap, sym, subst, ◌∙◌, arith}
use Rattle.std.specs.Prelude.{nat_le}
use Rattle.std.specs.List.{slice_get}
use Rattle.std.proofs.lemmas.Bool.{eqb-true, and_parts, false≢true}
use Rattle.ux_model.specs.Types.{Request, Reply, Entry}
use Rattle.ux_model.specs.Limits.{made_limit}
use Rattle.ux_model.specs.Process.{Process}
use Rattle.ux_model.specs.State.{State, process_at, next_process, with_process, with_child}
use Rattle.ux_model.specs.Outcome.{Outcome, Chosen, own, lacking_memory, failing}
use Rattle.ux_model.specs.Users.{may_become, with_ids}
use Rattle.ux_model.specs.Forking.{child_of, fork}
use Rattle.ux_model.specs.Closing.{with_nothing_open}
use Rattle.ux_model.specs.Release.{drop_unreferenced, settled}
use Rattle.ux_model.specs.Step.{Step, outcome}
use Rattle.ux_model.specs.History.{makes, IsLegal}
use Rattle.ux_model.specs.Pedigree.{before}
use Rattle.ux_model.proofs.Changes.Walk.{either, maybe}
use Rattle.ux_model.proofs.Lists.ChangedPlaces.{rest_of}
use Rattle.ux_model.proofs.Lists.Induction.{get_pushed}
use Rattle.ux_model.proofs.Lists.ByPlace.{get_within}
use Rattle.ux_model.proofs.Changes.Reaching.{May, may_change, Reaches, still, process_changed, process_forked, description_made, peers_made}
use Rattle.ux_model.proofs.Changes.Reaching.{object_made, path_made, connection_made, description_changed, object_changed, paths_taken}
use Rattle.ux_model.proofs.Changes.Reaching.{path_bound, name_bound}
use Rattle.ux_model.proofs.Changes.Reaching.{turned_off, IsOfSameUser}
use Rattle.ux_model.proofs.Steps.Calls.{each_obeys, chosen_reached}
use Rattle.ux_model.proofs.Processes.Living.{settled_keeps, fork_fails_not}
use Rattle.ux_model.proofs.Steps.ChangedIds.{Becomes, ids_chosen}
use Rattle.ux_model.proofs.Pedigrees.Moments.{moment}
use Rattle.ux_laws.specs.Users.{StaysUnprivileged, UnprivilegedStaySo, ChildrenAreOfTheirParents}

-- ---- a list with one more element, or with one changed

front_stays : (Ps : List Process) (C : Process) (j : ℕ) (R : Process) → slice_get Ps j ≡ Some R → slice_get (Ps ++ C ∷ []) j ≡ Some R
front_stays [] C j R h = absurd (cc h)
front_stays (P ∷ Ps) C zero R h = h
front_stays (P ∷ Ps) C (suc j) R h = front_stays Ps C j R h

set_stays : (Ps : List Process) (i j : ℕ) (P R Q : Process) → slice_get Ps i ≡ Some P → slice_get Ps j ≡ Some R →
    (slice_get (set Ps i Q) j ≡ Some R) ⊎ ((slice_get (set Ps i Q) j ≡ Some Q) × (P ≡ R))
set_stays [] i j P R Q h g = absurd (cc h)
set_stays (X ∷ Ps) zero zero P R Q h g = let both : Some P ≡ Some R = sym h ∙ g in inr (refl, cc both)
set_stays (X ∷ Ps) zero (suc j) P R Q h g = inl g
set_stays (X ∷ Ps) (suc i) zero P R Q h g = inl g
set_stays (X ∷ Ps) (suc i) (suc j) P R Q h g = set_stays Ps i j P R Q h g

emptied_stays : (Ps : List Process) (j : ℕ) (R : Process) → slice_get Ps j ≡ Some R →
    slice_get (map with_nothing_open Ps) j ≡ Some (with_nothing_open R)
emptied_stays [] j R h = absurd (cc h)
emptied_stays (P ∷ Ps) zero R h = let e : P ≡ R = cc h in ap (λ (w : Process). Some (with_nothing_open w)) e
emptied_stays (P ∷ Ps) (suc j) R h = emptied_stays Ps j R h

-- ---- a process that was P once

record IsStill (P : Process) (p : ℕ) (S : State) : Type 0 where
  process : Process
  there : process_at S p ≡ Some process
  stays : StaysUnprivileged P process

-- what leaves the processes as they are
same_still : {P : Process} {p : ℕ} (S T : State) → T.processes ≡ S.processes → IsStill P p S → IsStill P p T
same_still {P} {p = zero} S T same w = absurd (cc w.there)
same_still {P} {p = suc j} S T same w = record {
  process = w.process;
  there = ap (λ (Ps : List Process). slice_get Ps j) same
      ∙ w.there;
  stays = w.stays;
}

-- a process becomes another that stays as this one, if it is this one
set_still : {P : Process} {p : ℕ} (S : State) (i : ℕ) (X Y : Process) → slice_get S.processes i ≡ Some X →
    (StaysUnprivileged P X → StaysUnprivileged P Y) → IsStill P p S →
    IsStill P p (record S { processes = set S.processes i Y })
set_still {P} {p = zero} S i X Y h becomes w = absurd (cc w.there)
set_still {P} {p = suc j} S i X Y h becomes w = go (set_stays S.processes i j X w.process Y h w.there)
  where
    go : (slice_get (set S.processes i Y) j ≡ Some w.process) ⊎ ((slice_get (set S.processes i Y) j ≡ Some Y) × (X ≡ w.process)) →
        IsStill P (suc j) (record S { processes = set S.processes i Y })
    go (inl other) = record { process = w.process; there = other; stays = w.stays }
    go (inr this) = record { process = Y; there = this.0; stays = becomes (subst (StaysUnprivileged P) (sym this.1) w.stays) }

same_user_stays : (P X Y : Process) → IsOfSameUser X Y → StaysUnprivileged P X → StaysUnprivileged P Y
same_user_stays P X Y same w = record {
  user = same.user ∙ w.user;
  group = same.group ∙ w.group;
  unprivileged = same.privileged
      ∙ w.unprivileged;
}

child_still : {P : Process} {p : ℕ} (S : State) (C : Process) → IsStill P p S → IsStill P p (with_child S C)
child_still {P} {p = zero} S C w = absurd (cc w.there)
child_still {P} {p = suc j} S C w = record { process = w.process; there = front_stays S.processes C j w.process w.there; stays = w.stays }

emptied_still : {P : Process} {p : ℕ} (S T : State) → T.processes ≡ map with_nothing_open S.processes → IsStill P p S → IsStill P p T
emptied_still {P} {p = zero} S T same w = absurd (cc w.there)
emptied_still {P} {p = suc j} S T same w = record {
  process = with_nothing_open w.process;
  there = ap (λ (Ps : List Process). slice_get Ps j) same ∙ emptied_stays S.processes j w.process w.there;
  stays = record { user = w.stays.user; group = w.stays.group; unprivileged = w.stays.unprivileged };
}

-- ---- a call

reached_still : {P : Process} {p : ℕ} (S : State) (may : May) → may.users ≡ false → (T : State) → IsStill P p S → Reaches S may T →
    IsStill P p T
reached_still S may stay T w still = w
reached_still {P} S may stay T w (process_changed {T = U} i X Y r h names kept same) =
    set_still U i X Y h (same_user_stays P X Y (same stay)) (reached_still S may stay U w r)
reached_still S may stay T w (process_forked {T = U} i X r h lives) = child_still U (child_of X) (reached_still S may stay U w r)
reached_still S may stay T w (object_made {T = U} body r makes) = same_still U _ refl (reached_still S may stay U w r)
reached_still S may stay T w (description_made {T = U} D r leads nothing bounds) = same_still U _ refl (reached_still S may stay U w r)
reached_still S may stay T w (peers_made {T = U} D E r peers) = same_still U _ refl (reached_still S may stay U w r)
reached_still S may stay T w (connection_made {T = U} d l cred listener_cred s listener r client free there) =
    same_still U _ refl (reached_still S may stay U w r)
reached_still S may stay T w (description_changed {T = U} d x r keeps) = same_still U _ refl (reached_still S may stay U w r)
reached_still S may stay T w (object_changed {T = U} o old new r h same told) = same_still U _ refl (reached_still S may stay U w r)
reached_still S may stay T w (paths_taken {T = U} keep r told) = same_still U _ refl (reached_still S may stay U w r)
reached_still S may stay T w (path_made {T = U} name o r there told) = same_still U _ refl (reached_still S may stay U w r)
reached_still S may stay T w (path_bound {T = U} name d r told) = same_still U _ refl (reached_still S may stay U w r)
reached_still S may stay T w (name_bound {T = U} name d r shown told) = same_still U _ refl (reached_still S may stay U w r)
reached_still S may stay T w (turned_off {T = U} r told more) = emptied_still U _ refl (reached_still S may stay U w r)

-- without privileges it may become what it is alone
own_ids : (P X : Process) (uid gid : ℕ) → may_become uid gid X ≡ true → StaysUnprivileged P X → StaysUnprivileged P (with_ids uid gid X)
own_ids P X uid gid may w =
    let ids : ((X.uid == uid) && (X.gid == gid)) ≡ true = sym (ap (λ b. b || ((X.uid == uid) && (X.gid == gid))) w.unprivileged) ∙ may in
    let parts = and_parts (X.uid == uid) (X.gid == gid) ids in
    record {
      user = sym (eqb-true X.uid uid parts.0) ∙ w.user;
      group = sym (eqb-true X.gid gid parts.1) ∙ w.group;
      unprivileged = ap (λ b. b && ((uid == 0) || not (X.uid == 0))) w.unprivileged;
    }

ids_still : {P : Process} {p : ℕ} (S T : State) (c uid gid : ℕ) (reply : Reply) → IsStill P p S → (T ≡ S) ⊎ Becomes S c uid gid reply T →
    IsStill P p T
ids_still {P} {p} S T c uid gid reply w (inl same) = subst (IsStill P p) (sym same) w
ids_still {P} {p} S T c uid gid reply w (inr b) = subst (IsStill P p) (sym b.next) (changed c b.there)
  where
    changed : (n : ℕ) → process_at S n ≡ Some b.process → IsStill P p (with_process S n (with_ids uid gid b.process))
    changed zero h = absurd (cc h)
    changed (suc i) h = set_still S i b.process (with_ids uid gid b.process) h (own_ids P b.process uid gid b.may) w

chosen_still : {P : Process} {p : ℕ} (S T : State) (c tag : ℕ) (request : Request) (reply : Reply) →
    Chosen S (outcome S c tag request) reply T → IsStill P p S → IsStill P p T
unfolding outcome
chosen_still S T c tag (Request.SetIds uid gid) reply chosen w = ids_still S T c uid gid reply w (ids_chosen S T c uid gid reply chosen)
chosen_still S T c tag request reply chosen w =
    reached_still S (may_change request) refl T w (chosen_reached S T _ _ reply (each_obeys S c tag request) chosen)

settled_same : (S : State) → (settled S).processes ≡ S.processes
unfolding settled drop_unreferenced
settled_same S = settled_keeps (length S.descriptions) S

step_still : {P : Process} {p : ℕ} (S T : State) (c tag : ℕ) (request : Request) (reply : Reply) (gone : List ℕ) →
    Step S c tag request reply gone T → IsStill P p S → IsStill P p T
unfolding Step
step_still S T c tag request reply gone s w =
    same_still s.0 T (ap State.processes s.3 ∙ settled_same s.0) (chosen_still S s.0 c tag request reply s.1 w)

-- ---- the law

-- some calls later
later_still : {P : Process} {p : ℕ} (boot : State) (es : List Entry) (j n : ℕ) → IsLegal boot es → j + n ≤ length es →
    IsStill P p (before boot es j) → IsStill P p (before boot es (j + n))
later_still {P} {p} boot es j zero legal within w =
    let same : j ≡ j + zero = omega arith in subst (λ (i : ℕ). IsStill P p (before boot es i)) same w
later_still {P} {p} boot es j (suc n) legal within w =
    let x = get_within es (j + n) (omega (arith, within)) in
    let e : Entry = x.0 in
    let next = step_still (before boot es (j + n)) (before boot es (suc (j + n))) e.pid.0 (j + n) e.request e.reply e.released
    (moment boot es (j + n) e legal x.1).steps
    (later_still boot es j n legal (omega (arith, within)) w) in
    let same : suc (j + n) ≡ j + suc n = omega arith in
    subst (λ (i : ℕ). IsStill P p (before boot es i)) same next

pub unprivileged_stay_so : UnprivilegedStaySo
unprivileged_stay_so boot es j k p P Q legal low within here plain there = go (rest_of j k low)
  where
    at_first : IsStill P p (before boot es j)
    at_first = record { process = P; there = here; stays = record { user = refl; group = refl; unprivileged = plain } }

    go : (n : ℕ) × (j + n ≡ k) → StaysUnprivileged P Q
    go (n, is) =
        let at_last : IsStill P p (before boot es k) =
        subst (λ (i : ℕ). IsStill P p (before boot es i)) is (later_still boot es j n legal (omega (arith, within, is)) at_first) in
        let both : Some at_last.process ≡ Some Q = sym at_last.there ∙ there in
        subst (StaysUnprivileged P) (cc both) at_last.stays

-- ---- a child

-- what a fork that made process q leaves
abbrev HasChild : State → ℕ → ℕ → Reply → State → Type 0
HasChild S p q reply T = (P : Process) → process_at S p ≡ Some P → makes q Request.Fork reply ≡ true → process_at T q ≡ Some (child_of P)

fork_has_child : (S : State) (p q : ℕ) → HasChild S p q (fork S p).reply (fork S p).next
unfolding fork
fork_has_child S p q = maybe Q (process_at S p) _ _ (λ P here made. absurd (false≢true made))
    (λ R there. either Q (nat_le made_limit (length S.processes)) _ _ (λ b P here made. absurd (false≢true made))
    (λ b P here made.
    let same : R ≡ P = the_same R P (sym there ∙ here) in
    subst (λ (n : ℕ). process_at (with_child S (child_of R)) n ≡ Some (child_of P)) (eqb-true (next_process S) q made)
    (get_pushed S.processes (child_of R) ∙ ap (λ (w : Process). Some (child_of w)) same)))
  where
    Q : Outcome → Type 0
    Q o = HasChild S p q o.reply o.next

    the_same : (A B : Process) → Some A ≡ Some B → A ≡ B
    the_same A B e = cc e

fork_chosen : (S T : State) (p q : ℕ) (reply : Reply) → Chosen S (fork S p) reply T → HasChild S p q reply T
fork_chosen S T p q reply (own e f) =
    subst (λ (r : Reply). HasChild S p q r T) (sym e)
    (subst (λ (U : State). HasChild S p q (fork S p).reply U) (sym f) (fork_has_child S p q))
fork_chosen S T p q reply (lacking_memory e may f) = λ P here made. absurd (false≢true (sym (ap (makes q Request.Fork) e) ∙ made))
fork_chosen S T p q reply (failing e f) = absurd (cc (f, fork_fails_not S p))

-- no other call makes one
call_chosen : (S T : State) (p q tag : ℕ) (request : Request) (reply : Reply) → Chosen S (outcome S p tag request) reply T → (P : Process) →
    process_at S p ≡ Some P →
    makes q request reply ≡ true → process_at T q ≡ Some (child_of P)
unfolding outcome
call_chosen S T p q tag Request.Fork reply c P here made = fork_chosen S T p q reply c P here made
call_chosen S T p q tag request reply c P here made = absurd (false≢true made)

step_child : (S T : State) (p q tag : ℕ) (request : Request) (reply : Reply) (gone : List ℕ) → Step S p tag request reply gone T →
    (P : Process) → process_at S p ≡ Some P →
    makes q request reply ≡ true → process_at T q ≡ Some (child_of P)
unfolding Step
step_child S T p q tag request reply gone s P here made =
    same_process q (ap State.processes s.3 ∙ settled_same s.0) (call_chosen S s.0 p q tag request reply s.1 P here made)
  where
    same_process : (n : ℕ) → T.processes ≡ State.processes s.0 → process_at s.0 n ≡ Some (child_of P) → process_at T n ≡ Some (child_of P)
    same_process zero same h = absurd (cc h)
    same_process (suc i) same h = ap (λ (Ps : List Process). slice_get Ps i) same ∙ h

pub children_are_of_their_parents : ChildrenAreOfTheirParents
children_are_of_their_parents boot es j q e P Q legal at made here there =
    let child = step_child (before boot es j) (before boot es (suc j)) e.pid.0 q j e.request e.reply e.released
    (moment boot es j e legal at).steps P here made in
    let both : Some (child_of P) ≡ Some Q = sym child ∙ there in
    let same : child_of P ≡ Q = cc both in
    (ap (λ (w : Process). w.uid) (sym same), ap (λ (w : Process). w.gid) (sym same), ap (λ (w : Process). w.privileged) (sym same))
