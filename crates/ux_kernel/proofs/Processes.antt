-- What the calls of a live process come to.
use Rattle.std.proofs.Common.{◌≡◌, ℕ, ◌≤◌, ◌<◌, Bool, true, false, not, if◌then◌else◌, List, [], length, Option, Some, None, map, sym, ◌∙◌}
use Rattle.std.proofs.Common.{ap, refl, subst}
use Rattle.std.specs.Prelude.{◌||◌, ◌==◌, IsSomeAnd}
use Rattle.std.proofs.lemmas.Bool.{false≢true, le-leb, lt-leb}
use Rattle.ux_model.specs.Types.{Errno, Pid, Reply}
use Rattle.ux_model.specs.Limits.{made_limit}
use Rattle.ux_model.specs.Process.{Process, Descriptor, kept_on_exec, pid_of}
use Rattle.ux_model.specs.State.{State, process_at, is_live, table_of, next_process, with_process, with_table, with_child}
use Rattle.ux_model.specs.Outcome.{Outcome, refuse, answer, taking_memory, as_process}
use Rattle.ux_model.specs.Closing.{exit}
use Rattle.ux_model.specs.Forking.{child_of, fork, exec}
use Rattle.ux_model.specs.Users.{no_id, may_become, with_ids, set_ids}

-- a live process has a place
pub live_at : (S : State) (p : ℕ) → is_live S p ≡ true → (P : Process) × (process_at S p ≡ Some P)
live_at S p live = go (process_at S p) refl live
  where
    go : (o : Option Process) → process_at S p ≡ o → (elim o [ Some P ↦ not P.exited | None ↦ false ]) ≡ true →
        (P : Process) × (process_at S p ≡ Some P)
    go None f h = absurd (false≢true h)
    go (Some P) f h = (P, f)

pub exit_reply : (S : State) (p : ℕ) → is_live S p ≡ true → Reply.Ok ≡ (exit S p).reply
unfolding exit
exit_reply S p live = sym (ap (λ o. Outcome.reply (elim o as (λ _. Outcome) [
  | None ↦ refuse S Errno.ESRCH
  | Some P ↦ answer Reply.Ok (with_process S p (record P { exited = true; table = map (λ e. None) P.table }))
])) (live_at S p live).1)

-- ---- fork and exec

-- the outcome of a live process
at_live : (S : State) (p : ℕ) (live : is_live S p ≡ true) (f : Process → Outcome) → as_process S p f ≡ f (live_at S p live).0
at_live S p live f = ap (λ o. elim o as (λ _. Outcome) [ None ↦ refuse S Errno.ESRCH | Some P ↦ f P ]) (live_at S p live).1

pub fork_refused : (S : State) (p : ℕ) → is_live S p ≡ true → made_limit ≤ length S.processes →
    (Reply.Err Errno.EAGAIN ≡ (fork S p).reply) × (S ≡ (fork S p).next)
unfolding fork
fork_refused S p live full =
    let is = at_live S p live _ ∙ ap (λ b. if b then refuse S Errno.EAGAIN
    else taking_memory (Reply.Child (pid_of (next_process S))) (with_child S (child_of (live_at S p live).0)))
    (le-leb made_limit (length S.processes) full) in
    (sym (ap (λ o. Outcome.reply o) is), sym (ap (λ o. Outcome.next o) is))

-- with room for one more
fork_is : (S : State) (p : ℕ) (live : is_live S p ≡ true) → length S.processes < made_limit →
    fork S p ≡ taking_memory (Reply.Child (pid_of (next_process S))) (with_child S (child_of (live_at S p live).0))
unfolding fork
fork_is S p live few = at_live S p live _
    ∙ ap (λ b. if b then refuse S Errno.EAGAIN
    else taking_memory (Reply.Child (pid_of (next_process S))) (with_child S (child_of (live_at S p live).0)))
    (lt-leb made_limit (length S.processes) few)

pub fork_wants : (S : State) (p : ℕ) → is_live S p ≡ true → length S.processes < made_limit → (fork S p).may_lack_memory ≡ true
fork_wants S p live few = ap (λ o. Outcome.may_lack_memory o) (fork_is S p live few)

pub forked : (S T : State) (p : ℕ) (child : Pid) → is_live S p ≡ true → length S.processes < made_limit → child.0 ≡ next_process S →
    ((P : Process) → process_at S p ≡ Some P → T ≡ with_child S (child_of P)) →
    (Reply.Child child ≡ (fork S p).reply) × (T ≡ (fork S p).next)
forked S T p child live few number made =
    let is = fork_is S p live few in (
      ap (λ n. Reply.Child (pid_of n)) number ∙ sym (ap (λ o. Outcome.reply o) is),
      made (live_at S p live).0 (live_at S p live).1
          ∙ sym (ap (λ o. Outcome.next o) is),
    )

pub exec_reply : (S : State) (p : ℕ) → is_live S p ≡ true → Reply.Ok ≡ (exec S p).reply
unfolding exec
exec_reply S p live = sym (ap (λ o. Outcome.reply o) (at_live S p live _))

pub exec_next : (S : State) (p : ℕ) → is_live S p ≡ true → with_table S p (map kept_on_exec (table_of S p)) ≡ (exec S p).next
unfolding exec
exec_next S p live =
    ap (λ o. with_table S p (map kept_on_exec (elim o as (λ _. List (Option Descriptor)) [ Some P ↦ P.table | None ↦ [] ])))
    (live_at S p live).1
    ∙ sym (ap (λ o. Outcome.next o) (at_live S p live _))

-- ---- other ids

-- the outcome of this process, by the two tests
abbrev ids_by : (S : State) (p uid gid : ℕ) (P : Process) (none own : Bool) → Outcome
ids_by S p uid gid P none own =
    if none then refuse S Errno.EINVAL else if not own then refuse S Errno.EPERM
    else answer Reply.Ok (with_process S p (with_ids uid gid P))

abbrev pub has_no_id : ℕ → ℕ → Bool
has_no_id uid gid = (uid == no_id) || (gid == no_id)

ids_is : (S : State) (p uid gid : ℕ) (P : Process) (none own : Bool) → process_at S p ≡ Some P → has_no_id uid gid ≡ none →
    may_become uid gid P ≡ own → set_ids S p uid gid ≡ ids_by S p uid gid P none own
unfolding set_ids
ids_is S p uid gid P none own here a b =
    ap (λ o. elim o as (λ _. Outcome) [
      | None ↦ refuse S Errno.ESRCH
      | Some Q ↦ ids_by S p uid gid Q (has_no_id uid gid) (may_become uid gid Q)
    ]) here
    ∙ ap (λ t. ids_by S p uid gid P t (may_become uid gid P)) a
    ∙ ap (λ t. ids_by S p uid gid P none t) b

pub no_ids_refused : (S : State) (p uid gid : ℕ) → is_live S p ≡ true → has_no_id uid gid ≡ true →
    (Reply.Err Errno.EINVAL ≡ (set_ids S p uid gid).reply) × (S ≡ (set_ids S p uid gid).next)
no_ids_refused S p uid gid live none =
    let is = ids_is S p uid gid (live_at S p live).0 true _ (live_at S p live).1 none refl in
    (sym (ap (λ o. Outcome.reply o) is), sym (ap (λ o. Outcome.next o) is))

-- what a test says of the process of a number
by_process : (S : State) (p : ℕ) (P : Process) (holds : Process → Type 0) → process_at S p ≡ Some P → IsSomeAnd (process_at S p) holds →
    holds P
by_process S p P holds here said = subst (λ o. IsSomeAnd o holds) here said

pub others_ids_refused : (S : State) (p uid gid : ℕ) (own : Bool) → is_live S p ≡ true → has_no_id uid gid ≡ false →
    IsSomeAnd (process_at S p) (λ P. own ≡ may_become uid gid P) → own ≡ false →
    (Reply.Err Errno.EPERM ≡ (set_ids S p uid gid).reply) × (S ≡ (set_ids S p uid gid).next)
others_ids_refused S p uid gid own live some said others =
    let P = (live_at S p live).0 in
    let here = (live_at S p live).1 in
    let is = ids_is S p uid gid P false false here some (sym (by_process S p P (λ P. own ≡ may_become uid gid P) here said) ∙ others) in
    (sym (ap (λ o. Outcome.reply o) is), sym (ap (λ o. Outcome.next o) is))

pub ids_taken : (S T : State) (p uid gid : ℕ) (own : Bool) → is_live S p ≡ true → has_no_id uid gid ≡ false →
    IsSomeAnd (process_at S p) (λ P. own ≡ may_become uid gid P) → own ≡ true →
    ((P : Process) → process_at S p ≡ Some P → T ≡ with_process S p (with_ids uid gid P)) →
    (Reply.Ok ≡ (set_ids S p uid gid).reply) × (T ≡ (set_ids S p uid gid).next)
ids_taken S T p uid gid own live some said may made =
    let P = (live_at S p live).0 in
    let here = (live_at S p live).1 in
    let is = ids_is S p uid gid P false true here some (sym (by_process S p P (λ P. own ≡ may_become uid gid P) here said) ∙ may) in
    (sym (ap (λ o. Outcome.reply o) is), made P here ∙ sym (ap (λ o. Outcome.next o) is))
