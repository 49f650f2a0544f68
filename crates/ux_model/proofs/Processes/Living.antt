-- Which processes live after a call, and how many.
use Rattle.std.proofs.Common.{◌≡◌, ℕ, zero, suc, Bool, true, false, not, ◌&&◌, ◌||◌, ◌==◌, List, [], ◌∷◌, ◌++◌, length, get_or, set, map}
use Rattle.std.proofs.Common.{count_by, cond, if◌then◌else◌, ◌+◌, ◌<◌, ◌≤◌, Option, Some, None, refl, ap, sym, subst, ◌∙◌, arith}
use Rattle.std.specs.Prelude.{nat_le}
use Rattle.std.specs.List.{slice_get, list_any}
use Rattle.std.proofs.lemmas.Bool.{eqb-true, eqb-false, eq-eqb, ne_eqb, or_parts, and_parts, false_from_ne_true}
use Rattle.std.proofs.lemmas.List.{get_or-set_other, length-set, length-map, length-append}
use Rattle.std.proofs.lemmas.Option.{slice_get_within}
use Rattle.std.proofs.lemmas.List.Sums.{sum_by-cons, sum_by_push}
use mathlib.Core.Bool.{and-true, or-true, or-false, or_assoc}
use Rattle.ux_model.specs.Types.{Errno, Pid, Request, Reply, Entry}
use Rattle.ux_model.specs.Process.{Process}
use Rattle.ux_model.specs.Limits.{made_limit}
use Rattle.ux_model.specs.State.{State, process_at, is_live, next_process, with_process, with_child}
use Rattle.ux_model.specs.Release.{without, drop_rounds, drop_all, drop_unreferenced, has_unreferenced, settled}
use Rattle.ux_model.specs.Outcome.{Outcome, Chosen, own, lacking_memory, failing, refuse, answer}
use Rattle.ux_model.specs.Closing.{exit, with_nothing_open}
use Rattle.ux_model.specs.Forking.{child_of, fork}
use Rattle.ux_model.specs.Step.{Step, outcome, lacks_memory, fails}
use Rattle.ux_model.specs.History.{has_live, live_count, is_exit, has_exited, makes, makes_one, was_made, is_allowed, ExitAndForkAlone}
use Rattle.ux_model.specs.History.{LiveOnesCounted, ForkAloneMakes, ForkTellsTheNext, LivesUntilExit}
use Rattle.ux_model.proofs.Lists.Induction.{IsKept, kept_throughout}
use Rattle.ux_model.proofs.Changes.Walk.{either, maybe}
use Rattle.ux_model.proofs.Changes.Reaching.{May, may_change, Reaches, still, process_changed, process_forked, description_made, peers_made}
use Rattle.ux_model.proofs.Changes.Reaching.{connection_made, description_changed, object_changed, paths_taken, path_bound, name_bound}
use Rattle.ux_model.proofs.Changes.Reaching.{object_made, path_made, turned_off}
use Rattle.ux_model.proofs.Steps.Calls.{each_obeys, chosen_reached}

-- for each process, whether it has exited
abbrev exits : State → List Bool
exits S = map (λ P. Process.exited P) S.processes

abbrev lives : List Bool → ℕ → Bool
lives xs zero = false
lives xs (suc i) = not (get_or xs i true)

live_is : (S : State) (p : ℕ) → is_live S p ≡ lives (exits S) p
live_is S zero = refl
live_is S (suc i) = go S.processes i
  where
    go : (Ps : List Process) (i : ℕ) → (elim (slice_get Ps i) as (λ _. Bool) [ Some P ↦ not P.exited | None ↦ false ]) ≡ not
        (get_or (map (λ P. Process.exited P) Ps) i true)
    go [] i = refl
    go (P ∷ Ps) zero = refl
    go (P ∷ Ps) (suc i) = go Ps i

-- ---- what leaves all as they are

pub settled_keeps : (n : ℕ) (S : State) → (drop_rounds n S).processes ≡ S.processes
unfolding drop_rounds without
settled_keeps zero S = refl
settled_keeps (suc n) S = go (has_unreferenced S) (settled_keeps n (drop_all S))
  where
    go : (b : Bool) → (drop_rounds n (drop_all S)).processes ≡ S.processes →
        (elim b as (λ _. State) [ true ↦ drop_rounds n (drop_all S) | false ↦ S ]).processes ≡ S.processes
    go true h = h
    go false h = refl

-- a process that is put in the place of another
exits_set : (Ps : List Process) (i : ℕ) (Q : Process) →
    map (λ P. Process.exited P) (set Ps i Q) ≡ set (map (λ P. Process.exited P) Ps) i Q.exited
exits_set [] i Q = refl
exits_set (P ∷ Ps) zero Q = refl
exits_set (P ∷ Ps) (suc i) Q = ap (λ l. P.exited ∷ l) (exits_set Ps i Q)

set_same : (Ps : List Process) (i : ℕ) (P : Process) → slice_get Ps i ≡ Some P →
    set (map (λ P. Process.exited P) Ps) i P.exited ≡ map (λ P. Process.exited P) Ps
set_same [] i P h = refl
set_same (Q ∷ Ps) zero P h = let e : Q ≡ P = cc h in ap (λ R. Process.exited R ∷ map (λ P. Process.exited P) Ps) (sym e)
set_same (Q ∷ Ps) (suc i) P h = ap (λ l. Q.exited ∷ l) (set_same Ps i P h)

-- where all tables are emptied
exits_turned : (Ps : List Process) → map (λ P. Process.exited P) (map with_nothing_open Ps) ≡ map (λ P. Process.exited P) Ps
exits_turned [] = refl
exits_turned (P ∷ Ps) = ap (λ l. P.exited ∷ l) (exits_turned Ps)

-- every call but an exit and a fork
exits_kept : (S : State) (may : May) → may.lives ≡ false → (T : State) → Reaches S may T → exits T ≡ exits S
exits_kept S may calm T still = refl
exits_kept S may calm T (process_changed {T = U} i P Q r h names kept same) =
    exits_set U.processes i Q ∙ ap (set (exits U) i) (kept calm) ∙ set_same U.processes i P h ∙ exits_kept S may calm U r
exits_kept S may calm T (process_forked {T = U} i P r h makes) = absurd (cc (makes, calm))
exits_kept S may calm T (object_made {T = U} body r makes) = exits_kept S may calm U r
exits_kept S may calm T (description_made {T = U} D r leads nothing bounds) = exits_kept S may calm U r
exits_kept S may calm T (peers_made {T = U} D E r peers) = exits_kept S may calm U r
exits_kept S may calm T (connection_made {T = U} d l cred listener_cred s listener r client free there) = exits_kept S may calm U r
exits_kept S may calm T (description_changed {T = U} d x r keeps) = exits_kept S may calm U r
exits_kept S may calm T (object_changed {T = U} o old new r h same told) = exits_kept S may calm U r
exits_kept S may calm T (paths_taken {T = U} keep r told) = exits_kept S may calm U r
exits_kept S may calm T (path_made {T = U} name o r there told) = exits_kept S may calm U r
exits_kept S may calm T (path_bound {T = U} name d r told) = exits_kept S may calm U r
exits_kept S may calm T (name_bound {T = U} name d r shown told) = exits_kept S may calm U r
exits_kept S may calm T (turned_off {T = U} r told more) = exits_turned U.processes ∙ exits_kept S may calm U r

-- an exit ends its process
set_past : (Ps : List Process) (i : ℕ) → slice_get Ps i ≡ None →
    set (map (λ P. Process.exited P) Ps) i true ≡ map (λ P. Process.exited P) Ps
set_past [] i h = refl
set_past (P ∷ Ps) zero h = absurd (cc h)
set_past (P ∷ Ps) (suc i) h = ap (λ l. P.exited ∷ l) (set_past Ps i h)

exit_ends : (S : State) (i : ℕ) → exits (exit S (suc i)).next ≡ set (exits S) i true
unfolding exit
exit_ends S i = go (slice_get S.processes i) refl
  where
    go : (o : Option Process) → slice_get S.processes i ≡ o →
        exits (elim o as (λ _. Outcome) [
          | None ↦ refuse S Errno.ESRCH
          | Some P ↦ answer Reply.Ok
              (record S { processes = set S.processes i (record P { exited = true; table = map (λ e. None) P.table }) })
        ]).next ≡ set (exits S) i
        true
    go None h = sym (set_past S.processes i h)
    go (Some P) h = exits_set S.processes i (record P { exited = true; table = map (λ e. None) P.table })

-- and takes no memory
record IsOwn (o : Outcome) : Type 0 where
  with_memory : lacks_memory o.reply ≡ false
  without_failure : fails o.reply ≡ false
  may : o.may_lack_memory ≡ false
  failure : o.failure ≡ None

exit_own : (S : State) (p : ℕ) → IsOwn (exit S p)
unfolding exit
exit_own S p = go (process_at S p)
  where
    go : (o : Option Process) → IsOwn (elim o as
        (λ _. Outcome) [
          | None ↦ refuse S Errno.ESRCH
          | Some P ↦ answer Reply.Ok
              (with_process S p (record P { exited = true; table = map (λ e. None) P.table }))
        ])
    go None = record { with_memory = refl; without_failure = refl; may = refl; failure = refl }
    go (Some P) = record { with_memory = refl; without_failure = refl; may = refl; failure = refl }

-- ---- who lives

at_set : (xs : List Bool) (i : ℕ) → get_or (set xs i true) i true ≡ true
at_set [] i = refl
at_set (x ∷ xs) zero = refl
at_set (x ∷ xs) (suc i) = at_set xs i

not_or : (a b : Bool) → not (a || b) ≡ not a && not b
not_or true b = refl
not_or false b = refl

one_more : (xs : List Bool) (i j : ℕ) → get_or (set xs i true) j true ≡ get_or xs j true || (j == i)
one_more xs i j = go (j == i) refl
  where
    go : (b : Bool) → (j == i) ≡ b → get_or (set xs i true) j true ≡ get_or xs j true || b
    go true h = ap (λ n. get_or (set xs i true) n true) (eqb-true j i h) ∙ at_set xs i ∙ sym (or-true (get_or xs j true))
    go false h = get_or-set_other xs i j true true (eqb-false j i h) ∙ sym (or-false (get_or xs j true))

same_test : (i j : ℕ) → (j == i) ≡ (suc i == suc j)
same_test i j = go (j == i) refl
  where
    go : (b : Bool) → (j == i) ≡ b → b ≡ (suc i == suc j)
    go true h = let e : j ≡ i = eqb-true j i h in sym (eq-eqb (suc i) (suc j) (omega arith))
    go false h = sym (ne_eqb (suc i) (suc j) (λ e. eqb-false j i h (omega arith)))

lives_set : (xs : List Bool) (i q : ℕ) → lives (set xs i true) q ≡ lives xs q && not (suc i == q)
lives_set xs i zero = refl
lives_set xs i (suc j) = ap not (one_more xs i j) ∙ not_or (get_or xs j true) (j == i)
    ∙ ap (λ b. not (get_or xs j true) && not b) (same_test i j)

-- nobody has the number 0
lives_none : (xs : List Bool) (q : ℕ) → lives xs q ≡ lives xs q && not (zero == q)
lives_none xs zero = refl
lives_none xs (suc j) = sym (and-true (not (get_or xs j true)))
    ∙ ap (λ b. not (get_or xs j true) && not b) (sym (ne_eqb zero (suc j) (λ h. omega arith)))

exit_lives : (S : State) (p q : ℕ) → lives (exits (exit S p).next) q ≡ lives (exits S) q && not (p == q)
unfolding exit
exit_lives S zero q = lives_none (exits S) q
exit_lives S (suc i) q = ap (λ xs. lives xs q) (exit_ends S i) ∙ lives_set (exits S) i q

exit_long : (S : State) (p : ℕ) → length (exits (exit S p).next) ≡ length (exits S)
unfolding exit
exit_long S zero = refl
exit_long S (suc i) = ap length (exit_ends S i) ∙ length-set (exits S) i true

-- ---- how many live

abbrev one_if : Bool → ℕ
one_if b = if b then 1 else 0

-- of one that is set to have exited, there is one fewer if it hadn't
fewer_set : (xs : List Bool) (i : ℕ) → count_by not (set xs i true) + one_if (not (get_or xs i true)) ≡ count_by not xs
fewer_set [] i = refl
fewer_set (x ∷ xs) zero =
    let new = sum_by-cons (λ b. cond {A = ℕ} (not b) 1 0) true xs in
    let old = sum_by-cons (λ b. cond {A = ℕ} (not b) 1 0) x xs in
    omega (arith, new, old)
fewer_set (x ∷ xs) (suc i) =
    let new = sum_by-cons (λ b. cond {A = ℕ} (not b) 1 0) x (set xs i true) in
    let old = sum_by-cons (λ b. cond {A = ℕ} (not b) 1 0) x xs in
    let rest = fewer_set xs i in
    omega (arith, new, old, rest)

exit_fewer : (S : State) (p : ℕ) → count_by not (exits (exit S p).next) + one_if (lives (exits S) p) ≡ count_by not (exits S)
unfolding exit
exit_fewer S zero = omega arith
exit_fewer S (suc i) = ap (λ xs. count_by not xs + one_if (lives (exits S) (suc i))) (exit_ends S i) ∙ fewer_set (exits S) i

-- ---- one more

exits_push : (Ps : List Process) (P : Process) →
    map (λ P. Process.exited P) (Ps ++ P ∷ []) ≡ map (λ P. Process.exited P) Ps ++ P.exited ∷ []
exits_push [] P = refl
exits_push (Q ∷ Ps) P = ap (λ l. Q.exited ∷ l) (exits_push Ps P)

same_next : (a b : ℕ) → (a == b) ≡ (suc a == suc b)
same_next a b = go (a == b) refl
  where
    go : (c : Bool) → (a == b) ≡ c → c ≡ (suc a == suc b)
    go true h = let e : a ≡ b = eqb-true a b h in sym (eq-eqb (suc a) (suc b) (omega (arith, e)))
    go false h = sym (ne_eqb (suc a) (suc b) (λ e. eqb-false a b h (omega (arith, e))))

live_push : (xs : List Bool) (j : ℕ) → not (get_or (xs ++ false ∷ []) j true) ≡ not (get_or xs j true) || (suc (length xs) == suc j)
live_push [] zero = sym (eq-eqb 1 1 refl)
live_push [] (suc j) = sym (ne_eqb 1 (suc (suc j)) (λ e. omega (arith, e)))
live_push (x ∷ xs) zero = sym (ap (λ b. not x || b) (ne_eqb (suc (suc (length xs))) 1 (λ e. omega (arith, e))) ∙ or-false (not x))
live_push (x ∷ xs) (suc j) = live_push xs j ∙ ap (λ b. not (get_or xs j true) || b) (same_next (suc (length xs)) (suc j))

lives_push : (xs : List Bool) (q : ℕ) → lives (xs ++ false ∷ []) q ≡ lives xs q || (suc (length xs) == q)
lives_push xs zero = sym (ne_eqb (suc (length xs)) zero (λ e. omega (arith, e)))
lives_push xs (suc j) = live_push xs j

-- ---- a call

-- of the processes after a call: who lives, how many there are, and how many live
abbrev After : State → ℕ → Request → Reply → List Bool → Type 0
After S p request reply xs =
    ((q : ℕ) → lives xs q ≡ ((lives (exits S) q && not (is_exit request && (p == q))) || makes q request reply)) ×
    (length xs ≡ length (exits S) + one_if (makes_one request reply)) ×
    (count_by not xs + one_if (is_exit request && lives (exits S) p) ≡ count_by not (exits S) + one_if (makes_one request reply))

-- of a call that neither ends nor makes one
record EndsNorMakes (request : Request) (reply : Reply) : Type 0 where
  ends : is_exit request ≡ false
  makes_it : (q : ℕ) → makes q request reply ≡ false
  makes_any : makes_one request reply ≡ false

kept_after : (S : State) (p : ℕ) (request : Request) (reply : Reply) (xs : List Bool) → EndsNorMakes request reply → xs ≡ exits S →
    After S p request reply xs
kept_after S p request reply xs other e =
    let as_many : count_by not xs ≡ count_by not (exits S) = ap (count_by not) e in
    let long : length xs ≡ length (exits S) = ap length e in
    let none : one_if (is_exit request && lives (exits S) p) ≡ 0 = ap (λ b. one_if (b && lives (exits S) p)) other.ends in
    let no_child : one_if (makes_one request reply) ≡ 0 = ap one_if other.makes_any in (
      λ q. ap (λ ys. lives ys q) e ∙ sym (and-true (lives (exits S) q))
          ∙ ap (λ b. lives (exits S) q && not (b && (p == q))) (sym other.ends)
          ∙ sym (or-false (lives (exits S) q && not (is_exit request && (p == q))))
          ∙ ap (λ b. (lives (exits S) q && not (is_exit request && (p == q))) || b) (sym (other.makes_it q)),
      omega (arith, long, no_child),
      omega (arith, as_many, none, no_child),
    )

exit_after : (S : State) (p : ℕ) (T : State) (reply : Reply) → Chosen S (exit S p) reply T → After S p Request.Exit reply (exits T)
exit_after S p T reply (own e f) =
    let long = exit_long S p in
    let fewer = exit_fewer S p in
    subst (λ (U : State). After S p Request.Exit reply (exits U)) (sym f) (
      λ q. exit_lives S p q ∙ sym (or-false (lives (exits S) q && not (p == q))),
      omega (arith, long),
      omega (arith, fewer),
    )
exit_after S p T reply (lacking_memory e may f) = absurd (cc (may, (exit_own S p).may))
exit_after S p T reply (failing e f) = absurd (cc (f, (exit_own S p).failure))

-- a refusal makes none, of whatever error
no_fork : (S : State) (p : ℕ) (e : Errno) → After S p Request.Fork (Reply.Err e) (exits S)
no_fork S p e = kept_after S p Request.Fork (Reply.Err e) (exits S) (record { ends = refl; makes_it = λ q. refl; makes_any = refl }) refl

child_after : (S : State) (p : ℕ) (P : Process) →
    After S p Request.Fork (Reply.Child (record { 0 = next_process S })) (exits (with_child S (child_of P)))
child_after S p P =
    let pushed : exits (with_child S (child_of P)) ≡ exits S ++ false ∷ [] = exits_push S.processes (child_of P) in
    let number : length (exits S) ≡ length S.processes = length-map S.processes (λ P. Process.exited P) in
    let long : length (exits S ++ false ∷ []) ≡ length (exits S) + 1 = length-append (exits S) (false ∷ []) in
    let more : count_by not (exits S ++ false ∷ []) ≡ count_by not (exits S) + 1 =
    sum_by_push (λ b. cond {A = ℕ} (not b) 1 0) (exits S) false in
    subst (λ (xs : List Bool). After S p Request.Fork (Reply.Child (record { 0 = next_process S })) xs) (sym pushed) (
      λ q. lives_push (exits S) q ∙ ap (λ n. lives (exits S) q || (suc n == q)) number
          ∙ ap (λ b. b || (next_process S == q)) (sym (and-true (lives (exits S) q))),
      omega (arith, long),
      omega (arith, more),
    )

fork_own : (S : State) (p : ℕ) → After S p Request.Fork (fork S p).reply (exits (fork S p).next)
unfolding fork
fork_own S p = maybe After_own (process_at S p) _ _ (no_fork S p Errno.ESRCH)
    (λ P h. either After_own (nat_le made_limit (length S.processes)) _ _ (λ b. no_fork S p Errno.EAGAIN) (λ b. child_after S p P))
  where
    After_own : Outcome → Type 0
    After_own o = After S p Request.Fork o.reply (exits o.next)

pub fork_fails_not : (S : State) (p : ℕ) → (fork S p).failure ≡ None
unfolding fork
fork_fails_not S p = maybe (λ o. o.failure ≡ None) (process_at S p) _ _ refl
    (λ P h. either (λ o. o.failure ≡ None) (nat_le made_limit (length S.processes)) _ _ (λ b. refl) (λ b. refl))

fork_after : (S : State) (p : ℕ) (T : State) (reply : Reply) → Chosen S (fork S p) reply T → After S p Request.Fork reply (exits T)
fork_after S p T reply (own e f) =
    subst (λ (r : Reply). After S p Request.Fork r (exits T)) (sym e)
    (subst (λ (U : State). After S p Request.Fork (fork S p).reply (exits U)) (sym f) (fork_own S p))
fork_after S p T reply (lacking_memory e may f) =
    subst (λ (r : Reply). After S p Request.Fork r (exits T)) (sym e)
    (subst (λ (U : State). After S p Request.Fork (Reply.Err Errno.ENOMEM) (exits U)) (sym f) (no_fork S p Errno.ENOMEM))
fork_after S p T reply (failing e f) = absurd (cc (f, fork_fails_not S p))

-- of whatever was chosen
after_call : (S : State) (p tag : ℕ) (request : Request) (reply : Reply) (T : State) → Chosen S (outcome S p tag request) reply T →
    After S p request reply (exits T)
unfolding outcome
after_call S p tag Request.Exit reply T c = exit_after S p T reply c
after_call S p tag Request.Fork reply T c = fork_after S p T reply c
after_call S p tag request reply T c =
    kept_after S p request reply (exits T) (record { ends = refl; makes_it = λ q. refl; makes_any = refl })
    (exits_kept S (may_change request) refl T (chosen_reached S T _ _ reply (each_obeys S p tag request) c))

step_keeps : (S T : State) (p tag : ℕ) (request : Request) (reply : Reply) (gone : List ℕ) → Step S p tag request reply gone T →
    After S p request reply (exits T)
unfolding Step settled drop_unreferenced
step_keeps S T p tag request reply gone s =
    let same : exits T ≡ exits s.0 = ap exits s.3
    ∙ ap (λ Ps. map (λ P. Process.exited P) Ps) (settled_keeps (length s.0.descriptions) s.0) in
    subst (λ (xs : List Bool). After S p request reply xs) (sym same) (after_call S p tag request reply s.0 s.1)

pub exit_and_fork_alone : ExitAndForkAlone
exit_and_fork_alone S T p tag q request reply gone s =
    live_is T q ∙ (step_keeps S T p tag request reply gone s).0 q
    ∙ ap (λ b. (b && not (is_exit request && (p == q))) || makes q request reply) (sym (live_is S q))

pub fork_alone_makes : ForkAloneMakes
fork_alone_makes S T p tag request reply gone s =
    let new = length-map T.processes (λ P. Process.exited P) in
    let old = length-map S.processes (λ P. Process.exited P) in
    let all = (step_keeps S T p tag request reply gone s).1 in
    omega (arith, new, old, all)

-- the reply of the outcome itself, or ENOMEM
told_next : (S : State) (p : ℕ) (pid : Pid) → Reply.Child pid ≡ (fork S p).reply → pid.0 ≡ next_process S
unfolding fork
told_next S p pid = maybe Told (process_at S p) _ _ (λ h. absurd (cc h))
    (λ P h. either Told (nat_le made_limit (length S.processes)) _ _ (λ b h. absurd (cc h))
    (λ b h. let e : pid ≡ record { 0 = next_process S } = cc h in ap (λ (x : Pid). x.0) e))
  where
    Told : Outcome → Type 0
    Told o = Reply.Child pid ≡ o.reply → pid.0 ≡ next_process S

chosen_next : (S T : State) (p : ℕ) (pid : Pid) → Chosen S (fork S p) (Reply.Child pid) T → pid.0 ≡ next_process S
chosen_next S T p pid (own e f) = told_next S p pid e
chosen_next S T p pid (lacking_memory e may f) = absurd (cc e)
chosen_next S T p pid (failing e f) = absurd (cc e)

pub fork_tells_the_next : ForkTellsTheNext
unfolding Step outcome
fork_tells_the_next S T p tag pid gone s = chosen_next S s.0 p pid s.1

-- the count says it of the processes themselves
counted : (Ps : List Process) → count_by not (map (λ P. Process.exited P) Ps) ≡ count_by (λ P. not (Process.exited P)) Ps
counted [] = refl
counted (P ∷ Ps) =
    let there = sum_by-cons (λ b. cond {A = ℕ} (not b) 1 0) P.exited (map (λ P. Process.exited P) Ps) in
    let here = sum_by-cons (λ P. cond {A = ℕ} (not (Process.exited P)) 1 0) P Ps in
    let rest = counted Ps in
    omega (arith, there, here, rest)

pub live_ones_counted : LiveOnesCounted
live_ones_counted S T p tag request reply gone s =
    let new = counted T.processes in
    let old = counted S.processes in
    let one : one_if (is_exit request && is_live S p) ≡ one_if (is_exit request && lives (exits S) p) =
    ap (λ b. one_if (is_exit request && b)) (live_is S p) in
    let all = (step_keeps S T p tag request reply gone s).2 in
    omega (arith, new, old, one, all)

-- ---- none, and some

-- of some processes, where no other counts
none_of : (Ps : List Process) → list_any (λ P. not (Process.exited P)) Ps ≡ false → count_by (λ P. not (Process.exited P)) Ps ≡ 0
none_of [] h = refl
none_of (P ∷ Ps) h =
    let parts = or_parts (not P.exited) (list_any (λ P. not (Process.exited P)) Ps) h in
    let s = sum_by-cons (λ P. cond {A = ℕ} (not (Process.exited P)) 1 0) P Ps in
    let first : cond {A = ℕ} (not P.exited) 1 0 ≡ 0 = ap (λ b. cond {A = ℕ} b 1 0) parts.0 in
    let rest = none_of Ps parts.1 in
    omega (arith, s, first, rest)

any_of : (Ps : List Process) → count_by (λ P. not (Process.exited P)) Ps ≡ 0 → list_any (λ P. not (Process.exited P)) Ps ≡ false
any_of [] h = refl
any_of (P ∷ Ps) h = go (not P.exited) refl (λ none. any_of Ps none)
  where
    all : count_by (λ P. not (Process.exited P)) (P ∷ Ps) ≡ cond {A = ℕ} (not P.exited) 1 0 + count_by (λ P. not (Process.exited P)) Ps
    all = sum_by-cons (λ P. cond {A = ℕ} (not (Process.exited P)) 1 0) P Ps

    go : (b : Bool) → not P.exited ≡ b → (count_by (λ P. not (Process.exited P)) Ps ≡ 0 → list_any (λ P. not (Process.exited P)) Ps ≡ false)
        →
        b || list_any (λ P. not (Process.exited P)) Ps ≡ false
    go true is later = let one : cond {A = ℕ} (not P.exited) 1 0 ≡ 1 = ap (λ b. cond {A = ℕ} b 1 0) is in
        absurd (omega (arith, all, one, h))
    go false is later =
        let one : cond {A = ℕ} (not P.exited) 1 0 ≡ 0 = ap (λ b. cond {A = ℕ} b 1 0) is in
        later (omega (arith, all, one, h))

pub none_live : (S : State) → has_live S ≡ false → live_count S ≡ 0
none_live S h = none_of S.processes h

pub counts_none : (S : State) → live_count S ≡ 0 → has_live S ≡ false
counts_none S h = any_of S.processes h

-- one that lives is counted
pub live_counts : (S : State) (p : ℕ) → is_live S p ≡ true → 0 < live_count S
live_counts S zero h = absurd (cc h)
live_counts S (suc i) h = go S.processes i h
  where
    go : (Ps : List Process) (i : ℕ) → (elim (slice_get Ps i) as (λ _. Bool) [ Some P ↦ not P.exited | None ↦ false ]) ≡ true →
        0 < count_by (λ P. not (Process.exited P)) Ps
    go [] i h = absurd (cc h)
    go (P ∷ Ps) zero h =
        let s = sum_by-cons (λ P. cond {A = ℕ} (not (Process.exited P)) 1 0) P Ps in
        let one : cond {A = ℕ} (not P.exited) 1 0 ≡ 1 = ap (λ b. cond {A = ℕ} b 1 0) h in
        omega (arith, s, one)
    go (P ∷ Ps) (suc i) h =
        let s = sum_by-cons (λ P. cond {A = ℕ} (not (Process.exited P)) 1 0) P Ps in
        let rest = go Ps i h in
        omega (arith, s, rest)

-- ---- over a history

exited_push : (p : ℕ) (es : List Entry) (e : Entry) → has_exited p (es ++ e ∷ []) ≡ has_exited p es || (is_exit e.request && (e.pid.0 == p))
exited_push p [] e = or-false (is_exit e.request && (e.pid.0 == p))
exited_push p (x ∷ es) e = ap (λ b. (is_exit x.request && (x.pid.0 == p)) || b) (exited_push p es e)
    ∙ sym (or_assoc (is_exit x.request && (x.pid.0 == p)) (has_exited p es) (is_exit e.request && (e.pid.0 == p)))

pub made_push : (p : ℕ) (es : List Entry) (e : Entry) → was_made p (es ++ e ∷ []) ≡ was_made p es || makes p e.request e.reply
made_push p [] e = or-false (makes p e.request e.reply)
made_push p (x ∷ es) e = ap (λ b. makes p x.request x.reply || b) (made_push p es e)
    ∙ sym (or_assoc (makes p x.request x.reply) (was_made p es) (makes p e.request e.reply))

-- a process that lived at first or was made, and may have exited, where a call may end it, or make it
after_entry : (l w h x m : Bool) → (m ≡ true → h ≡ false) → (m ≡ true → x ≡ false) →
    (((l || w) && not h) && not x) || m ≡ ((l || (w || m)) && not (h || x))
after_entry l w true x true new other = absurd (cc (new refl))
after_entry l w false true true new other = absurd (cc (other refl))
after_entry true w false false true new other = refl
after_entry false true false false true new other = refl
after_entry false false false false true new other = refl
after_entry true w true x false new other = refl
after_entry true w false true false new other = refl
after_entry true w false false false new other = refl
after_entry false true true x false new other = refl
after_entry false true false true false new other = refl
after_entry false true false false false new other = refl
after_entry false false h x false new other = refl

makes_no_exit : (p q : ℕ) (request : Request) (reply : Reply) → makes p request reply ≡ true → (is_exit request && (q == p)) ≡ false
makes_no_exit p q Request.Exit reply h = absurd (cc h)
makes_no_exit p q request reply h = refl

pub made_next : (S T : State) (q tag p : ℕ) (request : Request) (reply : Reply) (gone : List ℕ) → Step S q tag request reply gone T →
    makes p request reply ≡ true → p ≡ next_process S
made_next S T q tag p Request.Fork (Reply.Child pid) gone s h =
    let told : pid.0 ≡ next_process S = fork_tells_the_next S T q tag pid gone s in
    let same : pid.0 ≡ p = eqb-true pid.0 p h in
    sym same ∙ told
made_next S T q tag p request reply gone s h = absurd (cc h)

-- who exits lives, and so has a number
exit_is_live : (S : State) (q k : ℕ) (request : Request) → is_exit request ≡ true → is_allowed S q k request ≡ true → is_live S q ≡ true
exit_is_live S q k Request.Exit h may = may
exit_is_live S q k request h may = absurd (cc h)

pub live_within : (S : State) (q : ℕ) → is_live S q ≡ true → q ≤ length S.processes
live_within S zero h = omega arith
live_within S (suc i) h = go (slice_get S.processes i) refl h
  where
    go : (o : Option Process) → slice_get S.processes i ≡ o → (elim o as (λ _. Bool) [ Some P ↦ not P.exited | None ↦ false ]) ≡ true →
        suc i ≤ length S.processes
    go None there live = absurd (cc live)
    go (Some P) there live = let within = slice_get_within S.processes i P there in omega (arith, within)

-- whether it lives, and that it has a number if it has exited
abbrev LivesAfter : State → ℕ → List Entry → State → Type 0
LivesAfter boot p es S = (is_live S p ≡ ((is_live boot p || was_made p es) && not (has_exited p es)))
    × (has_exited p es ≡ true → p ≤ length S.processes)

keeps_living : (boot : State) (p : ℕ) → IsKept boot (LivesAfter boot p)
keeps_living boot p = record {
  at_boot = λ boots. (sym (and-true (is_live boot p || false) ∙ or-false (is_live boot p)), λ h. absurd (cc h));
  by_entry = λ es e S T so_far step allowed. (lives_on es e S T so_far step, numbered es e S T so_far step allowed);
}
  where
    lives_on : (es : List Entry) (e : Entry) (S T : State) → LivesAfter boot p es S →
        Step S e.pid.0 (length es) e.request e.reply e.released T →
        is_live T p ≡ ((is_live boot p || was_made p (es ++ e ∷ [])) && not (has_exited p (es ++ e ∷ [])))
    lives_on es e S T so_far step =
        exit_and_fork_alone S T e.pid.0 (length es) p e.request e.reply e.released step
        ∙ ap (λ b. (b && not (is_exit e.request && (e.pid.0 == p))) || makes p e.request e.reply) so_far.0
        ∙ after_entry (is_live boot p) (was_made p es) (has_exited p es) (is_exit e.request && (e.pid.0 == p)) (makes p e.request e.reply)
        new (makes_no_exit p e.pid.0 e.request e.reply)
        ∙ ap (λ b. (is_live boot p || b) && not (has_exited p es || (is_exit e.request && (e.pid.0 == p)))) (sym (made_push p es e))
        ∙ ap (λ b. (is_live boot p || was_made p (es ++ e ∷ [])) && not b) (sym (exited_push p es e))
      where
        new : makes p e.request e.reply ≡ true → has_exited p es ≡ false
        new makes_it = false_from_ne_true (has_exited p es) (λ h.
            let low : p ≤ length S.processes = so_far.1 h in
            let next : p ≡ suc (length S.processes) = made_next S T e.pid.0 (length es) p e.request e.reply e.released step makes_it in
            omega (arith, low, next))

    numbered : (es : List Entry) (e : Entry) (S T : State) → LivesAfter boot p es S →
        Step S e.pid.0 (length es) e.request e.reply e.released T → is_allowed S e.pid.0 e.k e.request ≡ true →
        has_exited p (es ++ e ∷ []) ≡ true → p ≤ length T.processes
    numbered es e S T so_far step allowed h = go (has_exited p es) refl (sym (exited_push p es e) ∙ h)
      where
        more : length T.processes ≡ length S.processes + one_if (makes_one e.request e.reply)
        more = fork_alone_makes S T e.pid.0 (length es) e.request e.reply e.released step

        go : (b : Bool) → has_exited p es ≡ b → b || (is_exit e.request && (e.pid.0 == p)) ≡ true → p ≤ length T.processes
        go true before now = let low : p ≤ length S.processes = so_far.1 before in omega (arith, low, more)
        go false before now =
            let parts = and_parts (is_exit e.request) (e.pid.0 == p) now in
            let who : e.pid.0 ≡ p = eqb-true e.pid.0 p parts.1 in
            let low = live_within S e.pid.0 (exit_is_live S e.pid.0 e.k e.request parts.0 allowed) in
            omega (arith, low, who, more)

pub lives_until_exit : LivesUntilExit
lives_until_exit boot es p legal = (kept_throughout boot (LivesAfter boot p) (keeps_living boot p) es legal).0
