-- A book that begins, and one that grows by one entry.
use Rattle.std.proofs.Common.{◌≡◌, ℕ, ◌+◌, ◌-◌, ◌≤◌, ◌==◌, ◌&&◌, ◌||◌, not, List, [], ◌∷◌, ◌++◌, length, Bool, true, false, cond}
use Rattle.std.proofs.Common.{if◌then◌else◌, refl, ap, sym, ◌∙◌, subst, arith}
use Rattle.std.proofs.lemmas.List.Sums.{sum_by_push, count_by-le-length}
use Rattle.std.proofs.lemmas.Bool.{false≢true, eqb-true, ne_eqb, and_parts, and_from}
use Rattle.ux_model.specs.Types.{Request, Reply, Errno, Entry}
use Rattle.ux_model.specs.Process.{Process}
use Rattle.ux_model.specs.State.{State, is_live}
use Rattle.ux_model.specs.Step.{outcome, Step}
use Rattle.ux_model.specs.Outcome.{Chosen}
use Rattle.ux_model.specs.Delivered.{delivered_by}
use Rattle.ux_model.specs.Release.{settled, released}
use Rattle.ux_model.specs.Waiting.{is_again}
use Rattle.ux_model.specs.History.{calls_of, is_exit, is_off, has_live, live_count, makes_one, is_allowed, replay, MayFollow, IsLegal}
use Rattle.ux_model.proofs.Steps.Replays.{step_replay}
use Rattle.ux_model.proofs.Releasing.Settling.{stays_settled}
use Rattle.ux_model.proofs.Invariants.Refusals.{refusal_changes_nothing}
use Rattle.ux_model.proofs.Processes.Living.{live_ones_counted, fork_alone_makes}
use Rattle.ux_state.proofs.Lookups.{live_positive}
use Rattle.ux_kernel.specs.Calling.{IsCaller}
use Rattle.ux_book.specs.Books.{KeptHistory, state_of, processes, ends_of, is_last, Adds, last_entries}

pub few_live : (S : State) → live_count S ≤ length S.processes
few_live S = count_by-le-length (λ (P : Process). not P.exited) S.processes

-- ---- one entry more

-- a fork alone makes a process
pub processes_after : (old new : KeptHistory) (e : Entry) → Adds old new e →
    processes new ≡ processes old + cond {A = ℕ} (makes_one e.request e.reply) 1 0
processes_after old new e adds =
    ap (λ (b : KeptHistory). length (state_of b).processes) adds.appended
    ∙ fork_alone_makes (state_of old) (replay old.boot (old.entries ++ e ∷ [])) e.pid.0 (length old.entries) e.request e.reply e.released
    adds.next.steps

-- a step from the end of a history is an entry that may follow
pub may_follow : (boot S T : State) (es : List Entry) (e : Entry) → S ≡ replay boot es → is_allowed S e.pid.0 e.k e.request ≡ true →
    Step S e.pid.0 (length es) e.request e.reply e.released T → e.k ≡ calls_of e.pid.0 es →
    e.delivered ≡ delivered_by S e.pid.0 e.request e.reply → MayFollow boot es e
may_follow boot S T es e at allowed step k told =
    let from_end : Step (replay boot es) e.pid.0 (length es) e.request e.reply e.released T =
    subst (λ (U : State). Step U e.pid.0 (length es) e.request e.reply e.released T) at step in
    record {
      steps = subst (λ (U : State). Step (replay boot es) e.pid.0 (length es) e.request e.reply e.released U)
          (step_replay boot T es e from_end) from_end;
      numbered = k;
      allowed = ap (λ (U : State). is_allowed U e.pid.0 e.k e.request) (sym at) ∙ allowed;
      delivers = told ∙ ap (λ (U : State). delivered_by U e.pid.0 e.request e.reply) at;
    }

-- the end of the layer is a call of nobody
pub nobodys : (S : State) (p k : ℕ) (request : Request) → is_allowed S p k request ≡ true → (p == 0) ≡ is_off request
nobodys S p k request = go (is_off request)
  where
    go : (b : Bool) → (if b then (p == 0) && ((k == 0) && not (has_live S)) else is_live S p) ≡ true → (p == 0) ≡ b
    go true h = (and_parts (p == 0) _ h).0
    go false h = ne_eqb p 0 (λ e. let some = live_positive S p h in absurd (omega (arith, e, some)))

-- and the first of its calls
first_end : (S : State) (p k : ℕ) (request : Request) → is_allowed S p k request ≡ true → is_off request ≡ true → k ≡ 0
first_end S p k request allowed off = go (is_off request) off allowed
  where
    go : (b : Bool) → b ≡ true → (if b then (p == 0) && ((k == 0) && not (has_live S)) else is_live S p) ≡ true → k ≡ 0
    go true e h = eqb-true k 0 (and_parts (k == 0) _ (and_parts (p == 0) _ h).1).0
    go false e h = absurd (false≢true e)

pub ends_push : (es : List Entry) (e : Entry) → ends_of (es ++ e ∷ []) ≡ ends_of es + cond {A = ℕ} (is_off e.request) 1 0
ends_push es e = sum_by_push (λ (x : Entry). cond {A = ℕ} (is_off x.request) 1 0) es e

pub ends_alike : (es : List Entry) (e : Entry) → calls_of 0 es ≡ ends_of es → (e.pid.0 == 0) ≡ is_off e.request →
    calls_of 0 (es ++ e ∷ []) ≡ ends_of (es ++ e ∷ [])
ends_alike es e ends who =
    sum_by_push (λ (x : Entry). cond {A = ℕ} (x.pid.0 == 0) 1 0) es e
    ∙ ap (λ n. n + cond {A = ℕ} (e.pid.0 == 0) 1 0) ends
    ∙ ap (λ (b : Bool). ends_of es + cond {A = ℕ} b 1 0) who
    ∙ sym (ends_push es e)

-- where the layer is ended, it wasn't before
none_before : (S : State) (es : List Entry) (e : Entry) → is_allowed S e.pid.0 e.k e.request ≡ true → e.k ≡ calls_of e.pid.0 es →
    calls_of 0 es ≡ ends_of es → is_off e.request ≡ true → ends_of es ≡ 0
none_before S es e allowed k ends off =
    let nobody : e.pid.0 ≡ 0 = eqb-true e.pid.0 0 (nobodys S e.pid.0 e.k e.request allowed ∙ off) in
    sym ends ∙ ap (λ p. calls_of p es) (sym nobody) ∙ sym k ∙ first_end S e.pid.0 e.k e.request allowed off

exit_no_end : (request : Request) → is_off request ≡ true → is_exit request ≡ false
exit_no_end Request.Exit h = absurd (false≢true h)
exit_no_end request h = refl

-- a last call takes one of the last entries, and a process that was made brings one
pub last_after : (S T : State) (es : List Entry) (e : Entry) (n : ℕ) → is_allowed S e.pid.0 e.k e.request ≡ true →
    e.k ≡ calls_of e.pid.0 es → calls_of 0 es ≡ ends_of es → ends_of es ≤ 1 →
    Step S e.pid.0 n e.request e.reply e.released T →
    last_entries T (es ++ e ∷ []) + cond {A = ℕ} (is_last e.request) 1 0 ≡ last_entries S es + cond {A = ℕ} (makes_one e.request e.reply) 1
    0
last_after S T es e n allowed k ends once step =
    go (is_off e.request) refl (is_exit e.request) refl (is_live S e.pid.0) refl
  where
    one : ℕ
    one = cond {A = ℕ} (makes_one e.request e.reply) 1 0

    fewer : live_count T + cond {A = ℕ} (is_exit e.request && is_live S e.pid.0) 1 0 ≡ live_count S + one
    fewer = live_ones_counted S T e.pid.0 n e.request e.reply e.released step

    live_caller : is_off e.request ≡ false → is_live S e.pid.0 ≡ true
    live_caller o = sym (ap (λ (b : Bool). if b then (e.pid.0 == 0) && ((e.k == 0) && not (has_live S)) else is_live S e.pid.0) o) ∙ allowed

    go : (o : Bool) → is_off e.request ≡ o → (x : Bool) → is_exit e.request ≡ x → (l : Bool) → is_live S e.pid.0 ≡ l →
        (live_count T + (1 - ends_of (es ++ e ∷ []))) + cond {A = ℕ} (is_exit e.request || is_off e.request) 1 0 ≡ live_count
        S + (1 - ends_of es) + one
    go true o x ex l li =
        let none = none_before S es e allowed k ends o in
        let more : ends_of (es ++ e ∷ []) ≡ ends_of es + 1 = ends_push es e ∙ ap (λ (b : Bool). ends_of es + cond {A = ℕ} b 1 0) o in
        let no_exit = exit_no_end e.request o in
        let same : live_count T + 0 ≡ live_count S + one =
        ap (λ (b : Bool). live_count T + cond {A = ℕ} (b && is_live S e.pid.0) 1 0) (sym no_exit) ∙ fewer in
        let last : cond {A = ℕ} (is_exit e.request || is_off e.request) 1 0 ≡ 1 =
        ap (λ (b : Bool). cond {A = ℕ} (b || is_off e.request) 1 0) no_exit ∙ ap (λ (b : Bool). cond {A = ℕ} b 1 0) o in
        omega (arith, none, more, same, last)
    go false o true ex true li =
        let more : ends_of (es ++ e ∷ []) ≡ ends_of es + 0 = ends_push es e ∙ ap (λ (b : Bool). ends_of es + cond {A = ℕ} b 1 0) o in
        let less : live_count T + 1 ≡ live_count S + one = ap (λ (b : Bool). live_count T + cond {A = ℕ} (b && true) 1 0) (sym ex)
        ∙ ap (λ (b : Bool). live_count T + cond {A = ℕ} (is_exit e.request && b) 1 0) (sym li) ∙ fewer in
        let last : cond {A = ℕ} (is_exit e.request || is_off e.request) 1 0 ≡ 1 =
        ap (λ (b : Bool). cond {A = ℕ} (b || is_off e.request) 1 0) ex in
        omega (arith, more, less, last)
    go false o true ex false li = absurd (false≢true (sym li ∙ live_caller o))
    go false o false ex l li =
        let more : ends_of (es ++ e ∷ []) ≡ ends_of es + 0 = ends_push es e ∙ ap (λ (b : Bool). ends_of es + cond {A = ℕ} b 1 0) o in
        let same : live_count T + 0 ≡ live_count S + one =
        ap (λ (b : Bool). live_count T + cond {A = ℕ} (b && is_live S e.pid.0) 1 0) (sym ex) ∙ fewer in
        let last : cond {A = ℕ} (is_exit e.request || is_off e.request) 1 0 ≡ 0 =
        ap (λ (b : Bool). cond {A = ℕ} (b || is_off e.request) 1 0) ex ∙ ap (λ (b : Bool). cond {A = ℕ} b 1 0) o in
        omega (arith, more, same, last)

-- no process is made by a last call
pub last_makes_none : (request : Request) (reply : Reply) → is_last request ≡ true → makes_one request reply ≡ false
last_makes_none Request.Exit reply h = refl
last_makes_none Request.Off reply h = refl
last_makes_none request reply h = absurd (false≢true h)

-- the room that a call takes, and what it frees
pub room_taken : (last one : Bool) → (last ≡ true → one ≡ false) → 1 + cond {A = ℕ} one 1 0 ≤ cond {A = ℕ} last 1 0 + cond {A = ℕ} last 0 2
room_taken true true none = absurd (false≢true (sym (none refl)))
room_taken true false none = omega arith
room_taken false true none = omega arith
room_taken false false none = omega arith

-- what the kernel asks of a caller
pub allowed_caller : (S : State) (p k : ℕ) (request : Request) → is_allowed S p k request ≡ true → IsCaller S p request
allowed_caller S p k request = go (is_off request)
  where
    go : (b : Bool) → (if b then (p == 0) && ((k == 0) && not (has_live S)) else is_live S p) ≡ true →
        (if b then (p == 0) && not (has_live S) else is_live S p) ≡ true
    go true h = let one = and_parts (p == 0) _ h in and_from _ _ one.0 (and_parts (k == 0) _ one.1).1
    go false h = h

-- ---- a call that would have to wait

pub again_is : (r : Reply) → is_again r ≡ true → r ≡ Reply.Err Errno.EAGAIN
again_is (Reply.Err Errno.EAGAIN) h = refl
again_is r h = absurd (false≢true h)

-- it has changed nothing
pub record Waited (boot S T : State) (es : List Entry) (p : ℕ) (request : Request) (gone : List ℕ) : Type 0 where
  pub same : T ≡ S
  pub none : gone ≡ []
  pub again : Step (replay boot es) p (length es) request (Reply.Err Errno.EAGAIN) [] (replay boot es)

pub waited : (boot S T : State) (es : List Entry) (p n : ℕ) (request : Request) (r : Reply) (gone : List ℕ) → IsLegal boot es →
    S ≡ replay boot es → is_again r ≡ true → n ≡ length es →
    Step S p n request r gone T → Waited boot S T es p request gone
waited boot S T es p n request r gone legal at again number step =
    let settled_here : settled S ≡ S = subst (λ (U : State). settled U ≡ U) (sym at) (stays_settled boot es legal) in
    let step_again : Step S p n request (Reply.Err Errno.EAGAIN) gone T =
    subst (λ (y : Reply). Step S p n request y gone T) (again_is r again) step in
    let left = refusal_changes_nothing S T p n request Errno.EAGAIN gone settled_here step_again in
    record {
      same = left.0;
      none = left.1;
      again = subst (λ (U : State). Step U p (length es) request (Reply.Err Errno.EAGAIN) [] U) at
          (subst (λ (i : ℕ). Step S p i request (Reply.Err Errno.EAGAIN) [] S) number
          (subst (λ (l : List ℕ). Step S p n request (Reply.Err Errno.EAGAIN) l S) left.1
          (subst (λ (U : State). Step S p n request (Reply.Err Errno.EAGAIN) gone U) left.0 step_again)));
    }

-- a call whose own answer is EAGAIN makes this step
answered_again : (S : State) (p n : ℕ) (request : Request) → (outcome S p n request).reply ≡ Reply.Err Errno.EAGAIN →
    Step S p n request (Reply.Err Errno.EAGAIN) (released (outcome S p n request).next) (settled (outcome S p n request).next)
unfolding Step
answered_again S p n request e = ((outcome S p n request).next, Chosen.own (sym e) refl, refl, refl)

-- so it has to wait behind a legal history, if it may
pub has_to_wait : (boot S : State) (es : List Entry) (p : ℕ) (request : Request) → IsLegal boot es → S ≡ replay boot es →
    (outcome S p (length es) request).reply ≡ Reply.Err Errno.EAGAIN →
    Step (replay boot es) p (length es) request (Reply.Err Errno.EAGAIN) [] (replay boot es)
has_to_wait boot S es p request legal at e =
    (waited boot S (settled (outcome S p (length es) request).next) es p (length es) request (Reply.Err Errno.EAGAIN)
    (released (outcome S p (length es) request).next) legal at refl refl (answered_again S p (length es) request e)).again
