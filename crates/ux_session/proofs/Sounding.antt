-- Which pending calls stay sound behind a call.
use Rattle.std.proofs.Common.{◌≡◌, ℕ, zero, suc, ◌+◌, ◌<◌, ◌≤◌, Bool, true, false, cond, not, ◌==◌, ◌&&◌, ◌||◌, List, [], ◌∷◌, ◌++◌, length}
use Rattle.std.proofs.Common.{take, drop, filter, get_or, Some, refl, ap, sym, ◌∙◌, subst, eq-eqb, arith}
use Rattle.std.proofs.lemmas.Bool.{false≢true, eqb-true}
use Rattle.std.specs.Prelude.{slice_get, if◌then◌else◌}
use Rattle.std.specs.List.{All, remove}
use Rattle.std.proofs.lemmas.List.Elements.{All-cons, All-tail, All-take, All-drop, All-append, All-push}
use Rattle.ux_model.specs.Types.{Pid, Request, Reply}
use Rattle.ux_model.specs.State.{State, is_live}
use Rattle.ux_model.specs.Waiting.{may_wait, should_wait}
use Rattle.ux_model.specs.History.{is_exit, is_off, is_fork, makes}
use Rattle.ux_model.proofs.Lists.ChangedPlaces.{bool_cases}
use Rattle.ux_model.proofs.Processes.Living.{exit_and_fork_alone}
use Rattle.ux_book.specs.Books.{KeptHistory, state_of, has_own_call}
use Rattle.ux_book.specs.Sitting.{Answers, MakesOne}
use Rattle.ux_session.specs.declared.pending.Pending.{Pending}
use Rattle.ux_session.specs.Sessions.{IsSound, IsHeld, IsMade, IsSession, of_others, without, left_by}
use Rattle.ux_session.specs.Going.{GoesAt}

-- ---- processes

lives_on : (l x m : Bool) → l ≡ true → x ≡ false → ((l && not x) || m) ≡ true
lives_on true false m h k = refl
lives_on true true m h k = absurd (cc k)
lives_on false x m h k = absurd (cc h)

-- a process that makes no exit lives on
pub lives_behind : (old new : KeptHistory) (pid : Pid) (request : Request) (reply : Reply) (p : ℕ) → Answers old new pid request reply →
    (is_exit request && (pid.0 == p)) ≡ false → is_live (state_of old) p ≡ true → is_live (state_of new) p ≡ true
lives_behind old new pid request reply p a stays lives =
    ap (λ (b : KeptHistory). is_live (state_of b) p) a.adds.appended
    ∙ exit_and_fork_alone (state_of old) _ pid.0 (length old.entries) p request reply a.released a.adds.next.steps
    ∙ lives_on (is_live (state_of old) p) (is_exit request && (pid.0 == p)) (makes p request reply) lives stays

sound_behind : (old new : KeptHistory) (pid : Pid) (request : Request) (reply : Reply) (call : Pending) → Answers old new pid request reply →
    (is_exit request && (pid.0 == call.pid.0)) ≡ false → IsSound old call → IsSound new call
sound_behind old new pid request reply call a stays sound =
    record { lives = lives_behind old new pid request reply call.pid.0 a stays sound.lives; plain = sound.plain }

-- ---- lists

first_kept : {X : Type 0} (Q : X → Type 0) (test : X → Bool) (x : X) (xs : List X) (b : Bool) → test x ≡ b → (b ≡ true → Q x) →
    All Q (filter test xs) → All Q (filter test (x ∷ xs))
first_kept Q test x xs true is one rest =
    subst (λ (c : Bool). All Q (cond c (x ∷ filter test xs) (filter test xs))) (sym is) (All-cons Q x (filter test xs) (one refl) rest)
first_kept Q test x xs false is one rest =
    subst (λ (c : Bool). All Q (cond c (x ∷ filter test xs) (filter test xs))) (sym is) rest

-- what a filter keeps
kept : {X : Type 0} (P Q : X → Type 0) (test : X → Bool) → ((x : X) → test x ≡ true → P x → Q x) → (xs : List X) → All P xs →
    All Q (filter test xs)
kept P Q test step [] all = λ k d h. absurd (omega (arith, h))
kept P Q test step (x ∷ xs) all =
    first_kept Q test x xs (test x) refl (λ yes. step x yes (all 0 x (omega arith))) (kept P Q test step xs (All-tail P x xs all))

each : {X : Type 0} (P Q : X → Type 0) → ((x : X) → P x → Q x) → (xs : List X) → All P xs → All Q xs
each P Q step xs all = λ k d h. step (get_or xs k d) (all k d h)

pub all_removed : {X : Type 0} (P : X → Type 0) (xs : List X) (i : ℕ) → All P xs → All P (remove xs i)
all_removed P xs i all = All-append P (take i xs) (drop (suc i) xs) (All-take P i xs all) (All-drop P (suc i) xs all)

pub at_place : {X : Type 0} (P : X → Type 0) (xs : List X) (i : ℕ) (x : X) → slice_get xs i ≡ Some x → All P xs → P x
at_place P [] i x h all = absurd (cc h)
at_place P (y ∷ ys) zero x h all = let one : y ≡ x = cc h in subst P one (all 0 y (omega arith))
at_place P (y ∷ ys) (suc i) x h all = at_place P ys i x h (All-tail P y ys all)

-- ---- behind a call

not_own : (pid : Pid) (call : Pending) → not (call.pid.0 == pid.0) ≡ true → (pid.0 == call.pid.0) ≡ false
not_own pid call h = bool_cases (pid.0 == call.pid.0)
    (λ e. let same : (call.pid.0 == pid.0) ≡ true = eq-eqb call.pid.0 pid.0 (sym (eqb-true pid.0 call.pid.0 e)) in
    absurd (false≢true (sym (ap not same) ∙ h)))
    (λ e. e)

-- those that are left behind a call
pub left_sound : (old new : KeptHistory) (pid : Pid) (request : Request) (reply : Reply) (calls : List Pending) →
    Answers old new pid request reply → All (IsSound old) calls → All (IsSound new) (left_by pid request calls)
left_sound old new pid request reply calls a sound = bool_cases (is_exit request)
    (λ e. subst (λ (b : Bool). All (IsSound new) (if b then of_others pid calls else calls)) (sym e)
    (kept (IsSound old) (IsSound new) (λ call. not (call.pid.0 == pid.0)) (λ call other one.
    sound_behind old new pid request reply call a (ap (λ (b : Bool). is_exit request && b) (not_own pid call other) ∙ and_false (is_exit request)) one)
    calls sound))
    (λ e. subst (λ (b : Bool). All (IsSound new) (if b then of_others pid calls else calls)) (sym e)
    (each (IsSound old) (IsSound new) (λ call one.
    sound_behind old new pid request reply call a (ap (λ (b : Bool). b && (pid.0 == call.pid.0)) e) one) calls sound))
  where
    and_false : (b : Bool) → (b && false) ≡ false
    and_false true = refl
    and_false false = refl

no_exit : (request : Request) → has_own_call request ≡ false → is_exit request ≡ false
no_exit Request.Exit plain = absurd (cc plain)
no_exit request plain = refl

pub plain_sound : (old new : KeptHistory) (pid : Pid) (request : Request) (reply : Reply) (calls : List Pending) →
    Answers old new pid request reply → has_own_call request ≡ false → All (IsSound old) calls → All (IsSound new) calls
plain_sound old new pid request reply calls a plain sound =
    each (IsSound old) (IsSound new) (λ call one. sound_behind old new pid request reply call a
    (ap (λ (b : Bool). b && (pid.0 == call.pid.0)) (no_exit request plain)) one) calls sound

-- those that are left when one goes on
pub gone_sound : (old new : KeptHistory) (calls : List Pending) (place : ℕ) → All (IsSound old) calls → GoesAt old calls place new →
    All (IsSound new) (remove calls place)
gone_sound old new calls place sound goes =
    let own = at_place (IsSound old) calls place goes.call goes.stands sound in
    all_removed (IsSound new) calls place
    (plain_sound old new goes.call.pid goes.call.request goes.made.reply calls goes.made.answers own.plain sound)

pub others_kept : {X : Type 0} (P : X → Type 0) (test : X → Bool) (xs : List X) → All P xs → All P (filter test xs)
others_kept P test xs all = kept P P test (λ x yes one. one) xs all

-- ---- sessions

pub session_without : (book : KeptHistory) (calls left : List Pending) (number : ℕ) (asked stalled : Bool) → left ≡ without number calls →
    IsSession (record { book = book; pending = calls; asked = asked; stalled = stalled }) →
    IsSession (record { book = book; pending = left; asked = asked; stalled = stalled })
session_without book calls left number asked stalled is kept_so_far = record {
  sound = subst (λ (l : List Pending). All (IsSound book) l) (sym is)
      (others_kept (IsSound book) (λ call. not (call.number == number)) calls kept_so_far.sound);
  held = λ e. subst (λ (l : List Pending). All (IsHeld book) l) (sym is)
      (others_kept (IsHeld book) (λ call. not (call.number == number)) calls (kept_so_far.held e));
}

-- ---- calls that never wait

never_waits : (S : State) (p : ℕ) (request : Request) (reply : Reply) → has_own_call request ≡ true → should_wait S p request reply ≡ false
unfolding may_wait
never_waits S p Request.Exit reply own = refl
never_waits S p Request.Fork reply own = refl
never_waits S p Request.Off reply own = refl
never_waits S p request reply own = absurd (cc own)

pub made_own : (old new : KeptHistory) (call : Pending) → has_own_call call.request ≡ true → MakesOne old new call.pid call.request →
    IsMade old new call
made_own old new call own made = record {
  reply = made.reply;
  answers = made.answers;
  done = never_waits (state_of old) call.pid.0 call.request made.reply own;
}
