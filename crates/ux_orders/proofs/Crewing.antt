-- What a crew keeps true, and what its processes do next.
use Rattle.std.proofs.Common.{Vec, Global, ◌≡◌, ◌≢◌, ℕ, zero, suc, ◌+◌, ◌-◌, ◌<◌, ◌≤◌, Bool, true, false, cond, not, ◌&&◌, ◌||◌, ◌==◌, List}
use Rattle.std.proofs.Common.{[], ◌∷◌, ◌++◌, length, get_or, set, take, drop, replicate, Option, Some, None, refl, ap, sym, subst, ◌∙◌}
use Rattle.std.proofs.Common.{⊎_elim, arith}
use Rattle.std.specs.Prelude.{if◌then◌else◌, IfSome, Result, Ok, Err, is_err, OnOk, OnErr}
use Rattle.std.specs.List.{slice_get}
use Rattle.std.proofs.lemmas.Bool.{false≢true, or_parts, ne_eqb, eqb-true, eqb-false}
use Rattle.std.proofs.lemmas.Bool.Decides.{eqb_tells}
use Rattle.std.proofs.lemmas.List.{take-append-drop, drop_more, take_more, append-nil, length-set, length_push, length-replicate}
use Rattle.std.proofs.lemmas.List.{get_or-set_same, get_or-set_other, get_or-replicate}
use Rattle.std.proofs.lemmas.List.Folds.{list_any-append}
use Rattle.std.proofs.lemmas.List.Elements.{filter-append}
use Rattle.std.proofs.lemmas.List.Sums.{sum_by_push}
use mathlib.Core.Bool.{or-true}
use Rattle.ux_model.specs.Types.{Pid, Request, Reply, Entry}
use Rattle.ux_model.specs.State.{State, is_live, next_process}
use Rattle.ux_model.specs.Waiting.{may_wait, should_wait}
use Rattle.ux_model.specs.History.{calls_of, is_exit, is_fork, is_allowed, makes, makes_one, IsLegal}
use Rattle.ux_model.proofs.Processes.Living.{exit_and_fork_alone, fork_tells_the_next, fork_alone_makes, live_within, made_next}
use Rattle.ux_model.proofs.Processes.Numbering.{no_call_before_made}
use Rattle.ux_book.specs.Books.{KeptHistory, state_of, processes, entry_of, is_last, has_own_call}
use Rattle.ux_book.specs.Sitting.{Answers}
use Rattle.ux_syntax.specs.declared.script.Act.{Act}
use Rattle.ux_syntax.specs.Lines.{Line}
use Rattle.ux_syntax.specs.Spelling.{Plan}
use Rattle.ux_replay.specs.Runs.{Runs, HasBegun, MakesAll, MakesFirst}
use Rattle.ux_book.proofs.Sitting.{no_fork}
use Rattle.ux_orders.specs.declared.chooser.Ready.{Ready}
use Rattle.ux_orders.specs.declared.member.Next.{Next}
use Rattle.ux_orders.specs.Lists.{pids_of}
use Rattle.ux_orders.specs.Threads.{own_line, next_line, call_in, asks, calls_in, Follows, Threaded}
use Rattle.ux_orders.specs.Crews.{Crewed, IsLeft, HasPlaces, IsCrew, Steps, IsHeld, IsNext, StopsAt, is_among, HasReady}
use Rattle.ux_orders.proofs.Threads.{lives, caller, all_processes, pids-append, pids_first}

-- ---- calls and lives behind a call

calls_push : (p : ℕ) (es : List Entry) (e : Entry) → calls_of p (es ++ e ∷ []) ≡ calls_of p es + cond {A = ℕ} (e.pid.0 == p) 1 0
calls_push p es e = sum_by_push (λ (x : Entry). cond {A = ℕ} (x.pid.0 == p) 1 0) es e

calls_after : (old new : KeptHistory) (pid : Pid) (request : Request) (reply : Reply) (p : ℕ) → Answers old new pid request reply →
    calls_of p new.entries ≡ calls_of p old.entries + cond {A = ℕ} (pid.0 == p) 1 0
calls_after old new pid request reply p a =
    ap (λ (b : KeptHistory). calls_of p b.entries) a.adds.appended ∙ calls_push p old.entries _

lives_after : (old new : KeptHistory) (pid : Pid) (request : Request) (reply : Reply) (p : ℕ) → Answers old new pid request reply →
    is_live (state_of new) p ≡ ((is_live (state_of old) p && not (is_exit request && (pid.0 == p))) || makes p request reply)
lives_after old new pid request reply p a =
    ap (λ (b : KeptHistory). is_live (state_of b) p) a.adds.appended
    ∙ exit_and_fork_alone (state_of old) _ pid.0 (length old.entries) p request reply a.released a.adds.next.steps

many_after : (old new : KeptHistory) (pid : Pid) (request : Request) (reply : Reply) → Answers old new pid request reply →
    processes new ≡ processes old + cond {A = ℕ} (makes_one request reply) 1 0
many_after old new pid request reply a =
    ap (λ (b : KeptHistory). processes b) a.adds.appended
    ∙ fork_alone_makes (state_of old) _ pid.0 (length old.entries) request reply a.released a.adds.next.steps

-- who lives and wasn't made just now lived before, and made no exit
still : (l x w m : Bool) → ((l && not (x && w)) || m) ≡ true → m ≡ false → (l ≡ true) × (w ≡ true → x ≡ false)
still true false w m h none = (refl, λ own. refl)
still true true false m h none = (refl, λ own. absurd (cc own))
still true true true m h none = absurd (false≢true (sym none ∙ h))
still false x w m h none = absurd (false≢true (sym none ∙ h))

-- a fork is made by one that lives
forker_lives : (S : State) (p q k : ℕ) (request : Request) (reply : Reply) → makes q request reply ≡ true →
    is_allowed S p k request ≡ true → is_live S p ≡ true
forker_lives S p q k Request.Fork reply h may = may
forker_lives S p q k request reply h may = absurd (cc h)

-- ---- places

-- the places behind a call: its process's own, that of the process that it made, and those of all others, which stay
record Moves (old : KeptHistory) (lines : List Line) (xs ys : List ℕ) (pid : Pid) (request : Request) (reply : Reply) : Type 0 where
  pub own : is_exit request ≡ false → IsLeft pid.0 (calls_of pid.0 old.entries + 1) lines (drop (get_or ys pid.0 0) lines)
  pub child : (p : ℕ) → makes p request reply ≡ true → get_or ys p 0 ≡ 0
  pub other : (p : ℕ) → pid.0 ≢ p → makes p request reply ≡ false → get_or ys p 0 ≡ get_or xs p 0

from_start : (p k n : ℕ) (lines : List Line) → k ≡ 0 → n ≡ 0 → IsLeft p k lines (drop n lines)
from_start p k n lines none first = λ come j.
    ap (λ (i : ℕ). next_line come p i lines) (let same : k + j ≡ j = omega (arith, none) in same)
    ∙ ap (λ (i : ℕ). next_line come p j (drop i lines)) (sym first)

is_left : (p k m i n : ℕ) (lines : List Line) → k ≡ m → i ≡ n → IsLeft p k lines (drop i lines) → IsLeft p m lines (drop n lines)
is_left p k m i n lines calls place left =
    subst (λ (c : ℕ). IsLeft p c lines (drop n lines)) calls (subst (λ (c : ℕ). IsLeft p k lines (drop c lines)) place left)

places_after : (old new : KeptHistory) (lines : List Line) (xs ys : List ℕ) (pid : Pid) (request : Request) (reply : Reply) →
    HasPlaces old lines xs → IsLegal old.boot old.entries → Answers old new pid request reply → Moves old lines xs ys pid request reply →
    processes new < length ys → HasPlaces new lines ys
places_after old new lines xs ys pid request reply has legal a moves long = record {
  each = λ p live. at p (pid.0 == p) (makes p request reply) refl refl live;
  long = long;
}
  where
    lived_on : (p : ℕ) → is_live (state_of new) p ≡ true → makes p request reply ≡ false →
        (is_live (state_of old) p ≡ true) × ((pid.0 == p) ≡ true → is_exit request ≡ false)
    lived_on p live made =
        still (is_live (state_of old) p) (is_exit request) (pid.0 == p) (makes p request reply)
        (sym (lives_after old new pid request reply p a) ∙ live) made

    at : (p : ℕ) (b m : Bool) → (pid.0 == p) ≡ b → makes p request reply ≡ m → is_live (state_of new) p ≡ true →
        IsLeft p (calls_of p new.entries) lines (drop (get_or ys p 0) lines)
    at p b true who made live =
        let next : p ≡ next_process (state_of old) =
        made_next (state_of old) _ pid.0 (length old.entries) p request reply a.released a.adds.next.steps made in
        let low = live_within (state_of old) pid.0 (forker_lives (state_of old) pid.0 p a.k request reply made a.adds.next.allowed) in
        let before : calls_of p old.entries ≡ 0 = no_call_before_made old.boot old.entries p legal (omega (arith, next)) in
        let other : cond {A = ℕ} (pid.0 == p) 1 0 ≡ 0 =
        ap (λ (c : Bool). cond {A = ℕ} c 1 0) (ne_eqb pid.0 p (λ h. omega (arith, h, next, low))) in
        let more = calls_after old new pid request reply p a in
        from_start p (calls_of p new.entries) (get_or ys p 0) lines (omega (arith, more, before, other)) (moves.child p made)
    at p true false who made live =
        let same : pid.0 ≡ p = eqb-true pid.0 p who in
        let stays = (lived_on p live made).1 who in
        let own : IsLeft p (calls_of p old.entries + 1) lines (drop (get_or ys p 0) lines) =
        subst (λ (q : ℕ). IsLeft q (calls_of q old.entries + 1) lines (drop (get_or ys q 0) lines)) same (moves.own stays) in
        let more = calls_after old new pid request reply p a ∙ ap (λ (c : Bool). calls_of p old.entries + cond {A = ℕ} c 1 0) who in
        is_left p _ _ _ _ lines (sym more) refl own
    at p false false who made live =
        let lived = (lived_on p live made).0 in
        let more = calls_after old new pid request reply p a ∙ ap (λ (c : Bool). calls_of p old.entries + cond {A = ℕ} c 1 0) who in
        let same : calls_of p old.entries ≡ calls_of p new.entries = omega (arith, more) in
        is_left p _ _ _ _ lines same (sym (moves.other p (eqb-false pid.0 p who) made)) (has.each p lived)

-- the entry of a call that its process asked for comes next
follows_of : (old new : KeptHistory) (lines : List Line) (pid : Pid) (request : Request) (reply : Reply) →
    (a : Answers old new pid request reply) → asks old lines pid.0 ≡ Some request → should_wait (state_of old) pid.0 request reply ≡ false →
    Follows old.boot lines old.entries (entry_of (state_of old) pid a.k request reply a.released)
follows_of old new lines pid request reply a asked done = record { legal = a.adds.next; asked = asked; done = done }

crew_after : (old new : KeptHistory) (lines : List Line) (xs ys : List ℕ) (pid : Pid) (request : Request) (reply : Reply) →
    IsCrew old lines xs → Answers old new pid request reply → asks old lines pid.0 ≡ Some request →
    should_wait (state_of old) pid.0 request reply ≡ false → HasPlaces new lines ys → IsCrew new lines ys
crew_after old new lines xs ys pid request reply crew a asked done places = record {
  at = places;
  threaded = subst (λ (b : KeptHistory). Threaded b.boot lines b.entries) (sym a.adds.appended)
      (Threaded.further _ crew.threaded (follows_of old new lines pid request reply a asked done));
}

-- at the start each process has all lines before it
pub first_crew : (book : KeptHistory) (boot : State) (lines : List Line) (xs : List ℕ) (n : ℕ) →
    book ≡ record { boot = boot; entries = [] } → n ≡ processes book → xs ≡ replicate (n + 1) 0 → IsCrew book lines xs
first_crew book boot lines xs n new count all = record {
  at = record {
    each = λ p live.
        let within = live_within (state_of book) p live in
        from_start p _ _ lines (ap (λ (b : KeptHistory). calls_of p b.entries) new)
        (ap (λ (ys : List ℕ). get_or ys p 0) all ∙ get_or-replicate (n + 1) p 0 0 (omega (arith, within, count)));
    long = let size : length xs ≡ n + 1 = ap (λ (ys : List ℕ). length ys) all ∙ length-replicate (n + 1) 0 in omega (arith, size, count);
  };
  threaded = subst (λ (b : KeptHistory). Threaded b.boot lines b.entries) (sym new) Threaded.start;
}

-- ---- kinds of calls

-- a call that isn't one of a kind of its own makes no process, and isn't an exit
makes_none : (p : ℕ) (request : Request) (reply : Reply) → is_fork request ≡ false → makes p request reply ≡ false
makes_none p Request.Fork reply h = absurd (cc h)
makes_none p request reply h = refl

moves_call : (old : KeptHistory) (lines : List Line) (xs : List ℕ) (pid : Pid) (request : Request) (reply : Reply) (behind : ℕ) →
    has_own_call request ≡ false → IsLeft pid.0 (calls_of pid.0 old.entries + 1) lines (drop behind lines) → pid.0 < length xs →
    Moves old lines xs (set xs pid.0 behind) pid request reply
moves_call old lines xs pid request reply behind plain left inside = record {
  own = λ stays. is_left pid.0 _ _ _ _ lines refl (sym (get_or-set_same xs pid.0 behind 0 inside)) left;
  child = λ p made. absurd (false≢true (sym (makes_none p request reply (or_parts (is_last request) (is_fork request) plain).1) ∙ made));
  other = λ p other made. get_or-set_other xs pid.0 p behind 0 (λ h. other (sym h));
}

moves_exit : (old : KeptHistory) (lines : List Line) (xs : List ℕ) (pid : Pid) (reply : Reply) →
    Moves old lines xs xs pid Request.Exit reply
moves_exit old lines xs pid reply = record {
  own = λ stays. absurd (cc stays);
  child = λ p made. absurd (cc made);
  other = λ p other made. refl;
}

-- one more place, of a process that isn't there yet
get_pushed : (xs : List ℕ) (p : ℕ) → get_or (xs ++ 0 ∷ []) p 0 ≡ get_or xs p 0
get_pushed [] zero = refl
get_pushed [] (suc p) = refl
get_pushed (x ∷ xs) zero = refl
get_pushed (x ∷ xs) (suc p) = get_pushed xs p

wider : (book : KeptHistory) (lines : List Line) (xs : List ℕ) → IsCrew book lines xs → IsCrew book lines (xs ++ 0 ∷ [])
wider book lines xs crew = record {
  at = record {
    each = λ p live. is_left p _ _ _ _ lines refl (sym (get_pushed xs p)) (crew.at.each p live);
    long = let long = crew.at.long in let more = length_push xs 0 in omega (arith, long, more);
  };
  threaded = crew.threaded;
}

moves_forked : (old new : KeptHistory) (lines : List Line) (xs : List ℕ) (pid child : Pid) (behind : ℕ) →
    (a : Answers old new pid Request.Fork (Reply.Child child)) → HasPlaces old lines xs →
    IsLeft pid.0 (calls_of pid.0 old.entries + 1) lines (drop behind lines) → pid.0 < length xs → child.0 < length xs →
    Moves old lines xs (set (set xs pid.0 behind) child.0 0) pid Request.Fork (Reply.Child child)
moves_forked old new lines xs pid child behind a has left inside room = record {
  own = λ stays. is_left pid.0 _ _ _ _ lines refl
      (sym (get_or-set_other (set xs pid.0 behind) child.0 pid.0 0 0 (λ h. omega (arith, h, next, low))
      ∙ get_or-set_same xs pid.0 behind 0 inside)) left;
  child = λ p made.
      ap (λ (q : ℕ). get_or (set (set xs pid.0 behind) child.0 0) q 0) (sym (eqb-true child.0 p made))
      ∙ get_or-set_same (set xs pid.0 behind) child.0 0 0 (omega (arith, room, as_long));
  other = λ p other made.
      get_or-set_other (set xs pid.0 behind) child.0 p 0 0 (λ h. eqb-false child.0 p made (sym h))
      ∙ get_or-set_other xs pid.0 p behind 0 (λ h. other (sym h));
}
  where
    next : child.0 ≡ next_process (state_of old)
    next = fork_tells_the_next (state_of old) _ pid.0 (length old.entries) child a.released a.adds.next.steps

    low : pid.0 ≤ processes old
    low = live_within (state_of old) pid.0 a.adds.next.allowed

    as_long : length (set xs pid.0 behind) ≡ length xs
    as_long = length-set xs pid.0 behind

-- where the fork made none
childless : (p : ℕ) (reply : Reply) → makes_one Request.Fork reply ≡ false → makes p Request.Fork reply ≡ false
childless p (Reply.Child child) h = absurd (cc h)
childless p reply h = refl

moves_refused : (old : KeptHistory) (lines : List Line) (xs : List ℕ) (pid : Pid) (reply : Reply) (behind : ℕ) →
    makes_one Request.Fork reply ≡ false → IsLeft pid.0 (calls_of pid.0 old.entries + 1) lines (drop behind lines) → pid.0 < length xs →
    Moves old lines xs (set xs pid.0 behind) pid Request.Fork reply
moves_refused old lines xs pid reply behind none left inside = record {
  own = λ stays. is_left pid.0 _ _ _ _ lines refl (sym (get_or-set_same xs pid.0 behind 0 inside)) left;
  child = λ p made. absurd (false≢true (sym (childless p reply none) ∙ made));
  other = λ p other made. get_or-set_other xs pid.0 p behind 0 (λ h. other (sym h));
}

-- an exit and a fork never wait
exit_done : (S : State) (p : ℕ) (reply : Reply) → should_wait S p Request.Exit reply ≡ false
unfolding may_wait
exit_done S p reply = refl

fork_done : (S : State) (p : ℕ) (reply : Reply) → should_wait S p Request.Fork reply ≡ false
unfolding may_wait
fork_done S p reply = refl

-- ---- who asks, and for what

asker_within : (book : KeptHistory) (lines : List Line) (p : ℕ) (request : Request) → asks book lines p ≡ Some request →
    (0 < p) × (p ≤ processes book)
asker_within book lines zero request h = absurd (cc h)
asker_within book lines (suc n) request h = (omega arith, live_within (state_of book) (suc n) (lives book lines (suc n) request h))

-- ---- from line to line

-- What the process comes to in these lines it comes to in those that are left of them: now, and behind each of its calls.
pub record Skips (come : ℕ → ℕ → Bool) (p : ℕ) (lines left : List Line) : Type 0 where
  pub now : next_line come p 0 lines ≡ next_line come p 0 left
  pub later : (other : ℕ → ℕ → Bool) (j : ℕ) → next_line other p (j + 1) lines ≡ next_line other p (j + 1) left

pub skips_none : (come : ℕ → ℕ → Bool) (p : ℕ) (lines : List Line) → Skips come p lines lines
skips_none come p lines = record { now = refl; later = λ other j. refl }

pub at_line : (lines : List Line) (i : ℕ) (l : Line) → i < length lines → l ≡ get_or lines i l → slice_get lines i ≡ Some l
at_line [] i l inside is = absurd (omega (arith, inside))
at_line (x ∷ lines) zero l inside is = ap (λ (y : Line). Some y) (sym is)
at_line (x ∷ lines) (suc i) l inside is = at_line lines i l (omega (arith, inside)) is

-- whose line it is, of which a contract sees less than there is
pub owner : (pid : Pid) (seen l : Line) → seen ≡ l → (seen.pid.0 == pid.0) ≡ true → (l.pid.0 == pid.0) ≡ true
owner pid seen l is h = ap (λ (x : Line). x.pid.0 == pid.0) (sym is) ∙ h

drop_line : (lines : List Line) (i : ℕ) (l : Line) → slice_get lines i ≡ Some l → drop i lines ≡ l ∷ drop (i + 1) lines
drop_line [] i l h = absurd (cc h)
drop_line (x ∷ lines) zero l h = let same : x ≡ l = cc h in ap (λ (y : Line). y ∷ lines) same
drop_line (x ∷ lines) (suc i) l h =
    drop_line lines i l h ∙ ap (λ (n : ℕ). l ∷ drop n (x ∷ lines)) (let same : suc (i + 1) ≡ suc i + 1 = omega arith in same)

-- the first line is this process's, or isn't
line_of : (come : ℕ → ℕ → Bool) (p k : ℕ) (l : Line) (ls : List Line) (b : Bool) → (l.pid.0 == p) ≡ b → next_line come p k (l ∷ ls) ≡
    (if b then own_line come k l (next_line come p k ls) (next_line come p (k - 1) ls) else next_line come p k ls)
line_of come p k l ls b who =
    ap (λ (b : Bool). if b then own_line come k l (next_line come p k ls) (next_line come p (k - 1) ls) else next_line come p k ls) who

wait_line : (come : ℕ → ℕ → Bool) (p k : ℕ) (l : Line) (ls : List Line) (q : Pid) (n : ℕ) → (l.pid.0 == p) ≡ true → l.act ≡ Act.Wait q n →
    next_line come p k (l ∷ ls) ≡ (if (k == 0) && not (come q.0 n) then Some l else next_line come p k ls)
wait_line come p k l ls q n who is = line_of come p k l ls true who ∙ ap (λ (a : Act). elim a as (λ _. Option Line) [
  | Act.Call request ↦ if k == 0 then Some l else next_line come p (k - 1) ls
  | Act.Wait q n ↦ if (k == 0) && not (come q.0 n) then Some l else next_line come p k ls
]) is

call_line : (come : ℕ → ℕ → Bool) (p k : ℕ) (l : Line) (ls : List Line) (request : Request) → (l.pid.0 == p) ≡ true →
    l.act ≡ Act.Call request → next_line come p k (l ∷ ls) ≡ (if k == 0 then Some l else next_line come p (k - 1) ls)
call_line come p k l ls request who is = line_of come p k l ls true who ∙ ap (λ (a : Act). elim a as (λ _. Option Line) [
  | Act.Call request ↦ if k == 0 then Some l else next_line come p (k - 1) ls
  | Act.Wait q n ↦ if (k == 0) && not (come q.0 n) then Some l else next_line come p k ls
]) is

more_calls : (j : ℕ) → (j + 1 == 0) ≡ false
more_calls j = ne_eqb (j + 1) 0 (λ h. omega (arith, h))

-- another process's line is passed, and a wait for one that has come so far
pub skips_other : (come : ℕ → ℕ → Bool) (p : ℕ) (lines : List Line) (l : Line) (ls : List Line) → (l.pid.0 == p) ≡ false →
    Skips come p lines (l ∷ ls) → Skips come p lines ls
skips_other come p lines l ls who before = record {
  now = before.now ∙ line_of come p 0 l ls false who;
  later = λ other j. before.later other j ∙ line_of other p (j + 1) l ls false who;
}

pub skips_wait : (come : ℕ → ℕ → Bool) (p : ℕ) (lines : List Line) (l : Line) (ls : List Line) (q : Pid) (n : ℕ) → (l.pid.0 == p) ≡ true →
    l.act ≡ Act.Wait q n → come q.0 n ≡ true → Skips come p lines (l ∷ ls) → Skips come p lines ls
skips_wait come p lines l ls q n who is came before = record {
  now = before.now ∙ wait_line come p 0 l ls q n who is
      ∙ ap (λ (b : Bool). if not b then Some l else next_line come p 0 ls) came;
  later = λ other j. before.later other j ∙ wait_line other p (j + 1) l ls q n who is
      ∙ ap (λ (b : Bool). if b && not (other q.0 n) then Some l else next_line other p (j + 1) ls) (more_calls j);
}

pub next_is_wait : (come : ℕ → ℕ → Bool) (p : ℕ) (lines left : List Line) (l : Line) (place : ℕ) (q : Pid) (n : ℕ) →
    slice_get lines place ≡ Some l → (l.pid.0 == p) ≡ true → l.act ≡ Act.Wait q n → come q.0 n ≡ false →
    Skips come p left (drop place lines) → IsNext come p lines left (Next.Wait place)
next_is_wait come p lines left l place q n stands who is came before = (
  l,
  stands,
  before.now ∙ ap (λ (ls : List Line). next_line come p 0 ls) (drop_line lines place l stands)
      ∙ wait_line come p 0 l (drop (place + 1) lines) q n who is
      ∙ ap (λ (b : Bool). if not b then Some l else next_line come p 0 (drop (place + 1) lines)) came,
  ap call_in is,
)

pub next_is_call : (come : ℕ → ℕ → Bool) (p : ℕ) (lines left : List Line) (l : Line) (place : ℕ) (request : Request) →
    slice_get lines place ≡ Some l → (l.pid.0 == p) ≡ true → l.act ≡ Act.Call request → Skips come p left (drop place lines) →
    IsNext come p lines left (Next.Call place)
next_is_call come p lines left l place request stands who is before = (
  l,
  stands,
  now ∙ call_line come p 0 l _ request who is,
  (request, is),
  λ other j. later other j ∙ call_line other p (j + 1) l _ request who is
      ∙ ap (λ (b : Bool). if b then Some l else next_line other p (j + 1 - 1) (drop (place + 1) lines)) (more_calls j)
      ∙ ap (λ (i : ℕ). next_line other p i (drop (place + 1) lines)) (let same : j + 1 - 1 ≡ j = omega arith in same),
)
  where
    rest : drop place lines ≡ l ∷ drop (place + 1) lines
    rest = drop_line lines place l stands

    now : next_line come p 0 left ≡ next_line come p 0 (l ∷ drop (place + 1) lines)
    now = before.now ∙ ap (λ (ls : List Line). next_line come p 0 ls) rest

    later : (other : ℕ → ℕ → Bool) (j : ℕ) → next_line other p (j + 1) left ≡ next_line other p (j + 1) (l ∷ drop (place + 1) lines)
    later other j = before.later other j ∙ ap (λ (ls : List Line). next_line other p (j + 1) ls) rest

-- ---- the calls of a history that threads make

-- what nobody makes is none of them
calls_in_end : (es : List Entry) (e : Entry) → (e.pid.0 == 0) ≡ true → calls_in (es ++ e ∷ []) ≡ calls_in es
calls_in_end es e h =
    filter-append (λ (x : Entry). not (x.pid.0 == 0)) es (e ∷ [])
    ∙ ap (λ (b : Bool). calls_in es ++ cond {A = List Entry} (not b) (e ∷ []) []) h ∙ append-nil (calls_in es)

steps_pids : (old new : Crewed) (pid : Pid) → Steps old new pid → pids_of new.book.entries ≡ pids_of old.book.entries ++ pid ∷ []
steps_pids old new pid steps =
    ap (λ (b : KeptHistory). pids_of b.entries) steps.book
    ∙ pids-append old.book.entries (steps.entry ∷ [])
    ∙ ap (λ (ps : List Pid). pids_of old.book.entries ++ ps)
    (pids_first steps.entry [] (caller old.book.boot old.lines old.book.entries steps.entry steps.follows))
    ∙ ap (λ (p : Pid). pids_of old.book.entries ++ p ∷ []) steps.whose

-- the history with the end of the layer behind it, which nobody makes, has the same calls
pub ended_calls : (old new : KeptHistory) (lines : List Line) → Threaded old.boot lines old.entries →
    Answers old new (record { 0 = 0 }) Request.Off Reply.Ok → calls_in new.entries ≡ old.entries
ended_calls old new lines threaded a =
    ap (λ (b : KeptHistory). calls_in b.entries) a.adds.appended
    ∙ calls_in_end old.entries _ refl ∙ all_processes threaded

-- ---- who is ready

-- each process up to this number that asks for a call is among these
abbrev pub ReadyUpTo : KeptHistory → List Line → ℕ → List Ready → Type 0
ReadyUpTo book lines n ready =
    (pid : Pid) (request : Request) → asks book lines pid.0 ≡ Some request → pid.0 ≤ n → is_among pid ready ≡ true

pub ready_none : (book : KeptHistory) (lines : List Line) → ReadyUpTo book lines 0 []
ready_none book lines pid request asked low =
    let least = (asker_within book lines pid.0 request asked).0 in absurd (omega (arith, least, low))

pub ready_pushed : (book : KeptHistory) (lines : List Line) (n : ℕ) (xs ys : List Ready) (one : Ready) → one.pid.0 ≡ n + 1 →
    ys ≡ xs ++ one ∷ [] → ReadyUpTo book lines n xs → ReadyUpTo book lines (n + 1) ys
ready_pushed book lines n xs ys one is more before pid request asked low =
    ap (is_among pid) more ∙ list_any-append (λ (r : Ready). r.pid.0 == pid.0) xs (one ∷ [])
    ∙ ⊎_elim {C = (is_among pid xs || ((one.pid.0 == pid.0) || false)) ≡ true}
    (λ same. ap (λ (b : Bool). is_among pid xs || (b || false)) same.0 ∙ or-true (is_among pid xs))
    (λ other. ap (λ (b : Bool). b || ((one.pid.0 == pid.0) || false))
    (before pid request asked (let apart = other.1 in let bound : pid.0 ≤ n = omega (arith, low, is, apart) in bound)))
    (eqb_tells one.pid.0 pid.0)

pub ready_skipped : (book : KeptHistory) (lines : List Line) (n : ℕ) (xs ys : List Ready) → asks book lines (n + 1) ≡ None →
    ys ≡ xs → ReadyUpTo book lines n xs → ReadyUpTo book lines (n + 1) ys
ready_skipped book lines n xs ys none same before pid request asked low =
    ap (is_among pid) same
    ∙ ⊎_elim {C = is_among pid xs ≡ true}
    (λ here. let both : None ≡ Some request = sym none ∙ ap (asks book lines) (sym here.1) ∙ asked in absurd (cc both))
    (λ other. before pid request asked (let apart = other.1 in let bound : pid.0 ≤ n = omega (arith, low, apart) in bound))
    (eqb_tells pid.0 (n + 1))

pub all_ready : (book : KeptHistory) (lines : List Line) (n : ℕ) (xs : List Ready) → processes book ≤ n →
    ReadyUpTo book lines n xs → HasReady (record { book = book; lines = lines }) xs
all_ready book lines n xs within before pid request asked =
    let last = (asker_within book lines pid.0 request asked).1 in before pid request asked (omega (arith, last, within))

-- ---- one call after another

pub made_more : (old new : Crewed) (pids : List Pid) (i : ℕ) (d : Pid) → i < length pids → Steps old new (get_or pids i d) →
    pids_of old.book.entries ≡ take i pids → pids_of new.book.entries ≡ take (i + 1) pids
made_more old new pids i d inside steps before =
    steps_pids old new (get_or pids i d) steps ∙ ap (λ (ps : List Pid). ps ++ get_or pids i d ∷ []) before ∙ sym (take_more pids i d inside)

pub stops_at : (crew now : Crewed) (pids : List Pid) (i : ℕ) (d : Pid) → i < length pids → now ≡ crew →
    pids_of crew.book.entries ≡ take i pids → IsHeld crew (get_or pids i d) → StopsAt now pids
stops_at crew now pids i d inside same before held = subst (λ (v : Crewed). StopsAt v pids) (sym same) (record {
  before = take i pids;
  pid = get_or pids i d;
  behind = drop (i + 1) pids;
  all = sym (take-append-drop i pids) ∙ ap (λ (ps : List Pid). take i pids ++ ps) (drop_more pids i d inside);
  made = before;
  held = held;
})

-- ---- each kind of call

no_child : (reply : Reply) → ((child : Pid) → reply ≡ Reply.Child child → ⊥) → makes_one Request.Fork reply ≡ false
no_child (Reply.Child child) h = absurd (h child refl)
no_child reply h = refl

-- who asks has a place
has_place : (book : KeptHistory) (lines : List Line) (xs : List ℕ) (p : ℕ) (request : Request) → IsCrew book lines xs →
    asks book lines p ≡ Some request → p < length xs
has_place book lines xs p request crew asked =
    let within = (asker_within book lines p request asked).1 in
    let long = crew.at.long in
    omega (arith, within, long)

still_long : (old new : KeptHistory) (lines : List Line) (xs ys : List ℕ) (pid : Pid) (request : Request) (reply : Reply) →
    IsCrew old lines xs → Answers old new pid request reply → makes_one request reply ≡ false → length ys ≡ length xs →
    processes new < length ys
still_long old new lines xs ys pid request reply crew a none size =
    let more = many_after old new pid request reply a ∙ ap (λ (b : Bool). processes old + cond {A = ℕ} b 1 0) none in
    let long = crew.at.long in
    omega (arith, more, long, size)

-- What is known where a process makes a call that it asks for. The crew is seen in its parts, and as the whole that a contract speaks of.
pub record Calling (old : KeptHistory) (lines : List Line) (xs : List ℕ) (pid : Pid) (request : Request) : Type 0 where
  pub crew : IsCrew old lines xs
  pub legal : IsLegal old.boot old.entries
  pub asked : asks old lines pid.0 ≡ Some request

pub calling : (old : KeptHistory) (v : Crewed) (lines : List Line) (xs : List ℕ) (pid : Pid) (request : Request) →
    record { book = old; lines = lines } ≡ v → IsCrew old lines xs → IsLegal old.boot old.entries →
    asks v.book v.lines pid.0 ≡ Some request → Calling old lines xs pid request
calling old v lines xs pid request is crew legal asked = record {
  crew = crew;
  legal = legal;
  asked = ap (λ (w : Crewed). asks w.book w.lines pid.0) is ∙ asked;
}

pub left_in : (old : KeptHistory) (v : Crewed) (lines : List Line) (pid : Pid) (behind : ℕ) → record { book = old; lines = lines } ≡ v →
    IsLeft pid.0 (calls_of pid.0 v.book.entries + 1) v.lines (drop behind v.lines) →
    IsLeft pid.0 (calls_of pid.0 old.entries + 1) lines (drop behind lines)
left_in old v lines pid behind is =
    subst (λ (w : Crewed). IsLeft pid.0 (calls_of pid.0 w.book.entries + 1) w.lines (drop behind w.lines)) (sym is)

pub crew_exited : (old new : KeptHistory) (lines : List Line) (xs : List ℕ) (pid : Pid) → Calling old lines xs pid Request.Exit →
    Answers old new pid Request.Exit Reply.Ok → IsCrew new lines xs
crew_exited old new lines xs pid by a =
    crew_after old new lines xs xs pid Request.Exit Reply.Ok by.crew a by.asked (exit_done (state_of old) pid.0 Reply.Ok)
    (places_after old new lines xs xs pid Request.Exit Reply.Ok by.crew.at by.legal a (moves_exit old lines xs pid Reply.Ok)
    (still_long old new lines xs xs pid Request.Exit Reply.Ok by.crew a refl refl))

pub crew_called : (old new : KeptHistory) (lines : List Line) (xs own : List ℕ) (pid : Pid) (request : Request) (o : Option Reply)
    (reply : Reply) (behind : ℕ) → Calling old lines xs pid request → has_own_call request ≡ false → own ≡ set xs pid.0 behind →
    IsLeft pid.0 (calls_of pid.0 old.entries + 1) lines (drop behind lines) → o ≡ Some reply →
    IfSome o (λ r. Answers old new pid request r) → IfSome o (λ r. should_wait (state_of old) pid.0 request r ≡ false) →
    IsCrew new lines own
crew_called old new lines xs own pid request o reply behind by plain set left is all rest =
    subst (λ (ys : List ℕ). IsCrew new lines ys) (sym set)
    (crew_after old new lines xs _ pid request reply by.crew a by.asked
    (subst (λ (o : Option Reply). IfSome o (λ r. should_wait (state_of old) pid.0 request r ≡ false)) is rest)
    (places_after old new lines xs _ pid request reply by.crew.at by.legal a
    (moves_call old lines xs pid request reply behind plain left (has_place old lines xs pid.0 request by.crew by.asked))
    (still_long old new lines xs _ pid request reply by.crew a
    (no_fork request reply (or_parts (is_last request) (is_fork request) plain).1) (length-set xs pid.0 behind))))
  where
    a : Answers old new pid request reply
    a = subst (λ (o : Option Reply). IfSome o (λ r. Answers old new pid request r)) is all

-- where no call was made
pub crew_kept : (old new : KeptHistory) (lines : List Line) (xs : List ℕ) → IsCrew old lines xs → new ≡ old → IsCrew new lines xs
crew_kept old new lines xs crew same = subst (λ (b : KeptHistory). IsCrew b lines xs) (sym same) crew

-- of a fork, with one place more: where it wasn't made, where it made no process, and where it made one
pub not_forked : (old new : KeptHistory) (lines : List Line) (xs pushed : List ℕ) → IsCrew old lines xs → pushed ≡ xs ++ 0 ∷ [] →
    new ≡ old → IsCrew new lines pushed
not_forked old new lines xs pushed crew more same =
    crew_kept old new lines pushed (subst (λ (ys : List ℕ). IsCrew old lines ys) (sym more) (wider old lines xs crew)) same

-- so it calls with one place more
wider_call : (old : KeptHistory) (lines : List Line) (xs pushed : List ℕ) (pid : Pid) → Calling old lines xs pid Request.Fork →
    pushed ≡ xs ++ 0 ∷ [] → Calling old lines pushed pid Request.Fork
wider_call old lines xs pushed pid by more = record {
  crew = not_forked old old lines xs pushed by.crew more refl;
  legal = by.legal;
  asked = by.asked;
}

pub own_fits : (old : KeptHistory) (lines : List Line) (xs pushed : List ℕ) (pid : Pid) → Calling old lines xs pid Request.Fork →
    pushed ≡ xs ++ 0 ∷ [] → pid.0 < length pushed
own_fits old lines xs pushed pid by more =
    has_place old lines pushed pid.0 Request.Fork (wider_call old lines xs pushed pid by more).crew by.asked

pub crew_childless : (old new : KeptHistory) (lines : List Line) (xs pushed own : List ℕ) (pid : Pid) (reply : Reply) (behind : ℕ) →
    Calling old lines xs pid Request.Fork → pushed ≡ xs ++ 0 ∷ [] → own ≡ set pushed pid.0 behind →
    IsLeft pid.0 (calls_of pid.0 old.entries + 1) lines (drop behind lines) → Answers old new pid Request.Fork reply →
    ((child : Pid) → reply ≡ Reply.Child child → ⊥) → IsCrew new lines own
crew_childless old new lines xs pushed own pid reply behind by more is left a none =
    subst (λ (ys : List ℕ). IsCrew new lines ys) (sym is)
    (crew_after old new lines pushed _ pid Request.Fork reply wide.crew a wide.asked (fork_done (state_of old) pid.0 reply)
    (places_after old new lines pushed _ pid Request.Fork reply wide.crew.at wide.legal a
    (moves_refused old lines pushed pid reply behind (no_child reply none) left (own_fits old lines xs pushed pid by more))
    (still_long old new lines pushed _ pid Request.Fork reply wide.crew a (no_child reply none) (length-set pushed pid.0 behind))))
  where
    wide : Calling old lines pushed pid Request.Fork
    wide = wider_call old lines xs pushed pid by more

-- the new process has a place
pub child_fits : (old new : KeptHistory) (lines : List Line) (xs pushed own : List ℕ) (pid child : Pid) (reply : Reply) (behind : ℕ) →
    IsCrew old lines xs → pushed ≡ xs ++ 0 ∷ [] → own ≡ set pushed pid.0 behind → Answers old new pid Request.Fork reply →
    reply ≡ Reply.Child child → child.0 < length own
child_fits old new lines xs pushed own pid child reply behind crew more is a told =
    let one = subst (λ (r : Reply). Answers old new pid Request.Fork r) told a in
    let next : child.0 ≡ next_process (state_of old) =
    fork_tells_the_next (state_of old) _ pid.0 (length old.entries) child one.released one.adds.next.steps in
    let long = crew.at.long in
    let size = ap (λ (ys : List ℕ). length ys) more ∙ length_push xs 0 in
    let same = ap (λ (ys : List ℕ). length ys) is ∙ length-set pushed pid.0 behind in
    omega (arith, next, long, size, same)

pub crew_forked : (old new : KeptHistory) (lines : List Line) (xs pushed own all : List ℕ) (pid child : Pid) (reply : Reply) (behind : ℕ) →
    Calling old lines xs pid Request.Fork → pushed ≡ xs ++ 0 ∷ [] → own ≡ set pushed pid.0 behind → all ≡ set own child.0 0 →
    IsLeft pid.0 (calls_of pid.0 old.entries + 1) lines (drop behind lines) → Answers old new pid Request.Fork reply →
    reply ≡ Reply.Child child → IsCrew new lines all
crew_forked old new lines xs pushed own all pid child reply behind by more is last left a told =
    subst (λ (ys : List ℕ). IsCrew new lines ys) (sym (last ∙ ap (λ (ys : List ℕ). set ys child.0 0) is))
    (crew_after old new lines pushed _ pid Request.Fork (Reply.Child child) wide.crew one wide.asked
    (fork_done (state_of old) pid.0 (Reply.Child child))
    (places_after old new lines pushed _ pid Request.Fork (Reply.Child child) wide.crew.at wide.legal one
    (moves_forked old new lines pushed pid child behind one wide.crew.at left (own_fits old lines xs pushed pid by more)
    (omega (arith, fits, same)))
    (omega (arith, again, count, long, size))))
  where
    wide : Calling old lines pushed pid Request.Fork
    wide = wider_call old lines xs pushed pid by more

    one : Answers old new pid Request.Fork (Reply.Child child)
    one = subst (λ (r : Reply). Answers old new pid Request.Fork r) told a

    fits : child.0 < length own
    fits = child_fits old new lines xs pushed own pid child reply behind by.crew more is a told

    same : length own ≡ length pushed
    same = ap (λ (ys : List ℕ). length ys) is ∙ length-set pushed pid.0 behind

    again : length (set (set pushed pid.0 behind) child.0 0) ≡ length pushed
    again = length-set (set pushed pid.0 behind) child.0 0 ∙ length-set pushed pid.0 behind

    count : processes new ≡ processes old + 1
    count = many_after old new pid Request.Fork (Reply.Child child) one

    long : processes old < length xs
    long = by.crew.at.long

    size : length pushed ≡ length xs + 1
    size = ap (λ (ys : List ℕ). length ys) more ∙ length_push xs 0

-- what follows from either outcome, and from a success
pub outcome : {A E P Q R : Type 0} (r : Result A E) → (P → R) → (Q → R) → OnOk r P → OnErr r Q → R
outcome (Ok a) f h p q = f p
outcome (Err e) f h p q = h q

pub on_ok : {A E P : Type 0} (r : Result A E) → is_err r ≡ false → OnOk r P → P
on_ok (Ok a) h p = p
on_ok (Err e) h p = absurd (cc h)

-- ---- a history beside its script

pub whole_run : (boot : State) (s : Plan) (kept history : Vec Entry Global) → kept ≡ history → IsLegal boot history.items →
    MakesAll s history.items → Runs boot s kept.items
whole_run boot s kept history same legal calls =
    subst (λ (v : Vec Entry Global). Runs boot s v.items) (sym same) (record { legal = legal; calls = calls })

pub begun_run : (boot : State) (s : Plan) (kept history : Vec Entry Global) → kept ≡ history → IsLegal boot history.items →
    MakesFirst s history.items → HasBegun boot s kept.items
begun_run boot s kept history same legal calls =
    subst (λ (v : Vec Entry Global). HasBegun boot s v.items) (sym same) (record { legal = legal; calls = calls })
