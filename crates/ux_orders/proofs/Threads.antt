-- What follows for histories that threads make of a script.
use Rattle.std.proofs.Common.{◌≡◌, ◌⊎◌, inl, inr, ⊎_elim, ℕ, zero, suc, Bool, true, false, not, ◌&&◌, ◌||◌, ◌==◌, if◌then◌else◌, List, []}
use Rattle.std.proofs.Common.{◌∷◌, ◌++◌, length, take, Option, Some, None, refl, sym, ap, ◌∙◌, subst, append-nil, append_assoc, arith}
use Rattle.std.specs.List.{slice_get}
use Rattle.std.proofs.lemmas.Bool.{false≢true, or_parts, ne_eqb}
use Rattle.std.proofs.lemmas.Bool.Decides.{eqb_tells}
use Rattle.std.proofs.lemmas.List.Elements.{filter-append}
use Rattle.std.proofs.lemmas.List.Folds.{list_any-append}
use Rattle.std.proofs.Math.Seq.{take-append_seam}
use Rattle.ux_model.specs.Types.{Pid, Errno, Request, Reply, Entry}
use Rattle.ux_model.specs.State.{State, is_live}
use Rattle.ux_model.specs.Release.{released}
use Rattle.ux_model.specs.Outcome.{Outcome, Chosen, own, lacking_memory, failing}
use Rattle.ux_model.specs.Step.{Step, outcome}
use Rattle.ux_model.specs.Delivered.{delivered_by}
use Rattle.ux_model.specs.Waiting.{may_wait, is_again, should_wait}
use Rattle.ux_model.specs.History.{calls_of, replay}
use Rattle.ux_model.proofs.Lists.Appending.{get_push}
use Rattle.ux_book.specs.Books.{KeptHistory, state_of, MustWait}
use Rattle.ux_syntax.specs.Lines.{Line}
use Rattle.ux_orders.specs.declared.chooser.Ready.{Ready}
use Rattle.ux_orders.specs.Lists.{pids_of}
use Rattle.ux_orders.specs.Threads.{next_line, has_come, call_in, asks, Follows, Threaded, start, further, is_choice, has_choice, AreAll}
use Rattle.ux_orders.specs.Threads.{calls_in}
use Rattle.ux_orders.specs.Crews.{Crewed, IsHeld, Makes, StopsAt, is_among, HasReady, AreHeld}
use Rattle.ux_orders.specs.Walks.{GoesOn}

-- ---- who calls

-- who asks for a call lives
pub lives : (book : KeptHistory) (lines : List Line) (p : ℕ) (request : Request) → asks book lines p ≡ Some request →
    is_live (state_of book) p ≡ true
lives book lines p request = go (is_live (state_of book) p)
  where
    next : Option Request
    next = elim (next_line (has_come book) p (calls_of p book.entries) lines) as (λ _. Option Request) [
      | None ↦ Some Request.Exit
      | Some l ↦ call_in l.act
    ]

    go : (b : Bool) → (if b then next else None) ≡ Some request → b ≡ true
    go true h = refl
    go false h = absurd (cc h)

-- nobody doesn't
somebody : (S : State) (p : ℕ) → is_live S p ≡ true → (p == 0) ≡ false
somebody S zero live = absurd (false≢true live)
somebody S (suc p) live = ne_eqb (suc p) 0 (λ h. omega (arith, h))

pub caller : (boot : State) (lines : List Line) (before : List Entry) (e : Entry) → Follows boot lines before e → (e.pid.0 == 0) ≡ false
caller boot lines before e follows =
    somebody (replay boot before) e.pid.0 (lives (record { boot = boot; entries = before }) lines e.pid.0 e.request follows.asked)

-- each entry is a process's
pub all_processes : {boot : State} {lines : List Line} {calls : List Entry} → Threaded boot lines calls → calls_in calls ≡ calls
all_processes start = refl
all_processes {boot} {lines} (further {calls = cs} e threaded follows) =
    filter-append (λ (x : Entry). not (x.pid.0 == 0)) cs (e ∷ [])
    ∙ ap (λ (es : List Entry). es ++ calls_in (e ∷ [])) (all_processes threaded)
    ∙ ap (λ (b : Bool). cs ++ (if not b then e ∷ [] else [])) (caller boot lines cs e follows)

-- the first of two lists of calls, and then those of the other
pub pids-append : (a b : List Entry) → pids_of (a ++ b) ≡ pids_of a ++ pids_of b
pids-append [] b = refl
pids-append (e ∷ es) b = go (pids-append es b) (e.pid.0 == 0)
  where
    go : pids_of (es ++ b) ≡ pids_of es ++ pids_of b → (nobody : Bool) →
        (if nobody then pids_of (es ++ b) else e.pid ∷ pids_of (es ++ b)) ≡ (if nobody then pids_of es else e.pid ∷ pids_of es) ++ pids_of b
    go more true = more
    go more false = ap (λ (ps : List Pid). e.pid ∷ ps) more

pub pids_first : (e : Entry) (es : List Entry) → (e.pid.0 == 0) ≡ false → pids_of (e ∷ es) ≡ e.pid ∷ pids_of es
pids_first e es h = ap (λ (b : Bool). if b then pids_of es else e.pid ∷ pids_of es) h

-- ---- each call came next

step_in : {boot : State} {lines : List Line} {calls : List Entry} → Threaded boot lines calls → (i : ℕ) (e : Entry) →
    slice_get calls i ≡ Some e →
    Follows boot lines (take i calls) e
step_in start zero e h = absurd cc
step_in start (suc i) e h = absurd cc
step_in {boot} {lines} (further {calls = cs} f threaded follows) i e h =
    ⊎_elim {C = Follows boot lines (take i (cs ++ f ∷ [])) e}
    (λ w. subst (λ (es : List Entry). Follows boot lines es e) (sym w.1) (step_in threaded i e w.0))
    (λ w. subst (λ (es : List Entry). Follows boot lines es e) (sym w.1) (subst (λ (x : Entry). Follows boot lines cs x) (sym w.0) follows))
    (get_push cs f e i h)

stands_behind : (before behind : List Entry) (e : Entry) → slice_get (before ++ e ∷ behind) (length before) ≡ Some e
stands_behind [] behind e = refl
stands_behind (x ∷ before) behind e = stands_behind before behind e

pub step_at : {boot : State} {lines : List Line} (before behind : List Entry) (e : Entry) → Threaded boot lines (before ++ e ∷ behind) →
    Follows boot lines before e
step_at {boot} {lines} before behind e threaded =
    subst (λ (es : List Entry). Follows boot lines es e) (take-append_seam before (e ∷ behind))
    (step_in threaded (length before) e (stands_behind before behind e))

-- what stands before the last
pub before_last : {X : Type 0} (xs ys : List X) (x y : X) → xs ++ x ∷ [] ≡ ys ++ y ∷ [] → xs ≡ ys
before_last [] [] x y h = refl
before_last [] (b ∷ []) x y h = absurd cc
before_last [] (b ∷ d ∷ ys) x y h = absurd cc
before_last (a ∷ []) [] x y h = absurd cc
before_last (a ∷ d ∷ xs) [] x y h = absurd cc
before_last {X} (a ∷ xs) (b ∷ ys) x y h =
    let first : a ≡ b = cc h in let rest : xs ++ x ∷ [] ≡ ys ++ y ∷ [] = cc h in let more = before_last xs ys x y rest in cc (first, more)

-- the calls before the last one came next too
pub front : {boot : State} {lines : List Line} {calls : List Entry} → Threaded boot lines calls → (before : List Entry) (e : Entry) →
    calls ≡ before ++ e ∷ [] →
    Threaded boot lines before
front start [] e h = absurd cc
front start (x ∷ before) e h = absurd cc
front {boot} {lines} (further {calls = cs} f threaded follows) before e h =
    subst (λ (es : List Entry). Threaded boot lines es) (before_last cs before f e h) threaded

-- ---- without a choice

-- what a call answers and leaves, unless it reports that memory lacks or that a file object fails
plain : (S T : State) (o : Outcome) (reply : Reply) → is_choice reply ≡ false → Chosen S o reply T → (reply ≡ o.reply) × (T ≡ o.next)
plain S T o reply sure (own e g) = (e, g)
plain S T o reply sure (lacking_memory e may g) = absurd (cc (sym sure ∙ ap is_choice e))
plain S T o reply sure (failing e g) = absurd (cc (sym sure ∙ ap is_choice e))

sure_step : (S T : State) (p tag : ℕ) (request : Request) (reply : Reply) (gone : List ℕ) → is_choice reply ≡ false →
    Step S p tag request reply gone T →
    (reply ≡ (outcome S p tag request).reply) × (gone ≡ released (outcome S p tag request).next)
unfolding Step
sure_step S T p tag request reply gone sure s =
    let is = plain S s.0 (outcome S p tag request) reply sure s.1 in (is.0, s.2 ∙ ap released is.1)

-- the entry of a call is known by its process, unless there was a choice
pub only_one : (boot : State) (lines : List Line) (before : List Entry) (e f : Entry) → Follows boot lines before e →
    Follows boot lines before f → e.pid ≡ f.pid →
    is_choice e.reply ≡ false → is_choice f.reply ≡ false → e ≡ f
only_one boot lines before e f one other who sure_e sure_f =
    λ j. record { pid = who j; k = number j; request = asked j; reply = replied j; released = gone j; delivered = told j }
  where
    S : State
    S = replay boot before

    said : Pid → Request → Outcome
    said pid request = outcome S pid.0 (length before) request

    asked : e.request ≡ f.request
    asked =
        let here = one.asked in
        let there = other.asked in
        let same = ap (λ (pid : Pid). asks (record { boot = boot; entries = before }) lines pid.0) who in
        let both : Some e.request ≡ Some f.request = sym here ∙ same ∙ there in
        cc both

    e_is : (e.reply ≡ (said e.pid e.request).reply) × (e.released ≡ released (said e.pid e.request).next)
    e_is = sure_step S (replay boot (before ++ e ∷ [])) e.pid.0 (length before) e.request e.reply e.released sure_e one.legal.steps

    f_is : (f.reply ≡ (said f.pid f.request).reply) × (f.released ≡ released (said f.pid f.request).next)
    f_is = sure_step S (replay boot (before ++ f ∷ [])) f.pid.0 (length before) f.request f.reply f.released sure_f other.legal.steps

    same_outcome : said e.pid e.request ≡ said f.pid f.request
    same_outcome = ap (λ (pid : Pid). said pid e.request) who ∙ ap (said f.pid) asked

    replied : e.reply ≡ f.reply
    replied = e_is.0 ∙ ap (λ (o : Outcome). o.reply) same_outcome ∙ sym f_is.0

    gone : e.released ≡ f.released
    gone = e_is.1 ∙ ap (λ (o : Outcome). released o.next) same_outcome ∙ sym f_is.1

    number : e.k ≡ f.k
    number = one.legal.numbered ∙ ap (λ (pid : Pid). calls_of pid.0 before) who ∙ sym other.legal.numbered

    told : e.delivered ≡ f.delivered
    told =
        one.legal.delivers
        ∙ ap (λ (pid : Pid). delivered_by S pid.0 e.request e.reply) who
        ∙ ap (λ (request : Request). delivered_by S f.pid.0 request e.reply) asked
        ∙ ap (λ (reply : Reply). delivered_by S f.pid.0 f.request reply) replied
        ∙ sym other.legal.delivers

-- none of two lists has a choice
sure_parts : (a b : List Entry) → has_choice (a ++ b) ≡ false → (has_choice a ≡ false) × (has_choice b ≡ false)
sure_parts a b sure = or_parts (has_choice a) (has_choice b) (sym (list_any-append (λ (e : Entry). is_choice e.reply) a b) ∙ sure)

sure_first : (e : Entry) (es : List Entry) → has_choice (e ∷ es) ≡ false → is_choice e.reply ≡ false
sure_first e es sure = (or_parts (is_choice e.reply) (has_choice es) sure).0

-- these calls begin with those, and behind them come others of these processes
pub record Begins (calls P : List Entry) (more : List Pid) : Type 0 where
  pub rest : List Entry
  pub whole : calls ≡ P ++ rest
  pub behind : pids_of rest ≡ more

-- so do they begin with one more, where that came next in both
begins_further : {boot : State} {lines : List Line} (P calls : List Entry) (e : Entry) (more : List Pid) → Follows boot lines P e →
    is_choice e.reply ≡ false →
    Threaded boot lines calls → has_choice calls ≡ false → Begins calls P (e.pid ∷ more) → Begins calls (P ++ e ∷ []) more
begins_further {boot} {lines} P calls e more follows sure_e threaded sure first = next first.rest first.whole first.behind
  where
    next : (rest : List Entry) → calls ≡ P ++ rest → pids_of rest ≡ e.pid ∷ more → Begins calls (P ++ e ∷ []) more
    next [] whole behind = absurd cc
    next (f ∷ rest) whole behind =
        let there : Follows boot lines P f = step_at P rest f (subst (λ (es : List Entry). Threaded boot lines es) whole threaded) in
        let sure_f : is_choice f.reply ≡ false = sure_first f rest (sure_parts P (f ∷ rest) (sym (ap has_choice whole) ∙ sure)).1 in
        let pids : f.pid ∷ pids_of rest ≡ e.pid ∷ more = sym (pids_first f rest (caller boot lines P f there)) ∙ behind in
        let who : f.pid ≡ e.pid = cc pids in
        let is : f ≡ e = only_one boot lines P f e there follows who sure_f sure_e in
        record {
          rest = rest;
          whole = whole ∙ ap (λ (x : Entry). P ++ x ∷ rest) is ∙ sym (append_assoc P (e ∷ []) rest);
          behind = cc pids;
        }

-- who begins with calls of the same processes begins alike
pub begins_alike : {boot : State} {lines : List Line} {P : List Entry} → Threaded boot lines P → (calls : List Entry) (more : List Pid) →
    Threaded boot lines calls →
    has_choice P ≡ false → has_choice calls ≡ false → pids_of calls ≡ pids_of P ++ more → Begins calls P more
begins_alike start calls more threaded sure_P sure same = record { rest = calls; whole = refl; behind = same }
begins_alike {boot} {lines} (further {calls = P} e before follows) calls more threaded sure_P sure same =
    let parts = sure_parts P (e ∷ []) sure_P in
    let last = ap (λ (ps : List Pid). pids_of P ++ ps) (pids_first e [] (caller boot lines P e follows)) in
    let listed : pids_of calls ≡ pids_of P ++ e.pid ∷ more =
    same ∙ ap (λ (ps : List Pid). ps ++ more) (pids-append P (e ∷ []) ∙ last) ∙ append_assoc (pids_of P) (e.pid ∷ []) more in
    let first = begins_alike before calls (e.pid ∷ more) threaded parts.0 sure listed in
    begins_further P calls e more follows (sure_first e [] parts.1) threaded sure first

-- ---- what a crew has found

-- the call comes next in this crew
abbrev Comes : Crewed → Entry → Type 0
Comes crew e = Follows crew.book.boot crew.lines crew.book.entries e

-- threads may have made its calls, without a choice
pub record IsSure (crew : Crewed) : Type 0 where
  pub threaded : Threaded crew.book.boot crew.lines crew.book.entries
  pub sure : has_choice crew.book.entries ≡ false

-- what is held isn't done, unless there is a choice
held_waits : (crew : Crewed) (pid : Pid) (e : Entry) → IsHeld crew pid → Comes crew e → e.pid ≡ pid → is_choice e.reply ≡ true
held_waits crew pid e held comes who = go (is_choice e.reply) refl
  where
    S : State
    S = state_of crew.book

    said : Outcome
    said = outcome S e.pid.0 (length crew.book.entries) e.request

    must : MustWait crew.book e.pid e.request
    must = subst (λ (p : Pid). IsHeld crew p) (sym who) held e.request comes.asked

    go : (b : Bool) → is_choice e.reply ≡ b → b ≡ true
    go true h = refl
    go false sure =
        let here : e.reply ≡ said.reply = (sure_step S _ e.pid.0 _ e.request e.reply e.released sure comes.legal.steps).0 in
        let again = sure_step S S e.pid.0 _ e.request (Reply.Err Errno.EAGAIN) [] refl must.again in
        let is : e.reply ≡ Reply.Err Errno.EAGAIN = here ∙ sym again.0 in
        let waits : should_wait S e.pid.0 e.request e.reply ≡ true =
        (λ j. may_wait S e.pid.0 e.request && is_again (is j)) ∙ ap (λ (b : Bool). b && true) must.waits in
        absurd (false≢true (sym comes.done ∙ waits))

-- one that is among these is held
held_among : (crew : Crewed) (pid : Pid) (ready : List Ready) → is_among pid ready ≡ true → AreHeld crew ready → IsHeld crew pid
held_among crew pid [] among held = absurd (false≢true among)
held_among crew pid (one ∷ ready) among held =
    ⊎_elim {C = IsHeld crew pid}
    (λ w. subst (λ (p : Pid). IsHeld crew p) (λ j. record { 0 = w.1 j }) held.0)
    (λ w. held_among crew pid ready (sym (ap (λ (b : Bool). b || is_among pid ready) w.0) ∙ among) held.1)
    (eqb_tells one.pid.0 pid.0)

-- calls that go on behind those of a crew, of these processes
record GoesBehind (crew : Crewed) (more : List Pid) : Type 0 where
  e : Entry
  rest : List Entry
  pids : more ≡ e.pid ∷ pids_of rest
  comes : Comes crew e
  sure : is_choice e.reply ≡ false

-- all calls of a script that begin as those of a crew are those, or go on behind them
ends_or_goes : (crew : Crewed) (more : List Pid) (calls : List Entry) → IsSure crew → AreAll crew.book.boot crew.lines calls →
    pids_of calls ≡ pids_of crew.book.entries ++ more → ((calls ≡ crew.book.entries) × (more ≡ [])) ⊎ GoesBehind crew more
ends_or_goes crew more calls crew_sure all same = next begins.rest begins.whole begins.behind
  where
    begins : Begins calls crew.book.entries more
    begins = begins_alike crew_sure.threaded calls more all.threaded crew_sure.sure all.sure same

    next : (rest : List Entry) → calls ≡ crew.book.entries ++ rest → pids_of rest ≡ more →
        ((calls ≡ crew.book.entries) × (more ≡ [])) ⊎ GoesBehind crew more
    next [] whole pids = inl (whole ∙ append-nil crew.book.entries, sym pids)
    next (f ∷ rest) whole pids =
        let threaded = subst (λ (es : List Entry). Threaded crew.book.boot crew.lines es) whole all.threaded in
        let comes : Comes crew f = step_at crew.book.entries rest f threaded in
        let sure = sure_parts crew.book.entries (f ∷ rest) (sym (ap has_choice whole) ∙ all.sure) in
        inr (record {
          e = f;
          rest = rest;
          pids = sym pids ∙ pids_first f rest (caller crew.book.boot crew.lines crew.book.entries f comes);
          comes = comes;
          sure = sure_first f rest sure.1;
        })

-- no calls go on from where the next one is held
pub stops : (crew : Crewed) (pids more : List Pid) (calls : List Entry) → IsSure crew → StopsAt crew pids →
    AreAll crew.book.boot crew.lines calls →
    pids_of calls ≡ pids ++ more → ⊥
stops crew pids more calls sure at all same =
    ⊎_elim {C = ⊥}
    (λ w. nothing at.pid (at.behind ++ more) w.1)
    (λ w.
    let who = heads at.pid w.e.pid (at.behind ++ more) (pids_of w.rest) w.pids in
    false≢true (sym w.sure ∙ held_waits crew at.pid w.e at.held w.comes who))
    (ends_or_goes crew (at.pid ∷ (at.behind ++ more)) calls sure all listed)
  where
    listed : pids_of calls ≡ pids_of crew.book.entries ++ at.pid ∷ (at.behind ++ more)
    listed =
        same
        ∙ ap (λ (ps : List Pid). ps ++ more) at.all
        ∙ append_assoc at.before (at.pid ∷ at.behind) more
        ∙ ap (λ (ps : List Pid). ps ++ at.pid ∷ (at.behind ++ more)) (sym at.made)

    nothing : (p : Pid) (ps : List Pid) → p ∷ ps ≡ [] → ⊥
    nothing p ps h = cc h

    heads : (p q : Pid) (ps qs : List Pid) → p ∷ ps ≡ q ∷ qs → q ≡ p
    heads p q ps qs h = cc h

-- where one of these could call, all calls go on
pub goes_on : (old new : Crewed) (pids more : List Pid) (ready : List Ready) (calls : List Entry) → IsSure new →
    pids_of old.book.entries ≡ pids →
    HasReady old ready → Makes old new → AreAll old.book.boot old.lines calls → pids_of calls ≡ pids ++ more → GoesOn more ready
goes_on old new pids more ready calls sure made has makes all same =
    ⊎_elim {C = GoesOn more ready}
    (λ w.
    let comes = subst (λ (es : List Entry). Follows old.book.boot old.lines es e) (sym w.0) makes.steps.follows in
    absurd (false≢true (sym sure_e ∙ all.last e comes)))
    (λ w. record { pid = w.e.pid; more = pids_of w.rest; first = w.pids; among = has w.e.pid w.e.request w.comes.asked })
    (ends_or_goes old more calls (record { threaded = before; sure = parts.0 }) all (same ∙ ap (λ (ps : List Pid). ps ++ more) (sym made)))
  where
    e : Entry
    e = makes.steps.entry

    longer : new.book.entries ≡ old.book.entries ++ e ∷ []
    longer = ap (λ (b : KeptHistory). b.entries) makes.steps.book

    parts : (has_choice old.book.entries ≡ false) × (has_choice (e ∷ []) ≡ false)
    parts = sure_parts old.book.entries (e ∷ []) (sym (ap has_choice longer) ∙ sure.sure)

    sure_e : is_choice e.reply ≡ false
    sure_e = sure_first e [] parts.1

    first : Threaded new.book.boot new.lines old.book.entries
    first = front sure.threaded old.book.entries e longer

    before : Threaded old.book.boot old.lines old.book.entries
    before =
        subst (λ (boot : State). Threaded boot old.lines old.book.entries) (ap (λ (b : KeptHistory). b.boot) makes.steps.book)
        (subst (λ (lines : List Line). Threaded new.book.boot lines old.book.entries) makes.steps.lines first)

-- and where none of these could, there are no more
pub ends_there : (crew : Crewed) (pids more : List Pid) (ready : List Ready) (calls : List Entry) → IsSure crew →
    pids_of crew.book.entries ≡ pids →
    HasReady crew ready → AreHeld crew ready → AreAll crew.book.boot crew.lines calls → pids_of calls ≡ pids ++ more →
    calls ≡ crew.book.entries
ends_there crew pids more ready calls sure made has held all same =
    ⊎_elim {C = calls ≡ crew.book.entries}
    (λ w. w.0)
    (λ w.
    let waits = held_among crew w.e.pid ready (has w.e.pid w.e.request w.comes.asked) held in
    absurd (false≢true (sym w.sure ∙ held_waits crew w.e.pid w.e waits w.comes refl)))
    (ends_or_goes crew more calls sure all (same ∙ ap (λ (ps : List Pid). ps ++ more) (sym made)))
