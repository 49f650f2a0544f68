-- The flags after an entry are those of the tables after it.
use Rattle.std.proofs.Common.{◌≡◌, ℕ, ◌==◌, cond, List, [], Option, None, Some, option_map, refl, ap, sym, ◌∙◌, subst, Bool, true, false}
use Rattle.std.proofs.Common.{arith, rules}
use Rattle.std.proofs.lemmas.Bool.{eqb-true}
use Rattle.std.specs.Global.{Vec}
use Rattle.std.specs.List.{list_any}
use Rattle.ux_model.specs.Types.{Request, Reply, Entry}
use Rattle.ux_model.specs.Flags.{asks_cloexec}
use Rattle.ux_model.specs.Process.{Descriptor, kept_on_exec, with_cloexec}
use Rattle.ux_model.specs.State.{State}
use Rattle.ux_model.specs.History.{makes}
use Rattle.ux_model.specs.Giving.{held_at, given}
use Rattle.ux_model.specs.Changes.{cloexec_of, left_by, is_err, others_left_by, ChangesTables}
use Rattle.ux_model.proofs.Lists.ChangedPlaces.{bool_cases}
use Rattle.ux_model.proofs.Lists.ByPlace.{member_place}
use Rattle.ux_model.proofs.Tables.Replacing.{gives_none}
use Rattle.ux_audit.specs.Shown.{shown}
use Rattle.ux_audit.specs.Flags.{flag_on_exec, flag_left, flag_of_others, flag_own, flag_at, flag_after, AreFlags, AreSmall}

abbrev flag : Option Descriptor → Option Bool
flag o = option_map (λ (x : Descriptor). x.cloexec) o

flag-cond : (b : Bool) (u v : Option Descriptor) → cond b (flag u) (flag v) ≡ flag (cond b u v)
flag-cond true u v = refl
flag-cond false u v = refl

flag-set : (on : Bool) (o : Option Descriptor) → option_map (λ c. on) (flag o) ≡ flag (option_map (with_cloexec on) o)
flag-set on None = refl
flag-set on (Some x) = refl

flag-exec : (o : Option Descriptor) → flag_on_exec (flag o) ≡ flag (kept_on_exec o)
flag-exec None = refl
flag-exec (Some x) = flag-cond x.cloexec None (Some x)

flag-left : (r : Request) (n : ℕ) (o : Option Descriptor) → flag_left r n (flag o) ≡ flag (left_by r n o)
flag-left (Request.SetFlags fd flags) n o =
    ap (λ m. cond (fd.0 == n) m (flag o)) (flag-set (asks_cloexec flags) o)
    ∙ flag-cond (fd.0 == n) (option_map (with_cloexec (asks_cloexec flags)) o) o
flag-left (Request.Close fd) n o = flag-cond (fd.0 == n) None o
flag-left Request.Exec n o = flag-exec o
flag-left Request.Exit n o = refl
flag-left Request.Off n o = refl
flag-left _ n o = refl

flag-others : (r : Request) (o : Option Descriptor) → flag_of_others r (flag o) ≡ flag (others_left_by r o)
flag-others Request.Off o = refl
flag-others _ o = refl

err_makes_none : (q : ℕ) (request : Request) (reply : Reply) → is_err reply ≡ true → makes q request reply ≡ false
err_makes_none q Request.Fork (Reply.Err e) h = refl
err_makes_none q Request.Fork (Reply.Child pid) h = absurd (cc h)
err_makes_none q request reply h = refl

err_gives_none : (S : State) (p : ℕ) (request : Request) (reply : Reply) → is_err reply ≡ true → given S p request reply ≡ []
err_gives_none S p request (Reply.Err e) h = gives_none S p request (Reply.Err e) refl
err_gives_none S p request reply h = absurd (cc h)

-- an entry from S to T, whose flags are known before it
record Known (S T : State) (e : Entry) (m : ℕ → ℕ → Option Bool) : Type 0 where
  pub changes : ChangesTables S e.pid.0 e.request e.reply T
  pub gave : shown e.request e.reply ≡ given S e.pid.0 e.request e.reply
  pub before : (q n : ℕ) → m q n ≡ flag (held_at S q n)

-- one that was refused changes nothing
refused_told : (S T : State) (e : Entry) (m : ℕ → ℕ → Option Bool) → Known S T e m → is_err e.reply ≡ true → (q n : ℕ) →
    m q n ≡ flag (held_at T q n)
refused_told S T e m k err q n = k.before q n ∙ bool_cases (e.pid.0 == q)
    (λ own.
    let same : e.pid.0 ≡ q = eqb-true e.pid.0 q own in
    let none : list_any (λ i. i == n) (given S e.pid.0 e.request e.reply) ≡ false =
    ap (λ l. list_any (λ i. i == n) l) (err_gives_none S e.pid.0 e.request e.reply err) in
    subst (λ (p : ℕ). flag (held_at S p n) ≡ flag (held_at T p n)) same
    (ap flag (sym (k.changes.own n none ∙ ap (λ b. cond b (held_at S e.pid.0 n) (left_by e.request n (held_at S e.pid.0 n))) err))))
    (λ other. ap flag (sym (k.changes.others q n other (err_makes_none q e.request e.reply err)
    ∙ ap (λ b. cond b (held_at S q n) (others_left_by e.request (held_at S q n))) err)))

-- a number of its own after one that wasn't
own_told : (S T : State) (e : Entry) (m : ℕ → ℕ → Option Bool) → Known S T e m → is_err e.reply ≡ false → (n : ℕ) →
    flag_own e.request (shown e.request e.reply) n (m e.pid.0 n) ≡ flag (held_at T e.pid.0 n)
own_told S T e m k fine n =
    ap (λ l. flag_own e.request l n (m e.pid.0 n)) k.gave ∙ bool_cases (list_any (λ i. i == n) numbers)
    (λ among.
    let i = member_place numbers n among in
    let w = k.changes.new i.0 n i.1 in
    ap (λ b. cond b (Some (cloexec_of e.request)) (flag_left e.request n (m e.pid.0 n))) among ∙ sym (ap flag w.2))
    (λ none.
    ap (λ b. cond b (Some (cloexec_of e.request)) (flag_left e.request n (m e.pid.0 n))) none
    ∙ ap (flag_left e.request n) (k.before e.pid.0 n) ∙ flag-left e.request n (held_at S e.pid.0 n)
    ∙ ap flag (sym (ap (λ b. cond b (held_at S e.pid.0 n) (left_by e.request n (held_at S e.pid.0 n))) fine))
    ∙ ap flag (sym (k.changes.own n none)))
  where
    numbers : List ℕ
    numbers = given S e.pid.0 e.request e.reply

-- and one of another process
other_told : (S T : State) (e : Entry) (m : ℕ → ℕ → Option Bool) → Known S T e m → is_err e.reply ≡ false → (q n : ℕ) →
    (e.pid.0 == q) ≡ false → makes q e.request e.reply ≡ false →
    flag_of_others e.request (m q n) ≡ flag (held_at T q n)
other_told S T e m k fine q n other childless =
    ap (flag_of_others e.request) (k.before q n) ∙ flag-others e.request (held_at S q n)
    ∙ ap flag (sym (ap (λ b. cond b (held_at S q n) (others_left_by e.request (held_at S q n))) fine))
    ∙ ap flag (sym (k.changes.others q n other childless))

told : (S T : State) (e : Entry) (m : ℕ → ℕ → Option Bool) → Known S T e m → (q n : ℕ) → flag_after m e q n ≡ flag (held_at T q n)
told S T e m k q n = bool_cases (is_err e.reply)
    (λ err. ap (λ b. cond b (m q n) answered) err ∙ refused_told S T e m k err q n)
    (λ fine. ap (λ b. cond b (m q n) answered) fine ∙ bool_cases (makes q e.request e.reply)
    (λ child. ap (λ b. cond b (m e.pid.0 n) unborn) child ∙ k.before e.pid.0 n ∙ ap flag (sym (k.changes.child q n child)))
    (λ childless. ap (λ b. cond b (m e.pid.0 n) unborn) childless ∙ bool_cases (e.pid.0 == q)
    (λ own.
    let same : e.pid.0 ≡ q = eqb-true e.pid.0 q own in
    ap (λ b. cond b (flag_own e.request (shown e.request e.reply) n (m q n)) (flag_of_others e.request (m q n))) own
    ∙ subst (λ (p : ℕ). flag_own e.request (shown e.request e.reply) n (m p n) ≡ flag (held_at T p n)) same (own_told S T e m k fine n))
    (λ other.
    ap (λ b. cond b (flag_own e.request (shown e.request e.reply) n (m q n)) (flag_of_others e.request (m q n))) other
    ∙ other_told S T e m k fine q n other childless)))
  where
    unborn : Option Bool
    unborn = cond (e.pid.0 == q) (flag_own e.request (shown e.request e.reply) n (m q n)) (flag_of_others e.request (m q n))

    answered : Option Bool
    answered = cond (makes q e.request e.reply) (m e.pid.0 n) unborn

pub marks_follow : (S T : State) (e : Entry) (old new : List (Vec (Option Bool))) → ChangesTables S e.pid.0 e.request e.reply T →
    shown e.request e.reply ≡ given S e.pid.0 e.request e.reply → AreFlags S old →
    ((q n : ℕ) → flag_at new q n ≡ flag_after (flag_at old) e q n) → AreFlags T new
marks_follow S T e old new changes gave are follows q n = follows q n
    ∙ told S T e (flag_at old) (record { changes = changes; gave = gave; before = are }) q n

-- ---- at first

pub small_none : (tables : List (Vec (Option Bool))) → tables ≡ [] → AreSmall tables
small_none tables h = subst AreSmall (sym h) (record { count = omega arith; rows = search rules })

pub marks_none : (S : State) (tables : List (Vec (Option Bool))) → tables ≡ [] → ((p n : ℕ) → held_at S p n ≡ None) → AreFlags S tables
marks_none S tables h none q n = ap (λ (t : List (Vec (Option Bool))). flag_at t q n) h ∙ sym (ap flag (none q n))
