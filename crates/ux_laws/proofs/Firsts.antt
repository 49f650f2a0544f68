-- Who makes calls where processes of the start never fork.
use Rattle.std.proofs.Common.{◌≡◌, ◌≢◌, ◌⊎◌, ℕ, zero, suc, ◌+◌, ◌≤◌, ◌==◌, Bool, true, false, if◌then◌else◌, List, length, Option, Some}
use Rattle.std.proofs.Common.{None, refl, ap, sym, ◌∙◌, subst, inl, inr, ⊎_elim, arith, slice_get}
use Rattle.std.proofs.lemmas.Bool.{eqb-true, eq-eqb, false≢true}
use Rattle.ux_model.specs.Types.{Request, Reply, Entry}
use Rattle.ux_model.specs.State.{State}
use Rattle.ux_model.specs.History.{makes, makes_one, is_allowed, replay, IsLegal}
use Rattle.ux_model.specs.Pedigree.{before}
use Rattle.ux_model.proofs.Lists.Induction.{take_past}
use Rattle.ux_model.proofs.Pedigrees.Moments.{moment}
use Rattle.ux_model.proofs.Processes.Living.{fork_alone_makes, made_next, live_within}
use Rattle.ux_model.specs.PedigreeLaws.{WasSentNothing}
use Rattle.ux_laws.specs.Files.{AreStrangers, StrangerHasNoWay}
use Rattle.ux_laws.specs.Beginning.{IsOfTheStart, NobodyMakesThem, AllCallsAreTheirs}
use Rattle.ux_laws.proofs.NoWay.{strangers_have_no_way}

-- ---- processes stay

stay : (boot : State) (es : List Entry) (j : ℕ) → IsLegal boot es → length boot.processes ≤ length (before boot es j).processes
stay boot es zero legal = omega arith
stay boot es (suc j) legal = by_entry (slice_get es j) refl (stay boot es j legal)
  where
    by_entry : (x : Option Entry) → slice_get es j ≡ x → length boot.processes ≤ length (before boot es j).processes →
        length boot.processes ≤ length (before boot es (suc j)).processes
    by_entry None none so_far = subst (λ (l : List Entry). length boot.processes ≤ length (replay boot l).processes)
        (sym (take_past es j none)) so_far
    by_entry (Some e) at so_far =
        let more = fork_alone_makes (before boot es j) (before boot es (suc j)) e.pid.0 j e.request e.reply e.released
        (moment boot es j e legal at).steps in
        omega (arith, more, so_far)

pub nobody_makes_them : NobodyMakesThem
nobody_makes_them boot es j q e legal at made =
    let next = made_next (before boot es j) (before boot es (suc j)) e.pid.0 j q e.request e.reply e.released
    (moment boot es j e legal at).steps made in
    let kept = stay boot es j legal in
    omega (arith, next, kept)

-- so a process of the start is alone a stranger, if it is one
pub stranger_has_no_way : StrangerHasNoWay
stranger_has_no_way boot es path j o q fd legal at_first within sent_nothing never_opened =
    strangers_have_no_way boot es path (λ x. x == q) j o q fd legal at_first strangers (eq-eqb q q refl)
  where
    maker : (i x : ℕ) (e : Entry) → slice_get es i ≡ Some e → makes x e.request e.reply ≡ true → x ≡ q → (e.pid.0 == q) ≡ true
    maker i x e at made is = let late = nobody_makes_them boot es i x e legal at made in absurd (omega (arith, late, within, is))

    strangers : AreStrangers boot es path (λ x. x == q)
    strangers = record {
      sent_nothing = record {
        makers = λ i x e at made is. maker i x e at made (eqb-true x q is);
        sent_nothing = λ x is. subst (WasSentNothing boot es) (sym (eqb-true x q is)) sent_nothing;
      };
      never_opened = λ i e mode flags at is. never_opened i e mode flags at (eqb-true e.pid.0 q is);
    }

-- ---- without forks

-- whoever calls is of the first processes, or nobody, who ends the layer
caller_within : (S : State) (p k : ℕ) (request : Request) → is_allowed S p k request ≡ true →
    (request ≡ Request.Off) ⊎ ((1 ≤ p) × (p ≤ length S.processes))
caller_within S p k Request.Off may = inl refl
caller_within S zero k request may = absurd (false≢true may)
caller_within S (suc i) k request may = inr (omega arith, live_within S (suc i) may)

makes_none : (request : Request) (reply : Reply) → request ≢ Request.Fork → makes_one request reply ≡ false
makes_none Request.Fork reply no_fork = absurd (no_fork refl)
makes_none request reply no_fork = refl

-- so there are as many processes as at the start
as_many : (boot : State) (es : List Entry) (i : ℕ) → IsLegal boot es →
    ((k : ℕ) (x : Entry) → slice_get es k ≡ Some x → IsOfTheStart boot x.pid.0 → x.request ≢ Request.Fork) →
    length (before boot es i).processes ≡ length boot.processes
as_many boot es zero legal no_fork = refl
as_many boot es (suc i) legal no_fork = by_entry (slice_get es i) refl (as_many boot es i legal no_fork)
  where
    -- who isn't of the start ends the layer, and doesn't fork
    forks_not : (x : Entry) → slice_get es i ≡ Some x → length (before boot es i).processes ≡ length boot.processes →
        (x.request ≡ Request.Off) ⊎ ((1 ≤ x.pid.0) × (x.pid.0 ≤ length (before boot es i).processes)) →
        x.request ≢ Request.Fork
    forks_not x there so_far (inl off) fork = let clash : Request.Off ≡ Request.Fork = sym off ∙ fork in cc clash
    forks_not x there so_far (inr within) fork = let last = within.1 in no_fork i x there (within.0, omega (arith, last, so_far)) fork

    by_entry : (x : Option Entry) → slice_get es i ≡ x → length (before boot es i).processes ≡ length boot.processes →
        length (before boot es (suc i)).processes ≡ length boot.processes
    by_entry None none so_far = ap (λ (l : List Entry). length (replay boot l).processes) (take_past es i none) ∙ so_far
    by_entry (Some x) there so_far =
        let more = fork_alone_makes (before boot es i) (before boot es (suc i)) x.pid.0 i x.request x.reply x.released
        (moment boot es i x legal there).steps in
        let none = makes_none x.request x.reply (forks_not x there so_far
        (caller_within (before boot es i) x.pid.0 x.k x.request (legal.each i x there).allowed)) in
        let same : length (before boot es (suc i)).processes ≡ length (before boot es i).processes + (if false then 1 else 0) = more
        ∙ ap (λ (b : Bool). length (before boot es i).processes + (if b then 1 else 0)) none in
        omega (arith, same, so_far)

pub all_calls_are_theirs : AllCallsAreTheirs
all_calls_are_theirs boot es j e legal no_fork at =
    ⊎_elim {C = (e.request ≡ Request.Off) ⊎ IsOfTheStart boot e.pid.0} (λ off. inl off)
    (λ within. inr (within.0, subst (λ (n : ℕ). e.pid.0 ≤ n) (as_many boot es j legal no_fork) within.1))
    (caller_within (before boot es j) e.pid.0 e.k e.request (legal.each j e at).allowed)
