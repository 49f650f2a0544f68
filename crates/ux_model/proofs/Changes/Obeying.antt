-- What each call's outcome obeys: what a refusal leaves, and that what else it leaves comes of the state by the changes of Reaching, where
-- a file object is as before or held open, and has failed as often.
use Rattle.std.proofs.Common.{◌≡◌, ℕ, Bool, true, false, ◌||◌, if◌then◌else◌, Some, None, refl, ap, sym, subst}
use Rattle.std.specs.Prelude.{List, Option, is_some, option_map}
use Rattle.ux_model.specs.Types.{Errno, Reply}
use Rattle.ux_model.specs.Places.{place}
use Rattle.ux_model.specs.Object.{View, can_fail, after_failure}
use Rattle.ux_model.specs.Description.{Description}
use Rattle.ux_model.specs.State.{State, description_at, with_object}
use Rattle.ux_model.specs.Outcome.{Outcome, refuse}
use Rattle.ux_model.specs.FileObjects.{or_failing}
use Rattle.ux_model.specs.Step.{lacks_memory, fails}
use Rattle.ux_model.specs.Invariants.{OneMoreFailure, LeftByRefusal}
use Rattle.ux_model.proofs.Changes.Reaching.{May, tables_alone, Reaches, still, wider}
use Rattle.ux_model.proofs.Changes.HeldOpen.{IsHeldOpen, KeepsObjects, same_objects, held_changed}

-- how often a file object that is there has failed
abbrev pub failures : Option View → Option ℕ
failures x = option_map (λ view. View.faults view) x

-- each that was there has failed as often
abbrev pub FailAlike : State → State → Type 0
FailAlike S T = (o : ℕ) → is_some (place S.objects o) ≡ true → failures (place T.objects o) ≡ failures (place S.objects o)

-- a reply that reports which of the two free choices was made
abbrev pub tells_choice : Reply → Bool
tells_choice reply = lacks_memory reply || fails reply

abbrev pub is_error : Reply → Bool
is_error (Reply.Err e) = true
is_error _ = false

-- of an outcome in S
pub record Obeys (S : State) (may : May) (o : Outcome) : Type 0 where
  pub own_reply : tells_choice o.reply ≡ false
  pub refused : (e : Errno) → o.reply ≡ Reply.Err e → LeftByRefusal S e o.next
  pub failed : (T : State) → o.failure ≡ Some T → OneMoreFailure S T × KeepsObjects S T
  pub fails : (T : State) → o.failure ≡ Some T → may.files ≡ true
  pub reached : Reaches S may o.next
  pub objects : KeepsObjects S o.next
  pub alike : FailAlike S o.next

-- ---- by what an outcome is made of

pub refuses : {S : State} {may : May} {e : Errno} → tells_choice (Reply.Err e) ≡ false → LeftByRefusal S e S → Obeys S may (refuse S e)
refuses {S} {may} {e} own_one left = record {
  own_reply = own_one;
  refused = λ f h. let same : e ≡ f = cc h in subst (λ g. LeftByRefusal S g S) same left;
  failed = λ T h. absurd (cc h);
  fails = λ T h. absurd (cc h);
  reached = still;
  objects = same_objects S S refl;
  alike = λ n was. refl;
}

-- an answer that may leave a file object changed, if that is held open then
pub uses : {S : State} {may : May} {o : Outcome} → tells_choice o.reply ≡ false → is_error o.reply ≡ false → o.failure ≡ None →
    KeepsObjects S o.next → FailAlike S o.next → Reaches S may o.next → Obeys S may o
uses {S} {may} {o} own_one told n kept alike r = record {
  own_reply = own_one;
  refused = λ e h. let one : is_error o.reply ≡ true = ap is_error h in absurd (cc (one, told));
  failed = λ T h. absurd (cc (h, n));
  fails = λ T h. absurd (cc (h, n));
  reached = r;
  objects = kept;
  alike = alike;
}

-- and one that leaves all file objects as they were
pub answers : {S : State} {may : May} {o : Outcome} → tells_choice o.reply ≡ false → is_error o.reply ≡ false → o.failure ≡ None →
    o.next.objects ≡ S.objects → Reaches S may o.next → Obeys S may o
answers {S} {may} {o} own_one told n same r =
    uses own_one told n (same_objects S o.next same) (λ k was. ap (λ (os : List (Option View)). failures (place os k)) same) r

-- a call of a file object may leave what a failure does
pub may_fail : (S : State) (may : May) (o : ℕ) (view : View) (x : Outcome) → IsHeldOpen S o → place S.objects o ≡ Some view →
    may.files ≡ true → Obeys S may x → Obeys S may (or_failing S o view x)
may_fail S may o view x held there told obeys =
    record {
      own_reply = obeys.own_reply;
      refused = obeys.refused;
      failed = at_failure (can_fail view);
      fails = λ T h. told;
      reached = obeys.reached;
      objects =
          obeys.objects;
      alike = obeys.alike;
    }
  where
    at_failure : (b : Bool) (T : State) → (if b then Some (with_object S o (after_failure view)) else None) ≡ Some T →
        OneMoreFailure S T × KeepsObjects S T
    at_failure true T h =
        let e : with_object S o (after_failure view) ≡ T = cc h in (
          record { object = o; view = view; there = there; left = sym e },
          subst (KeepsObjects S) e (held_changed S S o (after_failure view) refl held),
        )
    at_failure false T h = absurd (cc h)

-- ---- a call

-- one that changes of processes their tables alone
abbrev pub Call : State → Outcome → Type 0
Call S = Obeys S tables_alone

pub there_of : (S : State) (d : ℕ) (D : Description) → description_at S d ≡ Some D → is_some (description_at S d) ≡ true
there_of S d D h = ap is_some h

pub widened : (S : State) (may : May) (o : Outcome) → Call S o → Obeys S may o
widened S may o obeys = record {
  own_reply = obeys.own_reply;
  refused = obeys.refused;
  failed = obeys.failed;
  fails = λ T h. let none : false ≡ true = obeys.fails T h in absurd (cc none);
  reached = wider S may o.next obeys.reached;
  objects = obeys.objects;
  alike = obeys.alike;
}
