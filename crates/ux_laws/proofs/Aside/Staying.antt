-- Calls by descriptors keep both sides apart, and no call forgets a number.
use Rattle.std.proofs.Common.{◌≡◌, ℕ, zero, suc, ◌+◌, ◌≤◌, Bool, true, false, not, List, [], ◌∷◌}
use Rattle.std.proofs.Common.{Option, Some, None, refl, ap, sym, subst, arith, slice_get}
use Rattle.std.specs.List.{AllByRecursion}
use Rattle.std.proofs.lemmas.Bool.{false≢true}
use Rattle.ux_model.specs.Types.{Entry}
use Rattle.ux_model.specs.Message.{Message}
use Rattle.ux_model.specs.Socket.{pending_ends}
use Rattle.ux_model.specs.Description.{Target, to_object, to_socket}
use Rattle.ux_model.specs.State.{State}
use Rattle.ux_model.specs.History.{replay, IsLegal}
use Rattle.ux_model.specs.Pedigree.{before}
use Rattle.ux_model.proofs.Lists.ChangedPlaces.{bool_cases, rest_of}
use Rattle.ux_model.proofs.Lists.Induction.{take_past}
use Rattle.ux_laws.specs.Apartness.{Sides, TargetIsOn, AreApart, goes_by_descriptors, ApartnessStays}
use Rattle.ux_laws.proofs.Aside.Twins.{Twins}
use Rattle.ux_laws.proofs.Aside.Alike.{entries_agree}

-- ---- the other side

abbrev pub others : Sides → Sides
others sides = record {
  process = λ p. not (sides.process p);
  description = λ d. not (sides.description d);
  object = λ o. not (sides.object o);
}

all_moved : (P Q : ℕ → Type 0) (ns : List ℕ) → ((n : ℕ) → P n → Q n) → AllByRecursion P ns → AllByRecursion Q ns
all_moved P Q [] h all = tt
all_moved P Q (n ∷ ns) h all = (h n all.0, all_moved P Q ns h all.1)

queue_moved : (P Q : ℕ → Type 0) (ms : List Message) → ((n : ℕ) → P n → Q n) →
    AllByRecursion (λ (m : Message). AllByRecursion P m.rights) ms → AllByRecursion (λ (m : Message). AllByRecursion Q m.rights) ms
queue_moved P Q [] h all = tt
queue_moved P Q (m ∷ ms) h all = (all_moved P Q m.rights h all.0, queue_moved P Q ms h all.1)

target_moved : (one two : Sides) (a b : Bool) (t : Target) → ((d : ℕ) → one.description d ≡ a → two.description d ≡ b) →
    ((o : ℕ) → one.object o ≡ a → two.object o ≡ b) → TargetIsOn one a t → TargetIsOn two b t
target_moved one two a b (to_object o) ds os on = os o on
target_moved one two a b (to_socket s) ds os on = record {
  tied = λ d is. ds d (on.tied d is);
  pending = all_moved (λ d. one.description d ≡ a) (λ d. two.description d ≡ b) (pending_ends s.phase) ds on.pending;
  rights = queue_moved (λ d. one.description d ≡ a) (λ d. two.description d ≡ b) s.queue ds on.rights;
}

same_not : (a b : Bool) → not a ≡ not b → a ≡ b
same_not true true h = refl
same_not true false h = absurd (false≢true h)
same_not false true h = absurd (false≢true (sym h))
same_not false false h = refl

pub apart_others : (sides : Sides) (S : State) → AreApart sides S → AreApart (others sides) S
apart_others sides S apart = record {
  tables = λ p n e is. ap not (apart.tables p n e is);
  descriptions = λ d D is. target_moved sides (others sides) (sides.description d) (not (sides.description d)) D.target
      (λ e h. ap not h) (λ o h. ap not h) (apart.descriptions d D is);
}

pub apart_again : (sides : Sides) (S : State) → AreApart (others sides) S → AreApart sides S
apart_again sides S apart = record {
  tables = λ p n e is. same_not (sides.description e.description) (sides.process p) (apart.tables p n e is);
  descriptions = λ d D is. target_moved (others sides) sides (not (sides.description d)) (sides.description d) D.target
      (λ e h. same_not (sides.description e) (sides.description d) h) (λ o h. same_not (sides.object o) (sides.description d) h)
      (apart.descriptions d D is);
}

pub itself : {sides : Sides} (S : State) → AreApart sides S → Twins sides S S
itself S apart = record { left = apart; right = apart; processes = λ p mine. refl; descriptions = λ d mine. refl }

own_stays : (sides : Sides) (boot : State) (es : List Entry) (j : ℕ) (e : Entry) → IsLegal boot es → slice_get es j ≡ Some e →
    AreApart sides (before boot es j) → goes_by_descriptors e.request ≡ true → sides.process e.pid.0 ≡ true →
    AreApart sides (before boot es (suc j))
own_stays sides boot es j e legal at apart by mine =
    (entries_agree boot boot es es j j e e legal legal at at (itself (before boot es j) apart) by mine refl refl (refl, refl)).1.left

pub call_stays : (sides : Sides) (boot : State) (es : List Entry) (j : ℕ) (e : Entry) → IsLegal boot es → slice_get es j ≡ Some e →
    AreApart sides (before boot es j) → goes_by_descriptors e.request ≡ true → AreApart sides (before boot es (suc j))
call_stays sides boot es j e legal at apart by = bool_cases (sides.process e.pid.0)
    (λ mine. own_stays sides boot es j e legal at apart by mine)
    (λ other. apart_again sides (before boot es (suc j))
    (own_stays (others sides) boot es j e legal at (apart_others sides (before boot es j) apart) by (ap not other)))

next_stays : (sides : Sides) (boot : State) (es : List Entry) (j : ℕ) → IsLegal boot es → AreApart sides (before boot es j) →
    ((e : Entry) → slice_get es j ≡ Some e → goes_by_descriptors e.request ≡ true) → AreApart sides (before boot es (suc j))
next_stays sides boot es j legal apart by = go (slice_get es j) refl
  where
    go : (x : Option Entry) → slice_get es j ≡ x → AreApart sides (before boot es (suc j))
    go None past = subst (λ (l : List Entry). AreApart sides (replay boot l)) (sym (take_past es j past)) apart
    go (Some e) at = call_stays sides boot es j e legal at apart (by e at)

stays_from : (sides : Sides) (boot : State) (es : List Entry) (from more : ℕ) → IsLegal boot es → AreApart sides (before boot es from) →
    ((k : ℕ) (e : Entry) → from ≤ k → slice_get es k ≡ Some e → goes_by_descriptors e.request ≡ true) →
    AreApart sides (before boot es (from + more))
stays_from sides boot es from zero legal apart by =
    let same : from ≡ from + 0 = omega arith in subst (λ (i : ℕ). AreApart sides (before boot es i)) same apart
stays_from sides boot es from (suc more) legal apart by =
    let same : suc (from + more) ≡ from + suc more = omega arith in
    subst (λ (i : ℕ). AreApart sides (before boot es i)) same
    (next_stays sides boot es (from + more) legal (stays_from sides boot es from more legal apart by)
    (λ e at. by (from + more) e (omega arith) at))

pub apartness_stays : ApartnessStays
apartness_stays boot es sides from i legal apart by late =
    let w = rest_of from i late in
    subst (λ (k : ℕ). AreApart sides (before boot es k)) w.1 (stays_from sides boot es from w.0 legal apart by)
