-- Two histories in which the watched ones make the same calls.
use Rattle.std.proofs.Common.{◌≡◌, ℕ, zero, suc, ◌≤◌, Bool, true, false, cond, List, [], ◌∷◌, take, drop, Option, Some, None}
use Rattle.std.proofs.Common.{option_map, refl, ap, sym, ◌∙◌, subst, arith, slice_get}
use Rattle.ux_model.specs.Types.{Pid, Request, Reply, Entry}
use Rattle.ux_model.specs.Object.{Body}
use Rattle.ux_model.specs.Description.{Description, changed}
use Rattle.ux_model.specs.State.{State, description_at}
use Rattle.ux_model.specs.Step.{lacks_memory, fails}
use Rattle.ux_model.specs.History.{replay, IsLegal}
use Rattle.ux_model.specs.Pedigree.{before}
use Rattle.ux_model.proofs.Lists.ChangedPlaces.{bool_cases}
use Rattle.ux_laws.specs.Apartness.{Sides, AreApart, StayApart, IsUnseen, calls_of_theirs, asks, asked_by, told_to}
use Rattle.ux_laws.specs.Apartness.{ApartMeansApart}
use Rattle.ux_laws.specs.Apartness.{body_behind, seen_at, shown_as, shown_at, untold_in}
use Rattle.ux_laws.proofs.Aside.Unseen.{others_change_nothing_seen}
use Rattle.ux_laws.proofs.Aside.Growing.{made_from}
use Rattle.ux_laws.proofs.Aside.Own.{apart_from}
use Rattle.ux_laws.proofs.Aside.Twins.{Twins, other_way}
use Rattle.ux_laws.proofs.Aside.Alike.{twins_are, look_alike, entries_agree}

-- what isn't seen isn't shown
unseen_shown : (S T : State) (d : ℕ) → seen_at T d ≡ seen_at S d → shown_at T d ≡ shown_at S d
unseen_shown S T d seen = sym (by_place T (description_at T d)) ∙ ap (option_map hide) seen ∙ by_place S (description_at S d)
  where
    hide : Description × Option Body → Description × Option Body
    hide w = (changed untold_in (w.0), w.1)

    by_place : (U : State) (x : Option Description) →
        option_map hide (option_map {U = Description × Option Body} (λ (D : Description). (D, body_behind U D.target)) x)
        ≡ option_map (shown_as U) x
    by_place U None = refl
    by_place U (Some D) = refl

unseen_twins : {sides : Sides} (S A T : State) → IsUnseen sides S A → AreApart sides A → Twins sides S T → Twins sides A T
unseen_twins S A T unseen apart twins = record {
  left = apart;
  right = twins.right;
  processes = λ p mine. twins.processes p mine ∙ sym (unseen.processes p mine);
  descriptions = λ d mine. twins.descriptions d mine ∙ sym (unseen_shown S A d (unseen.descriptions d mine));
}

-- ---- lists

first_left : {X : Type 0} (xs : List X) (j : ℕ) (y : X) (ys : List X) → drop j xs ≡ y ∷ ys → slice_get xs j ≡ Some y
first_left [] zero y ys h = absurd (cc h)
first_left [] (suc j) y ys h = absurd (cc h)
first_left (x ∷ xs) zero y ys h = let same : x ≡ y = cc h in ap (λ z. Some z) same
first_left (x ∷ xs) (suc j) y ys h = first_left xs j y ys h

rest_left : {X : Type 0} (xs : List X) (j : ℕ) (y : X) (ys : List X) → drop j xs ≡ y ∷ ys → drop (suc j) xs ≡ ys
rest_left [] zero y ys h = absurd (cc h)
rest_left [] (suc j) y ys h = absurd (cc h)
rest_left (x ∷ []) zero y ys h = cc h
rest_left (x ∷ z ∷ xs) zero y ys h = cc h
rest_left (x ∷ xs) (suc j) y ys h = rest_left xs j y ys h

all_taken : {X : Type 0} (xs : List X) (j : ℕ) → drop j xs ≡ [] → take j xs ≡ xs
all_taken [] zero h = refl
all_taken [] (suc j) h = refl
all_taken (x ∷ xs) zero h = absurd (cc h)
all_taken (x ∷ xs) (suc j) h = ap (λ l. x ∷ l) (all_taken xs j h)

-- ---- the theorem

-- two histories that stay apart, the first from one call on, and the second from another
record Pair (sides : Sides) : Type 0 where
  boot : State
  other : State
  es : List Entry
  fs : List Entry
  from : ℕ
  since : ℕ
  legal : IsLegal boot es
  also : IsLegal other fs
  stay : StayApart sides boot es from
  stays : StayApart sides other fs since

-- what is proved of what is left of both
record Answers {sides : Sides} (h : Pair sides) (xs ys : List Entry) : Type 0 where
  told : told_to (calls_of_theirs sides ys) ≡ told_to (calls_of_theirs sides xs)
  last : Twins sides (replay h.boot h.es) (replay h.other h.fs)

-- the moments from which these calls are left
record At {sides : Sides} (h : Pair sides) (xs ys : List Entry) (j k : ℕ) : Type 0 where
  left : drop j h.es ≡ xs
  late : h.from ≤ j
  right : drop k h.fs ≡ ys
  later : h.since ≤ k
  twins : Twins sides (before h.boot h.es j) (before h.other h.fs k)
  asked : asked_by (calls_of_theirs sides ys) ≡ asked_by (calls_of_theirs sides xs)

abbrev Goal : {sides : Sides} (h : Pair sides) (xs ys : List Entry) → Type 0
Goal h xs ys = (j k : ℕ) → At h xs ys j k → Answers h xs ys

-- a call of another
passes : (sides : Sides) (boot : State) (es : List Entry) (from j : ℕ) (e : Entry) (T : State) → IsLegal boot es →
    StayApart sides boot es from →
    from ≤ j → slice_get es j ≡ Some e → sides.process e.pid.0 ≡ false → Twins sides (before boot es j) T →
    Twins sides (before boot es (suc j)) T
passes sides boot es from j e T legal stay late at other twins =
    unseen_twins (before boot es j) (before boot es (suc j)) T
    (others_change_nothing_seen boot es sides j e legal at (apart_from sides boot es from j legal stay late)
    (made_from sides boot es from j legal late stay.made) (stay.on j e late at) other (stay.asks j e late at other))
    (apart_from sides boot es from (suc j) legal stay (omega (arith, late))) twins

not_theirs : (sides : Sides) (e : Entry) (xs : List Entry) → sides.process e.pid.0 ≡ false →
    calls_of_theirs sides (e ∷ xs) ≡ calls_of_theirs sides xs
not_theirs sides e xs other = ap (λ b. cond b (e ∷ calls_of_theirs sides xs) (calls_of_theirs sides xs)) other

one_of_theirs : (sides : Sides) (e : Entry) (xs : List Entry) → sides.process e.pid.0 ≡ true →
    calls_of_theirs sides (e ∷ xs) ≡ e ∷ calls_of_theirs sides xs
one_of_theirs sides e xs mine = ap (λ b. cond b (e ∷ calls_of_theirs sides xs) (calls_of_theirs sides xs)) mine

-- nothing is left
ended : {sides : Sides} (h : Pair sides) → Goal h [] []
ended {sides} h j k a = record {
  told = refl;
  last = subst (λ (l : List Entry). Twins sides (replay h.boot l) (replay h.other h.fs)) (all_taken h.es j a.left)
      (subst (λ (l : List Entry). Twins sides (before h.boot h.es j) (replay h.other l)) (all_taken h.fs k a.right) a.twins);
}

-- the next call of one of them is another's
pass_left : {sides : Sides} (h : Pair sides) (x : Entry) (xs ys : List Entry) → sides.process x.pid.0 ≡ false → Goal h xs ys →
    Goal h (x ∷ xs) ys
pass_left {sides} h x xs ys not_mine goal j k a =
    let w = goal (suc j) k (record {
      left = rest_left h.es j x xs a.left;
      late = omega (arith, a.late);
      right = a.right;
      later = a.later;
      twins = passes sides h.boot h.es h.from j x (before h.other h.fs k) h.legal h.stay a.late
          (first_left h.es j x xs a.left) not_mine a.twins;
      asked = a.asked ∙ ap asked_by (not_theirs sides x xs not_mine);
    }) in
    record { told = w.told ∙ sym (ap told_to (not_theirs sides x xs not_mine)); last = w.last }

pass_right : {sides : Sides} (h : Pair sides) (y : Entry) (xs ys : List Entry) → sides.process y.pid.0 ≡ false → Goal h xs ys →
    Goal h xs (y ∷ ys)
pass_right {sides} h y xs ys not_mine goal j k a =
    let w = goal j (suc k) (record {
      left = a.left;
      late = a.late;
      right = rest_left h.fs k y ys a.right;
      later = omega (arith, a.later);
      twins = other_way (passes sides h.other h.fs h.since k y (before h.boot h.es j) h.also h.stays a.later
          (first_left h.fs k y ys a.right)
          not_mine (other_way a.twins));
      asked = sym (ap asked_by (not_theirs sides y ys not_mine)) ∙ a.asked;
    }) in
    record { told = ap told_to (not_theirs sides y ys not_mine) ∙ w.told; last = w.last }

-- both next calls are theirs
meet : {sides : Sides} (h : Pair sides) (x y : Entry) (xs ys : List Entry) → sides.process x.pid.0 ≡ true → sides.process y.pid.0 ≡ true →
    Goal h xs ys → Goal h (x ∷ xs) (y ∷ ys)
meet {sides} h x y xs ys mine own goal j k a =
    same (sym (ap asked_by (one_of_theirs sides y ys own)) ∙ a.asked ∙ ap asked_by (one_of_theirs sides x xs mine))
  where
    same : asked_by (y ∷ calls_of_theirs sides ys) ≡ asked_by (x ∷ calls_of_theirs sides xs) → Answers h (x ∷ xs) (y ∷ ys)
    same is =
        let first : asks y ≡ asks x = cc is in
        let pid : y.pid ≡ x.pid = ap (λ (w : Pid × Request × Bool × Bool). w.0) first in
        let request : y.request ≡ x.request = ap (λ (w : Pid × Request × Bool × Bool). w.1) first in
        let lacks : lacks_memory y.reply ≡ lacks_memory x.reply = ap (λ (w : Pid × Request × Bool × Bool). w.2) first in
        let failed : fails y.reply ≡ fails x.reply = ap (λ (w : Pid × Request × Bool × Bool). w.3) first in
        let more : asked_by (calls_of_theirs sides ys) ≡ asked_by (calls_of_theirs sides xs) = cc is in
        let at = first_left h.es j x xs a.left in
        let step = entries_agree h.boot h.other h.es h.fs j k x y h.legal h.also at (first_left h.fs k y ys a.right) a.twins
        (h.stay.theirs j x a.late at mine) mine pid request (lacks, failed) in
        let w = goal (suc j) (suc k) (record {
          left = rest_left h.es j x xs a.left;
          late = omega (arith, a.late);
          right = rest_left h.fs k y ys a.right;
          later = omega (arith, a.later);
          twins = step.1;
          asked = more;
        }) in
        record {
          told = ap told_to (one_of_theirs sides y ys own)
              ∙ ap (λ (r : Reply). r ∷ told_to (calls_of_theirs sides ys)) step.0
              ∙ ap (λ (l : List Reply). x.reply ∷ l) w.told
              ∙ sym (ap told_to (one_of_theirs sides x xs mine));
          last = w.last;
        }

-- where theirs are over in one, they are in the other
none_asked : {sides : Sides} (h : Pair sides) (y : Entry) (ys : List Entry) → sides.process y.pid.0 ≡ true → Goal h [] (y ∷ ys)
none_asked {sides} h y ys own j k a = absurd (some (sym (ap asked_by (one_of_theirs sides y ys own)) ∙ a.asked))
  where
    some : asked_by (y ∷ calls_of_theirs sides ys) ≡ [] → ⊥
    some is = cc is

none_left : {sides : Sides} (h : Pair sides) (x : Entry) (xs : List Entry) → sides.process x.pid.0 ≡ true → Goal h (x ∷ xs) []
none_left {sides} h x xs mine j k a = absurd (none (a.asked ∙ ap asked_by (one_of_theirs sides x xs mine)))
  where
    none : [] ≡ asked_by (x ∷ calls_of_theirs sides xs) → ⊥
    none is = cc is

only_right : {sides : Sides} (h : Pair sides) (ys : List Entry) → Goal h [] ys
only_right h [] = ended h
only_right {sides} h (y ∷ ys) = bool_cases (sides.process y.pid.0) (λ own. none_asked h y ys own)
    (λ not_mine. pass_right h y [] ys not_mine (only_right h ys))

after_one : {sides : Sides} (h : Pair sides) (x : Entry) (xs : List Entry) → sides.process x.pid.0 ≡ true →
    ((ys : List Entry) → Goal h xs ys) → (ys : List Entry) → Goal h (x ∷ xs) ys
after_one h x xs mine rest [] = none_left h x xs mine
after_one {sides} h x xs mine rest (y ∷ ys) = bool_cases (sides.process y.pid.0) (λ own. meet h x y xs ys mine own (rest ys))
    (λ not_mine. pass_right h y (x ∷ xs) ys not_mine (after_one h x xs mine rest ys))

all_left : {sides : Sides} (h : Pair sides) (xs ys : List Entry) → Goal h xs ys
all_left h [] ys = only_right h ys
all_left {sides} h (x ∷ xs) ys = bool_cases (sides.process x.pid.0)
    (λ mine. after_one h x xs mine (λ ms. all_left h xs ms) ys)
    (λ not_mine. pass_left h x xs ys not_mine (all_left h xs ys))

pub apart_means_apart : ApartMeansApart
apart_means_apart boot other es fs sides j k legal also stay stays alike asked =
    let h : Pair sides = record {
      boot = boot;
      other = other;
      es = es;
      fs = fs;
      from = j;
      since = k;
      legal = legal;
      also = also;
      stay = stay;
      stays = stays;
    } in
    let w = all_left h (drop j es) (drop k fs) j k (record {
      left = refl;
      late = omega arith;
      right = refl;
      later = omega arith;
      twins = twins_are stay.apart stays.apart alike;
      asked = asked;
    }) in
    (w.told, look_alike w.last)
