-- A file object that was closed never comes back, so it is closed once, where its last reference goes. What is made gets a new number.
use Rattle.std.proofs.Common.{◌≡◌, ℕ, zero, suc, ◌+◌, ◌-◌, ◌≤◌, ◌<◌, ◌==◌, Bool, true, false, ◌&&◌, if◌then◌else◌, cond, List, [], ◌∷◌}
use Rattle.std.proofs.Common.{◌++◌, length, take, Option, Some, None, refl, ap, sym, subst, ◌∙◌, arith, ⊎_elim}
use Rattle.std.specs.Prelude.{is_some, filter, nat_lt}
use Rattle.std.specs.List.{slice_get, enumerate_from}
use Rattle.std.proofs.lemmas.Bool.{eq-eqb, ne_eqb, and_right, ltb-true, lt-ltb, cases_lt}
use Rattle.std.proofs.lemmas.List.{length_push, length-set, length-map}
use Rattle.std.proofs.lemmas.List.FromFn.{length-enumerate_from}
use Rattle.std.proofs.lemmas.List.Sums.{sum_by-cons, sum_by_push}
use Rattle.ux_model.specs.Types.{Request, Reply, Entry}
use Rattle.ux_model.specs.Places.{place, filled}
use Rattle.ux_model.specs.Object.{View, new_view}
use Rattle.ux_model.specs.State.{State}
use Rattle.ux_model.specs.References.{times, orefs}
use Rattle.ux_model.specs.Release.{drop_unreferenced, is_orphan, without_orphans, orphans, released_objects, released, settled}
use Rattle.ux_model.specs.Step.{Step, outcome}
use Rattle.ux_model.specs.History.{replay, IsLegal}
use Rattle.ux_model.specs.Invariants.{times_released, LosesLast, ClosedOnce, BootObjectsClosedOnce}
use Rattle.ux_model.proofs.Lists.Fronts.{front_is_legal}
use Rattle.ux_model.proofs.Lists.OnePlace.{same_at, before_pushed, past_all}
use Rattle.ux_model.proofs.Lists.Induction.{IsKept, kept_throughout, take_past, take_next}
use Rattle.ux_model.proofs.Releasing.Settling.{drop_keeps, closed_numbers, object_left}
use Rattle.ux_model.proofs.Changes.Reaching.{May, may_change, Reaches, still, process_changed, process_forked, description_made, peers_made}
use Rattle.ux_model.proofs.Changes.Reaching.{connection_made, description_changed, object_changed, paths_taken, path_bound, name_bound}
use Rattle.ux_model.proofs.Changes.Reaching.{object_made, path_made, turned_off}
use Rattle.ux_model.proofs.Changes.HeldOpen.{KeepsObjects}
use Rattle.ux_model.proofs.Steps.Calls.{each_obeys, chosen_reached, chosen_objects}
use Rattle.ux_model.proofs.Invariants.HandingOut.{held_stays}
use Rattle.ux_model.proofs.Invariants.Dangling.{nothing_dangles}

-- 1 for a file object that is there
abbrev there : State → ℕ → ℕ
there S o = cond (is_some (place S.objects o)) 1 0

-- ---- no call takes a file object away, and what is made gets a number that none had

-- each place is there still, and holds something if it did
record KeepsPlaces (old new : List (Option View)) : Type 0 where
  long : length old ≤ length new
  there_still : (o : ℕ) → o < length old → is_some (place new o) ≡ is_some (place old o)

pushed_keeps : (old xs : List (Option View)) (new : View) → KeepsPlaces old xs → KeepsPlaces old (xs ++ Some new ∷ [])
pushed_keeps old xs new keeps =
    let more = length_push xs (Some new) in
    let before : length old ≤ length xs = keeps.long in
    record {
      long = omega (arith, more, before);
      there_still = λ o less. ap is_some (before_pushed xs (Some new) o (omega (arith, before, less))) ∙ keeps.there_still o less;
    }

filled_keeps : (old xs : List (Option View)) (n : ℕ) (new : View) → is_some (place xs n) ≡ true → KeepsPlaces old xs →
    KeepsPlaces old (filled xs n new)
filled_keeps old xs n new there keeps =
    let same = length-set xs n (Some new) in
    let before : length old ≤ length xs = keeps.long in
    record {
      long = omega (arith, same, before);
      there_still = λ o less. same_at is_some xs n o (Some new) (sym there) ∙ keeps.there_still o less;
    }

reached_there : (S : State) (may : May) (T : State) → Reaches S may T → KeepsPlaces S.objects T.objects
reached_there S may T still = record { long = omega arith; there_still = λ o less. refl }
reached_there S may T (process_changed {T = U} i P Q r h names kept same) = reached_there S may U r
reached_there S may T (process_forked {T = U} i P r h makes) = reached_there S may U r
reached_there S may T (object_made {T = U} body r makes) = pushed_keeps S.objects U.objects (new_view body) (reached_there S may U r)
reached_there S may T (description_made {T = U} D r leads nothing bounds) = reached_there S may U r
reached_there S may T (peers_made {T = U} D E r peers) = reached_there S may U r
reached_there S may T (connection_made {T = U} d l cred listener_cred s listener r client free there) = reached_there S may U r
reached_there S may T (description_changed {T = U} d x r keeps) = reached_there S may U r
reached_there S may T (object_changed {T = U} n old new r h same told) =
    filled_keeps S.objects U.objects n new (ap is_some h) (reached_there S may U r)
reached_there S may T (paths_taken {T = U} keep r told) = reached_there S may U r
reached_there S may T (path_made {T = U} name o r there told) = reached_there S may U r
reached_there S may T (path_bound {T = U} name d r told) = reached_there S may U r
reached_there S may T (name_bound {T = U} name d r shown told) = reached_there S may U r
reached_there S may T (turned_off {T = U} r told more) = reached_there S may U r

-- ---- one that is released is no longer there

head_counts : (b : Bool) (m k : ℕ) (x : Option View) (rest : List (ℕ × Option View)) →
    times m (closed_numbers (if b then (k, x) ∷ rest else rest)) ≡ cond (b && (k == m)) 1 0 + times m (closed_numbers rest)
head_counts true m k x rest = sum_by-cons (λ n. cond (n == m) 1 0) k (closed_numbers rest)
head_counts false m k x rest = omega arith

none_below : (f : ℕ → Bool) (m k : ℕ) (xs : List (Option View)) → m < k →
    times m (closed_numbers (filter (λ e. is_some e.1 && f e.0) (enumerate_from k xs))) ≡ 0
none_below f m k [] h = refl
none_below f m k (x ∷ xs) h =
    let s = head_counts (is_some x && f k) m k x (filter (λ e. is_some e.1 && f e.0) (enumerate_from (k + 1) xs)) in
    let none : cond {A = ℕ} ((is_some x && f k) && (k == m)) 1 0 ≡ 0 =
    ap (λ b. cond {A = ℕ} b 1 0) (and_right (is_some x && f k) (k == m) (ne_eqb k m (λ e. omega (arith, e, h)))) in
    let rest = none_below f m (k + 1) xs (omega (arith, h)) in
    omega (arith, s, none, rest)

gone_counts : (f : ℕ → Bool) (m k i : ℕ) (xs : List (Option View)) → m ≡ k + i →
    times m (closed_numbers (filter (λ e. is_some e.1 && f e.0) (enumerate_from k xs))) ≡ cond (is_some (place xs i) && f m) 1 0
gone_counts f m k i [] e = refl
gone_counts f m k zero (x ∷ xs) e =
    let s = head_counts (is_some x && f k) m k x (filter (λ e. is_some e.1 && f e.0) (enumerate_from (k + 1) xs)) in
    let here : k ≡ m = omega (arith, e) in
    let one : cond {A = ℕ} ((is_some x && f k) && (k == m)) 1 0 ≡ cond {A = ℕ} (is_some x && f m) 1 0 =
    (λ j. cond {A = ℕ} ((is_some x && f (here j)) && (eq-eqb k m here j)) 1 0) ∙ and_true (is_some x && f m) in
    let rest = none_below f m (k + 1) xs (omega (arith, e)) in
    omega (arith, s, one, rest)
  where
    and_true : (b : Bool) → cond {A = ℕ} (b && true) 1 0 ≡ cond {A = ℕ} b 1 0
    and_true true = refl
    and_true false = refl
gone_counts f m k (suc i) (x ∷ xs) e =
    let s = head_counts (is_some x && f k) m k x (filter (λ e. is_some e.1 && f e.0) (enumerate_from (k + 1) xs)) in
    let none : cond {A = ℕ} ((is_some x && f k) && (k == m)) 1 0 ≡ 0 =
    ap (λ b. cond {A = ℕ} b 1 0) (and_right (is_some x && f k) (k == m) (ne_eqb k m (λ h. omega (arith, e, h)))) in
    let rest = gone_counts f m (k + 1) i xs (omega (arith, e)) in
    omega (arith, s, none, rest)

either_way : {X : Type 0} (x : Option X) (b : Bool) →
    cond {A = ℕ} (is_some x && b) 1 0 + cond (is_some (if is_some x && b then None else x)) 1 0 ≡ cond (is_some x) 1 0
either_way None b = refl
either_way (Some x) true = refl
either_way (Some x) false = refl

released_there : (S : State) (o : ℕ) → times o (released S) + there (settled S) o ≡ there S o
unfolding settled released_objects
released_there S o =
    let D : State = drop_unreferenced S in
    let gone : times o (closed_numbers (orphans D)) ≡ cond (is_some (place D.objects o) && (orefs D o == 0)) 1 0 =
    gone_counts (λ n. orefs D n == 0) o 0 o D.objects (omega arith) in
    let left : there (without_orphans D) o ≡ cond
    (is_some (if is_some (place D.objects o) && (orefs D o == 0) then None else place D.objects o)) 1 0 =
    ap (λ (x : Option View). cond {A = ℕ} (is_some x) 1 0) (object_left D o) in
    let split = either_way (place D.objects o) (orefs D o == 0) in
    let same : there D o ≡ there S o = ap (λ (os : List (Option View)). cond {A = ℕ} (is_some (place os o)) 1 0) (drop_keeps S) in
    omega (arith, gone, left, split, same)

-- what is made with the call isn't released with it: it is held open
none_released : (S U : State) (o : ℕ) → KeepsObjects S U → length S.objects ≤ o → times o (released U) ≡ 0
none_released S U o kept past =
    let split = released_there U o in
    let stays : there (settled U) o ≡ there U o = ⊎_elim {C = there (settled U) o ≡ there U o}
    (λ same. none_stays (there (settled U) o) (there U o) (times o (released U)) split
    (ap (λ (x : Option View). cond {A = ℕ} (is_some x) 1 0) (same ∙ past_all S.objects o past)))
    (λ held. ap (λ (x : Option View). cond {A = ℕ} (is_some x) 1 0) (held_stays U o held))
    (kept o) in
    omega (arith, split, stays)
  where
    none_stays : (after before gone : ℕ) → gone + after ≡ before → before ≡ 0 → after ≡ before
    none_stays after before gone sum none = omega (arith, sum, none)

pub settled_long : (S : State) → length (settled S).objects ≡ length S.objects
unfolding settled
settled_long S =
    let D : State = drop_unreferenced S in
    length-map (enumerate_from 0 D.objects) (λ (e : ℕ × Option View). if is_orphan D e then None else e.1)
    ∙ length-enumerate_from 0 D.objects ∙ ap (λ (os : List (Option View)). length os) (drop_keeps S)

-- So of each step: the file objects that were made before it, and all others.
record StepMoves (S T : State) (o : ℕ) (e : Entry) : Type 0 where
  long : length S.objects ≤ length T.objects
  made_before : o < length S.objects → times o e.released + there T o ≡ there S o
  not_before : length S.objects ≤ o → times o e.released ≡ 0

-- a step is a call that keeps the file objects, and what is released then
kept_step : (S T : State) (p tag : ℕ) (request : Request) (reply : Reply) (gone : List ℕ) → Step S p tag request reply gone T →
    (U : State) × KeepsPlaces S.objects U.objects × KeepsObjects S U × (gone ≡ released U) × (T ≡ settled U)
unfolding Step
kept_step S T p tag request reply gone s = (
  s.0,
  reached_there S (may_change request) s.0
      (chosen_reached S s.0 (may_change request) (outcome S p tag request) reply (each_obeys S p tag request) s.1),
  chosen_objects S s.0 (may_change request) (outcome S p tag request) reply (each_obeys S p tag request) s.1,
  s.2,
  s.3,
)

step_long : (S T U : State) → KeepsPlaces S.objects U.objects → T ≡ settled U → length S.objects ≤ length T.objects
step_long S T U keeps is =
    let before : length S.objects ≤ length U.objects = keeps.long in
    let left : length T.objects ≡ length (settled U).objects = ap (λ (R : State). length R.objects) is in
    let same = settled_long U in
    omega (arith, before, left, same)

step_moves : (S T : State) (p tag o : ℕ) (e : Entry) → Step S p tag e.request e.reply e.released T → StepMoves S T o e
step_moves S T p tag o e step =
    let k = kept_step S T p tag e.request e.reply e.released step in
    let gone : times o e.released ≡ times o (released k.0) = ap (times o) k.3 in
    record {
      long = step_long S T k.0 k.1 k.4;
      made_before = λ less.
          let left : there T o ≡ there (settled k.0) o = ap (λ (R : State). there R o) k.4 in
          let moved = released_there k.0 o in
          let same : there k.0 o ≡ there S o = ap (λ b. cond {A = ℕ} b 1 0) (k.1.there_still o less) in
          omega (arith, gone, left, moved, same);
      not_before = λ past. gone ∙ none_released S k.0 o k.2 past;
    }

pub objects_keep_their_numbers : (S T : State) (p tag : ℕ) (request : Request) (reply : Reply) (gone : List ℕ) →
    Step S p tag request reply gone T → length S.objects ≤ length T.objects
objects_keep_their_numbers S T p tag request reply gone step =
    let k = kept_step S T p tag request reply gone step in step_long S T k.0 k.1 k.4

-- ---- over a history

-- it was closed once at most, if it was made
abbrev HasClosedOnce : ℕ → List Entry → State → Type 0
HasClosedOnce o es S = (times_released o es + there S o ≤ 1) × (length S.objects ≤ o → times_released o es ≡ 0)

at_most_one : (b : Bool) → cond {A = ℕ} b 1 0 ≤ 1
at_most_one true = omega arith
at_most_one false = omega arith

one_more : (o : ℕ) (es : List Entry) (e : Entry) (S T : State) → StepMoves S T o e → HasClosedOnce o es S → HasClosedOnce o (es ++ e ∷ []) T
one_more o es e S T moves so_far =
    let more = sum_by_push (λ (e : Entry). times o e.released) es e in (
      ⊎_elim {C = times_released o (es ++ e ∷ []) + there T o ≤ 1}
          (λ less. let moved = moves.made_before less in let once = so_far.0 in omega (arith, more, moved, once))
          (λ past. let none = moves.not_before past in let never = so_far.1 past in let one = at_most_one (is_some (place T.objects o)) in
          omega (arith, more, none, never, one))
          (cases_lt o (length S.objects)),
      λ past.
          let long = moves.long in
          let none = moves.not_before (omega (arith, long, past)) in
          let never = so_far.1 (omega (arith, long, past)) in
          omega (arith, more, none, never),
    )

keeps_closed_once : (boot : State) (o : ℕ) → IsKept boot (HasClosedOnce o)
keeps_closed_once boot o = record {
  at_boot = λ boots. ((let e = at_most_one (is_some (place boot.objects o)) in omega (arith, e)), λ past. refl);
  by_entry = λ es e S T so_far step allowed. one_more o es e S T (step_moves S T e.pid.0 (length es) o e step) so_far;
}

-- ---- from one front of a history to the next

-- after so many entries
abbrev after_first : State → List Entry → ℕ → State
after_first boot es n = replay boot (take n es)

-- so many file objects were made by then
abbrev made_by : State → List Entry → ℕ → ℕ
made_by boot es n = length (after_first boot es n).objects

one_on : (boot : State) (es : List Entry) (o n : ℕ) (e : Entry) → IsLegal boot es → slice_get es n ≡ Some e →
    StepMoves (after_first boot es n) (after_first boot es (suc n)) o e
one_on boot es o n e legal h =
    let next : replay boot (take n es ++ e ∷ []) ≡ after_first boot es (suc n) = ap (replay boot) (sym (take_next es n e h)) in
    subst (λ (R : State). StepMoves (after_first boot es n) R o e) next
    (step_moves (after_first boot es n) (replay boot (take n es ++ e ∷ [])) e.pid.0 (length (take n es)) o e (legal.each n e h).steps)

-- what was made stays so, and what is gone stays gone
record StaysGone (boot : State) (es : List Entry) (o n m : ℕ) : Type 0 where
  long : made_by boot es n ≤ made_by boot es m
  falls : o < made_by boot es n → there (after_first boot es m) o ≤ there (after_first boot es n) o

no_more : (boot : State) (es : List Entry) (o n k : ℕ) → IsLegal boot es → StaysGone boot es o n (n + k)
no_more boot es o n zero legal = let e : n ≡ n + 0 = omega arith in
    subst (StaysGone boot es o n) e (record { long = omega arith; falls = λ less. omega arith })
no_more boot es o n (suc k) legal =
    let e : suc (n + k) ≡ n + suc k = omega arith in
    subst (StaysGone boot es o n) e (go (slice_get es (n + k)) refl (no_more boot es o n k legal))
  where
    go : (x : Option Entry) → slice_get es (n + k) ≡ x → StaysGone boot es o n (n + k) → StaysGone boot es o n (suc (n + k))
    go None h so_far =
        let past : after_first boot es (suc (n + k)) ≡ after_first boot es (n + k) = ap (replay boot) (take_past es (n + k) h) in
        let alike : made_by boot es (suc (n + k)) ≡ made_by boot es (n + k) = ap (λ (R : State). length R.objects) past in
        let same : there (after_first boot es (suc (n + k))) o ≡ there (after_first boot es (n + k)) o =
        ap (λ (R : State). there R o) past in
        let long = so_far.long in
        record { long = omega (arith, alike, long); falls = λ less. let fewer = so_far.falls less in omega (arith, same, fewer) }
    go (Some e) h so_far =
        let moves = one_on boot es o (n + k) e legal h in
        let more = moves.long in
        let long = so_far.long in
        record {
          long = omega (arith, more, long);
          falls = λ less. let fewer = so_far.falls less in let moved = moves.made_before (omega (arith, long, less)) in
              omega (arith, fewer, moved);
        }

later : (boot : State) (es : List Entry) (o n m : ℕ) → IsLegal boot es → n ≤ m → StaysGone boot es o n m
later boot es o n m legal h = let e : n + (m - n) ≡ m = omega (arith, h) in
    subst (StaysGone boot es o n) e (no_more boot es o n (m - n) legal)

-- what is there at boot keeps its number
pub boot_long : (boot : State) (es : List Entry) (n : ℕ) → IsLegal boot es → length boot.objects ≤ made_by boot es n
boot_long boot es n legal = (later boot es 0 0 n legal (omega arith)).long

falls : (boot : State) (es : List Entry) (o n m : ℕ) → IsLegal boot es → n ≤ m → o < made_by boot es n →
    there (after_first boot es m) o ≤ there (after_first boot es n) o
falls boot es o n m legal h less = (later boot es o n m legal h).falls less

-- ---- by references

-- 1 where there is a reference, and 0 where there is none
referenced : (boot : State) (es : List Entry) (o n : ℕ) → IsLegal boot es →
    is_some (place (after_first boot es n).objects o) ≡ nat_lt 0 (orefs (after_first boot es n) o)
referenced boot es o n legal = (nothing_dangles boot (take n es) (front_is_legal boot es n legal)).objects_referenced o

some_where_one : (b : Bool) (n : ℕ) → b ≡ nat_lt 0 n → 0 < cond {A = ℕ} b 1 0 → 0 < n
some_where_one true n e h = ltb-true 0 n (sym e)
some_where_one false n e h = absurd (omega (arith, h))

none_where_zero : (b : Bool) (n : ℕ) → b ≡ nat_lt 0 n → cond {A = ℕ} b 1 0 ≡ 0 → n ≡ 0
none_where_zero b zero e h = refl
none_where_zero true (suc n) e h = absurd (omega (arith, h))
none_where_zero false (suc n) e h = let less : nat_lt 0 (suc n) ≡ true = lt-ltb 0 (suc n) (omega arith) in absurd (cc (e, less))

one_where_some : (b : Bool) (n : ℕ) → b ≡ nat_lt 0 n → 0 < n → cond {A = ℕ} b 1 0 ≡ 1
one_where_some true n e h = refl
one_where_some false n e h = let less : nat_lt 0 n ≡ true = lt-ltb 0 n h in absurd (cc (e, less))

zero_where_none : (b : Bool) (n : ℕ) → b ≡ nat_lt 0 n → n ≡ 0 → cond {A = ℕ} b 1 0 ≡ 0
zero_where_none true n e h = let less = ltb-true 0 n (sym e) in absurd (omega (arith, less, h))
zero_where_none false n e h = refl

is_none_of : {X : Type 0} (x : Option X) → cond {A = ℕ} (is_some x) 1 0 ≡ 0 → x ≡ None
is_none_of None h = refl
is_none_of (Some x) h = absurd (omega (arith, h))

-- what an entry reports as closed was made before it
was_made_before : (boot : State) (es : List Entry) (o i : ℕ) (e : Entry) → IsLegal boot es → slice_get es i ≡ Some e →
    0 < times o e.released → o < made_by boot es i
was_made_before boot es o i e legal h told = ⊎_elim {C = o < made_by boot es i}
    (λ less. less)
    (λ past. let none = (one_on boot es o i e legal h).not_before past in absurd (omega (arith, none, told)))
    (cases_lt o (made_by boot es i))

loses_last : (boot : State) (es : List Entry) (o i : ℕ) (e : Entry) → IsLegal boot es → slice_get es i ≡ Some e → 0 < times o e.released →
    LosesLast boot es i o
loses_last boot es o i e legal h told =
    let made = was_made_before boot es o i e legal h told in
    let moved = (one_on boot es o i e legal h).made_before made in (
      made,
      none_where_zero (is_some (place (after_first boot es (suc i)).objects o)) (orefs (after_first boot es (suc i)) o)
          (referenced boot es o (suc i) legal)
          (let one = at_most_one (is_some (place (after_first boot es i).objects o)) in omega (arith, moved, one, told)),
      λ n before less. some_where_one (is_some (place (after_first boot es n).objects o)) (orefs (after_first boot es n) o)
          (referenced boot es o n legal)
          (let fewer = falls boot es o n i legal before less in omega (arith, moved, fewer, told)),
    )

told_at_last : (boot : State) (es : List Entry) (o i : ℕ) (e : Entry) → IsLegal boot es → slice_get es i ≡ Some e → LosesLast boot es i o →
    times o e.released ≡ 1
told_at_last boot es o i e legal h last =
    let moved = (one_on boot es o i e legal h).made_before last.0 in
    let none = zero_where_none (is_some (place (after_first boot es (suc i)).objects o)) (orefs (after_first boot es (suc i)) o)
    (referenced boot es o (suc i) legal) last.1 in
    let one = one_where_some (is_some (place (after_first boot es i).objects o)) (orefs (after_first boot es i) o)
    (referenced boot es o i legal) (last.2 i (omega arith) last.0) in
    omega (arith, moved, none, one)

-- ---- the law

pub closed_once : ClosedOnce
closed_once boot es o legal = record {
  once = let h = kept_throughout boot (HasClosedOnce o) (keeps_closed_once boot o) es legal in let all = h.0 in omega (arith, all);
  only_at_the_last = λ i e h told. loses_last boot es o i e legal h told;
  surely_at_the_last = λ i e h last. told_at_last boot es o i e legal h last;
  gone_for_good = λ i n e h told after.
      let made = was_made_before boot es o i e legal h told in
      let moves = one_on boot es o i e legal h in
      let moved = moves.made_before made in
      let long = moves.long in
      let one = at_most_one (is_some (place (after_first boot es i).objects o)) in
      let less = falls boot es o (suc i) n legal (omega (arith, after)) (omega (arith, long, made)) in
      is_none_of (place (after_first boot es n).objects o) (omega (arith, moved, one, less, told));
}

-- what is there at boot was made before each entry
pub boot_objects_closed_once : BootObjectsClosedOnce
boot_objects_closed_once boot es o legal there_at_boot =
    let all = closed_once boot es o legal in
    record {
      once = all.once;
      only_at_the_last = λ i e h told. let last = all.only_at_the_last i e h told in (last.1, λ n before. last.2 n before (made n));
      surely_at_the_last = λ i e h last. all.surely_at_the_last i e h (made i, last.0, λ n before less. last.1 n before);
      gone_for_good = all.gone_for_good;
    }
  where
    made : (n : ℕ) → o < made_by boot es n
    made n = let long = boot_long boot es n legal in omega (arith, long, there_at_boot)
