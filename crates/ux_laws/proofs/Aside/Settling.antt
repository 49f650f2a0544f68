-- What goes at the end of a call goes in both of two states that are apart and look alike.
use Rattle.std.proofs.Common.{◌≡◌, ℕ, zero, suc, ◌+◌, ◌<◌, ◌==◌, Bool, true, false, ◌&&◌, ◌||◌, not, if◌then◌else◌, List, []}
use Rattle.std.proofs.Common.{◌∷◌, length}
use Rattle.std.proofs.Common.{map, Option, Some, None, option_map, refl, ap, sym, ◌∙◌, subst, is_some, arith, ⊎_elim}
use Rattle.std.specs.List.{list_any, enumerate_from}
use Rattle.std.proofs.lemmas.Bool.{or_parts, cases_lt}
use Rattle.std.proofs.lemmas.List.Sums.{sum_by-cons}
use Rattle.ux_model.specs.Places.{place}
use Rattle.ux_model.specs.Object.{View, Body}
use Rattle.ux_model.specs.Message.{Message}
use Rattle.ux_model.specs.Socket.{Socket, peer_of, with_reset, pending_ends}
use Rattle.ux_model.specs.Description.{Description, Target, to_object, to_socket, socket_of, socket_in, changed, changed_target}
use Rattle.ux_model.specs.State.{State, description_at, process_at, socket_at}
use Rattle.ux_model.specs.References.{times, queue_refs, target_refs, description_refs, refs}
use Rattle.ux_model.specs.Release.{resets_peer, socket_after_loss, without, is_unreferenced, has_unreferenced, drop_all}
use Rattle.ux_model.specs.Release.{drop_rounds, drop_unreferenced, settled}
use Rattle.ux_model.specs.Invariants.{IsWhole}
use Rattle.ux_model.proofs.Releasing.ReleaseLaws.{description_at-without}
use Rattle.ux_model.proofs.Releasing.Settling.{none_left_unreferenced, drop_keeps}
use Rattle.ux_laws.specs.Files.{body_in}
use Rattle.ux_laws.specs.Apartness.{Sides, TargetIsOn, AreApart, body_behind, untold, untold_in, shown_as, shown_at}
use Rattle.ux_laws.proofs.LeftAlone.{Lost, same, lost, reset, round_lost, none_beyond}
use Rattle.ux_laws.proofs.Touching.Ends.{settled_body}
use Rattle.ux_laws.proofs.Aside.Counting.{table_counts, refs_least}
use Rattle.ux_laws.proofs.Aside.Processes.{by_list}
use Rattle.ux_laws.proofs.Aside.Rounds.{Alike, tied_peer, without_keeps, round_leaves}
use Rattle.ux_model.proofs.Changes.Named.{table_in}
use Rattle.ux_laws.proofs.Aside.Twins.{Twins, other_way, shown_same, both_shown, none_shown}
use Rattle.ux_laws.proofs.Aside.Unseen.{body_left}

-- ---- references are as many

queue_alike : (d : ℕ) (queue : List Message) → queue_refs d (map untold queue) ≡ queue_refs d queue
queue_alike d [] = refl
queue_alike d (m ∷ ms) =
    let new = sum_by-cons (λ (m : Message). times d m.rights) (untold m) (map untold ms) in
    let old = sum_by-cons (λ (m : Message). times d m.rights) m ms in
    let rest = queue_alike d ms in
    omega (arith, new, old, rest)

untold_refs : (d : ℕ) (D : Description) → target_refs d (changed untold_in D).target ≡ target_refs d D.target
untold_refs d D = go D.target
  where
    go : (t : Target) → target_refs d (changed_target untold_in t) ≡ target_refs d t
    go (to_object o) = refl
    go (to_socket s) = ap (λ n. n + times d (pending_ends s.phase)) (queue_alike d s.queue)

abbrev refs_of_shown : ℕ → Option (Description × Option Body) → ℕ
refs_of_shown d None = 0
refs_of_shown d (Some w) = target_refs d (w.0).target

-- what a number of references counts is shown
refs_shown : (S T : State) (d x : ℕ) → shown_at T x ≡ shown_at S x →
    description_refs d (description_at T x) ≡ description_refs d (description_at S x)
refs_shown S T d x shown = sym (counted T (description_at T x)) ∙ ap (refs_of_shown d) shown ∙ counted S (description_at S x)
  where
    counted : (U : State) (y : Option Description) → refs_of_shown d (option_map (shown_as U) y) ≡ description_refs d y
    counted U None = refl
    counted U (Some D) = untold_refs d D

twins_refs : {sides : Sides} (S T : State) (d : ℕ) → Twins sides S T → sides.description d ≡ true → refs T d ≡ refs S d
twins_refs {sides} S T d twins mine =
    let more = refs_least sides S T d twins.left mine
    (λ p on. let same : table_counts d (process_at T p) ≡ table_counts d (process_at S p) = ap (table_counts d) (twins.processes p on) in
    omega (arith, same))
    (λ x on. let same = refs_shown S T d x (twins.descriptions x on) in omega (arith, same)) in
    let less = refs_least sides T S d twins.right mine
    (λ p on. let same : table_counts d (process_at T p) ≡ table_counts d (process_at S p) = ap (table_counts d) (twins.processes p on) in
    omega (arith, same))
    (λ x on. let same = refs_shown S T d x (twins.descriptions x on) in omega (arith, same)) in
    omega (arith, more, less)

there_shown : (S T : State) (d : ℕ) → shown_at T d ≡ shown_at S d → is_some (description_at T d) ≡ is_some (description_at S d)
there_shown S T d shown = sym (counted T (description_at T d)) ∙ ap is_some shown ∙ counted S (description_at S d)
  where
    counted : (U : State) (y : Option Description) → is_some (option_map (shown_as U) y) ≡ is_some y
    counted U None = refl
    counted U (Some D) = refl

gone_alike : {sides : Sides} (S T : State) (d : ℕ) → Twins sides S T → sides.description d ≡ true →
    is_unreferenced T d ≡ is_unreferenced S d
gone_alike S T d twins mine = ap (λ b. b && (refs T d == 0)) (there_shown S T d (twins.descriptions d mine))
    ∙ ap (λ n. is_some (description_at S d) && (n == 0)) (twins_refs S T d twins mine)

-- ---- a round

pub same_length : (ms : List Message) → length (map untold ms) ≡ length ms
same_length [] = refl
same_length (m ∷ ms) = ap suc (same_length ms)

abbrev resets_of_shown : Option (Description × Option Body) → Bool
resets_of_shown None = false
resets_of_shown (Some w) = resets_peer (socket_of (w.0).target)

-- whether the loss of a socket resets its peer
resets_shown : (S T : State) (d : ℕ) → shown_at T d ≡ shown_at S d → resets_peer (socket_at T d) ≡ resets_peer (socket_at S d)
resets_shown S T d shown = sym (counted T (description_at T d)) ∙ ap resets_of_shown shown ∙ counted S (description_at S d)
  where
    by_target : (t : Target) → resets_peer (socket_of (changed_target untold_in t)) ≡ resets_peer (socket_of t)
    by_target (to_object o) = refl
    by_target (to_socket s) = ap (λ n. not (n == 0) || not s.accepted) (same_length s.queue)

    counted : (U : State) (y : Option Description) → resets_of_shown (option_map (shown_as U) y) ≡ resets_peer (socket_in y)
    counted U None = refl
    counted U (Some D) = by_target D.target

-- ---- what is left is apart

pub apart_left : (sides : Sides) (S U : State) → AreApart sides S → U.processes ≡ S.processes → ((d : ℕ) → Lost S U d) → AreApart sides U
apart_left sides S U apart same_ones lost_all = record {
  tables = λ p n e is. apart.tables p n e (sym (ap (λ x. place (table_in x) n) (by_list p S U same_ones)) ∙ is);
  descriptions = λ d D is. by_loss d D is (lost_all d);
}
  where
    reset_on : (side : Bool) (t : Target) → TargetIsOn sides side t → TargetIsOn sides side (changed_target (with_reset true) t)
    reset_on side (to_object o) on = on
    reset_on side (to_socket s) on = record { tied = on.tied; pending = on.pending; rights = on.rights }

    by_loss : (d : ℕ) (D : Description) → description_at U d ≡ Some D → Lost S U d → TargetIsOn sides (sides.description d) D.target
    by_loss d D is (same e) = apart.descriptions d D (sym e ∙ is)
    by_loss d D is (lost e) = let clash : None ≡ Some D = sym e ∙ is in absurd (cc clash)
    by_loss d D is (reset r had) =
        let both : Some (changed (with_reset true) r.description) ≡ Some D = sym r.left ∙ is in
        let one : changed (with_reset true) r.description ≡ D = cc both in
        subst (λ (E : Description). TargetIsOn sides (sides.description d) E.target) one
        (reset_on (sides.description d) r.description.target (apart.descriptions d r.description r.there))

round_apart : (sides : Sides) (S : State) → AreApart sides S → AreApart sides (drop_all S)
round_apart sides S apart =
    apart_left sides S (drop_all S) apart (without_keeps (is_unreferenced S) S) (λ d. round_lost (is_unreferenced S) S d)

-- ---- rounds

-- a socket is reset in both or in neither
target_round : (sides : Sides) (S T : State) (g h : ℕ → Bool) (t u : Target) → ((d : ℕ) → sides.description d ≡ true → h d ≡ g d) →
    ((d : ℕ) → sides.description d ≡ true → resets_peer (socket_at T d) ≡ resets_peer (socket_at S d)) → TargetIsOn sides true t →
    changed_target untold_in u ≡ changed_target untold_in t →
    changed_target untold_in (changed_target (socket_after_loss h T) u) ≡ changed_target untold_in (changed_target
    (socket_after_loss g S) t)
target_round sides S T g h (to_object o) (to_object k) gone resets on is = is
target_round sides S T g h (to_object o) (to_socket s) gone resets on is = absurd (cc is)
target_round sides S T g h (to_socket s) (to_object o) gone resets on is = absurd (cc is)
target_round sides S T g h (to_socket s) (to_socket u) gone resets on is =
    let alike : untold_in u ≡ untold_in s = cc is in
    ap to_socket (ap (λ (x : Socket). with_reset (x.reset || lost_in h T x) x) alike
    ∙ ap (λ b. with_reset (s.reset || b) (untold_in s)) (by_peer (peer_of s.phase) refl))
  where
    lost_in : (ℕ → Bool) → State → Socket → Bool
    lost_in gone U x = elim (peer_of x.phase) as (λ _. Bool) [ None ↦ false | Some peer ↦ gone peer && resets_peer (socket_at U peer) ]

    by_peer : (x : Option ℕ) → peer_of s.phase ≡ x →
        (elim x as (λ _. Bool) [ None ↦ false | Some peer ↦ h peer && resets_peer (socket_at T peer) ])
        ≡ (elim x as (λ _. Bool) [ None ↦ false | Some peer ↦ g peer && resets_peer (socket_at S peer) ])
    by_peer None at = refl
    by_peer (Some peer) at =
        let mine = on.tied peer (tied_peer s.phase peer at) in
        ap (λ b. b && resets_peer (socket_at T peer)) (gone peer mine) ∙ ap (λ b. g peer && b) (resets peer mine)

body_after : (S U : State) (change : Socket → Socket) (t : Target) → U.objects ≡ S.objects →
    body_behind U (changed_target change t) ≡ body_behind S t
body_after S U change (to_object o) same_ones = ap (λ (os : List (Option View)). body_in (place os o)) same_ones
body_after S U change (to_socket s) same_ones = refl

without_objects : (gone : ℕ → Bool) (U : State) → (without gone U).objects ≡ U.objects
unfolding without
without_objects gone U = refl

round_twins : {sides : Sides} (S T : State) → Twins sides S T → Twins sides (drop_all S) (drop_all T)
round_twins {sides} S T twins = record {
  left = round_apart sides S twins.left;
  right = round_apart sides T twins.right;
  processes = λ p mine. by_list p T (drop_all T) (without_keeps (is_unreferenced T) T) ∙ twins.processes p mine
      ∙ sym (by_list p S (drop_all S) (without_keeps (is_unreferenced S) S));
  descriptions = λ d mine. ap (option_map (shown_as (drop_all T))) (description_at-without (is_unreferenced T) T d)
      ∙ ap (λ b. option_map (shown_as (drop_all T))
      (if b then None else option_map (changed (socket_after_loss (is_unreferenced T) T)) (description_at T d)))
      (gone_alike S T d twins mine)
      ∙ by_gone d mine (is_unreferenced S d) (description_at S d) refl
      ∙ sym (ap (option_map (shown_as (drop_all S))) (description_at-without (is_unreferenced S) S d));
}
  where
    after : (U : State) → Description → Description
    after U D = changed (socket_after_loss (is_unreferenced U) U) D

    by_gone : (d : ℕ) → sides.description d ≡ true → (b : Bool) (x : Option Description) → description_at S d ≡ x →
        option_map (shown_as (drop_all T)) (if b then None else option_map (after T) (description_at T d))
        ≡ option_map (shown_as (drop_all S)) (if b then None else option_map (after S) (description_at S d))
    by_gone d mine true x is = refl
    by_gone d mine false None is =
        ap (λ y. option_map (shown_as (drop_all T)) (option_map (after T) y)) (none_shown S T d (twins.descriptions d mine) is)
        ∙ sym (ap (λ y. option_map (shown_as (drop_all S)) (option_map (after S) y)) is)
    by_gone d mine false (Some D) is =
        let w = both_shown S T d D (twins.descriptions d mine) is in
        let E : Description = w.0 in
        ap (λ y. option_map (shown_as (drop_all T)) (option_map (after T) y)) w.1
        ∙ ap (λ (y : Description × Option Body). Some y) (one d D E mine is w.2)
        ∙ sym (ap (λ y. option_map (shown_as (drop_all S)) (option_map (after S) y)) is)
      where
        one : (d : ℕ) (D E : Description) → sides.description d ≡ true → description_at S d ≡ Some D → shown_as T E ≡ shown_as S D →
            shown_as (drop_all T) (after T E) ≡ shown_as (drop_all S) (after S D)
        one d D E mine here shown =
            let target = target_round sides S T (is_unreferenced S) (is_unreferenced T) D.target E.target
            (λ i own. gone_alike S T i twins own) (λ i own. resets_shown S T i (twins.descriptions i own))
            (subst (λ b. TargetIsOn sides b D.target) mine (twins.left.descriptions d D here))
            (ap (λ (y : Description × Option Body). (y.0).target) shown) in
            ap (λ (t : Target). (record (changed untold_in E) { target = t }, body_behind (drop_all T) (after T E).target)) target
            ∙ ap (λ (b : Option Body). (record (changed untold_in E) { target = changed_target untold_in (after S D).target }, b))
            (body_after T (drop_all T) _ E.target (without_objects (is_unreferenced T) T) ∙ ap (λ
            (y : Description × Option Body). y.1) shown
            ∙ sym (body_after S (drop_all S) _ D.target (without_objects (is_unreferenced S) S)))
            ∙ ap (λ (y : Description × Option Body). (
              record (y.0) { target = changed_target untold_in (after S D).target },
              body_behind (drop_all S) (after S D).target,
            )) shown

none_found : (test : ℕ → Bool) (k i : ℕ) (ds : List (Option Description)) → list_any (λ e. test e.0) (enumerate_from k ds) ≡ false →
    i < length ds → test (k + i) ≡ false
none_found test k i [] none less = absurd (omega (arith, less))
none_found test k zero (x ∷ ds) none less =
    let at : k ≡ k + 0 = omega arith in
    ap test (sym at) ∙ (or_parts (test k) (list_any (λ e. test e.0) (enumerate_from (k + 1) ds)) none).0
none_found test k (suc i) (x ∷ ds) none less =
    let at : (k + 1) + i ≡ k + suc i = omega arith in
    ap test (sym at) ∙ none_found test (k + 1) i ds (or_parts (test k) (list_any (λ e. test e.0) (enumerate_from (k + 1) ds)) none).1
    (omega (arith, less))

none_unreferenced : (S : State) (d : ℕ) → has_unreferenced S ≡ false → is_unreferenced S d ≡ false
none_unreferenced S d none = ⊎_elim {C = is_unreferenced S d ≡ false}
    (λ less. let at : 0 + d ≡ d = omega arith in
    ap (is_unreferenced S) (sym at) ∙ none_found (is_unreferenced S) 0 d S.descriptions none less)
    (λ past. ap (λ x. is_some x && (refs S d == 0)) (none_beyond S.descriptions d past))
    (cases_lt d (length S.descriptions))

-- a round of one of them, where the other has none to drop
round_right : {sides : Sides} (S T : State) → Twins sides S T → has_unreferenced S ≡ false → Twins sides S (drop_all T)
round_right {sides} S T twins none = record {
  left = twins.left;
  right = round_apart sides T twins.right;
  processes = λ p mine. kept.processes p mine ∙ twins.processes p mine;
  descriptions = λ d mine. shown_same T (drop_all T) d (kept.descriptions d mine) (without_objects (is_unreferenced T) T)
      ∙ twins.descriptions d mine;
}
  where
    kept : Alike sides T (drop_all T)
    kept = round_leaves sides T T twins.right (record { processes = λ p mine. refl; descriptions = λ d mine. refl })
        (λ d mine. gone_alike S T d twins mine ∙ none_unreferenced S d none)

rounds_right : {sides : Sides} (m : ℕ) (S T : State) → Twins sides S T → has_unreferenced S ≡ false → Twins sides S (drop_rounds m T)
unfolding drop_rounds
rounds_right zero S T twins none = twins
rounds_right {sides} (suc m) S T twins none = go (rounds_right m S (drop_all T) (round_right S T twins none) none) (has_unreferenced T)
  where
    go : Twins sides S (drop_rounds m (drop_all T)) → (b : Bool) →
        Twins sides S (elim b as (λ _. State) [ true ↦ drop_rounds m (drop_all T) | false ↦ T ])
    go rest true = rest
    go rest false = twins

rounds_twins : {sides : Sides} (n m : ℕ) (S T : State) → Twins sides S T → has_unreferenced (drop_rounds n S) ≡ false →
    has_unreferenced (drop_rounds m T) ≡ false → Twins sides (drop_rounds n S) (drop_rounds m T)
unfolding drop_rounds
rounds_twins zero m S T twins none other = rounds_right m S T twins none
rounds_twins {sides} (suc n) zero S T twins none other = other_way (rounds_right (suc n) T S (other_way twins) other)
rounds_twins {sides} (suc n) (suc m) S T twins none other =
    go (has_unreferenced S) (has_unreferenced T) (rounds_twins n m (drop_all S) (drop_all T) (round_twins S T twins)) none other
  where
    go : (b c : Bool) → (has_unreferenced (drop_rounds n (drop_all S)) ≡ false → has_unreferenced (drop_rounds m (drop_all T)) ≡ false →
        Twins sides (drop_rounds n (drop_all S)) (drop_rounds m (drop_all T))) →
        has_unreferenced (elim b as (λ _. State) [ true ↦ drop_rounds n (drop_all S) | false ↦ S ]) ≡ false →
        has_unreferenced (elim c as (λ _. State) [ true ↦ drop_rounds m (drop_all T) | false ↦ T ]) ≡ false →
        Twins sides (elim b as (λ _. State) [ true ↦ drop_rounds n (drop_all S) | false ↦ S ])
        (elim c as (λ _. State) [ true ↦ drop_rounds m (drop_all T) | false ↦ T ])
    go true true rest none other = rest none other
    go true false rest none other = other_way (rounds_right n T (drop_all S) (round_right T S (other_way twins) other) other)
    go false true rest none other = rounds_right m S (drop_all T) (round_right S T twins none) none
    go false false rest none other = twins

-- ---- the end of a call

settled_shown : (S : State) (d : ℕ) → IsWhole (settled S) → shown_at (settled S) d ≡ shown_at (drop_unreferenced S) d
unfolding settled
settled_shown S d whole = by_place (description_at (settled S) d) refl
  where
    U : State
    U = drop_unreferenced S

    by_target : (D : Description) (t : Target) → D.target ≡ t → description_at (settled S) d ≡ Some D →
        body_behind (settled S) t ≡ body_behind U t
    by_target D (to_object o) is here = body_left U (settled S) d o D whole here is
        (λ body h. ap (λ (os : List (Option View)). body_in (place os o)) (drop_keeps S) ∙ settled_body S o body h)
    by_target D (to_socket s) is here = refl

    by_place : (x : Option Description) → description_at (settled S) d ≡ x → option_map (shown_as (settled S)) x ≡ option_map (shown_as U) x
    by_place None here = refl
    by_place (Some D) here = ap (λ (b : Option Body). Some (changed untold_in D, b)) (by_target D D.target refl here)

pub settled_twins : {sides : Sides} (S T : State) → Twins sides S T → IsWhole (settled S) → IsWhole (settled T) →
    Twins sides (settled S) (settled T)
unfolding settled drop_unreferenced
settled_twins {sides} S T twins whole also =
    let rounds = rounds_twins (length S.descriptions) (length T.descriptions) S T twins (none_left_unreferenced S)
    (none_left_unreferenced T)
    in
    record {
      left = apart_left sides (drop_unreferenced S) (settled S) rounds.left refl (λ d. same refl);
      right = apart_left sides (drop_unreferenced T) (settled T) rounds.right refl (λ d. same refl);
      processes = λ p mine. by_list p (drop_unreferenced T) (settled T) refl ∙ rounds.processes p mine
          ∙ sym (by_list p (drop_unreferenced S) (settled S) refl);
      descriptions = λ d mine. settled_shown T d also ∙ rounds.descriptions d mine ∙ sym (settled_shown S d whole);
    }
