-- No call takes back the number of a process or a description.
use Rattle.std.proofs.Common.{◌≡◌, ℕ, zero, suc, ◌+◌, ◌≤◌, Bool, true, false, List, [], ◌∷◌, ◌++◌, length, map, set, Option, Some, None}
use Rattle.std.proofs.Common.{refl, ap, sym}
use Rattle.std.proofs.Common.{◌∙◌, subst, arith, slice_get, if◌then◌else◌}
use Rattle.std.specs.List.{enumerate_from}
use Rattle.std.proofs.lemmas.List.{length_push, length-set, length-map}
use Rattle.std.proofs.lemmas.List.FromFn.{length-enumerate_from}
use Rattle.ux_model.specs.Types.{Request, Reply, Entry}
use Rattle.ux_model.specs.Places.{changed_place}
use Rattle.ux_model.specs.Description.{Description, changed}
use Rattle.ux_model.specs.Socket.{awaiting}
use Rattle.ux_model.specs.Process.{Process}
use Rattle.ux_model.specs.State.{State}
use Rattle.ux_model.specs.Object.{View, new_view}
use Rattle.ux_model.proofs.Releasing.Settling.{drop_keeps}
use Rattle.ux_model.specs.Release.{is_orphan}
use Rattle.ux_model.specs.Release.{place_after_loss, without, is_unreferenced, has_unreferenced, drop_all, drop_rounds, drop_unreferenced}
use Rattle.ux_model.specs.Release.{settled}
use Rattle.ux_model.specs.Forking.{child_of}
use Rattle.ux_model.specs.Closing.{with_nothing_open}
use Rattle.ux_model.specs.Connecting.{no_open_flags, server_end, tied}
use Rattle.ux_model.specs.Pairing.{socket_description}
use Rattle.ux_model.specs.Step.{Step, outcome}
use Rattle.ux_model.specs.History.{replay, IsLegal}
use Rattle.ux_model.specs.Pedigree.{before}
use Rattle.ux_model.proofs.Changes.Reaching.{May, may_change, Reaches, still, process_changed, process_forked, description_made, peers_made}
use Rattle.ux_model.proofs.Changes.Reaching.{object_made, path_made, connection_made, description_changed, object_changed, paths_taken}
use Rattle.ux_model.proofs.Changes.Reaching.{path_bound, name_bound, turned_off}
use Rattle.ux_model.proofs.Steps.Calls.{each_obeys, chosen_reached}
use Rattle.ux_model.proofs.Processes.Living.{settled_keeps}
use Rattle.ux_model.proofs.Lists.ChangedPlaces.{rest_of, length-changed}
use Rattle.ux_model.proofs.Lists.Induction.{take_past}
use Rattle.ux_model.proofs.Pedigrees.Moments.{moment}
use Rattle.ux_laws.specs.Apartness.{Sides, AllTheirsAreMade}

record Grows (S T : State) : Type 0 where
  processes : length S.processes ≤ length T.processes
  descriptions : length S.descriptions ≤ length T.descriptions
  objects : length S.objects ≤ length T.objects

alike : {S T : State} (U : State) → Grows S T → U.processes ≡ T.processes → U.descriptions ≡ T.descriptions → U.objects ≡ T.objects →
    Grows S U
alike {S} {T} U g same most kept =
    let one : length U.processes ≡ length T.processes = ap (λ (l : List Process). length l) same in
    let two : length U.descriptions ≡ length T.descriptions = ap (λ (l : List (Option Description)). length l) most in
    let three : length U.objects ≡ length T.objects = ap (λ (l : List (Option View)). length l) kept in
    record {
      processes = omega (arith, g.processes, one);
      descriptions = omega (arith, g.descriptions, two);
      objects = omega (arith, g.objects, three);
    }

reached_grows : (S : State) (may : May) (T : State) → Reaches S may T → Grows S T
reached_grows S may T still = record { processes = omega arith; descriptions = omega arith; objects = omega arith }
reached_grows S may T (process_changed {T = U} i P Q r h names kept same) =
    let long = length-set U.processes i Q in
    let g = reached_grows S may U r in
    record { processes = omega (arith, g.processes, long); descriptions = g.descriptions; objects = g.objects }
reached_grows S may T (process_forked {T = U} i P r h makes) =
    let long = length_push U.processes (child_of P) in
    let g = reached_grows S may U r in
    record { processes = omega (arith, g.processes, long); descriptions = g.descriptions; objects = g.objects }
reached_grows S may T (object_made {T = U} body r makes) =
    let long = length_push U.objects (Some (new_view body)) in
    let g = reached_grows S may U r in
    record { processes = g.processes; descriptions = g.descriptions; objects = omega (arith, g.objects, long) }
reached_grows S may T (description_made {T = U} D r leads nothing bounds) =
    let long = length_push U.descriptions (Some D) in
    let g = reached_grows S may U r in
    record { processes = g.processes; descriptions = omega (arith, g.descriptions, long); objects = g.objects }
reached_grows S may T (peers_made {T = U} D E r peers) =
    let long = length_push U.descriptions (Some D) in
    let longer = length_push (U.descriptions ++ Some D ∷ []) (Some E) in
    let g = reached_grows S may U r in
    record { processes = g.processes; descriptions = omega (arith, g.descriptions, long, longer); objects = g.objects }
reached_grows S may T (connection_made {T = U} d l cred listener_cred s listener r client free there) =
    let g = reached_grows S may U r in
    let waits : List (Option Description) = changed_place U.descriptions l (changed (awaiting (length U.descriptions))) in
    let made : Description = socket_description no_open_flags (server_end listener d cred) in
    let one = length-changed U.descriptions l (changed (awaiting (length U.descriptions))) in
    let two = length_push waits (Some made) in
    let three = length-changed (waits ++ Some made ∷ []) d (changed (tied (length U.descriptions) listener_cred)) in
    record { processes = g.processes; descriptions = omega (arith, g.descriptions, one, two, three); objects = g.objects }
reached_grows S may T (description_changed {T = U} d x r keeps) =
    let long = length-set U.descriptions d x in
    let g = reached_grows S may U r in
    record { processes = g.processes; descriptions = omega (arith, g.descriptions, long); objects = g.objects }
reached_grows S may T (object_changed {T = U} o old new r h same told) =
    let long = length-set U.objects o (Some new) in
    let g = reached_grows S may U r in
    record { processes = g.processes; descriptions = g.descriptions; objects = omega (arith, g.objects, long) }
reached_grows S may T (paths_taken {T = U} keep r told) = alike _ (reached_grows S may U r) refl refl refl
reached_grows S may T (path_made {T = U} name o r there told) = alike _ (reached_grows S may U r) refl refl refl
reached_grows S may T (path_bound {T = U} name d r told) = alike _ (reached_grows S may U r) refl refl refl
reached_grows S may T (name_bound {T = U} name d r shown told) = alike _ (reached_grows S may U r) refl refl refl
reached_grows S may T (turned_off {T = U} r told more) =
    let one = length-map U.processes with_nothing_open in
    let two = length-map U.descriptions (λ (D : Option Description). none_left) in
    let g = reached_grows S may U r in
    record { processes = omega (arith, g.processes, one); descriptions = omega (arith, g.descriptions, two); objects = g.objects }
  where
    none_left : Option Description
    none_left = None

round_length : (gone : ℕ → Bool) (S : State) → length (without gone S).descriptions ≡ length S.descriptions
unfolding without
round_length gone S = length-map (enumerate_from 0 S.descriptions) (place_after_loss gone S) ∙ length-enumerate_from 0 S.descriptions

rounds_length : (n : ℕ) (S : State) → length (drop_rounds n S).descriptions ≡ length S.descriptions
unfolding drop_rounds
rounds_length zero S = refl
rounds_length (suc n) S = go (has_unreferenced S) (rounds_length n (drop_all S) ∙ round_length (is_unreferenced S) S)
  where
    go : (b : Bool) → length (drop_rounds n (drop_all S)).descriptions ≡ length S.descriptions →
        length (elim b as (λ _. State) [ true ↦ drop_rounds n (drop_all S) | false ↦ S ]).descriptions ≡ length S.descriptions
    go true h = h
    go false h = refl

settled_grows : (S U : State) → Grows S U → Grows S (settled U)
unfolding settled drop_unreferenced
settled_grows S U g =
    let most = rounds_length (length U.descriptions) U in
    let same : length (settled U).processes ≡ length U.processes =
    ap (λ (l : List Process). length l) (settled_keeps (length U.descriptions) U) in
    let kept = length-map (enumerate_from 0 (drop_unreferenced U).objects)
    (λ (e : ℕ × Option View). if is_orphan (drop_unreferenced U) e then None else e.1) in
    let all = length-enumerate_from 0 (drop_unreferenced U).objects in
    let objects : length (drop_unreferenced U).objects ≡ length U.objects = ap (λ (l : List (Option View)). length l) (drop_keeps U) in
    record {
      processes = omega (arith, g.processes, same);
      descriptions = omega (arith, g.descriptions, most);
      objects = omega (arith, g.objects, kept, all, objects);
    }

step_grows : (S T : State) (p tag : ℕ) (request : Request) (reply : Reply) (gone : List ℕ) → Step S p tag request reply gone T → Grows S T
unfolding Step
step_grows S T p tag request reply gone s = subst (Grows S) (sym s.3) (settled_grows S s.0
    (reached_grows S (may_change request) s.0 (chosen_reached S s.0 (may_change request) (outcome S p tag request) reply
    (each_obeys S p tag request) s.1)))

next_grows : (boot : State) (es : List Entry) (j : ℕ) → IsLegal boot es → Grows (before boot es j) (before boot es (suc j))
next_grows boot es j legal = go (slice_get es j) refl
  where
    go : (x : Option Entry) → slice_get es j ≡ x → Grows (before boot es j) (before boot es (suc j))
    go None past = subst (λ (l : List Entry). Grows (before boot es j) (replay boot l)) (sym (take_past es j past))
        (record { processes = omega arith; descriptions = omega arith; objects = omega arith })
    go (Some e) at = step_grows (before boot es j) (before boot es (suc j)) e.pid.0 j e.request e.reply e.released
        (moment boot es j e legal at).steps

-- so what is made stays on its side
pub made_from : (sides : Sides) (boot : State) (es : List Entry) (from i : ℕ) → IsLegal boot es → from ≤ i →
    AllTheirsAreMade sides (before boot es from) → AllTheirsAreMade sides (before boot es i)
made_from sides boot es from i legal late made =
    let w = rest_of from i late in
    subst (λ (k : ℕ). AllTheirsAreMade sides (before boot es k)) w.1 (go w.0)
  where
    go : (more : ℕ) → AllTheirsAreMade sides (before boot es (from + more))
    go zero = let same : from ≡ from + 0 = omega arith in subst (λ (k : ℕ). AllTheirsAreMade sides (before boot es k)) same made
    go (suc more) =
        let same : suc (from + more) ≡ from + suc more = omega arith in
        let g = next_grows boot es (from + more) legal in
        let w = go more in
        subst (λ (k : ℕ). AllTheirsAreMade sides (before boot es k)) same (record {
          processes = λ p past. w.processes p (omega (arith, past, g.processes));
          descriptions = λ d past. w.descriptions d (omega (arith, past, g.descriptions));
          objects = λ o past. w.objects o (omega (arith, past, g.objects));
        })
