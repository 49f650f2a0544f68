-- In the states of legal histories names, messages and queues keep to their limits: through the changes of calls and the releases.
use Rattle.std.proofs.Common.{◌≡◌, ℕ, zero, suc, Bool, true, false, if◌then◌else◌, List, [], ◌∷◌, ◌++◌, length, map, set, Option, Some}
use Rattle.std.proofs.Common.{None, sym, subst, arith}
use Rattle.std.specs.Prelude.{option_map}
use Rattle.ux_model.specs.Types.{Cred, Entry}
use Rattle.ux_model.specs.Limits.{first_queue_limit}
use Rattle.ux_model.specs.Places.{place}
use Rattle.ux_model.specs.Socket.{Socket, awaiting}
use Rattle.ux_model.specs.Description.{Description, Target, to_object, to_socket, changed, changed_target}
use Rattle.ux_model.specs.State.{State, description_at, socket_at, next_description, with_new, with_socket_by}
use Rattle.ux_model.specs.Pairing.{socket_description}
use Rattle.ux_model.specs.Connecting.{server_end, no_open_flags, tied, with_connection}
use Rattle.ux_model.specs.Release.{without, is_unreferenced, has_unreferenced, drop_all, drop_rounds, drop_unreferenced, settled}
use Rattle.ux_model.proofs.Releasing.Losses.{target_after_loss, description_after_loss}
use Rattle.ux_model.specs.Step.{Step}
use Rattle.ux_model.specs.History.{replay, IsLegal}
use Rattle.ux_model.proofs.Releasing.ReleaseLaws.{description_at-without}
use Rattle.ux_model.proofs.Lists.OnePlace.{at_each}
use Rattle.ux_model.proofs.Lists.Induction.{IsKept, kept_throughout}
use Rattle.ux_model.proofs.Changes.Sound.{IsSound}
use Rattle.ux_model.proofs.Changes.Bounds.{HasBounds, IsBounded, IsBoundedTarget, IsBoundedPlace, AreBounded, socket_bounded}
use Rattle.ux_model.proofs.Changes.Reaching.{May, may_change, Reaches, still, process_changed, process_forked, description_made, peers_made}
use Rattle.ux_model.proofs.Changes.Reaching.{connection_made, description_changed, object_changed, paths_taken, path_bound, name_bound}
use Rattle.ux_model.proofs.Changes.Reaching.{object_made, path_made, turned_off}
use Rattle.ux_model.proofs.Steps.Calls.{step_reached}
use Rattle.ux_model.proofs.Invariants.Dangling.{keeps_sound}

-- ---- changes of the descriptions

-- what holds of each place and of one more
push_each : {X : Type 0} (Q : Option X → Type 0) (xs : List (Option X)) (x : Option X) → Q None → ((i : ℕ) → Q (place xs i)) → Q x →
    (i : ℕ) → Q (place (xs ++ x ∷ []) i)
push_each Q [] x none each one zero = one
push_each Q [] x none each one (suc i) = none
push_each Q (y ∷ xs) x none each one zero = each zero
push_each Q (y ∷ xs) x none each one (suc i) = push_each Q xs x none (λ j. each (suc j)) one i

made_bounded : (S : State) (D : Description) → AreBounded S → IsBoundedTarget D.target → AreBounded (with_new S D)
made_bounded S D all own = push_each IsBoundedPlace S.descriptions (Some D) tt all own

place_bounded : (S : State) (d : ℕ) (x : Option Description) → AreBounded S → IsBoundedPlace x →
    AreBounded (record S { descriptions = set S.descriptions d x })
place_bounded S d x all own i = at_each IsBoundedPlace S.descriptions d i x (all i) (λ e h. own)

-- a socket whose name, type and queue stay
changed_bounded : (S : State) (d : ℕ) (change : Socket → Socket) → ((s : Socket) → IsBounded s → IsBounded (change s)) → AreBounded S →
    AreBounded (with_socket_by S d change)
changed_bounded S d change stays all = place_bounded S d (option_map (changed change) (description_at S d)) all
    (at_place (description_at S d) (all d))
  where
    at_target : (t : Target) → IsBoundedTarget t → IsBoundedTarget (changed_target change t)
    at_target (to_object o) own = tt
    at_target (to_socket s) own = stays s own

    at_place : (x : Option Description) → IsBoundedPlace x → IsBoundedPlace (option_map (changed change) x)
    at_place None own = tt
    at_place (Some D) own = at_target D.target own

-- a server's end has its listener's name
connected_bounded : (S : State) (d l : ℕ) (cred listener_cred : Cred) (listener : Socket) → socket_at S l ≡ Some listener → AreBounded S →
    AreBounded (with_connection S (record {
      client = d;
      client_cred = cred;
      listener = l;
      socket = listener;
      listener_cred =
          listener_cred;
    }))
connected_bounded S d l cred listener_cred listener there all =
    let end_bounded : HasBounds listener.kind listener.name first_queue_limit [] =
    record { short = (socket_bounded S l listener all there).short; each = tt; limited = omega arith; all = λ stream. omega arith } in
    let T : State = with_socket_by S l (awaiting (next_description S)) in
    let E : Description = socket_description no_open_flags (server_end listener d cred) in
    changed_bounded (with_new T E) d (tied (next_description S) listener_cred) (λ s own. own)
    (made_bounded T E (changed_bounded S l (awaiting (next_description S)) (λ s own. own) all) end_bounded)

nothing_bounded : (xs : List (Option Description)) (i : ℕ) → IsBoundedPlace (place (map (λ D. None) xs) i)
nothing_bounded [] i = tt
nothing_bounded (x ∷ xs) zero = tt
nothing_bounded (x ∷ xs) (suc i) = nothing_bounded xs i

-- ---- a call

reached_bounded : (S : State) (may : May) (T : State) → IsSound S → AreBounded S → Reaches S may T → AreBounded T
reached_bounded S may T sound all still = all
reached_bounded S may T sound all (process_changed {T = U} i P Q r h names kept same) = reached_bounded S may U sound all r
reached_bounded S may T sound all (process_forked {T = U} i P r h makes) = reached_bounded S may U sound all r
reached_bounded S may T sound all (object_made {T = U} body r makes) = reached_bounded S may U sound all r
reached_bounded S may T sound all (description_made {T = U} D r leads nothing bounds) =
    made_bounded U D (reached_bounded S may U sound all r) bounds
reached_bounded S may T sound all (peers_made {T = U} D E r peers) =
    made_bounded (with_new U D) E (made_bounded U D (reached_bounded S may U sound all r) peers.first_bounds) peers.second_bounds
reached_bounded S may T sound all (connection_made {T = U} d l cred listener_cred s listener r client free there) =
    connected_bounded U d l cred listener_cred listener there (reached_bounded S may U sound all r)
reached_bounded S may T sound all (description_changed {T = U} d x r keeps) =
    let before = reached_bounded S may U sound all r in place_bounded U d x before ((keeps sound).bounds before (before d))
reached_bounded S may T sound all (object_changed {T = U} o old new r h same told) = reached_bounded S may U sound all r
reached_bounded S may T sound all (paths_taken {T = U} keep r told) = reached_bounded S may U sound all r
reached_bounded S may T sound all (path_made {T = U} name o r there told) = reached_bounded S may U sound all r
reached_bounded S may T sound all (path_bound {T = U} name d r told) = reached_bounded S may U sound all r
reached_bounded S may T sound all (name_bound {T = U} name d r shown told) = reached_bounded S may U sound all r
reached_bounded S may T sound all (turned_off {T = U} r told more) = nothing_bounded U.descriptions

-- ---- what is released

without_bounded : (gone : ℕ → Bool) (S : State) → AreBounded S → AreBounded (without gone S)
without_bounded gone S all d = subst IsBoundedPlace (sym (description_at-without gone S d)) (go (gone d) (description_at S d) (all d))
  where
    at_target : (t : Target) → IsBoundedTarget t → IsBoundedTarget (target_after_loss gone S t)
    at_target (to_object o) own = tt
    at_target (to_socket s) own = own

    go : (b : Bool) (x : Option Description) → IsBoundedPlace x →
        IsBoundedPlace (if b then None else option_map (description_after_loss gone S) x)
    go true x own = tt
    go false None own = tt
    go false (Some D) own = at_target D.target own

rounds_bounded : (n : ℕ) (S : State) → AreBounded S → AreBounded (drop_rounds n S)
unfolding drop_rounds
rounds_bounded zero S all = all
rounds_bounded (suc n) S all = go (has_unreferenced S) (rounds_bounded n (drop_all S) (without_bounded (is_unreferenced S) S all))
  where
    go : (b : Bool) → AreBounded (drop_rounds n (drop_all S)) →
        AreBounded (elim b as (λ _. State) [ true ↦ drop_rounds n (drop_all S) | false ↦ S ])
    go true later = later
    go false later = all

settled_bounded : (S : State) → AreBounded S → AreBounded (settled S)
unfolding settled drop_unreferenced
settled_bounded S all = rounds_bounded (length S.descriptions) S all

-- ---- over a history

abbrev HasBounded : List Entry → State → Type 0
HasBounded es S = IsSound S × AreBounded S

step_bounded : (p tag : ℕ) (e : Entry) (S T : State) → IsSound S → AreBounded S → Step S p tag e.request e.reply e.released T → AreBounded T
step_bounded p tag e S T sound all step =
    let r = step_reached S T p tag e.request e.reply e.released step in
    subst AreBounded (sym r.3) (settled_bounded r.0 (reached_bounded S (may_change e.request) r.0 sound all r.1))

keeps_bounded : (boot : State) → IsKept boot HasBounded
keeps_bounded boot = record {
  at_boot = λ boots. (
    (keeps_sound boot).at_boot boots,
    λ d. subst
        (λ (ds : List (Option Description)). IsBoundedPlace (place ds d)) (sym boots.no_descriptions) tt,
  );
  by_entry = λ es e S T so_far step allowed.
      ((keeps_sound boot).by_entry es e S T so_far.0 step allowed, step_bounded e.pid.0 (length es) e S T so_far.0 so_far.1 step);
}

pub stays_bounded : (boot : State) (es : List Entry) → IsLegal boot es → AreBounded (replay boot es)
stays_bounded boot es legal = (kept_throughout boot HasBounded (keeps_bounded boot) es legal).1
