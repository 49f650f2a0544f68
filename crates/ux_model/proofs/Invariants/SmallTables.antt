-- No table ever has more places than one may have.
use Rattle.std.proofs.Common.{◌≡◌, ℕ, zero, suc, ◌≤◌, List, [], ◌∷◌, ◌++◌, length, map, set, Option, Some, None, refl, ap, sym, subst}
use Rattle.std.proofs.Common.{arith, slice_get}
use Rattle.std.specs.List.{AllByRecursion}
use Rattle.std.proofs.lemmas.List.{length-map}
use Rattle.ux_model.specs.Types.{Entry}
use Rattle.ux_model.specs.Limits.{table_limit}
use Rattle.ux_model.specs.Process.{Process, Descriptor}
use Rattle.ux_model.specs.State.{State, table_of}
use Rattle.ux_model.specs.Release.{settled, drop_unreferenced}
use Rattle.ux_model.specs.Closing.{with_nothing_open}
use Rattle.ux_model.specs.Forking.{child_of}
use Rattle.ux_model.specs.Step.{Step}
use Rattle.ux_model.specs.History.{replay}
use Rattle.ux_model.specs.Changes.{TablesStaySmall}
use Rattle.ux_model.proofs.Changes.Named.{table_in}
use Rattle.ux_model.proofs.Changes.Sound.{IsSound}
use Rattle.ux_model.proofs.Changes.Reaching.{May, Reaches, still, process_changed, process_forked, description_made, peers_made}
use Rattle.ux_model.proofs.Changes.Reaching.{connection_made, description_changed, object_changed, paths_taken, path_bound, name_bound}
use Rattle.ux_model.proofs.Changes.Reaching.{object_made, path_made, turned_off, may_change}
use Rattle.ux_model.proofs.Steps.Calls.{step_reached}
use Rattle.ux_model.proofs.Processes.Living.{settled_keeps}
use Rattle.ux_model.proofs.Invariants.Dangling.{keeps_sound}
use Rattle.ux_model.proofs.Lists.Induction.{IsKept, kept_throughout}

abbrev AreSmall : List Process → Type 0
AreSmall Ps = AllByRecursion (λ P. length (Process.table P) ≤ table_limit) Ps

set_small : (Ps : List Process) (i : ℕ) (P Q : Process) → slice_get Ps i ≡ Some P → length Q.table ≤ length P.table → AreSmall Ps →
    AreSmall (set Ps i Q)
set_small [] i P Q there long small = tt
set_small (R ∷ Ps) zero P Q there long small =
    let same : R ≡ P = cc there in
    let before : length R.table ≡ length P.table = ap (λ (w : Process). length w.table) same in
    let low : length R.table ≤ table_limit = small.0 in
    (omega (arith, before, low, long), small.1)
set_small (R ∷ Ps) (suc i) P Q there long small = (small.0, set_small Ps i P Q there long small.1)

small_at : (Ps : List Process) (i : ℕ) (P : Process) → slice_get Ps i ≡ Some P → AreSmall Ps → length P.table ≤ table_limit
small_at [] i P there small = absurd (cc there)
small_at (R ∷ Ps) zero P there small = let same : R ≡ P = cc there in subst (λ (w : Process). length w.table ≤ table_limit) same small.0
small_at (R ∷ Ps) (suc i) P there small = small_at Ps i P there small.1

pushed_small : (Ps : List Process) (Q : Process) → length Q.table ≤ table_limit → AreSmall Ps → AreSmall (Ps ++ Q ∷ [])
pushed_small [] Q low small = (low, tt)
pushed_small (R ∷ Ps) Q low small = (small.0, pushed_small Ps Q low small.1)

emptied_small : (Ps : List Process) → AreSmall Ps → AreSmall (map with_nothing_open Ps)
emptied_small [] small = tt
emptied_small (P ∷ Ps) small =
    let nothing : Option Descriptor → Option Descriptor = λ e. None in
    let same : length (with_nothing_open P).table ≡ length P.table = length-map P.table nothing in
    let low : length P.table ≤ table_limit = small.0 in
    (omega (arith, same, low), emptied_small Ps small.1)

reached_small : (S : State) (may : May) (T : State) → IsSound S → AreSmall S.processes → Reaches S may T → AreSmall T.processes
reached_small S may T sound small still = small
reached_small S may T sound small (process_changed {T = U} i P Q r there names lives same) =
    set_small U.processes i P Q there (names sound).long (reached_small S may U sound small r)
reached_small S may T sound small (process_forked {T = U} i P r there makes) =
    let so_far = reached_small S may U sound small r in
    pushed_small U.processes (child_of P) (small_at U.processes i P there so_far) so_far
reached_small S may T sound small (object_made {T = U} body r makes) = reached_small S may U sound small r
reached_small S may T sound small (description_made {T = U} D r leads holds bounds) = reached_small S may U sound small r
reached_small S may T sound small (peers_made {T = U} D E r peers) = reached_small S may U sound small r
reached_small S may T sound small (connection_made {T = U} d l cred listener_cred s listener r here free there) =
    reached_small S may U sound small r
reached_small S may T sound small (description_changed {T = U} d x r keeps) = reached_small S may U sound small r
reached_small S may T sound small (object_changed {T = U} o old new r there opened told) = reached_small S may U sound small r
reached_small S may T sound small (paths_taken {T = U} keep r told) = reached_small S may U sound small r
reached_small S may T sound small (path_made {T = U} name o r there told) = reached_small S may U sound small r
reached_small S may T sound small (path_bound {T = U} name d r told) = reached_small S may U sound small r
reached_small S may T sound small (name_bound {T = U} name d r shown told) = reached_small S may U sound small r
reached_small S may T sound small (turned_off {T = U} r told more) = emptied_small U.processes (reached_small S may U sound small r)

settled_small : (S : State) → AreSmall S.processes → AreSmall (settled S).processes
unfolding settled drop_unreferenced
settled_small S small = subst AreSmall (sym (settled_keeps (length S.descriptions) S)) small

step_small : (S T : State) (p tag : ℕ) (e : Entry) → IsSound S → AreSmall S.processes → Step S p tag e.request e.reply e.released T →
    AreSmall T.processes
step_small S T p tag e sound small step =
    let r = step_reached S T p tag e.request e.reply e.released step in
    subst (λ (U : State). AreSmall U.processes) (sym r.3) (settled_small r.0 (reached_small S (may_change e.request) r.0 sound small r.1))

small_kept : (boot : State) → IsKept boot (λ es S. IsSound S × AreSmall S.processes)
small_kept boot = record {
  at_boot = λ boots. ((keeps_sound boot).at_boot boots, boots.small_tables);
  by_entry = λ es e S T so_far step allowed.
      ((keeps_sound boot).by_entry es e S T so_far.0 step allowed, step_small S T e.pid.0 (length es) e so_far.0 so_far.1 step);
}

table_small : (S : State) (p : ℕ) → AreSmall S.processes → length (table_of S p) ≤ table_limit
table_small S zero small = omega arith
table_small S (suc i) small = go (slice_get S.processes i) refl
  where
    go : (o : Option Process) → slice_get S.processes i ≡ o → length (table_in o) ≤ table_limit
    go None h = omega arith
    go (Some P) h = small_at S.processes i P h small

pub tables_stay_small : TablesStaySmall
tables_stay_small boot es p legal = table_small (replay boot es) p
    (kept_throughout boot (λ es S. IsSound S × AreSmall S.processes) (small_kept boot) es legal).1
