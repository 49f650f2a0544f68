-- A state that was just made.
use Rattle.std.proofs.Common.{◌≡◌, ℕ, zero, suc, ◌+◌, ◌<◌, ◌≤◌, true, List, [], ◌∷◌, length, map, Option, Some, None, refl, sym, ◌∙◌, ap}
use Rattle.std.proofs.Common.{arith}
use Rattle.std.specs.Prelude.{Bool, max, min, replicate}
use Rattle.std.specs.List.{enumerate_from, slice_get, sum_by}
use Rattle.std.proofs.lemmas.List.{length-map, length-replicate}
use Rattle.std.proofs.lemmas.List.Sums.{sum_by-cons}
use Rattle.ux_model.specs.Limits.{table_limit, raised_object_limit, process_limit}
use Rattle.ux_model.specs.Types.{Name, ProcSpec}
use Rattle.ux_model.specs.Names.{PathTarget, file}
use Rattle.ux_model.specs.Object.{View}
use Rattle.ux_model.specs.Description.{Description}
use Rattle.ux_model.specs.Process.{Process}
use Rattle.ux_model.specs.State.{State}
use Rattle.ux_model.specs.References.{table_refs, description_refs, refs}
use Rattle.ux_model.specs.Flight.{flying_in, in_flight}
use Rattle.ux_model.specs.Boot.{boot_state, are_distinct, new_process}
use Rattle.ux_slots.specs.Held.{Held, count_at}
use Rattle.ux_state.specs.declared.openings.Openings.{Openings}
use Rattle.ux_number_sets.specs.Sets.{IsEmptySet}
use Rattle.ux_state.specs.Counting.{Counted, none_open, counts_of}
use Rattle.ux_state.specs.EntryCounts.{entry_refs}
use Rattle.ux_model.proofs.Counting.Owning.{owned_none}
use Rattle.ux_state.specs.Keeping.{state_of, IsState}
use Rattle.ux_state.specs.Links.{AreLinked, links_of}
use Rattle.ux_state.proofs.CountLaws.{nobody}
use Rattle.ux_state.proofs.Settling.{by_links, none_settled}
use Rattle.ux_state.proofs.Links.{file_paths, names_of, one_path_each, no_path_beyond}

-- the views of the objects, and their paths
views_of : {X : Type 0} (view : X → View) (xs : List (Name × X)) →
    map (λ o. Some (view o.1)) xs ≡ map (λ o. Some o.1) (map {B = Name × View} (λ o. (o.0, view o.1)) xs)
views_of view [] = refl
views_of view (x ∷ xs) = ap (λ l. Some (view x.1) ∷ l) (views_of view xs)

paths_of : {X : Type 0} (view : X → View) (i : ℕ) (xs : List (Name × X)) →
    map {B = Name × PathTarget} (λ e. (e.1.0, file e.0)) (enumerate_from i xs) ≡ map {B = Name × PathTarget}
    (λ e. (e.1.0, file e.0)) (enumerate_from i (map {B = Name × View} (λ o. (o.0, view o.1)) xs))
paths_of view i [] = refl
paths_of view i (x ∷ xs) = ap (λ l. (x.0, file i) ∷ l) (paths_of view (i + 1) xs)

pub made : {X : Type 0} (view : X → View) (xs : List (Name × X)) (os : List (Option View)) (ds : List (Option Description))
    (ps : List Process) (paths : List (Name × PathTarget)) (names : List (Name × ℕ)) (specs : List ProcSpec) →
    os ≡ map (λ o. Some (view o.1)) xs → ds ≡ [] → ps ≡ map new_process specs →
    paths ≡ map {B = Name × PathTarget} (λ e. (e.1.0, file e.0)) (enumerate_from 0 xs) → names ≡ [] →
    ◌≡◌ {A = State} (record { objects = os; descriptions = ds; processes = ps; paths = paths; abstract_names = names })
    (boot_state (map {B = Name × View} (λ o. (o.0, view o.1)) xs) specs)
made view xs os ds ps paths names specs a b c d none = λ j. record {
  objects = (a ∙ views_of view xs) j;
  descriptions = b j;
  processes = c j;
  paths = (d ∙ paths_of view 0 xs) j;
  abstract_names = none j;
}

-- ---- nothing is open yet

none_of : (n o : ℕ) → counts_of (replicate n none_open) o ≡ none_open
none_of zero o = refl
none_of (suc n) zero = refl
none_of (suc n) (suc o) = none_of n o

no_entries : (k n : ℕ) → ◌≡◌ {A = ℕ} (table_refs k (replicate n None)) 0
no_entries k zero = refl
no_entries k (suc n) = sum_by-cons (entry_refs k) None (replicate n None) ∙ ap (λ m. 0 + m) (no_entries k n)

new_table : (k i : ℕ) (specs : List ProcSpec) (P : Process) → slice_get (map new_process specs) i ≡ Some P →
    ◌≡◌ {A = ℕ} (table_refs k P.table) 0
new_table k i [] P e = absurd (cc e)
new_table k zero (s ∷ ss) P e = let same : new_process s ≡ P = cc e in
    ap (λ R. table_refs k (Process.table R)) (sym same) ∙ no_entries k (max 1 (min table_limit s.limit))
new_table k (suc i) (s ∷ ss) P e = new_table k i ss P e

new_tables : (k : ℕ) (specs : List ProcSpec) → ◌≡◌ {A = ℕ} (sum_by (λ P. table_refs k (Process.table P)) (map new_process specs)) 0
new_tables k [] = refl
new_tables k (s ∷ ss) =
    let all = sum_by-cons (λ P. table_refs k (Process.table P)) (new_process s) (map new_process ss) in
    let first = new_table k 0 (s ∷ ss) (new_process s) refl in
    let rest = new_tables k ss in
    omega (arith, all, first, rest)

ones : (n o : ℕ) → o < n → links_of (replicate n 1) o ≡ 1
ones zero o inside = absurd (omega (arith, inside))
ones (suc n) zero inside = refl
ones (suc n) (suc o) inside = ones n o (omega (arith, inside))

pub made_kept : {X : Type 0} {ks : List Bool} {fs : ℕ → ℕ} (view : X → View) (objects : List (Name × X)) (n : ℕ) (xs : List Openings)
    (ls : List ℕ) (H : Held Description) (os : List (Option View)) (ps : List Process) (paths : List (Name × PathTarget))
    (names : List (Name × ℕ)) (specs : List ProcSpec) →
    os ≡ map (λ o. Some (view o.1)) objects → H.places ≡ [] → H.counts ≡ [] → ps ≡ map new_process specs → xs ≡ replicate n none_open →
    ls ≡ replicate n 1 → paths ≡ file_paths 0 objects → are_distinct (map (λ o. o.0) objects) ≡ true → names ≡ [] →
    n ≡ length objects → length objects ≤ raised_object_limit → length specs ≤ process_limit → ((u : ℕ) → fs u ≡ 0) →
    IsEmptySet raised_object_limit ks →
    IsState ks xs ls H fs (state_of os H ps paths names)
unfolding refs in_flight Counted AreLinked
made_kept view objects n xs ls H os ps paths names specs objects_are places counts processes openings links found once none_bound one_each
    few_objects few_processes flights none = record {
      few_objects = let a = ap length objects_are in let b = length-map objects (λ o. Some (view o.1)) in omega (arith, a, b, few_objects);
      few_processes = let a = ap length processes in let b = length-map specs new_process in omega (arith, a, b, few_processes);
      one_each =
          let a = ap length objects_are in let b = length-map objects (λ o. Some (view o.1)) in
          let c = ap length openings in let d = length-replicate n none_open in
          omega (arith, a, b, c, d, one_each);
      link_each =
          let a = ap length objects_are in let b = length-map objects (λ o. Some (view o.1)) in
          let c = ap length links in let d = length-replicate {A = ℕ} n 1 in
          omega (arith, a, b, c, d, one_each);
      opened = rw places (record {
        readers = λ o. ap (λ ys. (counts_of ys o).readers) openings ∙ ap (λ (y : Openings). y.readers) (none_of n o);
        writers = λ o. ap (λ ys. (counts_of ys o).writers) openings ∙ ap (λ (y : Openings). y.writers) (none_of n o);
      });
      linked = rw found (record {
        once = ap are_distinct (names_of 0 objects) ∙ once;
        counted = λ o.
            ap (λ ns. links_of ns o) links ∙ by_links (replicate n 1) o
            (λ h.
            let inside : o < n = let d = length-replicate {A = ℕ} n 1 in omega (arith, h, d) in
            ones n o inside ∙ sym (one_path_each o objects (omega (arith, inside, one_each))))
            (λ beyond unlinked.
            let past : length objects ≤ o = let d = length-replicate {A = ℕ} n 1 in omega (arith, beyond, d, one_each) in
            unlinked ∙ sym (no_path_beyond o objects past));
      });
      settled = none_settled _ xs ls os raised_object_limit none refl;
      counted = λ k.
          let none = ap (λ cs. count_at (record H { counts = cs }) k) counts in
          let tables = ap (sum_by (λ P. table_refs k (Process.table P))) processes ∙ new_tables k specs in
          let held : sum_by (description_refs k) H.places ≡ 0 = ap (sum_by (description_refs k)) places in
          omega (arith, none, tables, held);
      flying = λ u. flights u ∙ sym (ap (sum_by (flying_in u)) places);
      paired = rw places (nobody []);
      owned = rw none_bound (owned_none H.places);
    }
