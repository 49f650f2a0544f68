-- Counts where the table of a process changes.
use Rattle.std.proofs.Common.{◌≡◌, ℕ, zero, suc, ◌+◌, ◌-◌, ◌<◌, ◌≤◌, true, List, [], ◌∷◌, ◌++◌, length, get_or, set, map, take, Option}
use Rattle.std.proofs.Common.{Some, None, option_map, refl, sym, ◌∙◌, ap, arith}
use Rattle.std.specs.List.{sum_by}
use Rattle.std.specs.Prelude.{Bool, false, ◌==◌, if◌then◌else◌, cond, slice_set, is_some}
use Rattle.std.proofs.lemmas.List.{length-set, length-append, length-map}
use Rattle.std.proofs.lemmas.List.Sums.{get_or-le-sum_by, sum_by-cons, sum_by_more, sum_by-take-le}
use Rattle.ux_model.specs.Types.{Name}
use Rattle.ux_model.specs.Limits.{made_limit}
use Rattle.ux_model.specs.Names.{PathTarget}
use Rattle.ux_model.specs.Places.{place}
use Rattle.ux_model.specs.Object.{View}
use Rattle.ux_model.specs.Description.{Description}
use Rattle.ux_model.specs.Process.{Process, Descriptor, kept_on_exec, with_cloexec}
use Rattle.ux_model.specs.State.{State, is_live, with_process}
use Rattle.ux_model.specs.References.{table_refs, description_refs, refs}
use Rattle.ux_model.specs.Peers.{Paired}
use Rattle.ux_model.specs.Flight.{flying_in, in_flight}
use Rattle.ux_model.specs.Owning.{AreOwned}
use Rattle.ux_model.proofs.Counting.Moves.{table_emptied, process_counts, child_counts}
use Rattle.ux_slots.specs.Held.{Held, count_at}
use Rattle.ux_state.specs.declared.openings.Openings.{Openings}
use Rattle.ux_state.specs.Counting.{Counted}
use Rattle.ux_state.specs.EntryCounts.{entry_refs, closed_on_exec}
use Rattle.ux_state.specs.Keeping.{state_of, IsState}
use Rattle.ux_state.specs.Links.{AreLinked}
use Rattle.ux_state.specs.Settling.{AreSettled}
use Rattle.ux_state.proofs.Settling.{settled_objects}
use Rattle.ux_state.proofs.Lookups.{live_at, live_positive, found_process, with_process_is}

-- ---- any change of one process

-- what descriptions hold is the same, and so are the rights in flight
pub record HoldAlike (old new : List (Option Description)) : Type 0 where
  pub holds : (k : ℕ) → sum_by (description_refs k) new ≡ sum_by (description_refs k) old
  pub flies : (u : ℕ) → sum_by (flying_in u) new ≡ sum_by (flying_in u) old

pub same_refs : (os : List (Option View)) (H K : Held Description) (ps : List Process) (paths : List (Name × PathTarget))
    (names : List (Name × ℕ)) (k : ℕ) → HoldAlike H.places K.places →
    refs (state_of os K ps paths names) k ≡ refs (state_of os H ps paths names) k
unfolding refs
same_refs os H K ps paths names k alike = ap (λ n. sum_by (λ P. table_refs k (Process.table P)) ps + n) (alike.holds k)

pub held_same : (ds es : List (Option Description)) → es ≡ ds → HoldAlike ds es
held_same ds es same = record { holds = λ k. ap (sum_by (description_refs k)) same; flies = λ u. ap (sum_by (flying_in u)) same }

-- each user's count stays
pub same_flight : {fs : ℕ → ℕ} (os : List (Option View)) (H K : Held Description) (ps qs : List Process)
    (paths more : List (Name × PathTarget)) (names shown : List (Name × ℕ)) → HoldAlike H.places K.places →
    ((u : ℕ) → fs u ≡ in_flight (state_of os H ps paths names) u) → (u : ℕ) → fs u ≡ in_flight (state_of os K qs more shown) u
unfolding in_flight
same_flight os H K ps qs paths more names shown alike counted u = counted u ∙ sym (alike.flies u)

module _ {ks : List Bool} {fs : ℕ → ℕ} (xs : List Openings) (ls : List ℕ) (H : Held Description) (os : List (Option View))
    (ps : List Process) (paths : List (Name × PathTarget)) (names : List (Name × ℕ))
    (state : IsState ks xs ls H fs (state_of os H ps paths names)) where
  module _ (p : ℕ) (P : Process) (live : is_live (state_of os H ps paths names) p ≡ true) (at : P ≡ get_or ps (p - 1) P) where
    abbrev S : State
    S = state_of os H ps paths names

    -- another process stands in its place, and the counts follow
    pub process_kept : (ys : List Openings) (K : Held Description) (Q : Process) → length ys ≡ length xs → HoldAlike H.places K.places →
        Counted K.places ys → AreSettled ks ys ls os → Paired K.places → AreOwned K.places names →
        ((k : ℕ) → count_at K k + table_refs k P.table ≡ count_at H k + table_refs k Q.table) →
        IsState ks ys ls K fs (state_of os K (set ps (p - 1) Q) paths names)
    process_kept ys K Q long alike opened settled paired owned counts = record {
      few_objects = state.few_objects;
      few_processes = let e = length-set ps (p - 1) Q in let few = state.few_processes in omega (arith, e, few);
      one_each = let each = state.one_each in omega (arith, long, each);
      link_each = state.link_each;
      linked = state.linked;
      opened = opened;
      settled = settled;
      counted = λ k.
          let a = process_counts S p k P Q (found_process S p P live at) in
          let b : refs (state_of os K (set ps (p - 1) Q) paths names) k ≡ refs (with_process S p Q) k =
          same_refs os H K (set ps (p - 1) Q) paths names k alike ∙ ap (λ T. refs T k) (with_process_is S p Q (live_positive S p live)) in
          let c = counts k in
          let e = state.counted k in
          omega (arith, a, b, c, e);
      flying = same_flight os H K ps _ paths paths names names alike state.flying;
      paired = paired;
      owned = owned;
    }

    -- it has another table, with the same descriptions
    pub table_kept : (K : Held Description) (Q : Process) → K.places ≡ H.places →
        ((k : ℕ) → count_at K k + table_refs k P.table ≡ count_at H k + table_refs k Q.table) →
        IsState ks xs ls K fs (state_of os K (set ps (p - 1) Q) paths names)
    table_kept K Q same counts =
        process_kept xs K Q refl (held_same H.places K.places same) (rw same state.opened) state.settled (rw same state.paired)
        (rw same state.owned) counts

    -- what its table refers to is counted
    pub table_counted : (k : ℕ) → table_refs k P.table ≤ count_at H k
    unfolding refs
    table_counted k =
        let a = get_or-le-sum_by (λ R. table_refs k (Process.table R)) ps (p - 1) P (live_at S p live).1.inside in
        let b : table_refs k (get_or ps (p - 1) P).table ≡ table_refs k P.table = ap (λ R. table_refs k (Process.table R)) (sym at) in
        let c = state.counted k in
        omega (arith, a, b, c)

  -- a further process, whose entries are counted
  pub child_kept : (K : Held Description) (Q : Process) → length ps < made_limit → K.places ≡ H.places →
      ((k : ℕ) → count_at K k ≡ count_at H k + table_refs k Q.table) →
      IsState ks xs ls K fs (state_of os K (ps ++ Q ∷ []) paths names)
  child_kept K Q few same counts = record {
    few_objects = state.few_objects;
    few_processes = let long = length-append ps (Q ∷ []) in omega (arith, few, long);
    one_each = state.one_each;
    link_each = state.link_each;
    linked = state.linked;
    opened = rw same state.opened;
    settled = state.settled;
    counted = λ k.
        let a = child_counts (state_of os H ps paths names) Q k in
        let b : refs (state_of os K (ps ++ Q ∷ []) paths names) k ≡ refs (state_of os H (ps ++ Q ∷ []) paths names) k =
        same_refs os H K (ps ++ Q ∷ []) paths names k (held_same H.places K.places same) in
        let c = counts k in
        let e = state.counted k in
        omega (arith, a, b, c, e);
    flying = same_flight os H K ps _ paths paths names names (held_same H.places K.places same) state.flying;
    paired = rw same state.paired;
    owned = rw same state.owned;
  }

  -- other objects, no more than there were, refer to nothing
  pub objects_fewer : (os' : List (Option View)) → length os' ≤ length os →
      ((o : ℕ) → is_some (place os' o) ≡ true → is_some (place os o) ≡ true) → IsState ks xs ls H fs (state_of os' H ps paths names)
  unfolding refs in_flight
  objects_fewer os' long there = record {
    few_objects = let few = state.few_objects in omega (arith, few, long);
    few_processes = state.few_processes;
    one_each = let each = state.one_each in omega (arith, long, each);
    link_each = let each = state.link_each in omega (arith, long, each);
    opened = state.opened;
    linked = state.linked;
    settled = settled_objects ks xs ls os os' state.settled there;
    counted = state.counted;
    flying = state.flying;
    paired = state.paired;
    owned = state.owned;
  }

  pub objects_kept : (os' : List (Option View)) → length os' ≡ length os →
      ((o : ℕ) → is_some (place os' o) ≡ true → is_some (place os o) ≡ true) → IsState ks xs ls H fs (state_of os' H ps paths names)
  objects_kept os' long there = objects_fewer os' (omega (arith, long)) there

  -- nor do other paths
  pub paths_kept : {ns : List Bool} (left : List (Name × PathTarget)) (ms : List ℕ) → length ms ≡ length ls → AreLinked left ms →
      AreSettled ns xs ms os → IsState ns xs ms H fs (state_of os H ps left names)
  unfolding refs in_flight
  paths_kept left ms long linked settled = record {
    few_objects = state.few_objects;
    few_processes = state.few_processes;
    one_each = state.one_each;
    link_each = let each = state.link_each in omega (arith, long, each);
    opened = state.opened;
    linked = linked;
    settled = settled;
    counted = state.counted;
    flying = state.flying;
    paired = state.paired;
    owned = state.owned;
  }

-- ---- entries

pub entry_in_table : (k : ℕ) (table : List (Option Descriptor)) (n : ℕ) → entry_refs k (place table n) ≤ table_refs k table
entry_in_table k table n = let e = table_emptied k table n in omega (arith, e)

-- what exec takes out of a table and what it leaves are the whole
pub table_parted : (k : ℕ) (table : List (Option Descriptor)) →
    table_refs k (map closed_on_exec table) + table_refs k (map kept_on_exec table) ≡ table_refs k table
table_parted k [] = refl
table_parted k (x ∷ xs) =
    let gone = sum_by-cons (entry_refs k) (closed_on_exec x) (map closed_on_exec xs) in
    let left = sum_by-cons (entry_refs k) (kept_on_exec x) (map kept_on_exec xs) in
    let old = sum_by-cons (entry_refs k) x xs in
    let first = one_parted x in
    let rest = table_parted k xs in
    omega (arith, gone, left, old, first, rest)
  where
    one_parted : (x : Option Descriptor) → entry_refs k (closed_on_exec x) + entry_refs k (kept_on_exec x) ≡ entry_refs k x
    one_parted None = refl
    one_parted (Some e) = go e.cloexec
      where
        go : (b : Bool) → entry_refs k (if b then Some e else None) + entry_refs k (if b then None else Some e) ≡ entry_refs k (Some e)
        go true = omega arith
        go false = omega arith

-- the entry at a number counts among those up to it, and these among all
pub table_at : (k : ℕ) (table : List (Option Descriptor)) (i : ℕ) → i < length table →
    table_refs k (take i table) + entry_refs k (place table i) ≤ table_refs k table
table_at k table i inside =
    let a = sum_by_more (entry_refs k) table i None inside in
    let b = sum_by-take-le (entry_refs k) table (i + 1) in
    omega (arith, a, b)

-- so of what exec takes out
closed_place : (table : List (Option Descriptor)) (i : ℕ) → place (map closed_on_exec table) i ≡ closed_on_exec (place table i)
closed_place [] i = refl
closed_place (x ∷ xs) zero = refl
closed_place (x ∷ xs) (suc i) = closed_place xs i

pub marked_more : (k : ℕ) (table : List (Option Descriptor)) (i : ℕ) → i < length table →
    table_refs k (take (i + 1) (map closed_on_exec table)) ≡ table_refs k (take i (map closed_on_exec table)) + entry_refs k
    (closed_on_exec (place table i))
marked_more k table i inside =
    let long = length-map table closed_on_exec in
    let a = sum_by_more (entry_refs k) (map closed_on_exec table) i None (omega (arith, inside, long)) in
    let here : entry_refs k (place (map closed_on_exec table) i) ≡ entry_refs k (closed_on_exec (place table i)) =
    ap (entry_refs k) (closed_place table i) in
    omega (arith, a, here)

pub marked_at : (k : ℕ) (table : List (Option Descriptor)) (i : ℕ) → i < length table →
    table_refs k (take i (map closed_on_exec table)) + entry_refs k (closed_on_exec (place table i)) ≤ table_refs k
    (map closed_on_exec table)
marked_at k table i inside =
    let a = marked_more k table i inside in
    let b = sum_by-take-le (entry_refs k) (map closed_on_exec table) (i + 1) in
    omega (arith, a, b)

-- there are no more than places
pub table_refs_few : (k : ℕ) (table : List (Option Descriptor)) → table_refs k table ≤ length table
table_refs_few k [] = omega arith
table_refs_few k (x ∷ xs) = let all = sum_by-cons (entry_refs k) x xs in let first = one_few x in let rest = table_refs_few k xs in
    omega (arith, all, first, rest)
  where
    one_few : (x : Option Descriptor) → entry_refs k x ≤ 1
    one_few None = omega arith
    one_few (Some e) = go (e.description == k)
      where
        go : (b : Bool) → cond {A = ℕ} b 1 0 ≤ 1
        go true = omega arith
        go false = omega arith

-- another close-on-exec leads to the same description
pub table_marked : (k : ℕ) (on : Bool) (table : List (Option Descriptor)) (n : ℕ) →
    table_refs k (slice_set table n (option_map (with_cloexec on) (place table n))) ≡ table_refs k table
table_marked k on [] n = refl
table_marked k on (x ∷ xs) zero =
    let new : table_refs k (option_map (with_cloexec on) x ∷ xs) ≡ entry_refs k (option_map (with_cloexec on) x) + table_refs k xs =
    sum_by-cons (entry_refs k) (option_map (with_cloexec on) x) xs in
    let old : table_refs k (x ∷ xs) ≡ entry_refs k x + table_refs k xs = sum_by-cons (entry_refs k) x xs in
    let same = one_alike x in
    omega (arith, new, old, same)
  where
    one_alike : (x : Option Descriptor) → entry_refs k (option_map (with_cloexec on) x) ≡ entry_refs k x
    one_alike None = refl
    one_alike (Some e) = refl
table_marked k on (x ∷ xs) (suc n) =
    let new = sum_by-cons (entry_refs k) x (slice_set xs n (option_map (with_cloexec on) (place xs n))) in
    let old = sum_by-cons (entry_refs k) x xs in
    let rest = table_marked k on xs n in
    omega (arith, new, old, rest)

-- ---- a whole table

-- the entries in front of a place, and what stands there, are among all
pub table_front : (k : ℕ) (table : List (Option Descriptor)) (i : ℕ) → i < length table →
    table_refs k (take i table) + entry_refs k (place table i) ≤ table_refs k table
table_front k table i inside =
    let a = sum_by_more (entry_refs k) table i None inside in
    let b = sum_by-take-le (entry_refs k) table (i + 1) in
    omega (arith, a, b)

pub none_open : (k : ℕ) (table : List (Option Descriptor)) → ◌≡◌ {A = ℕ} (table_refs k (map (λ _. None) table)) 0
none_open k [] = refl
none_open k (x ∷ xs) =
    let a : table_refs k (None ∷ map (λ _. None) xs) ≡ 0 + table_refs k (map (λ _. None) xs) =
    sum_by-cons (entry_refs k) None (map (λ _. None) xs) in
    let b = none_open k xs in
    omega (arith, a, b)
