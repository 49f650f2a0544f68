-- The state of a kernel that was just made.
use Rattle.std.proofs.Common.{◌≡◌, ℕ, ◌+◌, Bool, true, false, not, ◌&&◌, ◌||◌, nat_lt, cond, List, [], ◌∷◌, length, map, ◌≤◌, if◌then◌else◌}
use Rattle.std.proofs.Common.{arith, replicate, Option, Some, None, sym, ◌∙◌, ap, refl}
use Rattle.std.specs.Prelude.{min, max}
use Rattle.std.specs.List.{list_all, list_any, enumerate_from, AllByRecursion}
use Rattle.std.proofs.lemmas.List.{length-replicate, length-map}
use Rattle.std.proofs.lemmas.List.Folds.{list_all-map}
use Rattle.std.proofs.lemmas.Bool.{ltb-false, le-ltb}
use Rattle.std.proofs.lemmas.Option.{none-some}
use Rattle.ux_model.specs.Types.{Name, ProcSpec}
use Rattle.ux_model.specs.Limits.{raised_object_limit, process_limit, table_limit}
use Rattle.ux_types.specs.declared.limits.ObjectLimit.{ObjectLimit}
use Rattle.ux_types.specs.ObjectLimits.{most_objects}
use Rattle.ux_model.specs.Object.{View}
use Rattle.ux_model.specs.Process.{Process}
use Rattle.ux_model.specs.Names.{PathTarget, file, is_valid_path, same_name}
use Rattle.ux_model.specs.Boot.{IsBootState, is_open, are_distinct, new_process, boot_state}
use Rattle.ux_kernel.specs.declared.boot.BootFault.{BootFault}
use Rattle.ux_kernel.specs.Faults.{fault_of}

-- ---- no fault

pub record IsFaultless (most : ℕ) (objects : List (Name × View)) (specs : List ProcSpec) : Type 0 where
  pub few_objects : nat_lt most (length objects) ≡ false
  pub few_processes : nat_lt process_limit (length specs) ≡ false
  pub distinct : are_distinct (map (λ o. o.0) objects) ≡ true
  pub opened : list_all (λ o. View.opened o.1) objects ≡ true

no_fault_here : (b : Bool) (x : BootFault) (rest : Option BootFault) → cond b (Some x) rest ≡ None → (b ≡ false) × (rest ≡ None)
no_fault_here true x rest h = absurd (none-some x (sym h))
no_fault_here false x rest h = (refl, h)

not_false : (b : Bool) → not b ≡ false → b ≡ true
not_false true h = refl
not_false false h = sym h

pub faultless : (most : ℕ) (objects : List (Name × View)) (specs : List ProcSpec) → fault_of most objects specs ≡ None →
    IsFaultless most objects specs
faultless most objects specs h =
    let a = no_fault_here _ _ _ h in
    let b = no_fault_here _ _ _ a.1 in
    let c = no_fault_here _ _ _ b.1 in
    let d = no_fault_here _ _ _ c.1 in
    let e = no_fault_here _ _ _ d.1 in
    record { few_objects = a.0; few_processes = b.0; distinct = not_false _ d.0; opened = not_false _ e.0 }

-- ---- the same of objects whose views are meant

-- an object by its view
abbrev viewed : {X : Type 0} → (X → View) → Name × X → Name × View
viewed V o = (o.0, V o.1)

length_viewed : {X : Type 0} (V : X → View) (xs : List (Name × X)) → length (map (viewed V) xs) ≡ length xs
length_viewed V xs = length-map xs (viewed V)

names_kept : {X : Type 0} (V : X → View) (xs : List (Name × X)) →
    map (λ (o : Name × View). o.0) (map (λ o. (o.0, V o.1)) xs) ≡ map (λ o. o.0) xs
names_kept V [] = refl
names_kept V (x ∷ xs) = ap (λ ns. x.0 ∷ ns) (names_kept V xs)

pub few_objects_of : {X : Type 0} (most : ℕ) (V : X → View) (xs : List (Name × X)) (specs : List ProcSpec) →
    fault_of most (map (λ o. (o.0, V o.1)) xs) specs ≡ None → length xs ≤ most
few_objects_of most V xs specs h =
    let long = length_viewed V xs in
    let few = ltb-false most (length (map (λ o. (o.0, V o.1)) xs)) (faultless most (map (λ o. (o.0, V o.1)) xs) specs h).few_objects in
    omega (arith, long, few)

-- no limit is above the raised one
pub most_bounded : (limit : ObjectLimit) → most_objects limit ≤ raised_object_limit
most_bounded ObjectLimit.Usual = omega arith
most_bounded ObjectLimit.Raised = omega arith

pub few_processes_of : {X : Type 0} (most : ℕ) (V : X → View) (xs : List (Name × X)) (specs : List ProcSpec) →
    fault_of most (map (λ o. (o.0, V o.1)) xs) specs ≡ None → length specs ≤ process_limit
few_processes_of most V xs specs h =
    ltb-false process_limit (length specs) (faultless most (map (λ o. (o.0, V o.1)) xs) specs h).few_processes

pub open_of : {X : Type 0} (most : ℕ) (V : X → View) (xs : List (Name × X)) (specs : List ProcSpec) →
    fault_of most (map (λ o. (o.0, V o.1)) xs) specs ≡ None →
    list_all (λ o. View.opened (V o.1)) xs ≡ true
open_of most V xs specs h = sym (list_all-map (λ o. View.opened o.1) (λ o. (o.0, V o.1)) xs)
    ∙ (faultless most (map (λ o. (o.0, V o.1)) xs) specs h).opened

pub distinct_of : {X : Type 0} (most : ℕ) (V : X → View) (xs : List (Name × X)) (specs : List ProcSpec) →
    fault_of most (map (λ o. (o.0, V o.1)) xs) specs ≡ None →
    are_distinct (map (λ o. o.0) xs) ≡ true
distinct_of most V xs specs h = sym (ap are_distinct (names_kept V xs)) ∙ (faultless most (map (λ o. (o.0, V o.1)) xs) specs h).distinct

-- the first fault by the tests of the objects themselves
abbrev pub fault_by : Bool → Bool → Bool → Bool → Bool → Option BootFault
fault_by many_objects many_processes valid distinct opened =
    if many_objects then Some BootFault.TooManyObjects else
    if many_processes then Some BootFault.TooManyProcesses else
    if not valid then Some BootFault.BadPath else
    if not distinct then Some BootFault.NameTwice else
    if not opened then Some BootFault.ObjectClosed else None

pub fault_is : {X : Type 0} (most : ℕ) (V : X → View) (xs : List (Name × X)) (specs : List ProcSpec) →
    fault_of most (map (λ o. (o.0, V o.1)) xs) specs ≡ fault_by (nat_lt most (length xs)) (nat_lt process_limit (length specs))
    (list_all (λ o. is_valid_path o.0) xs)
    (are_distinct (map (λ o. o.0) xs)) (list_all (λ o. View.opened (V o.1)) xs)
fault_is most V xs specs = λ j. fault_by (nat_lt most (length_viewed V xs j)) (nat_lt process_limit (length specs))
    (list_all-map (λ (o : Name × View). is_valid_path o.0) (λ o. (o.0, V o.1)) xs j)
    (are_distinct (names_kept V xs j))
    (list_all-map (λ (o : Name × View). View.opened o.1) (λ o. (o.0, V o.1)) xs j)

pub fault_told : {X : Type 0} (most : ℕ) (V : X → View) (xs : List (Name × X)) (specs : List ProcSpec) (valid distinct opened : Bool) →
    length xs ≤ most → length specs ≤ process_limit →
    valid ≡ list_all (λ o. is_valid_path o.0) xs → distinct ≡ are_distinct (map (λ o. o.0) xs) →
    opened ≡ list_all (λ o. View.opened (V o.1)) xs →
    fault_by false false valid distinct opened ≡ fault_of most (map (λ o. (o.0, V o.1)) xs) specs
fault_told most V xs specs valid distinct opened few_o few_p v d o =
    (λ j. fault_by (sym (le-ltb most (length xs) few_o) j) (sym (le-ltb process_limit (length specs) few_p) j) (v j) (d j) (o j))
    ∙ sym (fault_is most V xs specs)

-- ---- distinct names, from the first on

any_named : {X : Type 0} (name : Name) (rest : List (Name × X)) →
    list_any (λ other. same_name other name) (map (λ o. o.0) rest) ≡ list_any (λ o. same_name o.0 name) rest
any_named name [] = refl
any_named name (o ∷ os) = ap (λ b. same_name o.0 name || b) (any_named name os)

pub distinct_front : {X : Type 0} (left rest : List (Name × X)) (first : Name × X) (again : Bool) → left ≡ first ∷ rest →
    again ≡ list_any (λ o. same_name o.0 first.0) rest →
    are_distinct (map (λ o. o.0) left) ≡ (not again && are_distinct (map (λ o. o.0) rest))
distinct_front left rest first again e a =
    ap (λ (xs : List (Name × _)). are_distinct (map (λ o. o.0) xs)) e
    ∙ ap (λ b. not b && are_distinct (map (λ o. o.0) rest)) (any_named first.0 rest ∙ sym a)

-- ---- the state

tables_empty : (specs : List ProcSpec) →
    map (λ P. Process.table P) (map new_process specs) ≡ map (λ P. replicate (length (Process.table P)) None) (map new_process specs)
tables_empty [] = refl
tables_empty (s ∷ ss) = λ j. table j ∷ tables_empty ss j
  where
    table : (new_process s).table ≡ replicate (length (new_process s).table) None
    table = ap (λ n. replicate n None) (sym (length-replicate _ None))

tables_small : (specs : List ProcSpec) → AllByRecursion (λ P. length (Process.table P) ≤ table_limit) (map new_process specs)
tables_small [] = tt
tables_small (s ∷ ss) = (table, tables_small ss)
  where
    table : length (new_process s).table ≤ table_limit
    table = let long : length (new_process s).table ≡ max 1 (min table_limit s.limit) = length-replicate _ None in omega (arith, long)

none_exited : (specs : List ProcSpec) → list_all (λ P. not (Process.exited P)) (map new_process specs) ≡ true
none_exited [] = refl
none_exited (s ∷ ss) = none_exited ss

all_open : (objects : List (Name × View)) → list_all is_open (map (λ o. Some o.1) objects) ≡ list_all (λ o. View.opened o.1) objects
all_open [] = refl
all_open (o ∷ os) = ap (λ b. View.opened o.1 && b) (all_open os)

numbers_of : (n : ℕ) (objects : List (Name × View)) →
    map (λ (e : Name × PathTarget). e.1) (map (λ (e : ℕ × (Name × View)). (e.1.0, file e.0)) (enumerate_from n objects)) ≡ map
    (λ e. file e.0) (enumerate_from n (map (λ o. Some o.1) objects))
numbers_of n [] = refl
numbers_of n (o ∷ os) = ap (λ ns. file n ∷ ns) (numbers_of (n + 1) os)

names_of : (n : ℕ) (objects : List (Name × View)) →
    map (λ (e : Name × PathTarget). e.0) (map (λ (e : ℕ × (Name × View)). (e.1.0, file e.0)) (enumerate_from n objects)) ≡ map
    (λ o. o.0) objects
names_of n [] = refl
names_of n (o ∷ os) = ap (λ ns. o.0 ∷ ns) (names_of (n + 1) os)

pub boots : (most : ℕ) (objects : List (Name × View)) (specs : List ProcSpec) → fault_of most objects specs ≡ None →
    IsBootState (boot_state objects specs)
boots most objects specs h =
    let f : IsFaultless most objects specs = faultless most objects specs h in
    record {
      no_descriptions = refl;
      no_abstract_names = refl;
      live_processes = none_exited specs;
      empty_tables = tables_empty specs;
      small_tables = tables_small specs;
      open_objects = all_open objects ∙ f.opened;
      paths = numbers_of 0 objects;
      own_paths = ap are_distinct (names_of 0 objects) ∙ f.distinct;
    }
