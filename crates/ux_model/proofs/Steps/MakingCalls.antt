-- Of the calls that make a file object: that their outcomes obey what all do. The object is held open by a new descriptor.
use Rattle.std.proofs.Common.{◌≡◌, ◌⊎◌, inl, inr, ⊎_elim, ℕ, zero, suc, ◌<◌, Bool, true, not, List, [], ◌∷◌, ◌++◌, length, set, Option, Some}
use Rattle.std.proofs.Common.{None}
use Rattle.std.proofs.Common.{is_some, refl, ap, sym, subst, ◌∙◌, arith}
use Rattle.std.proofs.lemmas.Bool.{eqb-true}
use Rattle.std.proofs.lemmas.List.{length_push, length-set, get_or-set_same}
use Rattle.ux_model.specs.Types.{Name, Mode, OpenFlags, Reply}
use Rattle.ux_model.specs.Flags.{asks_append}
use Rattle.ux_model.specs.Places.{place, filled}
use Rattle.ux_model.specs.Object.{Body, View, memory, pipe, new_view}
use Rattle.ux_model.specs.Names.{PathTarget, file, named, is_valid_path}
use Rattle.ux_model.specs.Description.{Description, to_object}
use Rattle.ux_model.specs.Process.{Process, Descriptor, lowest_free, two_lowest_free, fd_of, descriptor}
use Rattle.ux_model.specs.State.{State, description_at, process_at, table_of, next_description, with_process, with_table, with_new}
use Rattle.ux_model.specs.Outcome.{taking_memory}
use Rattle.ux_model.specs.Opening.{file_description}
use Rattle.ux_model.specs.Making.{next_object, object_table_full, with_made, with_pipe, open_made, make_object, create_file, make_pipe}
use Rattle.ux_model.proofs.Lists.ByPlace.{get_set_same}
use Rattle.ux_model.proofs.Lists.OnePlace.{pushed_or_same, there_still}
use Rattle.ux_model.proofs.Lists.Rising.{two_rise, lowest_below}
use Rattle.ux_model.proofs.Counting.Making.{place_last}
use Rattle.ux_model.proofs.Changes.Named.{table_in}
use Rattle.ux_model.proofs.Changes.Walk.{either, maybe}
use Rattle.ux_model.proofs.Changes.Reaching.{May, files_made, objects_too, LeadsToThere, Reaches, still, object_made, description_made, path_made}
use Rattle.ux_model.proofs.Changes.Reaching.{NamesWhatIsThere, put_names, same_names, with_table_reached, some_more, some_pushed}
use Rattle.ux_model.proofs.Changes.HeldOpen.{IsHeldOpen, KeepsObjects, with_table_objects}
use Rattle.ux_model.proofs.Changes.Obeying.{failures, FailAlike, Obeys, refuses, uses}

-- ---- the file objects

-- with a new file object, and these paths
abbrev pub made_so : State → Body → List (Name × PathTarget) → State
made_so S body names = record S { objects = S.objects ++ Some (new_view body) ∷ []; paths = names }

-- where U has one more than S, and it is held open once a table is put in place
made_kept : (S U : State) (p : ℕ) (table : List (Option Descriptor)) (new : View) → U.objects ≡ S.objects ++ Some new ∷ [] →
    IsHeldOpen (with_table U p table) (next_object S) → KeepsObjects S (with_table U p table)
made_kept S U p table new made held o = ⊎_elim
    {C = (place (with_table U p table).objects o ≡ place S.objects o) ⊎ IsHeldOpen (with_table U p table) o}
    (λ same. inl (ap (λ (os : List (Option View)). place os o) (with_table_objects U p table ∙ made) ∙ same))
    (λ last. inr (subst (IsHeldOpen (with_table U p table)) last held))
    (pushed_or_same S.objects (Some new) o)

made_alike : (S U : State) (p : ℕ) (table : List (Option Descriptor)) (new : View) → U.objects ≡ S.objects ++ Some new ∷ [] →
    FailAlike S (with_table U p table)
made_alike S U p table new made o there = ap failures
    (ap (λ (os : List (Option View)). place os o) (with_table_objects U p table ∙ made) ∙ there_still S.objects (Some new ∷ []) o there)

-- a process that has room for a descriptor is there
with_room : (S : State) (p n : ℕ) → n < length (table_of S p) → (P : Process) × (process_at S p ≡ Some P)
with_room S p n less = go (process_at S p) refl less
  where
    go : (x : Option Process) → process_at S p ≡ x → n < length (table_in x) → (P : Process) × (process_at S p ≡ Some P)
    go None h less = absurd (omega (arith, less))
    go (Some P) h less = (P, h)

-- and holds open what an entry of its new table leads to
held_by_new : (U : State) (p n o : ℕ) (table : List (Option Descriptor)) (e : Descriptor) (D : Description) (P : Process) →
    process_at U p ≡ Some P → place table n ≡ Some e → description_at U e.description ≡ Some D → D.target ≡ to_object o →
    IsHeldOpen (with_table U p table) o
held_by_new U zero n o table e D P h names there leads = absurd (cc h)
held_by_new U (suc i) n o table e D P h names there leads =
    let T : State = record U { processes = set U.processes i (record P { table = table }) } in
    let is : with_table U (suc i) table ≡ T =
    ap (λ (x : Option Process). elim x as (λ _. State) [ Some P ↦ with_process U (suc i) (record P { table = table }) | None ↦ U ]) h in
    let put : process_at T (suc i) ≡ Some (record P { table = table }) = get_set_same U.processes i (record P { table = table }) P h in
    subst (λ (R : State). IsHeldOpen R o) (sym is) (record {
      process = suc i;
      number = n;
      entry = e;
      description = D;
      named = ap (λ (x : Option Process). place (table_in x) n) put ∙ names;
      there = there;
      leads = leads;
    })

-- a description of the new one leads to what is there
leads_to_made : (S : State) (body : Body) (names : List (Name × PathTarget)) (mode : Mode) (flags : OpenFlags) →
    LeadsToThere (made_so S body names) (file_description (next_object S) mode flags)
leads_to_made S body names mode flags o h =
    subst (λ k. is_some (place (S.objects ++ Some (new_view body) ∷ []) k) ≡ true) (eqb-true (next_object S) o h)
    (some_pushed S.objects (new_view body))

-- ---- with one descriptor

one_made : {may : May} (S : State) (p n : ℕ) (body : Body) (names : List (Name × PathTarget)) (mode : Mode) (flags : OpenFlags) →
    lowest_free (table_of S p) ≡ Some n → Reaches S may (made_so S body names) →
    Obeys S may (taking_memory (Reply.Fd (fd_of n))
    (with_table (with_new (made_so S body names) (file_description (next_object S) mode flags)) p
    (filled (table_of S p) n (descriptor flags (next_description S)))))
one_made S p n body names mode flags low made =
    let D : Description = file_description (next_object S) mode flags in
    let U : State = with_new (made_so S body names) D in
    let e : Descriptor = descriptor flags (next_description S) in
    let table : List (Option Descriptor) = filled (table_of S p) n e in
    let within = lowest_below (table_of S p) n low in
    let P = with_room S p n within in
    let held : IsHeldOpen (with_table U p table) (next_object S) =
    held_by_new U p n (next_object S) table e D P.0 P.1 (get_or-set_same (table_of S p) n (Some e) None within)
    (place_last S.descriptions (Some D)) refl in
    uses refl refl refl (made_kept S U p table (new_view body) refl held) (made_alike S U p table (new_view body) refl)
    (with_table_reached U p table
    (description_made D made (λ sound. leads_to_made S body names mode flags) (record { refs = λ d. refl; peer = refl }) tt)
    (λ sound. put_names U (table_of U p) (table_of U p) n e (some_pushed S.descriptions D) (same_names U (table_of U p))))

made_obeys : {may : May} (S : State) (p : ℕ) (body : Body) (names : List (Name × PathTarget)) (mode : Mode) (flags : OpenFlags) →
    Reaches S may (made_so S body names) → Obeys S may (open_made S (made_so S body names) p mode flags)
made_obeys {may} S p body names mode flags made = maybe (Obeys S may) (lowest_free (table_of S p)) _ _ (refuses refl refl)
    (λ n low. either (Obeys S may) (object_table_full S) _ _ (λ b. refuses refl refl)
    (λ b. one_made S p n body names mode flags low made))

pub object_obeys : (S : State) (p : ℕ) (unknown : Bool) (body : Body) (flags : OpenFlags) →
    Obeys S objects_too (make_object S p unknown body flags)
unfolding make_object
object_obeys S p unknown body flags = either (Obeys S objects_too) unknown _ _ (λ b. refuses refl refl)
    (λ b. made_obeys S p body S.paths Mode.Both flags (object_made body still refl))

pub create_obeys : (S : State) (p : ℕ) (path : Name) (mode : Mode) (flags : OpenFlags) →
    Obeys S files_made (create_file S p path mode flags)
unfolding create_file
create_obeys S p path mode flags = either (Obeys S files_made) (not (is_valid_path path)) _ _ (λ b. refuses refl refl)
    (λ b. either (Obeys S files_made) (is_some (named path S.paths)) _ _ (λ c. refuses refl refl)
    (λ c. made_obeys S p (memory []) (S.paths ++ (path, file (next_object S)) ∷ []) mode flags
    (path_made path (next_object S) (object_made (memory []) still refl) (some_pushed S.objects (new_view (memory []))) refl)))

-- ---- with two

-- entries for two new descriptions
pub two_names : (S : State) (p : ℕ) (A B : Description) (n : ℕ × ℕ) (flags : OpenFlags) →
    NamesWhatIsThere (with_new (with_new S A) B) (table_of S p)
    (filled (filled (table_of S p) n.0 (descriptor flags (next_description S))) n.1 (descriptor flags (suc (next_description S))))
two_names S p A B n flags =
    let T : State = with_new (with_new S A) B in
    let one : is_some (description_at T (next_description S)) ≡ true =
    some_more (S.descriptions ++ Some A ∷ []) (Some B ∷ []) (length S.descriptions) (some_pushed S.descriptions A) in
    let more = length_push S.descriptions (Some A) in
    let long : length (S.descriptions ++ Some A ∷ []) ≡ suc (length S.descriptions) = omega (arith, more) in
    let two : is_some (description_at T (suc (next_description S))) ≡ true =
    subst (λ k. is_some (description_at T k) ≡ true) long (some_pushed (S.descriptions ++ Some A ∷ []) B) in
    put_names T (table_of S p) (filled (table_of S p) n.0 (descriptor flags (next_description S))) n.1
    (descriptor flags (suc (next_description S))) two
    (put_names T (table_of S p) (table_of S p) n.0 (descriptor flags (next_description S)) one (same_names T (table_of S p)))

pipe_made : (S : State) (p : ℕ) (n : ℕ × ℕ) (flags : OpenFlags) → two_lowest_free (table_of S p) ≡ Some n →
    Obeys S objects_too (taking_memory (Reply.Fds (fd_of n.0) (fd_of n.1)) (with_table (with_pipe S flags) p
    (filled (filled (table_of S p) n.0 (descriptor flags (next_description S))) n.1 (descriptor flags (suc (next_description S))))))
pipe_made S p n flags low =
    let A : Description = file_description (next_object S) Mode.Read flags in
    let B : Description = file_description (next_object S) Mode.Write flags in
    let R : State = with_made S (pipe []) in
    let U : State = with_pipe S flags in
    let e : Descriptor = descriptor flags (suc (next_description S)) in
    let first : List (Option Descriptor) = filled (table_of S p) n.0 (descriptor flags (next_description S)) in
    let table : List (Option Descriptor) = filled first n.1 e in
    let within : n.1 < length (table_of S p) = (two_rise (table_of S p) n low).2.1 in
    let same = length-set (table_of S p) n.0 (Some (descriptor flags (next_description S))) in
    let P = with_room S p n.1 within in
    let more = length_push S.descriptions (Some A) in
    let long : length (S.descriptions ++ Some A ∷ []) ≡ suc (length S.descriptions) = omega (arith, more) in
    let there : description_at U (suc (next_description S)) ≡ Some B =
    subst (λ k. description_at U k ≡ Some B) long (place_last (S.descriptions ++ Some A ∷ []) (Some B)) in
    let held : IsHeldOpen (with_table U p table) (next_object S) =
    held_by_new U p n.1 (next_object S) table e B P.0 P.1 (get_or-set_same first n.1 (Some e) None (omega (arith, within, same))) there
    refl in
    let first_made : Reaches S objects_too (with_new R A) = description_made A (object_made (pipe []) still refl)
    (λ sound. leads_to_made S (pipe []) S.paths Mode.Read flags) (record { refs = λ d. refl; peer = refl }) tt in
    uses refl refl refl (made_kept S U p table (new_view (pipe [])) refl held) (made_alike S U p table (new_view (pipe [])) refl)
    (with_table_reached U p table
    (description_made B first_made (λ sound. leads_to_made S (pipe []) S.paths Mode.Write flags) (record { refs = λ d. refl; peer = refl })
    tt) (λ sound. two_names R p A B n flags))

pub pipe_obeys : (S : State) (p : ℕ) (flags : OpenFlags) → Obeys S objects_too (make_pipe S p flags)
unfolding make_pipe
pipe_obeys S p flags = either (Obeys S objects_too) (asks_append flags) _ _ (λ b. refuses refl refl)
    (λ b. maybe (Obeys S objects_too) (two_lowest_free (table_of S p)) _ _ (refuses refl refl)
    (λ n low. either (Obeys S objects_too) (object_table_full S) _ _ (λ c. refuses refl refl) (λ c. pipe_made S p n flags low)))
