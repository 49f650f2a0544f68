-- What a call that opens a file object gives: a new description, as it was asked for.
use Rattle.std.proofs.Common.{◌≡◌, ℕ, suc, true, not, ◌||◌, is_some, List, [], ◌∷◌, ◌++◌, length, take, Option, Some, None}
use Rattle.std.proofs.Common.{refl, ap, sym, ◌∙◌, subst, slice_get}
use Rattle.std.proofs.lemmas.Bool.{false≢true}
use Rattle.ux_model.specs.Types.{Errno, Fd, Name, Mode, OpenFlags, Request, Reply}
use Rattle.ux_model.specs.Object.{Body, View, memory, new_view}
use Rattle.ux_model.specs.Places.{place, filled}
use Rattle.ux_model.specs.Boot.{is_open}
use Rattle.ux_model.specs.Names.{PathTarget, file, named, is_valid_path}
use Rattle.ux_model.specs.Flags.{asks_append, asks_nonblock}
use Rattle.ux_model.specs.Description.{Description, to_object, socket_of, socket_in}
use Rattle.ux_model.specs.Process.{Descriptor, lowest_free, descriptor}
use Rattle.ux_model.specs.State.{State, description_at, table_of, next_description, with_table, with_new}
use Rattle.ux_model.specs.Outcome.{Outcome, Chosen, own, lacking_memory, failing}
use Rattle.ux_model.specs.Opening.{file_description, open_object, open_file}
use Rattle.ux_model.specs.Making.{next_object, object_table_full, with_made, with_path, open_made, make_object, make_file, create_file}
use Rattle.ux_model.specs.Invariants.{IsWhole}
use Rattle.ux_model.specs.Changes.{sources}
use Rattle.ux_model.specs.Giving.{given, held_at, description_in, description_of}
use Rattle.ux_model.specs.Step.{Step, outcome}
use Rattle.ux_model.specs.Pedigree.{before}
use Rattle.ux_model.proofs.Changes.HeldOpen.{with_table_objects}
use Rattle.ux_model.proofs.Changes.Walk.{either, maybe, by_path as by_path_target}
use Rattle.ux_model.proofs.Lists.Fronts.{front_is_legal}
use Rattle.ux_model.proofs.Invariants.Dangling.{nothing_dangles}
use Rattle.ux_model.proofs.Pedigrees.Moments.{moment}
use Rattle.ux_model.proofs.Pedigrees.Passing.{given_there}
use Rattle.ux_laws.specs.Files.{body_in, body_at}
use Rattle.ux_laws.specs.Writes.{Opens, by_path, creating, in_memory, IsOpened, OpeningsAreAsAsked, MakesFile, by_create, by_memfd}
use Rattle.ux_laws.specs.Writes.{NewFilesAreEmpty}
use Rattle.ux_laws.proofs.Parts.{pushed_here as pushed}
use Rattle.ux_laws.proofs.Touching.Ends.{settled_body}
use Rattle.ux_laws.proofs.LeftAlone.{Lost, same as unchanged, lost, reset, settled_lost}
use Rattle.ux_laws.proofs.Near.Single.{pushed_here}
use Rattle.ux_laws.proofs.Offsets.{in_table}

-- where an outcome answers a number, a new description stands in the next place
record Adds (S : State) (D : Description) (reply : Reply) (next : State) : Type 0 where
  pub there : (fd : Fd) → reply ≡ Reply.Fd fd → description_at next (next_description S) ≡ Some D

refused_add : {S : State} {D : Description} {e : Errno} → Adds S D (Reply.Err e) S
refused_add = record { there = λ fd h. absurd (cc h) }

added : (S T : State) (p : ℕ) (D : Description) (table : List (Option Descriptor)) (reply : Reply) → T.descriptions ≡ S.descriptions →
    Adds S D reply (with_table (with_new T D) p table)
added S T p D table reply same = record {
  there = λ fd h. in_table (with_new T D) p (next_description S) table
      ∙ ap (λ (ds : List (Option Description)). description_at (record T { descriptions = ds ++ Some D ∷ [] }) (length S.descriptions)) same
      ∙ pushed_here S.descriptions (Some D);
}

open_adds : (S : State) (p o : ℕ) (path : Name) (mode : Mode) (flags : OpenFlags) → named path S.paths ≡ Some (file o) →
    Adds S (file_description o mode flags) (open_file S p path mode flags).reply (open_file S p path mode flags).next
unfolding open_file
open_adds S p o path mode flags is = either Q (not (is_valid_path path)) _ _ (λ b. refused_add)
    (λ b. maybe Q (named path S.paths) _ _ refused_add
    (λ target found. by_path_target Q target _ _ (λ k at. object k (same_object k target found at)) (λ d at. refused_add)))
  where
    Q : Outcome → Type 0
    Q x = Adds S (file_description o mode flags) x.reply x.next

    same_object : (k : ℕ) (target : PathTarget) → named path S.paths ≡ Some target → target ≡ file k → k ≡ o
    same_object k target found at = let both : Some (file k) ≡ Some (file o) = ap Some (sym at) ∙ sym found ∙ is in cc both

    object : (k : ℕ) → k ≡ o → Q (open_object S p k mode flags)
    object k same = subst (λ (i : ℕ). Q (open_object S p i mode flags)) (sym same) (maybe Q (lowest_free (table_of S p)) _ _ refused_add
        (λ n low. added S S p (file_description o mode flags) _ _ refl))

made_adds : (S T : State) (p : ℕ) (mode : Mode) (flags : OpenFlags) → T.descriptions ≡ S.descriptions →
    Adds S (file_description (next_object S) mode flags) (open_made S T p mode flags).reply (open_made S T p mode flags).next
made_adds S T p mode flags same = maybe Q (lowest_free (table_of S p)) _ _ refused_add
    (λ n low. either Q (object_table_full S) _ _ (λ b. refused_add)
    (λ b. added S T p (file_description (next_object S) mode flags) _ _ same))
  where
    Q : Outcome → Type 0
    Q x = Adds S (file_description (next_object S) mode flags) x.reply x.next

create_adds : (S : State) (p : ℕ) (path : Name) (mode : Mode) (flags : OpenFlags) →
    Adds S (file_description (next_object S) mode flags) (create_file S p path mode flags).reply (create_file S p path mode flags).next
unfolding create_file
create_adds S p path mode flags = either Q (not (is_valid_path path)) _ _ (λ b. refused_add)
    (λ b. either Q (is_some (named path S.paths)) _ _ (λ c. refused_add)
    (λ c. made_adds S (with_path (with_made S (memory [])) path (next_object S)) p mode flags refl))
  where
    Q : Outcome → Type 0
    Q x = Adds S (file_description (next_object S) mode flags) x.reply x.next

memory_adds : (S : State) (p : ℕ) (flags : OpenFlags) →
    Adds S (file_description (next_object S) Mode.Both flags) (make_file S p flags).reply (make_file S p flags).next
unfolding make_object
memory_adds S p flags = either Q (asks_append flags || asks_nonblock flags) _ _ (λ b. refused_add)
    (λ b. made_adds S (with_made S (memory [])) p Mode.Both flags refl)
  where
    Q : Outcome → Type 0
    Q x = Adds S (file_description (next_object S) Mode.Both flags) x.reply x.next

-- ---- any of these calls

abbrev AddsBy : State → ℕ → ℕ → Request → Description → Type 0
AddsBy S p tag request D = Adds S D (outcome S p tag request).reply (outcome S p tag request).next

opening_adds : (S : State) (p tag o : ℕ) (request : Request) (mode : Mode) (flags : OpenFlags) → Opens S request o mode flags →
    AddsBy S p tag request (file_description o mode flags)
unfolding outcome
opening_adds S p tag o request mode flags (by_path path is led) =
    subst (λ (r : Request). AddsBy S p tag r (file_description o mode flags)) (sym is) (open_adds S p o path mode flags led)
opening_adds S p tag o request mode flags (creating path is new) =
    subst (λ (r : Request). AddsBy S p tag r (file_description o mode flags)) (sym is)
    (subst (λ (i : ℕ). AddsBy S p tag (Request.Create path mode flags) (file_description i mode flags)) (sym new)
    (create_adds S p path mode flags))
opening_adds S p tag o request mode flags (in_memory is both new) =
    subst (λ (r : Request). AddsBy S p tag r (file_description o mode flags)) (sym is)
    (subst (λ (i : ℕ). AddsBy S p tag (Request.MemFd flags) (file_description i mode flags)) (sym new)
    (subst (λ (m : Mode). AddsBy S p tag (Request.MemFd flags) (file_description (next_object S) m flags)) (sym both)
    (memory_adds S p flags)))

-- which number leads there
gives_next : (S : State) (p o : ℕ) (request : Request) (mode : Mode) (flags : OpenFlags) (fd : Fd) → Opens S request o mode flags →
    (slice_get (given S p request (Reply.Fd fd)) 0 ≡ Some fd.0) × (slice_get (sources S p request) 0 ≡ Some (next_description S))
gives_next S p o request mode flags fd (by_path path is led) =
    (ap (λ (r : Request). slice_get (given S p r (Reply.Fd fd)) 0) is, ap (λ (r : Request). slice_get (sources S p r) 0) is)
gives_next S p o request mode flags fd (creating path is new) =
    (ap (λ (r : Request). slice_get (given S p r (Reply.Fd fd)) 0) is, ap (λ (r : Request). slice_get (sources S p r) 0) is)
gives_next S p o request mode flags fd (in_memory is both new) =
    (ap (λ (r : Request). slice_get (given S p r (Reply.Fd fd)) 0) is, ap (λ (r : Request). slice_get (sources S p r) 0) is)

chosen_adds : (S U : State) (p tag : ℕ) (request : Request) (reply : Reply) (D : Description) (fd : Fd) → AddsBy S p tag request D →
    Chosen S (outcome S p tag request) reply U → reply ≡ Reply.Fd fd → description_at U (next_description S) ≡ Some D
chosen_adds S U p tag request reply D fd adds (own e f) told = ap (λ (V : State). description_at V (next_description S)) f
    ∙ adds.there fd (sym e ∙ told)
chosen_adds S U p tag request reply D fd adds (lacking_memory e may f) told =
    let clash : Reply.Err Errno.ENOMEM ≡ Reply.Fd fd = sym e ∙ told in absurd (cc clash)
chosen_adds S U p tag request reply D fd adds (failing e f) told =
    let clash : Reply.Err Errno.EIO ≡ Reply.Fd fd = sym e ∙ told in absurd (cc clash)

-- what leads to a file object and has a reference stays as it is at the end of a call
stays_opened : (U T : State) (d o : ℕ) (D : Description) → D.target ≡ to_object o → description_at U d ≡ Some D → Lost U T d →
    is_some (description_at T d) ≡ true → description_at T d ≡ Some D
stays_opened U T d o D leads here (unchanged e) there = e ∙ here
stays_opened U T d o D leads here (lost e) there = absurd (false≢true (sym (ap is_some e) ∙ there))
stays_opened U T d o D leads here (reset r had) there =
    let clash : None ≡ Some r.socket = sym (ap socket_of leads) ∙ sym (ap socket_in here) ∙ r.connected in absurd (cc clash)

step_opens : (S T : State) (p tag o : ℕ) (request : Request) (reply : Reply) (gone : List ℕ) (mode : Mode) (flags : OpenFlags) (fd : Fd) →
    Opens S request o mode flags → Step S p tag request reply gone T → reply ≡ Reply.Fd fd →
    is_some (description_at T (next_description S)) ≡ true → description_at T (next_description S) ≡ Some (file_description o mode flags)
unfolding Step
step_opens S T p tag o request reply gone mode flags fd opens step told there =
    stays_opened step.0 T (next_description S) o (file_description o mode flags) refl
    (chosen_adds S step.0 p tag request reply (file_description o mode flags) fd (opening_adds S p tag o request mode flags opens) step.1
    told)
    (subst (λ (V : State). Lost step.0 V (next_description S)) (sym step.3) (settled_lost step.0 (next_description S))) there

-- what a number leads to is there
led_is_there : (S : State) (p n d : ℕ) → IsWhole S → description_of S p n ≡ Some d → is_some (description_at S d) ≡ true
led_is_there S p n d whole h = go (held_at S p n) refl h
  where
    go : (x : Option Descriptor) → held_at S p n ≡ x → description_in x ≡ Some d → is_some (description_at S d) ≡ true
    go None is h = absurd (cc h)
    go (Some e) is h =
        let same : e.description ≡ d = cc h in
        subst (λ (k : ℕ). is_some (description_at S k) ≡ true) same (whole.descriptors_lead p n e is)

pub openings_are_as_asked : OpeningsAreAsAsked
openings_are_as_asked boot es j o e fd mode flags legal at opens told =
    let S : State = before boot es j in
    let T : State = before boot es (suc j) in
    let m = moment boot es j e legal at in
    let gives = gives_next S e.pid.0 o e.request mode flags fd opens in
    let w = given_there boot es j 0 fd.0 e m (ap (λ (r : Reply). slice_get (given S e.pid.0 e.request r) 0) told ∙ gives.0) in
    let both : Some w.0 ≡ Some (next_description S) = sym w.1 ∙ gives.1 in
    let leads : description_of T e.pid.0 fd.0 ≡ Some (next_description S) = w.2 ∙ both in
    record {
      leads = leads;
      is = step_opens S T e.pid.0 j o e.request e.reply e.released mode flags fd opens m.steps told
          (led_is_there T e.pid.0 fd.0 (next_description S)
          (nothing_dangles boot (take (suc j) es) (front_is_legal boot es (suc j) legal)) leads);
    }

-- ---- a new file

-- where an outcome answers a number, a new memory file has no bytes
record MakesEmpty (S : State) (reply : Reply) (next : State) : Type 0 where
  pub body : (fd : Fd) → reply ≡ Reply.Fd fd → body_at next (next_object S) ≡ Some (memory [])

refused_make : {S : State} {e : Errno} → MakesEmpty S (Reply.Err e) S
refused_make = record { body = λ fd h. absurd (cc h) }

made_empty : (S T : State) (p : ℕ) (mode : Mode) (flags : OpenFlags) → T.objects ≡ S.objects ++ Some (new_view (memory [])) ∷ [] →
    MakesEmpty S (open_made S T p mode flags).reply (open_made S T p mode flags).next
made_empty S T p mode flags is = maybe Q (lowest_free (table_of S p)) _ _ refused_make
    (λ n low. either Q (object_table_full S) _ _ (λ b. refused_make)
    (λ b. record {
      body = λ fd h. ap (λ (os : List (Option View)). body_in (place os (length S.objects)))
          (with_table_objects (with_new T (file_description (next_object S) mode flags)) p
          (filled (table_of S p) n (descriptor flags (next_description S))) ∙ is)
          ∙ ap body_in (pushed S.objects (Some (new_view (memory []))));
    }))
  where
    Q : Outcome → Type 0
    Q x = MakesEmpty S x.reply x.next

create_empty : (S : State) (p : ℕ) (path : Name) (mode : Mode) (flags : OpenFlags) →
    MakesEmpty S (create_file S p path mode flags).reply (create_file S p path mode flags).next
unfolding create_file
create_empty S p path mode flags = either Q (not (is_valid_path path)) _ _ (λ b. refused_make)
    (λ b. either Q (is_some (named path S.paths)) _ _ (λ c. refused_make)
    (λ c. made_empty S (with_path (with_made S (memory [])) path (next_object S)) p mode flags refl))
  where
    Q : Outcome → Type 0
    Q x = MakesEmpty S x.reply x.next

memory_empty : (S : State) (p : ℕ) (flags : OpenFlags) → MakesEmpty S (make_file S p flags).reply (make_file S p flags).next
unfolding make_object
memory_empty S p flags = either Q (asks_append flags || asks_nonblock flags) _ _ (λ b. refused_make)
    (λ b. made_empty S (with_made S (memory [])) p Mode.Both flags refl)
  where
    Q : Outcome → Type 0
    Q x = MakesEmpty S x.reply x.next

abbrev EmptyBy : State → ℕ → ℕ → Request → Type 0
EmptyBy S p tag request = MakesEmpty S (outcome S p tag request).reply (outcome S p tag request).next

making_empty : (S : State) (p tag : ℕ) (request : Request) → MakesFile request → EmptyBy S p tag request
unfolding outcome
making_empty S p tag request (by_create path mode flags is) = subst (EmptyBy S p tag) (sym is) (create_empty S p path mode flags)
making_empty S p tag request (by_memfd flags is) = subst (EmptyBy S p tag) (sym is) (memory_empty S p flags)

step_empty : (S T : State) (p tag : ℕ) (request : Request) (reply : Reply) (gone : List ℕ) (fd : Fd) (body : Body) → MakesFile request →
    Step S p tag request reply gone T → reply ≡ Reply.Fd fd → body_at T (next_object S) ≡ Some body → body ≡ memory []
unfolding Step
step_empty S T p tag request reply gone fd body makes step told left = by_choice step.1
  where
    before_end : body_at step.0 (next_object S) ≡ Some body
    before_end = settled_body step.0 (next_object S) body (ap (λ (V : State). body_at V (next_object S)) (sym step.3) ∙ left)

    by_choice : Chosen S (outcome S p tag request) reply step.0 → body ≡ memory []
    by_choice (own e f) =
        let both : Some body ≡ Some (memory []) = sym before_end ∙ ap (λ (V : State). body_at V (next_object S)) f
        ∙ (making_empty S p tag request makes).body fd (sym e ∙ told) in
        cc both
    by_choice (lacking_memory e may f) = let clash : Reply.Err Errno.ENOMEM ≡ Reply.Fd fd = sym e ∙ told in absurd (cc clash)
    by_choice (failing e f) = let clash : Reply.Err Errno.EIO ≡ Reply.Fd fd = sym e ∙ told in absurd (cc clash)

-- in which mode, and with which flags
abbrev MakesOpen : State → Request → Type 0
MakesOpen S request = (mode : Mode) × (flags : OpenFlags) × Opens S request (next_object S) mode flags

makes_open : (S : State) (request : Request) → MakesFile request → MakesOpen S request
makes_open S request (by_create path mode flags is) = (mode, flags, creating path is refl)
makes_open S request (by_memfd flags is) = (Mode.Both, flags, in_memory is refl refl)

pub new_files_are_empty : NewFilesAreEmpty
new_files_are_empty boot es j e fd legal at makes told = by_place (place T.objects o) refl
    ((nothing_dangles boot (take (suc j) es) (front_is_legal boot es (suc j) legal)).descriptions_lead (next_description S) o
    (file_description o opens.0 opens.1) opened.is refl)
  where
    S : State
    S = before boot es j

    T : State
    T = before boot es (suc j)

    o : ℕ
    o = next_object S

    opens : MakesOpen S e.request
    opens = makes_open S e.request makes

    opened : IsOpened S T e.pid.0 fd o opens.0 opens.1
    opened = openings_are_as_asked boot es j o e fd opens.0 opens.1 legal at opens.2 told

    by_place : (x : Option View) → place T.objects o ≡ x → is_open x ≡ true → body_at T o ≡ Some (memory [])
    by_place None is h = absurd (false≢true h)
    by_place (Some view) is h =
        let here : body_at T o ≡ Some view.body = ap body_in is in
        here ∙ ap (λ (b : Body). Some b) (step_empty S T e.pid.0 j e.request e.reply e.released fd view.body makes
        (moment boot es j e legal at).steps told here)
