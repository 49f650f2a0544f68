-- What writes put into a memory file, and that nothing else changes it; and what of a description stays.
use Rattle.std.proofs.Common.{◌≡◌, ◌⊎◌, ℕ, zero, suc, ◌+◌, ◌-◌, ◌≤◌, ◌<◌, ◌==◌, Bool, true, false, not, ◌&&◌, if◌then◌else◌}
use Rattle.std.proofs.Common.{min, List, [], ◌∷◌, ◌++◌, length, take, drop, replicate, Option, Some, None, Result, Ok, Err, refl, ap}
use Rattle.std.proofs.Common.{sym, ◌∙◌, subst, inl, inr, ⊎_elim, arith, slice_get}
use Rattle.std.specs.Prelude.{nat_le}
use Rattle.std.proofs.lemmas.Bool.{eqb-true, eqb-false, eq-eqb, ne_eqb, false≢true, leb-false, le-leb, lt-leb, and_parts}
use Rattle.std.proofs.lemmas.List.{nil_from_length, take_min, length-take, length-append, length-replicate, get_or-set_same}
use Rattle.ux_model.specs.Types.{Errno, Fd, Mode, Request, Reply, Entry}
use Rattle.ux_model.specs.Places.{place, filled}
use Rattle.ux_model.specs.Limits.{file_limit}
use Rattle.ux_model.specs.Flags.{can_read, can_write}
use Rattle.ux_model.specs.Object.{Body, View, memory, ObjectError, would_block, full, invalid, write_memory, write_body}
use Rattle.ux_model.specs.Object.{overwritten, size_of_body, is_memory, is_pipe, with_body, after_failure}
use Rattle.ux_model.specs.Socket.{with_reset}
use Rattle.ux_model.specs.Description.{Description, Target, to_object, to_socket, socket_of, socket_in, object_of, changed}
use Rattle.ux_model.specs.Process.{Descriptor}
use Rattle.ux_model.specs.State.{State, description_at}
use Rattle.ux_model.specs.Outcome.{Outcome, Chosen, own, lacking_memory, failing, refuse, as_process, find_description}
use Rattle.ux_model.specs.Outcome.{descriptor_at}
use Rattle.ux_model.specs.Sending.{sending, write_socket}
use Rattle.ux_model.specs.FileObjects.{holds_bytes, is_open_for, on_object}
use Rattle.ux_model.specs.Writing.{write, write_answer, write_object, write_place, offset_after_write}
use Rattle.ux_model.specs.Boot.{is_open}
use Rattle.ux_model.specs.Step.{Step, outcome, after}
use Rattle.ux_model.specs.History.{replay, IsLegal}
use Rattle.ux_model.specs.Pedigree.{before}
use Rattle.ux_model.proofs.Changes.Walk.{either}
use Rattle.ux_model.proofs.Lists.ChangedPlaces.{bool_cases, place_within}
use Rattle.ux_model.proofs.Lists.Fronts.{front_is_legal}
use Rattle.ux_model.proofs.Lists.ByPlace.{get_within, get_below, length_front, take_none}
use Rattle.ux_model.proofs.Lists.Induction.{take_next}
use Rattle.ux_model.proofs.Steps.Calls.{each_obeys}
use Rattle.ux_model.proofs.Invariants.Dangling.{nothing_dangles}
use Rattle.ux_model.proofs.Invariants.MadeObjects.{these_alone_make_objects}
use Rattle.ux_model.proofs.Pedigrees.Moments.{moment}
use Rattle.ux_laws.specs.Gathering.{gather_from}
use Rattle.ux_laws.specs.Talking.{if_found, is_number}
use Rattle.ux_laws.specs.Records.{is_count}
use Rattle.ux_laws.specs.Files.{body_in, body_at, object_behind, HasWay, IsChange, by_write, by_read}
use Rattle.ux_laws.specs.Writes.{with_put, write_start, IsPut, WritesPut, Put, size_in, put_through, put_now, puts_since, with_puts}
use Rattle.ux_laws.specs.Writes.{FilesAreTheirWrites, CameFrom, kept, gap, written, BytesHaveAWay, StaysOpen, ModesStay, same_mode}
use Rattle.ux_laws.specs.Writes.{ModesAreAsked}
use Rattle.ux_laws.proofs.Parts.{glance, glance_target}
use Rattle.ux_laws.proofs.Gathers.{gathered_push}
use Rattle.ux_laws.proofs.Opened.{Leads, led_before, way_there}
use Rattle.ux_laws.proofs.LeftAlone.{Lost, same as unchanged, lost as dropped, reset as lost_peer, settled_lost}
use Rattle.ux_laws.proofs.NoWay.{LeadsToObject, behind_leads, leads_behind, changes_have_a_way}
use Rattle.ux_laws.proofs.Unwritten.{known_at_first}
use Rattle.ux_laws.proofs.Connections.{socket_before}
use Rattle.ux_laws.proofs.Touching.Contents.{Touches, untouched, made_now, written as written_through, read_from, put_alike}
use Rattle.ux_laws.proofs.Touching.Ends.{settled_body, step_files}
use Rattle.ux_laws.proofs.Touching.Calls.{each_files, chosen_files}

-- ---- one write

-- what a memory file answers to some bytes
record HasWritten (held : List ℕ) (at : ℕ) (bytes : List ℕ) (made : ℕ × Body) : Type 0 where
  pub taken : made.0 ≡ min (length bytes) (file_limit - at)
  pub left : made.1 ≡ memory (with_put held at (take made.0 bytes))
  pub some : 0 < made.0

-- some bytes, of which some are taken
some_put : (held : List ℕ) (at k : ℕ) (bytes : List ℕ) → 0 < k → 0 < length bytes →
    overwritten held at (take k bytes) ≡ with_put held at (take k bytes)
some_put held at zero bytes far here = absurd (omega (arith, far))
some_put held at (suc k) [] far here = absurd (omega (arith, here))
some_put held at (suc k) (b ∷ bytes) far here = refl

memory_written : (held : List ℕ) (at : ℕ) (bytes : List ℕ) (made : ℕ × Body) → (length bytes == 0) ≡ false →
    write_memory held at bytes ≡ Ok made → HasWritten held at bytes made
memory_written held at bytes made here h = by_place (nat_le file_limit at) refl (sym (ap by_length here) ∙ h)
  where
    limit : ℕ
    limit = file_limit - at

    n : ℕ
    n = min (length bytes) (file_limit - at)

    fits : Bool → Result (ℕ × Body) ObjectError
    fits x = if x then Err full else Ok (min (length bytes) (file_limit - at), memory (overwritten held at (take (file_limit - at) bytes)))

    by_length : Bool → Result (ℕ × Body) ObjectError
    by_length x = if x then Ok (0, memory held) else
        if nat_le file_limit at then Err full else
        Ok (min (length bytes) (file_limit - at), memory (overwritten held at (take (file_limit - at) bytes)))

    by_place : (x : Bool) → nat_le file_limit at ≡ x → fits x ≡ Ok made → HasWritten held at bytes made
    by_place true is h = absurd (cc h)
    by_place false is h =
        let same : (n, memory (overwritten held at (take limit bytes))) ≡ made = cc h in
        let count : n ≡ made.0 = ap (λ (w : ℕ × Body). w.0) same in
        let body : memory (overwritten held at (take limit bytes)) ≡ made.1 = ap (λ (w : ℕ × Body). w.1) same in
        let far = leb-false file_limit at is in
        let long = eqb-false (length bytes) 0 here in
        let swap : ◌≡◌ {A = ℕ} (min limit (length bytes)) n = omega arith in
        record {
          taken = sym count;
          left = sym body ∙ ap (λ (l : List ℕ). memory l)
              (some_put held at limit bytes (omega (arith, far)) (omega (arith, long))
              ∙ ap (λ (l : List ℕ). with_put held at l) (sym (take_min limit bytes) ∙ ap (λ k. take k bytes) (swap ∙ count)));
          some = omega (arith, count, far, long);
        }

-- what stands in a place that was filled
pub put_there : {X : Type 0} (xs : List (Option X)) (i : ℕ) (x y : X) → place xs i ≡ Some x → place (filled xs i y) i ≡ Some y
put_there xs i x y there = get_or-set_same xs i (Some y) None (place_within xs i x there)

-- what an outcome of a write comes to: if it is answered a count it put so many bytes there, else it left the file
record PutBy (S : State) (d o : ℕ) (D : Description) (held bytes : List ℕ) (reply : Reply) (next : State) : Type 0 where
  pub put : (n : ℕ) → reply ≡ Reply.Count n → IsPut next d o D held bytes n
  pub kept_else : is_count reply ≡ false → body_at next o ≡ body_at S o

refused_put : {S : State} {d o : ℕ} {D : Description} {held bytes : List ℕ} {e : Errno} →
    PutBy S d o D held bytes (Reply.Err e) S
refused_put = record { put = λ n h. absurd (cc h); kept_else = λ h. refl }

body_is : (S : State) (o : ℕ) (view : View) (held : List ℕ) (body : Body) → place S.objects o ≡ Some view → view.body ≡ memory held →
    body_at S o ≡ Some body → body ≡ memory held
body_is S o view held body there is h =
    let both : Some body ≡ Some (memory held) = sym h ∙ ap body_in there ∙ ap (λ (b : Body). Some b) is in
    cc both

object_put : (S : State) (d o : ℕ) (D : Description) (view : View) (held bytes : List ℕ) → description_at S d ≡ Some D →
    place S.objects o ≡ Some view → view.body ≡ memory held →
    PutBy S d o D held bytes (write_object S d D o view bytes).reply (write_object S d D o view bytes).next
object_put S d o D view held bytes here there is = either Q (not (can_write D.mode)) _ _ (λ b. refused_put)
    (λ b. either Q (holds_bytes view.body && (length bytes == 0)) _ _
    (λ c. of_none (nil_from_length bytes (eqb-true (length bytes) 0 (and_parts (holds_bytes view.body) (length bytes == 0) c).1)))
    (λ c. either Q (is_pipe view.body && not (is_open_for can_read S o)) _ _ (λ f. refused_put)
    (λ f. by_result (some_bytes c) (write_body view.body (write_place D view) bytes) refl)))
  where
    Q : Outcome → Type 0
    Q x = PutBy S d o D held bytes x.reply x.next

    start : ℕ
    start = write_start D (length held)

    at_start : write_place D view ≡ write_start D (length held)
    at_start = ap (λ (b : Body). if D.append then size_of_body b else D.offset) is

    some_bytes : (holds_bytes view.body && (length bytes == 0)) ≡ false → (length bytes == 0) ≡ false
    some_bytes c = sym (ap (λ (b : Body). holds_bytes b && (length bytes == 0)) is) ∙ c

    of_none : bytes ≡ [] → PutBy S d o D held bytes (Reply.Count 0) S
    of_none none = record {
      put = λ n h.
          let zero_is : 0 ≡ n = cc h in
          let long : ◌≡◌ {A = ℕ} (length bytes) 0 = ap (λ (l : List ℕ). length l) none in
          record {
            taken = omega (arith, zero_is, long);
            left = λ body g. body_is S o view held body there is g
                ∙ ap (λ (l : List ℕ). memory l) (ap (λ (l : List ℕ). with_put held start l)
                (sym (take_none bytes) ∙ ap (λ k. take k bytes) zero_is));
            moved = λ E g.
                let both : Some E ≡ Some D = sym g ∙ here in
                let one : E ≡ D = cc both in
                ap (λ (x : Description). x.offset) one ∙ sym (ap (λ (b : Bool). if b then D.offset else start + n) (eq-eqb n 0 (sym zero_is)));
          };
      kept_else = λ h. refl;
    }

    by_result : (length bytes == 0) ≡ false → (r : Result (ℕ × Body) ObjectError) → write_body view.body (write_place D view) bytes ≡ r →
        PutBy S d o D held bytes (write_answer S d D o view r).reply (write_answer S d D o view r).next
    by_result here_some (Err would_block) h = refused_put
    by_result here_some (Err full) h = refused_put
    by_result here_some (Err invalid) h = refused_put
    by_result here_some (Ok made) h = record {
      put = λ n g.
          let count : made.0 ≡ n = cc g in
          let w = memory_written held start bytes made here_some
          (sym (ap (λ (b : Body). write_body b start bytes) is) ∙ sym (ap (λ k. write_body view.body k bytes) at_start) ∙ h) in
          record {
            taken = sym count ∙ w.taken;
            left = λ body k.
                let both : Some body ≡ Some made.1 = sym k ∙ ap body_in (put_there S.objects o view (with_body view made.1) there) in
                let one : body ≡ made.1 = cc both in
                one ∙ w.left ∙ ap (λ i. memory (with_put held start (take i bytes))) count;
            moved = λ E k.
                let some = w.some in
                let both : Some E ≡ Some (record D { offset = offset_after_write D view made.0 }) = sym k ∙ put_there S.descriptions d D
                (record D { offset = offset_after_write D view made.0 }) here in
                let one : E ≡ record D { offset = offset_after_write D view made.0 } = cc both in
                ap (λ (x : Description). x.offset) one
                ∙ ap (λ (b : Body). if is_memory b then (if D.append then size_of_body b else D.offset) + made.0 else D.offset) is
                ∙ ap (λ (i : ℕ). start + i) count
                ∙ sym (ap (λ (b : Bool). if b then D.offset else start + n) (ne_eqb n 0 (λ z. omega (arith, z, count, some))));
          };
      kept_else = λ g. absurd (false≢true (sym g));
    }

-- ---- write(2)

-- a write through a number that leads to the file
pub write_is : (S : State) (p tag o : ℕ) (fd : Fd) (bytes : List ℕ) (x : Descriptor) (D : Description) (view : View) →
    find_description S p fd ≡ Ok (x, D) → D.target ≡ to_object o → place S.objects o ≡ Some view →
    write S p tag fd bytes ≡ write_object S x.description D o view bytes
unfolding write
write_is S p tag o fd bytes x D view found_is leads there =
    ap (λ (r : Result (Descriptor × Description) Errno). elim r as
    (λ _. Outcome) [ Err f ↦ refuse S f | Ok w ↦ by_kind w.0 w.1 w.1.target ]) found_is
    ∙ ap (λ (t : Target). by_kind x D t) leads
    ∙ ap (λ (v : Option View). elim v as (λ _. Outcome) [ None ↦ refuse S Errno.EBADF | Some w ↦ write_object S x.description D o w bytes ])
    there
  where
    by_kind : Descriptor → Description → Target → Outcome
    by_kind f E t = elim t as (λ _. Outcome) [
      | to_object k ↦ on_object S k (λ w. write_object S f.description E k w bytes)
      | to_socket s ↦ as_process S p (λ P. write_socket S (sending tag p P None bytes) f.description s)
    ]

-- whoever is found is there
pub record IsFoundAt (S : State) (p : ℕ) (fd : Fd) (x : Descriptor) (D : Description) : Type 0 where
  pub held : descriptor_at S p fd ≡ Some x
  pub there : description_at S x.description ≡ Some D

pub found_there : (S : State) (p : ℕ) (fd : Fd) (x : Descriptor) (D : Description) → find_description S p fd ≡ Ok (x, D) → IsFoundAt S p fd x D
found_there S p fd x D h = by_descriptor (descriptor_at S p fd) refl h
  where
    by_description : (e : Descriptor) (o : Option Description) → descriptor_at S p fd ≡ Some e → description_at S e.description ≡ o →
        (elim o as (λ _. Result (Descriptor × Description) Errno) [ None ↦ Err Errno.EBADF | Some E ↦ Ok (e, E) ]) ≡ Ok (x, D) →
        IsFoundAt S p fd x D
    by_description e None g is h = absurd (cc h)
    by_description e (Some E) g is h =
        let both : (e, E) ≡ (x, D) = cc h in
        record {
          held = g ∙ ap (λ (w : Descriptor × Description). Some w.0) both;
          there = ap (λ (w : Descriptor × Description). description_at S w.0.description) (sym both) ∙ is
              ∙ ap (λ (w : Descriptor × Description). Some w.1) both;
        }

    by_descriptor : (o : Option Descriptor) → descriptor_at S p fd ≡ o → (elim o as (λ _. Result (Descriptor × Description) Errno) [
      | None ↦ Err Errno.EBADF
      | Some e ↦ elim (description_at S e.description) as
          (λ _. Result (Descriptor × Description) Errno) [ None ↦ Err Errno.EBADF | Some E ↦ Ok (e, E) ]
    ]) ≡ Ok (x, D) → IsFoundAt S p fd x D
    by_descriptor None g h = absurd (cc h)
    by_descriptor (Some e) g h = by_description e (description_at S e.description) g refl h

-- the file object of a place, by its body
pub view_there : (S : State) (o : ℕ) (body : Body) → body_at S o ≡ Some body → (view : View) × (place S.objects o ≡ Some view) × (view.body ≡ body)
view_there S o body h = go (place S.objects o) refl h
  where
    go : (x : Option View) → place S.objects o ≡ x → body_in x ≡ Some body →
        (view : View) × (place S.objects o ≡ Some view) × (view.body ≡ body)
    go None is h = absurd (cc h)
    go (Some view) is h = (view, is, cc h)

write_put : (S : State) (p tag o : ℕ) (fd : Fd) (bytes held : List ℕ) (x : Descriptor) (D : Description) →
    find_description S p fd ≡ Ok (x, D) → D.target ≡ to_object o → body_at S o ≡ Some (memory held) →
    PutBy S x.description o D held bytes (write S p tag fd bytes).reply (write S p tag fd bytes).next
write_put S p tag o fd bytes held x D found_is leads has =
    let v = view_there S o (memory held) has in
    subst (λ (w : Outcome). PutBy S x.description o D held bytes w.reply w.next) (sym (write_is S p tag o fd bytes x D v.0 found_is leads v.1))
    (object_put S x.description o D v.0 held bytes (found_there S p fd x D found_is).there v.1 v.2)

-- at the end of the call
pub offset_left : (U T : State) (d : ℕ) (E : Description) → Lost U T d → description_at T d ≡ Some E →
    (F : Description) × (description_at U d ≡ Some F) × (E.offset ≡ F.offset)
offset_left U T d E (unchanged e) h = (E, sym e ∙ h, refl)
offset_left U T d E (dropped e) h = let clash : None ≡ Some E = sym e ∙ h in absurd (cc clash)
offset_left U T d E (lost_peer r had) h =
    let both : Some E ≡ Some (changed (with_reset true) r.description) = sym h ∙ r.left in
    let one : E ≡ changed (with_reset true) r.description = cc both in
    (r.description, r.there, ap (λ (x : Description). x.offset) one)

step_put : (S T : State) (p tag n o : ℕ) (fd : Fd) (bytes held : List ℕ) (x : Descriptor) (D : Description) (reply : Reply)
    (gone : List ℕ) → find_description S p fd ≡ Ok (x, D) → D.target ≡ to_object o → body_at S o ≡ Some (memory held) →
    Step S p tag (Request.Write fd bytes) reply gone T → reply ≡ Reply.Count n → IsPut T x.description o D held bytes n
unfolding Step outcome
step_put S T p tag n o fd bytes held x D reply gone found_is leads has step counts = by_choice step.1
  where
    U : State
    U = step.0

    lost_then : Lost U T x.description
    lost_then = subst (λ (V : State). Lost U V x.description) (sym step.3) (settled_lost U x.description)

    ended : IsPut U x.description o D held bytes n → IsPut T x.description o D held bytes n
    ended w = record {
      taken = w.taken;
      left = λ body h. w.left body (settled_body U o body (ap (λ (V : State). body_at V o) (sym step.3) ∙ h));
      moved = λ E h. let f = offset_left U T x.description E lost_then h in f.2 ∙ w.moved f.0 f.1;
    }

    by_choice : Chosen S (write S p tag fd bytes) reply U → IsPut T x.description o D held bytes n
    by_choice (own r f) = ended (subst (λ (V : State). IsPut V x.description o D held bytes n) (sym f)
        ((write_put S p tag o fd bytes held x D found_is leads has).put n (sym r ∙ counts)))
    by_choice (lacking_memory r may f) = let clash : Reply.Err Errno.ENOMEM ≡ Reply.Count n = sym r ∙ counts in absurd (cc clash)
    by_choice (failing r f) = let clash : Reply.Err Errno.EIO ≡ Reply.Count n = sym r ∙ counts in absurd (cc clash)

pub writes_put : WritesPut
writes_put boot es j n o e fd bytes held x D legal at request found_is leads has counts =
    step_put (before boot es j) (before boot es (suc j)) e.pid.0 j n o fd bytes held x D e.reply e.released found_is leads has
    (subst (λ (r : Request). Step (before boot es j) e.pid.0 j r e.reply e.released (before boot es (suc j))) request
    (moment boot es j e legal at).steps) counts

-- ---- any call

number_is : (o : ℕ) (x : Option ℕ) → is_number o x ≡ true → x ≡ Some o
number_is o None h = absurd (false≢true h)
number_is o (Some n) h = ap Some (eqb-true n o h)

-- what puts nothing into the file
no_put : (S : State) (o : ℕ) (bytes : List ℕ) (n : ℕ) (r : Option (Descriptor × Description)) →
    is_number o (elim r as (λ _. Option ℕ) [ None ↦ None | Some w ↦ object_of w.1.target ]) ≡ false → put_through S o bytes n r ≡ []
no_put S o bytes n None h = refl
no_put S o bytes n (Some w) h = by_kind w.1.target h
  where
    by_kind : (t : Target) → is_number o (object_of t) ≡ false →
        (elim t as (λ _. List Put) [
          | to_object k ↦ if k == o then record { start = write_start w.1 (size_in (body_at S o)); bytes = take n bytes } ∷ [] else []
          | to_socket s ↦ []
        ]) ≡ []
    by_kind (to_object k) h = ap (λ b. if b then record { start = write_start w.1 (size_in (body_at S o)); bytes = take n bytes } ∷ []
        else []) h
    by_kind (to_socket s) h = refl

no_count : (o : ℕ) (S : State) (p : ℕ) (request : Request) (reply : Reply) → is_count reply ≡ false → put_now o S p request reply ≡ []
no_count o S p (Request.Write fd bytes) reply h = by_reply reply h
  where
    by_reply : (r : Reply) → is_count r ≡ false → put_now o S p (Request.Write fd bytes) r ≡ []
    by_reply (Reply.Count n) h = absurd (false≢true (sym h))
    by_reply _ h = refl
no_count o S p _ reply h = refl

elsewhere : (o : ℕ) (S : State) (p : ℕ) (fd : Fd) (bytes : List ℕ) (reply : Reply) → is_number o (object_behind S p fd) ≡ false →
    put_now o S p (Request.Write fd bytes) reply ≡ []
elsewhere o S p fd bytes (Reply.Count n) h = no_put S o bytes n (if_found (find_description S p fd)) h
elsewhere o S p fd bytes _ h = refl

abbrev is_write : Request → Bool
is_write (Request.Write fd bytes) = true
is_write _ = false

no_write : (o : ℕ) (S : State) (p : ℕ) (request : Request) (reply : Reply) → is_write request ≡ false → put_now o S p request reply ≡ []
no_write o S p (Request.Write fd bytes) reply h = absurd (false≢true (sym h))
no_write o S p _ reply h = refl

-- what is in the file after a call, as it was or with what the call put there
abbrev Follows : ℕ → State → ℕ → Request → Reply → List ℕ → Body → Type 0
Follows o S p request reply held body = body ≡ memory (with_puts held (put_now o S p request reply))

none_put : (o : ℕ) (S : State) (p : ℕ) (request : Request) (reply : Reply) (held : List ℕ) (body : Body) →
    put_now o S p request reply ≡ [] → body ≡ memory held → Follows o S p request reply held body
none_put o S p request reply held body none is = is ∙ ap (λ (ws : List Put). memory (with_puts held ws)) (sym none)

-- a call that isn't a write to the file
untouched_then : (S U : State) (p o : ℕ) (request : Request) (held : List ℕ) (body : Body) → body_at S o ≡ Some (memory held) →
    ((fd : Fd) (bytes : List ℕ) → request ≡ Request.Write fd bytes → object_behind S p fd ≡ Some o → ⊥) → Touches S p request o U →
    body_at U o ≡ Some body → body ≡ memory held
untouched_then S U p o request held body has apart (untouched same) h =
    let both : Some body ≡ Some (memory held) = sym h ∙ same ∙ has in
    cc both
untouched_then S U p o request held body has apart (made_now new) h =
    let known = known_at_first S o (memory held) has in
    absurd (omega (arith, known, new))
untouched_then S U p o request held body has apart (written_through fd added d D asked g k t may) h =
    absurd (apart fd added asked (leads_behind S p fd o (record { entry = d; description = D; held = g; there = k; leads = t })))
untouched_then S U p o request held body has apart (read_from fd n d D view asked g k t may there kind) h =
    let both : Some view.body ≡ Some (memory held) = sym (ap body_in there) ∙ has in
    let one : view.body ≡ memory held = cc both in
    absurd (false≢true (sym kind ∙ ap is_memory one))

-- what a number that leads to the file finds
leads_found : (S : State) (p o : ℕ) (fd : Fd) (l : LeadsToObject S p fd o) → find_description S p fd ≡ Ok (l.entry, l.description)
leads_found S p o fd l =
    ap (λ (x : Option Descriptor). elim x as (λ _. Result (Descriptor × Description) Errno) [
      | None ↦ Err Errno.EBADF
      | Some e ↦ elim (description_at S e.description) as
          (λ _. Result (Descriptor × Description) Errno) [ None ↦ Err Errno.EBADF | Some D ↦ Ok (e, D) ]
    ]) l.held
    ∙ ap (λ (x : Option Description). elim x as
    (λ _. Result (Descriptor × Description) Errno) [ None ↦ Err Errno.EBADF | Some D ↦ Ok (l.entry, D) ]) l.there

-- and what a write through it puts
the_put : (S : State) (p o : ℕ) (fd : Fd) (bytes held : List ℕ) (reply : Reply) (n : ℕ) (l : LeadsToObject S p fd o) →
    body_at S o ≡ Some (memory held) → reply ≡ Reply.Count n →
    put_now o S p (Request.Write fd bytes) reply ≡ record { start = write_start l.description (length held); bytes = take n bytes } ∷ []
the_put S p o fd bytes held reply n l has counts =
    ap (put_now o S p (Request.Write fd bytes)) counts
    ∙ ap (λ (r : Result (Descriptor × Description) Errno). put_through S o bytes n (if_found r)) (leads_found S p o fd l)
    ∙ ap of_target l.leads ∙ ap of_same (eq-eqb o o refl) ∙ ap (λ (x : Option Body). one_put (size_in x) ∷ []) has
  where
    one_put : ℕ → Put
    one_put size = record { start = write_start l.description size; bytes = take n bytes }

    of_same : Bool → List Put
    of_same b = if b then one_put (size_in (body_at S o)) ∷ [] else []

    of_target : Target → List Put
    of_target t = elim t as (λ _. List Put) [ to_object k ↦ of_same (k == o) | to_socket s ↦ [] ]

count_is : (reply : Reply) → is_count reply ≡ true → (n : ℕ) × (reply ≡ Reply.Count n)
count_is (Reply.Count n) h = (n, refl)
count_is _ h = absurd (false≢true h)

-- a write
write_follows : (S U : State) (p tag o : ℕ) (fd : Fd) (bytes held : List ℕ) (reply : Reply) (body : Body) →
    body_at S o ≡ Some (memory held) → Chosen S (outcome S p tag (Request.Write fd bytes)) reply U →
    body_at U o ≡ Some body → Follows o S p (Request.Write fd bytes) reply held body
unfolding outcome
write_follows S U p tag o fd bytes held reply body has chosen h = bool_cases (is_number o (object_behind S p fd))
    (λ b. by_choice (behind_leads S p fd o (number_is o (object_behind S p fd) b)) chosen)
    (λ b. none_put o S p (Request.Write fd bytes) reply held body (elsewhere o S p fd bytes reply b)
    (untouched_then S U p o (Request.Write fd bytes) held body has
    (λ f added asked behind.
    let one : fd ≡ f = fd_same asked in
    false≢true (sym b ∙ ap (λ (g : Fd). is_number o (object_behind S p g)) one ∙ ap (is_number o) behind ∙ eq-eqb o o refl))
    ((chosen_files S U p (Request.Write fd bytes) reply (outcome S p tag (Request.Write fd bytes))
    (each_files S p tag (Request.Write fd bytes)) (each_obeys S p tag (Request.Write fd bytes)) chosen).bodies o) h))
  where
    fd_same : {a b : Fd} {x y : List ℕ} → Request.Write a x ≡ Request.Write b y → a ≡ b
    fd_same h = cc h

    same_then : body_at U o ≡ body_at S o → body ≡ memory held
    same_then e = let both : Some body ≡ Some (memory held) = sym h ∙ e ∙ has in cc both

    refused_then : body_at U o ≡ body_at S o → is_count reply ≡ false → Follows o S p (Request.Write fd bytes) reply held body
    refused_then e c = none_put o S p (Request.Write fd bytes) reply held body (no_count o S p (Request.Write fd bytes) reply c) (same_then e)

    by_choice : LeadsToObject S p fd o → Chosen S (write S p tag fd bytes) reply U →
        Follows o S p (Request.Write fd bytes) reply held body
    by_choice l (own r f) =
        let w = write_put S p tag o fd bytes held l.entry l.description (leads_found S p o fd l) l.leads has in
        bool_cases (is_count reply)
        (λ c.
        let n = count_is reply c in
        (w.put n.0 (sym r ∙ n.1)).left body (ap (λ (V : State). body_at V o) (sym f) ∙ h)
        ∙ ap (λ (ws : List Put). memory (with_puts held ws)) (sym (the_put S p o fd bytes held reply n.0 l has n.1)))
        (λ c. refused_then (ap (λ (V : State). body_at V o) f ∙ w.kept_else (sym (ap is_count r) ∙ c)) c)
    by_choice l (lacking_memory r may f) = refused_then (ap (λ (V : State). body_at V o) f) (ap is_count r)
    by_choice l (failing r f) =
        let one = ((each_obeys S p tag (Request.Write fd bytes)).failed U f).0 in
        refused_then (put_alike S U one.object o one.view (after_failure one.view) one.there refl (ap (λ (V : State). V.objects) one.left))
        (ap is_count r)

is_one : (request : Request) → is_write request ≡ true → (fd : Fd) × (bytes : List ℕ) × (request ≡ Request.Write fd bytes)
is_one (Request.Write fd bytes) h = (fd, bytes, refl)
is_one request h = absurd (false≢true h)

step_follows : (S T : State) (p tag o : ℕ) (request : Request) (held : List ℕ) (reply : Reply) (gone : List ℕ) (body : Body) →
    body_at S o ≡ Some (memory held) → Step S p tag request reply gone T → body_at T o ≡ Some body →
    Follows o S p request reply held body
unfolding Step
step_follows S T p tag o request held reply gone body has step h = bool_cases (is_write request)
    (λ b.
    let w = is_one request b in
    subst (λ (r : Request). Follows o S p r reply held body) (sym w.2)
    (write_follows S step.0 p tag o w.0 w.1 held reply body has
    (subst (λ (r : Request). Chosen S (outcome S p tag r) reply step.0) w.2 step.1) before_end))
    (λ b. none_put o S p request reply held body (no_write o S p request reply b)
    (untouched_then S step.0 p o request held body has (λ fd bytes is behind. false≢true (sym b ∙ ap is_write is))
    ((chosen_files S step.0 p request reply (outcome S p tag request) (each_files S p tag request) (each_obeys S p tag request)
    step.1).bodies o) before_end))
  where
    before_end : body_at step.0 o ≡ Some body
    before_end = settled_body step.0 o body (ap (λ (V : State). body_at V o) (sym step.3) ∙ h)

-- ---- in a history

objects_more : (boot : State) (es : List Entry) (j k : ℕ) → IsLegal boot es → j ≤ k → k ≤ length es →
    length (before boot es j).objects ≤ length (before boot es k).objects
objects_more boot es j zero legal low within = let at : j ≡ zero = omega (arith, low) in
    subst (λ (i : ℕ). length (before boot es i).objects ≤ length (before boot es zero).objects) (sym at) (omega arith)
objects_more boot es j (suc k) legal low within = bool_cases (j == suc k)
    (λ b. subst (λ (i : ℕ). length (before boot es i).objects ≤ length (before boot es (suc k)).objects) (sym (eqb-true j (suc k) b))
    (omega arith))
    (λ b.
    let ne = eqb-false j (suc k) b in
    let x = get_within es k (omega (arith, within)) in
    let so_far = objects_more boot es j k legal (omega (arith, low, ne)) (omega (arith, within)) in
    let one = these_alone_make_objects (before boot es k) (before boot es (suc k)) x.0.pid.0 k x.0.request x.0.reply x.0.released
    (moment boot es k x.0 legal x.1).steps in
    omega (arith, so_far, one))

-- a file that was made before a call, and is there after it, was there before it
file_was : (boot : State) (es : List Entry) (k o : ℕ) (e : Entry) (body : Body) → IsLegal boot es → slice_get es k ≡ Some e →
    o < length (before boot es k).objects → body_at (before boot es (suc k)) o ≡ Some body →
    (old : Body) × (body_at (before boot es k) o ≡ Some old)
file_was boot es k o e body legal at known now =
    let s = step_files (before boot es k) (before boot es (suc k)) e.pid.0 k e.request e.reply e.released (moment boot es k e legal at).steps in
    by_touch s.0 (s.1.bodies o) (s.2 o body now)
  where
    S : State
    S = before boot es k

    opened : (x : Option View) → place S.objects o ≡ x → is_open x ≡ true → (old : Body) × (body_at S o ≡ Some old)
    opened None is h = absurd (false≢true h)
    opened (Some view) is h = (view.body, ap body_in is)

    by_touch : (U : State) → Touches S e.pid.0 e.request o U → body_at U o ≡ Some body → (old : Body) × (body_at S o ≡ Some old)
    by_touch U (untouched same) h = (body, sym same ∙ h)
    by_touch U (made_now new) h = absurd (omega (arith, known, new))
    by_touch U (written_through fd added d D asked g there t may) h = opened (place S.objects o) refl
        ((nothing_dangles boot (take k es) (front_is_legal boot es k legal)).descriptions_lead d.description o D there t)
    by_touch U (read_from fd n d D view asked g there t may is kind) h = (view.body, ap body_in is)

-- calls before number j put nothing
early_put : (j o n : ℕ) (S : State) (es : List Entry) → n + length es ≤ j →
    gather_from (λ i V e. if nat_le j i then put_now o V e.pid.0 e.request e.reply else []) n S es ≡ []
early_put j o n S [] few = refl
early_put j o n S (e ∷ es) few =
    let early = lt-leb j n (omega (arith, few)) in
    ap (λ b. (if b then put_now o S e.pid.0 e.request e.reply else []) ++ gather_from
    (λ i V x. if nat_le j i then put_now o V x.pid.0 x.request x.reply else []) (n + 1) (after S e.pid.0 n e.request e.reply) es) early
    ∙ early_put j o (n + 1) (after S e.pid.0 n e.request e.reply) es (omega (arith, few))

puts_joined : (held : List ℕ) (xs ys : List Put) → with_puts held (xs ++ ys) ≡ with_puts (with_puts held xs) ys
puts_joined held [] ys = refl
puts_joined held (x ∷ xs) ys = puts_joined (with_put held x.start x.bytes) xs ys

-- what one more call puts
puts_next : (boot : State) (es : List Entry) (j k o : ℕ) (e : Entry) → j ≤ k → slice_get es k ≡ Some e →
    puts_since j o boot (take (suc k) es) ≡ puts_since j o boot (take k es) ++ put_now o (before boot es k) e.pid.0 e.request e.reply
puts_next boot es j k o e low at =
    let below = get_below es k e at in
    ap (puts_since j o boot) (take_next es k e at)
    ∙ gathered_push (λ i V x. if nat_le j i then put_now o V x.pid.0 x.request x.reply else []) boot (take k es) e
    ∙ ap (λ i. puts_since j o boot (take k es) ++ (if nat_le j i then put_now o (before boot es k) e.pid.0 e.request e.reply else []))
    (length_front es k (omega (arith, below)))
    ∙ ap (λ b. puts_since j o boot (take k es) ++ (if b then put_now o (before boot es k) e.pid.0 e.request e.reply else []))
    (le-leb j k low)

-- at the moment itself
at_once : (boot : State) (es : List Entry) (j k o : ℕ) (held : List ℕ) (body : Body) → j ≡ k →
    body_at (before boot es j) o ≡ Some (memory held) → body_at (before boot es k) o ≡ Some body → body ≡ memory held
at_once boot es j k o held body at has now =
    let both : Some body ≡ Some (memory held) = sym now ∙ sym (ap (λ (i : ℕ). body_at (before boot es i) o) at) ∙ has in
    cc both

-- none was put then
put_none_yet : (boot : State) (es : List Entry) (j k o : ℕ) (held : List ℕ) → j ≡ k →
    memory held ≡ memory (with_puts held (puts_since j o boot (take k es)))
put_none_yet boot es j k o held at =
    let long = length-take k es in
    ap (λ (ws : List Put). memory (with_puts held ws)) (sym (early_put j o 0 boot (take k es) (omega (arith, long, at))))

pub files_are_their_writes : FilesAreTheirWrites
files_are_their_writes boot es j zero o held body legal low within has now =
    let at : j ≡ zero = omega (arith, low) in
    at_once boot es j zero o held body at has now ∙ put_none_yet boot es j zero o held at
files_are_their_writes boot es j (suc k) o held body legal low within has now = bool_cases (j == suc k)
    (λ b.
    let at = eqb-true j (suc k) b in
    at_once boot es j (suc k) o held body at has now ∙ put_none_yet boot es j (suc k) o held at)
    (λ b.
    let ne = eqb-false j (suc k) b in
    let x = get_within es k (omega (arith, within)) in
    let e : Entry = x.0 in
    let known = known_at_first (before boot es j) o (memory held) has in
    let more = objects_more boot es j k legal (omega (arith, low, ne)) (omega (arith, within)) in
    let old = file_was boot es k o e body legal x.1 (omega (arith, known, more)) now in
    let so_far = files_are_their_writes boot es j k o held old.0 legal (omega (arith, low, ne)) (omega (arith, within)) has old.1 in
    let was : List ℕ = with_puts held (puts_since j o boot (take k es)) in
    step_follows (before boot es k) (before boot es (suc k)) e.pid.0 k o e.request was e.reply e.released body
    (old.1 ∙ ap (λ (b : Body). Some b) so_far) (moment boot es k e legal x.1).steps now
    ∙ ap (λ (l : List ℕ). memory l) (sym (puts_joined held (puts_since j o boot (take k es))
    (put_now o (before boot es k) e.pid.0 e.request e.reply)))
    ∙ ap (λ (ws : List Put). memory (with_puts held ws)) (sym (puts_next boot es j k o e (omega (arith, low, ne)) x.1)))

-- ---- each byte

get_joined : (xs ys : List ℕ) (i b : ℕ) → slice_get (xs ++ ys) i ≡ Some b →
    (slice_get xs i ≡ Some b) ⊎ ((k : ℕ) × (i ≡ length xs + k) × (slice_get ys k ≡ Some b))
get_joined [] ys i b h = inr (i, omega arith, h)
get_joined (x ∷ xs) ys zero b h = inl h
get_joined (x ∷ xs) ys (suc i) b h = ⊎_elim
    {C = (slice_get (x ∷ xs) (suc i) ≡ Some b) ⊎ ((k : ℕ) × (suc i ≡ length (x ∷ xs) + k) × (slice_get ys k ≡ Some b))}
    (λ g. inl g) (λ w. let at = w.1 in inr (w.0, omega (arith, at), w.2)) (get_joined xs ys i b h)

get_taken : (n : ℕ) (xs : List ℕ) (i b : ℕ) → slice_get (take n xs) i ≡ Some b → slice_get xs i ≡ Some b
get_taken zero [] i b h = absurd (cc h)
get_taken (suc n) [] i b h = absurd (cc h)
get_taken zero (x ∷ xs) i b h = absurd (cc h)
get_taken (suc n) (x ∷ xs) zero b h = h
get_taken (suc n) (x ∷ xs) (suc i) b h = get_taken n xs i b h

get_dropped : (n : ℕ) (xs : List ℕ) (i b : ℕ) → slice_get (drop n xs) i ≡ Some b → (k : ℕ) × (k ≡ n + i) × (slice_get xs k ≡ Some b)
get_dropped zero [] i b h = absurd (cc h)
get_dropped (suc n) [] i b h = absurd (cc h)
get_dropped zero (x ∷ xs) i b h = (i, omega arith, h)
get_dropped (suc n) (x ∷ xs) i b h = let w = get_dropped n xs i b h in let at = w.1 in (suc w.0, omega (arith, at), w.2)

get_zero : (n i b : ℕ) → slice_get (replicate n 0) i ≡ Some b → b ≡ 0
get_zero zero i b h = absurd (cc h)
get_zero (suc n) zero b h = let zero_is : 0 ≡ b = cc h in sym zero_is
get_zero (suc n) (suc i) b h = get_zero n i b h

-- one byte of what was put over others: it stood there, fills a gap, or is one that was put
abbrev FromPut : List ℕ → List ℕ → ℕ → ℕ → Type 0
FromPut held added i b = (slice_get held i ≡ Some b) ⊎ ((b ≡ 0) ⊎ ((k : ℕ) × (slice_get added k ≡ Some b)))

put_byte : (held : List ℕ) (start : ℕ) (added : List ℕ) (i b : ℕ) → slice_get (with_put held start added) i ≡ Some b →
    FromPut held added i b
put_byte held start [] i b h = inl h
put_byte held start (x ∷ xs) i b h = ⊎_elim {C = FromPut held added i b}
    (λ g. ⊎_elim {C = FromPut held added i b}
    (λ f. ⊎_elim {C = FromPut held added i b} (λ e. inl (get_taken start held i b e))
    (λ w. inr (inl (get_zero (start - length held) w.0 b w.2))) (get_joined front gap_bytes i b f))
    (λ w. inr (inr (w.0, w.2))) (get_joined (front ++ gap_bytes) added i b g))
    (λ w.
    let t = get_dropped (start + length added) held w.0 b w.2 in
    let place = w.1 in
    let stood = t.1 in
    let first : ◌≡◌ {A = ℕ} (length front) (min start (length held)) = length-take start held in
    let second : ◌≡◌ {A = ℕ} (length gap_bytes) (start - length held) = length-replicate (start - length held) 0 in
    let two = length-append front gap_bytes in
    let three = length-append (front ++ gap_bytes) added in
    let same : ◌≡◌ {A = ℕ} t.0 i = omega (arith, place, stood, first, second, two, three) in
    inl (ap (λ (k : ℕ). slice_get held k) (sym same) ∙ t.2))
    (get_joined (front ++ gap_bytes ++ added) (drop (start + length added) held) i b h)
  where
    added : List ℕ
    added = x ∷ xs

    front : List ℕ
    front = take start held

    gap_bytes : List ℕ
    gap_bytes = replicate (start - length held) 0

later : (boot : State) (es : List Entry) (j k o : ℕ) (held : List ℕ) (i b : ℕ) → CameFrom boot es j k o held i b →
    CameFrom boot es j (suc k) o held i b
later boot es j k o held i b (kept h) = kept h
later boot es j k o held i b (gap h) = gap h
later boot es j k o held i b (written c at e fd bytes low less there asked behind way is) =
    written c at e fd bytes low (omega (arith, less)) there asked behind way is

-- a byte after a write to the file, where those before came from somewhere
byte_put : (boot : State) (es : List Entry) (j k o : ℕ) (held was now : List ℕ) (e : Entry) (fd : Fd) (bytes : List ℕ) (i b : ℕ) →
    j ≤ k → slice_get es k ≡ Some e → e.request ≡ Request.Write fd bytes → object_behind (before boot es k) e.pid.0 fd ≡ Some o →
    HasWay boot (take k es) can_write o e.pid.0 fd.0 → body_at (before boot es k) o ≡ Some (memory was) →
    memory now ≡ memory (with_puts was (put_now o (before boot es k) e.pid.0 e.request e.reply)) → slice_get now i ≡ Some b →
    (slice_get was i ≡ Some b → CameFrom boot es j k o held i b) → CameFrom boot es j (suc k) o held i b
byte_put boot es j k o held was now e fd bytes i b low at asked behind way has is stands before_k = bool_cases (is_count e.reply)
    (λ c.
    let n = count_is e.reply c in
    let l = behind_leads S e.pid.0 fd o behind in
    let puts = ap (λ (r : Request). put_now o S e.pid.0 r e.reply) asked ∙ the_put S e.pid.0 o fd bytes was e.reply n.0 l has n.1 in
    let all : memory now ≡ memory (with_put was (write_start l.description (length was)) (take n.0 bytes)) =
    is ∙ ap (λ (ws : List Put). memory (with_puts was ws)) puts in
    let one : now ≡ with_put was (write_start l.description (length was)) (take n.0 bytes) = cc all in
    ⊎_elim {C = CameFrom boot es j (suc k) o held i b} old
    (λ new. ⊎_elim {C = CameFrom boot es j (suc k) o held i b} (λ z. gap z)
    (λ w. written k w.0 e fd bytes low (omega arith) at asked behind way (get_taken n.0 bytes w.0 b w.1)) new)
    (put_byte was (write_start l.description (length was)) (take n.0 bytes) i b (sym (ap (λ (x : List ℕ). slice_get x i) one) ∙ stands)))
    (λ c.
    let all : memory now ≡ memory was =
    is ∙ ap (λ (ws : List Put). memory (with_puts was ws)) (no_count o S e.pid.0 e.request e.reply c) in
    let one : now ≡ was = cc all in
    old (sym (ap (λ (x : List ℕ). slice_get x i) one) ∙ stands))
  where
    S : State
    S = before boot es k

    old : slice_get was i ≡ Some b → CameFrom boot es j (suc k) o held i b
    old h = later boot es j k o held i b (before_k h)

pub bytes_have_a_way : BytesHaveAWay
bytes_have_a_way boot es j zero o i b held now legal low within has is stands =
    let all = at_once boot es j zero o held (memory now) (omega (arith, low)) has is in
    let one : now ≡ held = cc all in
    kept (sym (ap (λ (x : List ℕ). slice_get x i) one) ∙ stands)
bytes_have_a_way boot es j (suc k) o i b held now legal low within has is stands = bool_cases (j == suc k)
    (λ c.
    let all = at_once boot es j (suc k) o held (memory now) (eqb-true j (suc k) c) has is in
    let one : now ≡ held = cc all in
    kept (sym (ap (λ (x : List ℕ). slice_get x i) one) ∙ stands))
    (λ c.
    let ne = eqb-false j (suc k) c in
    let low_k : j ≤ k = omega (arith, low, ne) in
    let within_k : k ≤ length es = omega (arith, within) in
    let x = get_within es k (omega (arith, within)) in
    let e : Entry = x.0 in
    let known = known_at_first (before boot es j) o (memory held) has in
    let more = objects_more boot es j k legal low_k within_k in
    let old = file_was boot es k o e (memory now) legal x.1 (omega (arith, known, more)) is in
    let was : List ℕ = with_puts held (puts_since j o boot (take k es)) in
    let so_far = files_are_their_writes boot es j k o held old.0 legal low_k within_k has old.1 in
    let there : body_at (before boot es k) o ≡ Some (memory was) = old.1 ∙ ap (λ (y : Body). Some y) so_far in
    let before_k : slice_get was i ≡ Some b → CameFrom boot es j k o held i b =
    λ h. bytes_have_a_way boot es j k o i b held was legal low_k within_k has there h in
    by_change boot es j k o i b held was now e low_k x.1 there
    (step_follows (before boot es k) (before boot es (suc k)) e.pid.0 k o e.request was e.reply e.released (memory now) there
    (moment boot es k e legal x.1).steps is) stands before_k
    (changes_have_a_way boot es k o e (memory was) (memory now) legal x.1 there is))
  where
    by_change : (boot : State) (es : List Entry) (j k o i b : ℕ) (held was now : List ℕ) (e : Entry) → j ≤ k → slice_get es k ≡ Some e →
        body_at (before boot es k) o ≡ Some (memory was) →
        memory now ≡ memory (with_puts was (put_now o (before boot es k) e.pid.0 e.request e.reply)) → slice_get now i ≡ Some b →
        (slice_get was i ≡ Some b → CameFrom boot es j k o held i b) →
        (memory now ≡ memory was) ⊎ IsChange boot es k e o (memory was) → CameFrom boot es j (suc k) o held i b
    by_change boot es j k o i b held was now e low at there follows stands before_k (inl same) =
        let one : now ≡ was = cc same in
        later boot es j k o held i b (before_k (sym (ap (λ (x : List ℕ). slice_get x i) one) ∙ stands))
    by_change boot es j k o i b held was now e low at there follows stands before_k (inr (by_write fd bytes asked behind way)) =
        byte_put boot es j k o held was now e fd bytes i b low at asked behind way there follows stands before_k
    by_change boot es j k o i b held was now e low at there follows stands before_k (inr (by_read fd n asked kind behind way)) =
        absurd (false≢true (sym kind))

-- ---- descriptions

leads_there : (S : State) (d o : ℕ) (D : Description) → description_at S d ≡ Some D → D.target ≡ to_object o → Leads S d (o, D.mode)
leads_there S d o D here is = ap (λ x. (glance x).1) here ∙ ap (λ (u : Target). (glance_target D.mode u).1) is

same_mode_is : (mode : Mode) → same_mode mode mode ≡ true
same_mode_is Mode.Read = refl
same_mode_is Mode.Write = refl
same_mode_is Mode.Both = refl

pub modes_are_asked : ModesAreAsked
modes_are_asked boot es p o fd x D legal is leads =
    let f = found_there (replay boot es) p fd x D is in
    way_there boot es (same_mode D.mode) o p fd x D legal f.held f.there leads (same_mode_is D.mode)

pub modes_stay : ModesStay
modes_stay boot es j k d o D E legal low within here is there = by_target E.target refl
  where
    known : d < length (before boot es j).descriptions
    known = place_within (before boot es j).descriptions d D here

    by_target : (t : Target) → E.target ≡ t → StaysOpen o D.mode E
    by_target (to_object q) leads =
        let was = led_before boot es j k d (q, E.mode) legal low within known (leads_there (before boot es k) d q E there leads) in
        let both : Some (q, E.mode) ≡ Some (o, D.mode) = sym was ∙ leads_there (before boot es j) d o D here is in
        let pairs : (q, E.mode) ≡ (o, D.mode) = cc both in
        record {
          leads = leads ∙ ap (λ (x : ℕ × Mode). to_object x.0) pairs;
          mode_kept = ap (λ (x : ℕ × Mode). x.1) pairs;
        }
    by_target (to_socket s) leads =
        let was = socket_before boot es j k d s legal low within known (ap socket_in there ∙ ap socket_of leads) in
        let clash : Some was.0 ≡ None = sym was.1 ∙ ap socket_in here ∙ ap socket_of is in
        absurd (cc clash)
