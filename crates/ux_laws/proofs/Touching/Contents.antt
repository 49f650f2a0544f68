-- What a call does to what is in a file object.
use Rattle.std.proofs.Common.{◌++◌, [], ◌∷◌, ◌≤◌, ⊎_elim, arith, ◌≡◌, ℕ, ◌==◌, Bool, true, false, not, ◌&&◌, List, length}
use Rattle.std.proofs.Common.{min, Option, Some, None, Result, Ok, Err, refl, ap, sym, ◌∙◌}
use Rattle.std.proofs.lemmas.Bool.{eqb-true, eqb-false, false≢true}
use Rattle.std.proofs.lemmas.List.{get_or-set_other}
use Rattle.ux_model.specs.Types.{Fd, Request}
use Rattle.ux_model.specs.Places.{place, filled}
use Rattle.ux_model.specs.Limits.{read_limit}
use Rattle.ux_model.specs.Flags.{can_read, can_write, no_flags}
use Rattle.ux_model.specs.Object.{Body, View, memory, counter, pipe, ObjectError, would_block, full, invalid, read_body, write_body}
use Rattle.ux_model.specs.Object.{is_memory, is_pipe, with_body}
use Rattle.ux_model.specs.Description.{Description, to_object, socket_of, socket_in}
use Rattle.ux_model.specs.Process.{Descriptor, own_cred}
use Rattle.ux_model.specs.State.{State, process_at, description_at}
use Rattle.ux_model.specs.Outcome.{Outcome, descriptor_at}
use Rattle.ux_model.specs.Sending.{flight_limit, sending, message_of}
use Rattle.ux_model.specs.Receiving.{incoming}
use Rattle.ux_model.specs.FileObjects.{holds_bytes, is_open_for}
use Rattle.ux_model.specs.Reading.{read, read_answer, is_short_read}
use Rattle.ux_model.specs.Writing.{write, write_answer, write_place}
use Rattle.ux_model.proofs.Changes.Walk.{either, maybe, by_target, found}
use Rattle.ux_model.proofs.Changes.Reaching.{tables_alone, objects_stay}
use Rattle.ux_model.proofs.Changes.Obeying.{Call}
use Rattle.ux_model.proofs.Steps.MessageCalls.{flight_limit_is, from_obeys, receive_obeys}
use Rattle.ux_model.proofs.Lists.ChangedPlaces.{bool_cases}
use Rattle.ux_model.proofs.Lists.OnePlace.{same_at, pushed_or_same}
use Rattle.ux_laws.specs.Files.{body_in, body_at}

-- what a call does to what is in file object o
pub data Touches (S : State) (p : ℕ) (request : Request) (o : ℕ) (U : State) : Type 0 where
  untouched : body_at U o ≡ body_at S o → Touches S p request o U
  -- one that the call made
  made_now : length S.objects ≤ o → Touches S p request o U
  written : (fd : Fd) (bytes : List ℕ) (e : Descriptor) (D : Description) → request ≡ Request.Write fd bytes →
      descriptor_at S p fd ≡ Some e → description_at S e.description ≡ Some D → D.target ≡ to_object o →
      can_write D.mode ≡ true → Touches S p request o U
  read_from : (fd : Fd) (n : ℕ) (e : Descriptor) (D : Description) (view : View) → request ≡ Request.Read fd n →
      descriptor_at S p fd ≡ Some e → description_at S e.description ≡ Some D → D.target ≡ to_object o →
      can_read D.mode ≡ true → place S.objects o ≡ Some view → is_memory view.body ≡ false → Touches S p request o U

pub same_body : (S U : State) (o : ℕ) → U.objects ≡ S.objects → body_at U o ≡ body_at S o
same_body S U o h = ap (λ (os : List (Option View)). body_in (place os o)) h

-- one more
pub pushed_touches : {S : State} {p : ℕ} {request : Request} {U : State} (o : ℕ) (new : View) → U.objects ≡ S.objects ++ Some new ∷ [] →
    Touches S p request o U
pushed_touches {S} {p} {request} {U} o new is = ⊎_elim {C = Touches S p request o U}
    (λ same. untouched (ap (λ (os : List (Option View)). body_in (place os o)) is ∙ ap body_in same))
    (λ last. made_now (omega (arith, last)))
    (pushed_or_same S.objects (Some new) o)

-- what a message leaves as it was
by_message : {S : State} {p : ℕ} {request : Request} {o : ℕ} (x : Outcome) → Call S x → Touches S p request o x.next
by_message {S} {p} {request} {o} x obeys =
    untouched (same_body S x.next o (objects_stay S tables_alone x.next refl refl obeys.reached))

not_false : (b : Bool) → not b ≡ false → b ≡ true
not_false true h = refl
not_false false h = absurd (false≢true (sym h))

-- the object with this number gets another view
put_body : (S U : State) (k o : ℕ) (new : View) → U.objects ≡ filled S.objects k new → (k == o) ≡ false → body_at U o ≡ body_at S o
put_body S U k o new is other = ap (λ (os : List (Option View)). body_in (place os o)) is
    ∙ ap body_in (get_or-set_other S.objects k o (Some new) None (λ e. eqb-false k o other (sym e)))

pub put_alike : (S U : State) (k o : ℕ) (old new : View) → place S.objects k ≡ Some old → new.body ≡ old.body →
    U.objects ≡ filled S.objects k new → body_at U o ≡ body_at S o
put_alike S U k o old new there alike_body is = ap (λ (os : List (Option View)). body_in (place os o)) is
    ∙ same_at body_in S.objects k o (Some new) (ap Some alike_body ∙ sym (ap body_in there))

read_keeps : (body : Body) (at n : ℕ) (found : List ℕ × Body) → is_memory body ≡ true → read_body body at n ≡ Ok found → found.1 ≡ body
read_keeps (memory bytes) at n found h is =
    ap (λ (r : Result (List ℕ × Body) ObjectError). elim r as (λ _. Body) [ Err e ↦ memory bytes | Ok f ↦ f.1 ]) (sym is)
read_keeps (counter semaphore value) at n found h is = absurd (false≢true h)
read_keeps (pipe bytes) at n found h is = absurd (false≢true h)

pub read_touches : (S : State) (p : ℕ) (fd : Fd) (n o : ℕ) → Touches S p (Request.Read fd n) o (read S p fd n).next
unfolding read
read_touches S p fd n o = found Q S p fd _ (untouched refl) (λ e D g h. by_target Q D.target _ _
    (λ k t. maybe Q (place S.objects k) _ _ (untouched refl) (λ view there. either Q (not (can_read D.mode)) _ _ (λ b. untouched refl)
    (λ b. either Q (is_short_read view.body (min read_limit n)) _ _ (λ c. untouched refl)
    (λ c. either Q (holds_bytes view.body && (min read_limit n == 0)) _ _ (λ c. untouched refl)
    (λ c. by_answer k e D view g h t there (not_false (can_read D.mode) b) (read_body view.body D.offset (min read_limit n)) refl)))))
    (λ s t. by_message _ (receive_obeys S p e.description s (incoming (min read_limit n) 0 no_flags)
    (ap socket_in h ∙ ap socket_of t))))
  where
    Q : Outcome → Type 0
    Q x = Touches S p (Request.Read fd n) o x.next

    by_answer : (k : ℕ) (e : Descriptor) (D : Description) (view : View) → descriptor_at S p fd ≡ Some e →
        description_at S e.description ≡ Some D → D.target ≡ to_object k → place S.objects k ≡ Some view → can_read D.mode ≡ true →
        (r : Result (List ℕ × Body) ObjectError) → read_body view.body D.offset (min read_limit n) ≡ r →
        Q (read_answer S e.description D k view r)
    by_answer k e D view g h t there may (Ok found) is = bool_cases (k == o)
        (λ same. bool_cases (is_memory view.body)
        (λ m. untouched (put_alike S (read_answer S e.description D k view (Ok found)).next k o view (with_body view found.1) there
        (read_keeps view.body D.offset (min read_limit n) found m is) refl))
        (λ m.
        let at : k ≡ o = eqb-true k o same in
        read_from fd n e D view refl g h (t ∙ ap to_object at) may (ap (λ (i : ℕ). place S.objects i) (sym at) ∙ there) m))
        (λ other. untouched (put_body S (read_answer S e.description D k view (Ok found)).next k o (with_body view found.1) refl other))
    by_answer k e D view g h t there may (Err would_block) is =
        either Q (is_pipe view.body && not (is_open_for can_write S k)) _ _ (λ b. untouched refl) (λ b. untouched refl)
    by_answer k e D view g h t there may (Err full) is = untouched refl
    by_answer k e D view g h t there may (Err invalid) is = untouched refl

pub write_touches : (S : State) (p tag : ℕ) (fd : Fd) (bytes : List ℕ) (o : ℕ) →
    Touches S p (Request.Write fd bytes) o (write S p tag fd bytes).next
unfolding write
write_touches S p tag fd bytes o = found Q S p fd _ (untouched refl) (λ e D g h. by_target Q D.target _ _
    (λ k t. maybe Q (place S.objects k) _ _ (untouched refl) (λ view there. either Q (not (can_write D.mode)) _ _ (λ b. untouched refl)
    (λ b. either Q (holds_bytes view.body && (length bytes == 0)) _ _ (λ c. untouched refl)
    (λ c. either Q (is_pipe view.body && not (is_open_for can_read S k)) _ _ (λ c. untouched refl)
    (λ c. by_answer k e D view g h t there (not_false (can_write D.mode) b) (write_body view.body (write_place D view) bytes))))))
    (λ s t. maybe Q (process_at S p) _ _ (untouched refl) (λ P here. by_message _
    (from_obeys S (flight_limit P) e.description s None (message_of (sending tag p P None bytes) (own_cred p P) [])
    (ap socket_in h ∙ ap socket_of t) (λ sound k gone. refl, flight_limit_is S p P here, omega arith, λ bounded. omega arith)))))
  where
    Q : Outcome → Type 0
    Q x = Touches S p (Request.Write fd bytes) o x.next

    by_answer : (k : ℕ) (e : Descriptor) (D : Description) (view : View) → descriptor_at S p fd ≡ Some e →
        description_at S e.description ≡ Some D → D.target ≡ to_object k → place S.objects k ≡ Some view → can_write D.mode ≡ true →
        (r : Result (ℕ × Body) ObjectError) → Q (write_answer S e.description D k view r)
    by_answer k e D view g h t there may (Ok made) = bool_cases (k == o)
        (λ same. written fd bytes e D refl g h (t ∙ ap to_object (eqb-true k o same)) may)
        (λ other. untouched (put_body S (write_answer S e.description D k view (Ok made)).next k o (with_body view made.1) refl other))
    by_answer k e D view g h t there may (Err would_block) = untouched refl
    by_answer k e D view g h t there may (Err full) = untouched refl
    by_answer k e D view g h t there may (Err invalid) = untouched refl

pub record NamesSame (S U : State) : Type 0 where
  pub paths : U.paths ≡ S.paths
  pub abstracts : U.abstract_names ≡ S.abstract_names
