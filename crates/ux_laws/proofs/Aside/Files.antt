-- Reads, writes and lseek agree.
use Rattle.std.proofs.Common.{◌≡◌, ℕ, ◌+◌, min, ◌==◌, Bool, true, false, not, ◌&&◌, if◌then◌else◌, List, [], length, Option}
use Rattle.std.proofs.Common.{Some}
use Rattle.std.proofs.Common.{None, Result, Ok, Err, refl, ap, sym, ◌∙◌, subst}
use Rattle.std.specs.Prelude.{nat_lt, ℤ, pos, negsuc, ◌+ℤ◌}
use Rattle.ux_model.specs.Types.{Errno, Fd, Whence}
use Rattle.ux_model.specs.Places.{place}
use Rattle.ux_model.specs.Limits.{read_limit, offset_limit}
use Rattle.ux_model.specs.Flags.{can_read, can_write}
use Rattle.ux_model.specs.Object.{Body, View, ObjectError, would_block, full, invalid, read_body, write_body, is_memory, is_pipe, with_body}
use Rattle.ux_model.specs.Object.{can_fail, after_failure}
use Rattle.ux_model.specs.Description.{Description, Target, to_object, to_socket, socket_of, socket_in}
use Rattle.ux_model.specs.Process.{Descriptor, own_cred}
use Rattle.ux_model.specs.State.{State, description_at, process_at, with_object, with_description}
use Rattle.ux_model.specs.Outcome.{Outcome, refuse, as_process}
use Rattle.ux_model.specs.FileObjects.{is_open_for, or_failing, holds_bytes}
use Rattle.ux_model.specs.Reading.{is_short_read, offset_after_read, read_answer, read_object, read}
use Rattle.ux_model.specs.Receiving.{read_socket}
use Rattle.ux_model.specs.Sending.{sending, flight_limit, write_socket}
use Rattle.ux_model.specs.Writing.{write_place, offset_after_write, write_answer, write_object, write}
use Rattle.ux_model.specs.Seeking.{seek_base, seek_to, seek_object, lseek}
use Rattle.ux_laws.specs.Files.{body_at}
use Rattle.ux_laws.specs.Apartness.{Sides, TargetIsOn}
use Rattle.ux_laws.proofs.Aside.Twins.{Twins, target_cases, object_cases, twins_put, twins_object}
use Rattle.ux_laws.proofs.Aside.Agreeing.{Agrees, refused, answered, remembered, both, maybe_both, found_both}
use Rattle.ux_laws.proofs.Aside.Sockets.{on_view}
use Rattle.ux_laws.proofs.Aside.Readiness.{open_alike}
use Rattle.ux_laws.proofs.Aside.Messages.{read_socket_agrees}
use Rattle.ux_laws.proofs.Aside.Sends.{from_agrees}

-- the object that is led to is on this side
object_on : {sides : Sides} {S T : State} (d o : ℕ) (D : Description) → Twins sides S T → sides.description d ≡ true →
    description_at S d ≡ Some D → D.target ≡ to_object o → sides.object o ≡ true
object_on {sides} d o D twins mine here is =
    subst (λ (t : Target). TargetIsOn sides true t) is (subst (λ b. TargetIsOn sides b D.target) mine (twins.left.descriptions d D here))

-- another offset, of a description of this file object
moved : {sides : Sides} (S T : State) (d o : ℕ) (D E : Description) (offset : ℕ) → Twins sides S T → sides.description d ≡ true →
    sides.object o ≡ true → description_at S d ≡ Some D → description_at T d ≡ Some E → body_at T o ≡ body_at S o →
    Twins sides (with_description S d (record D { offset = offset; target = to_object o }))
    (with_description T d (record D { offset = offset; target = to_object o }))
moved S T d o D E offset twins mine on here there body =
    twins_put S T d D E (record D { offset = offset; target = to_object o }) (record D { offset = offset; target = to_object o }) twins mine
    here there on on (ap (λ (b : Option Body). (record D { offset = offset; target = to_object o }, b)) body)

-- it may fail in both
failing_agrees : {sides : Sides} (S T : State) (o : ℕ) (view : View) (opened : Bool) (faults : ℕ) (x y : Outcome) → Twins sides S T →
    place S.objects o ≡ Some view → place T.objects o ≡ Some (record view { opened = opened; faults = faults }) → Agrees sides x y →
    Agrees sides (or_failing S o view x) (or_failing T o (record view { opened = opened; faults = faults }) y)
failing_agrees {sides} S T o view opened faults x y twins here there a = record {
  reply = a.reply;
  next = a.next;
  failure = λ U V is at. go (can_fail view) (can_fail (record view { opened = opened; faults = faults })) U V is at;
}
  where
    other : View
    other = record view { opened = opened; faults = faults }

    go : (b c : Bool) (U V : State) → (if b then Some (with_object S o (after_failure view)) else None) ≡ Some U →
        (if c then Some (with_object T o (after_failure (record view { opened = opened; faults = faults }))) else None) ≡ Some V →
        Twins sides U V
    go true true U V is at =
        let one : with_object S o (after_failure view) ≡ U = cc is in
        let two : with_object T o (after_failure other) ≡ V = cc at in
        subst (λ (Y : State). Twins sides U Y) two (subst (λ (X : State). Twins sides X (with_object T o (after_failure other))) one
        (twins_object S T o (after_failure view) (after_failure other) view other twins here there refl))
    go true false U V is at = absurd (cc at)
    go false c U V is at = absurd (cc is)

pub lseek_agrees : {sides : Sides} (S T : State) (p : ℕ) (fd : Fd) (offset : ℤ) (whence : Whence) → Twins sides S T →
    sides.process p ≡ true →
    Agrees sides (lseek S p fd offset whence) (lseek T p fd offset whence)
unfolding lseek
lseek_agrees {sides} S T p fd offset whence twins mine = found_both Q sides S T p fd _ _ twins mine (refused twins)
    (λ e D E on g here there shown. target_cases (λ (D E : Description). Q (at S e D) (at T e E)) S T D E shown
    (λ o is led body. object_cases (λ x y. Q (on_view S (seek S e (record D { target = to_object o })) x)
    (on_view T (seek T e (record D { target = to_object o })) y)) S T o body (refused twins)
    (λ view opened faults held held_too. both Q (not (is_memory view.body)) _ _ _ _ _ refl (λ b. refused twins)
    (λ b. subst (λ (n : ℕ). Q (seek_to S e.description (record D { target = to_object o })
    (pos (seek_base whence (record D { target = to_object o }) view) +ℤ offset))
    (seek_to T e.description (record D { target = to_object o }) (pos n +ℤ offset)))
    (sym (same_base whence (record D { target = to_object o }) view opened faults))
    (sought e D E o on (object_on e.description o D twins on here is) here there body
    (pos (seek_base whence (record D { target = to_object o }) view) +ℤ offset)))))
    (λ s q is led same. refused twins))
  where
    Q : Outcome → Outcome → Type 0
    Q = Agrees sides

    seek : State → Descriptor → Description → View → Outcome
    seek U e D view = seek_object U e.description D view offset whence

    at : State → Descriptor → Description → Outcome
    at U e D = elim D.target as (λ _. Outcome) [
      | to_object o ↦ on_view U (seek U e D) (place U.objects o)
      | to_socket s ↦ refuse U Errno.ESPIPE
    ]

    same_base : (w : Whence) (D : Description) (view : View) (opened : Bool) (faults : ℕ) →
        seek_base w D (record view { opened = opened; faults = faults }) ≡ seek_base w D view
    same_base Whence.Set D view opened faults = refl
    same_base Whence.Cur D view opened faults = refl
    same_base Whence.End D view opened faults = refl

    sought : (e : Descriptor) (D E : Description) (o : ℕ) → sides.description e.description ≡ true → sides.object o ≡ true →
        description_at S e.description ≡ Some D → description_at T e.description ≡ Some E → body_at T o ≡ body_at S o → (to : ℤ) →
        Q (seek_to S e.description (record D { target = to_object o }) to) (seek_to T e.description (record D { target = to_object o }) to)
    sought e D E o on own here there body (pos n) = both Q (nat_lt offset_limit n) _ _ _ _ _ refl (λ b. refused twins)
        (λ b. answered _ _ refl (moved S T e.description o D E n twins on own here there body))
    sought e D E o on own here there body (negsuc n) = refused twins

pub read_agrees : {sides : Sides} (S T : State) (p : ℕ) (fd : Fd) (n : ℕ) → Twins sides S T → sides.process p ≡ true →
    Agrees sides (read S p fd n) (read T p fd n)
unfolding read
read_agrees {sides} S T p fd n twins mine = found_both Q sides S T p fd _ _ twins mine (refused twins)
    (λ e D E on g here there shown. target_cases (λ (D E : Description). Q (at S e D) (at T e E)) S T D E shown
    (λ o is led body. object_cases (λ x y. Q (on_view S (by_view S e (record D { target = to_object o }) o) x)
    (on_view T (by_view T e (record D { target = to_object o }) o) y)) S T o body (refused twins)
    (λ view opened faults held held_too. both Q (not (can_read D.mode)) _ _ _ _ _ refl (λ b. refused twins)
    (λ b. both Q (is_short_read view.body (min read_limit n)) _ _ _ _ _ refl (λ c. refused twins)
    (λ c. both Q (holds_bytes view.body && (min read_limit n == 0)) _ _ _ _ _ refl (λ f. answered _ _ refl twins)
    (λ f. found e D E o on (object_on e.description o D twins on here is) here there body view opened faults held held_too
    (read_body view.body D.offset (min read_limit n)))))))
    (λ s q is led same. read_socket_agrees S T p e.description s q (min read_limit n) twins mine on
    (ap socket_in here ∙ ap socket_of is) (ap socket_in there ∙ ap socket_of led) same))
  where
    Q : Outcome → Outcome → Type 0
    Q = Agrees sides

    by_view : State → Descriptor → Description → ℕ → View → Outcome
    by_view U e D o view = read_object U e.description D o view (min read_limit n)

    at : State → Descriptor → Description → Outcome
    at U e D = elim D.target as (λ _. Outcome) [
      | to_object o ↦ on_view U (by_view U e D o) (place U.objects o)
      | to_socket s ↦ read_socket U p e.description s (min read_limit n)
    ]

    found : (e : Descriptor) (D E : Description) (o : ℕ) → sides.description e.description ≡ true → sides.object o ≡ true →
        description_at S e.description ≡ Some D → description_at T e.description ≡ Some E → body_at T o ≡ body_at S o → (view : View)
        (opened : Bool) (faults : ℕ) → place S.objects o ≡ Some view →
        place T.objects o ≡ Some (record view { opened = opened; faults = faults }) → (r : Result (List ℕ × Body) ObjectError) →
        Q (read_answer S e.description (record D { target = to_object o }) o view r)
        (read_answer T e.description (record D { target = to_object o }) o (record view { opened = opened; faults = faults }) r)
    found e D E o on own here there body view opened faults held held_too (Ok given) =
        failing_agrees S T o view opened faults _ _ twins held held_too (remembered _ _ refl
        (twins_object _ _ o (with_body view given.1) (with_body (record view { opened = opened; faults = faults }) given.1) view
        (record view { opened = opened; faults = faults })
        (moved S T e.description o D E (offset_after_read (record D { target = to_object o }) view given.0) twins on own here there body)
        held held_too refl))
    found e D E o on own here there body view opened faults held held_too (Err would_block) =
        both Q (is_pipe view.body && not (is_open_for can_write S o)) (is_pipe view.body && not (is_open_for can_write T o)) _ _ _ _
        (ap (λ b. is_pipe view.body && not b) (open_alike can_write o S T twins own)) (λ b. answered _ _ refl twins) (λ b. refused twins)
    found e D E o on own here there body view opened faults held held_too (Err full) = refused twins
    found e D E o on own here there body view opened faults held held_too (Err invalid) = refused twins

pub write_agrees : {sides : Sides} (S T : State) (p tag other : ℕ) (fd : Fd) (bytes : List ℕ) → Twins sides S T → sides.process p ≡ true →
    Agrees sides (write S p tag fd bytes) (write T p other fd bytes)
unfolding write
write_agrees {sides} S T p tag other fd bytes twins mine = found_both Q sides S T p fd _ _ twins mine (refused twins)
    (λ e D E on g here there shown. target_cases (λ (D E : Description). Q (at S tag e D) (at T other e E)) S T D E shown
    (λ o is led body. object_cases (λ x y. Q (on_view S (by_view S e (record D { target = to_object o }) o) x)
    (on_view T (by_view T e (record D { target = to_object o }) o) y)) S T o body (refused twins)
    (λ view opened faults held held_too. both Q (not (can_write D.mode)) _ _ _ _ _ refl (λ b. refused twins)
    (λ b. both Q (holds_bytes view.body && (length bytes == 0)) _ _ _ _ _ refl (λ c. answered _ _ refl twins)
    (λ c. both Q (is_pipe view.body && not (is_open_for can_read S o)) (is_pipe view.body && not (is_open_for can_read T o)) _ _ _ _
    (ap (λ b. is_pipe view.body && not b) (open_alike can_read o S T twins (object_on e.description o D twins on here is)))
    (λ f. refused twins)
    (λ f. failing_agrees S T o view opened faults _ _ twins held held_too
    (put e D E o on (object_on e.description o D twins on here is) here there body view opened faults held held_too
    (write_body view.body (write_place (record D { target = to_object o }) view) bytes)))))))
    (λ s q is led same. maybe_both Q (process_at S p) (process_at T p) _ _ _ _ (twins.processes p mine) (refused twins)
    (λ P live. from_agrees S T (flight_limit P) e.description tag other s q bytes (own_cred p P) P.uid twins on
    (ap socket_in here ∙ ap socket_of is))))
  where
    Q : Outcome → Outcome → Type 0
    Q = Agrees sides

    by_view : State → Descriptor → Description → ℕ → View → Outcome
    by_view U e D o view = write_object U e.description D o view bytes

    at : State → ℕ → Descriptor → Description → Outcome
    at U call e D = elim D.target as (λ _. Outcome) [
      | to_object o ↦ on_view U (by_view U e D o) (place U.objects o)
      | to_socket s ↦ as_process U p (λ P. write_socket U (sending call p P None bytes) e.description s)
    ]

    put : (e : Descriptor) (D E : Description) (o : ℕ) → sides.description e.description ≡ true → sides.object o ≡ true →
        description_at S e.description ≡ Some D → description_at T e.description ≡ Some E → body_at T o ≡ body_at S o → (view : View)
        (opened : Bool) (faults : ℕ) → place S.objects o ≡ Some view →
        place T.objects o ≡ Some (record view { opened = opened; faults = faults }) → (r : Result (ℕ × Body) ObjectError) →
        Q (write_answer S e.description (record D { target = to_object o }) o view r)
        (write_answer T e.description (record D { target = to_object o }) o (record view { opened = opened; faults = faults }) r)
    put e D E o on own here there body view opened faults held held_too (Ok made) = record {
      reply = refl;
      next = twins_object _ _ o (with_body view made.1) (with_body (record view { opened = opened; faults = faults }) made.1) view
          (record view { opened = opened; faults = faults })
          (moved S T e.description o D E (offset_after_write (record D { target = to_object o }) view made.0) twins on own here there body)
          held held_too refl;
      failure = λ U V is at. absurd (cc is);
    }
    put e D E o on own here there body view opened faults held held_too (Err error) = refused twins
