-- What reads and writes do, of file objects and of sockets.
use Rattle.std.proofs.Common.{◌≡◌, ℕ, ◌==◌, false, not, ◌&&◌, List, [], ◌∷◌, length}
use Rattle.std.proofs.Common.{min, Option, Some, None, Result, Ok, Err, refl, ap, ◌∙◌}
use Rattle.std.specs.Prelude.{nat_lt, ℤ, pos, negsuc, ◌+ℤ◌}
use Rattle.ux_model.specs.Types.{Errno, Fd, Whence, Request}
use Rattle.ux_model.specs.Places.{place}
use Rattle.ux_model.specs.Limits.{read_limit, offset_limit}
use Rattle.ux_model.specs.Flags.{can_read, can_write, no_flags}
use Rattle.ux_model.specs.Object.{Body, View, ObjectError, would_block, full, invalid, read_body, write_body, is_memory, is_pipe}
use Rattle.ux_model.specs.Message.{Message}
use Rattle.ux_model.specs.Front.{front_of}
use Rattle.ux_model.specs.Socket.{Socket}
use Rattle.ux_model.specs.Socket.{with_reset}
use Rattle.ux_model.specs.Description.{Description, to_object, to_socket, socket_of, socket_in}
use Rattle.ux_model.specs.Process.{Descriptor, own_cred}
use Rattle.ux_model.specs.State.{State, process_at, description_at, socket_at}
use Rattle.ux_model.specs.Outcome.{Outcome, descriptor_at, find_socket}
use Rattle.ux_model.specs.Sending.{sending, message_of, flight_limit}
use Rattle.ux_model.specs.Receiving.{incoming, receive_front, receive, bytes_alone}
use Rattle.ux_model.specs.FileObjects.{holds_bytes, is_open_for}
use Rattle.ux_model.specs.Reading.{read, read_answer, is_short_read, offset_after_read}
use Rattle.ux_model.specs.Writing.{write, write_answer, offset_after_write, write_place}
use Rattle.ux_model.specs.Seeking.{lseek, seek_to, seek_base}
use Rattle.ux_model.proofs.Changes.Walk.{either, maybe, by_target, found}
use Rattle.ux_model.proofs.Tables.MessageShows.{by_receive}
use Rattle.ux_laws.specs.Talking.{endpoint, if_found, socket_through}
use Rattle.ux_laws.specs.Credentials.{its_own}
use Rattle.ux_laws.proofs.Parts.{kept_same, kept_put, kept_socket}
use Rattle.ux_laws.proofs.Parts.{kept_shrinks}
use Rattle.ux_laws.proofs.Acts.{at_no_socket, Did, quiet}
use Rattle.ux_laws.proofs.Doing.Outcomes.{refuses, answers, through_is, empty_handed}
use Rattle.ux_laws.proofs.Doing.Naming.{also_kept}
use Rattle.ux_laws.proofs.Doing.Sending.{from_did}
use Rattle.ux_laws.proofs.Doing.Receiving.{taking_did}

found_socket_is : (S : State) (p : ℕ) (fd : Fd) (e : Descriptor) (D : Description) → descriptor_at S p fd ≡ Some e →
    description_at S e.description ≡ Some D →
    find_socket S p fd ≡ (elim (socket_of D.target) as
    (λ _. Result (ℕ × Socket) Errno) [ None ↦ Err Errno.ENOTSOCK | Some s ↦ Ok (e.description, s) ])
found_socket_is S p fd e D g h =
    ap (λ (o : Option Descriptor). elim (elim o as (λ _. Result (Descriptor × Description) Errno) [
      | None ↦ Err Errno.EBADF
      | Some e ↦ elim (description_at S e.description) as
          (λ _. Result (Descriptor × Description) Errno) [ None ↦ Err Errno.EBADF | Some D ↦ Ok (e, D) ]
    ]) as (λ _. Result (ℕ × Socket) Errno) [
      | Err x ↦ Err x
      | Ok w ↦ elim (socket_of w.1.target) as
          (λ _. Result (ℕ × Socket) Errno) [ None ↦ Err Errno.ENOTSOCK | Some s ↦ Ok (w.0.description, s) ]
    ]) g
    ∙ ap (λ (x : Option Description). elim (elim x as
    (λ _. Result (Descriptor × Description) Errno) [ None ↦ Err Errno.EBADF | Some D ↦ Ok (e, D) ])
    as (λ _. Result (ℕ × Socket) Errno) [
      | Err x ↦ Err x
      | Ok w ↦ elim (socket_of w.1.target) as
          (λ _. Result (ℕ × Socket) Errno) [ None ↦ Err Errno.ENOTSOCK | Some s ↦ Ok (w.0.description, s) ]
    ]) h

pub no_socket_at : (S : State) (p o : ℕ) (fd : Fd) (request : Request) (e : Descriptor) (D : Description) → endpoint request ≡ Some fd →
    descriptor_at S p fd ≡ Some e → description_at S e.description ≡ Some D → D.target ≡ to_object o →
    socket_through S p request ≡ None
no_socket_at S p o fd request e D asked g h t =
    ap (λ (o : Option Fd). elim o as (λ _. Option (ℕ × Socket)) [ None ↦ None | Some fd ↦ if_found (find_socket S p fd) ]) asked
    ∙ ap if_found (found_socket_is S p fd e D g h
    ∙ ap (λ t. elim (socket_of t) as (λ _. Result (ℕ × Socket) Errno) [ None ↦ Err Errno.ENOTSOCK | Some s ↦ Ok (e.description, s) ]) t)

pub found_at : (S : State) (p : ℕ) (fd : Fd) (e : Descriptor) (D : Description) (s : Socket) → descriptor_at S p fd ≡ Some e →
    description_at S e.description ≡ Some D → D.target ≡ to_socket s →
    find_socket S p fd ≡ Ok (e.description, s)
found_at S p fd e D s g h t = found_socket_is S p fd e D g h
    ∙ ap (λ t. elim (socket_of t) as (λ _. Result (ℕ × Socket) Errno) [ None ↦ Err Errno.ENOTSOCK | Some s ↦ Ok (e.description, s) ]) t

read_front_did : (S : State) (p tag d k n : ℕ) (fd : Fd) (s : Socket) (m : Message) (ms : List Message) →
    socket_through S p (Request.Read fd n) ≡ Some (d, s) → socket_at S d ≡ Some s → s.queue ≡ m ∷ ms →
    Did S p tag (Request.Read fd n) (bytes_alone (receive_front S p d s (incoming k 0 no_flags) (front_of k s m ms)).reply)
    (receive_front S p d s (incoming k 0 no_flags) (front_of k s m ms)).next
unfolding receive_front
read_front_did S p tag d k n fd s m ms through there q =
    taking_did S p tag d k (Request.Read fd n) _ s m ms false _ through there q refl refl refl refl refl

pub read_did : (S : State) (p tag : ℕ) (fd : Fd) (n : ℕ) → Did S p tag (Request.Read fd n) (read S p fd n).reply (read S p fd n).next
unfolding read
read_did S p tag fd n = found Q S p fd _ refuses (λ e D g h. by_target Q D.target _ _
    (λ o t. maybe Q (place S.objects o) _ _ refuses (λ view there. either Q (not (can_read D.mode)) _ _ (λ b. refuses)
    (λ b. either Q (is_short_read view.body (min read_limit n)) _ _ (λ b. refuses)
    (λ b. either Q (holds_bytes view.body && (min read_limit n == 0)) _ _
    (λ b. quiet (kept_shrinks (kept_same S S refl)) (at_no_socket (no_socket_at S p o fd (Request.Read fd n) e D refl g h t)))
    (λ b. by_answer o e D view (read_body view.body D.offset (min read_limit n)) h
    (no_socket_at S p o fd (Request.Read fd n) e D refl g h t))))))
    (λ s t. socket e.description s (through_is S p e.description fd s (Request.Read fd n) refl (found_at S p fd e D s g h t))
    (ap socket_in h ∙ ap socket_of t)))
  where
    Q : Outcome → Type 0
    Q o = Did S p tag (Request.Read fd n) o.reply o.next

    by_answer : (o : ℕ) (e : Descriptor) (D : Description) (view : View) (r : Result (List ℕ × Body) ObjectError) →
        description_at S e.description ≡ Some D → socket_through S p (Request.Read fd n) ≡ None →
        Did S p tag (Request.Read fd n) (read_answer S e.description D o view r).reply (read_answer S e.description D o view r).next
    by_answer o e D view (Ok found) h none =
        quiet (kept_shrinks (also_kept _ refl (kept_put S e.description D (record D { offset = offset_after_read D view found.0 }) h refl)))
        (at_no_socket none)
    by_answer o e D view (Err would_block) h none =
        either Q (is_pipe view.body && not (is_open_for can_write S o)) _ _
        (λ b. quiet (kept_shrinks (kept_same S S refl)) (at_no_socket none)) (λ b. refuses)
    by_answer o e D view (Err full) h none = refuses
    by_answer o e D view (Err invalid) h none = refuses

    socket : (d : ℕ) (s : Socket) → socket_through S p (Request.Read fd n) ≡ Some (d, s) → socket_at S d ≡ Some s →
        Did S p tag (Request.Read fd n) (bytes_alone (receive S p d s (incoming (min read_limit n) 0 no_flags)).reply)
        (receive S p d s (incoming (min read_limit n) 0 no_flags)).next
    socket d s through there = by_receive (λ o. Did S p tag (Request.Read fd n) (bytes_alone o.reply) o.next) S p d s
        (incoming (min read_limit n) 0 no_flags) (λ e. refuses)
        (answers refl (kept_socket S d (with_reset false) (λ s. refl)))
        (λ none. quiet (kept_shrinks (kept_same S S refl)) (empty_handed d (min read_limit n) s through there none refl refl refl))
        (λ m ms q. read_front_did S p tag d (min read_limit n) n fd s m ms through there q)

pub write_did : (S : State) (p tag : ℕ) (fd : Fd) (bytes : List ℕ) →
    Did S p tag (Request.Write fd bytes) (write S p tag fd bytes).reply (write S p tag fd bytes).next
unfolding write
write_did S p tag fd bytes = found Q S p fd _ refuses (λ e D g h. by_target Q D.target _ _
    (λ o t. maybe Q (place S.objects o) _ _ refuses (λ view there. either Q (not (can_write D.mode)) _ _ (λ b. refuses)
    (λ b. either Q (holds_bytes view.body && (length bytes == 0)) _ _
    (λ b. quiet (kept_shrinks (kept_same S S refl)) (at_no_socket (no_socket_at S p o fd (Request.Write fd bytes) e D refl g h t)))
    (λ b. either Q (is_pipe view.body && not (is_open_for can_read S o)) _ _ (λ b. refuses)
    (λ b. by_answer o e D view (write_body view.body (write_place D view) bytes) h
    (no_socket_at S p o fd (Request.Write fd bytes) e D refl g h t))))))
    (λ s t. maybe Q (process_at S p) _ _ refuses
    (λ P here. from_did S p tag (Request.Write fd bytes) (flight_limit P) e.description s P
    (message_of (sending tag p P None bytes) (own_cred p P) [])
    (record {
      caller = here;
      through = through_is S p e.description fd s (Request.Write fd bytes) refl (found_at S p fd e D s g h t);
      tagged = refl;
      bytes = refl;
      rights = refl;
      cred = its_own refl;
    }) refl (ap socket_in h ∙ ap socket_of t))))
  where
    Q : Outcome → Type 0
    Q o = Did S p tag (Request.Write fd bytes) o.reply o.next

    by_answer : (o : ℕ) (e : Descriptor) (D : Description) (view : View) (r : Result (ℕ × Body) ObjectError) →
        description_at S e.description ≡ Some D → socket_through S p (Request.Write fd bytes) ≡ None →
        Did S p tag (Request.Write fd bytes) (write_answer S e.description D o view r).reply (write_answer S e.description D o view r).next
    by_answer o e D view (Ok made) h none = quiet
        (kept_shrinks (also_kept _ refl (kept_put S e.description D (record D { offset = offset_after_write D view made.0 }) h refl)))
        (at_no_socket none)
    by_answer o e D view (Err would_block) h none = refuses
    by_answer o e D view (Err full) h none = refuses
    by_answer o e D view (Err invalid) h none = refuses

pub lseek_did : (S : State) (p tag : ℕ) (fd : Fd) (offset : ℤ) (whence : Whence) →
    Did S p tag (Request.Lseek fd offset whence) (lseek S p fd offset whence).reply (lseek S p fd offset whence).next
unfolding lseek
lseek_did S p tag fd offset whence = found Q S p fd _ refuses (λ e D g h. by_target Q D.target _ _
    (λ o t. maybe Q (place S.objects o) _ _ refuses (λ view there. either Q (not (is_memory view.body)) _ _ (λ b. refuses)
    (λ b. seek e.description D (pos (seek_base whence D view) +ℤ offset) h)))
    (λ s t. refuses))
  where
    Q : Outcome → Type 0
    Q o = Did S p tag (Request.Lseek fd offset whence) o.reply o.next

    seek : (d : ℕ) (D : Description) (to : ℤ) → description_at S d ≡ Some D →
        Did S p tag (Request.Lseek fd offset whence) (seek_to S d D to).reply (seek_to S d D to).next
    seek d D (pos n) h = either Q (nat_lt offset_limit n) _ _ (λ b. refuses)
        (λ b. answers refl (kept_put S d D (record D { offset = n }) h refl))
    seek d D (negsuc n) h = refuses
