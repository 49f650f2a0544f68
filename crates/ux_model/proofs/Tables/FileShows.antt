-- So do calls on file objects.
use Rattle.std.proofs.Common.{◌≡◌, ℕ, false, not, ◌&&◌, ◌==◌, List, []}
use Rattle.std.proofs.Common.{◌∷◌, length, min, Some, None, Result, Ok, Err, refl, ap, ◌∙◌, subst}
use Rattle.std.proofs.Common.{arith}
use Rattle.std.specs.Prelude.{nat_lt, ℤ, pos, negsuc, ◌+ℤ◌}
use Rattle.ux_model.specs.Types.{Fd, Whence, Request, Reply}
use Rattle.ux_model.specs.Places.{place}
use Rattle.ux_model.specs.Limits.{read_limit, offset_limit}
use Rattle.ux_model.specs.Flags.{can_read, can_write, asks_cloexec_rights}
use Rattle.ux_model.specs.Flags.{no_flags}
use Rattle.ux_model.specs.Object.{Body, View, ObjectError, would_block, full, invalid, read_body, write_body, is_memory, is_pipe}
use Rattle.ux_model.specs.Message.{Message}
use Rattle.ux_model.specs.Front.{Front, front_of}
use Rattle.ux_model.specs.Socket.{Socket}
use Rattle.ux_model.specs.Socket.{with_reset}
use Rattle.ux_model.specs.Description.{Description, to_socket, socket_of, socket_in}
use Rattle.ux_model.specs.Process.{Process, own_cred}
use Rattle.ux_model.specs.Delivery.{installed}
use Rattle.ux_model.specs.State.{State, process_at, description_at, socket_at, table_of}
use Rattle.ux_model.specs.Outcome.{Outcome}
use Rattle.ux_model.specs.Sending.{sending, message_of, flight_limit}
use Rattle.ux_model.specs.Receiving.{incoming, receive_front, receive}
use Rattle.ux_model.specs.Receiving.{bytes_alone}
use Rattle.ux_model.specs.FileObjects.{holds_bytes, is_open_for}
use Rattle.ux_model.specs.Reading.{read, read_answer, is_short_read, offset_after_read}
use Rattle.ux_model.specs.Writing.{write, write_answer, offset_after_write, write_place}
use Rattle.ux_model.specs.Seeking.{lseek, seek_to, seek_base}
use Rattle.ux_model.proofs.Changes.Walk.{either, maybe, by_target, found}
use Rattle.ux_model.proofs.Tables.Queues.{quiet_put, quiet_socket}
use Rattle.ux_model.proofs.Tables.Replacing.{Replaces}
use Rattle.ux_model.proofs.Tables.Replacing.{gives_none, IsPlain, keeps_table}
use Rattle.ux_model.proofs.Tables.Shows.{Shows, silent, refuses, answers}
use Rattle.ux_model.proofs.Tables.MessageShows.{from_shows, shown_alike, by_receive, delivery_none, front_replaces, front_mail}

-- ---- files

-- a read of a socket, which has no room for rights
read_front_shows : (S : State) (p tag d n k : ℕ) (fd : Fd) (s : Socket) (m : Message) (ms : List Message) (P : Process) →
    process_at S p ≡ Some P → socket_at S d ≡ Some s → s.queue ≡ m ∷ ms →
    Shows S p tag (Request.Read fd n) (record (receive_front S p d s (incoming k 0 no_flags) (front_of k s m ms))
    { reply = bytes_alone (receive_front S p d s (incoming k 0 no_flags) (front_of k s m ms)).reply })
unfolding receive_front
read_front_shows S p tag d n k fd s m ms P here there q =
    let f : Front = front_of k s m ms in
    let T : State = (receive_front S p d s (incoming k 0 no_flags) f).next in
    record {
      tables = keeps_table S T p (Request.Read fd n) (Reply.Bytes f.bytes) (record { no_end = refl; keeps = λ n held. refl })
          (subst (λ (ns : List ℕ). Replaces S p (installed (asks_cloexec_rights no_flags) ns f.rights (table_of S p)) T)
          (delivery_none s.passcred f.cred f.rights (table_of S p))
          (front_replaces S p d s (incoming k 0 no_flags) f P here)) refl refl;
      mail = front_mail S p tag d (Request.Read fd n) s (incoming k 0 no_flags) m ms there q;
    }

socket_is : (S : State) (d : ℕ) (D : Description) (s : Socket) → description_at S d ≡ Some D → D.target ≡ to_socket s →
    socket_at S d ≡ Some s
socket_is S d D s h t = ap socket_in h ∙ ap socket_of t

read_socket_shows : (S : State) (p tag d n k : ℕ) (fd : Fd) (s : Socket) (P : Process) → process_at S p ≡ Some P → socket_at S d ≡ Some s →
    Shows S p tag (Request.Read fd n) (record (receive S p d s (incoming k 0 no_flags))
    { reply = bytes_alone (receive S p d s (incoming k 0 no_flags)).reply })
read_socket_shows S p tag d n k fd s P here there =
    by_receive Q S p d s (incoming k 0 no_flags)
    (λ e. refuses refl) (answers plain refl refl refl (quiet_socket S d (with_reset false) (λ s. refl)))
    (λ none. answers plain refl refl refl (silent S)) (λ m ms q. read_front_shows S p tag d n k fd s m ms P here there q)
  where
    Q : Outcome → Type 0
    Q o = Shows S p tag (Request.Read fd n) (record o { reply = bytes_alone o.reply })

    plain : IsPlain (Request.Read fd n)
    plain = record { no_end = refl; keeps = λ n held. refl }

-- ---- file objects

pub read_shows : (S : State) (p tag : ℕ) (fd : Fd) (n : ℕ) (P : Process) → process_at S p ≡ Some P →
    Shows S p tag (Request.Read fd n) (read S p fd n)
unfolding read
read_shows S p tag fd n P here = found Q S p fd _ (refuses refl) (λ e D g h. by_target Q D.target _ _
    (λ o t. maybe Q (place S.objects o) _ _ (refuses refl) (λ view there. either Q (not (can_read D.mode)) _ _ (λ b. refuses refl)
    (λ b. either Q (is_short_read view.body (min read_limit n)) _ _ (λ b. refuses refl)
    (λ b. either Q (holds_bytes view.body && (min read_limit n == 0)) _ _ (λ b. answers plain refl refl refl (silent S))
    (λ b. by_answer e.description D o view (read_body view.body D.offset (min read_limit n)) h)))))
    (λ s t. read_socket_shows S p tag e.description n (min read_limit n) fd s P here (socket_is S e.description D s h t)))
  where
    Q : Outcome → Type 0
    Q o = Shows S p tag (Request.Read fd n) o

    plain : IsPlain (Request.Read fd n)
    plain = record { no_end = refl; keeps = λ n held. refl }

    by_answer : (d : ℕ) (D : Description) (o : ℕ) (view : View) (r : Result (List ℕ × Body) ObjectError) → description_at S d ≡ Some D →
        Shows S p tag (Request.Read fd n) (read_answer S d D o view r)
    by_answer d D o view (Ok found) h = answers plain refl refl refl
        (quiet_put S d D (record D { offset = offset_after_read D view found.0 }) h refl)
    by_answer d D o view (Err would_block) h =
        either Q (is_pipe view.body && not (is_open_for can_write S o)) _ _ (λ b. answers plain refl refl refl (silent S))
        (λ b. refuses refl)
    by_answer d D o view (Err full) h = refuses refl
    by_answer d D o view (Err invalid) h = refuses refl

pub write_shows : (S : State) (p tag : ℕ) (fd : Fd) (bytes : List ℕ) → Shows S p tag (Request.Write fd bytes) (write S p tag fd bytes)
unfolding write
write_shows S p tag fd bytes = found Q S p fd _ (refuses refl) (λ e D g h. by_target Q D.target _ _
    (λ o t. maybe Q (place S.objects o) _ _ (refuses refl) (λ view there. either Q (not (can_write D.mode)) _ _ (λ b. refuses refl)
    (λ b. either Q (holds_bytes view.body && (length bytes == 0)) _ _ (λ b. answers plain refl refl refl (silent S))
    (λ b. either Q (is_pipe view.body && not (is_open_for can_read S o)) _ _ (λ b. refuses refl)
    (λ b. shown_alike (write_answer S e.description D o view (write_body view.body (write_place D view) bytes)) _ refl refl
    (by_answer e.description D o view (write_body view.body (write_place D view) bytes) h))))))
    (λ s t. maybe Q (process_at S p) _ _ (refuses refl)
    (λ P here. from_shows S p tag (Request.Write fd bytes) (flight_limit P) e.description s None
    (message_of (sending tag p P None bytes) (own_cred p P) []) plain (refl, λ rich. absurd (omega (arith, rich))))))
  where
    Q : Outcome → Type 0
    Q o = Shows S p tag (Request.Write fd bytes) o

    plain : IsPlain (Request.Write fd bytes)
    plain = record { no_end = refl; keeps = λ n held. refl }

    by_answer : (d : ℕ) (D : Description) (o : ℕ) (view : View) (r : Result (ℕ × Body) ObjectError) → description_at S d ≡ Some D →
        Shows S p tag (Request.Write fd bytes) (write_answer S d D o view r)
    by_answer d D o view (Ok made) h = answers plain refl refl refl
        (quiet_put S d D (record D { offset = offset_after_write D view made.0 }) h refl)
    by_answer d D o view (Err would_block) h = refuses refl
    by_answer d D o view (Err full) h = refuses refl
    by_answer d D o view (Err invalid) h = refuses refl

seek_shows : (S : State) (p tag d : ℕ) (request : Request) (D : Description) (to : ℤ) → IsPlain request → description_at S d ≡ Some D →
    Shows S p tag request (seek_to S d D to)
seek_shows S p tag d request D (pos n) plain h = either (Shows S p tag request) (nat_lt offset_limit n) _ _ (λ b. refuses plain.no_end)
    (λ b. answers plain refl (gives_none S p request (Reply.At n) refl) refl (quiet_put S d D (record D { offset = n }) h refl))
seek_shows S p tag d request D (negsuc n) plain h = refuses plain.no_end

pub lseek_shows : (S : State) (p tag : ℕ) (fd : Fd) (offset : ℤ) (whence : Whence) →
    Shows S p tag (Request.Lseek fd offset whence) (lseek S p fd offset whence)
unfolding lseek
lseek_shows S p tag fd offset whence = found Q S p fd _ (refuses refl) (λ e D g h. by_target Q D.target _ _
    (λ o t. maybe Q (place S.objects o) _ _ (refuses refl) (λ view there. either Q (not (is_memory view.body)) _ _ (λ b. refuses refl)
    (λ b. seek_shows S p tag e.description (Request.Lseek fd offset whence) D (pos (seek_base whence D view) +ℤ offset) plain h)))
    (λ s t. refuses refl))
  where
    Q : Outcome → Type 0
    Q o = Shows S p tag (Request.Lseek fd offset whence) o

    plain : IsPlain (Request.Lseek fd offset whence)
    plain = record { no_end = refl; keeps = λ n held. refl }
