-- So do reads and writes.
use Rattle.std.proofs.Common.{◌≡◌, ℕ, ◌==◌, not, ◌&&◌, List}
use Rattle.std.proofs.Common.{length, min, Some, Result, Ok, Err, refl, ap, sym, ◌∙◌}
use Rattle.std.specs.Prelude.{nat_lt, ℤ, pos, negsuc, ◌+ℤ◌}
use Rattle.std.proofs.lemmas.Bool.{false≢true}
use Rattle.ux_model.specs.Types.{Fd, Whence, Request}
use Rattle.ux_model.specs.Places.{place}
use Rattle.ux_model.specs.Limits.{read_limit, offset_limit}
use Rattle.ux_model.specs.Flags.{can_read, can_write, no_flags}
use Rattle.ux_model.specs.Object.{Body, View, ObjectError, would_block, full, invalid, read_body, write_body, is_memory, is_pipe}
use Rattle.ux_model.specs.Description.{Description, socket_of, socket_in}
use Rattle.ux_model.specs.Process.{Descriptor}
use Rattle.ux_model.specs.State.{State, process_at, description_at}
use Rattle.ux_model.specs.Outcome.{Outcome, descriptor_at}
use Rattle.ux_model.specs.Sending.{flight_limit}
use Rattle.ux_model.specs.Receiving.{incoming}
use Rattle.ux_model.specs.FileObjects.{holds_bytes, is_open_for}
use Rattle.ux_model.specs.Reading.{read, read_answer, is_short_read, offset_after_read}
use Rattle.ux_model.specs.Writing.{write, write_answer, offset_after_write, write_place}
use Rattle.ux_model.specs.Seeking.{lseek, seek_to, seek_base}
use Rattle.ux_model.specs.Giving.{description_in}
use Rattle.ux_model.proofs.Changes.Walk.{either, maybe, by_target, found}
use Rattle.ux_laws.proofs.Near.Single.{Near, near_put, still}
use Rattle.ux_laws.proofs.Near.Leading.{by_fd}
use Rattle.ux_laws.proofs.Near.Descriptors.{alike}
use Rattle.ux_laws.proofs.Near.Messages.{from_near, receive_near}

pub read_near : (S : State) (p : ℕ) (fd : Fd) (n : ℕ) → Near S p (Request.Read fd n) (read S p fd n).next
unfolding read
read_near S p fd n = found Q S p fd _ still (λ e D g h. by_target Q D.target _ _
    (λ o t. maybe Q (place S.objects o) _ _ still (λ view there. either Q (not (can_read D.mode)) _ _ (λ b. still)
    (λ b. either Q (is_short_read view.body (min read_limit n)) _ _ (λ b. still)
    (λ b. either Q (holds_bytes view.body && (min read_limit n == 0)) _ _ (λ b. still)
    (λ b. by_answer o e D view (read_body view.body D.offset (min read_limit n)) g h)))))
    (λ s t. receive_near S p e.description (Request.Read fd n) s (incoming (min read_limit n) 0 no_flags) (by_fd fd e g)))
  where
    Q : Outcome → Type 0
    Q o = Near S p (Request.Read fd n) o.next

    by_answer : (o : ℕ) (e : Descriptor) (D : Description) (view : View) (r : Result (List ℕ × Body) ObjectError) →
        descriptor_at S p fd ≡ Some e → description_at S e.description ≡ Some D → Q (read_answer S e.description D o view r)
    by_answer o e D view (Ok found) g h = alike _ refl
        (near_put e.description D (record D { offset = offset_after_read D view found.0 }) h refl (λ calm. refl)
        (λ calm. absurd (false≢true (sym calm))) (by_fd fd e g))
    by_answer o e D view (Err would_block) g h =
        either Q (is_pipe view.body && not (is_open_for can_write S o)) _ _ (λ b. still) (λ b. still)
    by_answer o e D view (Err full) g h = still
    by_answer o e D view (Err invalid) g h = still

pub write_near : (S : State) (p tag : ℕ) (fd : Fd) (bytes : List ℕ) → Near S p (Request.Write fd bytes) (write S p tag fd bytes).next
unfolding write
write_near S p tag fd bytes = found Q S p fd _ still (λ e D g h. by_target Q D.target _ _
    (λ o t. maybe Q (place S.objects o) _ _ still (λ view there. either Q (not (can_write D.mode)) _ _ (λ b. still)
    (λ b. either Q (holds_bytes view.body && (length bytes == 0)) _ _ (λ b. still)
    (λ b. either Q (is_pipe view.body && not (is_open_for can_read S o)) _ _ (λ b. still)
    (λ b. by_answer o e D view (write_body view.body (write_place D view) bytes) g h)))))
    (λ s t. maybe Q (process_at S p) _ _ still
    (λ P here. from_near S p fd.0 (Request.Write fd bytes) (flight_limit P) e.description s _ (ap description_in g)
    (ap socket_in h ∙ ap socket_of t))))
  where
    Q : Outcome → Type 0
    Q o = Near S p (Request.Write fd bytes) o.next

    by_answer : (o : ℕ) (e : Descriptor) (D : Description) (view : View) (r : Result (ℕ × Body) ObjectError) →
        descriptor_at S p fd ≡ Some e → description_at S e.description ≡ Some D → Q (write_answer S e.description D o view r)
    by_answer o e D view (Ok made) g h = alike _ refl
        (near_put e.description D (record D { offset = offset_after_write D view made.0 }) h refl (λ calm. refl)
        (λ calm. absurd (false≢true (sym calm))) (by_fd fd e g))
    by_answer o e D view (Err would_block) g h = still
    by_answer o e D view (Err full) g h = still
    by_answer o e D view (Err invalid) g h = still

pub lseek_near : (S : State) (p : ℕ) (fd : Fd) (offset : ℤ) (whence : Whence) →
    Near S p (Request.Lseek fd offset whence) (lseek S p fd offset whence).next
unfolding lseek
lseek_near S p fd offset whence = found Q S p fd _ still (λ e D g h. by_target Q D.target _ _
    (λ o t. maybe Q (place S.objects o) _ _ still
    (λ view there. either Q (not (is_memory view.body)) _ _ (λ b. still) (λ b. seek e D (pos (seek_base whence D view) +ℤ offset) g h)))
    (λ s t. still))
  where
    Q : Outcome → Type 0
    Q o = Near S p (Request.Lseek fd offset whence) o.next

    seek : (e : Descriptor) (D : Description) (to : ℤ) → descriptor_at S p fd ≡ Some e → description_at S e.description ≡ Some D →
        Near S p (Request.Lseek fd offset whence) (seek_to S e.description D to).next
    seek e D (pos n) g h = either Q (nat_lt offset_limit n) _ _ (λ b. still)
        (λ b. near_put e.description D (record D { offset = n }) h refl (λ calm. refl) (λ calm. absurd (false≢true (sym calm)))
        (by_fd fd e g))
    seek e D (negsuc n) g h = still
