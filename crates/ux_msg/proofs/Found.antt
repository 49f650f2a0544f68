-- What a number of a process leads to.
use Rattle.std.proofs.Common.{◌≡◌, ℕ, ◌<◌, ◌≤◌, length, Bool, true, false, not, ◌⊎◌, inl, inr, if◌then◌else◌, List, Option, Some, None}
use Rattle.std.proofs.Common.{Result, Ok, Err, sym, ◌∙◌, ap, subst, refl}
use Rattle.std.specs.Prelude.{IsSomeAnd, IfOk}
use Rattle.std.proofs.lemmas.Option.{none-some}
use Rattle.std.proofs.lemmas.List.{get_or_past}
use Rattle.std.proofs.lemmas.Bool.{cases_lt}
use Rattle.ux_model.specs.Types.{Errno, Refusal, Fd, Addr, SockType, MsgFlags, Request, Reply, Done}
use Rattle.ux_model.specs.Flags.{are_send_flags, are_receive_flags, no_flags}
use Rattle.ux_model.specs.Control.{Control}
use Rattle.ux_model.specs.ControlReading.{control_in}
use Rattle.ux_model.specs.Names.{PathTarget, file, bound, named}
use Rattle.ux_model.specs.Message.{Message}
use Rattle.ux_model.specs.Socket.{Socket}
use Rattle.ux_model.specs.Binding.{same_kind, socket_of_kind, socket_of_target, look_up}
use Rattle.ux_model.specs.Description.{Description}
use Rattle.ux_model.specs.Process.{Process, Descriptor}
use Rattle.ux_model.specs.State.{State, description_at, socket_at, process_at, table_of}
use Rattle.ux_model.specs.References.{refs}
use Rattle.ux_model.proofs.Changes.Named.{entry_counts}
use Rattle.ux_model.proofs.Tables.Shows.{socket_found}
use Rattle.ux_model.specs.Outcome.{Outcome, refuse, descriptor_at, find_description, find_socket, on_socket, as_process}
use Rattle.ux_msg.specs.Answers.{Gives}
use Rattle.ux_model.specs.Receiving.{incoming, receive, recv_msg, bytes_alone, read_socket}
use Rattle.ux_model.specs.Sending.{sending, on_target, send_with, send_read, reading_control, send_msg}
use Rattle.ux_msg.specs.Receipts.{receive_at, read_socket_at, brought_at}
use Rattle.ux_model.specs.Delivered.{Brought, nothing_brought, brought_from, brought, told_of, delivered_by}
use Rattle.ux_msg.specs.Sendings.{send_to_target, send_with_at}

-- the entry, and its description
pub record IsFound (S : State) (p : ℕ) (fd : Fd) (e : Descriptor) (D : Description) : Type 0 where
  pub entry : descriptor_at S p fd ≡ Some e
  pub description : description_at S e.description ≡ Some D

pub found : (S : State) (p : ℕ) (fd : Fd) (e : Descriptor) (D : Description) → find_description S p fd ≡ Ok (e, D) → IsFound S p fd e D
found S p fd e D h = outer (descriptor_at S p fd) refl h
  where
    inner : (x : Descriptor) (o : Option Description) → descriptor_at S p fd ≡ Some x → description_at S x.description ≡ o →
        (elim o as (λ _. Result (Descriptor × Description) Errno) [ None ↦ Err Errno.EBADF | Some D ↦ Ok (x, D) ]) ≡ Ok (e, D) →
        IsFound S p fd e D
    inner x None f k r = cc
    inner x (Some y) f k r =
        let same : ◌≡◌ {A = Descriptor × Description} (x, y) (e, D) = cc in
        let one : x ≡ e = ap (λ q. q.0) same in
        let two : y ≡ D = ap (λ q. q.1) same in
        record {
          entry = f ∙ ap (λ z. Some z) one;
          description = ap (λ z. description_at S (Descriptor.description z)) (sym one) ∙ k
              ∙ ap (λ z. Some z) two;
        }

    outer : (o : Option Descriptor) → descriptor_at S p fd ≡ o →
        (elim o as (λ _. Result (Descriptor × Description) Errno) [
          | None ↦ Err Errno.EBADF
          | Some x ↦ elim (description_at S x.description) as
              (λ _. Result (Descriptor × Description) Errno) [ None ↦ Err Errno.EBADF | Some D ↦ Ok (x, D) ]
        ]) ≡ Ok (e, D) → IsFound S p fd e D
    outer None f r = cc
    outer (Some x) f r = inner x (description_at S x.description) f refl r

-- a number that is open is below the limit
pub open_inside : (S : State) (p : ℕ) (fd : Fd) (e : Descriptor) (D : Description) → find_description S p fd ≡ Ok (e, D) →
    fd.0 < length (table_of S p)
open_inside S p fd e D h = go (cases_lt fd.0 (length (table_of S p)))
  where
    go : (fd.0 < length (table_of S p)) ⊎ (length (table_of S p) ≤ fd.0) → fd.0 < length (table_of S p)
    go (inl inside) = inside
    go (inr past) = absurd (none-some e (sym (get_or_past (table_of S p) fd.0 None past) ∙ (found S p fd e D h).entry))

pub found_held : (S : State) (p : ℕ) (fd : Fd) (e : Descriptor) (D : Description) → find_description S p fd ≡ Ok (e, D) →
    0 < refs S e.description
found_held S p fd e D h = entry_counts S p fd.0 e (found S p fd e D h).entry

pub received_at : (S : State) (p : ℕ) (fd : Fd) (n space : ℕ) (flags : MsgFlags) (d : ℕ) (s : Socket) → find_socket S p fd ≡ Ok (d, s) →
    are_receive_flags flags ≡ true →
    receive_at S p d (incoming n space flags) ≡ recv_msg S p fd n space flags
unfolding recv_msg
received_at S p fd n space flags d s h ok =
    ap (λ o. elim o as (λ _. Outcome) [ None ↦ refuse S Errno.EBADF | Some s ↦ receive S p d s (incoming n space flags) ])
    (socket_found S p d fd s h)
    ∙ ap (λ b. if not b then refuse S Errno.EINVAL else receive S p d s (incoming n space flags)) (sym ok)
    ∙ sym (ap (λ r. elim r as (λ _. Outcome) [
      | Err e ↦ refuse S e
      | Ok found ↦ if not (are_receive_flags flags) then refuse S Errno.EINVAL else receive S p found.0 found.1 (incoming n space flags)
    ]) h)

pub received_gives : (S T : State) (p : ℕ) (fd : Fd) (n space : ℕ) (flags : MsgFlags) (d k : ℕ) (s : Socket) (r : Result Reply Refusal) →
    find_socket S p fd ≡ Ok (d, s) → are_receive_flags flags ≡ true →
    Gives S (receive_at S p k (incoming n space flags)) r T → k ≡ d → Gives S (recv_msg S p fd n space flags) r T
received_gives S T p fd n space flags d k s r h ok g same =
    let P : Outcome → Type 0 = λ o. Gives S o r T in
    subst P (ap (λ x. receive_at S p x (incoming n space flags)) same ∙ received_at S p fd n space flags d s h ok) g

-- and what it brings is what the call does
pub received_delivered : (S : State) (p : ℕ) (fd : Fd) (n space : ℕ) (flags : MsgFlags) (d k : ℕ) (s : Socket) (r : Result Done Refusal) →
    find_socket S p fd ≡ Ok (d, s) → k ≡ d →
    IfOk r (λ done. done.delivered ≡ told_of (brought_at S p k n space) done.reply) →
    IfOk r (λ done. done.delivered ≡ delivered_by S p (Request.RecvMsg fd n space flags) done.reply)
received_delivered S p fd n space flags d k s r h same told =
    let here : socket_at S k ≡ Some s = ap (socket_at S) same ∙ socket_found S p d fd s h in
    let there : brought_at S p k n space ≡ brought_from s n space (table_of S p) s.queue =
    ap (λ o. elim o as (λ _. Brought) [ None ↦ nothing_brought | Some s ↦ brought_from s n space (table_of S p) s.queue ]) here in
    let call : brought S p (Request.RecvMsg fd n space flags) ≡ brought_from s n space (table_of S p) s.queue =
    ap (λ r. elim r as (λ _. Brought) [ Err e ↦ nothing_brought | Ok w ↦ brought_from w.1 n space (table_of S p) w.1.queue ]) h in
    subst (λ (b : Brought). IfOk r (λ done. done.delivered ≡ told_of b done.reply)) (there ∙ sym call) told

-- read(2) reports the bytes alone
pub read_gives : (S T : State) (p d n : ℕ) (bytes reply : Reply) → bytes ≡ bytes_alone reply →
    (reply ≡ (receive_at S p d (incoming n 0 no_flags)).reply) × (T ≡ (receive_at S p d (incoming n 0 no_flags)).next) →
    (bytes ≡ (read_socket_at S p d n).reply) × (T ≡ (read_socket_at S p d n).next)
read_gives S T p d n bytes reply alone g = go (socket_at S d) g
  where
    go : (o : Option Socket) → let receives : Option Socket →
        Outcome = λ o. elim o as (λ _. Outcome) [ None ↦ refuse S Errno.EBADF | Some s ↦ receive S p d s (incoming n 0 no_flags) ] in
        let reads : Option Socket → Outcome = λ o. elim o as
        (λ _. Outcome) [ None ↦ refuse S Errno.EBADF | Some s ↦ read_socket S p d s n ] in
        (reply ≡ (receives o).reply) × (T ≡ (receives o).next) → (bytes ≡ (reads o).reply) × (T ≡ (reads o).next)
    go None g = (alone ∙ ap bytes_alone g.0, g.1)
    go (Some s) g = (alone ∙ ap bytes_alone g.0, g.1)

-- ---- by its name

-- the socket that an address leads to is there
pub looked_up : (S : State) (kind : SockType) (addr : Addr) (t : ℕ) (u : Socket) → look_up S kind addr ≡ Ok (t, u) → socket_at S t ≡ Some u
looked_up S kind addr t u h = by_addr addr h
  where
    typed : ℕ → Socket → Bool → Result (ℕ × Socket) Errno
    typed d s b = if b then Ok (d, s) else Err Errno.EPROTOTYPE

    by_kind : (d : ℕ) (s : Socket) → socket_at S d ≡ Some s → (b : Bool) → typed d s b ≡ Ok (t, u) → socket_at S t ≡ Some u
    by_kind d s here false h = absurd (cc h)
    by_kind d s here true h =
        let same : ◌≡◌ {A = ℕ × Socket} (d, s) (t, u) = cc h in
        ap (λ q. socket_at S q.0) (sym same) ∙ here ∙ ap (λ q. Some q.1) same

    at_number : (d : ℕ) (o : Option Socket) → socket_at S d ≡ o →
        (elim o as (λ _. Result (ℕ × Socket) Errno) [ None ↦ Err Errno.ECONNREFUSED | Some s ↦ typed d s (same_kind kind s.kind) ]) ≡ Ok
        (t, u) → socket_at S t ≡ Some u
    at_number d None here h = absurd (cc h)
    at_number d (Some s) here h = by_kind d s here (same_kind kind s.kind) h

    at_path : (o : Option PathTarget) → (elim o as
        (λ _. Result (ℕ × Socket) Errno) [ None ↦ Err Errno.ENOENT | Some x ↦ socket_of_target S kind x ]) ≡ Ok (t, u) →
        socket_at S t ≡ Some u
    at_path None h = absurd (cc h)
    at_path (Some (file o)) h = absurd (cc h)
    at_path (Some (bound d)) h = at_number d (socket_at S d) refl h

    at_name : (o : Option ℕ) → (elim o as (λ _. Result (ℕ × Socket) Errno)
        [ None ↦ Err Errno.ECONNREFUSED | Some d ↦ socket_of_kind S kind d ]) ≡ Ok (t, u) → socket_at S t ≡ Some u
    at_name None h = absurd (cc h)
    at_name (Some d) h = at_number d (socket_at S d) refl h

    by_addr : (a : Addr) → look_up S kind a ≡ Ok (t, u) → socket_at S t ≡ Some u
    by_addr Addr.Unnamed h = absurd (cc h)
    by_addr (Addr.Path name) h = at_path (named name S.paths) h
    by_addr (Addr.Abstract name) h = at_name (named name S.abstract_names) h

-- a datagram to it
pub named_gives : (S T : State) (limit : Option ℕ) (d t k : ℕ) (s u : Socket) (addr : Addr) (m : Socket → Message)
    (r : Result Reply Refusal) → socket_at S d ≡ Some s → look_up S s.kind addr ≡ Ok (t, u) →
    IsSomeAnd (socket_at S d) (λ x. IsSomeAnd (socket_at S k) (λ y. Gives S (send_to_target S limit d k y (m x)) r T)) → k ≡ t →
    IsSomeAnd (socket_at S d) (λ x. Gives S (on_target S d x (Some addr) (λ n target. send_to_target S limit d n target (m x))) r T)
named_gives S T limit d t k s u addr m r here found gives same =
    let there = looked_up S s.kind addr t u found in
    let one : IsSomeAnd (socket_at S k) (λ y. Gives S (send_to_target S limit d k y (m s)) r T) =
    subst (λ o. IsSomeAnd o (λ x. IsSomeAnd (socket_at S k) (λ y. Gives S (send_to_target S limit d k y (m x)) r T))) here gives in
    let two : IsSomeAnd (socket_at S t) (λ y. Gives S (send_to_target S limit d t y (m s)) r T) =
    subst (λ k. IsSomeAnd (socket_at S k) (λ y. Gives S (send_to_target S limit d k y (m s)) r T)) same one in
    let three : Gives S (send_to_target S limit d t u (m s)) r T =
    subst (λ o. IsSomeAnd o (λ y. Gives S (send_to_target S limit d t y (m s)) r T)) there two in
    let four : Gives S (on_target S d s (Some addr) (λ n target. send_to_target S limit d n target (m s))) r T =
    subst (λ (x : Result (ℕ × Socket) Errno).
    Gives S (elim x as (λ _. Outcome) [ Err e ↦ refuse S e | Ok f ↦ send_to_target S limit d f.0 f.1 (m s) ]) r T) (sym found) three in
    subst (λ o. IsSomeAnd o (λ x. Gives S (on_target S d x (Some addr) (λ n target. send_to_target S limit d n target (m x))) r T))
    (sym here) four

-- ---- sends

pub sent_gives : (S T : State) (p tag : ℕ) (fd : Fd) (addr : Option Addr) (bytes buffer : List ℕ) (control : Control) (flags : MsgFlags)
    (d k : ℕ) (s : Socket) (r : Result Reply Refusal) → find_socket S p fd ≡ Ok (d, s) →
    are_send_flags flags ≡ true → control_in buffer ≡ Some control →
    Gives S (as_process S p (λ P. reading_control buffer (send_with_at S (sending tag p P addr bytes) k control))) r T → k ≡ d →
    Gives S (send_msg S p tag fd addr bytes buffer flags) r T
unfolding send_msg send_read
sent_gives S T p tag fd addr bytes buffer control flags d k s r h ok reads g same = go (process_at S p) g
  where
    at_socket : Process → ℕ → Option Socket → Outcome
    at_socket P d o = reading_control buffer
        (elim o as (λ _. Outcome) [ None ↦ refuse S Errno.EBADF | Some s ↦ send_with S (sending tag p P addr bytes) d s control ])

    allowed : Process → ℕ → Socket → Bool → Outcome
    allowed P d s b = if not b then refuse S Errno.EINVAL
        else reading_control buffer (send_read S (sending tag p P addr bytes) d s (control_in buffer))

    found_at : Process → Result (ℕ × Socket) Errno → Outcome
    found_at P x = elim x [ Err e ↦ refuse S e | Ok f ↦ allowed P f.0 f.1 (are_send_flags flags) ]

    here : socket_at S k ≡ Some s
    here = ap (socket_at S) same ∙ socket_found S p d fd s h

    go : (o : Option Process) → Gives S (elim o as (λ _. Outcome) [ None ↦ refuse S Errno.ESRCH | Some P ↦ at_socket P k (socket_at S k) ])
        r T →
        Gives S (elim o as (λ _. Outcome) [
          | None ↦ refuse S Errno.ESRCH
          | Some P ↦ on_socket S p fd (λ d s. if not (are_send_flags flags) then refuse S Errno.EINVAL
              else reading_control buffer (send_read S (sending tag p P addr bytes) d s (control_in buffer)))
        ]) r T
    go None g = g
    go (Some P) g =
        let at : Gives S (at_socket P d (Some s)) r T =
        subst (λ n. Gives S (at_socket P n (Some s)) r T) same (subst (λ o. Gives S (at_socket P k o) r T) here g) in
        subst (λ x. Gives S (found_at P x) r T) (sym h)
        (subst (λ b. Gives S (allowed P d s b) r T) (sym ok)
        (subst (λ c. Gives S (reading_control buffer (send_read S (sending tag p P addr bytes) d s c)) r T) (sym reads) at))
