-- The rights that a message is to pass, and those that a receiver gets.
use Rattle.std.proofs.Common.{◌≡◌, ℕ, ◌<◌, Bool, true, false, not, ◌==◌, if◌then◌else◌, List, [], ◌∷◌, ◌++◌, length, min, take, Option}
use Rattle.std.proofs.Common.{Some, None, Result, Ok, Err, refl, ap, sym, subst, ◌∙◌, append_assoc, arith}
use Rattle.std.specs.Prelude.{option_map, ◌||◌, IsTrue, IsSomeAnd}
use Rattle.std.proofs.lemmas.Bool.{ne_eqb}
use Rattle.std.proofs.lemmas.List.{append-nil, take_min}
use Rattle.ux_model.specs.Types.{Addr, Cred, Errno, Refusal, Reply}
use Rattle.ux_model.specs.Places.{place}
use Rattle.ux_model.specs.Control.{Control}
use Rattle.ux_model.specs.ControlReading.{control_in}
use Rattle.ux_model.specs.Message.{Message, message}
use Rattle.ux_model.specs.Front.{OnFrontOf, OnFront}
use Rattle.ux_model.specs.Delivery.{install_count}
use Rattle.ux_model.specs.Socket.{Socket}
use Rattle.ux_model.specs.Process.{Process, Descriptor, free_numbers, own_cred}
use Rattle.ux_model.specs.Outcome.{Outcome, refuse, as_process}
use Rattle.ux_model.specs.State.{State, socket_at, process_at, table_of, is_live}
use Rattle.ux_model.specs.References.{times}
use Rattle.ux_model.specs.Sending.{Sending, sending, descriptions_behind, message_of, flight_limit, is_sendable_addr, is_sendable_control}
use Rattle.ux_model.specs.Sending.{sender_cred_refusal, sent_cred, reading_control, send_from, send_with}
use Rattle.ux_model.proofs.Steps.MessageCalls.{behind_counts, front_counts}
use Rattle.ux_cmsg.proofs.Collecting.{has_bytes}
use Rattle.ux_fdtable.proofs.Installing.{few_empty}
use Rattle.ux_state.specs.Moves.{AreReferenced}
use Rattle.ux_msg.specs.Answers.{Gives, GivesRefusal}
use Rattle.ux_msg.specs.Sendings.{IsRefusedBehind, send_from_at, send_with_at, write_socket_at}

-- ---- sending

-- one more number is open
pub one_behind : (T : List (Option Descriptor)) (n : ℕ) (e : Descriptor) (ns rights : List ℕ) → place T n ≡ Some e →
    option_map (λ ds. rights ++ ds) (descriptions_behind T (n ∷ ns)) ≡ option_map
    (λ ds. (rights ++ e.description ∷ []) ++ ds) (descriptions_behind T ns)
one_behind T n e ns rights is_open =
    ap (λ (o : Option Descriptor). option_map (λ ds. rights ++ ds) (elim o as (λ _. Option (List ℕ)) [
      | None ↦ None
      | Some e ↦ elim (descriptions_behind T ns) as (λ _. Option (List ℕ)) [ None ↦ None | Some ds ↦ Some (e.description ∷ ds) ]
    ])) is_open ∙ go (descriptions_behind T ns)
  where
    go : (r : Option (List ℕ)) → option_map (λ ds. rights ++ ds)
        (elim r as (λ _. Option (List ℕ)) [ None ↦ None | Some ds ↦ Some (e.description ∷ ds) ]) ≡ option_map
        (λ ds. (rights ++ e.description ∷ []) ++ ds) r
    go None = refl
    go (Some ds) = ap Some (sym (append_assoc rights (e.description ∷ []) ds))

-- a number isn't
pub none_behind : (T : List (Option Descriptor)) (n : ℕ) (ns : List ℕ) → place T n ≡ None → descriptions_behind T (n ∷ ns) ≡ None
none_behind T n ns closed =
    ap (λ (o : Option Descriptor). elim o as (λ _. Option (List ℕ)) [
      | None ↦ None
      | Some e ↦ elim (descriptions_behind T ns) as (λ _. Option (List ℕ)) [ None ↦ None | Some ds ↦ Some (e.description ∷ ds) ]
    ]) closed

pub all_behind : (rights : List ℕ) → option_map (λ ds. rights ++ ds) (Some []) ≡ Some rights
all_behind rights = ap Some (append-nil rights)

-- something refers to each of them
pub behind_referenced : (S : State) (p : ℕ) (ns ds : List ℕ) → descriptions_behind (table_of S p) ns ≡ Some ds → AreReferenced S ds
behind_referenced S p ns ds h k some = behind_counts S p k ns ds h some

-- rights come from bytes
pub needs_bytes : (bytes : List ℕ) (control : Control) → control_in bytes ≡ Some control → 0 < length control.rights →
    (length bytes == 0) ≡ false
needs_bytes bytes control reads some =
    let long : 0 < length bytes = has_bytes bytes control reads (λ none. let z = ap length none in absurd (omega (arith, z, some))) in
    ne_eqb (length bytes) 0 (λ e. absurd (omega (arith, long, e)))

-- ---- receiving

-- what comes with the bytes has references
pub front_referenced : (S : State) (d n : ℕ) (s : Socket) (rights : List ℕ) → socket_at S d ≡ Some s → 0 < length s.queue →
    OnFront n s (λ f. rights ≡ f.rights) → AreReferenced S rights
front_referenced S d n s rights h some front = by_queue s.queue refl some front
  where
    by_queue : (q : List Message) → s.queue ≡ q → 0 < length q → OnFrontOf n s q (λ f. rights ≡ f.rights) → AreReferenced S rights
    by_queue [] is some front = absurd (omega (arith, some))
    by_queue (m ∷ ms) is some front = λ k counted.
        let all = front_counts S d n k s m ms h is in
        let same = ap (times k) front in
        omega (arith, all, same, counted)

-- as many numbers as rights and space ask for, and as the table has: a limit on the numbers of a table leaves out none
pub planned : (count space limit : ℕ) (T : List (Option Descriptor)) → length T ≡ limit →
    take (install_count count space limit) (free_numbers T) ≡ take (install_count count space (length (free_numbers T))) (free_numbers T)
planned count space limit T long =
    let few = few_empty 0 T in
    let same : min (install_count count space limit) (length (free_numbers T)) ≡ install_count count space (length (free_numbers T)) =
    omega (arith, few, long) in
    sym (take_min (install_count count space limit) (free_numbers T)) ∙ ap (λ n. take n (free_numbers T)) same

-- ---- what a send answers, by what its code found

-- of a process that lives
pub on_live : (S : State) (p : ℕ) (rest : Process → Outcome) (Q : Outcome → Type 0) → IsTrue (is_live S p) → ((P : Process) → Q (rest P)) →
    Q (as_process S p rest)
on_live S p rest Q live all = go (process_at S p) live
  where
    go : (o : Option Process) → IsTrue (elim o as (λ _. Bool) [ Some P ↦ not P.exited | None ↦ false ]) →
        Q (elim o as (λ _. Outcome) [ None ↦ refuse S Errno.ESRCH | Some P ↦ rest P ])
    go None live = absurd (cc live)
    go (Some P) live = all P

-- a right that isn't open, or no memory for the references
refused_at : (S : State) (k : Sending) (d : ℕ) (s : Socket) (buffer : List ℕ) (control : Control) (refusal : Refusal) →
    control_in buffer ≡ Some control →
    is_sendable_control s.kind k.bytes control ≡ true → IsRefusedBehind (table_of S k.caller) control.rights refusal →
    GivesRefusal S (reading_control buffer (send_with S k d s control)) refusal S
unfolding send_with
refused_at S k d s buffer control (Refusal.Answer e) reads ok (is, none) = rw (ok, none) (ap (λ x. Reply.Err x) is, refl)
refused_at S k d s buffer control Refusal.NoMemory reads ok some = rw (needs_bytes buffer control reads some) (refl, refl)

abbrev sending_at : State → Sending → ℕ → List ℕ → Control → Option Socket → Outcome
sending_at S k d buffer control o = reading_control buffer (elim o [ None ↦ refuse S Errno.EBADF | Some s ↦ send_with S k d s control ])

pub refused_behind : (S : State) (k : Sending) (d : ℕ) (s : Socket) (buffer : List ℕ) (control : Control) (refusal : Refusal) →
    control_in buffer ≡ Some control → socket_at S d ≡ Some s →
    is_sendable_control s.kind k.bytes control ≡ true → IsRefusedBehind (table_of S k.caller) control.rights refusal →
    GivesRefusal S (reading_control buffer (send_with_at S k d control)) refusal S
refused_behind S k d s buffer control refusal reads here ok refused =
    subst (λ o. GivesRefusal S (sending_at S k d buffer control o) refusal S) (sym here)
    (refused_at S k d s buffer control refusal reads ok refused)

-- reading a control buffer may want memory besides
read_gives : (S T : State) (buffer : List ℕ) (o : Outcome) (r : Result Reply Refusal) → Gives S o r T →
    Gives S (reading_control buffer o) r T
read_gives S T buffer o (Ok reply) g = g
read_gives S T buffer o (Err (Refusal.Answer e)) g = g
read_gives S T buffer o (Err Refusal.NoMemory) g = (wanted (not (length buffer == 0)) o.may_lack_memory g.0, g.1)
  where
    wanted : (a b : Bool) → IsTrue b → IsTrue (a || b)
    wanted true b h = refl
    wanted false b h = h

-- the credentials and the user that a message of process p reports, where these may be given, and the limit of rights in flight
abbrev pub AreTold : State → ℕ → Option Cred → Cred → ℕ → Option ℕ → Process → Type 0
AreTold S p given cred uid limit P = (sender_cred_refusal S p P given ≡ None) × (cred ≡ sent_cred p P given) × (uid ≡ P.uid)
    × (limit ≡ flight_limit P)

-- by what the code found of them
pub told : (S : State) (p : ℕ) (given : Option Cred) (cred own : Cred) (limit : Option ℕ) →
    IsSomeAnd (process_at S p) (λ P. (sender_cred_refusal S p P given ≡ None) × (cred ≡ sent_cred p P given)) →
    IsSomeAnd (process_at S p) (λ P. own ≡ own_cred p P) → IsSomeAnd (process_at S p) (λ P. limit ≡ flight_limit P) →
    IsSomeAnd (process_at S p) (AreTold S p given cred own.uid limit)
told S p given cred own limit may by most = go (process_at S p) may by most
  where
    go : (o : Option Process) → IsSomeAnd o (λ P. (sender_cred_refusal S p P given ≡ None) × (cred ≡ sent_cred p P given)) →
        IsSomeAnd o (λ P. own ≡ own_cred p P) → IsSomeAnd o (λ P. limit ≡ flight_limit P) →
        IsSomeAnd o (AreTold S p given cred own.uid limit)
    go None may by most = absurd may
    go (Some P) (may, is) by most = (may, is, ap Cred.uid by, most)

-- what is sent, when nothing is refused before
sent_at : (S T : State) (k : Sending) (d : ℕ) (s : Socket) (rights : List ℕ) (control : Control) (r : Result Reply Refusal) →
    is_sendable_control s.kind k.bytes control ≡ true →
    descriptions_behind (table_of S k.caller) control.rights ≡ Some rights → sender_cred_refusal S k.caller k.process control.cred ≡ None →
    is_sendable_addr k.addr ≡ true →
    Gives S (send_from S (flight_limit k.process) d s k.addr (message_of k (sent_cred k.caller k.process control.cred) rights)) r T →
    Gives S (send_with S k d s control) r T
unfolding send_with
sent_at S T k d s rights control r ok behind given sendable g = rw (ok, behind)
    (subst (λ (o : Option Errno). Gives S (elim o as (λ _. Outcome) [
      | Some e ↦ refuse S e
      | None ↦ if not (is_sendable_addr k.addr) then refuse S Errno.EINVAL
          else send_from S (flight_limit k.process) d s k.addr (message_of k (sent_cred k.caller k.process control.cred) rights)
    ]) r T) (sym given) (rw sendable g))

pub sent_behind : (S T : State) (p tag d : ℕ) (s : Socket) (cred : Cred) (uid : ℕ) (limit : Option ℕ) (addr : Option Addr)
    (bytes buffer rights : List ℕ) (control : Control) (r : Result Reply Refusal) → socket_at S d ≡ Some s →
    is_sendable_control s.kind bytes control ≡ true → descriptions_behind (table_of S p) control.rights ≡ Some rights →
    is_sendable_addr addr ≡ true → IsSomeAnd (process_at S p) (AreTold S p control.cred cred uid limit) →
    Gives S (send_from_at S limit d addr (message tag bytes rights cred uid None)) r T →
    Gives S (as_process S p (λ P. reading_control buffer (send_with_at S (sending tag p P addr bytes) d control))) r T
sent_behind S T p tag d s cred uid limit addr bytes buffer rights control r here ok behind sendable told g = go (process_at S p) told
  where
    sent : Gives S (send_from S limit d s addr (message tag bytes rights cred uid None)) r T
    sent = subst (λ o. Gives S (elim o as (λ _. Outcome)
        [ None ↦ refuse S Errno.EBADF | Some s ↦ send_from S limit d s addr (message tag bytes rights cred uid None) ]) r T) here g

    go : (o : Option Process) → IsSomeAnd o (AreTold S p control.cred cred uid limit) →
        Gives S (elim o as (λ _. Outcome) [
          | None ↦ refuse S Errno.ESRCH
          | Some P ↦ sending_at S (sending tag p P addr bytes) d buffer control (socket_at S d)
        ]) r T
    go None told = absurd told
    go (Some P) (may, is, by, most) = subst (λ o. Gives S (sending_at S (sending tag p P addr bytes) d buffer control o) r T) (sym here)
        (read_gives S T buffer (send_with S (sending tag p P addr bytes) d s control) r
        (sent_at S T (sending tag p P addr bytes) d s rights control r ok behind may sendable
        (subst (λ (x : Cred × ℕ × Option ℕ). Gives S (send_from S x.2 d s addr (message tag bytes rights x.0 x.1 None)) r T)
        (λ j. (is j, by j, most j)) sent)))

-- write(2) on a socket
pub written : (S T : State) (p tag d : ℕ) (cred : Cred) (limit : Option ℕ) (bytes rights : List ℕ) (r : Result Reply Refusal) →
    rights ≡ [] → IsSomeAnd (process_at S p) (λ P. cred ≡ own_cred p P) →
    IsSomeAnd (process_at S p) (λ P. limit ≡ flight_limit P) →
    Gives S (send_from_at S limit d None (message tag bytes rights cred cred.uid None)) r T → Gives S (write_socket_at S p tag d bytes) r T
written S T p tag d cred limit bytes rights r none own most g =
    at_socket (socket_at S d) (subst (λ rs. Gives S (send_from_at S limit d None (message tag bytes rs cred cred.uid None)) r T) none g)
  where
    sends : Option ℕ → Cred → Socket → Outcome
    sends limit cred s = send_from S limit d s None (message tag bytes [] cred cred.uid None)

    by_process : (s : Socket) (o : Option Process) → IsSomeAnd o (λ P. cred ≡ own_cred p P) → IsSomeAnd o (λ P. limit ≡ flight_limit P) →
        Gives S (sends limit cred s) r T →
        Gives S (elim o as (λ _. Outcome) [ None ↦ refuse S Errno.ESRCH | Some P ↦ sends (flight_limit P) (own_cred p P) s ]) r T
    by_process s None own most g = absurd own
    by_process s (Some P) own most g = subst (λ (x : Option ℕ × Cred). Gives S (sends x.0 x.1 s) r T) (λ j. (most j, own j)) g

    at_socket : (o : Option Socket) → Gives S (elim o as (λ _. Outcome) [ None ↦ refuse S Errno.EBADF | Some s ↦ sends limit cred s ]) r T →
        Gives S (elim o as (λ _. Outcome) [
          | None ↦ refuse S Errno.EBADF
          | Some s ↦ as_process S p
              (λ P. sends (flight_limit P) (own_cred p P) s)
        ]) r T
    at_socket None g = g
    at_socket (Some s) g = by_process s (process_at S p) own most g
