-- What a receive or a read gives of a record: its bytes, cut to as many as were asked for, and told so.
use Rattle.std.proofs.Common.{◌≡◌, ◌⊎◌, ℕ, suc, ◌==◌, Bool, true, false, not, ◌&&◌, if◌then◌else◌, List, [], ◌∷◌, length, take, min, Option}
use Rattle.std.proofs.Common.{Some, None, refl, ap, sym, ◌∙◌, subst, inl, inr, arith, slice_get}
use Rattle.std.specs.Prelude.{nat_lt}
use Rattle.std.proofs.lemmas.Bool.{false≢true, and_parts, ltb-true, ltb-false, lt-ltb, le-ltb}
use Rattle.std.proofs.lemmas.List.{length-take}
use Rattle.ux_model.specs.Types.{Errno, Fd, Addr, MsgFlags, Request, Reply}
use Rattle.ux_model.specs.Limits.{read_limit}
use Rattle.ux_model.specs.Flags.{has_bits, msg_trunc, received_flags, are_receive_flags, asks_real_length, no_flags}
use Rattle.ux_model.specs.Message.{Message}
use Rattle.ux_model.specs.Front.{Front, front_of, stream_front, record_front}
use Rattle.ux_model.specs.Socket.{Socket, is_stream}
use Rattle.ux_model.specs.State.{State}
use Rattle.ux_model.specs.Outcome.{Outcome, Chosen, own, lacking_memory, failing}
use Rattle.ux_model.specs.Receiving.{Incoming, incoming, receive_front, receive, recv_msg, bytes_alone}
use Rattle.ux_model.specs.Reading.{read}
use Rattle.ux_model.specs.Step.{Step, outcome}
use Rattle.ux_model.specs.Pedigree.{before}
use Rattle.ux_model.proofs.Changes.Walk.{either, by_target, found}
use Rattle.ux_model.proofs.Lists.ChangedPlaces.{bool_cases}
use Rattle.ux_model.proofs.Pedigrees.Moments.{moment}
use Rattle.ux_model.proofs.Tables.Shows.{by_socket}
use Rattle.ux_model.proofs.Tables.MessageShows.{by_receive}
use Rattle.ux_laws.specs.Talking.{socket_through}
use Rattle.ux_laws.specs.Records.{IsGiven, RecordsArriveWhole, ReadRecordsArriveWhole}
use Rattle.ux_laws.proofs.Doing.Outcomes.{through_is}
use Rattle.ux_laws.proofs.Doing.Files.{no_socket_at, found_at}

-- where fewer bytes are given than there were, MSG_TRUNC says so
trunc_told : (cut control_cut ends_record : Bool) → has_bits (received_flags cut control_cut ends_record).0 msg_trunc ≡ cut
trunc_told true true true = refl
trunc_told true true false = refl
trunc_told true false true = refl
trunc_told true false false = refl
trunc_told false true true = refl
trunc_told false true false = refl
trunc_told false false true = refl
trunc_told false false false = refl

cut_told : (n : ℕ) (xs : List ℕ) → nat_lt (length (take n xs)) (length xs) ≡ nat_lt n (length xs)
cut_told n xs = bool_cases (nat_lt n (length xs))
    (λ e. let less = ltb-true n (length xs) e in let l = length-take n xs in
    lt-ltb (length (take n xs)) (length xs) (omega (arith, less, l)) ∙ sym e)
    (λ e. let more = ltb-false n (length xs) e in let l = length-take n xs in
    le-ltb (length (take n xs)) (length xs) (omega (arith, more, l)) ∙ sym e)

-- ---- a receive

abbrev Gives : Message → ℕ → MsgFlags → Reply → Type 0
Gives m n asked reply = (flags : MsgFlags) (count : ℕ) (bytes control : List ℕ) (from : Option Addr) →
    reply ≡ Reply.Received flags count bytes control from → IsGiven m n asked flags count bytes from

abbrev flags_of : Reply → MsgFlags
flags_of (Reply.Received flags count bytes control from) = flags
flags_of _ = no_flags

abbrev count_of : Reply → ℕ
count_of (Reply.Received flags count bytes control from) = count
count_of _ = 0

abbrev bytes_of : Reply → List ℕ
bytes_of (Reply.Received flags count bytes control from) = bytes
bytes_of _ = []

abbrev from_of : Reply → Option Addr
from_of (Reply.Received flags count bytes control from) = from
from_of _ = None

gives_front : (asked : MsgFlags) (n : ℕ) (m : Message) (ms : List Message) (front : Front) (control_cut ends_record : Bool)
    (control : List ℕ) → front ≡ record_front n m ms →
    Gives m n asked (Reply.Received (received_flags (nat_lt (length front.bytes) front.whole) control_cut ends_record)
    (if asks_real_length asked then front.whole else length front.bytes) front.bytes control front.from)
gives_front asked n m ms front cut ends control is flags count bytes ctl from h =
    let b : front.bytes ≡ bytes = ap bytes_of h in
    let given : bytes ≡ take n m.bytes = sym b ∙ ap (λ (f : Front). f.bytes) is in
    record {
      cut = given;
      truncated = ap (λ (r : Reply). has_bits (flags_of r).0 msg_trunc) (sym h)
          ∙ trunc_told (nat_lt (length front.bytes) front.whole) cut ends
          ∙ ap (λ (f : Front). nat_lt (length f.bytes) f.whole) is ∙ cut_told n m.bytes;
      counted = ap count_of (sym h) ∙ ap (λ (f : Front). if asks_real_length asked then f.whole else length f.bytes) is
          ∙ ap (λ (l : List ℕ). if asks_real_length asked then length m.bytes else length l) (sym given);
      sender = ap from_of (sym h) ∙ ap (λ (f : Front). f.from) is;
    }

front_gives : (S : State) (p d : ℕ) (s : Socket) (asked : Incoming) (m : Message) (ms : List Message) → is_stream s.kind ≡ false →
    Gives m asked.n asked.flags (receive_front S p d s asked (front_of asked.n s m ms)).reply
unfolding receive_front
front_gives S p d s asked m ms kind = gives_front asked.flags asked.n m ms (front_of asked.n s m ms) _ _ _
    (ap (λ b. if b then stream_front s.passcred asked.n m ms else record_front asked.n m ms) kind)

-- what waits at the socket, by what was found
abbrev Waits : State → ℕ → Request → Message → Type 0
Waits S p request m = (d : ℕ) × (s : Socket) × (ms : List Message) × (socket_through S p request ≡ Some (d, s)) × (is_stream s.kind ≡ false)
    × (s.queue ≡ m ∷ ms)

-- the same socket
socket_same : (d e : ℕ) (s u : Socket) (o : Option (ℕ × Socket)) → o ≡ Some (d, s) → o ≡ Some (e, u) → s ≡ u
socket_same d e s u o h k = ap (λ (x : Option (ℕ × Socket)). elim x as (λ _. Socket) [ None ↦ s | Some w ↦ w.1 ]) (sym h ∙ k)

taken_nothing : (s : Socket) (n : ℕ) (m : Message) (ms : List Message) → is_stream s.kind ≡ false → s.queue ≡ m ∷ ms →
    (s.queue ≡ []) ⊎ ((is_stream s.kind && (n == 0)) ≡ true) → ⊥
taken_nothing s n m ms kind q (inl none) = let clash : [] ≡ m ∷ ms = sym none ∙ q in cc clash
taken_nothing s n m ms kind q (inr b) = let parts = and_parts (is_stream s.kind) (n == 0) b in false≢true (sym kind ∙ parts.0)

heads_same : (m x : Message) (ms xs q : List Message) → q ≡ m ∷ ms → q ≡ x ∷ xs → m ≡ x
heads_same m x ms xs q h k = let both : Some m ≡ Some x = sym (ap (λ (l : List Message). slice_get l 0) h)
    ∙ ap (λ (l : List Message). slice_get l 0) k in cc both

recv_gives : (S : State) (p n space : ℕ) (fd : Fd) (asked : MsgFlags) (m : Message) → Waits S p (Request.RecvMsg fd n space asked) m →
    Gives m n asked (recv_msg S p fd n space asked).reply
unfolding recv_msg
recv_gives S p n space fd asked m w = by_socket Q S p fd _ (λ e f c b ctl from h. absurd (cc h))
    (λ d s found there. either Q (not (are_receive_flags asked)) _ _ (λ b f c bs ctl from h. absurd (cc h))
    (λ b. at_socket d s (socket_same w.0 d w.1 s (socket_through S p (Request.RecvMsg fd n space asked)) w.3
    (through_is S p d fd s (Request.RecvMsg fd n space asked) refl found))))
  where
    Q : Outcome → Type 0
    Q o = Gives m n asked o.reply

    at_socket : (d : ℕ) (s : Socket) → w.1 ≡ s → Q (receive S p d s (incoming n space asked))
    at_socket d s same =
        let kind : is_stream s.kind ≡ false = sym (ap (λ (u : Socket). is_stream u.kind) same) ∙ w.4 in
        let queue : s.queue ≡ m ∷ w.2 = sym (ap (λ (u : Socket). u.queue) same) ∙ w.5 in
        by_receive Q S p d s (incoming n space asked) (λ e f c b ctl from h. absurd (cc h)) (λ f c b ctl from h. absurd (cc h))
        (λ none. absurd (taken_nothing s n m w.2 kind queue none))
        (λ x xs q. subst (λ (y : Message). Gives y n asked (receive_front S p d s (incoming n space asked) (front_of n s x xs)).reply)
        (heads_same x m xs w.2 s.queue q queue) (front_gives S p d s (incoming n space asked) x xs kind))

step_gives : (S T : State) (p tag n space : ℕ) (fd : Fd) (asked : MsgFlags) (m : Message) (reply : Reply) (gone : List ℕ) →
    Waits S p (Request.RecvMsg fd n space asked) m →
    Step S p tag (Request.RecvMsg fd n space asked) reply gone T → Gives m n asked reply
unfolding Step outcome
step_gives S T p tag n space fd asked m reply gone w step = chosen reply step.1
  where
    chosen : (reply : Reply) → Chosen S (recv_msg S p fd n space asked) reply step.0 → Gives m n asked reply
    chosen reply (own x f) = subst (Gives m n asked) (sym x) (recv_gives S p n space fd asked m w)
    chosen reply (lacking_memory x may f) = λ f c b ctl from h. let clash : Reply.Err Errno.ENOMEM ≡ Reply.Received f c b ctl from = sym x
        ∙ h in absurd (cc clash)
    chosen reply (failing x f) = λ f c b ctl from h. let clash : Reply.Err Errno.EIO ≡ Reply.Received f c b ctl from = sym x ∙ h in
        absurd (cc clash)

pub records_arrive_whole : RecordsArriveWhole
records_arrive_whole boot es j n space count d e fd asked flags bytes control from s m ms legal at request reply through kind q =
    let S : State = before boot es j in
    let step = (moment boot es j e legal at).steps in
    let moved : Step S e.pid.0 j (Request.RecvMsg fd n space asked) e.reply e.released (before boot es (suc j)) =
    subst (λ (r : Request). Step S e.pid.0 j r e.reply e.released (before boot es (suc j))) request step in
    let led : socket_through S e.pid.0 (Request.RecvMsg fd n space asked) ≡ Some (d, s) = sym (ap (socket_through S e.pid.0) request)
    ∙ through in
    step_gives S (before boot es (suc j)) e.pid.0 j n space fd asked m e.reply e.released (d, s, ms, led, kind, q) moved flags count bytes
    control from reply

-- ---- a read

abbrev ReadGives : Message → ℕ → Reply → Type 0
ReadGives m n reply = (bytes : List ℕ) → reply ≡ Reply.Bytes bytes → bytes ≡ take (min read_limit n) m.bytes

read_front : (S : State) (p d k : ℕ) (s : Socket) (m : Message) (ms : List Message) → is_stream s.kind ≡ false → (bytes : List ℕ) →
    bytes_alone (receive_front S p d s (incoming k 0 no_flags) (front_of k s m ms)).reply ≡ Reply.Bytes bytes → bytes ≡ take k m.bytes
unfolding receive_front
read_front S p d k s m ms kind bytes h =
    let same : (front_of k s m ms).bytes ≡ bytes = cc h in
    sym same ∙ ap (λ b. (if b then stream_front s.passcred k m ms else record_front k m ms).bytes) kind

read_gives : (S : State) (p n : ℕ) (fd : Fd) (m : Message) → Waits S p (Request.Read fd n) m → ReadGives m n (read S p fd n).reply
unfolding read
read_gives S p n fd m w = found Q S p fd _ (λ bytes h. absurd (cc h)) (λ e D g h. by_target Q D.target _ _
    (λ o t. let clash : None ≡ Some (w.0, w.1) = sym (no_socket_at S p o fd (Request.Read fd n) e D refl g h t) ∙ w.3 in absurd (cc clash))
    (λ s t. at_socket e.description s (socket_same w.0 e.description w.1 s (socket_through S p (Request.Read fd n)) w.3
    (through_is S p e.description fd s (Request.Read fd n) refl (found_at S p fd e D s g h t)))))
  where
    Q : Outcome → Type 0
    Q o = ReadGives m n o.reply

    at_socket : (d : ℕ) (s : Socket) → w.1 ≡ s →
        ReadGives m n (bytes_alone (receive S p d s (incoming (min read_limit n) 0 no_flags)).reply)
    at_socket d s same =
        let kind : is_stream s.kind ≡ false = sym (ap (λ (u : Socket). is_stream u.kind) same) ∙ w.4 in
        let queue : s.queue ≡ m ∷ w.2 = sym (ap (λ (u : Socket). u.queue) same) ∙ w.5 in
        by_receive (λ o. ReadGives m n (bytes_alone o.reply)) S p d s (incoming (min read_limit n) 0 no_flags) (λ e bytes h. absurd (cc h))
        (λ bytes h. absurd (cc h))
        (λ none. absurd (taken_nothing s (min read_limit n) m w.2 kind queue none))
        (λ x xs q bytes h. read_front S p d (min read_limit n) s x xs kind bytes h
        ∙ ap (λ (y : Message). take (min read_limit n) y.bytes) (heads_same x m xs w.2 s.queue q queue))

step_read_gives : (S T : State) (p tag n : ℕ) (fd : Fd) (m : Message) (reply : Reply) (gone : List ℕ) → Waits S p (Request.Read fd n) m →
    Step S p tag (Request.Read fd n) reply gone T → ReadGives m n reply
unfolding Step outcome
step_read_gives S T p tag n fd m reply gone w step = chosen reply step.1
  where
    chosen : (reply : Reply) → Chosen S (read S p fd n) reply step.0 → ReadGives m n reply
    chosen reply (own x f) = subst (ReadGives m n) (sym x) (read_gives S p n fd m w)
    chosen reply (lacking_memory x may f) = λ b h. let clash : Reply.Err Errno.ENOMEM ≡ Reply.Bytes b = sym x ∙ h in absurd (cc clash)
    chosen reply (failing x f) = λ b h. let clash : Reply.Err Errno.EIO ≡ Reply.Bytes b = sym x ∙ h in absurd (cc clash)

pub read_records_arrive_whole : ReadRecordsArriveWhole
read_records_arrive_whole boot es j n d e fd bytes s m ms legal at request reply through kind q =
    let S : State = before boot es j in
    let step = (moment boot es j e legal at).steps in
    let moved : Step S e.pid.0 j (Request.Read fd n) e.reply e.released (before boot es (suc j)) =
    subst (λ (r : Request). Step S e.pid.0 j r e.reply e.released (before boot es (suc j))) request step in
    let led : socket_through S e.pid.0 (Request.Read fd n) ≡ Some (d, s) = sym (ap (socket_through S e.pid.0) request) ∙ through in
    step_read_gives S (before boot es (suc j)) e.pid.0 j n fd m e.reply e.released (d, s, ms, led, kind, q) moved bytes reply
