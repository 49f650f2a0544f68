-- Rights are installed with bytes of their message, and by one receive alone.
use Rattle.std.proofs.Common.{◌≡◌, ℕ, zero, suc, ◌+◌, ◌-◌, ◌≤◌, ◌<◌, ◌==◌, Bool, true, false, not, if◌then◌else◌, List, [], ◌∷◌, ◌++◌}
use Rattle.std.proofs.Common.{length, drop, take, min, Option, Some, None, Ok, option_map, refl, ap, sym, ◌∙◌, subst, arith, slice_get}
use Rattle.std.specs.Prelude.{nat_le}
use Rattle.std.proofs.lemmas.Bool.{eqb-true, false≢true, leb-true, leb-false, ne_eqb}
use Rattle.std.proofs.lemmas.List.{append-nil, length-take, length-take-le}
use Rattle.std.proofs.lemmas.List.Concat.{length-flat_map}
use Rattle.std.proofs.lemmas.List.Sums.{sum_by-cons}
use Rattle.std.proofs.Math.Nat.{min-le_right}
use Rattle.ux_model.specs.Types.{Fd, Cred, MsgFlags, Request, Reply}
use Rattle.ux_model.specs.Places.{changed_place}
use Rattle.ux_model.specs.Message.{Message, queued_bytes, all_bytes}
use Rattle.ux_model.specs.Stream.{Origin, origin_of, front_with_cred, front_to_barrier, joined_run, rights_within, origin_within}
use Rattle.ux_model.specs.Stream.{without_first}
use Rattle.ux_model.specs.Front.{Front, stream_front, record_front, front_of}
use Rattle.ux_model.specs.Flags.{are_receive_flags, asks_peek}
use Rattle.ux_model.specs.Socket.{Socket, is_stream, with_queue}
use Rattle.ux_model.specs.Description.{Description, changed}
use Rattle.ux_model.specs.Process.{Descriptor, free_numbers}
use Rattle.ux_model.specs.Delivery.{delivery, install_count, space_for_rights}
use Rattle.ux_model.specs.State.{State, socket_at, table_of, with_socket_by, with_table}
use Rattle.ux_model.specs.Outcome.{Outcome, Chosen, own, lacking_memory, failing, find_socket}
use Rattle.ux_model.specs.Delivered.{Brought, brought, tag_of, told_of, delivered_by}
use Rattle.ux_model.specs.Receiving.{Incoming, incoming, receive_front, recv_msg}
use Rattle.ux_model.specs.Step.{Step, outcome}
use Rattle.ux_model.specs.Changes.{sources}
use Rattle.ux_model.proofs.Changes.Walk.{either}
use Rattle.ux_model.proofs.Messages.FrontRights.{IsFront, cred_front}
use Rattle.ux_model.proofs.Lists.ByPlace.{get_below, get_before, take_few}
use Rattle.ux_model.proofs.Steps.NameCalls.{same_descriptions}
use Rattle.ux_model.proofs.Tables.Shows.{by_socket}
use Rattle.ux_model.proofs.Tables.MessageShows.{by_receive, brought_is, nothing_is_brought}
use Rattle.ux_laws.specs.Talking.{is_peek, given_bytes, socket_through}
use Rattle.ux_laws.proofs.Parts.{kept_same, Shrinks, kept_shrinks, shrunk_after, settled_shrinks}
use Rattle.ux_laws.proofs.Doing.Outcomes.{through_is}

-- ---- which message the rights within some bytes are of

bytes_first : (m : Message) (ms : List Message) → queued_bytes (m ∷ ms) ≡ length m.bytes + queued_bytes ms
bytes_first m ms = sum_by-cons (λ m. length (Message.bytes m)) m ms

abbrev pub origin_tag : Option Origin → Option ℕ
origin_tag o = option_map (λ (x : Origin). x.tag) o

-- One has a byte among the first n; it is the last that is joined, and none before it has rights.
record IsTouched (n joined : ℕ) (q : List Message) (rights : List ℕ) (origin : Option Origin) : Type 0 where
  pub number : ℕ
  pub message : Message
  pub there : slice_get q number ≡ Some message
  pub rights_are : rights ≡ message.rights
  pub tag : origin_tag origin ≡ Some message.tag
  pub begun : queued_bytes (take number q) < n
  pub last : joined ≤ queued_bytes (take (suc number) q)
  pub others : (i : ℕ) (m : Message) → i < number → slice_get q i ≡ Some m → m.rights ≡ []

empty : (rights : List ℕ) → length rights ≡ 0 → rights ≡ []
empty [] h = refl
empty (x ∷ xs) h = absurd (omega (arith, h))

none_within : (n : ℕ) → rights_within n [] ≡ []
none_within zero = refl
none_within (suc n) = refl

own_origin : (m : Message) → (length m.rights == 0) ≡ false → origin_tag (origin_of m) ≡ Some m.tag
own_origin m some = ap (λ b. origin_tag (if b then None else Some (record { tag = m.tag; uid = m.uid }))) some

take_nothing : (xs : List Message) → queued_bytes (take 0 xs) ≡ 0
take_nothing [] = refl
take_nothing (x ∷ xs) = refl

touched : (n : ℕ) (q : List Message) → 0 < length (rights_within n (front_to_barrier q)) →
    IsTouched n (queued_bytes (front_to_barrier q)) q (rights_within n (front_to_barrier q)) (origin_within n (front_to_barrier q))
touched zero q some = absurd (omega (arith, some))
touched (suc n) [] some = absurd (omega (arith, some))
touched (suc n) (m ∷ ms) some = go (length m.rights == 0) refl (touched (suc n - length m.bytes) ms) some
  where
    left : ℕ
    left = suc n - length m.bytes

    run : Bool → List Message
    run b = if b then m ∷ front_to_barrier ms else m ∷ []

    go : (b : Bool) → (length m.rights == 0) ≡ b →
        (0 < length (rights_within left (front_to_barrier ms)) →
        IsTouched left (queued_bytes (front_to_barrier ms)) ms (rights_within left (front_to_barrier ms))
        (origin_within left (front_to_barrier ms))) →
        0 < length (rights_within (suc n) (run b)) →
        IsTouched (suc n) (queued_bytes (run b)) (m ∷ ms) (rights_within (suc n) (run b)) (origin_within (suc n) (run b))
    go true h rest some =
        let none : m.rights ≡ [] = empty m.rights (eqb-true (length m.rights) 0 h) in
        let same : m.rights ++ rights_within left (front_to_barrier ms) ≡ rights_within left (front_to_barrier ms) =
        ap (λ (r : List ℕ). r ++ rights_within left (front_to_barrier ms)) none in
        let long : length (m.rights ++ rights_within left (front_to_barrier ms)) ≡ length (rights_within left (front_to_barrier ms)) =
        ap (λ (r : List ℕ). length r) same in
        let a = rest (omega (arith, some, long)) in
        let begun = a.begun in
        let last = a.last in
        let first = bytes_first m (take a.number ms) in
        let first_more = bytes_first m (take (suc a.number) ms) in
        let joined = bytes_first m (front_to_barrier ms) in
        record {
          number = suc a.number;
          message = a.message;
          there = a.there;
          rights_are = same ∙ a.rights_are;
          tag = ap (λ b. origin_tag (if b then origin_within left (front_to_barrier ms) else origin_of m)) h ∙ a.tag;
          begun = omega (arith, begun, first);
          last = omega (arith, last, first_more, joined);
          others = others none a.others;
        }
      where
        others : m.rights ≡ [] → {k : ℕ} → ((i : ℕ) (x : Message) → i < k → slice_get ms i ≡ Some x → x.rights ≡ []) →
            (i : ℕ) (x : Message) → i < suc k → slice_get (m ∷ ms) i ≡ Some x → x.rights ≡ []
        others none more zero x less at = let e : m ≡ x = cc at in sym (ap (λ (w : Message). w.rights) e) ∙ none
        others none more (suc i) x less at = more i x (omega (arith, less)) at
    go false h rest some =
        let nothing = take_nothing (m ∷ ms) in
        let alone = bytes_first m [] in
        let first = bytes_first m (take 0 ms) in
        record {
          number = 0;
          message = m;
          there = refl;
          rights_are = ap (λ (r : List ℕ). m.rights ++ r) (none_within left) ∙ append-nil m.rights;
          tag = ap (λ b. origin_tag (if b then origin_within left [] else origin_of m)) h ∙ own_origin m h;
          begun = omega (arith, nothing);
          last = omega (arith, alone, first);
          others = λ i x less at. absurd (omega (arith, less));
        }

take_front : (xs ys : List Message) (k : ℕ) → k ≤ length xs → take k (xs ++ ys) ≡ take k xs
take_front [] [] zero h = refl
take_front [] (y ∷ ys) zero h = refl
take_front [] ys (suc k) h = absurd (omega (arith, h))
take_front (x ∷ xs) ys zero h = refl
take_front (x ∷ xs) ys (suc k) h = ap (λ l. x ∷ l) (take_front xs ys k (omega (arith, h)))

in_whole : (n joined : ℕ) (front whole : List Message) (rights : List ℕ) (origin : Option Origin) → IsFront front whole →
    IsTouched n joined front rights origin → IsTouched n joined whole rights origin
in_whole n joined front whole rights origin f a =
    let below = get_below front a.number a.message a.there in
    let same : (k : ℕ) → k ≤ length front → queued_bytes (take k whole) ≡ queued_bytes (take k front) =
    λ k le. sym (ap (λ (q : List Message). queued_bytes (take k q)) f.is)
    ∙ ap (λ (q : List Message). queued_bytes q) (take_front front f.rest k le) in
    let here = same a.number (omega (arith, below)) in
    let more = same (suc a.number) (omega (arith, below)) in
    let begun = a.begun in
    let last = a.last in
    record {
      number = a.number;
      message = a.message;
      there = sym (ap (λ (q : List Message). slice_get q a.number) f.is) ∙ get_before front f.rest a.number below ∙ a.there;
      rights_are = a.rights_are;
      tag = a.tag;
      begun = omega (arith, begun, here);
      last = omega (arith, last, more);
      others = λ i m less at. a.others i m less
          (sym (get_before front f.rest i (omega (arith, less, below))) ∙ ap (λ (q : List Message). slice_get q i) f.is ∙ at);
    }

run_touched : (wants : Bool) (k : ℕ) (m : Message) (ms : List Message) → 0 < length (rights_within k (joined_run wants m ms)) →
    IsTouched k (queued_bytes (joined_run wants m ms)) (m ∷ ms) (rights_within k (joined_run wants m ms))
    (origin_within k (joined_run wants m ms))
run_touched true k m ms some = in_whole k _ (front_with_cred m.cred (m ∷ ms)) (m ∷ ms) _ _ (cred_front m.cred (m ∷ ms))
    (touched k (front_with_cred m.cred (m ∷ ms)) some)
run_touched false k m ms some = touched k (m ∷ ms) some

-- ---- what is left of a queue

-- a message that still has rights lost no byte
untouched : (n : ℕ) (q : List Message) (k : ℕ) (x : Message) → 0 < length x.rights → slice_get (without_first n q) k ≡ Some x →
    (j : ℕ) × (slice_get q j ≡ Some x) × (n ≤ queued_bytes (take j q))
untouched n [] k x rich h = absurd (cc h)
untouched zero (m ∷ ms) k x rich h = (k, h, omega arith)
untouched (suc n) (m ∷ ms) k x rich h = go (untouched (suc n - length m.bytes) ms k x rich) (nat_le (length m.bytes) (suc n)) refl h
  where
    cut : (k : ℕ) → suc n < length m.bytes → slice_get (record m { bytes = drop (suc n) m.bytes; rights = [] } ∷ ms) k ≡ Some x →
        (j : ℕ) × (slice_get (m ∷ ms) j ≡ Some x) × (suc n ≤ queued_bytes (take j (m ∷ ms)))
    cut zero long h =
        let same : record m { bytes = drop (suc n) m.bytes; rights = [] } ≡ x = cc h in
        let none : length {A = ℕ} [] ≡ length x.rights = ap (λ (w : Message). length w.rights) same in
        absurd (omega (arith, rich, none))
    cut (suc k) long h = let b = bytes_first m (take k ms) in (suc k, h, omega (arith, b, long))

    go : (slice_get (without_first (suc n - length m.bytes) ms) k ≡ Some x →
        (j : ℕ) × (slice_get ms j ≡ Some x) × (suc n - length m.bytes ≤ queued_bytes (take j ms))) → (b : Bool) →
        nat_le (length m.bytes) (suc n) ≡ b →
        slice_get (if b then without_first (suc n - length m.bytes) ms else record m { bytes = drop (suc n) m.bytes; rights = [] } ∷ ms)
        k ≡ Some x → (j : ℕ) × (slice_get (m ∷ ms) j ≡ Some x) × (suc n ≤ queued_bytes (take j (m ∷ ms)))
    go rest true is h =
        let w = rest h in
        let le = leb-true (length m.bytes) (suc n) is in
        let b = bytes_first m (take w.0 ms) in
        let few = w.2 in
        (suc w.0, w.1, omega (arith, le, b, few))
    go rest false is h = cut k (leb-false (length m.bytes) (suc n) is) h

-- so it stood in the queue
pub rest_rich : (n : ℕ) (s : Socket) (m : Message) (ms : List Message) (k : ℕ) (x : Message) → 0 < length x.rights →
    slice_get (front_of n s m ms).rest k ≡ Some x → (j : ℕ) × (slice_get (m ∷ ms) j ≡ Some x)
rest_rich n s m ms k x rich h = go (is_stream s.kind) h
  where
    go : (b : Bool) → slice_get (if b then stream_front s.passcred n m ms else record_front n m ms).rest k ≡ Some x →
        (j : ℕ) × (slice_get (m ∷ ms) j ≡ Some x)
    go true h = let w = untouched (min n (queued_bytes (joined_run s.passcred m ms))) (m ∷ ms) k x rich h in (w.0, w.1)
    go false h = (suc k, h)

-- ---- a receive

-- The rights that the front of a queue brings are of one message, and what is left of the queue has none of that message that still has
-- rights.
pub record Carries (s : Socket) (n : ℕ) (m : Message) (ms : List Message) : Type 0 where
  pub number : ℕ
  pub message : Message
  pub there : slice_get (m ∷ ms) number ≡ Some message
  pub rights_are : (front_of n s m ms).rights ≡ message.rights
  pub tag : origin_tag (front_of n s m ms).origin ≡ Some message.tag
  pub begun : is_stream s.kind ≡ true → queued_bytes (take number (m ∷ ms)) < length (front_of n s m ms).bytes
  pub oldest : is_stream s.kind ≡ false → number ≡ 0
  pub last : length (front_of n s m ms).bytes ≤ queued_bytes (take (suc number) (m ∷ ms))
  pub others : (i : ℕ) (x : Message) → i < number → slice_get (m ∷ ms) i ≡ Some x → x.rights ≡ []
  pub left : (k : ℕ) (x : Message) → 0 < length x.rights → slice_get (front_of n s m ms).rest k ≡ Some x →
      (j : ℕ) × (slice_get (m ∷ ms) j ≡ Some x) × (j ≡ number → ⊥)

carries : (s : Socket) (n : ℕ) (m : Message) (ms : List Message) → 0 < length (front_of n s m ms).rights → Carries s n m ms
carries s n m ms some = go (is_stream s.kind) refl some
  where
    taken_by : Bool → Front
    taken_by b = if b then stream_front s.passcred n m ms else record_front n m ms

    in_terms : (b : Bool) → is_stream s.kind ≡ b → (number : ℕ) (message : Message) → slice_get (m ∷ ms) number ≡ Some message →
        (taken_by b).rights ≡ message.rights → origin_tag (taken_by b).origin ≡ Some message.tag →
        (b ≡ true → queued_bytes (take number (m ∷ ms)) < length (taken_by b).bytes) → (b ≡ false → number ≡ 0) →
        length (taken_by b).bytes ≤ queued_bytes (take (suc number) (m ∷ ms)) →
        ((i : ℕ) (x : Message) → i < number → slice_get (m ∷ ms) i ≡ Some x → x.rights ≡ []) →
        ((k : ℕ) (x : Message) → 0 < length x.rights → slice_get (taken_by b).rest k ≡ Some x →
        (j : ℕ) × (slice_get (m ∷ ms) j ≡ Some x) × (j ≡ number → ⊥)) → Carries s n m ms
    in_terms b is number message there rights tag begun oldest last others left =
        let front : front_of n s m ms ≡ taken_by b = ap taken_by is in
        let long : length (front_of n s m ms).bytes ≡ length (taken_by b).bytes = ap (λ (f : Front). length f.bytes) front in
        record {
          number = number;
          message = message;
          there = there;
          rights_are = ap (λ (f : Front). f.rights) front ∙ rights;
          tag = ap (λ (f : Front). origin_tag f.origin) front ∙ tag;
          begun = λ streams. let few = begun (sym is ∙ streams) in omega (arith, few, long);
          oldest = λ streams. oldest (sym is ∙ streams);
          last = omega (arith, last, long);
          others = others;
          left = λ k x rich h. left k x rich (sym (ap (λ (f : Front). slice_get f.rest k) front) ∙ h);
        }

    go : (b : Bool) → is_stream s.kind ≡ b → 0 < length (taken_by b).rights → Carries s n m ms
    go true is some =
        let run : List Message = joined_run s.passcred m ms in
        let k : ℕ = min n (queued_bytes run) in
        let t = run_touched s.passcred k m ms some in
        let all = length-flat_map (λ m. Message.bytes m) run in
        let fits = min-le_right n (queued_bytes run) in
        let long = length-take-le k (all_bytes run) (omega (arith, all, fits)) in
        let begun = t.begun in
        let last = t.last in
        in_terms true is t.number t.message t.there t.rights_are t.tag (λ yes_it_is. omega (arith, begun, long))
        (λ no_stream. absurd (false≢true (sym no_stream))) (omega (arith, last, long, fits)) t.others
        (λ i x rich h. let w = untouched k (m ∷ ms) i x rich h in
        let past = w.2 in (
          w.0,
          w.1,
          λ same. let here : queued_bytes (take w.0 (m ∷ ms)) ≡ queued_bytes (take t.number (m ∷ ms)) =
              ap (λ (i : ℕ). queued_bytes (take i (m ∷ ms))) same in omega (arith, past, begun, here),
        ))
    go false is some =
        let few = length-take n m.bytes in
        let first = bytes_first m (take 0 ms) in
        in_terms false is 0 m refl refl (own_origin m (ne_eqb (length m.rights) 0 (λ e. omega (arith, e, some))))
        (λ is_one. absurd (false≢true is_one)) (λ no_stream. refl) (omega (arith, few, first))
        (λ i x less h. absurd (omega (arith, less))) (λ i x rich h. (suc i, h, λ same. omega (arith, same)))

delivery_few : (wanted : Bool) (cred : Cred) (rights : List ℕ) (space : ℕ) (table : List (Option Descriptor)) →
    length (delivery wanted cred rights space table).numbers ≤ length rights
unfolding delivery
delivery_few wanted cred rights space table =
    let h = take_few (install_count (length rights) (space_for_rights wanted space) (length (free_numbers table))) (free_numbers table) in
    omega (arith, h)

-- of a receive that installs rights of the message with this tag: what it took them from, and the queue that is left
pub record Installs (S : State) (p : ℕ) (request : Request) (reply : Reply) (next : State) (tag : ℕ) : Type 0 where
  pub number : ℕ
  pub n : ℕ
  pub socket : Socket
  pub first : Message
  pub rest : List Message
  pub through : socket_through S p request ≡ Some (number, socket)
  pub there : socket_at S number ≡ Some socket
  pub queue : socket.queue ≡ first ∷ rest
  pub carried : Carries socket n first rest
  pub tagged : carried.message.tag ≡ tag
  pub rich : 0 < length carried.message.rights
  pub sources_are : sources S p request ≡ carried.message.rights
  pub bytes : given_bytes reply ≡ (front_of n socket first rest).bytes
  pub takes : is_peek request ≡ false → Shrinks (with_socket_by S number (with_queue (front_of n socket first rest).rest)) next

abbrev pub IfInstalls : State → ℕ → Request → Reply → State → Type 0
IfInstalls S p request reply next = (tag : ℕ) → delivered_by S p request reply ≡ Some tag → Installs S p request reply next tag

front_next : (S : State) (p d : ℕ) (s : Socket) (asked : Incoming) (front : Front) → asks_peek asked.flags ≡ false →
    Shrinks (with_socket_by S d (with_queue front.rest)) (receive_front S p d s asked front).next
unfolding receive_front
front_next S p d s asked front peek = go (asks_peek asked.flags) peek _
  where
    go : (b : Bool) → b ≡ false → (table : List (Option Descriptor)) →
        Shrinks (with_socket_by S d (with_queue front.rest))
        (if b then with_table S p table else with_socket_by (with_table S p table) d (with_queue front.rest))
    go true h table = absurd (false≢true (sym h))
    go false h table = kept_shrinks (kept_same _ _
        (ap (λ (ds : List (Option Description)). changed_place ds d (changed (with_queue front.rest))) (same_descriptions S p table)))

front_given : (S : State) (p d : ℕ) (s : Socket) (asked : Incoming) (front : Front) →
    given_bytes (receive_front S p d s asked front).reply ≡ front.bytes
unfolding receive_front
front_given S p d s asked front = refl

front_told : (S : State) (p d : ℕ) (s : Socket) (asked : Incoming) (front : Front) (b : Brought) →
    told_of b (receive_front S p d s asked front).reply ≡ tag_of b
unfolding receive_front
front_told S p d s asked front b = refl

recv_installs : (S : State) (p n space : ℕ) (fd : Fd) (flags : MsgFlags) →
    IfInstalls S p (Request.RecvMsg fd n space flags) (recv_msg S p fd n space flags).reply (recv_msg S p fd n space flags).next
unfolding recv_msg
recv_installs S p n space fd flags = by_socket Q S p fd _ (λ e tag h. absurd (cc h))
    (λ d s found there. either Q (not (are_receive_flags flags)) _ _ (λ b tag h. absurd (cc h))
    (λ b. by_receive Q S p d s (incoming n space flags) (λ e tag h. absurd (cc h)) (λ tag h. absurd (cc h))
    (λ none tag h.
    let b = brought_is S p d n space fd flags s s.queue found refl in
    let nobody : (brought S p request).numbers ≡ [] = ap (λ (x : Brought). x.numbers) b
    ∙ nothing_is_brought s n space (table_of S p) s.queue none in
    let clash : None ≡ Some tag = sym (ap (λ (l : List ℕ). if length l == 0 then None else option_map
    (λ (o : Origin). o.tag) (brought S p request).origin) nobody) ∙ h in
    absurd (cc clash))
    (λ m ms q tag h. front d s found there m ms q tag
    (sym (front_told S p d s (incoming n space flags) (front_of n s m ms) (brought S p request)) ∙ h))))
  where
    request : Request
    request = Request.RecvMsg fd n space flags

    Q : Outcome → Type 0
    Q o = IfInstalls S p (Request.RecvMsg fd n space flags) o.reply o.next

    front : (d : ℕ) (s : Socket) → find_socket S p fd ≡ Ok (d, s) → socket_at S d ≡ Some s → (m : Message) (ms : List Message) →
        s.queue ≡ m ∷ ms → (tag : ℕ) → tag_of (brought S p (Request.RecvMsg fd n space flags)) ≡ Some tag →
        Installs S p (Request.RecvMsg fd n space flags) (receive_front S p d s (incoming n space flags) (front_of n s m ms)).reply
        (receive_front S p d s (incoming n space flags) (front_of n s m ms)).next tag
    front d s found there m ms q tag h =
        let f : Front = front_of n s m ms in
        let b = brought_is S p d n space fd flags s (m ∷ ms) found q in
        let numbers : List ℕ = (delivery s.passcred f.cred f.rights space (table_of S p)).numbers in
        let told : (if length numbers == 0 then None else option_map (λ (o : Origin). o.tag) f.origin) ≡ Some tag = sym (ap tag_of b) ∙ h in
        let few = delivery_few s.passcred f.cred f.rights space (table_of S p) in
        let some : 0 < length f.rights = has_some numbers few told in
        let c = carries s n m ms some in
        let both : Some c.message.tag ≡ Some tag = sym c.tag ∙ origin_is numbers told in
        record {
          number = d;
          n = n;
          socket = s;
          first = m;
          rest = ms;
          through = through_is S p d fd s (Request.RecvMsg fd n space flags) refl found;
          there = there;
          queue = q;
          carried = c;
          tagged = cc both;
          rich = let l : length f.rights ≡ length c.message.rights = ap (λ (r : List ℕ). length r) c.rights_are in omega (arith, some, l);
          sources_are = ap (λ (x : Brought). x.rights) b ∙ c.rights_are;
          bytes = front_given S p d s (incoming n space flags) f;
          takes = λ peek. front_next S p d s (incoming n space flags) f peek;
        }
      where
        has_some : (numbers : List ℕ) → length numbers ≤ length (front_of n s m ms).rights →
            (if length numbers == 0 then None else option_map (λ (o : Origin). o.tag) (front_of n s m ms).origin) ≡ Some tag →
            0 < length (front_of n s m ms).rights
        has_some [] few told = absurd (cc told)
        has_some (x ∷ xs) few told = omega (arith, few)

        origin_is : (numbers : List ℕ) → (if length numbers == 0 then None else option_map
            (λ (o : Origin). o.tag) (front_of n s m ms).origin) ≡ Some tag → origin_tag (front_of n s m ms).origin ≡ Some tag
        origin_is [] told = absurd (cc told)
        origin_is (x ∷ xs) told = sym (ap (λ b. if b then None else option_map (λ (o : Origin). o.tag) (front_of n s m ms).origin)
            (ne_eqb (suc (length xs)) 0 (λ e. omega (arith, e)))) ∙ told

pub step_installs : (S T : State) (p tag : ℕ) (request : Request) (reply : Reply) (gone : List ℕ) → Step S p tag request reply gone T →
    IfInstalls S p request reply T
unfolding Step outcome
step_installs S T p tag (Request.RecvMsg fd n space flags) reply gone step t h =
    let w = chosen reply step.1 t h in
    record {
      number = w.number;
      n = w.n;
      socket = w.socket;
      first = w.first;
      rest = w.rest;
      through = w.through;
      there = w.there;
      queue = w.queue;
      carried = w.carried;
      tagged = w.tagged;
      rich = w.rich;
      sources_are = w.sources_are;
      bytes = w.bytes;
      takes = λ peek. shrunk_after _ step.0 T (w.takes peek)
          (subst (λ (U : State). Shrinks step.0 U) (sym step.3) (settled_shrinks step.0));
    }
  where
    chosen : (reply : Reply) → Chosen S (recv_msg S p fd n space flags) reply step.0 →
        IfInstalls S p (Request.RecvMsg fd n space flags) reply step.0
    chosen reply (own x f) = subst (λ (r : Reply). IfInstalls S p (Request.RecvMsg fd n space flags) r step.0) (sym x)
        (subst (λ (U : State). IfInstalls S p (Request.RecvMsg fd n space flags) (recv_msg S p fd n space flags).reply U) (sym f)
        (recv_installs S p n space fd flags))
    chosen reply (lacking_memory x may f) = λ t h. let clash : None ≡ Some t =
        sym (ap (λ (r : Reply). told_of (brought S p (Request.RecvMsg fd n space flags)) r) x) ∙ h in absurd (cc clash)
    chosen reply (failing x f) = λ t h. let clash : None ≡ Some t =
        sym (ap (λ (r : Reply). told_of (brought S p (Request.RecvMsg fd n space flags)) r) x) ∙ h in absurd (cc clash)
step_installs S T p tag request reply gone step t h = absurd (cc h)
