-- Which message the rights of a receive are of, and what was sent with it.
use Rattle.std.proofs.Common.{◌≡◌, ◌⊎◌, ℕ, zero, suc, ◌-◌, ◌<◌, Bool, true, false, not, ◌==◌, if◌then◌else◌, List, [], ◌∷◌, ◌++◌, length}
use Rattle.std.proofs.Common.{min, Option, Some, None, Result, Ok, Err, option_map, refl, ap, sym, ◌∙◌, subst, inl, inr, ⊎_elim, arith}
use Rattle.std.proofs.Common.{slice_get}
use Rattle.std.proofs.lemmas.Bool.{eqb-true, ne_eqb}
use Rattle.std.proofs.lemmas.List.{append-nil}
use Rattle.ux_model.specs.Types.{Errno, Fd, MsgFlags, Request, Reply}
use Rattle.ux_model.specs.Places.{place}
use Rattle.ux_model.specs.Message.{Message, queued_bytes}
use Rattle.ux_model.specs.Stream.{Origin, origin_of, front_with_cred, front_to_barrier, joined_run, rights_within, origin_within}
use Rattle.ux_model.specs.Front.{Front, stream_front, record_front, front_of}
use Rattle.ux_model.specs.Flags.{are_receive_flags}
use Rattle.ux_model.specs.Socket.{Socket, is_stream}
use Rattle.ux_model.specs.Process.{Descriptor}
use Rattle.ux_model.specs.State.{State, socket_at, table_of}
use Rattle.ux_model.specs.Sending.{descriptions_behind}
use Rattle.ux_model.specs.Outcome.{Outcome, Chosen, own, lacking_memory, failing, find_socket}
use Rattle.ux_model.specs.Delivered.{Brought, nothing_brought, brought_from, brought, tag_of, delivered_by}
use Rattle.ux_model.specs.Receiving.{Incoming, incoming, receive_front, recv_msg}
use Rattle.ux_model.specs.Giving.{given, description_in}
use Rattle.ux_model.proofs.Changes.Walk.{either}
use Rattle.ux_model.proofs.Messages.FrontRights.{IsFront, cred_front}
use Rattle.ux_model.proofs.Lists.ByPlace.{get_below, get_before}
use Rattle.ux_model.proofs.Tables.Queues.{Waits, queue_is}
use Rattle.ux_model.proofs.Tables.Replacing.{gives_none}
use Rattle.ux_model.proofs.Tables.Shows.{socket_found, by_socket}
use Rattle.ux_model.proofs.Tables.MessageShows.{by_receive}

abbrev origin_tag : Option Origin → Option ℕ
origin_tag o = option_map (λ (x : Origin). x.tag) o

-- the rights are those of a message of the queue, whose tag is reported
record AreOf (queue : List Message) (rights : List ℕ) (origin : Option Origin) : Type 0 where
  pub message : Message
  pub number : ℕ
  pub there : slice_get queue number ≡ Some message
  pub rights_are : rights ≡ message.rights
  pub tag : origin_tag origin ≡ Some message.tag

one_further : (m : Message) (ms : List Message) (rights : List ℕ) (origin : Option Origin) → AreOf ms rights origin →
    AreOf (m ∷ ms) rights origin
one_further m ms rights origin a = record {
  message = a.message;
  number = suc a.number;
  there = a.there;
  rights_are = a.rights_are;
  tag =
      a.tag;
}

own_origin : (m : Message) → (length m.rights == 0) ≡ false → origin_tag (origin_of m) ≡ Some m.tag
own_origin m some = ap (λ b. origin_tag (if b then None else Some (record { tag = m.tag; uid = m.uid }))) some

none_within : (n : ℕ) → rights_within n [] ≡ []
none_within zero = refl
none_within (suc n) = refl

-- up to the first message with rights no other has any
barrier_of : (n : ℕ) (q : List Message) → 0 < length (rights_within n (front_to_barrier q)) →
    AreOf q (rights_within n (front_to_barrier q)) (origin_within n (front_to_barrier q))
barrier_of zero q some = absurd (omega (arith, some))
barrier_of (suc n) [] some = absurd (omega (arith, some))
barrier_of (suc n) (m ∷ ms) some = go (length m.rights == 0) refl (barrier_of (suc n - length m.bytes) ms) some
  where
    left : ℕ
    left = suc n - length m.bytes

    empty : (rights : List ℕ) → length rights ≡ 0 → rights ≡ []
    empty [] h = refl
    empty (x ∷ xs) h = absurd (omega (arith, h))

    go : (b : Bool) → (length m.rights == 0) ≡ b →
        (0 < length (rights_within left (front_to_barrier ms)) →
        AreOf ms (rights_within left (front_to_barrier ms)) (origin_within left (front_to_barrier ms))) →
        0 < length (rights_within (suc n) (if b then m ∷ front_to_barrier ms else m ∷ [])) →
        AreOf (m ∷ ms) (rights_within (suc n) (if b then m ∷ front_to_barrier ms else m ∷ []))
        (origin_within (suc n) (if b then m ∷ front_to_barrier ms else m ∷ []))
    go true h rest some =
        let none : m.rights ≡ [] = empty m.rights (eqb-true (length m.rights) 0 h) in
        let same : m.rights ++ rights_within left (front_to_barrier ms) ≡ rights_within left (front_to_barrier ms) =
        ap (λ (r : List ℕ). r ++ rights_within left (front_to_barrier ms)) none in
        let long : length (m.rights ++ rights_within left (front_to_barrier ms)) ≡ length (rights_within left (front_to_barrier ms)) =
        ap (λ (r : List ℕ). length r) same in
        let a = one_further m ms _ _ (rest (omega (arith, some, long))) in
        record {
          message = a.message;
          number = a.number;
          there = a.there;
          rights_are = same ∙ a.rights_are;
          tag = ap (λ b. origin_tag (if b then origin_within left (front_to_barrier ms) else origin_of m)) h ∙ a.tag;
        }
    go false h rest some = record {
      message = m;
      number = 0;
      there = refl;
      rights_are = ap (λ (r : List ℕ). m.rights ++ r) (none_within left) ∙ append-nil m.rights;
      tag = ap (λ b. origin_tag (if b then origin_within left [] else origin_of m)) h ∙ own_origin m h;
    }

-- what stands in a front of the queue stands in it
in_whole : (front whole : List Message) (rights : List ℕ) (origin : Option Origin) → IsFront front whole → AreOf front rights origin →
    AreOf whole rights origin
in_whole front whole rights origin f a = record {
  message = a.message;
  number = a.number;
  there = sym (ap (λ (q : List Message). slice_get q a.number) f.is)
      ∙ get_before front f.rest a.number (get_below front a.number a.message a.there) ∙ a.there;
  rights_are = a.rights_are;
  tag = a.tag;
}

run_of : (wants : Bool) (k : ℕ) (m : Message) (ms : List Message) → 0 < length (rights_within k (joined_run wants m ms)) →
    AreOf (m ∷ ms) (rights_within k (joined_run wants m ms)) (origin_within k (joined_run wants m ms))
run_of true k m ms some = in_whole (front_with_cred m.cred (m ∷ ms)) (m ∷ ms) _ _ (cred_front m.cred (m ∷ ms))
    (barrier_of k (front_with_cred m.cred (m ∷ ms)) some)
run_of false k m ms some = barrier_of k (m ∷ ms) some

front_are : (n : ℕ) (s : Socket) (m : Message) (ms : List Message) → 0 < length (front_of n s m ms).rights →
    AreOf (m ∷ ms) (front_of n s m ms).rights (front_of n s m ms).origin
front_are n s m ms some = go (is_stream s.kind) some
  where
    taken : Bool → Front
    taken b = if b then stream_front s.passcred n m ms else record_front n m ms

    go : (b : Bool) → 0 < length (taken b).rights → AreOf (m ∷ ms) (taken b).rights (taken b).origin
    go true some = run_of s.passcred (min n (queued_bytes (joined_run s.passcred m ms))) m ms some
    go false some = record {
      message = m;
      number = 0;
      there = refl;
      rights_are = refl;
      tag =
          own_origin m (ne_eqb (length m.rights) 0 (λ e. omega (arith, e, some)));
    }

-- ---- a call

-- what a call brings is of a message that waits, whose tag is reported
pub record Carries (S : State) (b : Brought) : Type 0 where
  pub message : Message
  pub waits : Waits S message
  pub rights_are : b.rights ≡ message.rights
  pub tag : origin_tag b.origin ≡ Some message.tag

from_queue : (S : State) (d n space : ℕ) (s : Socket) (table : List (Option Descriptor)) (q : List Message) → socket_at S d ≡ Some s →
    s.queue ≡ q →
    0 < length (brought_from s n space table q).rights → Carries S (brought_from s n space table q)
from_queue S d n space s table [] there is some = absurd (omega (arith, some))
from_queue S d n space s table (m ∷ ms) there is some =
    let a = front_are n s m ms some in
    record {
      message = a.message;
      waits = (d, a.number, ap (λ (q : List Message). slice_get q a.number) (queue_is S d s there ∙ is) ∙ a.there);
      rights_are = a.rights_are;
      tag = a.tag;
    }

pub brought_carries : (S : State) (p n space : ℕ) (fd : Fd) (flags : MsgFlags) →
    0 < length (brought S p (Request.RecvMsg fd n space flags)).rights →
    Carries S (brought S p (Request.RecvMsg fd n space flags))
brought_carries S p n space fd flags some = go (find_socket S p fd) refl some
  where
    by_found : Result (ℕ × Socket) Errno → Brought
    by_found r = elim r [ Err e ↦ nothing_brought | Ok w ↦ brought_from w.1 n space (table_of S p) w.1.queue ]

    go : (r : Result (ℕ × Socket) Errno) → find_socket S p fd ≡ r → 0 < length (by_found r).rights → Carries S (by_found r)
    go (Err e) h some = absurd (omega (arith, some))
    go (Ok w) h some = from_queue S w.0 n space w.1 (table_of S p) w.1.queue (socket_found S p w.0 fd w.1 h) refl some

-- a receive reports numbers and the tag of what it brings, or gives nothing
abbrev Tells : State → ℕ → Request → Reply → Type 0
Tells S p request reply = (given S p request reply ≡ [])
    ⊎ ((given S p request reply ≡ (brought S p request).numbers) × (delivered_by S p request reply ≡ tag_of (brought S p request)))

front_told : (S : State) (p d n space : ℕ) (fd : Fd) (s : Socket) (flags : MsgFlags) (asked : Incoming) (front : Front) →
    Tells S p (Request.RecvMsg fd n space flags) (receive_front S p d s asked front).reply
unfolding receive_front
front_told S p d n space fd s flags asked front = inr (refl, refl)

receive_tells : (S : State) (p n space : ℕ) (fd : Fd) (flags : MsgFlags) →
    Tells S p (Request.RecvMsg fd n space flags) (recv_msg S p fd n space flags).reply
unfolding recv_msg
receive_tells S p n space fd flags = by_socket Q S p fd _ (λ e. inl refl)
    (λ d s h there. either Q (not (are_receive_flags flags)) _ _ (λ b. inl refl)
    (λ b. by_receive Q S p d s (incoming n space flags) (λ e. inl refl) (inl refl) (λ none. inr (refl, refl))
    (λ m ms q. front_told S p d n space fd s flags (incoming n space flags) (front_of n s m ms))))
  where
    Q : Outcome → Type 0
    Q o = Tells S p (Request.RecvMsg fd n space flags) o.reply

chosen_tells : (S T : State) (p : ℕ) (request : Request) (o : Outcome) (reply : Reply) → Tells S p request o.reply → Chosen S o reply T →
    Tells S p request reply
chosen_tells S T p request o reply tells (own e f) = subst (Tells S p request) (sym e) tells
chosen_tells S T p request o reply tells (lacking_memory e may f) =
    subst (Tells S p request) (sym e) (inl (gives_none S p request (Reply.Err Errno.ENOMEM) refl))
chosen_tells S T p request o reply tells (failing e f) =
    subst (Tells S p request) (sym e) (inl (gives_none S p request (Reply.Err Errno.EIO) refl))

-- so of a receive that gave a number: the message that its rights are of
pub received : (S T : State) (p n space i k : ℕ) (fd : Fd) (flags : MsgFlags) (reply : Reply) →
    Chosen S (recv_msg S p fd n space flags) reply T →
    slice_get (given S p (Request.RecvMsg fd n space flags) reply) i ≡ Some k →
    0 < length (brought S p (Request.RecvMsg fd n space flags)).rights →
    (m : Message) × Waits S m × ((brought S p (Request.RecvMsg fd n space flags)).rights ≡ m.rights)
    × (delivered_by S p (Request.RecvMsg fd n space flags) reply ≡ Some m.tag)
received S T p n space i k fd flags reply chosen gave some =
    ⊎_elim {C = (m : Message) × Waits S m × (b.rights ≡ m.rights) × (delivered_by S p request reply ≡ Some m.tag)}
    (λ none. let nowhere : slice_get [] i ≡ Some k = sym (ap (λ l. slice_get l i) none) ∙ gave in absurd (cc nowhere))
    (λ told. (c.message, c.waits, c.rights_are, told.1 ∙ tagged told.0 ∙ c.tag))
    (chosen_tells S T p request (recv_msg S p fd n space flags) reply (receive_tells S p n space fd flags) chosen)
  where
    request : Request
    request = Request.RecvMsg fd n space flags

    b : Brought
    b = brought S p request

    c : Carries S b
    c = brought_carries S p n space fd flags some

    tagged : given S p request reply ≡ b.numbers → tag_of b ≡ origin_tag b.origin
    tagged same =
        let there : slice_get b.numbers i ≡ Some k = sym (ap (λ l. slice_get l i) same) ∙ gave in
        let below = get_below b.numbers i k there in
        ap (λ (x : Bool). if x then None else origin_tag b.origin) (ne_eqb (length b.numbers) 0 (λ e. omega (arith, e, below)))

-- ---- the rights of a send

-- a description that was sent is that of the number in its place
abbrev pub IsBehind : List (Option Descriptor) → List ℕ → ℕ → ℕ → Type 0
IsBehind table numbers i d = (k : ℕ) × (slice_get numbers i ≡ Some k) × (description_in (place table k) ≡ Some d)

pub behind_each : (table : List (Option Descriptor)) (ns ds : List ℕ) (i d : ℕ) → descriptions_behind table ns ≡ Some ds →
    slice_get ds i ≡ Some d → IsBehind table ns i d
behind_each table [] ds i d h g = let same : [] ≡ ds = cc h in let none : slice_get [] i ≡ Some d = ap (λ l. slice_get l i) same ∙ g in
    absurd (cc none)
behind_each table (n ∷ ns) ds i d h g = go
    (λ rs j rest g. behind_each table ns rs j d rest g) (place table n) refl (descriptions_behind table ns) refl h
  where
    Later : Type 0
    Later = (rs : List ℕ) (j : ℕ) → descriptions_behind table ns ≡ Some rs → slice_get rs j ≡ Some d → IsBehind table ns j d

    at_rest : Later → (e : Descriptor) → place table n ≡ Some e → (rs : List ℕ) → descriptions_behind table ns ≡ Some rs → (j : ℕ) →
        slice_get (e.description ∷ rs) j ≡ Some d → IsBehind table (n ∷ ns) j d
    at_rest more e at rs rest zero g = (n, refl, ap description_in at ∙ g)
    at_rest more e at rs rest (suc j) g = more rs j rest g

    go : Later → (o : Option Descriptor) → place table n ≡ o → (r : Option (List ℕ)) → descriptions_behind table ns ≡ r →
        (elim o as (λ _. Option (List ℕ)) [
          | None ↦ None
          | Some e ↦ elim r as
              (λ _. Option (List ℕ)) [ None ↦ None | Some more ↦ Some (e.description ∷ more) ]
        ]) ≡ Some ds → IsBehind table (n ∷ ns) i d
    go more None at r rest f = absurd (cc f)
    go more (Some e) at None rest f = absurd (cc f)
    go more (Some e) at (Some rs) rest f = let same : e.description ∷ rs ≡ ds = cc f in
        at_rest more e at rs rest i (ap (λ l. slice_get l i) same ∙ g)
