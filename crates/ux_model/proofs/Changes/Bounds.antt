-- That names, messages and queues keep to their limits: what is said of one socket, and what of all of a state.
use Rattle.std.proofs.Common.{◌≡◌, ℕ, zero, suc, ◌+◌, ◌-◌, ◌≤◌, Bool, true, false, if◌then◌else◌, List, [], ◌∷◌, ◌++◌, length, take, drop}
use Rattle.std.proofs.Common.{Option, Some, None, refl, subst, arith}
use Rattle.std.specs.Prelude.{nat_le, is_none}
use Rattle.std.specs.List.{AllByRecursion}
use Rattle.std.proofs.lemmas.List.{length-take, length-drop}
use Rattle.std.proofs.lemmas.List.Sums.{sum_by-cons, sum_by_push}
use Rattle.ux_model.specs.Types.{Name, Addr, SockType}
use Rattle.ux_model.specs.Limits.{name_limit, rights_limit, first_queue_limit, greatest_queue_limit, record_bytes_limit, autobind_names}
use Rattle.ux_model.specs.Names.{free_name, autobind_name, lowest_from, named}
use Rattle.ux_model.specs.Message.{Message, queued_bytes}
use Rattle.ux_model.specs.Socket.{Socket, is_stream, stream_room, sent}
use Rattle.ux_model.specs.Stream.{without_first}
use Rattle.ux_model.specs.Front.{Front, front_of, stream_front, record_front}
use Rattle.ux_model.specs.Description.{Description, Target, to_object, to_socket, socket_of, socket_in}
use Rattle.ux_model.specs.State.{State, description_at, socket_at}
use Rattle.ux_model.specs.Rooms.{name_bytes, sender_bytes}

-- of one message
pub record IsBoundedMessage (m : Message) : Type 0 where
  pub few_bytes : length m.bytes ≤ greatest_queue_limit
  pub few_rights : length m.rights ≤ rights_limit
  pub short_sender : sender_bytes m.from ≤ name_limit

abbrev pub AreBoundedMessages : List Message → Type 0
AreBoundedMessages queue = AllByRecursion IsBoundedMessage queue

-- Of the parts of a socket that calls report. A limit that was lowered may be less than what waits, so both keep to the greatest limit.
pub record HasBounds (kind : SockType) (name : Addr) (limit : ℕ) (queue : List Message) : Type 0 where
  pub short : name_bytes name ≤ name_limit
  pub each : AreBoundedMessages queue
  pub limited : limit ≤ greatest_queue_limit
  pub all : is_stream kind ≡ true → queued_bytes queue ≤ greatest_queue_limit

abbrev pub IsBounded : Socket → Type 0
IsBounded s = HasBounds s.kind s.name s.queue_limit s.queue

abbrev pub IsBoundedTarget : Target → Type 0
IsBoundedTarget (to_object o) = Unit {0}
IsBoundedTarget (to_socket s) = IsBounded s

abbrev pub IsBoundedPlace : Option Description → Type 0
IsBoundedPlace None = Unit {0}
IsBoundedPlace (Some D) = IsBoundedTarget D.target

-- of all that are there
abbrev pub AreBounded : State → Type 0
AreBounded S = (d : ℕ) → IsBoundedPlace (description_at S d)

pub socket_bounded : (S : State) (d : ℕ) (s : Socket) → AreBounded S → socket_at S d ≡ Some s → IsBounded s
socket_bounded S d s bounded h = go (description_at S d) (bounded d) h
  where
    by_target : (t : Target) → IsBoundedTarget t → socket_of t ≡ Some s → IsBounded s
    by_target (to_object o) own h = absurd (cc h)
    by_target (to_socket u) own h = let same : u ≡ s = cc h in subst IsBounded same own

    go : (x : Option Description) → IsBoundedPlace x → socket_in x ≡ Some s → IsBounded s
    go None own h = absurd (cc h)
    go (Some D) own h = by_target D.target own h

-- without a name and with nothing in its queue
pub new_bounded : (kind : SockType) → HasBounds kind Addr.Unnamed first_queue_limit []
new_bounded kind = record { short = omega arith; each = tt; limited = omega arith; all = λ stream. omega arith }

-- ---- names

-- the names that the layer gives by itself have five bytes
pub free_short : (names : List (Name × ℕ)) (name : Name) → free_name names ≡ Some name → length name ≤ name_limit
unfolding free_name
free_short names name h = go (lowest_from (λ n. is_none (named (autobind_name n) names)) 0 autobind_names) h
  where
    go : (o : Option ℕ) → (elim o as (λ _. Option Name) [ None ↦ None | Some n ↦ Some (autobind_name n) ]) ≡ Some name →
        length name ≤ name_limit
    go None h = absurd (cc h)
    go (Some n) h = let same : autobind_name n ≡ name = cc h in subst (λ (l : Name). length l ≤ name_limit) same (omega arith)

-- ---- a send

pub pushed_each : (q : List Message) (m : Message) → AreBoundedMessages q → IsBoundedMessage m → AreBoundedMessages (q ++ m ∷ [])
pushed_each [] m each one = (one, tt)
pushed_each (x ∷ q) m each one = (each.0, pushed_each q m each.1 one)

-- what a queue takes of a message, where a stream takes what fits and another socket no message that is too long
pub sent_bounded : (s : Socket) (m : Message) → length m.rights ≤ rights_limit → sender_bytes m.from ≤ name_limit →
    (is_stream s.kind ≡ false → length m.bytes ≤ record_bytes_limit) →
    IsBounded s → IsBounded (sent m s)
sent_bounded s m few short fits own = go (is_stream s.kind) refl
  where
    part : Bool → Message
    part b = record m { bytes = if b then take (stream_room s) m.bytes else m.bytes; from = if b then None else m.from }

    go : (b : Bool) → is_stream s.kind ≡ b → HasBounds s.kind s.name s.queue_limit (s.queue ++ part b ∷ [])
    go true h =
        let cut = length-take (stream_room s) m.bytes in
        let more = sum_by_push (λ m. length (Message.bytes m)) s.queue (part true) in
        let before : queued_bytes s.queue ≤ greatest_queue_limit = own.all h in
        let limited : s.queue_limit ≤ greatest_queue_limit = own.limited in
        record {
          short = own.short;
          limited = own.limited;
          each = pushed_each s.queue (part true) own.each
              (record { few_bytes = omega (arith, cut, limited); few_rights = few; short_sender = omega arith });
          all = λ stream. omega (arith, cut, more, before, limited);
        }
    go false h = record {
      short = own.short;
      limited = own.limited;
      each = pushed_each s.queue (part false) own.each
          (record { few_bytes = let few = fits h in omega (arith, few); few_rights = few; short_sender = short });
      all = λ stream. absurd (cc (stream, h));
    }

-- ---- a receive

left_each : (n : ℕ) (q : List Message) → AreBoundedMessages q → AreBoundedMessages (without_first n q)
left_each zero [] each = each
left_each zero (m ∷ ms) each = each
left_each (suc n) [] each = each
left_each (suc n) (m ∷ ms) each = go (nat_le (length m.bytes) (suc n)) (left_each (suc n - length m.bytes) ms each.1)
  where
    cut : Message
    cut = record m { bytes = drop (suc n) m.bytes; rights = [] }

    cut_bounded : IsBoundedMessage cut
    cut_bounded =
        let long = length-drop (suc n) m.bytes in
        let few : length m.bytes ≤ greatest_queue_limit = each.0.few_bytes in
        record { few_bytes = omega (arith, long, few); few_rights = omega arith; short_sender = each.0.short_sender }

    go : (b : Bool) → AreBoundedMessages (without_first (suc n - length m.bytes) ms) →
        AreBoundedMessages (if b then without_first (suc n - length m.bytes) ms else cut ∷ ms)
    go true rest = rest
    go false rest = (cut_bounded, each.1)

fewer_left : (n : ℕ) (q : List Message) → queued_bytes (without_first n q) ≤ queued_bytes q
fewer_left zero [] = omega arith
fewer_left zero (m ∷ ms) = omega arith
fewer_left (suc n) [] = omega arith
fewer_left (suc n) (m ∷ ms) = go (nat_le (length m.bytes) (suc n)) (fewer_left (suc n - length m.bytes) ms)
  where
    cut : Message
    cut = record m { bytes = drop (suc n) m.bytes; rights = [] }

    all : queued_bytes (m ∷ ms) ≡ length m.bytes + queued_bytes ms
    all = sum_by-cons (λ m. length (Message.bytes m)) m ms

    go : (b : Bool) → queued_bytes (without_first (suc n - length m.bytes) ms) ≤ queued_bytes ms →
        queued_bytes (if b then without_first (suc n - length m.bytes) ms else cut ∷ ms) ≤ queued_bytes (m ∷ ms)
    go true rest = omega (arith, all, rest)
    go false rest =
        let long = length-drop (suc n) m.bytes in
        let left = sum_by-cons (λ m. length (Message.bytes m)) cut ms in
        omega (arith, all, long, left)

-- what is left of a queue
pub rest_bounded : (n : ℕ) (s : Socket) (m : Message) (ms : List Message) → HasBounds s.kind s.name s.queue_limit (m ∷ ms) →
    HasBounds s.kind s.name s.queue_limit (front_of n s m ms).rest
rest_bounded n s m ms own = go (is_stream s.kind)
  where
    front : Bool → Front
    front b = if b then stream_front s.passcred n m ms else record_front n m ms

    go : (b : Bool) → HasBounds s.kind s.name s.queue_limit (front b).rest
    go true = record {
      short = own.short;
      limited = own.limited;
      each = left_each _ (m ∷ ms) own.each;
      all = λ stream. let few = fewer_left (stream_front s.passcred n m ms).whole (m ∷ ms) in
          let before : queued_bytes (m ∷ ms) ≤ greatest_queue_limit = own.all stream in omega (arith, few, before);
    }
    go false = record {
      short = own.short;
      limited = own.limited;
      each = own.each.1;
      all = λ stream. let more = sum_by-cons (λ m. length (Message.bytes m)) m ms in
          let before : queued_bytes (m ∷ ms) ≤ greatest_queue_limit = own.all stream in omega (arith, more, before);
    }
