-- What a receive takes from the front of a queue.
use Rattle.std.specs.Prelude.{ℕ, min, Bool, if◌then◌else◌, List, [], ◌∷◌, length, take, Option, None}
use Rattle.ux_model.specs.Types.{Cred, Addr}
use Rattle.ux_model.specs.Message.{Message, queued_bytes}
use Rattle.ux_model.specs.Socket.{Socket, is_stream}
use Rattle.ux_model.specs.Stream.{Origin, origin_of, joined_run, first_bytes, rights_within, origin_within, without_first}

pub record Front : Type 0 where
  pub bytes : List ℕ
  pub rights : List ℕ
  -- the send that the rights come from, where there are any
  pub origin : Option Origin
  pub cred : Cred
  pub from : Option Addr
  -- the bytes that the message had, where it is a record
  pub whole : ℕ
  -- the queue after a take
  pub rest : List Message

-- of a stream: the first n bytes of a run
abbrev pub stream_front : Bool → ℕ → Message → List Message → Front
stream_front wants_cred n m ms =
    let run : List Message = joined_run wants_cred m ms in
    let taken : ℕ = min n (queued_bytes run) in
    record {
      bytes = first_bytes taken run;
      rights = rights_within taken run;
      origin = origin_within taken run;
      cred = m.cred;
      from = None;
      whole = taken;
      rest = without_first taken (m ∷ ms);
    }

-- of datagrams or records: the first message, cut to n bytes
abbrev pub record_front : ℕ → Message → List Message → Front
record_front n m ms = record {
  bytes = take n m.bytes;
  rights = m.rights;
  origin = origin_of m;
  cred = m.cred;
  from = m.from;
  whole = length m.bytes;
  rest = ms;
}

-- of the queue of a socket, by its type
abbrev pub front_of : ℕ → Socket → Message → List Message → Front
front_of n s m ms = if is_stream s.kind then stream_front s.passcred n m ms else record_front n m ms

-- a fact about the front of a queue in which something waits
abbrev pub OnStreamFront : Bool → ℕ → List Message → (Front → Type 0) → Type 0
OnStreamFront wants_cred n [] P = Unit {0}
OnStreamFront wants_cred n (m ∷ ms) P = P (stream_front wants_cred n m ms)

abbrev pub OnRecordFront : ℕ → List Message → (Front → Type 0) → Type 0
OnRecordFront n [] P = Unit {0}
OnRecordFront n (m ∷ ms) P = P (record_front n m ms)

-- the same of what a receive takes at a socket
abbrev pub OnFrontOf : ℕ → Socket → List Message → (Front → Type 0) → Type 0
OnFrontOf n s [] P = Unit {0}
OnFrontOf n s (m ∷ ms) P = P (front_of n s m ms)

abbrev pub OnFront : ℕ → Socket → (Front → Type 0) → Type 0
OnFront n s P = OnFrontOf n s s.queue P
