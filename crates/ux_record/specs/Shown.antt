-- What a receive gives of the messages that wait.
use Rattle.std.specs.Prelude.{◌≡◌}
use Rattle.ux_model.specs.Front.{Front}
use Rattle.ux_record.specs.declared.record.Peeked.{Peeked}

-- it is what stands at the front of the queue
pub record Shows (front : Front) (received : Peeked) : Type 0 where
  pub bytes : received.bytes ≡ front.bytes
  -- how many bytes the message has
  pub whole : received.whole ≡ front.whole
  pub rights : received.rights ≡ front.rights
  pub origin : received.origin ≡ front.origin
  pub cred : received.cred ≡ front.cred
  pub from : received.from ≡ front.from
