-- What a receive gives of the bytes that wait.
use Rattle.std.specs.Prelude.{◌≡◌}
use Rattle.ux_model.specs.Front.{Front}
use Rattle.ux_stream.specs.declared.queue.PeekedBytes.{PeekedBytes}

-- it is what stands at the front of the queue
pub record Shows (front : Front) (received : PeekedBytes) : Type 0 where
  pub bytes : received.bytes ≡ front.bytes
  pub rights : received.rights ≡ front.rights
  pub origin : received.origin ≡ front.origin
  pub cred : received.cred ≡ front.cred
