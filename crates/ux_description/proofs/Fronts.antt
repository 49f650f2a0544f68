-- What a receive gives of a stream.
use Rattle.std.proofs.Common.{◌≡◌, ℕ, Bool, List, [], ◌∷◌, length, min, None, refl, ap, ◌∙◌, arith}
use Rattle.std.proofs.lemmas.List.{length-take}
use Rattle.std.proofs.lemmas.List.Concat.{length-flat_map}
use Rattle.ux_model.specs.Message.{Message, queued_bytes, all_bytes}
use Rattle.ux_model.specs.Stream.{joined_run, first_bytes}
use Rattle.ux_model.specs.Front.{OnStreamFront}
use Rattle.ux_stream.specs.declared.queue.PeekedBytes as stream
use Rattle.ux_stream.specs.Shown as shown
use Rattle.ux_record.specs.declared.record.Peeked.{Peeked}
use Rattle.ux_record.specs.Shown.{Shows}

first_length : (n : ℕ) (run : List Message) → length (first_bytes (min n (queued_bytes run)) run) ≡ min n (queued_bytes run)
first_length n run =
    let all : length (all_bytes run) ≡ queued_bytes run = length-flat_map (λ m. Message.bytes m) run in
    let some = length-take (min n (queued_bytes run)) (all_bytes run) in
    omega (arith, all, some)

-- what a queue gives, as the socket gives it: the bytes are all that the front has
pub stream_shows : (wants : Bool) (n : ℕ) (q : List Message) (given : stream.PeekedBytes) (r : Peeked) →
    OnStreamFront wants n q (λ f. shown.Shows f given) →
    r ≡ record {
      bytes = given.bytes;
      whole = length given.bytes;
      rights = given.rights;
      origin = given.origin;
      cred = given.cred;
      from =
          None;
    } → OnStreamFront wants n q (λ f. Shows f r)
stream_shows wants n [] given r shows is = tt
stream_shows wants n (m ∷ ms) given r shows is = rw is (record {
  bytes = shows.bytes;
  whole = ap length shows.bytes ∙ first_length n (joined_run wants m ms);
  rights = shows.rights;
  origin = shows.origin;
  cred = shows.cred;
  from = refl;
})
