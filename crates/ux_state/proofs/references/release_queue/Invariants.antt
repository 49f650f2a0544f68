use Rattle.std.proofs.Common.{◌≡◌, ℕ, ◌+◌, length}
use Rattle.ux_model.specs.References.{queue_refs}
use Rattle.ux_model.specs.Flight.{rights_sent_by}
use Rattle.ux_state.specs.Flights.{flights_of}
use Rattle.ux_state.specs.Releases.{Left}
use Rattle.ux_state.proofs.references.release_queue.Given as goal

abbrev pub invariant-loop-rights : goal.invariant-loop-rights
invariant-loop-rights l = Left (λ k. queue_refs k l.fn.socket.queue) (λ k. queue_refs k l.socket.queue) l.fn.slots l.slots
    × (l.socket.phase ≡ l.fn.socket.phase)
    × ((u : ℕ) → flights_of l.fn.flights u + rights_sent_by u l.socket.queue ≡ flights_of l.flights u + rights_sent_by u l.fn.socket.queue)

abbrev pub decreases-loop-rights : goal.decreases-loop-rights
decreases-loop-rights l = length l.socket.queue
