-- Rights in flight: passed descriptors in messages that nobody has received, by the user of the sending process (unix(7), ETOOMANYREFS).
use Rattle.std.specs.Prelude.{ℕ, ◌==◌, if◌then◌else◌, List, length, Option, Some, None, sum_by}
use Rattle.ux_model.specs.Message.{Message}
use Rattle.ux_model.specs.Description.{Description, Target}
use Rattle.ux_model.specs.State.{State}
use Rattle.ux_model.specs.Peers.{at_target, at_socket}

-- of so many rights that one user sent, those of this user: all or none
abbrev pub of_user : ℕ → ℕ → ℕ → ℕ
of_user uid sender count = if sender == uid then count else 0

-- the same, where there may be no sender
abbrev pub of_sender : ℕ → Option ℕ → ℕ → ℕ
of_sender uid None count = 0
of_sender uid (Some sender) count = of_user uid sender count

-- how many rights of these messages come from processes of this user
abbrev pub rights_sent_by : ℕ → List Message → ℕ
rights_sent_by uid queue = sum_by (λ m. of_user uid m.uid (length m.rights)) queue

-- in the queue of a socket that a description leads to
abbrev pub flying_at : ℕ → Target → ℕ
flying_at uid target = at_target (λ s. rights_sent_by uid s.queue) target

abbrev pub flying_in : ℕ → Option Description → ℕ
flying_in uid x = at_socket (λ s. rights_sent_by uid s.queue) x

-- rights in flight of a user: those in messages that nobody has received
unfoldable pub in_flight : State → ℕ → ℕ
in_flight S uid = sum_by (flying_in uid) S.descriptions
