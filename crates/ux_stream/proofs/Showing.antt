-- What a receive gives, as a whole.
use Rattle.std.proofs.Common.{◌≡◌, ℕ, Bool, List, [], ◌∷◌}
use Rattle.ux_model.specs.Message.{Message}
use Rattle.ux_model.specs.Front.{OnStreamFront}
use Rattle.ux_stream.specs.declared.marks.Reach.{Reach}
use Rattle.ux_stream.specs.declared.queue.PeekedBytes.{PeekedBytes}
use Rattle.ux_stream.specs.Marks.{Stretch, cut_by, IsReach}
use Rattle.ux_stream.specs.Shown.{Shows}

pub front_cred : (wants : Bool) (n : ℕ) (reach : Reach) (ms : List Stretch) (bs : List ℕ) → IsReach wants n reach ms →
    OnStreamFront wants n (cut_by ms bs) (λ f. reach.cred ≡ f.cred)
front_cred wants n reach [] bs reached = tt
front_cred wants n reach (m ∷ ms) bs reached = reached.0

pub front_shows : (wants : Bool) (n : ℕ) (q : List Message) (r : PeekedBytes) → OnStreamFront wants n q (λ f. r.bytes ≡ f.bytes) →
    OnStreamFront wants n q (λ f. r.rights ≡ f.rights) →
    OnStreamFront wants n q (λ f. r.origin ≡ f.origin) → OnStreamFront wants n q (λ f. r.cred ≡ f.cred) →
    OnStreamFront wants n q (λ f. Shows f r)
front_shows wants n [] r bytes rights origin cred = tt
front_shows wants n (m ∷ ms) r bytes rights origin cred = record { bytes = bytes; rights = rights; origin = origin; cred = cred }
