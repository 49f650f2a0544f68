use Rattle.std.proofs.Common.{◌≡◌, ℕ, length}
use Rattle.slab.specs.Slab as slab
use Rattle.ux_slots.proofs.ReleasingAll.{AreReleasedBelow}
use Rattle.ux_slots.proofs.slots.release_slots.Given as goal

abbrev pub invariant-loop-key : goal.invariant-loop-key
invariant-loop-key g l =
    AreReleasedBelow l.key (slab.get l.initial.slots) (slab.get l.slots) l.head
    × (◌≡◌ {A = ℕ} (length l.slots.slots) (length l.initial.slots.slots))
    × (◌≡◌ {A = ℕ} (slab.slab_len l.slots) (slab.slab_len l.initial.slots))
    × (◌≡◌ {A = ℕ} l.slots.capacity l.initial.slots.capacity)
