use Rattle.std.proofs.Common.{◌≡◌, ◌≤◌, ◌++◌, vec_capacity}
use Rattle.std.specs.Vec.Iter.{into_iter_items}
use Rattle.ux_layer.proofs.layer.start_book.Given as goal

-- the seats so far, and the shares that are left, are those of all shares
abbrev pub invariant-loop-share : goal.invariant-loop-share
invariant-loop-share g l =
    (goal.iterator-loop-share g).can_next l.share-iterator
    × (goal.iterator-loop-share g).is_finite l.share-iterator
    × (l.seats.items ++ into_iter_items l.share-iterator ≡ l.fn.shares.items)
    × (vec_capacity l.initial.seats ≤ vec_capacity l.seats)
