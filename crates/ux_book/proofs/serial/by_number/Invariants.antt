use Rattle.std.proofs.Common.{◌≡◌, ◌∷◌, ◌++◌, Some, None, map}
use Rattle.std.specs.Vec.Iter.{into_iter_items}
use Rattle.ux_book.proofs.serial.by_number.Given as goal

-- the places so far, and those of the shares that are left, are those of all shares
abbrev pub invariant-loop-share : goal.invariant-loop-share
invariant-loop-share g l =
    (goal.iterator-loop-share g).can_next l.share-iterator
    × (goal.iterator-loop-share g).is_finite l.share-iterator
    × (l.places.items ++ map (λ s. Some s) (into_iter_items l.share-iterator) ≡ None ∷ map (λ s. Some s) l.fn.shares.items)
