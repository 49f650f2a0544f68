use Rattle.std.proofs.Common.{rules}
use Rattle.std.specs.Map.Iter.{deref}
use Rattle.std.proofs.lemmas.List.Sorted.{IsNonDecreasingBy-from_sort_by_key}
use Rattle.std.proofs.lemmas.Map.Iter.{rest_all}
use Rattle.ux_slots.proofs.Listing.{whole, sorted_there, sorted_rises}
use Rattle.ux_slots.proofs.slots.ids_in.Goals as goal

pub returns-clause-there : goal.returns-clause-there
returns-clause-there c = sorted_there c.args.index.now _ _
    (whole _ _ _ c.loop-number.invariant (rest_all deref _ _ _ c.in-None.is c.next.ensures.steps))
    c.sort_unstable_by_key.ensures.permutation

pub returns-clause-rising : goal.returns-clause-rising
returns-clause-rising c = sorted_rises c.args.index.now _ _
    (whole _ _ _ c.loop-number.invariant (rest_all deref _ _ _ c.in-None.is c.next.ensures.steps))
    c.len.ensures.unique
    c.sort_unstable_by_key.ensures.permutation
    (IsNonDecreasingBy-from_sort_by_key (λ x. x) _ c.sort_unstable_by_key.ensures.sorted (λ a r q k. search rules))
