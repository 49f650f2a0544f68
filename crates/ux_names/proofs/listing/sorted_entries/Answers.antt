use Rattle.std.proofs.Common.{◌≡◌, ◌++◌, map, IsPermutation, rules, sym, ap, subst, ◌∙◌}
use Rattle.std.specs.Map.Iter.{deref_pair}
use Rattle.std.proofs.lemmas.List.{append-nil}
use Rattle.std.proofs.lemmas.List.Sorted.{IsPermutation-map, IsNonDecreasingBy-from_sort_by_key}
use Rattle.ux_names.proofs.listing.sorted_entries.Goals as goal

pub returns-clause-all : goal.returns-clause-all
returns-clause-all g c =
    let all : map deref_pair c.loop-entry.entries.items ≡ c.args.bound.now.entries =
    sym (append-nil (map deref_pair c.loop-entry.entries.items))
    ∙ ap (λ l. map deref_pair c.loop-entry.entries.items ++ l) (sym c.in-None.ensures.steps.0) ∙ c.loop-entry.invariant in
    subst (λ l. IsPermutation l (map deref_pair c.sort_unstable_by_key.new.self.items)) all
    (IsPermutation-map deref_pair _ _ c.sort_unstable_by_key.ensures.permutation)

pub returns-clause-sorted : goal.returns-clause-sorted
returns-clause-sorted g c = IsNonDecreasingBy-from_sort_by_key
    (λ e. e.1.now.number) c.sort_unstable_by_key.new.self.items c.sort_unstable_by_key.ensures.sorted (λ a r q k. search rules)
