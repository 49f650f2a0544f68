use Rattle.std.proofs.Common.{◌≡◌, ◌<◌, [], length, subst, sym, ap, ◌∙◌, arith}
use Rattle.std.proofs.lemmas.Bool.{ltb-false}
use Rattle.ux_number_sets.specs.Sets.{IsFirstFree}
use Rattle.ux_number_sets.specs.Groups.{group}
use Rattle.ux_number_sets.proofs.GroupLaws.{all_in, first_in_group, first_in_none, found_none}
use Rattle.ux_number_sets.proofs.grouped_set.GroupedSet.first_free.Goals as goal

pub returns-in_err-group : goal.returns-in_err-group
returns-in_err-group c = rw (c.from_residual.ensures, ← c.self.view_is)
    (all_in c.self.inside.groups.items c.self.inside.full c.self.invariant c.in_err-group.ensures)

pub overflow_mul-result : goal.overflow_mul-result
overflow_mul-result c = omega (arith, c.self.invariant.small, c.in_ok-group.ensures.within)

pub returns-in_default : goal.returns-in_default
returns-in_default c =
    rw (← c.self.view_is) (first_in_none c.self.inside.groups.items c.self.inside.full c.in_ok-group.group c.self.invariant
    c.in_ok-group.ensures
    (omega (arith, ltb-false _ _ (sym c.in_default.ensures.lookup.0), c.deref.ensures.len)))

pub overflow_mul-result-2 : goal.overflow_mul-result-2
overflow_mul-result-2 c = omega (arith, c.self.invariant.small, c.in_ok-group.ensures.within)

pub overflow_add-result : goal.overflow_add-result
overflow_add-result c =
    let there : c.in_ok-group.group < length c.self.inside.groups.items =
    omega (arith, c.in-Some.ensures.lookup.3.0, c.deref.ensures.len) in
    let here : c.in-Some.numbers.now ≡ group c.self.inside.groups.items c.in_ok-group.group = c.in-Some.ensures.lookup.3.1 []
    ∙ ap (λ xs. group xs c.in_ok-group.group) c.deref.ensures.value in
    omega (
      arith,
      c.self.invariant.small,
      c.in_ok-group.ensures.within,
      c.in_ok-number.ensures.within,
      ap length here,
      c.self.invariant.long c.in_ok-group.group there,
    )

pub returns-in_err-number : goal.returns-in_err-number
returns-in_err-number c =
    let there : c.in_ok-group.group < length c.self.inside.groups.items =
    omega (arith, c.in-Some.ensures.lookup.3.0, c.deref.ensures.len) in
    let here : c.in-Some.numbers.now ≡ group c.self.inside.groups.items c.in_ok-group.group = c.in-Some.ensures.lookup.3.1 []
    ∙ ap (λ xs. group xs c.in_ok-group.group) c.deref.ensures.value in
    absurd (found_none c.self.inside.groups.items c.self.inside.full c.in_ok-group.group c.self.invariant c.in_ok-group.ensures there
    (rw here at c.in_err-number.ensures))

pub returns : goal.returns
returns c =
    let there : c.in_ok-group.group < length c.self.inside.groups.items =
    omega (arith, c.in-Some.ensures.lookup.3.0, c.deref.ensures.len) in
    let here : c.in-Some.numbers.now ≡ group c.self.inside.groups.items c.in_ok-group.group = c.in-Some.ensures.lookup.3.1 []
    ∙ ap (λ xs. group xs c.in_ok-group.group) c.deref.ensures.value in
    rw (← c.self.view_is) (first_in_group c.self.inside.groups.items c.self.inside.full c.in_ok-group.group c.in_ok-number.number
    c.self.invariant c.in_ok-group.ensures there (subst (λ m. IsFirstFree m 0 c.in_ok-number.number) here c.in_ok-number.ensures))
