use Rattle.std.proofs.Common.{◌≡◌, [], map, take}
use Rattle.ux_types.specs.declared.limits.ObjectLimit.{ObjectLimit}
use Rattle.delortxa.specs.Recipes.{object_of, failure_of}
use Rattle.delortxa.proofs.boot.Boot.anew.Given as goal

-- what was made anew so far
abbrev pub invariant-loop-recipe : goal.invariant-loop-recipe
invariant-loop-recipe l =
    let made = take l.recipe-index l.self-inside.recipes.items in
    l.boot ≡ record { objects = map object_of made; failures = map failure_of made; most = ObjectLimit.Usual; processes = [] }
