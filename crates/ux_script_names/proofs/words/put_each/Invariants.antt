use Rattle.std.proofs.Common.{◌≡◌, ◌++◌, ◌∷◌, drop}
use Rattle.std.specs.List.{flat_map}
use Rattle.ux_script_names.specs.Words.{each_between}
use Rattle.ux_script_names.proofs.words.put_each.Given as goal

-- with what the parts that are left stand for it is all
abbrev pub invariant-loop-part : goal.invariant-loop-part
invariant-loop-part g l =
    l.out.items ++ flat_map (λ p. l.separator ∷ g.S.Standing.stands l.standing p.now) (drop l.part-index l.rest)
    ≡ l.fn.out.items ++ each_between l.separator (g.S.Standing.stands l.standing) l.text
