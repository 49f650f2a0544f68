use Rattle.std.proofs.Common.{◌≡◌, drop}
use Rattle.ux_script_names.specs.Words.{meaning_in}
use Rattle.ux_script_names.proofs.scope.VecNamedMeanings.number_of.Given as goal

-- the names that were seen aren't it
abbrev pub invariant-loop-named : goal.invariant-loop-named
invariant-loop-named l = meaning_in (drop l.named-index l.self.items) l.name ≡ meaning_in l.self.items l.name
