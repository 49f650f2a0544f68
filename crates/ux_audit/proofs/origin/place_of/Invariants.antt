use Rattle.std.proofs.Common.{◌≡◌, ◌==◌, false, take, map}
use Rattle.std.specs.List.{list_any}
use Rattle.ux_audit.proofs.origin.place_of.Given as goal

abbrev pub invariant-loop-i : goal.invariant-loop-i
invariant-loop-i l = list_any (λ m. m == l.fd.0) (map (λ f. f.0) (take l.i l.numbers)) ≡ false
