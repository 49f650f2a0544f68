use Rattle.std.proofs.Common.{◌≡◌, ◌++◌, take}
use Rattle.std.specs.List.{flat_map}
use Rattle.ux_page.specs.Escaping.{in_script}
use Rattle.ux_page.proofs.escape.put_in_script.Given as goal

abbrev pub invariant-loop-byte : goal.invariant-loop-byte
invariant-loop-byte l = l.out.items ≡ l.fn.out.items ++ flat_map in_script (take l.byte-index l.json)
