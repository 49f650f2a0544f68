use Rattle.std.proofs.Common.{◌≡◌, map, take}
use Rattle.ux_script.specs.Objects.{object_of, failing_call}
use Rattle.ux_script.proofs.objects.objects_of.Given as goal

-- what is seen of the objects so far, and which call of each fails, is what their lines say
abbrev pub invariant-loop-line : goal.invariant-loop-line
invariant-loop-line l = record {
  objects : map (λ o. (o.0, o.1.seen)) l.objects.items ≡ map object_of (take l.line-index l.line-items);
  failing : map (λ o. o.1.left) l.objects.items ≡ map (failing_call l.fails) (take l.line-index l.line-items);
}
