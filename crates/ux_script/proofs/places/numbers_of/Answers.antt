use Rattle.std.proofs.Common.{◌∷◌, [], length, ap, arith}
use Rattle.std.proofs.lemmas.List.{length-append}
use Rattle.ux_script.proofs.places.numbers_of.Goals as goal

pub loop-entry-init : goal.loop-entry-init
loop-entry-init c = ap length c.new-lines.ensures.items

pub loop-entry-preserved : goal.loop-entry-preserved
loop-entry-preserved c =
    omega (
      arith,
      ap length c.in_ok-push.ensures.items,
      length-append c.loop-entry.lines.items (c.number_of.result ∷ []),
      c.loop-entry.invariant,
    )

pub returns : goal.returns
returns c = omega (arith, c.loop-entry.invariant, c.loop-entry-test.false, c.loop-entry.auto.entry-index-end)
