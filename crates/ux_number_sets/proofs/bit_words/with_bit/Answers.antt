use Rattle.std.specs.Int.{w64}
use Rattle.std.proofs.lemmas.Nat.Bits.{bit_at_set_same, bit_at_set_other, bit_at_clear_same, bit_at_clear_other}
use Rattle.ux_number_sets.proofs.bit_words.with_bit.Goals as goal

pub returns-then-on-clause-this : goal.returns-then-on-clause-this
returns-then-on-clause-this c = rw c.if-on.true (bit_at_set_same w64 c.args.word c.args.bit c.requires)

pub returns-then-on-clause-others : goal.returns-then-on-clause-others
returns-then-on-clause-others c = λ i within away. bit_at_set_other w64 c.args.word c.args.bit c.requires i away

pub returns-else-on-clause-this : goal.returns-else-on-clause-this
returns-else-on-clause-this c = rw c.if-on.false (bit_at_clear_same w64 c.args.word c.args.bit c.requires)

pub returns-else-on-clause-others : goal.returns-else-on-clause-others
returns-else-on-clause-others c = λ i within away. bit_at_clear_other w64 c.args.word c.args.bit c.requires i within away
