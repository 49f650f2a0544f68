use Rattle.std.proofs.Common.{arith, refl}
use Rattle.ux_number_sets.proofs.BitLaws.{none_clear, first_clear_bit}
use Rattle.ux_number_sets.proofs.bit_words.first_clear_bit.Goals as goal

pub returns-then-seen : goal.returns-then-seen
returns-then-seen c = λ i after within. none_clear c.args.word c.args.from _ i refl c.requires c.if-seen.true after within

pub returns-else-seen : goal.returns-else-seen
returns-else-seen c = rw c.trailing_ones.ensures (first_clear_bit c.args.word c.args.from (omega arith) c.requires c.if-seen.false)
