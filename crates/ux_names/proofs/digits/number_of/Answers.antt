use Rattle.std.proofs.Common.{rules, arith}
use Rattle.std.proofs.lemmas.Grind.{common_steps}
use Rattle.ux_names.proofs.digits.number_of.Goals as goal

pub returns-in_err-value_of : goal.returns-in_err-value_of
returns-in_err-value_of c = search rules

pub returns-in_err-high : goal.returns-in_err-high
returns-in_err-high c = search rules

pub returns-in_err-value_of-2 : goal.returns-in_err-value_of-2
returns-in_err-value_of-2 c = search rules

pub returns-in_err-value_of-3 : goal.returns-in_err-value_of-3
returns-in_err-value_of-3 c = search rules

pub returns-in_err-low : goal.returns-in_err-low
returns-in_err-low c = search rules

pub returns : goal.returns
returns c = grind (arith, common_steps)
