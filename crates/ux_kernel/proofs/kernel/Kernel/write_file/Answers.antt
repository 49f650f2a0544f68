use Rattle.std.proofs.Common.{rules}
use Rattle.ux_kernel.proofs.kernel.Kernel.write_file.Goals as goal

pub returns-then-not-has_reader : goal.returns-then-not-has_reader
returns-then-not-has_reader g c = search rules
