use Rattle.std.proofs.Common.{◌≡◌, take}
use Rattle.ux_orders.specs.Lists.{pids_of}
use Rattle.ux_orders.proofs.crew.Crew.make_all.Given as goal

abbrev pub invariant-loop-pid : goal.invariant-loop-pid
invariant-loop-pid g l = record {
  made : pids_of l.self.book.entries ≡ take l.pid-index l.pids;
  boot : l.self.book.boot ≡ l.fn.self.book.boot;
  lines : l.self.lines ≡ l.fn.self.lines;
}
