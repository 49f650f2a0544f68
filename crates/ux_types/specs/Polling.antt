-- When what a poll(2) asks for, or reports, is the same.
use Rattle.std.specs.Prelude.{Bool, ◌==◌}
use Rattle.std.specs.Ordering.{on, eq_of_both}
use Rattle.ux_types.specs.declared.flag_sets.PollFlags.{PollFlags}
use Rattle.ux_types.specs.declared.polling.PollFd.{PollFd}

abbrev pub same_flags : PollFlags → PollFlags → Bool
same_flags = on (λ f. f.0) ◌==◌

abbrev pub same_asked : PollFd → PollFd → Bool
same_asked = eq_of_both (on (λ f. f.fd.0) ◌==◌) (on (λ f. f.events.0) ◌==◌)
