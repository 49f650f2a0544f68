-- The equality tests of poll(2)'s lists say when the lists are equal.
use Rattle.std.proofs.Common.{◌≡◌, List, rules}
use Rattle.std.specs.Prelude.{Decides}
use Rattle.std.specs.Cmp.Lexicographic.{pointwise, pointwise_decides}
use Rattle.ux_types.specs.declared.PollFd.{PollFd}
use Rattle.ux_types.specs.declared.PollFlags.{PollFlags}
use Rattle.ux_types.specs.Polling.{same_asked, same_flags}

one_asked : (a b : PollFd) → Decides (same_asked a b) (a ≡ b)
one_asked a b = search rules

pub lists_asked : (xs ys : List PollFd) → Decides (pointwise same_asked xs ys) (xs ≡ ys)
lists_asked = pointwise_decides one_asked

one_found : (a b : PollFlags) → Decides (same_flags a b) (a ≡ b)
one_found a b = search rules

pub lists_found : (xs ys : List PollFlags) → Decides (pointwise same_flags xs ys) (xs ≡ ys)
lists_found = pointwise_decides one_found
