use Rattle.std.proofs.Common.{◌≡◌, map, drop}
use Rattle.ux_syntax.specs.Reading.{each_at, number_at}
use Rattle.ux_syntax.proofs.Pairs.{with_front}
use Rattle.ux_syntax.proofs.control.each_number_of.Given as goal

abbrev pub invariant-loop-word : goal.invariant-loop-word
invariant-loop-word l =
    with_front (map (λ fd. fd.0) l.fds.items) (each_at number_at (map (λ word. word.now) (drop l.word-index l.words))) ≡ each_at number_at
    (map (λ word. word.now) l.words)
