use Rattle.std.proofs.Common.{◌≡◌, map, drop}
use Rattle.ux_syntax.specs.Reading.{each_at, asked_at}
use Rattle.ux_syntax.proofs.Pairs.{with_front}
use Rattle.ux_syntax.proofs.polling.each_asked_of.Given as goal

abbrev pub invariant-loop-word : goal.invariant-loop-word
invariant-loop-word l =
    with_front l.fds.items (each_at asked_at (map (λ word. word.now) (drop l.word-index l.words))) ≡ each_at asked_at
    (map (λ word. word.now) l.words)
