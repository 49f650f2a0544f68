use Rattle.ux_book.proofs.Trails.{begins}
use Rattle.ux_book.proofs.trail.Trail.new.Goals as goal

pub of_words-requires : goal.of_words-requires
of_words-requires c = begins
