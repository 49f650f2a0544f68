use Rattle.std.proofs.Common.{[], length, ap, sym, subst, ◌∙◌}
use Rattle.ux_model.specs.Types.{Reply, Errno}
use Rattle.ux_model.specs.State.{State}
use Rattle.ux_model.specs.Step.{Step}
use Rattle.ux_model.specs.Waiting.{may_wait}
use Rattle.ux_book.specs.Books.{KeptHistory, state_of}
use Rattle.ux_book.proofs.Legal.{has_to_wait}
use Rattle.ux_book.proofs.book.Book.lacks_room.Goals as goal

pub returns-then-may_wait : goal.returns-then-may_wait
returns-then-may_wait g c =
    let p = c.args.pid.0 in
    let request = c.args.request.now in
    let book = c.self.invariant.0 in record {
      waits = λ yes. record {
        waits =
            ap (λ (b : KeptHistory). may_wait (state_of b) p request) (sym c.self.view_is)
            ∙ ap (λ (S : State). may_wait S p request) (sym book.at_replay) ∙ sym c.may_wait.ensures ∙ c.if-may_wait.true;
        again =
            subst (λ (b : KeptHistory). Step (state_of b) p (length b.entries) request (Reply.Err Errno.EAGAIN) [] (state_of b))
            c.self.view_is
            (has_to_wait g.W.BookName.boot c.self.inside.kernel c.self.inside.trail.entries p request book.legal book.at_replay
            (c.lacks_room.ensures.again yes (length c.self.inside.trail.entries)));
      };
    }
