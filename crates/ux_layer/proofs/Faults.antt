-- What the book says of a share is what a seat's fault says of some legal history.
use Rattle.std.proofs.Common.{ℕ, length, subst}
use Rattle.ux_model.specs.Types.{Request}
use Rattle.ux_model.specs.State.{State}
use Rattle.ux_model.specs.History.{IsLegal}
use Rattle.ux_book.specs.declared.fault.CallFault.{CallFault}
use Rattle.ux_book.specs.Books.{KeptHistory, MustWait}
use Rattle.ux_book.specs.Pasts.{Caller}
use Rattle.ux_book.specs.Recording.{Knows}
use Rattle.ux_layer.specs.Faults.{CannotKeep, HasToWait}

legal_from : (boot : State) (book : KeptHistory) (c : Caller) → Knows boot book c → IsLegal boot book.entries
legal_from boot book c knows = subst (λ (S : State). IsLegal S book.entries) knows.boot_is knows.legal

-- the keeper can't keep one more entry
pub cannot_keep : (boot : State) (book : KeptHistory) (c : Caller) (keeper : ℕ → CallFault → Type 0) (fault : CallFault) →
    Knows boot book c → keeper (length book.entries) fault → CannotKeep boot c keeper fault
cannot_keep boot book c keeper fault knows cannot =
    record { entries = book.entries; legal = legal_from boot book c knows; exactly = knows.exactly; cannot = cannot }

-- the call has to wait
pub has_to_wait : (boot : State) (book : KeptHistory) (c : Caller) (request : Request) → Knows boot book c → MustWait book c.pid request →
    HasToWait boot c request
has_to_wait boot book c request knows waits =
    record {
      entries = book.entries;
      legal = legal_from boot book c knows;
      exactly = knows.exactly;
      waits =
          subst (λ (S : State). MustWait (record { boot = S; entries = book.entries }) c.pid request) knows.boot_is waits;
    }
