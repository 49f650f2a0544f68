-- The equality test of requests, pair by pair: all at once are too many cases for one search.
use Rattle.std.proofs.Common.{◌≡◌, rules}
use Rattle.std.specs.Prelude.{◌↔◌, IsTrue}
use Rattle.ux_types.specs.contracts.requests.RequestPartialEq.TheImpl.{eq-value}
use Rattle.ux_types.specs.declared.Request.{Request}
use Rattle.ux_fields.proofs.SameLists.{lists_asked}

abbrev Same : Request → Request → Type 0
Same a b = IsTrue (eq-value.it a b) ↔ (a ≡ b)

-- the last line stands for each other pair
pub same_request : (a b : Request) → Same a b
same_request Request.Off Request.Off = search rules
same_request (Request.PollMany xs a) (Request.PollMany ys b) = search (rules, lists_asked)
same_request a Request.Off = search rules
same_request a b = search rules
