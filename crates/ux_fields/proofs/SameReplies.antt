-- The equality test of replies, pair by pair: all at once are too many cases for one search.
use Rattle.std.proofs.Common.{◌≡◌, rules}
use Rattle.std.specs.Prelude.{◌↔◌, IsTrue}
use Rattle.ux_types.specs.contracts.replies.ReplyPartialEq.TheImpl.{eq-value}
use Rattle.ux_types.specs.declared.Reply.{Reply}
use Rattle.ux_fields.proofs.SameLists.{lists_found}

abbrev Same : Reply → Reply → Type 0
Same a b = IsTrue (eq-value.it a b) ↔ (a ≡ b)

-- the last line stands for each other pair
pub same_reply : (a b : Reply) → Same a b
same_reply Reply.Ok Reply.Ok = search rules
same_reply (Reply.Polled a) (Reply.Polled b) = search (rules, lists_found)
same_reply a Reply.Ok = search rules
same_reply a b = search rules
