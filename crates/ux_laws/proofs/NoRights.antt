-- A receive that has no control space for a right is given none.
use Rattle.std.proofs.Common.{◌≡◌, ℕ, ◌+◌, ◌-◌, ◌<◌, ◌==◌, Bool, true, false, ◌&&◌, if◌then◌else◌, min, List, [], ◌∷◌, length, take}
use Rattle.std.proofs.Common.{Option, None, Result, Ok, Err, option_map, refl, ap, ◌∙◌, arith}
use Rattle.std.specs.Prelude.{nat_lt, nat_le, ◌/◌}
use Rattle.std.proofs.lemmas.Bool.{ltb-true, lt-leb}
use Rattle.ux_model.specs.Types.{Errno, Cred, Request, Reply}
use Rattle.ux_model.specs.Message.{Message}
use Rattle.ux_model.specs.Stream.{Origin}
use Rattle.ux_model.specs.Front.{front_of}
use Rattle.ux_model.specs.Control.{head_len, number_len, cred_len, cred_space}
use Rattle.ux_model.specs.Delivery.{rights_fit, install_count, space_for_rights, delivery}
use Rattle.ux_model.specs.Delivered.{Brought, nothing_brought, brought_from, brought, tag_of, told_of, delivered_by}
use Rattle.ux_model.specs.Socket.{Socket}
use Rattle.ux_model.specs.Process.{Descriptor, free_numbers}
use Rattle.ux_model.specs.State.{State, table_of}
use Rattle.ux_model.specs.Outcome.{find_socket}
use Rattle.ux_model.specs.Pedigree.{before}
use Rattle.ux_laws.specs.Rights.{asks_no_rights, RightsAreAsked}

-- none has room
none_fit : (wanted : Bool) (space count free : ℕ) → nat_lt space (head_len + number_len) ≡ true →
    install_count count (space_for_rights wanted space) free ≡ 0
none_fit wanted space count free small = none (rights_fit (space_for_rights wanted space)) fits
  where
    few : space < head_len + number_len
    few = ltb-true space (head_len + number_len) small

    no_cred : (b : Bool) → (b && nat_le cred_len space) ≡ false
    no_cred true = lt-leb cred_len space (omega (arith, few))
    no_cred false = refl

    fits : rights_fit (space_for_rights wanted space) ≡ 0
    fits = ap (λ (b : Bool). rights_fit (if b then space - cred_space else space)) (no_cred wanted)
        ∙ ap (λ (b : Bool). if b then 0 else (space - head_len) / number_len) small

    none : (k : ℕ) → k ≡ 0 → min count (min k free) ≡ 0
    none k is = omega (arith, is)

no_numbers : (wanted : Bool) (cred : Cred) (rights : List ℕ) (space : ℕ) (table : List (Option Descriptor)) →
    nat_lt space (head_len + number_len) ≡ true → (delivery wanted cred rights space table).numbers ≡ []
unfolding delivery
no_numbers wanted cred rights space table small = ap (λ (k : ℕ). take k (free_numbers table))
    (none_fit wanted space (length rights) (length (free_numbers table)) small)

none_brought : (s : Socket) (n space : ℕ) (table : List (Option Descriptor)) (queue : List Message) →
    nat_lt space (head_len + number_len) ≡ true → (brought_from s n space table queue).numbers ≡ []
none_brought s n space table [] small = refl
none_brought s n space table (m ∷ ms) small =
    no_numbers s.passcred (front_of n s m ms).cred (front_of n s m ms).rights space table small

none_told : (b : Brought) (reply : Reply) → b.numbers ≡ [] → told_of b reply ≡ None
none_told b reply none = by_reply reply
  where
    no_tag : tag_of b ≡ None
    no_tag = ap (λ (ns : List ℕ). if length ns == 0 then None else option_map (λ (o : Origin). o.tag) b.origin) none

    by_reply : (r : Reply) → told_of b r ≡ None
    by_reply (Reply.Received flags count bytes control from) = no_tag
    by_reply _ = refl

-- a call that asks for none
none_delivered : (S : State) (p : ℕ) (request : Request) (reply : Reply) → asks_no_rights request ≡ true →
    delivered_by S p request reply ≡ None
none_delivered S p (Request.RecvMsg fd n space flags) reply small =
    none_told (brought S p (Request.RecvMsg fd n space flags)) reply (by_socket (find_socket S p fd))
  where
    by_socket : (r : Result (ℕ × Socket) Errno) → (elim r as (λ _. Brought) [
      | Err e ↦ nothing_brought
      | Ok found ↦ brought_from found.1 n space (table_of S p) found.1.queue
    ]).numbers ≡ []
    by_socket (Err e) = refl
    by_socket (Ok found) = none_brought found.1 n space (table_of S p) found.1.queue small
none_delivered S p _ reply h = refl

pub rights_are_asked : RightsAreAsked
rights_are_asked boot es p asked j e at own = none_delivered (before boot es j) e.pid.0 e.request e.reply (asked j e at own)
