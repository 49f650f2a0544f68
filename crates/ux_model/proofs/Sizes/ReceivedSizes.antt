-- How large what a receive takes is: the bytes and rights from the front of a queue that keeps to its limits, and the control bytes for
-- them.
use Rattle.std.proofs.Common.{◌≡◌, ℕ, zero, suc, ◌+◌, ◌-◌, ◌*◌, ◌/◌, ◌≤◌, ◌<◌, ◌==◌, Bool, true, false, if◌then◌else◌, List, [], ◌∷◌, ◌++◌}
use Rattle.std.proofs.Common.{length, take, min, Option, Some, None, refl, ap, arith}
use Rattle.std.specs.Prelude.{nat_lt, nat_le, flat_map}
use Rattle.std.specs.Int.{w32, to_le_bytes}
use Rattle.std.proofs.lemmas.Bool.{eqb-true, ltb-false, leb-true, ne_eqb, and_parts}
use Rattle.std.proofs.lemmas.List.{length-take, length-append}
use Rattle.std.proofs.lemmas.List.Sums.{sum_by-append}
use Rattle.ux_model.specs.Types.{Cred}
use Rattle.ux_model.specs.Limits.{name_limit, rights_limit, greatest_queue_limit}
use Rattle.ux_model.specs.Message.{Message, same_cred, queued_bytes, all_bytes}
use Rattle.ux_model.specs.Socket.{Socket, is_stream}
use Rattle.ux_model.specs.Stream.{front_with_cred, front_to_barrier, joined_run, rights_within}
use Rattle.ux_model.specs.Front.{Front, stream_front, record_front, front_of}
use Rattle.ux_model.specs.Process.{Descriptor, free_numbers}
use Rattle.ux_model.specs.Delivery.{rights_fit, install_count, writes_cred, space_for_rights, rights_bytes, control_bytes, delivery}
use Rattle.ux_model.specs.Rooms.{sender_bytes, control_limit}
use Rattle.ux_model.proofs.Messages.FrontRights.{run_front}
use Rattle.ux_model.proofs.Changes.Bounds.{AreBoundedMessages, HasBounds}

-- ---- the front of a queue

pub record IsSmallFront (n : ℕ) (front : Front) : Type 0 where
  pub few : length front.bytes ≤ n
  pub limited : length front.bytes ≤ greatest_queue_limit
  pub few_rights : length front.rights ≤ rights_limit
  pub short : sender_bytes front.from ≤ name_limit

with_cred_each : (cred : Cred) (q : List Message) → AreBoundedMessages q → AreBoundedMessages (front_with_cred cred q)
with_cred_each cred [] each = tt
with_cred_each cred (m ∷ ms) each = go (same_cred m.cred cred) (with_cred_each cred ms each.1)
  where
    go : (b : Bool) → AreBoundedMessages (front_with_cred cred ms) → AreBoundedMessages (if b then m ∷ front_with_cred cred ms else [])
    go true rest = (each.0, rest)
    go false rest = tt

none_within : (n : ℕ) → length (rights_within n []) ≡ 0
none_within zero = refl
none_within (suc n) = refl

-- up to the first message with rights there are no others
few_within : (n : ℕ) (q : List Message) → AreBoundedMessages q → length (rights_within n (front_to_barrier q)) ≤ rights_limit
few_within zero q each = omega arith
few_within (suc n) [] each = omega arith
few_within (suc n) (m ∷ ms) each = go (length m.rights == 0) refl (few_within (suc n - length m.bytes) ms each.1)
  where
    left : ℕ
    left = suc n - length m.bytes

    few : length m.rights ≤ rights_limit
    few = each.0.few_rights

    go : (b : Bool) → (length m.rights == 0) ≡ b → length (rights_within left (front_to_barrier ms)) ≤ rights_limit →
        length (rights_within (suc n) (if b then m ∷ front_to_barrier ms else m ∷ [])) ≤ rights_limit
    go true h rest =
        let none : length m.rights ≡ 0 = eqb-true (length m.rights) 0 h in
        let both = length-append m.rights (rights_within left (front_to_barrier ms)) in
        omega (arith, none, both, rest)
    go false h rest =
        let none = none_within left in
        let both = length-append m.rights (rights_within left []) in
        omega (arith, few, none, both)

stream_small : (wants : Bool) (n : ℕ) (m : Message) (ms : List Message) → AreBoundedMessages (m ∷ ms) →
    queued_bytes (m ∷ ms) ≤ greatest_queue_limit → IsSmallFront n (stream_front wants n m ms)
stream_small wants n m ms each all =
    let run : List Message = joined_run wants m ms in
    let cut = length-take (min n (queued_bytes run)) (all_bytes run) in
    let f = run_front wants m ms in
    let parts = sum_by-append (λ m. length (Message.bytes m)) run f.rest in
    let whole : queued_bytes (run ++ f.rest) ≡ queued_bytes (m ∷ ms) = ap queued_bytes f.is in
    record {
      few = omega (arith, cut);
      limited = omega (arith, cut, parts, whole, all);
      few_rights = few_joined wants;
      short = omega arith;
    }
  where
    few_joined : (b : Bool) → length (rights_within (min n (queued_bytes (joined_run wants m ms))) (joined_run b m ms)) ≤ rights_limit
    few_joined true = few_within _ (front_with_cred m.cred (m ∷ ms)) (with_cred_each m.cred (m ∷ ms) each)
    few_joined false = few_within _ (m ∷ ms) each

record_small : (n : ℕ) (m : Message) (ms : List Message) → AreBoundedMessages (m ∷ ms) → IsSmallFront n (record_front n m ms)
record_small n m ms each =
    let cut = length-take n m.bytes in
    let few = each.0.few_bytes in
    record { few = omega (arith, cut); limited = omega (arith, cut, few); few_rights = each.0.few_rights; short = each.0.short_sender }

pub front_small : (n : ℕ) (s : Socket) (m : Message) (ms : List Message) → HasBounds s.kind s.name s.queue_limit (m ∷ ms) →
    IsSmallFront n (front_of n s m ms)
front_small n s m ms own = go (is_stream s.kind) refl
  where
    go : (b : Bool) → is_stream s.kind ≡ b → IsSmallFront n (if b then stream_front s.passcred n m ms else record_front n m ms)
    go true h = stream_small s.passcred n m ms own.each (own.all h)
    go false h = record_small n m ms own.each

-- ---- control bytes

length-numbers : (ns : List ℕ) → length (flat_map (to_le_bytes w32) ns) ≡ 4 * length ns
length-numbers [] = refl
length-numbers (n ∷ ns) = let rest : length (flat_map (to_le_bytes w32) ns) ≡ 4 * length ns = length-numbers ns in omega (arith, rest)

is_some_list : (n : ℕ) (ns : List ℕ) → (length (n ∷ ns) == 0) ≡ false
is_some_list n ns = ne_eqb (length (n ∷ ns)) 0 (λ e. absurd (omega (arith, e)))

rights_long : (n : ℕ) (ns : List ℕ) → length (rights_bytes (n ∷ ns)) ≡ 16 + 4 * length (n ∷ ns)
rights_long n ns = let all = length-numbers (n ∷ ns) in rw (is_some_list n ns) (omega (arith, all))

-- rights of which one fits at least
room_of_rights : (space k : ℕ) → 0 < k → k ≤ rights_fit space → 16 + 4 * k ≤ space
room_of_rights space k some fits = go (nat_lt space 20) refl fits
  where
    go : (b : Bool) → nat_lt space 20 ≡ b → k ≤ (if b then 0 else (space - 16) / 4) → 16 + 4 * k ≤ space
    go true h fits = absurd (omega (arith, some, fits))
    go false h fits = let long = ltb-false space 20 h in omega (arith, long, fits)

-- where the credentials are reported or not
control_long : (told : Bool) (cred : Cred) (numbers : List ℕ) (space : ℕ) → (told ≡ true → 28 ≤ space) → length numbers ≤ rights_limit →
    length numbers ≤ rights_fit (if told then space - 32 else space) →
    length (control_bytes (if told then Some cred else None) numbers) ≤ min control_limit space
control_long false cred [] space told few fits = omega arith
control_long true cred [] space told few fits = let room : 28 ≤ space = told refl in omega (arith, room)
control_long false cred (n ∷ ns) space told few fits =
    let long = rights_long n ns in
    let room = room_of_rights space (length (n ∷ ns)) (omega arith) fits in
    omega (arith, long, room, few)
control_long true cred (n ∷ ns) space told few fits =
    let long = length-numbers ns in
    let room = room_of_rights (space - 32) (length (n ∷ ns)) (omega arith) fits in
    rw (is_some_list n ns) (omega (arith, long, room, few))

pub control_small : (wanted : Bool) (cred : Cred) (rights : List ℕ) (space : ℕ) (table : List (Option Descriptor)) →
    length rights ≤ rights_limit →
    length (delivery wanted cred rights space table).control ≤ min control_limit space
unfolding delivery
control_small wanted cred rights space table few =
    let free : List ℕ = free_numbers table in
    let m : ℕ = install_count (length rights) (space_for_rights wanted space) (length free) in
    let cut = length-take m free in
    control_long (writes_cred wanted space) cred (take m free) space
    (λ told. leb-true 28 space (and_parts wanted (nat_le 28 space) told).1) (omega (arith, cut, few)) (omega (arith, cut))
