-- Counts of many references, one after another, and of those that a queue or a backlog holds.
use Rattle.std.proofs.Common.{◌≡◌, ℕ, ◌+◌, ◌<◌, ◌≤◌, ◌==◌, cond, List, [], ◌∷◌, length, get_or, take, drop, Option, Some, None, option_map}
use Rattle.std.proofs.Common.{refl, ap, arith}
use Rattle.std.specs.Prelude.{slice_get}
use Rattle.std.proofs.lemmas.Bool.{eq-eqb}
use Rattle.std.proofs.lemmas.List.Sums.{sum_by_more, sum_by-take-le, sum_by-cons}
use Rattle.ux_model.specs.Message.{Message}
use Rattle.ux_model.specs.References.{times, queue_refs}
use Rattle.ux_model.specs.Flight.{of_user, rights_sent_by}

abbrev pub one : ℕ → ℕ → ℕ
one r k = cond (r == k) 1 0

one_itself : (r : ℕ) → one r r ≡ 1
one_itself r = ap (λ b. cond {A = ℕ} b 1 0) (eq-eqb r r refl)

-- what stands at i stands there once more than in front of it
pub times_at : (xs : List ℕ) (i : ℕ) → i < length xs → times (get_or xs i 0) (take i xs) + 1 ≤ times (get_or xs i 0) xs
times_at xs i inside =
    let r : ℕ = get_or xs i 0 in
    let a = sum_by_more (λ n. cond {A = ℕ} (n == r) 1 0) xs i 0 inside in
    let b = one_itself r in
    let c = sum_by-take-le (λ n. cond {A = ℕ} (n == r) 1 0) xs (i + 1) in
    omega (arith, a, b, c)

-- the first message holds its rights, and the others the rest
pub queue_popped : (k : ℕ) (q : List Message) (rights : List ℕ) (uid : ℕ) →
    ◌≡◌ {A = Option (List ℕ × ℕ)} (Some (rights, uid)) (option_map (λ m. (Message.rights m, Message.uid m)) (slice_get q 0)) →
    queue_refs k (drop 1 q) + times k rights ≡ queue_refs k q
queue_popped k [] rights uid e = absurd (cc e)
queue_popped k (m ∷ ms) rights uid e =
    let a = sum_by-cons (λ m. times k (Message.rights m)) m ms in
    let pair : ◌≡◌ {A = List ℕ × ℕ} (rights, uid) (Message.rights m, Message.uid m) = cc e in
    let b = ap (λ (p : List ℕ × ℕ). times k p.0) pair in
    omega (arith, a, b)

-- and so for its rights in flight
pub flying_popped : (u : ℕ) (q : List Message) (rights : List ℕ) (uid : ℕ) →
    ◌≡◌ {A = Option (List ℕ × ℕ)} (Some (rights, uid)) (option_map (λ m. (Message.rights m, Message.uid m)) (slice_get q 0)) →
    rights_sent_by u (drop 1 q) + of_user u uid (length rights) ≡ rights_sent_by u q
flying_popped u [] rights uid e = absurd (cc e)
flying_popped u (m ∷ ms) rights uid e =
    let a = sum_by-cons (λ m. of_user u (Message.uid m) (length (Message.rights m))) m ms in
    let pair : ◌≡◌ {A = List ℕ × ℕ} (rights, uid) (Message.rights m, Message.uid m) = cc e in
    let b = ap (λ (p : List ℕ × ℕ). of_user u p.1 (length p.0)) pair in
    omega (arith, a, b)

-- of its own user they are all
pub of_itself : (u count : ℕ) → of_user u u count ≡ count
of_itself u count = ap (λ b. cond {A = ℕ} b count 0) (eq-eqb u u refl)

pub no_flying : (u : ℕ) (q : List Message) →
    ◌≡◌ {A = Option (List ℕ × ℕ)} None (option_map (λ m. (Message.rights m, Message.uid m)) (slice_get q 0)) → rights_sent_by u q ≡ 0
no_flying u [] e = refl
no_flying u (m ∷ ms) e = absurd (cc e)

pub fewer_messages : (q : List Message) (r : List ℕ × ℕ) →
    ◌≡◌ {A = Option (List ℕ × ℕ)} (Some r) (option_map (λ m. (Message.rights m, Message.uid m)) (slice_get q 0)) →
    length (drop 1 q) < length q
fewer_messages [] r e = absurd (cc e)
fewer_messages (m ∷ ms) r e = omega arith

pub no_messages : (k : ℕ) (q : List Message) →
    ◌≡◌ {A = Option (List ℕ × ℕ)} None (option_map (λ m. (Message.rights m, Message.uid m)) (slice_get q 0)) → queue_refs k q ≡ 0
no_messages k [] e = refl
no_messages k (m ∷ ms) e = absurd (cc e)

-- so does the oldest end that waits
pub end_popped : (k : ℕ) (xs : List ℕ) (e : ℕ) → Some e ≡ slice_get xs 0 → times k (drop 1 xs) + one e k ≡ times k xs
end_popped k [] e h = absurd (cc h)
end_popped k (x ∷ xs) e h =
    let a = sum_by-cons (λ n. cond {A = ℕ} (n == k) 1 0) x xs in
    let same : e ≡ x = cc h in
    let b = ap (λ n. one n k) same in
    omega (arith, a, b)

pub fewer_ends : (xs : List ℕ) (e : ℕ) → Some e ≡ slice_get xs 0 → length (drop 1 xs) < length xs
fewer_ends [] e h = absurd (cc h)
fewer_ends (x ∷ xs) e h = omega arith

pub no_ends : (k : ℕ) (xs : List ℕ) → None ≡ slice_get xs 0 → times k xs ≡ 0
no_ends k [] e = refl
no_ends k (x ∷ xs) e = absurd (cc e)
