-- What a receive takes of the references that a queue holds: those that it hands out, and no others.
use Rattle.std.proofs.Common.{◌≡◌, ℕ, zero, suc, ◌+◌, ◌-◌, ◌≤◌, ◌==◌, cond, Bool, true, false, if◌then◌else◌, List, [], ◌∷◌, ◌++◌, length}
use Rattle.std.proofs.Common.{drop, min, refl, ap, sym, ◌∙◌, append_assoc, zero-add, arith}
use Rattle.std.specs.Prelude.{nat_le}
use Rattle.std.proofs.lemmas.Bool.{leb-false}
use Rattle.std.proofs.Math.Nat.{min-le_right}
use Rattle.std.proofs.lemmas.List.Sums.{sum_by-cons, sum_by-append}
use Rattle.ux_model.specs.Types.{Cred}
use Rattle.ux_model.specs.Message.{Message, same_cred, queued_bytes}
use Rattle.ux_model.specs.Stream.{front_with_cred, front_to_barrier, joined_run, rights_within, without_first}
use Rattle.ux_model.specs.Socket.{Socket, is_stream}
use Rattle.ux_model.specs.Front.{Front, stream_front, record_front, front_of}
use Rattle.ux_model.specs.References.{times, queue_refs}

-- the rights of the messages that lose a byte go, whichever they are
within_refs : (k n : ℕ) (q : List Message) → times k (rights_within n q) + queue_refs k (without_first n q) ≡ queue_refs k q
within_refs k zero [] = refl
within_refs k zero (m ∷ ms) = zero-add (queue_refs k (m ∷ ms))
within_refs k (suc n) [] = refl
within_refs k (suc n) (m ∷ ms) = go (within_refs k (suc n - length m.bytes) ms) (nat_le (length m.bytes) (suc n)) refl
  where
    more : times k (m.rights ++ rights_within (suc n - length m.bytes) ms) ≡ times k m.rights + times k
        (rights_within (suc n - length m.bytes) ms)
    more = sum_by-append (λ d. cond {A = ℕ} (d == k) 1 0) m.rights (rights_within (suc n - length m.bytes) ms)

    all : queue_refs k (m ∷ ms) ≡ times k m.rights + queue_refs k ms
    all = sum_by-cons (λ m. times k (Message.rights m)) m ms

    go : times k (rights_within (suc n - length m.bytes) ms) + queue_refs k (without_first (suc n - length m.bytes) ms) ≡ queue_refs k ms →
        (b : Bool) → nat_le (length m.bytes) (suc n) ≡ b →
        times k (m.rights ++ rights_within (suc n - length m.bytes) ms) + queue_refs k
        (if b then without_first (suc n - length m.bytes) ms else record m { bytes = drop (suc n) m.bytes; rights = [] } ∷ ms) ≡ queue_refs
        k (m ∷ ms)
    go rest true h = omega (arith, more, all, rest)
    go rest false h =
        let long = leb-false (length m.bytes) (suc n) h in
        let none : suc n - length m.bytes ≡ 0 = omega (arith, long) in
        let nothing : times k (rights_within (suc n - length m.bytes) ms) ≡ 0 = ap (λ i. times k (rights_within i ms)) none in
        let cut = sum_by-cons (λ m. times k (Message.rights m)) (record m { bytes = drop (suc n) m.bytes; rights = [] }) ms in
        omega (arith, more, all, nothing, cut)

-- so many bytes of a front that has them are of the whole
front_rights : (n : ℕ) (run rest : List Message) → n ≤ queued_bytes run → rights_within n (run ++ rest) ≡ rights_within n run
front_rights zero run rest fits = refl
front_rights (suc n) [] rest fits = absurd (omega (arith, fits))
front_rights (suc n) (m ∷ run) rest fits =
    let all = sum_by-cons (λ m. length (Message.bytes m)) m run in
    ap (λ xs. m.rights ++ xs) (front_rights (suc n - length m.bytes) run rest (omega (arith, fits, all)))

-- ---- what one receive joins is a front

pub record IsFront (front whole : List Message) : Type 0 where
  pub rest : List Message
  pub is : front ++ rest ≡ whole

one_more : (m : Message) (front whole : List Message) → IsFront front whole → IsFront (m ∷ front) (m ∷ whole)
one_more m front whole f = record { rest = f.rest; is = ap (λ xs. m ∷ xs) f.is }

none_of : (whole : List Message) → IsFront [] whole
none_of whole = record { rest = whole; is = refl }

pub cred_front : (cred : Cred) (q : List Message) → IsFront (front_with_cred cred q) q
cred_front cred [] = none_of []
cred_front cred (m ∷ ms) = go (cred_front cred ms) (same_cred m.cred cred)
  where
    go : IsFront (front_with_cred cred ms) ms → (b : Bool) → IsFront (if b then m ∷ front_with_cred cred ms else []) (m ∷ ms)
    go rest true = one_more m (front_with_cred cred ms) ms rest
    go rest false = none_of (m ∷ ms)

barrier_front : (q : List Message) → IsFront (front_to_barrier q) q
barrier_front [] = none_of []
barrier_front (m ∷ ms) = go (barrier_front ms) (length m.rights == 0)
  where
    go : IsFront (front_to_barrier ms) ms → (b : Bool) → IsFront (if b then m ∷ front_to_barrier ms else m ∷ []) (m ∷ ms)
    go rest true = one_more m (front_to_barrier ms) ms rest
    go rest false = record { rest = ms; is = refl }

front_of_front : (a b c : List Message) → IsFront a b → IsFront b c → IsFront a c
front_of_front a b c f g = record { rest = f.rest ++ g.rest; is = sym (append_assoc a f.rest g.rest) ∙ ap (λ xs. xs ++ g.rest) f.is ∙ g.is }

pub run_front : (wants : Bool) (m : Message) (ms : List Message) → IsFront (joined_run wants m ms) (m ∷ ms)
run_front true m ms = front_of_front _ _ _ (barrier_front (front_with_cred m.cred (m ∷ ms))) (cred_front m.cred (m ∷ ms))
run_front false m ms = barrier_front (m ∷ ms)

-- ---- a receive

front_refs : (k : ℕ) (wants : Bool) (n : ℕ) (m : Message) (ms : List Message) →
    times k (stream_front wants n m ms).rights + queue_refs k (stream_front wants n m ms).rest ≡ queue_refs k (m ∷ ms)
front_refs k wants n m ms =
    let run : List Message = joined_run wants m ms in
    let taken : ℕ = min n (queued_bytes run) in
    let f = run_front wants m ms in
    let same : rights_within taken (m ∷ ms) ≡ rights_within taken run = ap (rights_within taken) (sym f.is)
    ∙ front_rights taken run f.rest (min-le_right n (queued_bytes run)) in
    let all = within_refs k taken (m ∷ ms) in
    let here = ap (times k) same in
    omega (arith, all, here)

-- of any socket
pub front_of_refs : (k n : ℕ) (s : Socket) (m : Message) (ms : List Message) →
    times k (front_of n s m ms).rights + queue_refs k (front_of n s m ms).rest ≡ queue_refs k (m ∷ ms)
front_of_refs k n s m ms = go (is_stream s.kind)
  where
    taken : Bool → Front
    taken b = if b then stream_front s.passcred n m ms else record_front n m ms

    go : (b : Bool) → times k (taken b).rights + queue_refs k (taken b).rest ≡ queue_refs k (m ∷ ms)
    go true = front_refs k s.passcred n m ms
    go false = sym (sum_by-cons (λ m. times k (Message.rights m)) m ms)
