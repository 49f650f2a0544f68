-- What is done to marks, seen at the messages that they cut the bytes into.
use Rattle.std.proofs.Common.{◌≡◌, ℕ, zero, suc, ◌+◌, ◌-◌, ◌<◌, ◌≤◌, min, Bool, true, false, not, List, [], ◌∷◌, ◌++◌, length, get_or, take}
use Rattle.std.proofs.Common.{drop, subst, ◌⊎◌, inl, inr, if◌then◌else◌, refl, ap, sym, ◌∙◌, arith, rules}
use Rattle.std.specs.Prelude.{◌==◌, ◌&&◌, ◌↔◌, flat_map, slice_get, option_map, option_and_then, Option, Some, None, IsSome}
use Rattle.std.specs.List.{AllByRecursion}
use Rattle.std.proofs.lemmas.Bool.{cases_lt, le-leb, lt-leb}
use Rattle.std.proofs.lemmas.List.{append_assoc, length-append, take_all, length-take-le, length-drop, take-append-le, drop-append-le}
use Rattle.std.proofs.lemmas.List.{take-append-drop, drop-drop, drop-take, nil_from_length}
use Rattle.std.proofs.lemmas.List.Concat.{flat_map-append}
use Rattle.std.proofs.lemmas.List.Sums.{sum_by-cons}
use Rattle.ux_model.specs.Types.{Cred}
use Rattle.ux_model.specs.Message.{Message, same_cred, queued_bytes}
use Rattle.ux_model.specs.Stream.{Origin, origin_of, front_with_cred, front_to_barrier, first_bytes, rights_within, origin_within}
use Rattle.ux_model.specs.Stream.{without_first}
use Rattle.ux_model.specs.Front.{OnStreamFront}
use Rattle.ux_stream.specs.Marks.{Stretch, message_of, stretch_of, cut_by, counted, IsQueue, run_count, IsReach, rights_among, origin_at}
use Rattle.ux_stream.specs.Marks.{origin_among, marks_without, barrier_count}
use Rattle.ux_stream.specs.declared.marks.Reach.{Reach}

abbrev pub AreSome : List Stretch → Type 0
AreSome ms = AllByRecursion (λ m. 0 < m.count) ms

pub cut_length : (ms : List Stretch) (bs : List ℕ) → length (cut_by ms bs) ≡ length ms
cut_length [] bs = refl
cut_length (m ∷ ms) bs = ap suc (cut_length ms (drop m.count bs))

-- ---- one message more

pub cut_push : (ms : List Stretch) (m : Stretch) (bs new : List ℕ) → counted ms ≡ length bs → m.count ≡ length new →
    cut_by (ms ++ m ∷ []) (bs ++ new) ≡ cut_by ms bs ++ message_of m new ∷ []
cut_push [] m bs new whole count =
    let none : bs ≡ [] = nil_from_length bs (sym whole) in
    let all : take m.count new ≡ new = take_all m.count new (omega (arith, count)) in
    ap (λ (b : List ℕ). message_of m (take m.count (b ++ new)) ∷ []) none ∙ ap (λ (b : List ℕ). message_of m b ∷ []) all
cut_push (x ∷ ms) m bs new whole count =
    let fits : x.count ≤ length bs = omega (arith, whole) in
    let left : counted ms ≡ length (drop x.count bs) = omega (arith, whole, length-drop x.count bs) in
    ap (λ (b : List ℕ). message_of x b ∷ cut_by (ms ++ m ∷ []) (drop x.count (bs ++ new))) (take-append-le x.count bs new fits) ∙
    ap (λ (b : List ℕ). message_of x (take x.count bs) ∷ cut_by (ms ++ m ∷ []) b) (drop-append-le x.count bs new fits) ∙
    ap (λ (q : List Message). message_of x (take x.count bs) ∷ q) (cut_push ms m (drop x.count bs) new left count)

pub counted_push : (ms : List Stretch) (m : Stretch) → counted (ms ++ m ∷ []) ≡ counted ms + m.count
counted_push [] m = omega arith
counted_push (x ∷ ms) m = omega (arith, counted_push ms m)

pub some_push : (ms : List Stretch) (m : Stretch) → AreSome ms → 0 < m.count → AreSome (ms ++ m ∷ [])
some_push [] m some p = (p, tt)
some_push (x ∷ ms) m some p = (some.0, some_push ms m some.1 p)

pub queue_push : (ms : List Stretch) (m : Stretch) (bs new : List ℕ) → IsQueue ms bs → m.count ≡ length new → 0 < length new →
    IsQueue (ms ++ m ∷ []) (bs ++ new)
queue_push ms m bs new queue count some = record {
  whole = omega (arith, counted_push ms m, length-append bs new, queue.whole, count);
  some = some_push ms m queue.some (omega (arith, count, some));
}

-- ---- how many bytes, and which

cut_size : (m : Stretch) (bs : List ℕ) → m.count ≤ length bs → length (take m.count bs) ≡ m.count
cut_size m bs fits = length-take-le m.count bs fits

pub cut_queued : (ms : List Stretch) (bs : List ℕ) → counted ms ≤ length bs → queued_bytes (cut_by ms bs) ≡ counted ms
cut_queued [] bs fits = refl
cut_queued (m ∷ ms) bs fits =
    let size = cut_size m bs (omega (arith, fits)) in
    let rest = cut_queued ms (drop m.count bs) (omega (arith, fits, length-drop m.count bs)) in
    let sum = sum_by-cons (λ (x : Message). length x.bytes) (message_of m (take m.count bs)) (cut_by ms (drop m.count bs)) in
    omega (arith, size, rest, sum)

-- ---- one message

pub cut_at : (i : ℕ) (ms : List Stretch) (bs : List ℕ) → counted ms ≤ length bs →
    option_map stretch_of (slice_get (cut_by ms bs) i) ≡ slice_get ms i
cut_at i [] bs fits = refl
cut_at zero (m ∷ ms) bs fits = ap (λ n. Some (record m { count = n })) (cut_size m bs (omega (arith, fits)))
cut_at (suc i) (m ∷ ms) bs fits = cut_at i ms (drop m.count bs) (omega (arith, fits, length-drop m.count bs))

pub cut_unnamed : (i : ℕ) (ms : List Stretch) (bs : List ℕ) → option_and_then (λ (m : Message). m.from) (slice_get (cut_by ms bs) i) ≡ None
cut_unnamed i [] bs = refl
cut_unnamed zero (m ∷ ms) bs = refl
cut_unnamed (suc i) (m ∷ ms) bs = cut_unnamed i ms (drop m.count bs)

-- each message has a byte
pub cut_some : (ms : List Stretch) (bs : List ℕ) → IsQueue ms bs → AllByRecursion (λ (m : Message). 0 < length m.bytes) (cut_by ms bs)
cut_some ms bs queue = go ms bs queue.some (omega (arith, queue.whole))
  where
    go : (ms : List Stretch) (bs : List ℕ) → AreSome ms → counted ms ≤ length bs →
        AllByRecursion (λ (m : Message). 0 < length m.bytes) (cut_by ms bs)
    go [] bs some fits = tt
    go (m ∷ ms) bs some fits = (
      omega (arith, some.0, cut_size m bs (omega (arith, fits))),
      go ms (drop m.count bs) some.1 (omega (arith, fits, length-drop m.count bs)),
    )

pub cut_bytes : (ms : List Stretch) (bs : List ℕ) → counted ms ≡ length bs → flat_map (λ (m : Message). m.bytes) (cut_by ms bs) ≡ bs
cut_bytes [] bs whole = sym (nil_from_length bs (sym whole))
cut_bytes (m ∷ ms) bs whole =
    ap (λ (b : List ℕ). take m.count bs ++ b) (cut_bytes ms (drop m.count bs) (omega (arith, whole, length-drop m.count bs)))
    ∙ take-append-drop m.count bs

pub cut_rights : (n : ℕ) (ms : List Stretch) (bs : List ℕ) → counted ms ≤ length bs → rights_within n (cut_by ms bs) ≡ rights_among n ms
cut_rights zero ms bs fits = refl
cut_rights (suc n) [] bs fits = refl
cut_rights (suc n) (m ∷ ms) bs fits =
    ap (λ k. m.rights ++ rights_within (suc n - k) (cut_by ms (drop m.count bs))) (cut_size m bs (omega (arith, fits))) ∙
    ap (λ (r : List ℕ). m.rights ++ r) (cut_rights (suc n - m.count) ms (drop m.count bs) (omega (arith, fits, length-drop m.count bs)))

pub cut_origin : (n : ℕ) (ms : List Stretch) (bs : List ℕ) → counted ms ≤ length bs → origin_within n (cut_by ms bs) ≡ origin_among n ms
cut_origin zero ms bs fits = refl
cut_origin (suc n) [] bs fits = refl
cut_origin (suc n) (m ∷ ms) bs fits =
    ap (λ k. if length m.rights == 0 then origin_within (suc n - k) (cut_by ms (drop m.count bs)) else origin_at m)
    (cut_size m bs (omega (arith, fits))) ∙
    ap (λ (o : Option Origin). if length m.rights == 0 then o else origin_at m)
    (cut_origin (suc n - m.count) ms (drop m.count bs) (omega (arith, fits, length-drop m.count bs)))

-- ---- bytes taken from the front

pub none_off : (ms : List Stretch) → marks_without 0 ms ≡ ms
none_off [] = refl
none_off (m ∷ ms) = refl

whole_taken : (n : ℕ) (m : Message) (ms : List Message) → length m.bytes ≤ suc n →
    without_first (suc n) (m ∷ ms) ≡ without_first (suc n - length m.bytes) ms
whole_taken n m ms fits = ap (λ b. if b then without_first (suc n - length m.bytes) ms
    else record m { bytes = drop (suc n) m.bytes; rights = [] } ∷ ms) (le-leb (length m.bytes) (suc n) fits)

part_taken : (n : ℕ) (m : Message) (ms : List Message) → suc n < length m.bytes →
    without_first (suc n) (m ∷ ms) ≡ record m { bytes = drop (suc n) m.bytes; rights = [] } ∷ ms
part_taken n m ms short = ap (λ b. if b then without_first (suc n - length m.bytes) ms
    else record m { bytes = drop (suc n) m.bytes; rights = [] } ∷ ms) (lt-leb (length m.bytes) (suc n) short)

whole_off : (n : ℕ) (m : Stretch) (ms : List Stretch) → m.count ≤ suc n →
    marks_without (suc n) (m ∷ ms) ≡ marks_without (suc n - m.count) ms
whole_off n m ms fits = ap (λ b. if b then marks_without (suc n - m.count) ms else record m { count = m.count - suc n; rights = [] } ∷ ms)
    (le-leb m.count (suc n) fits)

part_off : (n : ℕ) (m : Stretch) (ms : List Stretch) → suc n < m.count →
    marks_without (suc n) (m ∷ ms) ≡ record m { count = m.count - suc n; rights = [] } ∷ ms
part_off n m ms short = ap (λ b. if b then marks_without (suc n - m.count) ms else record m { count = m.count - suc n; rights = [] } ∷ ms)
    (lt-leb m.count (suc n) short)

pub cut_taken : (n : ℕ) (ms : List Stretch) (bs : List ℕ) → counted ms ≤ length bs →
    cut_by (marks_without n ms) (drop n bs) ≡ without_first n (cut_by ms bs)
cut_taken n [] bs fits = refl
cut_taken zero (m ∷ ms) bs fits = refl
cut_taken (suc n) (m ∷ ms) bs fits = go (cases_lt (suc n) m.count)
    (cut_taken (suc n - m.count) ms (drop m.count bs) (omega (arith, fits, length-drop m.count bs)))
  where
    size : length (take m.count bs) ≡ m.count
    size = cut_size m bs (omega (arith, fits))

    go : (suc n < m.count) ⊎ (m.count ≤ suc n) →
        cut_by (marks_without (suc n - m.count) ms) (drop (suc n - m.count) (drop m.count bs)) ≡ without_first (suc n - m.count)
        (cut_by ms (drop m.count bs)) →
        cut_by (marks_without (suc n) (m ∷ ms)) (drop (suc n) bs) ≡ without_first (suc n) (cut_by (m ∷ ms) bs)
    go (inl h) less =
        let sum : suc n + (m.count - suc n) ≡ m.count = omega (arith, h) in
        let bytes : take (m.count - suc n) (drop (suc n) bs) ≡ drop (suc n) (take m.count bs) = sym (drop-take (suc n) (m.count - suc n) bs)
        ∙ ap (λ k. drop (suc n) (take k bs)) sum in
        let behind : drop (m.count - suc n) (drop (suc n) bs) ≡ drop m.count bs = drop-drop (m.count - suc n) (suc n) bs
        ∙ ap (λ k. drop k bs) sum in
        ap (λ q. cut_by q (drop (suc n) bs)) (part_off n m ms h) ∙
        (λ j. record { tag = m.tag; bytes = bytes j; rights = []; cred = m.cred; uid = m.uid; from = None } ∷ cut_by ms (behind j)) ∙
        sym (part_taken n (message_of m (take m.count bs)) (cut_by ms (drop m.count bs)) (omega (arith, h, size)))
    go (inr h) less =
        let sum : m.count + (suc n - m.count) ≡ suc n = omega (arith, h) in
        let behind : drop (suc n) bs ≡ drop (suc n - m.count) (drop m.count bs) =
        sym (drop-drop (suc n - m.count) m.count bs ∙ ap (λ k. drop k bs) sum) in
        ap (λ q. cut_by q (drop (suc n) bs)) (whole_off n m ms h) ∙
        ap (cut_by (marks_without (suc n - m.count) ms)) behind ∙
        less ∙
        ap (λ k. without_first (suc n - k) (cut_by ms (drop m.count bs))) (sym size) ∙
        sym (whole_taken n (message_of m (take m.count bs)) (cut_by ms (drop m.count bs)) (omega (arith, h, size)))

pub counted_off : (n : ℕ) (ms : List Stretch) → counted (marks_without n ms) ≡ counted ms - n
counted_off n [] = omega arith
counted_off zero (m ∷ ms) = omega arith
counted_off (suc n) (m ∷ ms) = go (cases_lt (suc n) m.count) (counted_off (suc n - m.count) ms)
  where
    go : (suc n < m.count) ⊎ (m.count ≤ suc n) → counted (marks_without (suc n - m.count) ms) ≡ counted ms - (suc n - m.count) →
        counted (marks_without (suc n) (m ∷ ms)) ≡ counted (m ∷ ms) - suc n
    go (inl h) less = omega (arith, h, ap counted (part_off n m ms h))
    go (inr h) less = omega (arith, h, less, ap counted (whole_off n m ms h))

pub some_off : (n : ℕ) (ms : List Stretch) → AreSome ms → AreSome (marks_without n ms)
some_off n [] some = tt
some_off zero (m ∷ ms) some = some
some_off (suc n) (m ∷ ms) some = go (cases_lt (suc n) m.count) (some_off (suc n - m.count) ms some.1)
  where
    go : (suc n < m.count) ⊎ (m.count ≤ suc n) → AreSome (marks_without (suc n - m.count) ms) → AreSome (marks_without (suc n) (m ∷ ms))
    go (inl h) less = subst AreSome (sym (part_off n m ms h)) (omega (arith, h), some.1)
    go (inr h) less = subst AreSome (sym (whole_off n m ms h)) less

pub queue_off : (n : ℕ) (ms : List Stretch) (bs : List ℕ) → IsQueue ms bs → IsQueue (marks_without n ms) (drop n bs)
queue_off n ms bs queue = record {
  whole = counted_off n ms ∙ (ap (λ k. k - n) queue.whole ∙ sym (length-drop n bs));
  some =
      some_off n ms queue.some;
}

-- ---- the run that a receive joins

pub run_to_barrier : (wants : Bool) (cred : Cred) (ms : List Stretch) → run_count wants cred ms ≤ barrier_count ms
run_to_barrier wants cred [] = omega arith
run_to_barrier wants cred (m ∷ ms) = go (wants && not (same_cred m.cred cred)) (length m.rights == 0) (run_to_barrier wants cred ms)
  where
    go : (apart plain : Bool) → run_count wants cred ms ≤ barrier_count ms →
        (if apart then 0 else (if plain then m.count + run_count wants cred ms else m.count)) ≤
        (if plain then m.count + barrier_count ms else m.count)
    go true plain h = omega arith
    go false true h = omega (arith, h)
    go false false h = omega arith

pub barrier_to_end : (ms : List Stretch) → barrier_count ms ≤ counted ms
barrier_to_end [] = omega arith
barrier_to_end (m ∷ ms) = go (length m.rights == 0) (barrier_to_end ms)
  where
    go : (plain : Bool) → barrier_count ms ≤ counted ms → (if plain then m.count + barrier_count ms else m.count) ≤ m.count + counted ms
    go true h = omega (arith, h)
    go false h = omega arith

-- the messages of the run, from credentials that are given
abbrev pub joined : Bool → Cred → List Message → List Message
joined wants cred q = front_to_barrier (if wants then front_with_cred cred q else q)

-- its bytes
at_first : (plain : Bool) (x : Message) (rest : List Message) (n k : ℕ) → length x.bytes ≡ n → queued_bytes rest ≡ k →
    queued_bytes (if plain then x ∷ rest else x ∷ []) ≡ (if plain then n + k else n)
at_first true x rest n k size h = sum_by-cons (λ (y : Message). length y.bytes) x rest ∙ omega (arith, h, size)
at_first false x rest n k size h = sum_by-cons (λ (y : Message). length y.bytes) x [] ∙ omega (arith, size)

plain_queued : (ms : List Stretch) (bs : List ℕ) → counted ms ≤ length bs → (cred : Cred) →
    queued_bytes (front_to_barrier (cut_by ms bs)) ≡ run_count false cred ms
plain_queued [] bs fits cred = refl
plain_queued (m ∷ ms) bs fits cred =
    at_first (length m.rights == 0) (message_of m (take m.count bs)) (front_to_barrier (cut_by ms (drop m.count bs))) m.count
    (run_count false cred ms)
    (cut_size m bs (omega (arith, fits)))
    (plain_queued ms (drop m.count bs) (omega (arith, fits, length-drop m.count bs)) cred)

cred_queued : (ms : List Stretch) (bs : List ℕ) → counted ms ≤ length bs → (cred : Cred) →
    queued_bytes (front_to_barrier (front_with_cred cred (cut_by ms bs))) ≡ run_count true cred ms
cred_queued [] bs fits cred = refl
cred_queued (m ∷ ms) bs fits cred = go (same_cred m.cred cred)
    (cred_queued ms (drop m.count bs) (omega (arith, fits, length-drop m.count bs)) cred)
  where
    go : (same : Bool) → queued_bytes (front_to_barrier (front_with_cred cred (cut_by ms (drop m.count bs)))) ≡ run_count true cred ms →
        queued_bytes (front_to_barrier (if same then message_of m (take m.count bs) ∷ front_with_cred cred (cut_by ms (drop m.count bs))
        else [])) ≡ (if not same then 0 else (if length m.rights == 0 then m.count + run_count true cred ms else m.count))
    go true h = at_first (length m.rights == 0) (message_of m (take m.count bs))
        (front_to_barrier (front_with_cred cred (cut_by ms (drop m.count bs)))) m.count (run_count true cred ms)
        (cut_size m bs (omega (arith, fits))) h
    go false h = refl

pub run_queued : (wants : Bool) (cred : Cred) (ms : List Stretch) (bs : List ℕ) → counted ms ≤ length bs →
    queued_bytes (joined wants cred (cut_by ms bs)) ≡ run_count wants cred ms
run_queued true cred ms bs fits = cred_queued ms bs fits cred
run_queued false cred ms bs fits = plain_queued ms bs fits cred

-- it is a front of the queue
barrier_front : (q : List Message) → (rest : List Message) × (front_to_barrier q ++ rest ≡ q)
barrier_front [] = ([], refl)
barrier_front (m ∷ ms) = go (length m.rights == 0) (barrier_front ms)
  where
    go : (plain : Bool) → ((rest : List Message) × (front_to_barrier ms ++ rest ≡ ms)) →
        (rest : List Message) × ((if plain then m ∷ front_to_barrier ms else m ∷ []) ++ rest ≡ m ∷ ms)
    go true h = (h.0, ap (λ (q : List Message). m ∷ q) h.1)
    go false h = (ms, refl)

cred_front : (cred : Cred) (q : List Message) → (rest : List Message) × (front_with_cred cred q ++ rest ≡ q)
cred_front cred [] = ([], refl)
cred_front cred (m ∷ ms) = go (same_cred m.cred cred) (cred_front cred ms)
  where
    go : (same : Bool) → ((rest : List Message) × (front_with_cred cred ms ++ rest ≡ ms)) →
        (rest : List Message) × ((if same then m ∷ front_with_cred cred ms else []) ++ rest ≡ m ∷ ms)
    go true h = (h.0, ap (λ (q : List Message). m ∷ q) h.1)
    go false h = (m ∷ ms, refl)

joined_front : (wants : Bool) (cred : Cred) (q : List Message) → (rest : List Message) × (joined wants cred q ++ rest ≡ q)
joined_front false cred q = barrier_front q
joined_front true cred q =
    let some = cred_front cred q in
    let joins = barrier_front (front_with_cred cred q) in (
      joins.0 ++ some.0,
      sym (append_assoc (front_to_barrier (front_with_cred cred q)) joins.0 some.0)
          ∙ ap (λ (p : List Message). p ++ some.0) joins.1 ∙ some.1,
    )

-- so the first bytes of it, and their rights, are those of the queue
queued_length : (q : List Message) → length (flat_map (λ (m : Message). m.bytes) q) ≡ queued_bytes q
queued_length [] = refl
queued_length (m ∷ ms) =
    let sum = sum_by-cons (λ (x : Message). length x.bytes) m ms in
    length-append m.bytes (flat_map (λ (x : Message). x.bytes) ms) ∙ omega (arith, sum, queued_length ms)

bytes_of_front : (n : ℕ) (p rest : List Message) → n ≤ queued_bytes p → first_bytes n (p ++ rest) ≡ first_bytes n p
bytes_of_front n p rest within =
    ap (take n) (flat_map-append (λ (m : Message). m.bytes) p rest) ∙
    take-append-le n (flat_map (λ (m : Message). m.bytes) p) (flat_map (λ (m : Message). m.bytes) rest)
    (omega (arith, within, queued_length p))

rights_of_front : (n : ℕ) (p rest : List Message) → n ≤ queued_bytes p → rights_within n (p ++ rest) ≡ rights_within n p
rights_of_front zero p rest within = refl
rights_of_front (suc n) [] rest within = absurd (omega (arith, within))
rights_of_front (suc n) (m ∷ ms) rest within =
    let sum = sum_by-cons (λ (x : Message). length x.bytes) m ms in
    ap (λ (r : List ℕ). m.rights ++ r) (rights_of_front (suc n - length m.bytes) ms rest (omega (arith, within, sum)))

origin_of_front : (n : ℕ) (p rest : List Message) → n ≤ queued_bytes p → origin_within n (p ++ rest) ≡ origin_within n p
origin_of_front zero p rest within = refl
origin_of_front (suc n) [] rest within = absurd (omega (arith, within))
origin_of_front (suc n) (m ∷ ms) rest within =
    let sum = sum_by-cons (λ (x : Message). length x.bytes) m ms in
    ap (λ (o : Option Origin). if length m.rights == 0 then o else origin_of m)
    (origin_of_front (suc n - length m.bytes) ms rest (omega (arith, within, sum)))

-- ---- what a receive gives

pub is_reach : (wants : Bool) (n count : ℕ) (cred : Cred) (first : Stretch) (ms : List Stretch) → 0 < length ms →
    first ≡ get_or ms 0 first → cred ≡ first.cred → count ≡ min n (run_count wants cred ms) →
    IsReach wants n (record { count = count; cred = cred }) ms
is_reach wants n count cred first [] some is of_first counts = absurd (omega (arith, some))
is_reach wants n count cred first (m ∷ ms) some is of_first counts =
    let same : cred ≡ m.cred = of_first ∙ ap (λ (x : Stretch). x.cred) is in
    (same, counts ∙ ap (λ (x : Cred). min n (run_count wants x (m ∷ ms))) same)

pub reach_within : (wants : Bool) (n : ℕ) (reach : Reach) (ms : List Stretch) → IsReach wants n reach ms → reach.count ≤ barrier_count ms
reach_within wants n reach [] is = omega (arith, is)
reach_within wants n reach (m ∷ ms) is = omega (arith, is.1, run_to_barrier wants m.cred (m ∷ ms))

pub reach_fits : (wants : Bool) (n : ℕ) (reach : Reach) (ms : List Stretch) (bs : List ℕ) → IsReach wants n reach ms → IsQueue ms bs →
    reach.count ≤ length bs
reach_fits wants n reach ms bs is queue = omega (arith, reach_within wants n reach ms is, barrier_to_end ms, queue.whole)

-- the bytes that are taken are as many as the definition takes
reach_taken : (wants : Bool) (n count : ℕ) (m : Stretch) (ms : List Stretch) (bs : List ℕ) →
    count ≡ min n (run_count wants m.cred (m ∷ ms)) → IsQueue (m ∷ ms) bs →
    count ≡ min n (queued_bytes (joined wants m.cred (cut_by (m ∷ ms) bs)))
reach_taken wants n count m ms bs is queue = is ∙ ap (min n) (sym (run_queued wants m.cred (m ∷ ms) bs (omega (arith, queue.whole))))

pub front_bytes : (wants : Bool) (n : ℕ) (reach : Reach) (ms : List Stretch) (bs out : List ℕ) → IsReach wants n reach ms → IsQueue ms bs →
    out ≡ take reach.count bs → OnStreamFront wants n (cut_by ms bs) (λ f. out ≡ f.bytes)
front_bytes wants n reach [] bs out reached queue is = tt
front_bytes wants n reach (m ∷ ms) bs out reached queue is =
    let taken = reach_taken wants n reach.count m ms bs reached.1 queue in
    let front = joined_front wants m.cred (cut_by (m ∷ ms) bs) in
    let within : reach.count ≤ queued_bytes (joined wants m.cred (cut_by (m ∷ ms) bs)) = omega (arith, taken) in
    is ∙ ap (take reach.count) (sym (cut_bytes (m ∷ ms) bs queue.whole)) ∙
    ap (first_bytes reach.count) (sym front.1) ∙
    bytes_of_front reach.count (joined wants m.cred (cut_by (m ∷ ms) bs)) front.0 within ∙
    ap (λ k. first_bytes k (joined wants m.cred (cut_by (m ∷ ms) bs))) taken

pub front_rights : (wants : Bool) (n : ℕ) (reach : Reach) (ms : List Stretch) (bs out : List ℕ) → IsReach wants n reach ms → IsQueue ms bs →
    out ≡ rights_among reach.count ms → OnStreamFront wants n (cut_by ms bs) (λ f. out ≡ f.rights)
front_rights wants n reach [] bs out reached queue is = tt
front_rights wants n reach (m ∷ ms) bs out reached queue is =
    let taken = reach_taken wants n reach.count m ms bs reached.1 queue in
    let front = joined_front wants m.cred (cut_by (m ∷ ms) bs) in
    let within : reach.count ≤ queued_bytes (joined wants m.cred (cut_by (m ∷ ms) bs)) = omega (arith, taken) in
    is ∙ sym (cut_rights reach.count (m ∷ ms) bs (omega (arith, queue.whole))) ∙
    ap (rights_within reach.count) (sym front.1) ∙
    rights_of_front reach.count (joined wants m.cred (cut_by (m ∷ ms) bs)) front.0 within ∙
    ap (λ k. rights_within k (joined wants m.cred (cut_by (m ∷ ms) bs))) taken

pub front_origin : (wants : Bool) (n : ℕ) (reach : Reach) (ms : List Stretch) (bs : List ℕ) (out : Option Origin) →
    IsReach wants n reach ms → IsQueue ms bs → out ≡ origin_among reach.count ms →
    OnStreamFront wants n (cut_by ms bs) (λ f. out ≡ f.origin)
front_origin wants n reach [] bs out reached queue is = tt
front_origin wants n reach (m ∷ ms) bs out reached queue is =
    let taken = reach_taken wants n reach.count m ms bs reached.1 queue in
    let front = joined_front wants m.cred (cut_by (m ∷ ms) bs) in
    let within : reach.count ≤ queued_bytes (joined wants m.cred (cut_by (m ∷ ms) bs)) = omega (arith, taken) in
    is ∙ sym (cut_origin reach.count (m ∷ ms) bs (omega (arith, queue.whole))) ∙
    ap (origin_within reach.count) (sym front.1) ∙
    origin_of_front reach.count (joined wants m.cred (cut_by (m ∷ ms) bs)) front.0 within ∙
    ap (λ k. origin_within k (joined wants m.cred (cut_by (m ∷ ms) bs))) taken

pub front_rest : (wants : Bool) (n : ℕ) (reach : Reach) (ms : List Stretch) (bs : List ℕ) (later : List Message) →
    IsReach wants n reach ms → IsQueue ms bs → later ≡ cut_by (marks_without reach.count ms) (drop reach.count bs) →
    OnStreamFront wants n (cut_by ms bs) (λ f. later ≡ f.rest)
front_rest wants n reach [] bs later reached queue is = tt
front_rest wants n reach (m ∷ ms) bs later reached queue is =
    let taken = reach_taken wants n reach.count m ms bs reached.1 queue in
    is ∙ cut_taken reach.count (m ∷ ms) bs (omega (arith, queue.whole)) ∙ ap (λ k. without_first k (cut_by (m ∷ ms) bs)) taken

-- an origin is reported exactly where rights come
pub some_origin : (n : ℕ) (ms : List Stretch) (rights : List ℕ) (origin : Option Origin) → rights ≡ rights_among n ms →
    origin ≡ origin_among n ms → IsSome origin ↔ (0 < length rights)
some_origin n ms rights origin r o = rw (r, o) (go n ms)
  where
    go : (n : ℕ) (ms : List Stretch) → IsSome (origin_among n ms) ↔ (0 < length (rights_among n ms))
    go zero ms = search rules
    go (suc n) [] = search rules
    go (suc n) (m ∷ ms) = at m.rights (go (suc n - m.count) ms)
      where
        at : (rights : List ℕ) → IsSome (origin_among (suc n - m.count) ms) ↔ (0 < length (rights_among (suc n - m.count) ms)) →
            IsSome (if length rights == 0 then origin_among (suc n - m.count) ms
            else (if length rights == 0 then None else Some (record { tag = m.tag; uid = m.uid }))) ↔
            (0 < length (rights ++ rights_among (suc n - m.count) ms))
        at [] later = later
        at (x ∷ xs) later = search rules
