-- What a receive takes of a stream's queue, by the messages that it reaches.
use Rattle.std.proofs.Common.{◌≡◌, ℕ, zero, suc, ◌+◌, ◌-◌, ◌<◌, ◌≤◌, ◌==◌, Bool, true, false, if◌then◌else◌, List, [], ◌∷◌, ◌++◌, length}
use Rattle.std.proofs.Common.{take, drop, Option, Some, None, refl, ap, sym, ◌∙◌, subst, arith}
use Rattle.std.specs.Prelude.{nat_le, flat_map}
use Rattle.std.specs.List.{slice_get}
use Rattle.std.proofs.lemmas.Bool.{leb-true, leb-false, eqb-true}
use Rattle.std.proofs.lemmas.List.Sums.{sum_by-cons}
use Rattle.ux_model.specs.Message.{Message, queued_bytes}
use Rattle.ux_model.specs.Stream.{Origin, origin_of, origin_within, without_first, AreReached, RightsAreOfReached, IsFirstOrigin}
use Rattle.ux_model.specs.Stream.{OriginIsOfReached, IsRest, RestIsOfReached}

more : (m : Message) (ms : List Message) → queued_bytes (m ∷ ms) ≡ length m.bytes + queued_bytes ms
more m ms = sum_by-cons (λ m. length (Message.bytes m)) m ms

-- no byte reaches no message
none_reached : (count : ℕ) (ms : List Message) → AreReached 0 ms count → count ≡ 0
none_reached zero ms r = refl
none_reached (suc c) ms r = let first = r.begin 0 (omega arith) in absurd (omega (arith, first))

-- and there is none to be reached in an empty queue
empty_reached : (n count : ℕ) → AreReached n [] count → count ≡ 0
empty_reached n count r = let most = r.there in omega (arith, most)

-- a byte reaches the first
some_reached : (n : ℕ) (m : Message) (ms : List Message) → AreReached (suc n) (m ∷ ms) 0 → ⊥
some_reached n m ms r = let last = r.end (omega arith) in omega (arith, last)

-- of the others those are reached that were
others_reached : (n c : ℕ) (m : Message) (ms : List Message) → AreReached (suc n) (m ∷ ms) (suc c) →
    AreReached (suc n - length m.bytes) ms c
others_reached n c m ms r = record {
  there = let most = r.there in omega (arith, most);
  begin = λ i low. let begins = r.begin (suc i) (omega (arith, low)) in let all = more m (take i ms) in omega (arith, begins, all);
  end = λ low. let ends = r.end (omega (arith, low)) in let all = more m (take c ms) in omega (arith, ends, all);
}

pub rights_are_of_reached : RightsAreOfReached
rights_are_of_reached zero count ms r = sym (ap (λ k. flat_map (λ m. Message.rights m) (take k ms)) (none_reached count ms r))
rights_are_of_reached (suc n) count [] r = sym (ap (λ k. flat_map (λ m. Message.rights m) (take k [])) (empty_reached (suc n) count r))
rights_are_of_reached (suc n) zero (m ∷ ms) r = absurd (some_reached n m ms r)
rights_are_of_reached (suc n) (suc c) (m ∷ ms) r =
    ap (λ xs. m.rights ++ xs) (rights_are_of_reached (suc n - length m.bytes) c ms (others_reached n c m ms r))

-- ---- origins

nobody : (messages : List Message) → messages ≡ [] → IsFirstOrigin messages None
nobody messages none = λ i m h. absurd (cc (sym h ∙ ap (λ ms. slice_get ms i) none))

behind_bare : (m : Message) (ms : List Message) (o : Option Origin) → length m.rights ≡ 0 → IsFirstOrigin ms o → IsFirstOrigin (m ∷ ms) o
behind_bare m ms None bare none = each
  where
    each : (i : ℕ) (x : Message) → slice_get (m ∷ ms) i ≡ Some x → length x.rights ≡ 0
    each zero x h = let same : m ≡ x = cc h in sym (ap (λ (y : Message). length y.rights) same) ∙ bare
    each (suc i) x h = none i x h
behind_bare m ms (Some o) bare some = (suc some.0, some.1, some.2, some.3, before)
  where
    before : (k : ℕ) (x : Message) → k < suc some.0 → slice_get (m ∷ ms) k ≡ Some x → length x.rights ≡ 0
    before zero x low h = let same : m ≡ x = cc h in sym (ap (λ (y : Message). length y.rights) same) ∙ bare
    before (suc k) x low h = some.4 k x (omega (arith, low)) h

pub origin_is_of_reached : OriginIsOfReached
origin_is_of_reached zero count ms r = nobody (take count ms) (ap (λ k. take k ms) (none_reached count ms r))
origin_is_of_reached (suc n) count [] r = nobody (take count []) (ap (λ k. take k []) (empty_reached (suc n) count r))
origin_is_of_reached (suc n) zero (m ∷ ms) r = absurd (some_reached n m ms r)
origin_is_of_reached (suc n) (suc c) (m ∷ ms) r =
    go (origin_is_of_reached (suc n - length m.bytes) c ms (others_reached n c m ms r)) (length m.rights == 0) refl
  where
    rich : Origin
    rich = record { tag = m.tag; uid = m.uid }

    go : IsFirstOrigin (take c ms) (origin_within (suc n - length m.bytes) ms) → (b : Bool) → (length m.rights == 0) ≡ b →
        IsFirstOrigin (m ∷ take c ms) (if b then origin_within (suc n - length m.bytes) ms else origin_of m)
    go rest true bare = behind_bare m (take c ms) (origin_within (suc n - length m.bytes) ms) (eqb-true (length m.rights) 0 bare) rest
    go rest false some =
        let is : origin_of m ≡ Some rich = ap (λ b. if b then None else Some rich) some in
        subst (λ (o : Option Origin). IsFirstOrigin (m ∷ take c ms) o) (sym is) (0, m, refl, is, λ k x low h. absurd (omega (arith, low)))

-- ---- what is left

pub rest_is_of_reached : RestIsOfReached
rest_is_of_reached zero count ms r = still ms count (none_reached count ms r)
  where
    still : (q : List Message) (k : ℕ) → k ≡ 0 → IsRest 0 k q (without_first 0 q)
    still [] k none = record { whole = λ all. sym (ap (λ i. drop i []) none); cut = λ i m is h few. absurd (cc (sym is ∙ none)) }
    still (m ∷ q) k none = record { whole = λ all. sym (ap (λ i. drop i (m ∷ q)) none); cut = λ i x is h few. absurd (cc (sym is ∙ none)) }
rest_is_of_reached (suc n) count [] r =
    record {
      whole = λ all. sym (ap (λ i. drop i []) (empty_reached (suc n) count r));
      cut =
          λ i m is h few. absurd (cc (sym is ∙ empty_reached (suc n) count r));
    }
rest_is_of_reached (suc n) zero (m ∷ ms) r = absurd (some_reached n m ms r)
rest_is_of_reached (suc n) (suc c) (m ∷ ms) r =
    go (rest_is_of_reached left c ms (others_reached n c m ms r)) (nat_le (length m.bytes) (suc n)) refl
  where
    left : ℕ
    left = suc n - length m.bytes

    short : Message
    short = record m { bytes = drop (suc n) m.bytes; rights = [] }

    all : queued_bytes (m ∷ take c ms) ≡ length m.bytes + queued_bytes (take c ms)
    all = more m (take c ms)

    front : (i : ℕ) → suc n - queued_bytes (m ∷ take i ms) ≡ left - queued_bytes (take i ms)
    front i = let before = more m (take i ms) in omega (arith, before)

    cut_later : IsRest left c ms (without_first left ms) → length m.bytes ≤ suc n → (i : ℕ) (x : Message) → suc c ≡ suc i →
        slice_get (m ∷ ms) i ≡ Some x → suc n < queued_bytes (m ∷ take c ms) →
        without_first left ms ≡ record x { bytes = drop (suc n - queued_bytes (take i (m ∷ ms))) x.bytes; rights = [] } ∷ drop c ms
    cut_later rest fits zero x is h few =
        let none : c ≡ 0 = omega (arith, is) in
        let first : queued_bytes (take c ms) ≡ 0 = ap (λ k. queued_bytes (take k ms)) none in
        absurd (omega (arith, few, all, first, fits))
    cut_later rest fits (suc j) x is h few =
        rest.cut j x (omega (arith, is)) h (omega (arith, few, all, fits))
        ∙ ap (λ k. record x { bytes = drop k x.bytes; rights = [] } ∷ drop c ms) (sym (front j))

    cut_here : suc n < length m.bytes → (i : ℕ) (x : Message) → suc c ≡ suc i → slice_get (m ∷ ms) i ≡ Some x →
        short ∷ ms ≡ record x { bytes = drop (suc n - queued_bytes (take i (m ∷ ms))) x.bytes; rights = [] } ∷ drop c ms
    cut_here long i x is h =
        let no_bytes : left ≡ 0 = omega (arith, long) in
        let none : c ≡ 0 = none_reached c ms (subst (λ (k : ℕ). AreReached k ms c) no_bytes (others_reached n c m ms r)) in
        first i (omega (arith, is, none)) h ∙ ap
        (λ k. record x { bytes = drop (suc n - queued_bytes (take i (m ∷ ms))) x.bytes; rights = [] } ∷ drop k ms) (sym none)
      where
        first : (k : ℕ) → k ≡ 0 → slice_get (m ∷ ms) k ≡ Some x →
            short ∷ ms ≡ record x { bytes = drop (suc n - queued_bytes (take k (m ∷ ms))) x.bytes; rights = [] } ∷ ms
        first zero at h =
            let same : m ≡ x = cc h in
            let none : suc n ≡ suc n - 0 = omega arith in
            ap (λ (y : Message). record y { bytes = drop (suc n) y.bytes; rights = [] } ∷ ms) same
            ∙ ap (λ k. record x { bytes = drop k x.bytes; rights = [] } ∷ ms) none
        first (suc k) at h = absurd (omega (arith, at))

    go : IsRest left c ms (without_first left ms) → (b : Bool) → nat_le (length m.bytes) (suc n) ≡ b →
        IsRest (suc n) (suc c) (m ∷ ms) (if b then without_first left ms else short ∷ ms)
    go rest true fits = record {
      whole = λ most. rest.whole (omega (arith, most, all));
      cut = cut_later rest (leb-true (length m.bytes) (suc n) fits);
    }
    go rest false fits =
        let long = leb-false (length m.bytes) (suc n) fits in
        record {
          whole = λ most. absurd (omega (arith, most, all, long));
          cut = λ i x is h few. cut_here long i x is h;
        }
