-- A number that is read is the one that was written, and what was written is read again.
use Rattle.std.proofs.Common.{◌≡◌, ℕ, zero, suc, ◌+◌, ◌*◌, ◌%◌, ◌^◌, ◌<◌, ◌≤◌, Bool, true, false, cond, ltb, List, [], ◌∷◌, ◌++◌, length}
use Rattle.std.proofs.Common.{get_or, take, drop, Option, Some, None, refl, sym, ap, subst, ◌∙◌, arith, inl, inr}
use Rattle.std.specs.List.{flat_map, AllByRecursion}
use Rattle.std.specs.Int.{Width, w32, w64, byte_len, from_le_bytes, to_le_bytes}
use Rattle.std.proofs.lemmas.Bool.{cases_lt, ltb-false, le-ltb}
use Rattle.std.proofs.lemmas.List.{take_at, drop_at, take-append-drop, length-append, length-take, get_or-drop, get_or-take, get_or_past}
use Rattle.std.proofs.lemmas.Nat.{le_bytes_4, le_bytes_8, from_le_bytes-to_le_bytes_4, from_le_bytes-to_le_bytes_8}
use Rattle.ux_model.specs.ControlReading.{◌>>=◌, number_at, numbers_in}

-- ---- bytes

abbrev pub IsBytes : List ℕ → Type 0
IsBytes bytes = (i : ℕ) → get_or bytes i 0 < 256

pub bytes_below : (bytes : List ℕ) → AllByRecursion (λ b. b < 256) bytes → IsBytes bytes
bytes_below [] fits i = omega arith
bytes_below (b ∷ bytes) fits zero = fits.0
bytes_below (b ∷ bytes) fits (suc i) = bytes_below bytes fits.1 i

pub IsBytes-drop : (n : ℕ) (bytes : List ℕ) → IsBytes bytes → IsBytes (drop n bytes)
IsBytes-drop n bytes fits i = rw get_or-drop (fits (n + i))

pub IsBytes-take : (n : ℕ) (bytes : List ℕ) → IsBytes bytes → IsBytes (take n bytes)
IsBytes-take n bytes fits i = elim (cases_lt i n) [
  | inl lt ↦ rw (get_or-take n bytes i 0 lt) (fits i)
  | inr le ↦ rw (get_or_past (take n bytes) i 0 (omega (arith, length-take n bytes))) (omega arith)
]

-- ---- steps that may find nothing

pub bind_some : {A B : Type 0} (r : Option A) (f : A → Option B) (y : B) → (r >>= f) ≡ Some y → (x : A) × (r ≡ Some x) × (f x ≡ Some y)
bind_some (Some x) f y e = (x, refl, e)
bind_some None f y e = absurd cc

pub only_if : {A : Type 0} (b : Bool) (r : Option A) (y : A) → cond b r None ≡ Some y → (b ≡ true) × (r ≡ Some y)
only_if true r y e = (refl, e)
only_if false r y e = absurd cc

pub unless : {A : Type 0} (b : Bool) (r : Option A) (y : A) → cond b None r ≡ Some y → (b ≡ false) × (r ≡ Some y)
unless true r y e = absurd cc
unless false r y e = (refl, e)

-- ---- numbers

-- the numbers below the limit are those that the width holds
pub record IsWide (w : Width) (limit : ℕ) : Type 0 where
  pub len : (n : ℕ) → length (to_le_bytes w n) ≡ byte_len w
  pub back : (bytes : List ℕ) → length bytes ≡ byte_len w → IsBytes bytes → to_le_bytes w (from_le_bytes w bytes) ≡ bytes
  pub again : (n : ℕ) → n < limit → from_le_bytes w (to_le_bytes w n) ≡ n
  pub below : (bytes : List ℕ) → IsBytes bytes → from_le_bytes w bytes < limit

pub wide32 : IsWide w32 (2 ^ 32)
wide32 = record {
  len = λ n. refl;
  back = λ bytes len fits. le_bytes_4 bytes _ len fits refl;
  again = λ n lt. from_le_bytes-to_le_bytes_4 n lt;
  below = λ bytes fits. omega (arith, fits 0, fits 1, fits 2, fits 3);
}

pub wide64 : IsWide w64 (2 ^ 64)
wide64 = record {
  len = λ n. refl;
  back = λ bytes len fits. le_bytes_8 bytes _ len fits refl;
  again = λ n lt. from_le_bytes-to_le_bytes_8 n lt;
  below = λ bytes fits. omega (arith, fits 0, fits 1, fits 2, fits 3, fits 4, fits 5, fits 6, fits 7);
}

-- what a number at the front is, and what stands behind it
pub record TakesNumber (w : Width) (limit : ℕ) (bytes : List ℕ) (n : ℕ) (rest : List ℕ) : Type 0 where
  pub parts : bytes ≡ to_le_bytes w n ++ rest
  pub below : n < limit
  pub rest_fits : IsBytes rest

pub number_takes : (w : Width) (limit : ℕ) (wide : IsWide w limit) (bytes : List ℕ) (x : ℕ × List ℕ) → IsBytes bytes →
    number_at w bytes ≡ Some x → TakesNumber w limit bytes x.0 x.1
number_takes w limit wide bytes x fits e =
    let front : List ℕ = take (byte_len w) bytes in
    let front_fits = IsBytes-take (byte_len w) bytes fits in
    let found = unless (ltb (length bytes) (byte_len w)) (Some (from_le_bytes w front, drop (byte_len w) bytes)) x e in
    let long : byte_len w ≤ length bytes = ltb-false _ _ found.0 in
    let spelled : to_le_bytes w (from_le_bytes w front) ≡ front =
    wide.back front (omega (arith, length-take (byte_len w) bytes)) front_fits in
    let is : (from_le_bytes w front, drop (byte_len w) bytes) ≡ x = cc in
    subst (λ (y : ℕ × List ℕ). TakesNumber w limit bytes y.0 y.1) is (record {
      parts = rw spelled (sym (take-append-drop (byte_len w) bytes));
      below = wide.below front front_fits;
      rest_fits = IsBytes-drop (byte_len w) bytes fits;
    })

pub number_again : (w : Width) (limit : ℕ) (wide : IsWide w limit) (n : ℕ) (rest : List ℕ) → n < limit →
    number_at w (to_le_bytes w n ++ rest) ≡ Some (n, rest)
number_again w limit wide n rest lt =
    let len = wide.len n in
    let long : ltb (length (to_le_bytes w n ++ rest)) (byte_len w) ≡ false =
    le-ltb _ _ (omega (arith, length-append (to_le_bytes w n) rest)) in
    rw (long, take_at (to_le_bytes w n) rest (byte_len w) len, drop_at (to_le_bytes w n) rest (byte_len w) len, wide.again n lt) refl

-- ---- numbers in four bytes each

pub length-numbers : (ns : List ℕ) → length (flat_map (to_le_bytes w32) ns) ≡ 4 * length ns
length-numbers [] = refl
length-numbers (n ∷ ns) = let e : length (flat_map (to_le_bytes w32) ns) ≡ 4 * length ns = length-numbers ns in omega (arith, e)

IsBytes-four : (a b c d : ℕ) (bytes : List ℕ) → IsBytes (a ∷ b ∷ c ∷ d ∷ bytes) → IsBytes (a ∷ b ∷ c ∷ d ∷ [])
IsBytes-four a b c d bytes fits = IsBytes-take 4 (a ∷ b ∷ c ∷ d ∷ bytes) fits

pub record AreNumbers (bytes numbers : List ℕ) : Type 0 where
  pub spelled : flat_map (to_le_bytes w32) numbers ≡ bytes
  pub below : AllByRecursion (λ n. n < 2 ^ 32) numbers

pub numbers_taken : (bytes : List ℕ) → IsBytes bytes → length bytes % 4 ≡ 0 → AreNumbers bytes (numbers_in bytes)
numbers_taken [] fits whole = record { spelled = refl; below = tt }
numbers_taken (a ∷ []) fits whole = absurd (omega (arith, whole))
numbers_taken (a ∷ b ∷ []) fits whole = absurd (omega (arith, whole))
numbers_taken (a ∷ b ∷ c ∷ []) fits whole = absurd (omega (arith, whole))
numbers_taken (a ∷ b ∷ c ∷ d ∷ rest) fits whole =
    let four : List ℕ = a ∷ b ∷ c ∷ d ∷ [] in
    let four_fits : IsBytes four = IsBytes-four a b c d rest fits in
    let others : AreNumbers rest (numbers_in rest) =
    numbers_taken rest (IsBytes-drop 4 (a ∷ b ∷ c ∷ d ∷ rest) fits) (omega (arith, whole)) in
    let first : to_le_bytes w32 (from_le_bytes w32 four) ≡ four = wide32.back four refl four_fits in
    record {
      spelled = ap (λ (bytes : List ℕ). to_le_bytes w32 (from_le_bytes w32 four) ++ bytes) others.spelled
          ∙ ap (λ (bytes : List ℕ). bytes ++ rest) first;
      below = (wide32.below four four_fits, others.below);
    }

pub numbers_again : (ns : List ℕ) → AllByRecursion (λ n. n < 2 ^ 32) ns → numbers_in (flat_map (to_le_bytes w32) ns) ≡ ns
numbers_again [] fit = refl
numbers_again (n ∷ ns) fit =
    let first : from_le_bytes w32 (to_le_bytes w32 n) ≡ n = wide32.again n fit.0 in
    let others : numbers_in (flat_map (to_le_bytes w32) ns) ≡ ns = numbers_again ns fit.1 in
    ap (λ (m : ℕ). m ∷ numbers_in (flat_map (to_le_bytes w32) ns)) first ∙ ap (λ (ms : List ℕ). n ∷ ms) others
