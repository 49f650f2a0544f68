-- Bytes in pairs of digits.
use Rattle.std.proofs.Common.{◌≡◌, ℕ, ◌+◌, ◌*◌, ◌/◌, ◌%◌, ◌-◌, ◌<◌, ◌&&◌, leb, Bool, true, false, cond, List, [], ◌∷◌, length, Ok, refl, ap}
use Rattle.std.proofs.Common.{◌∙◌, subst, arith, Decides}
use Rattle.std.specs.List.{flat_map}
use Rattle.std.specs.Fmt.{digit_glyph}
use Rattle.std.specs.Str.{bytes_eq}
use Rattle.std.proofs.lemmas.Bool.Decides.{nat_tests}
use Rattle.std.proofs.lemmas.Slice.Eq.{bytes_eq-Decides}
use Rattle.ux_trace.specs.Trace.{dash, digit_pair, hex}
use Rattle.ux_syntax.specs.Spelling.{AreBytes}
use Rattle.ux_syntax.specs.Reading.{◌>>=◌, digit_at, pairs_at, hex_at}
use Rattle.ux_trace.proofs.Texts.{hex_is}
use Rattle.ux_syntax.proofs.Rows.{IsSolid, IsBadOrOk, IsKind, bind_ok, done, ok_is, guard_bad, either_bad, bind_bad}

pub digit_takes : (c n : ℕ) → digit_at c ≡ Ok n → (c ≡ digit_glyph false n) × (n < 16)
digit_takes c n e = grind (arith, nat_tests, e)

pub digit_again : (n : ℕ) → n < 16 → digit_at (digit_glyph false n) ≡ Ok n
digit_again n h = grind (arith, nat_tests)

pub glyph_solid : (n : ℕ) → n < 16 → 32 < digit_glyph false n
glyph_solid n h = grind (arith, nat_tests)

pub pairs_takes : (w bs : List ℕ) → pairs_at w ≡ Ok bs → (w ≡ flat_map digit_pair bs) × AreBytes bs
pairs_takes [] bs e = subst (λ (x : List ℕ). ([] ≡ flat_map digit_pair x) × AreBytes x) (ok_is [] bs e) (refl, tt)
pairs_takes (h ∷ []) bs e = absurd cc
pairs_takes (h ∷ l ∷ rest) bs e =
    let a = bind_ok (digit_at h) (λ high. digit_at l >>= λ low. pairs_at rest >>= λ bytes. Ok ((16 * high + low) ∷ bytes)) bs e in
    let b = bind_ok (digit_at l) (λ low. pairs_at rest >>= λ bytes. Ok ((16 * a.0 + low) ∷ bytes)) bs a.2 in
    let c = bind_ok (pairs_at rest) (λ bytes. Ok ((16 * a.0 + b.0) ∷ bytes)) bs b.2 in
    let high = digit_takes h a.0 a.1 in
    let low = digit_takes l b.0 b.1 in
    let n = 16 * a.0 + b.0 in
    let front : a.0 ≡ n / 16 = omega arith in
    let back : b.0 ≡ n % 16 = omega arith in
    let p = pairs_takes rest c.0 c.1 in
    subst (λ (x : List ℕ). (h ∷ l ∷ rest ≡ flat_map digit_pair x) × AreBytes x) (ok_is (n ∷ c.0) bs c.2) (
      ap (λ (x : ℕ). x ∷ l ∷ rest) (high.0 ∙ ap (digit_glyph false) front)
          ∙ ap (λ (x : ℕ). digit_glyph false (n / 16) ∷ x ∷ rest) (low.0 ∙ ap (digit_glyph false) back)
          ∙ ap (λ (x : List ℕ). digit_glyph false (n / 16) ∷ digit_glyph false (n % 16) ∷ x) p.0,
      (omega (arith, high.1, low.1), p.1),
    )

pub pairs_again : (bs : List ℕ) → AreBytes bs → pairs_at (flat_map digit_pair bs) ≡ Ok bs
pairs_again [] f = refl
pairs_again (b ∷ bs) f =
    let whole : 16 * (b / 16) + b % 16 ≡ b = omega arith in
    rw (digit_again (b / 16) (omega (arith, f.0)), digit_again (b % 16) (omega arith), pairs_again bs f.1, whole) refl

pub pairs_solid : (bs : List ℕ) → AreBytes bs → IsSolid (flat_map digit_pair bs)
pairs_solid [] f = tt
pairs_solid (b ∷ bs) f = (glyph_solid (b / 16) (omega (arith, f.0)), (glyph_solid (b % 16) (omega arith), pairs_solid bs f.1))

pub pairs_long : (bs : List ℕ) → 0 < length (flat_map digit_pair bs) → 0 < length bs
pairs_long [] h = absurd (omega arith)
pairs_long (b ∷ bs) h = omega arith

hex_chosen : (w bs : List ℕ) (t : Bool) → 0 < length w → Decides t (w ≡ dash) → cond t (done []) (pairs_at w) ≡ Ok bs →
    (w ≡ hex bs) × AreBytes bs
hex_chosen w bs true long d e = subst (λ (x : List ℕ). (w ≡ hex x) × AreBytes x) (ok_is [] bs e) (d.0 refl, tt)
hex_chosen w bs false long d e =
    let p = pairs_takes w bs e in
    (p.0 ∙ hex_is bs (pairs_long bs (subst (λ (x : List ℕ). 0 < length x) p.0 long)), p.1)

hex_takes : (w bs : List ℕ) → hex_at w ≡ Ok bs → (w ≡ hex bs) × AreBytes bs
unfolding hex_at
hex_takes [] bs e = absurd cc
hex_takes (c ∷ cs) bs e = hex_chosen (c ∷ cs) bs (bytes_eq (c ∷ cs) dash) (omega arith) (bytes_eq-Decides (c ∷ cs) dash) e

pub no_dash : (a b : ℕ) (cs : List ℕ) (t : Bool) → Decides t (a ∷ b ∷ cs ≡ dash) → t ≡ false
no_dash a b cs true d = let e : a ∷ b ∷ cs ≡ dash = d.0 refl in absurd (omega (arith, ap (λ (x : List ℕ). length x) e))
no_dash a b cs false d = refl

hex_again : (bs : List ℕ) → AreBytes bs → hex_at (hex bs) ≡ Ok bs
unfolding hex_at
hex_again [] f = refl
hex_again (b ∷ bs) f =
    let w = flat_map digit_pair (b ∷ bs) in
    let other : bytes_eq w dash ≡ false = no_dash (digit_glyph false (b / 16)) (digit_glyph false (b % 16)) (flat_map digit_pair bs)
    (bytes_eq w dash) (bytes_eq-Decides w dash) in
    rw other (pairs_again (b ∷ bs) f)

pub dash_solid : IsSolid dash
dash_solid = (omega arith, tt)

hex_solid : (bs : List ℕ) → AreBytes bs → IsSolid (hex bs)
hex_solid [] f = dash_solid
hex_solid (b ∷ bs) f = pairs_solid (b ∷ bs) f

pub digit_bad : (c : ℕ) → IsBadOrOk (digit_at c)
digit_bad c = either_bad (leb 48 c && leb c 57) (Ok (c - 48)) _ tt (guard_bad (leb 97 c && leb c 102) (c - 97 + 10))

pub pairs_bad : (w : List ℕ) → IsBadOrOk (pairs_at w)
pairs_bad [] = tt
pairs_bad (h ∷ []) = refl
pairs_bad (h ∷ l ∷ rest) = bind_bad (digit_at h) _ (digit_bad h)
    (λ high. bind_bad (digit_at l) _ (digit_bad l) (λ low. bind_bad (pairs_at rest) _ (pairs_bad rest) (λ bytes. tt)))

hex_bad : (w : List ℕ) → IsBadOrOk (hex_at w)
unfolding hex_at
hex_bad [] = refl
hex_bad (c ∷ cs) = either_bad (bytes_eq (c ∷ cs) dash) (Ok []) (pairs_at (c ∷ cs)) tt (pairs_bad (c ∷ cs))

pub hex_kind : IsKind hex_at hex AreBytes
hex_kind = record { takes = hex_takes; bad = hex_bad; again = hex_again; solid = hex_solid }
