-- Words joined by a byte that none of them has.
use Rattle.std.proofs.Common.{◌≡◌, ℕ, ◌<◌, true, false, not, eqb, List, [], ◌∷◌, ◌++◌, All, sym, ap, ◌∙◌, arith}
use Rattle.std.specs.Prelude.{decimal}
use Rattle.std.specs.List.{AllByRecursion, slice_split, join_with_byte, list_all}
use Rattle.std.specs.Char.{is_ascii_digit}
use Rattle.std.proofs.lemmas.Bool.{and_parts, not-true, ne_eqb, false≢true}
use Rattle.std.proofs.lemmas.List.Elements.{All-from_recursion}
use Rattle.std.proofs.lemmas.List.Splits.{slice_split_at, slice_split_none}
use Rattle.std.proofs.lemmas.Fmt.{digits_decimal}
use Rattle.ux_syntax.specs.Spelling.{IsNumber}
use Rattle.ux_syntax.proofs.Numbers.{own}
use Rattle.ux_syntax.proofs.Rows.{IsSolid}

-- the word hasn't this byte
abbrev pub HasNo : ℕ → List ℕ → Type 0
HasNo byte w = AllByRecursion (λ b. eqb b byte ≡ false) w

-- the same by a test that computes
pub has_no_from : (byte : ℕ) (w : List ℕ) → list_all (λ b. not (eqb b byte)) w ≡ true → HasNo byte w
has_no_from byte [] h = tt
has_no_from byte (c ∷ cs) h =
    let p = and_parts (not (eqb c byte)) (list_all (λ b. not (eqb b byte)) cs) h in
    (not-true (eqb c byte) p.0, has_no_from byte cs p.1)

pub all_other : (byte : ℕ) (w : List ℕ) → HasNo byte w → All (λ b. eqb b byte ≡ false) w
all_other byte w h = All-from_recursion (λ b. eqb b byte ≡ false) w h

pub no_append : (byte : ℕ) (v w : List ℕ) → HasNo byte v → HasNo byte w → HasNo byte (v ++ w)
no_append byte [] w p q = q
no_append byte (c ∷ cs) w p q = (p.0, no_append byte cs w p.1 q)

no_digit : (byte : ℕ) (w : List ℕ) → is_ascii_digit byte ≡ false → list_all is_ascii_digit w ≡ true → HasNo byte w
no_digit byte [] other h = tt
no_digit byte (c ∷ cs) other h =
    let p = and_parts (is_ascii_digit c) (list_all is_ascii_digit cs) h in
    (ne_eqb c byte (λ e. absurd (false≢true (sym other ∙ ap is_ascii_digit (sym e) ∙ p.0))), no_digit byte cs other p.1)

-- a number has digits alone
pub no_such_digit : (byte n : ℕ) → is_ascii_digit byte ≡ false → IsNumber n → HasNo byte (decimal n)
no_such_digit byte n other h = no_digit byte (decimal n) other (digits_decimal own n (omega arith))

pub split_joined : (byte : ℕ) (w : List ℕ) (ws : List (List ℕ)) → eqb byte byte ≡ true → HasNo byte w → AllByRecursion (HasNo byte) ws →
    slice_split (λ b. eqb b byte) (join_with_byte byte (w ∷ ws)) ≡ w ∷ ws
split_joined byte w [] same h hs = slice_split_none (λ b. eqb b byte) w (all_other byte w h)
split_joined byte w (v ∷ ws) same h hs =
    slice_split_at (λ b. eqb b byte) w byte (join_with_byte byte (v ∷ ws)) (all_other byte w h) same
    ∙ ap (λ (vs : List (List ℕ)). w ∷ vs) (split_joined byte v ws same hs.0 hs.1)

pub solid_append : (v w : List ℕ) → IsSolid v → IsSolid w → IsSolid (v ++ w)
solid_append [] w p q = q
solid_append (c ∷ cs) w p q = (p.0, solid_append cs w p.1 q)

pub solid_joined : (byte : ℕ) (w : List ℕ) (ws : List (List ℕ)) → 32 < byte → IsSolid w → AllByRecursion IsSolid ws →
    IsSolid (join_with_byte byte (w ∷ ws))
solid_joined byte w [] high h hs = h
solid_joined byte w (v ∷ ws) high h hs =
    solid_append w (byte ∷ join_with_byte byte (v ∷ ws)) h (high, solid_joined byte v ws high hs.0 hs.1)
