-- Names, paths and addresses.
use Rattle.std.proofs.Common.{◌≡◌, codes, lit<, ℕ, zero, suc, ◌+◌, ◌-◌, ◌*◌, ◌/◌, ◌%◌, ◌<◌, ◌≤◌, ◌&&◌, Bool, true, false, cond, eqb, List}
use Rattle.std.proofs.Common.{[], ◌∷◌, ◌++◌, length, Result, Ok, Err, refl, ap, sym, ◌∙◌, subst, arith}
use Rattle.std.specs.Fmt.{digit_glyph}
use Rattle.std.specs.Str.{bytes_eq}
use Rattle.std.proofs.lemmas.Bool.{eqb-true, eq-eqb}
use Rattle.std.proofs.lemmas.List.{append-nil, length-append}
use Rattle.std.proofs.lemmas.Slice.Eq.{bytes_eq-Decides}
use Rattle.ux_model.specs.Types.{Addr}
use Rattle.ux_syntax.specs.declared.fault.Fault.{Fault}
use Rattle.ux_syntax.specs.declared.fault.Fault.TheVariants.{BadLine}
use Rattle.ux_trace.specs.Trace.{digit_pair, stands, name_byte, name_text, lettered, path_text, addr_text}
use Rattle.ux_trace.proofs.Texts.{stands_means}
use Rattle.ux_syntax.specs.Spelling.{AreBytes, FitsAddr}
use Rattle.ux_syntax.specs.Reading.{◌>>=◌, digit_at, plain_at, escaped_at, byte_at, name_upto, name_at, lettered_at, path_at, letter_at}
use Rattle.ux_syntax.specs.Reading.{addr_at}
use Rattle.ux_syntax.proofs.Rows.{IsSolid, IsBadOrOk, IsKind, bind_ok, done, ok_is, guard_bad, either_bad, bind_bad}
use Rattle.ux_syntax.proofs.Bytes.{digit_takes, digit_again, digit_bad, glyph_solid}
use Rattle.ux_syntax.proofs.Apart.{solid_append}
use Rattle.ux_syntax.proofs.Pairs.{with_front, regroup}

-- ---- a byte

-- the byte's spelling stands before what follows
abbrev Begins : List ℕ → ℕ × List ℕ → Type 0
Begins w x = (w ≡ name_byte x.0 ++ x.1) × (x.0 < 256)

plain_begins : (c : ℕ) (rest : List ℕ) (t : Bool) (x : ℕ × List ℕ) → stands c ≡ t →
    (cond t (done c) (Err BadLine) >>= λ b. Ok (b, rest)) ≡ Ok x → Begins (c ∷ rest) x
plain_begins c rest true x s e = subst (Begins (c ∷ rest)) (ok_is (c, rest) x e) (rw s refl, omega (arith, (stands_means c s).1))
plain_begins c rest false x s e = absurd cc

refused_or : (t : Bool) (n b : ℕ) → cond t (Err BadLine) (done n) ≡ Ok b → (t ≡ false) × (n ≡ b)
refused_or true n b e = absurd cc
refused_or false n b e = (refl, ok_is n b e)

escaped_takes : (h l b : ℕ) → escaped_at h l ≡ Ok b → (h ∷ l ∷ [] ≡ digit_pair b) × (stands b ≡ false) × (b < 256)
escaped_takes h l b e =
    let x = bind_ok (digit_at h) (λ high. digit_at l >>= λ low. cond (stands (16 * high + low)) (Err BadLine) (done (16 * high + low))) b e
    in
    let y = bind_ok (digit_at l) (λ low. cond (stands (16 * x.0 + low)) (Err BadLine) (done (16 * x.0 + low))) b x.2 in
    let n = 16 * x.0 + y.0 in
    let g = refused_or (stands n) n b y.2 in
    let high = digit_takes h x.0 x.1 in
    let low = digit_takes l y.0 y.1 in
    let front : x.0 ≡ n / 16 = omega arith in
    let back : y.0 ≡ n % 16 = omega arith in
    subst (λ (m : ℕ). (h ∷ l ∷ [] ≡ digit_pair m) × (stands m ≡ false) × (m < 256)) g.1 (
      ap (λ (c : ℕ). c ∷ l ∷ []) (high.0 ∙ ap (digit_glyph false) front)
          ∙ ap (λ (c : ℕ). digit_glyph false (n / 16) ∷ c ∷ []) (low.0 ∙ ap (digit_glyph false) back),
      g.0,
      omega (arith, high.1, low.1),
    )

either_begins : (c h l : ℕ) (rest : List ℕ) (t : Bool) (x : ℕ × List ℕ) → (t ≡ true → c ≡ 37)
    → cond t (escaped_at h l >>= λ b. Ok (b, rest)) (plain_at c >>= λ b. Ok (b, h ∷ l ∷ rest)) ≡ Ok x → Begins (c ∷ h ∷ l ∷ rest) x
either_begins c h l rest true x d e =
    let a = bind_ok (escaped_at h l) (λ b. Ok (b, rest)) x e in
    let p = escaped_takes h l a.0 a.1 in
    subst (Begins (c ∷ h ∷ l ∷ rest)) (ok_is (a.0, rest) x a.2)
    (rw p.1 (ap (λ (v : ℕ). v ∷ h ∷ l ∷ rest) (d refl) ∙ ap (λ (v : List ℕ). 37 ∷ (v ++ rest)) p.0), p.2)
either_begins c h l rest false x d e = plain_begins c (h ∷ l ∷ rest) (stands c) x refl e

byte_takes : (w : List ℕ) (x : ℕ × List ℕ) → byte_at w ≡ Ok x → Begins w x
byte_takes [] x e = absurd cc
byte_takes (c ∷ []) x e = plain_begins c [] (stands c) x refl e
byte_takes (c ∷ d ∷ []) x e = plain_begins c (d ∷ []) (stands c) x refl e
byte_takes (c ∷ h ∷ l ∷ rest) x e = either_begins c h l rest (eqb c 37) x (eqb-true c 37) e

plain_again : (b : ℕ) (rest : List ℕ) → stands b ≡ true → byte_at (b ∷ rest) ≡ Ok (b, rest)
plain_again b [] s = rw s refl
plain_again b (d ∷ []) s = rw s refl
plain_again b (h ∷ l ∷ rest) s = rw (s, (stands_means b s).2) refl

escaped_again : (b : ℕ) → b < 256 → stands b ≡ false → escaped_at (digit_glyph false (b / 16)) (digit_glyph false (b % 16)) ≡ Ok b
escaped_again b small s =
    let whole : 16 * (b / 16) + b % 16 ≡ b = omega arith in
    rw (digit_again (b / 16) (omega arith), digit_again (b % 16) (omega arith), whole, s) refl

byte_again : (b : ℕ) (rest : List ℕ) (t : Bool) → stands b ≡ t → b < 256 →
    byte_at (cond t (b ∷ []) (37 ∷ digit_pair b) ++ rest) ≡ Ok (b, rest)
byte_again b rest true s small = plain_again b rest s
byte_again b rest false s small = rw (escaped_again b small s) refl

byte_long : (b : ℕ) (t : Bool) → 1 ≤ length (cond t (b ∷ []) (37 ∷ digit_pair b))
byte_long b true = omega arith
byte_long b false = omega arith

byte_solid : (b : ℕ) (t : Bool) → stands b ≡ t → b < 256 → IsSolid (cond t (b ∷ []) (37 ∷ digit_pair b))
byte_solid b true s small = (omega (arith, (stands_means b s).0), tt)
byte_solid b false s small = (omega arith, (glyph_solid (b / 16) (omega arith), (glyph_solid (b % 16) (omega arith), tt)))

escaped_bad : (h l : ℕ) → IsBadOrOk (escaped_at h l)
escaped_bad h l = bind_bad (digit_at h) _ (digit_bad h)
    (λ high. bind_bad (digit_at l) _ (digit_bad l)
    (λ low. either_bad (stands (16 * high + low)) (Err BadLine) (Ok (16 * high + low)) refl tt))

abbrev byte_then : List ℕ → ℕ → Result (ℕ × List ℕ) Fault
byte_then rest b = Ok (b, rest)

plain_bad : (c : ℕ) (rest : List ℕ) → IsBadOrOk (plain_at c >>= byte_then rest)
plain_bad c rest = bind_bad (plain_at c) (byte_then rest) (guard_bad (stands c) c) (λ b. tt)

byte_bad : (w : List ℕ) → IsBadOrOk (byte_at w)
byte_bad [] = refl
byte_bad (c ∷ []) = plain_bad c []
byte_bad (c ∷ d ∷ []) = plain_bad c (d ∷ [])
byte_bad (c ∷ h ∷ l ∷ rest) = either_bad (eqb c 37) _ _ (bind_bad (escaped_at h l) (byte_then rest) (escaped_bad h l) (λ b. tt))
    (plain_bad c (h ∷ l ∷ rest))

-- ---- a name

name_takes : (n : ℕ) (w bs : List ℕ) → name_upto n w ≡ Ok bs → (w ≡ name_text bs) × AreBytes bs
name_takes zero [] bs e = subst (λ (x : List ℕ). ([] ≡ name_text x) × AreBytes x) (ok_is [] bs e) (refl, tt)
name_takes zero (c ∷ cs) bs e = absurd cc
name_takes (suc n) [] bs e = subst (λ (x : List ℕ). ([] ≡ name_text x) × AreBytes x) (ok_is [] bs e) (refl, tt)
name_takes (suc n) (c ∷ cs) bs e =
    let a = bind_ok (byte_at (c ∷ cs)) (λ x. name_upto n x.1 >>= λ bytes. Ok (x.0 ∷ bytes)) bs e in
    let b = bind_ok (name_upto n a.0.1) (λ bytes. Ok (a.0.0 ∷ bytes)) bs a.2 in
    let p = byte_takes (c ∷ cs) a.0 a.1 in
    let q = name_takes n a.0.1 b.0 b.1 in
    subst (λ (x : List ℕ). (c ∷ cs ≡ name_text x) × AreBytes x) (ok_is (a.0.0 ∷ b.0) bs b.2)
    (p.0 ∙ ap (λ (v : List ℕ). name_byte a.0.0 ++ v) q.0, (p.1, q.1))

-- the name after its first byte
upto_step : (n : ℕ) (w : List ℕ) (x : ℕ × List ℕ) → byte_at w ≡ Ok x → name_upto (suc n) w ≡ (name_upto n x.1 >>= λ bytes. Ok (x.0 ∷ bytes))
upto_step n [] x e = absurd cc
upto_step n (c ∷ cs) x e = rw e refl

pub upto_none : (n : ℕ) → name_upto n [] ≡ Ok []
upto_none zero = refl
upto_none (suc n) = refl

name_again : (n : ℕ) (bs : List ℕ) → length (name_text bs) ≤ n → AreBytes bs → name_upto n (name_text bs) ≡ Ok bs
name_again n [] h f = upto_none n
name_again zero (b ∷ bs) h f = absurd (omega (arith, length-append (name_byte b) (name_text bs), byte_long b (stands b)))
name_again (suc n) (b ∷ bs) h f =
    let first : byte_at (name_byte b ++ name_text bs) ≡ Ok (b, name_text bs) = byte_again b (name_text bs) (stands b) refl f.0 in
    let rest : name_upto n (name_text bs) ≡ Ok bs =
    name_again n bs (omega (arith, length-append (name_byte b) (name_text bs), byte_long b (stands b))) f.1 in
    upto_step n (name_byte b ++ name_text bs) (b, name_text bs) first
    ∙ ap (λ (r : Result (List ℕ) Fault). r >>= λ bytes. Ok (b ∷ bytes)) rest

name_solid : (bs : List ℕ) → AreBytes bs → IsSolid (name_text bs)
name_solid [] f = tt
name_solid (b ∷ bs) f = solid_append (name_byte b) (name_text bs) (byte_solid b (stands b) refl f.0) (name_solid bs f.1)

name_bad : (n : ℕ) (w : List ℕ) → IsBadOrOk (name_upto n w)
name_bad zero [] = tt
name_bad zero (c ∷ cs) = refl
name_bad (suc n) [] = tt
name_bad (suc n) (c ∷ cs) = bind_bad (byte_at (c ∷ cs)) _ (byte_bad (c ∷ cs))
    (λ x. bind_bad (name_upto n x.1) _ (name_bad n x.1) (λ bytes. tt))

-- ---- a name behind a letter

lettered_chosen : (letter c colon : ℕ) (name bs : List ℕ) (t u : Bool) → (t ≡ true → c ≡ letter) → (u ≡ true → colon ≡ 58) →
    cond (t && u) (name_at name) (Err BadLine) ≡ Ok bs → (c ∷ colon ∷ name ≡ lettered letter bs) × AreBytes bs
unfolding name_at
lettered_chosen letter c colon name bs true true d f e =
    let q = name_takes (length name) name bs e in
    (ap (λ (x : ℕ). x ∷ colon ∷ name) (d refl) ∙ ap (λ (x : ℕ). letter ∷ x ∷ name) (f refl) ∙ ap (λ (x : List ℕ). letter ∷ 58 ∷ x) q.0, q.1)
lettered_chosen letter c colon name bs true false d f e = absurd cc
lettered_chosen letter c colon name bs false u d f e = absurd cc

lettered_takes : (letter : ℕ) (w bs : List ℕ) → lettered_at letter w ≡ Ok bs → (w ≡ lettered letter bs) × AreBytes bs
lettered_takes letter [] bs e = absurd cc
lettered_takes letter (c ∷ []) bs e = absurd cc
lettered_takes letter (c ∷ colon ∷ name) bs e =
    lettered_chosen letter c colon name bs (eqb c letter) (eqb colon 58) (eqb-true c letter) (eqb-true colon 58) e

lettered_again : (letter : ℕ) (bs : List ℕ) → AreBytes bs → lettered_at letter (lettered letter bs) ≡ Ok bs
unfolding name_at
lettered_again letter bs f = rw (eq-eqb letter letter refl) (name_again (length (name_text bs)) bs (omega arith) f)

lettered_bad : (letter : ℕ) (w : List ℕ) → IsBadOrOk (lettered_at letter w)
unfolding name_at
lettered_bad letter [] = refl
lettered_bad letter (c ∷ []) = refl
lettered_bad letter (c ∷ colon ∷ name) = either_bad (eqb c letter && eqb colon 58) _ _ (name_bad (length name) name) refl

lettered_kind : (letter : ℕ) → 32 < letter → IsKind (lettered_at letter) (lettered letter) AreBytes
lettered_kind letter h = record {
  takes = lettered_takes letter;
  bad = lettered_bad letter;
  again = lettered_again letter;
  solid = λ bs f. (h, (omega arith, name_solid bs f));
}

pub path_kind : IsKind path_at path_text AreBytes
path_kind = lettered_kind 112 (lit< tt)

-- ---- an address

abstract_kind : IsKind (lettered_at 97) (lettered 97) AreBytes
abstract_kind = lettered_kind 97 (lit< tt)

abbrev IsAddrText : List ℕ → Addr → Type 0
IsAddrText w a = (w ≡ addr_text a) × FitsAddr a

addr_chosen : (w : List ℕ) (a : Addr) (t u : Bool) → (t ≡ true → w ≡ codes "u")
    → cond t (done Addr.Unnamed) (cond u (path_at w >>= λ name. Ok (Addr.Path name)) (lettered_at 97 w >>= λ name. Ok (Addr.Abstract name)))
    ≡ Ok a → IsAddrText w a
addr_chosen w a true u d e = subst (IsAddrText w) (ok_is Addr.Unnamed a e) (d refl, tt)
addr_chosen w a false true d e =
    let x = bind_ok (path_at w) (λ name. Ok (Addr.Path name)) a e in
    subst (IsAddrText w) (ok_is (Addr.Path x.0) a x.2) (path_kind.takes w x.0 x.1)
addr_chosen w a false false d e =
    let x = bind_ok (lettered_at 97 w) (λ name. Ok (Addr.Abstract name)) a e in
    subst (IsAddrText w) (ok_is (Addr.Abstract x.0) a x.2) (abstract_kind.takes w x.0 x.1)

addr_again : (a : Addr) → FitsAddr a → addr_at (addr_text a) ≡ Ok a
unfolding addr_at
addr_again Addr.Unnamed f = refl
addr_again (Addr.Path name) f = rw (path_kind.again name f) refl
addr_again (Addr.Abstract name) f = rw (abstract_kind.again name f) refl

addr_solid : (a : Addr) → FitsAddr a → IsSolid (addr_text a)
addr_solid Addr.Unnamed f = (lit< tt, tt)
addr_solid (Addr.Path name) f = path_kind.solid name f
addr_solid (Addr.Abstract name) f = abstract_kind.solid name f

pub addr_kind : IsKind addr_at addr_text FitsAddr
unfolding addr_at
addr_kind = record {
  takes = λ w a e. addr_chosen w a (bytes_eq w (codes "u")) (letter_at 112 w).0 (bytes_eq-Decides w (codes "u")).0 e;
  bad = λ w. either_bad (bytes_eq w (codes "u")) (Ok Addr.Unnamed) _ tt
      (either_bad (letter_at 112 w).0 _ _ (bind_bad (path_at w) _ (path_kind.bad w) (λ name. tt))
      (bind_bad (lettered_at 97 w) _ (abstract_kind.bad w) (λ name. tt)));
  again = addr_again;
  solid = addr_solid;
}

-- ---- a name as a loop reads it

-- the bytes that were read, and what is still read, are the whole
pub record IsNameSoFar (w front rest : List ℕ) : Type 0 where
  pub room : length front + length rest ≤ length w
  pub whole : with_front front (name_upto (length w - length front) rest) ≡ name_at w

pub name_starts : (w : List ℕ) → IsNameSoFar w [] w
unfolding name_at
name_starts w =
    let all : length w - 0 ≡ length w = omega arith in
    record { room = omega arith; whole = ap (λ (n : ℕ). with_front [] (name_upto n w)) all ∙ none_before (name_upto (length w) w) }
  where
    none_before : (r : Result (List ℕ) Fault) → with_front [] r ≡ r
    none_before (Ok x) = refl
    none_before (Err f) = refl

pub name_more : (w front rest : List ℕ) (x : ℕ × List ℕ) → byte_at rest ≡ Ok x → IsNameSoFar w front rest →
    IsNameSoFar w (front ++ x.0 ∷ []) x.1
name_more w front rest x e h =
    let p = byte_takes rest x e in
    let long : length rest ≡ length (name_byte x.0) + length x.1 = ap (λ (v : List ℕ). length v) p.0 ∙ length-append (name_byte x.0) x.1 in
    let some : 1 ≤ length (name_byte x.0) = byte_long x.0 (stands x.0) in
    let count : length (front ++ x.0 ∷ []) ≡ length front + 1 = length-append front (x.0 ∷ []) in
    let k = length w - length (front ++ x.0 ∷ []) in
    let next : length w - length front ≡ suc k = omega (arith, h.room, long, some, count) in
    let step : name_upto (length w - length front) rest ≡ (name_upto k x.1 >>= λ bytes. Ok (x.0 ∷ bytes)) =
    rw next (upto_step k rest x e) in
    record {
      room = omega (arith, h.room, long, some, count);
      whole = sym (regroup front x.0 (name_upto k x.1)) ∙ ap (with_front front) (sym step) ∙ h.whole;
    }

pub name_ends : (w front : List ℕ) → IsNameSoFar w front [] → name_at w ≡ Ok front
name_ends w front h = sym h.whole ∙ ap (with_front front) (upto_none (length w - length front))
    ∙ ap (λ (x : List ℕ). done x) (append-nil front)

failed_upto : (n : ℕ) (rest : List ℕ) → 0 < length rest → byte_at rest ≡ Err BadLine → name_upto n rest ≡ Err BadLine
failed_upto n [] some e = absurd (omega arith)
failed_upto zero (c ∷ cs) some e = refl
failed_upto (suc n) (c ∷ cs) some e = rw e refl

pub name_fails : (w front rest : List ℕ) → 0 < length rest → byte_at rest ≡ Err BadLine → IsNameSoFar w front rest → name_at w ≡ Err BadLine
name_fails w front rest some e h = sym h.whole ∙ ap (with_front front) (failed_upto (length w - length front) rest some e)

-- a byte is not left
pub name_shorter : (rest : List ℕ) (x : ℕ × List ℕ) → byte_at rest ≡ Ok x → length x.1 < length rest
name_shorter rest x e =
    let p = byte_takes rest x e in
    omega (arith, ap (λ (v : List ℕ). length v) p.0, length-append (name_byte x.0) x.1, byte_long x.0 (stands x.0))
