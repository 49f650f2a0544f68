-- A word or a row of words that is read is the spelling of what was read, and each spelling is read again.
use Rattle.std.proofs.Common.{◌≡◌, ℕ, zero, suc, not, ◌<◌, ◌^◌, Bool, true, false, cond, ◌&&◌, ltb, eqb, List, [], ◌∷◌, length, get_or, map, Decides}
use Rattle.std.proofs.Common.{Result, Ok, Err, refl, ap, sym, ◌∙◌, subst, arith}
use Rattle.std.specs.Prelude.{decimal}
use Rattle.std.specs.List.{list_all, AllByRecursion}
use Rattle.std.specs.Char.{is_ascii_digit}
use Rattle.std.specs.Str.{bytes_eq}
use Rattle.std.specs.Str.Parse.{digits_value}
use Rattle.std.proofs.lemmas.Bool.{lt-ltb, ltb-true, ne_eqb, and_parts, not_from_false}
use Rattle.std.proofs.lemmas.Bool.Decides.{nat_tests}
use Rattle.std.proofs.lemmas.Fmt.{digits_decimal, digits_value-decimal, decimal-digits_value, first_decimal, decimal_nonempty}
use Rattle.std.proofs.lemmas.Fmt.{decimal_digit}
use Rattle.std.proofs.lemmas.Slice.Eq.{bytes_eq-Decides}
use Rattle.ux_syntax.specs.declared.fault.Fault.{Fault}
use Rattle.ux_syntax.specs.declared.fault.Fault.TheVariants.{BadLine}
use Rattle.ux_syntax.specs.Spelling.{IsNumber}
use Rattle.ux_model.specs.Types.{Fd}
use Rattle.ux_syntax.specs.Reading.{◌>>=◌, is_plain, number_at, fd_at, each_at, one, ends, ◌>>◌}
use Rattle.ux_syntax.proofs.Numbers.{own}

-- no byte of the word ends it
abbrev pub IsSolid : List ℕ → Type 0
IsSolid w = AllByRecursion (λ b. 32 < b) w

abbrev pub done : {A : Type 0} → A → Result A Fault
done x = Ok x

-- reading fails in one way alone
abbrev pub IsBadOrOk : {A : Type 0} → Result A Fault → Type 0
IsBadOrOk (Ok x) = Unit {0}
IsBadOrOk (Err f) = f ≡ BadLine

-- how one word is read, and how it is spelled
pub record IsKind {A : Type 0} (read : List ℕ → Result A Fault) (text : A → List ℕ) (Fits : A → Type 0) : Type 0 where
  pub takes : (w : List ℕ) (x : A) → read w ≡ Ok x → (w ≡ text x) × Fits x
  pub bad : (w : List ℕ) → IsBadOrOk (read w)
  pub again : (x : A) → Fits x → read (text x) ≡ Ok x
  pub solid : (x : A) → Fits x → IsSolid (text x)

-- the same of all the words of a row
pub record IsRow {A : Type 0} (read : List (List ℕ) → Result A Fault) (words : A → List (List ℕ)) (Fits : A → Type 0) : Type 0 where
  pub takes : (ws : List (List ℕ)) (x : A) → read ws ≡ Ok x → (ws ≡ words x) × Fits x
  pub bad : (ws : List (List ℕ)) → IsBadOrOk (read ws)
  pub again : (x : A) → Fits x → read (words x) ≡ Ok x
  pub solid : (x : A) → Fits x → AllByRecursion IsSolid (words x)

-- a test that fails at a word
pub guard_bad : {A : Type 0} (b : Bool) (x : A) → IsBadOrOk (cond b (done x) (Err BadLine))
guard_bad true x = tt
guard_bad false x = refl

-- and one that does not
pub guard_ok : {A : Type 0} (b : Bool) (x y : A) → cond b (done x) (Err BadLine) ≡ Ok y → (b ≡ true) × (x ≡ y)
guard_ok true x y e = (refl, cc)
guard_ok false x y e = absurd cc

pub either_bad : {A : Type 0} (b : Bool) (r s : Result A Fault) → IsBadOrOk r → IsBadOrOk s → IsBadOrOk (cond b r s)
either_bad true r s p q = p
either_bad false r s p q = q

pub bind_bad : {A B : Type 0} (r : Result A Fault) (f : A → Result B Fault) → IsBadOrOk r → ((x : A) → IsBadOrOk (f x)) →
    IsBadOrOk (r >>= f)
bind_bad (Ok x) f p q = q x
bind_bad (Err e) f p q = p

pub one_bad : {A : Type 0} (kind : List ℕ → Result A Fault) → ((w : List ℕ) → IsBadOrOk (kind w)) → (ws : List (List ℕ)) →
    IsBadOrOk (one kind ws)
one_bad kind h [] = refl
one_bad kind h (w ∷ ws) = bind_bad (kind w) (λ x. Ok (x, ws)) (h w) (λ x. tt)

ends_takes : (ws : List (List ℕ)) (x : Unit {0}) → ends ws ≡ Ok x → (ws ≡ []) × Unit {0}
ends_takes [] x e = (refl, tt)
ends_takes (w ∷ ws) x e = absurd cc

ends_bad : (ws : List (List ℕ)) → IsBadOrOk (ends ws)
ends_bad [] = tt
ends_bad (w ∷ ws) = refl

pub ends_row : IsRow ends (λ _. []) (λ _. Unit {0})
ends_row = record { takes = ends_takes; bad = ends_bad; again = λ x f. refl; solid = λ x f. tt }

-- the value of a step that did not fail
pub bind_ok : {A B : Type 0} (r : Result A Fault) (f : A → Result B Fault) (y : B) → (r >>= f) ≡ Ok y → (x : A) × (r ≡ Ok x) × (f x ≡ Ok y)
bind_ok (Ok x) f y e = (x, refl, e)
bind_ok (Err d) f y e = absurd cc

pub ok_is : {A : Type 0} (x y : A) → done x ≡ done y → x ≡ y
ok_is x y e = cc

row_takes : {A B : Type 0} (k : List ℕ → Result A Fault) (text : A → List ℕ) (F : A → Type 0) (r : List (List ℕ) → Result B Fault)
    (words : B → List (List ℕ)) (G : B → Type 0)
    → IsKind k text F → IsRow r words G → (ws : List (List ℕ)) (x : A × B) → (k >> r) ws ≡ Ok x →
    (ws ≡ text x.0 ∷ words x.1) × (F x.0 × G x.1)
row_takes k text F r words G kind row [] x e = absurd cc
row_takes {A = A} {B = B} k text F r words G kind row (w ∷ ws) x e =
    let a = bind_ok (one k (w ∷ ws)) (λ v. r v.1 >>= λ y. Ok (v.0, y)) x e in
    let b = bind_ok (k w) (λ v. Ok (v, ws)) a.0 a.1 in
    let c = bind_ok (r a.0.1) (λ y. Ok (a.0.0, y)) x a.2 in
    let same : (b.0, ws) ≡ a.0 = ok_is (b.0, ws) a.0 b.2 in
    let head : b.0 ≡ a.0.0 = ap (λ (v : A × List (List ℕ)). v.0) same in
    let rest : ws ≡ a.0.1 = ap (λ (v : A × List (List ℕ)). v.1) same in
    let whole : (a.0.0, c.0) ≡ x = ok_is (a.0.0, c.0) x c.2 in
    let p = kind.takes w a.0.0 (b.1 ∙ ap (λ v. done v) head) in
    let q = row.takes a.0.1 c.0 c.1 in
    subst (λ (y : A × B). (w ∷ ws ≡ text y.0 ∷ words y.1) × (F y.0 × G y.1)) whole
    (ap (λ (v : List ℕ). v ∷ ws) p.0 ∙ ap (λ (vs : List (List ℕ)). text a.0.0 ∷ vs) (rest ∙ q.0), (p.1, q.1))

pub row_then : {A B : Type 0} {k : List ℕ → Result A Fault} {text : A → List ℕ} {F : A → Type 0} {r : List (List ℕ) → Result B Fault}
    {words : B → List (List ℕ)} {G : B → Type 0}
    → IsKind k text F → IsRow r words G → IsRow (k >> r) (λ x. text x.0 ∷ words x.1) (λ x. F x.0 × G x.1)
row_then {k = k} {text = text} {F = F} {r = r} {words = words} {G = G} kind row = record {
  takes = row_takes k text F r words G kind row;
  bad = λ ws. bind_bad (one k ws) (λ x. r x.1 >>= λ y. Ok (x.0, y)) (one_bad k kind.bad ws)
      (λ x. bind_bad (r x.1) (λ y. Ok (x.0, y)) (row.bad x.1) (λ y. tt));
  again = λ x f. rw (kind.again x.0 f.0, row.again x.1 f.1) refl;
  solid = λ x f. (kind.solid x.0 f.0, row.solid x.1 f.1);
}

err_ok : {A : Type 0} (x : A) → Err BadLine ≡ done x → ⊥
err_ok x e = cc

-- a word that is read is none at which the reading fails
pub other_than : {A : Type 0} (read : List ℕ → Result A Fault) (v w : List ℕ) (x : A) → read v ≡ Ok x → read w ≡ Err BadLine →
    bytes_eq v w ≡ false
other_than read v w x e r = go (bytes_eq v w) (bytes_eq-Decides v w)
  where
    go : (t : Bool) → Decides t (v ≡ w) → t ≡ false
    go true d = absurd (err_ok x (sym r ∙ ap read (sym (d.0 refl)) ∙ e))
    go false d = refl

-- ---- words of one kind

each_takes : {A : Type 0} (k : List ℕ → Result A Fault) (text : A → List ℕ) (F : A → Type 0) → IsKind k text F → (ws : List (List ℕ))
    (xs : List A) → each_at k ws ≡ Ok xs → (ws ≡ map text xs) × AllByRecursion F xs
each_takes {A = A} k text F kind [] xs e =
    subst (λ (ys : List A). ([] ≡ map text ys) × AllByRecursion F ys) (ok_is [] xs e) (refl, tt)
each_takes {A = A} k text F kind (w ∷ ws) xs e =
    let a = bind_ok (k w) (λ x. each_at k ws >>= λ ys. Ok (x ∷ ys)) xs e in
    let b = bind_ok (each_at k ws) (λ ys. Ok (a.0 ∷ ys)) xs a.2 in
    let p = kind.takes w a.0 a.1 in
    let q = each_takes k text F kind ws b.0 b.1 in
    subst (λ (ys : List A). (w ∷ ws ≡ map text ys) × AllByRecursion F ys) (ok_is (a.0 ∷ b.0) xs b.2)
    (ap (λ (v : List ℕ). v ∷ ws) p.0 ∙ ap (λ (vs : List (List ℕ)). text a.0 ∷ vs) q.0, (p.1, q.1))

each_bad : {A : Type 0} (k : List ℕ → Result A Fault) → ((w : List ℕ) → IsBadOrOk (k w)) → (ws : List (List ℕ)) → IsBadOrOk (each_at k ws)
each_bad k h [] = tt
each_bad k h (w ∷ ws) = bind_bad (k w) _ (h w) (λ x. bind_bad (each_at k ws) _ (each_bad k h ws) (λ xs. tt))

each_again : {A : Type 0} (k : List ℕ → Result A Fault) (text : A → List ℕ) (F : A → Type 0) → IsKind k text F → (xs : List A) →
    AllByRecursion F xs → each_at k (map text xs) ≡ Ok xs
each_again k text F kind [] f = refl
each_again k text F kind (x ∷ xs) f = rw (kind.again x f.0, each_again k text F kind xs f.1) refl

each_solid : {A : Type 0} (k : List ℕ → Result A Fault) (text : A → List ℕ) (F : A → Type 0) → IsKind k text F → (xs : List A) →
    AllByRecursion F xs → AllByRecursion IsSolid (map text xs)
each_solid k text F kind [] f = tt
each_solid k text F kind (x ∷ xs) f = (kind.solid x f.0, each_solid k text F kind xs f.1)

pub each_row : {A : Type 0} {k : List ℕ → Result A Fault} {text : A → List ℕ} {F : A → Type 0} → IsKind k text F →
    IsRow (each_at k) (map text) (AllByRecursion F)
each_row {k = k} {text = text} {F = F} kind = record {
  takes = each_takes k text F kind;
  bad = each_bad k kind.bad;
  again = each_again k text F kind;
  solid = each_solid k text F kind;
}

-- ---- numbers

-- the same by a test that computes
pub solid_from : (w : List ℕ) → list_all (λ b. ltb 32 b) w ≡ true → IsSolid w
solid_from [] h = tt
solid_from (c ∷ cs) h =
    let p = and_parts (ltb 32 c) (list_all (λ b. ltb 32 b) cs) h in
    (ltb-true 32 c p.0, solid_from cs p.1)

not_plain : (c : ℕ) → c ≡ 48 → not (eqb c 48) ≡ true → ⊥
not_plain c e h = let same : eqb c 48 ≡ true = rw e refl in absurd cc

plain_from : (c : ℕ) → (c ≡ 48 → ⊥) → not (eqb c 48) ≡ true
plain_from c h = not_from_false (eqb c 48) (ne_eqb c 48 h)

two_long : (d : ℕ) (ds : List ℕ) → suc (suc (length ds)) ≡ 1 → ⊥
two_long d ds e = omega (arith, e)

zero_alone : (n : ℕ) → n < 2 ^ 64 → get_or (decimal n) 0 0 ≡ 48 → length (decimal n) ≡ 1
zero_alone zero small e = ap (λ (ds : List ℕ). length ds) (decimal_digit 0 (omega arith))
zero_alone (suc n) small e = absurd (omega (arith, first_decimal (suc n) (omega arith) small))

pub digits_solid : (w : List ℕ) → list_all is_ascii_digit w ≡ true → IsSolid w
digits_solid [] h = tt
digits_solid (c ∷ cs) h =
    let p = and_parts (is_ascii_digit c) (list_all is_ascii_digit cs) h in
    (grind (arith, nat_tests, p.0), digits_solid cs p.1)

plain_form : (w : List ℕ) → is_plain w ≡ true → (0 < length w) × (get_or w 0 0 ≡ 48 → length w ≡ 1)
plain_form [] h = absurd cc
plain_form (c ∷ []) h = (omega arith, λ e. refl)
plain_form (c ∷ d ∷ ds) h = (omega arith, λ e. absurd (not_plain c e h))

form_plain : (w : List ℕ) → 0 < length w → (get_or w 0 0 ≡ 48 → length w ≡ 1) → is_plain w ≡ true
form_plain [] h k = absurd (omega arith)
form_plain (c ∷ []) h k = refl
form_plain (c ∷ d ∷ ds) h k = plain_from c (λ e. two_long d ds (k e))

-- digits in their one form are those of the number
pub numeral_text : (w : List ℕ) → is_plain w ≡ true → list_all is_ascii_digit w ≡ true → digits_value 10 w < 2 ^ 64 →
    decimal (digits_value 10 w) ≡ w
numeral_text w plain digits small = let form = plain_form w plain in decimal-digits_value own w digits form.0 form.1 small

number_takes : (w : List ℕ) (n : ℕ) → number_at w ≡ Ok n → (w ≡ decimal n) × IsNumber n
unfolding number_at
number_takes w n e =
    let g = guard_ok (is_plain w && list_all is_ascii_digit w && ltb (digits_value 10 w) (2 ^ 32)) (digits_value 10 w) n e in
    let p = and_parts (is_plain w && list_all is_ascii_digit w) (ltb (digits_value 10 w) (2 ^ 32)) g.0 in
    let q = and_parts (is_plain w) (list_all is_ascii_digit w) p.0 in
    let small : digits_value 10 w < 2 ^ 32 = ltb-true _ _ p.1 in
    let text = numeral_text w q.0 q.1 (omega arith) in
    (sym text ∙ ap decimal g.1, rw g.1 at small)

pub decimal_plain : (n : ℕ) → n < 2 ^ 64 → is_plain (decimal n) ≡ true
decimal_plain n small = form_plain (decimal n) (decimal_nonempty n small) (λ e. zero_alone n small e)

number_again : (n : ℕ) → IsNumber n → number_at (decimal n) ≡ Ok n
unfolding number_at
number_again n h =
    let digits : list_all is_ascii_digit (decimal n) ≡ true = digits_decimal own n (omega arith) in
    let value : digits_value 10 (decimal n) ≡ n = digits_value-decimal own n (omega arith) in
    rw (decimal_plain n (omega arith), digits, value, lt-ltb n (2 ^ 32) h) refl

number_bad : (w : List ℕ) → IsBadOrOk (number_at w)
unfolding number_at
number_bad w = guard_bad (is_plain w && list_all is_ascii_digit w && ltb (digits_value 10 w) (2 ^ 32)) (digits_value 10 w)

pub number_kind : IsKind number_at decimal IsNumber
number_kind = record {
  takes = number_takes;
  bad = number_bad;
  again = number_again;
  solid =
      λ n h. digits_solid (decimal n) (digits_decimal own n (omega arith));
}

-- ---- descriptor numbers

abbrev numbered : ℕ → Fd
numbered n = record { 0 = n }

fd_takes : (w : List ℕ) (fd : Fd) → fd_at w ≡ Ok fd → (w ≡ decimal fd.0) × IsNumber fd.0
fd_takes w fd e =
    let a = bind_ok (number_at w) (λ n. done (numbered n)) fd e in
    let p = number_kind.takes w a.0 a.1 in
    subst (λ (x : Fd). (w ≡ decimal x.0) × IsNumber x.0) (ok_is (numbered a.0) fd a.2) p

pub fd_kind : IsKind fd_at (λ fd. decimal fd.0) (λ fd. IsNumber fd.0)
fd_kind = record {
  takes = fd_takes;
  bad = λ w. bind_bad (number_at w) (λ n. done (numbered n)) (number_kind.bad w) (λ n. tt);
  again = λ fd f. rw (number_kind.again fd.0 f) refl;
  solid = λ fd f. number_kind.solid fd.0 f;
}
