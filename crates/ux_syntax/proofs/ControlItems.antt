-- Items of control data: descriptor numbers and credentials.
use Rattle.std.proofs.Common.{◌≡◌, lit<, ℕ, ◌<◌, ◌&&◌, map, Bool, true, false, cond, eqb, List, [], ◌∷◌, length, All, Ok}
use Rattle.std.proofs.Common.{Err, refl, ap, sym, ◌∙◌, subst, arith}
use Rattle.std.specs.Prelude.{decimal}
use Rattle.std.specs.List.{AllByRecursion, slice_split, join_with_byte}
use Rattle.std.proofs.lemmas.Bool.{and_parts, eqb-true}
use Rattle.std.proofs.lemmas.List.{length-map}
use Rattle.std.proofs.lemmas.List.Splits.{slice_split_at, slice_split_none, length-slice_split, join_with_byte-slice_split}
use Rattle.ux_model.specs.Types.{Cred}
use Rattle.ux_syntax.specs.declared.control.ControlItem.{ControlItem}
use Rattle.ux_syntax.specs.declared.control.ControlWord.{ControlWord}
use Rattle.ux_syntax.specs.declared.fault.Fault.TheVariants.{BadLine}
use Rattle.ux_trace.specs.Trace.{rights_text, cred_text}
use Rattle.ux_syntax.specs.Spelling.{IsNumber, control_text, FitsRights, FitsCred, FitsControl}
use Rattle.ux_syntax.specs.Reading.{◌>>=◌, ◌>>◌, ends, number_at, each_at, numbers_at, cred_at, control_item_at, alone, paired}
use Rattle.ux_syntax.specs.Reading.{each_item_at, control_items_at}
use Rattle.ux_syntax.proofs.Rows.{IsSolid, IsBadOrOk, IsRow, bind_ok, ok_is, either_bad, bind_bad, number_kind, ends_row, row_then, each_row}
use Rattle.ux_syntax.proofs.Apart.{HasNo, all_other, no_append, no_such_digit, split_joined, solid_append, solid_joined}

-- ---- numbers and the commas between them

abbrev is_comma : ℕ → Bool
is_comma b = eqb b 44

abbrev with_commas : List ℕ → List ℕ
with_commas ns = join_with_byte 44 (map decimal ns)

number_row : IsRow (each_at number_at) (map decimal) (AllByRecursion IsNumber)
number_row = each_row number_kind

no_commas : (ns : List ℕ) → AllByRecursion IsNumber ns → AllByRecursion (HasNo 44) (map decimal ns)
no_commas [] h = tt
no_commas (n ∷ ns) h = (no_such_digit 44 n refl h.0, no_commas ns h.1)

split_numbers : (n : ℕ) (ns : List ℕ) → AllByRecursion IsNumber (n ∷ ns) →
    slice_split is_comma (with_commas (n ∷ ns)) ≡ map decimal (n ∷ ns)
split_numbers n ns h = split_joined 44 (decimal n) (map decimal ns) refl (no_such_digit 44 n refl h.0) (no_commas ns h.1)

commas_solid : (n : ℕ) (ns : List ℕ) → AllByRecursion IsNumber (n ∷ ns) → IsSolid (with_commas (n ∷ ns))
commas_solid n ns h = solid_joined 44 (decimal n) (map decimal ns) (lit< tt) (number_kind.solid n h.0) (number_row.solid ns h.1)

numbers_takes : (w ns : List ℕ) → numbers_at w ≡ Ok ns → (w ≡ with_commas ns) × FitsRights ns
unfolding numbers_at
numbers_takes w ns e =
    let p = number_row.takes (slice_split is_comma w) ns e in
    let long : length (slice_split is_comma w) ≡ length ns = ap (λ (ws : List (List ℕ)). length ws) p.0 ∙ length-map ns decimal in
    (sym (join_with_byte-slice_split 44 w) ∙ ap (join_with_byte 44) p.0, (omega (arith, length-slice_split is_comma w, long), p.1))

numbers_again : (ns : List ℕ) → FitsRights ns → numbers_at (with_commas ns) ≡ Ok ns
unfolding numbers_at
numbers_again [] f = absurd (omega (arith, f.0))
numbers_again (n ∷ ns) f = ap (each_at number_at) (split_numbers n ns f.1) ∙ number_row.again (n ∷ ns) f.1

numbers_solid : (ns : List ℕ) → FitsRights ns → IsSolid (with_commas ns)
numbers_solid [] f = tt
numbers_solid (n ∷ ns) f = commas_solid n ns f.1

numbers_bad : (w : List ℕ) → IsBadOrOk (numbers_at w)
unfolding numbers_at
numbers_bad w = number_row.bad (slice_split is_comma w)

-- ---- credentials

abbrev cred_numbers : Cred → List ℕ
cred_numbers c = c.pid.0 ∷ c.uid ∷ c.gid ∷ []

abbrev Three : Type 0
Three = ℕ × (ℕ × (ℕ × Unit {0}))

abbrev cred_made : Three → Cred
cred_made x = record { pid = record { 0 = x.0 }; uid = x.1.0; gid = x.1.1.0 }

three_row : IsRow (number_at >> number_at >> number_at >> ends) (λ (x : Three). decimal x.0 ∷ decimal x.1.0 ∷ decimal x.1.1.0 ∷ [])
    (λ (x : Three). IsNumber x.0 × (IsNumber x.1.0 × (IsNumber x.1.1.0 × Unit {0})))
three_row = row_then number_kind (row_then number_kind (row_then number_kind ends_row))

all_numbers : (c : Cred) → FitsCred c → AllByRecursion IsNumber (cred_numbers c)
all_numbers c f = (f.0, (f.1, (f.2, tt)))

cred_takes : (w : List ℕ) (c : Cred) → cred_at w ≡ Ok c → (w ≡ with_commas (cred_numbers c)) × FitsCred c
unfolding cred_at
cred_takes w c e =
    let a = bind_ok ((number_at >> number_at >> number_at >> ends) (slice_split is_comma w)) (λ x. Ok (cred_made x)) c e in
    let p = three_row.takes (slice_split is_comma w) a.0 a.1 in
    subst (λ (x : Cred). (w ≡ with_commas (cred_numbers x)) × FitsCred x) (ok_is (cred_made a.0) c a.2)
    (sym (join_with_byte-slice_split 44 w) ∙ ap (join_with_byte 44) p.0, (p.1.0, p.1.1.0, p.1.1.1.0))

cred_bad : (w : List ℕ) → IsBadOrOk (cred_at w)
unfolding cred_at
cred_bad w = bind_bad ((number_at >> number_at >> number_at >> ends) (slice_split is_comma w)) _ (three_row.bad (slice_split is_comma w))
    (λ x. tt)

cred_again : (c : Cred) → FitsCred c → cred_at (with_commas (cred_numbers c)) ≡ Ok c
unfolding cred_at
cred_again c f =
    ap (λ (ws : List (List ℕ)). (number_at >> number_at >> number_at >> ends) ws >>= λ x. Ok (cred_made x))
    (split_numbers c.pid.0 (c.uid ∷ c.gid ∷ []) (all_numbers c f))
    ∙ rw (number_kind.again c.pid.0 f.0, number_kind.again c.uid f.1, number_kind.again c.gid f.2) refl

-- ---- one item

abbrev control_item_text : ControlItem → List ℕ
control_item_text (ControlItem.Rights numbers) = rights_text numbers
control_item_text (ControlItem.Credentials cred) = cred_text cred

abbrev FitsItem : ControlItem → Type 0
FitsItem (ControlItem.Rights numbers) = FitsRights numbers
FitsItem (ControlItem.Credentials cred) = FitsCred cred

abbrev IsItemText : List ℕ → ControlItem → Type 0
IsItemText w i = (w ≡ control_item_text i) × FitsItem i

-- what stands behind a letter and a colon
pub behind : (letter d colon : ℕ) (rest : List ℕ) → (eqb d letter && eqb colon 58) ≡ true → d ∷ colon ∷ rest ≡ letter ∷ 58 ∷ rest
behind letter d colon rest h =
    let p = and_parts (eqb d letter) (eqb colon 58) h in
    ap (λ (x : ℕ). x ∷ colon ∷ rest) (eqb-true d letter p.0) ∙ ap (λ (x : ℕ). letter ∷ x ∷ rest) (eqb-true colon 58 p.1)

rights_takes : (w rest : List ℕ) (i : ControlItem) → w ≡ 114 ∷ 58 ∷ rest →
    (numbers_at rest >>= λ numbers. Ok (ControlItem.Rights numbers)) ≡ Ok i → IsItemText w i
rights_takes w rest i d e =
    let x = bind_ok (numbers_at rest) (λ numbers. Ok (ControlItem.Rights numbers)) i e in
    let p = numbers_takes rest x.0 x.1 in
    subst (IsItemText w) (ok_is (ControlItem.Rights x.0) i x.2) (d ∙ ap (λ (v : List ℕ). 114 ∷ 58 ∷ v) p.0, p.1)

credentials_takes : (w rest : List ℕ) (i : ControlItem) → w ≡ 99 ∷ 58 ∷ rest →
    (cred_at rest >>= λ cred. Ok (ControlItem.Credentials cred)) ≡ Ok i → IsItemText w i
credentials_takes w rest i d e =
    let x = bind_ok (cred_at rest) (λ cred. Ok (ControlItem.Credentials cred)) i e in
    let p = cred_takes rest x.0 x.1 in
    subst (IsItemText w) (ok_is (ControlItem.Credentials x.0) i x.2) (d ∙ ap (λ (v : List ℕ). 99 ∷ 58 ∷ v) p.0, p.1)

item_chosen : (w rest : List ℕ) (i : ControlItem) (t u : Bool) → (t ≡ true → w ≡ 114 ∷ 58 ∷ rest) → (u ≡ true → w ≡ 99 ∷ 58 ∷ rest)
    → cond t (numbers_at rest >>= λ numbers. Ok (ControlItem.Rights numbers))
    (cond u (cred_at rest >>= λ cred. Ok (ControlItem.Credentials cred)) (Err BadLine)) ≡ Ok i → IsItemText w i
item_chosen w rest i true u d f e = rights_takes w rest i (d refl) e
item_chosen w rest i false true d f e = credentials_takes w rest i (f refl) e
item_chosen w rest i false false d f e = absurd cc

item_takes : (w : List ℕ) (i : ControlItem) → control_item_at w ≡ Ok i → IsItemText w i
unfolding control_item_at
item_takes [] i e = absurd cc
item_takes (d ∷ []) i e = absurd cc
item_takes (d ∷ colon ∷ rest) i e =
    item_chosen (d ∷ colon ∷ rest) rest i (eqb d 114 && eqb colon 58) (eqb d 99 && eqb colon 58) (behind 114 d colon rest)
    (behind 99 d colon rest) e

item_bad : (w : List ℕ) → IsBadOrOk (control_item_at w)
unfolding control_item_at
item_bad [] = refl
item_bad (d ∷ []) = refl
item_bad (d ∷ colon ∷ rest) =
    either_bad (eqb d 114 && eqb colon 58) _ _ (bind_bad (numbers_at rest) _ (numbers_bad rest) (λ numbers. tt))
    (either_bad (eqb d 99 && eqb colon 58) _ _ (bind_bad (cred_at rest) _ (cred_bad rest) (λ cred. tt)) refl)

item_again : (i : ControlItem) → FitsItem i → control_item_at (control_item_text i) ≡ Ok i
unfolding control_item_at
item_again (ControlItem.Rights numbers) f = rw (numbers_again numbers f) refl
item_again (ControlItem.Credentials cred) f = rw (cred_again cred f) refl

pub item_solid : (i : ControlItem) → FitsItem i → IsSolid (control_item_text i)
item_solid (ControlItem.Rights numbers) f = (lit< tt, (lit< tt, numbers_solid numbers f))
item_solid (ControlItem.Credentials cred) f = (lit< tt, (lit< tt, commas_solid cred.pid.0 (cred.uid ∷ cred.gid ∷ []) (all_numbers cred f)))

-- ---- items and the plus between them

abbrev is_plus : ℕ → Bool
is_plus b = eqb b 43

commas_no_plus : (ns : List ℕ) → AllByRecursion IsNumber ns → HasNo 43 (with_commas ns)
commas_no_plus [] h = tt
commas_no_plus (n ∷ []) h = no_such_digit 43 n refl h.0
commas_no_plus (n ∷ m ∷ ns) h = no_append 43 (decimal n) (44 ∷ with_commas (m ∷ ns)) (no_such_digit 43 n refl h.0)
    (refl, commas_no_plus (m ∷ ns) h.1)

item_no_plus : (i : ControlItem) → FitsItem i → HasNo 43 (control_item_text i)
item_no_plus (ControlItem.Rights numbers) f = (refl, (refl, commas_no_plus numbers f.1))
item_no_plus (ControlItem.Credentials cred) f = (refl, (refl, commas_no_plus (cred_numbers cred) (all_numbers cred f)))

no_plus : (i : ControlItem) → FitsItem i → All (λ b. is_plus b ≡ false) (control_item_text i)
no_plus i f = all_other 43 (control_item_text i) (item_no_plus i f)

-- items joined by a plus are the text of the control data, which may be written so
abbrev AreItems : List (List ℕ) → ControlWord → Type 0
AreItems ws c = (join_with_byte 43 ws ≡ control_text c) × FitsControl c

alone_fits : (i : ControlItem) → FitsItem i → AreItems (control_item_text i ∷ []) (alone i)
alone_fits (ControlItem.Rights numbers) f = (refl, f)
alone_fits (ControlItem.Credentials cred) f = (refl, f)

paired_fits : (i j : ControlItem) (c : ControlWord) → FitsItem i → FitsItem j → paired i j ≡ Ok c →
    AreItems (control_item_text i ∷ control_item_text j ∷ []) c
paired_fits (ControlItem.Rights ns) (ControlItem.Rights ms) c f g e = absurd cc
paired_fits (ControlItem.Rights ns) (ControlItem.Credentials d) c f g e =
    subst (AreItems (rights_text ns ∷ cred_text d ∷ [])) (ok_is (ControlWord.RightsFirst ns d) c e) (refl, (f, g))
paired_fits (ControlItem.Credentials d) (ControlItem.Rights ns) c f g e =
    subst (AreItems (cred_text d ∷ rights_text ns ∷ [])) (ok_is (ControlWord.CredentialsFirst d ns) c e) (refl, (f, g))
paired_fits (ControlItem.Credentials b) (ControlItem.Credentials d) c f g e = absurd cc

paired_bad : (i j : ControlItem) → IsBadOrOk (paired i j)
paired_bad (ControlItem.Rights ns) (ControlItem.Rights ms) = refl
paired_bad (ControlItem.Rights ns) (ControlItem.Credentials d) = tt
paired_bad (ControlItem.Credentials d) (ControlItem.Rights ns) = tt
paired_bad (ControlItem.Credentials b) (ControlItem.Credentials d) = refl

each_item_takes : (ws : List (List ℕ)) (c : ControlWord) → each_item_at ws ≡ Ok c → AreItems ws c
each_item_takes [] c e = absurd cc
each_item_takes (w ∷ []) c e =
    let a = bind_ok (control_item_at w) (λ item. Ok (alone item)) c e in
    let p = item_takes w a.0 a.1 in
    let fits = alone_fits a.0 p.1 in
    subst (AreItems (w ∷ [])) (ok_is (alone a.0) c a.2) (p.0 ∙ fits.0, fits.1)
each_item_takes (v ∷ w ∷ []) c e =
    let a = bind_ok (control_item_at v) (λ first. control_item_at w >>= λ second. paired first second) c e in
    let b = bind_ok (control_item_at w) (λ second. paired a.0 second) c a.2 in
    let p = item_takes v a.0 a.1 in
    let q = item_takes w b.0 b.1 in
    let fits = paired_fits a.0 b.0 c p.1 q.1 b.2 in (
      ap (λ (x : List ℕ). join_with_byte 43 (x ∷ w ∷ [])) p.0 ∙ ap (λ (x : List ℕ). join_with_byte 43 (control_item_text a.0 ∷ x ∷ [])) q.0
          ∙ fits.0,
      fits.1,
    )
each_item_takes (u ∷ v ∷ w ∷ ws) c e = absurd cc

each_item_bad : (ws : List (List ℕ)) → IsBadOrOk (each_item_at ws)
each_item_bad [] = refl
each_item_bad (w ∷ []) = bind_bad (control_item_at w) _ (item_bad w) (λ item. tt)
each_item_bad (v ∷ w ∷ []) = bind_bad (control_item_at v) _ (item_bad v)
    (λ first. bind_bad (control_item_at w) _ (item_bad w) (λ second. paired_bad first second))
each_item_bad (u ∷ v ∷ w ∷ ws) = refl

pub items_takes : (w : List ℕ) (c : ControlWord) → control_items_at w ≡ Ok c → (w ≡ control_text c) × FitsControl c
unfolding control_items_at
items_takes w c e =
    let p = each_item_takes (slice_split is_plus w) c e in
    (sym (join_with_byte-slice_split 43 w) ∙ p.0, p.1)

pub items_bad : (w : List ℕ) → IsBadOrOk (control_items_at w)
unfolding control_items_at
items_bad w = each_item_bad (slice_split is_plus w)

pub one_again : (i : ControlItem) → FitsItem i → control_items_at (control_item_text i) ≡ Ok (alone i)
unfolding control_items_at
one_again i f = ap each_item_at (slice_split_none is_plus (control_item_text i) (no_plus i f)) ∙ rw (item_again i f) refl

split_two : (i j : ControlItem) → FitsItem i → FitsItem j
    → slice_split is_plus (join_with_byte 43 (control_item_text i ∷ control_item_text j ∷ [])) ≡ control_item_text i ∷ control_item_text
    j ∷ []
split_two i j f g =
    slice_split_at is_plus (control_item_text i) 43 (control_item_text j) (no_plus i f) refl
    ∙ ap (λ (ws : List (List ℕ)). control_item_text i ∷ ws) (slice_split_none is_plus (control_item_text j) (no_plus j g))

pub two_again : (i j : ControlItem) (c : ControlWord) → FitsItem i → FitsItem j → paired i j ≡ Ok c
    → control_items_at (join_with_byte 43 (control_item_text i ∷ control_item_text j ∷ [])) ≡ Ok c
unfolding control_items_at
two_again i j c f g e = ap each_item_at (split_two i j f g) ∙ rw (item_again i f, item_again j g) e

pub two_solid : (i j : ControlItem) → FitsItem i → FitsItem j → IsSolid (join_with_byte 43 (control_item_text i ∷ control_item_text j ∷ []))
two_solid i j f g = solid_append (control_item_text i) (43 ∷ control_item_text j) (item_solid i f) (lit< tt, item_solid j g)
