-- A send's address and its control data.
use Rattle.std.proofs.Common.{◌≡◌, lit<, ℕ, ◌<◌, ◌&&◌, Bool, true, false, cond, eqb, List, [], ◌∷◌, length, Ok, refl, ap, ◌∙◌, subst, arith}
use Rattle.std.specs.Prelude.{Option, Some, None}
use Rattle.std.specs.Str.{bytes_eq}
use Rattle.std.proofs.lemmas.Bool.{eqb-true}
use Rattle.std.proofs.lemmas.Slice.Eq.{bytes_eq-Decides}
use Rattle.ux_model.specs.Types.{Addr}
use Rattle.ux_syntax.specs.declared.control.ControlItem.{ControlItem}
use Rattle.ux_syntax.specs.declared.control.ControlWord.{ControlWord}
use Rattle.ux_trace.specs.Trace.{dash, hex, addr_text, addr_or_dash, path_text, lettered}
use Rattle.ux_syntax.specs.Spelling.{AreBytes, control_text, FitsControl, FitsAddrOrDash}
use Rattle.ux_syntax.specs.Reading.{◌>>=◌, addr_at, addr_or_dash_at, some_pairs_at, control_items_at, control_at}
use Rattle.ux_syntax.proofs.Rows.{IsSolid, IsBadOrOk, IsKind, bind_ok, done, ok_is, either_bad, bind_bad}
use Rattle.ux_syntax.proofs.Bytes.{pairs_takes, pairs_again, pairs_bad, pairs_long, no_dash, dash_solid, hex_kind}
use Rattle.ux_syntax.proofs.Names.{addr_kind}
use Rattle.ux_trace.proofs.Texts.{hex_is}
use Rattle.ux_syntax.proofs.ControlItems.{behind, item_solid, items_takes, items_bad, one_again, two_again, two_solid}

-- ---- an address, or a dash for none

abbrev IsAddrText : List ℕ → Option Addr → Type 0
IsAddrText w a = (w ≡ addr_or_dash a) × FitsAddrOrDash a

addr_chosen : (w : List ℕ) (a : Option Addr) (t : Bool) → (t ≡ true → w ≡ dash) →
    cond t (done None) (addr_at w >>= λ addr. Ok (Some addr)) ≡ Ok a → IsAddrText w a
addr_chosen w a true d e = subst (IsAddrText w) (ok_is None a e) (d refl, tt)
addr_chosen w a false d e =
    let x = bind_ok (addr_at w) (λ addr. Ok (Some addr)) a e in
    subst (IsAddrText w) (ok_is (Some x.0) a x.2) (addr_kind.takes w x.0 x.1)

addr_is_no_dash : (a : Addr) → bytes_eq (addr_text a) dash ≡ false
addr_is_no_dash Addr.Unnamed = refl
addr_is_no_dash (Addr.Path name) = no_dash 112 58 _ (bytes_eq (path_text name) dash) (bytes_eq-Decides (path_text name) dash)
addr_is_no_dash (Addr.Abstract name) = no_dash 97 58 _ (bytes_eq (lettered 97 name) dash) (bytes_eq-Decides (lettered 97 name) dash)

addr_again : (a : Option Addr) → FitsAddrOrDash a → addr_or_dash_at (addr_or_dash a) ≡ Ok a
unfolding addr_or_dash_at
addr_again None f = refl
addr_again (Some addr) f = rw (addr_is_no_dash addr, addr_kind.again addr f) refl

addr_solid : (a : Option Addr) → FitsAddrOrDash a → IsSolid (addr_or_dash a)
addr_solid None f = dash_solid
addr_solid (Some addr) f = addr_kind.solid addr f

pub addr_or_dash_kind : IsKind addr_or_dash_at addr_or_dash FitsAddrOrDash
unfolding addr_or_dash_at
addr_or_dash_kind = record {
  takes = λ w a e. addr_chosen w a (bytes_eq w dash) (bytes_eq-Decides w dash).0 e;
  bad = λ w. either_bad (bytes_eq w dash) (Ok None) _ tt (bind_bad (addr_at w) _ (addr_kind.bad w) (λ addr. tt));
  again = addr_again;
  solid = addr_solid;
}

-- ---- bytes, one at least

abbrev AreSomeBytes : List ℕ → Type 0
AreSomeBytes bytes = (0 < length bytes) × AreBytes bytes

some_pairs_takes : (w bs : List ℕ) → some_pairs_at w ≡ Ok bs → (w ≡ hex bs) × AreSomeBytes bs
some_pairs_takes [] bs e = absurd cc
some_pairs_takes (c ∷ cs) bs e =
    let p = pairs_takes (c ∷ cs) bs e in
    let long = pairs_long bs (subst (λ (x : List ℕ). 0 < length x) p.0 (omega arith)) in
    (p.0 ∙ hex_is bs long, (long, p.1))

some_pairs_bad : (w : List ℕ) → IsBadOrOk (some_pairs_at w)
some_pairs_bad [] = refl
some_pairs_bad (c ∷ cs) = pairs_bad (c ∷ cs)

some_pairs_again : (bs : List ℕ) → AreSomeBytes bs → some_pairs_at (hex bs) ≡ Ok bs
some_pairs_again [] f = absurd (omega (arith, f.0))
some_pairs_again (b ∷ bs) f = pairs_again (b ∷ bs) f.1

-- ---- control data

abbrev IsControlText : List ℕ → ControlWord → Type 0
IsControlText w c = (w ≡ control_text c) × FitsControl c

raw_takes : (w rest : List ℕ) (c : ControlWord) → w ≡ 120 ∷ 58 ∷ rest →
    (some_pairs_at rest >>= λ bytes. Ok (ControlWord.Raw bytes)) ≡ Ok c → IsControlText w c
raw_takes w rest c d e =
    let x = bind_ok (some_pairs_at rest) (λ bytes. Ok (ControlWord.Raw bytes)) c e in
    let p = some_pairs_takes rest x.0 x.1 in
    subst (IsControlText w) (ok_is (ControlWord.Raw x.0) c x.2) (d ∙ ap (λ (v : List ℕ). 120 ∷ 58 ∷ v) p.0, p.1)

bare_chosen : (w : List ℕ) (c : ControlWord) (t : Bool) → (t ≡ true → w ≡ dash) →
    cond t (done ControlWord.Bare) (control_items_at w) ≡ Ok c → IsControlText w c
bare_chosen w c true d e = subst (IsControlText w) (ok_is ControlWord.Bare c e) (d refl, tt)
bare_chosen w c false d e = items_takes w c e

raw_chosen : (w rest : List ℕ) (c : ControlWord) (t : Bool) → (t ≡ true → w ≡ 120 ∷ 58 ∷ rest) →
    cond t (some_pairs_at rest >>= λ bytes. Ok (ControlWord.Raw bytes)) (control_items_at w) ≡ Ok c → IsControlText w c
raw_chosen w rest c true d e = raw_takes w rest c (d refl) e
raw_chosen w rest c false d e = items_takes w c e

control_takes : (w : List ℕ) (c : ControlWord) → control_at w ≡ Ok c → IsControlText w c
unfolding control_at
control_takes [] c e = items_takes [] c e
control_takes (d ∷ []) c e = bare_chosen (d ∷ []) c (eqb d 45) (λ t. ap (λ (x : ℕ). x ∷ []) (eqb-true d 45 t)) e
control_takes (d ∷ colon ∷ rest) c e = raw_chosen (d ∷ colon ∷ rest) rest c (eqb d 120 && eqb colon 58) (behind 120 d colon rest) e

control_bad : (w : List ℕ) → IsBadOrOk (control_at w)
unfolding control_at
control_bad [] = items_bad []
control_bad (d ∷ []) = either_bad (eqb d 45) (done ControlWord.Bare) _ tt (items_bad (d ∷ []))
control_bad (d ∷ colon ∷ rest) =
    either_bad (eqb d 120 && eqb colon 58) _ _ (bind_bad (some_pairs_at rest) _ (some_pairs_bad rest) (λ bytes. tt))
    (items_bad (d ∷ colon ∷ rest))

control_again : (c : ControlWord) → FitsControl c → control_at (control_text c) ≡ Ok c
unfolding control_at
control_again ControlWord.Bare f = refl
control_again (ControlWord.Raw bytes) f = rw (some_pairs_again bytes f) refl
control_again (ControlWord.Rights numbers) f = one_again (ControlItem.Rights numbers) f
control_again (ControlWord.Credentials cred) f = one_again (ControlItem.Credentials cred) f
control_again (ControlWord.CredentialsFirst cred numbers) f =
    two_again (ControlItem.Credentials cred) (ControlItem.Rights numbers) (ControlWord.CredentialsFirst cred numbers) f.0 f.1 refl
control_again (ControlWord.RightsFirst numbers cred) f =
    two_again (ControlItem.Rights numbers) (ControlItem.Credentials cred) (ControlWord.RightsFirst numbers cred) f.0 f.1 refl

control_solid : (c : ControlWord) → FitsControl c → IsSolid (control_text c)
control_solid ControlWord.Bare f = dash_solid
control_solid (ControlWord.Raw bytes) f = (lit< tt, (lit< tt, hex_kind.solid bytes f.1))
control_solid (ControlWord.Rights numbers) f = item_solid (ControlItem.Rights numbers) f
control_solid (ControlWord.Credentials cred) f = item_solid (ControlItem.Credentials cred) f
control_solid (ControlWord.CredentialsFirst cred numbers) f = two_solid (ControlItem.Credentials cred) (ControlItem.Rights numbers) f.0 f.1
control_solid (ControlWord.RightsFirst numbers cred) f = two_solid (ControlItem.Rights numbers) (ControlItem.Credentials cred) f.0 f.1

pub control_kind : IsKind control_at control_text FitsControl
control_kind = record { takes = control_takes; bad = control_bad; again = control_again; solid = control_solid }
