-- A control buffer that is written in items spells what they say.
use Rattle.std.proofs.Common.{◌≡◌, ℕ, ◌+◌, ◌-◌, ◌*◌, ◌%◌, ◌^◌, ◌<◌, List, [], ◌∷◌, ◌++◌, length, Some, None, refl, ap, sym, ◌∙◌, subst}
use Rattle.std.proofs.Common.{append_assoc, arith}
use Rattle.std.specs.Prelude.{replicate, IfSome}
use Rattle.std.proofs.Math.Dec.{eqb-suc-zero}
use Rattle.std.proofs.lemmas.List.{length-append, length-replicate}
use Rattle.ux_model.specs.Types.{Cred}
use Rattle.ux_model.specs.Control.{Item, rights_item, cred_item, payload, item_bytes, padding, IsItem, IsList, last, further, rights_first}
use Rattle.ux_model.specs.Control.{Spells}
use Rattle.ux_model.specs.Delivery.{rights_bytes, control_bytes}
use Rattle.ux_cmsg.specs.Items.{head_bytes}
use Rattle.ux_cmsg.proofs.Numbers.{length-numbers}
use Rattle.ux_cmsg.proofs.Written.{some_rights, control_spelled}
use Rattle.ux_syntax.specs.declared.control.ControlWord.{ControlWord}
use Rattle.ux_syntax.specs.Spelling.{padded, control_buffer, FitsControl, said_by}

length-rights : (ns : List ℕ) → length (item_bytes (rights_item ns)) ≡ 16 + 4 * length ns
length-rights ns = omega (
  arith,
  length-append (head_bytes (16 + length (payload (rights_item ns))) 1) (payload (rights_item ns)),
  length-numbers ns,
)

length-some : (n : ℕ) (ns : List ℕ) → length (rights_bytes (n ∷ ns)) ≡ 16 + 4 * length (n ∷ ns)
length-some n ns = ap (λ (b : List ℕ). length b) (some_rights n ns) ∙ length-rights (n ∷ ns)

-- written credentials first, or rights first
abbrev cred_first_bytes : Cred → List ℕ → List ℕ
cred_first_bytes c numbers = control_buffer (ControlWord.CredentialsFirst c numbers)

abbrev rights_first_bytes : List ℕ → Cred → List ℕ
rights_first_bytes numbers c = control_buffer (ControlWord.RightsFirst numbers c)

cred_first_room : (c : Cred) (n : ℕ) (ns : List ℕ) → length (cred_first_bytes c (n ∷ ns)) < 2 ^ 64 → 16 + 4 * length (n ∷ ns) < 2 ^ 64
cred_first_room c n ns short =
    let parts : cred_first_bytes c (n ∷ ns) ≡ item_bytes (cred_item c) ++ (0 ∷ 0 ∷ 0 ∷ 0 ∷ rights_bytes (n ∷ ns)) =
    rw (eqb-suc-zero (length ns)) refl in
    let long = ap (λ (b : List ℕ). length b) parts in
    omega (arith, short, long, length-append (item_bytes (cred_item c)) (0 ∷ 0 ∷ 0 ∷ 0 ∷ rights_bytes (n ∷ ns)), length-some n ns)

rights_first_room : (n : ℕ) (ns : List ℕ) (c : Cred) → length (rights_first_bytes (n ∷ ns) c) < 2 ^ 64 → 16 + 4 * length (n ∷ ns) < 2 ^ 64
rights_first_room n ns c short =
    let bytes = rights_bytes (n ∷ ns) in
    omega (
      arith,
      short,
      length-append (padded bytes) (control_bytes (Some c) []),
      length-append bytes (replicate ((8 - length bytes % 8) % 8) 0),
      length-some n ns,
    )

rights_first_spelled : (n : ℕ) (ns : List ℕ) (c : Cred) → IsItem (rights_item (n ∷ ns)) → IsItem (cred_item c) →
    Spells (rights_first_bytes (n ∷ ns) c) (record { cred = Some c; rights = n ∷ ns })
unfolding Spells
rights_first_spelled n ns c rights_fit cred_fits =
    let item : Item = rights_item (n ∷ ns) in
    let zeros : List ℕ = replicate (padding item) 0 in
    let behind : List ℕ = item_bytes (cred_item c) ++ [] in
    let bytes : rights_first_bytes (n ∷ ns) c ≡ item_bytes item ++ (zeros ++ behind) =
    ap (λ (b : List ℕ). padded b ++ behind) (some_rights n ns) ∙ append_assoc (item_bytes item) zeros behind in
    let list : IsList (item_bytes item ++ (zeros ++ behind)) (item ∷ cred_item c ∷ []) =
    further item zeros behind (cred_item c ∷ []) rights_fit (length-replicate (padding item) 0)
    (last (cred_item c) [] cred_fits (omega arith)) in
    (item ∷ cred_item c ∷ [], subst (λ (b : List ℕ). IsList b (item ∷ cred_item c ∷ [])) (sym bytes) list, rights_first c (n ∷ ns))

pub items_spelled : (word : ControlWord) → FitsControl word → length (control_buffer word) < 2 ^ 64 →
    IfSome (said_by word) (λ said. Spells (control_buffer word) said)
items_spelled ControlWord.Bare f short =
    control_spelled (record { cred = None; rights = [] }) None [] [] refl refl tt (omega arith, tt) refl
items_spelled (ControlWord.Raw bytes) f short = tt
items_spelled (ControlWord.Rights []) f short = absurd (omega (arith, f.0))
items_spelled (ControlWord.Rights (n ∷ ns)) f short =
    control_spelled (record { cred = None; rights = n ∷ ns }) None (n ∷ ns) _ refl refl tt (omega (arith, short, length-some n ns), f.1)
    refl
items_spelled (ControlWord.Credentials c) f short =
    control_spelled (record { cred = Some c; rights = [] }) (Some c) [] _ refl refl f (omega arith, tt) refl
items_spelled (ControlWord.CredentialsFirst c []) f short = let long = f.1.0 in absurd (omega (arith, long))
items_spelled (ControlWord.CredentialsFirst c (n ∷ ns)) f short =
    control_spelled (record { cred = Some c; rights = n ∷ ns }) (Some c) (n ∷ ns) _ refl refl f.0 (cred_first_room c n ns short, f.1.1) refl
items_spelled (ControlWord.RightsFirst [] c) f short = let long = f.0.0 in absurd (omega (arith, long))
items_spelled (ControlWord.RightsFirst (n ∷ ns) c) f short = rights_first_spelled n ns c (rights_first_room n ns c short, f.0.1) f.1
