-- What is written spells its Control.
use Rattle.std.proofs.Common.{◌≡◌, ℕ, ◌+◌, ◌*◌, ◌≤◌, take, List, [], ◌∷◌, ◌++◌, length, map, Option, Some, None, refl, sym, ap, subst, ◌∙◌}
use Rattle.std.proofs.Common.{append_assoc, arith}
use Rattle.std.specs.Prelude.{IfSome}
use Rattle.std.specs.List.{flat_map}
use Rattle.std.specs.Int.{w32, to_le_bytes}
use Rattle.std.proofs.Math.Dec.{eqb-suc-zero}
use Rattle.std.proofs.lemmas.List.{append-nil, take_all, length-map}
use Rattle.ux_model.specs.Types.{Cred, Fd}
use Rattle.ux_model.specs.Control.{Control, Item, rights_item, cred_item, item_bytes, IsItem, IsList, nothing, last, further, neither}
use Rattle.ux_model.specs.Control.{rights_alone, cred_alone, cred_first, Spells}
use Rattle.ux_model.specs.Delivery.{rights_bytes, control_bytes}
use Rattle.ux_cmsg.specs.Items.{head_bytes}
use Rattle.ux_cmsg.proofs.Numbers.{length-numbers}

pub three_appended : (out a x b y c z : List ℕ) → x ≡ out ++ a → y ≡ x ++ b → z ≡ y ++ c → z ≡ out ++ ((a ++ b) ++ c)
three_appended out a x b y c z first second third = rw (third, second, first) (simp append_assoc)

-- the numbers of all rights, behind their head
abbrev numbers_of : List Fd → List ℕ
numbers_of rights = map (λ fd. fd.0) rights

behind_head : (out numbers : List ℕ) (count : ℕ) → count ≡ length numbers →
    (out ++ head_bytes (16 + 4 * count) 1) ++ flat_map (to_le_bytes w32) numbers ≡ out ++ item_bytes (rights_item numbers)
behind_head out numbers count e =
    let len : 4 * count ≡ length (flat_map (to_le_bytes w32) numbers) = ap (λ (n : ℕ). 4 * n) e ∙ sym (length-numbers numbers) in
    append_assoc out (head_bytes (16 + 4 * count) 1) (flat_map (to_le_bytes w32) numbers)
    ∙ ap (λ (n : ℕ). out ++ (head_bytes (16 + n) 1 ++ flat_map (to_le_bytes w32) numbers)) len

pub all_written : (out written : List ℕ) (rights : List Fd) (n : ℕ) → length rights ≤ n
    → written ≡ (out ++ head_bytes (16 + 4 * length rights) 1) ++ flat_map (to_le_bytes w32) (map (λ fd. fd.0) (take n rights)) →
    written ≡ out ++ item_bytes (rights_item (map (λ fd. fd.0) rights))
all_written out written rights n all e =
    let whole : map (λ fd. fd.0) (take n rights) ≡ numbers_of rights = ap numbers_of (take_all n rights all) in
    e ∙ ap (λ (ns : List ℕ). (out ++ head_bytes (16 + 4 * length rights) 1) ++ flat_map (to_le_bytes w32) ns) whole
    ∙ behind_head out (numbers_of rights) (length rights) (sym (simp length-map))

-- an item alone, with no padding behind it
alone : (item : Item) → IsItem item → IsList (item_bytes item) (item ∷ [])
alone item fits = subst (λ (b : List ℕ). IsList b (item ∷ [])) (append-nil (item_bytes item)) (last item [] fits (omega arith))

pub some_rights : (n : ℕ) (ns : List ℕ) → rights_bytes (n ∷ ns) ≡ item_bytes (rights_item (n ∷ ns))
some_rights n ns = rw (eqb-suc-zero (length ns)) refl

cred_alone_bytes : (c : Cred) → control_bytes (Some c) [] ≡ item_bytes (cred_item c)
cred_alone_bytes c = append-nil (item_bytes (cred_item c))

cred_then_rights : (c : Cred) (n : ℕ) (ns : List ℕ) →
    control_bytes (Some c) (n ∷ ns) ≡ item_bytes (cred_item c) ++ ((0 ∷ 0 ∷ 0 ∷ 0 ∷ []) ++ item_bytes (rights_item (n ∷ ns)))
cred_then_rights c n ns = rw (eqb-suc-zero (length ns)) refl

spelled : (cred : Option Cred) (rights : List ℕ) → IfSome cred (λ c. IsItem (cred_item c)) → IsItem (rights_item rights) →
    Spells (control_bytes cred rights) (record { cred = cred; rights = rights })
unfolding Spells
spelled None [] cred_fits rights_fit = ([], nothing, neither)
spelled None (n ∷ ns) cred_fits rights_fit =
    let item : Item = rights_item (n ∷ ns) in
    (item ∷ [], subst (λ (b : List ℕ). IsList b (item ∷ [])) (sym (some_rights n ns)) (alone item rights_fit), rights_alone (n ∷ ns))
spelled (Some c) [] cred_fits rights_fit =
    let item : Item = cred_item c in
    (item ∷ [], subst (λ (b : List ℕ). IsList b (item ∷ [])) (sym (cred_alone_bytes c)) (alone item cred_fits), cred_alone c)
spelled (Some c) (n ∷ ns) cred_fits rights_fit =
    let item : Item = rights_item (n ∷ ns) in
    let list : IsList (item_bytes (cred_item c) ++ ((0 ∷ 0 ∷ 0 ∷ 0 ∷ []) ++ item_bytes item)) (cred_item c ∷ item ∷ []) =
    further (cred_item c) (0 ∷ 0 ∷ 0 ∷ 0 ∷ []) (item_bytes item) (item ∷ []) cred_fits refl (alone item rights_fit) in (
      cred_item c ∷ item ∷ [],
      subst (λ (b : List ℕ). IsList b (cred_item c ∷ item ∷ [])) (sym (cred_then_rights c n ns)) list,
      cred_first c (n ∷ ns),
    )

pub control_spelled : (control : Control) (cred : Option Cred) (rights bytes : List ℕ) → cred ≡ control.cred → rights ≡ control.rights →
    IfSome cred (λ c. IsItem (cred_item c)) → IsItem (rights_item rights)
    → bytes ≡ control_bytes cred rights → Spells bytes control
control_spelled control cred rights bytes cred_is rights_are cred_fits rights_fit written =
    let made : Control = record { cred = cred; rights = rights } in
    let same : made ≡ control = λ i. record { cred = cred_is i; rights = rights_are i } in
    subst (λ (c : Control). Spells bytes c) same
    (subst (λ (b : List ℕ). Spells b made) (sym written) (spelled cred rights cred_fits rights_fit))
