-- Lists of items, from their first item on.
use Rattle.std.proofs.Common.{◌≡◌, ℕ, List, [], ◌∷◌, ◌++◌, length, take, drop, Option, Some, refl, sym, ap, subst, ◌∙◌, arith, inl, inr}
use Rattle.std.proofs.lemmas.Bool.{cases_lt}
use Rattle.std.proofs.lemmas.List.{take-append-drop, length-take, drop_all, drop_at, append_cancel_left}
use Rattle.ux_model.specs.Control.{Item, item_bytes, padding, IsItem, IsList, nothing, last, further}
use Rattle.ux_model.specs.ControlReading.{item_at}
use Rattle.ux_cmsg.proofs.OneItem.{eq_some, item_again}

nothing_begins : (item : Item) (behind : List ℕ) → item_bytes item ++ behind ≡ [] → ⊥
nothing_begins item behind e = absurd cc

no_items : {bytes : List ℕ} {items : List Item} → IsList bytes items → bytes ≡ [] → items ≡ []
no_items nothing e = refl
no_items (last item pad fits short) e = absurd (nothing_begins item pad e)
no_items (further item pad rest items fits full list) e = absurd (nothing_begins item (pad ++ rest) e)

-- what stands at the front is one item, and what stands behind it
read_alike : (i j : Item) (x y : List ℕ) → ◌≡◌ {A = Option (Item × List ℕ)} (Some (i, x)) (Some (j, y)) → i ≡ j
read_alike i j x y e = ap (λ (p : Item × List ℕ). p.0) (eq_some (i, x) (j, y) e)

pub item_front : (i j : Item) (xs ys : List ℕ) → IsItem i → IsItem j → item_bytes i ++ xs ≡ item_bytes j ++ ys → (i ≡ j) × (xs ≡ ys)
item_front i j xs ys p q e =
    let same : i ≡ j = read_alike i j (drop (padding i) xs) (drop (padding j) ys)
    (sym (item_again i xs p) ∙ ap item_at e ∙ item_again j ys q) in
    (same, append_cancel_left (item_bytes j) xs ys (ap (λ (k : Item). item_bytes k ++ xs) (sym same) ∙ e))

-- an item before a list
pub list_from_front : (item : Item) (behind : List ℕ) (others : List Item) → IsItem item → IsList (drop (padding item) behind) others →
    IsList (item_bytes item ++ behind) (item ∷ others)
list_from_front item behind others fits list = elim (cases_lt (padding item) (length behind)) [
  | inl more ↦
      let pad : List ℕ = take (padding item) behind in
      let full : length pad ≡ padding item = omega (arith, length-take (padding item) behind) in
      subst (λ (b : List ℕ). IsList (item_bytes item ++ b) (item ∷ others)) (take-append-drop (padding item) behind)
      (further item pad (drop (padding item) behind) others fits full list)
  | inr short ↦
      let none : others ≡ [] = no_items list (drop_all (padding item) behind short) in
      subst (λ (os : List Item). IsList (item_bytes item ++ behind) (item ∷ os)) (sym none) (last item behind fits short)
]

-- a list whose first item is known
pub record BeginsWith (item : Item) (behind : List ℕ) (items : List Item) : Type 0 where
  pub others : List Item
  pub items_are : items ≡ item ∷ others
  pub list : IsList (drop (padding item) behind) others

front_at : (item : Item) (behind bytes : List ℕ) (items : List Item) → IsItem item → IsList bytes items →
    bytes ≡ item_bytes item ++ behind → BeginsWith item behind items
front_at item behind [] [] fits nothing e = absurd (nothing_begins item behind (sym e))
front_at item behind bytes items fits (last other pad fits' short) e =
    let found = item_front other item pad behind fits' fits e in
    let size : length pad ≡ length behind = ap length found.1 in
    let same : padding other ≡ padding item = ap padding found.0 in
    record {
      others = [];
      items_are = ap (λ (i : Item). i ∷ []) found.0;
      list = subst (λ (b : List ℕ). IsList b []) (sym (drop_all (padding item) behind (omega (arith, size, same, short)))) nothing;
    }
front_at item behind bytes items fits (further other pad rest others fits' full list) e =
    let found = item_front other item (pad ++ rest) behind fits' fits e in
    let same : padding other ≡ padding item = ap padding found.0 in
    let left : drop (padding item) behind ≡ rest = ap (drop (padding item)) (sym found.1) ∙ drop_at pad rest (padding item) (full ∙ same) in
    record {
      others = others;
      items_are = ap (λ (i : Item). i ∷ others) found.0;
      list = subst (λ (b : List ℕ). IsList b others) (sym left) list;
    }

pub front_of_list : (item : Item) (behind : List ℕ) (items : List Item) → IsItem item → IsList (item_bytes item ++ behind) items →
    BeginsWith item behind items
front_of_list item behind items fits list = front_at item behind (item_bytes item ++ behind) items fits list refl

-- a buffer is one list of items alone
same_list : {bytes other : List ℕ} {items others : List Item} → IsList bytes items → IsList other others → other ≡ bytes → items ≡ others
same_list nothing list e = sym (no_items list e)
same_list {others = others} (last item pad fits short) list e =
    let found : BeginsWith item pad others = front_at item pad _ others fits list e in
    let none : found.others ≡ [] = no_items found.list (drop_all (padding item) pad short) in
    ap (λ (is : List Item). item ∷ is) (sym none) ∙ sym found.items_are
same_list {others = others} (further item pad rest items fits full list) other_list e =
    let found : BeginsWith item (pad ++ rest) others = front_at item (pad ++ rest) _ others fits other_list e in
    let tail : items ≡ found.others = same_list list found.list (drop_at pad rest (padding item) full) in
    ap (λ (is : List Item). item ∷ is) tail ∙ sym found.items_are

pub one_list : (bytes : List ℕ) (items others : List Item) → IsList bytes items → IsList bytes others → items ≡ others
one_list bytes items others p q = same_list p q refl
