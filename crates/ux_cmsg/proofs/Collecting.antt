-- What was read of a buffer, item by item, and what that says of the whole.
use Rattle.std.proofs.Common.{◌≡◌, ℕ, zero, suc, ◌≤◌, ◌+◌, ◌-◌, ◌<◌, List, [], ◌∷◌, ◌++◌, length, Option, Some, None, refl, sym, ap, subst}
use Rattle.std.proofs.Common.{◌∙◌, append_assoc, arith}
use Rattle.std.specs.Prelude.{◌↔◌, option_map}
use Rattle.std.proofs.lemmas.List.{append-nil, length-append, length-drop}
use Rattle.ux_model.specs.Control.{Control, Item, rights_item, cred_item, item_bytes, padding, IsList, nothing, last, further, MakeUp}
use Rattle.ux_model.specs.Control.{neither, rights_alone, cred_alone, cred_first, rights_first, Spells, ReadsAs, ReadsOnce}
use Rattle.ux_model.specs.ControlReading.{◌>>=◌, item_at, Found, nothing_found, with_item, with_items, control_of, control_in}
use Rattle.ux_model.specs.ControlReading.{ReadsByGrammar}
use Rattle.ux_cmsg.proofs.Numbers.{IsBytes, bytes_below}
use Rattle.ux_cmsg.proofs.OneItem.{eq_some, TakesItem, item_takes, item_again}
use Rattle.ux_cmsg.proofs.ItemLists.{BeginsWith, list_from_front, front_of_list, one_list}

-- ---- what a list of items says

-- what was found with these items more, if no type stands twice
pub collect : Found → List Item → Option Found
collect found [] = Some found
collect found (item ∷ items) = with_item found item >>= λ more. collect more items

bind_alike : (r : Option Found) (f g h : Found → Option Found) → ((x : Found) → f x ≡ (g x >>= h)) → (r >>= f) ≡ ((r >>= g) >>= h)
bind_alike (Some x) f g h same = same x
bind_alike None f g h same = refl

collect-append : (found : Found) (items more : List Item) → collect found (items ++ more) ≡ (collect found items >>= λ x. collect x more)
unfolding collect
collect-append found [] more = refl
collect-append found (item ∷ items) more =
    bind_alike (with_item found item) (λ x. collect x (items ++ more)) (λ x. collect x items) (λ x. collect x more)
    (λ x. collect-append x items more)

abbrev pub all_of : List Item → Option Found
all_of items = collect nothing_found items

abbrev Collects : List Item → Control → Type 0
Collects items control = (found : Found) × (all_of items ≡ Some found) × (control_of found ≡ control)

collected : {items : List Item} {control : Control} → MakeUp items control → Collects items control
unfolding collect
collected neither = (nothing_found, refl, refl)
collected (rights_alone ns) = (record { cred = None; rights = Some ns }, refl, refl)
collected (cred_alone c) = (record { cred = Some c; rights = None }, refl, refl)
collected (cred_first c ns) = (record { cred = Some c; rights = Some ns }, refl, refl)
collected (rights_first c ns) = (record { cred = Some c; rights = Some ns }, refl, refl)

gives_found : (items : List Item) (made found : Found) → MakeUp items (control_of made) → ◌≡◌ {A = Option Found} (Some made) (Some found) →
    MakeUp items (control_of found)
gives_found items made found gives e = subst (λ (f : Found). MakeUp items (control_of f)) (eq_some made found e) gives

gives : (items : List Item) (found : Found) → all_of items ≡ Some found → MakeUp items (control_of found)
unfolding collect
gives [] found e = gives_found [] nothing_found found neither e
gives (rights_item ns ∷ []) found e = gives_found (rights_item ns ∷ []) (record { cred = None; rights = Some ns }) found (rights_alone ns) e
gives (cred_item c ∷ []) found e = gives_found (cred_item c ∷ []) (record { cred = Some c; rights = None }) found (cred_alone c) e
gives (rights_item ns ∷ cred_item c ∷ []) found e =
    gives_found (rights_item ns ∷ cred_item c ∷ []) (record { cred = Some c; rights = Some ns }) found (rights_first c ns) e
gives (cred_item c ∷ rights_item ns ∷ []) found e =
    gives_found (cred_item c ∷ rights_item ns ∷ []) (record { cred = Some c; rights = Some ns }) found (cred_first c ns) e
gives (rights_item ns ∷ rights_item ms ∷ items) found e = absurd cc
gives (cred_item c ∷ cred_item d ∷ items) found e = absurd cc
gives (rights_item ns ∷ cred_item c ∷ rights_item ms ∷ items) found e = absurd cc
gives (rights_item ns ∷ cred_item c ∷ cred_item d ∷ items) found e = absurd cc
gives (cred_item c ∷ rights_item ns ∷ rights_item ms ∷ items) found e = absurd cc
gives (cred_item c ∷ rights_item ns ∷ cred_item d ∷ items) found e = absurd cc

-- ---- a buffer that was read up to a rest

pub record IsReadTo (bytes : List ℕ) (found : Found) (rest : List ℕ) : Type 0 where
  -- the items so far
  pub items : List Item
  pub collects : all_of items ≡ Some found
  pub together : (others : List Item) → IsList rest others → IsList bytes (items ++ others)
  pub apart : (all : List Item) → IsList bytes all → (others : List Item) × (all ≡ items ++ others) × IsList rest others
  pub fits : IsBytes rest

pub read_none : (bytes : List ℕ) → IsBytes bytes → IsReadTo bytes nothing_found bytes
unfolding collect
read_none bytes fits = record {
  items = [];
  collects = refl;
  together = λ others list. list;
  apart = λ all list. (all, refl, list);
  fits = fits;
}

push_assoc : (items : List Item) (item : Item) (others : List Item) → items ++ item ∷ others ≡ (items ++ item ∷ []) ++ others
push_assoc items item others = sym (append_assoc items (item ∷ []) others)

collects_more : (items : List Item) (found more : Found) (item : Item) → all_of items ≡ Some found → with_item found item ≡ Some more →
    all_of (items ++ item ∷ []) ≡ Some more
unfolding collect
collects_more items found more item e step = collect-append nothing_found items (item ∷ []) ∙ rw (e, step) refl

pub read_more : (bytes rest behind : List ℕ) (found more : Found) (item : Item) → IsReadTo bytes found rest →
    item_at rest ≡ Some (item, behind) → with_item found item ≡ Some more → IsReadTo bytes more behind
read_more bytes rest behind found more item so_far here step =
    let t : TakesItem rest item behind = item_takes rest (item, behind) so_far.fits here in
    record {
      items = so_far.items ++ item ∷ [];
      collects = collects_more so_far.items found more item so_far.collects step;
      together = λ others list.
          let front : IsList (item_bytes item ++ t.behind) (item ∷ others) =
          list_from_front item t.behind others t.fits (subst (λ (b : List ℕ). IsList b others) t.rest_is list) in
          let whole : IsList rest (item ∷ others) = subst (λ (b : List ℕ). IsList b (item ∷ others)) (sym t.parts) front in
          subst (λ (is : List Item). IsList bytes is) (push_assoc so_far.items item others) (so_far.together (item ∷ others) whole);
      apart = λ all list.
          let split = so_far.apart all list in
          let front : IsList (item_bytes item ++ t.behind) split.0 = subst (λ (b : List ℕ). IsList b split.0) t.parts split.2 in
          let b : BeginsWith item t.behind split.0 = front_of_list item t.behind split.0 t.fits front in (
            b.others,
            split.1 ∙ ap (λ (is : List Item). so_far.items ++ is) b.items_are
                ∙ push_assoc so_far.items item b.others,
            subst (λ (r : List ℕ). IsList r b.others) (sym t.rest_is) b.list,
          );
      fits = t.rest_fits;
    }

pub read_all : (bytes rest : List ℕ) (found : Found) → IsReadTo bytes found rest → rest ≡ [] → ReadsAs bytes (Some (control_of found))
unfolding Spells ReadsAs
read_all bytes rest found so_far e =
    let all : IsReadTo bytes found [] = subst (λ (r : List ℕ). IsReadTo bytes found r) e so_far in (
      all.items,
      subst (λ (is : List Item). IsList bytes is) (append-nil all.items) (all.together [] nothing),
      gives all.items found all.collects,
    )

none_after : (items : List Item) (found : Found) (item : Item) (others : List Item) → all_of items ≡ Some found →
    with_item found item ≡ None → all_of (items ++ item ∷ others) ≡ None
unfolding collect
none_after items found item others e step = collect-append nothing_found items (item ∷ others) ∙ rw (e, step) refl

pub read_twice : (bytes rest behind : List ℕ) (found : Found) (item : Item) → IsReadTo bytes found rest →
    item_at rest ≡ Some (item, behind) → with_item found item ≡ None → ReadsAs bytes None
unfolding Spells ReadsAs
read_twice bytes rest behind found item so_far here step control spelled =
    let t : TakesItem rest item behind = item_takes rest (item, behind) so_far.fits here in
    let split = so_far.apart spelled.0 spelled.1 in
    let front : IsList (item_bytes item ++ t.behind) split.0 = subst (λ (b : List ℕ). IsList b split.0) t.parts split.2 in
    let b : BeginsWith item t.behind split.0 = front_of_list item t.behind split.0 t.fits front in
    let all : spelled.0 ≡ so_far.items ++ item ∷ b.others = split.1 ∙ ap (λ (is : List Item). so_far.items ++ is) b.items_are in
    let found_all = collected spelled.2 in
    let none : all_of spelled.0 ≡ None = ap all_of all ∙ none_after so_far.items found item b.others so_far.collects step in
    absurd (cc (sym none ∙ found_all.1))

no_item_here : {rest : List ℕ} {others : List Item} → IsList rest others → 0 < length rest → item_at rest ≡ None → ⊥
no_item_here nothing filled here = absurd (omega (arith, filled))
no_item_here (last item pad fits short) filled here = absurd (cc (sym here ∙ item_again item pad fits))
no_item_here (further item pad rest items fits full list) filled here = absurd (cc (sym here ∙ item_again item (pad ++ rest) fits))

pub read_stuck : (bytes rest : List ℕ) (found : Found) → IsReadTo bytes found rest → 0 < length rest → item_at rest ≡ None →
    ReadsAs bytes None
unfolding Spells ReadsAs
read_stuck bytes rest found so_far filled here control spelled =
    let split = so_far.apart spelled.0 spelled.1 in
    no_item_here split.2 filled here

-- less is left
pub less_left : (bytes rest behind : List ℕ) (found : Found) (item : Item) → IsReadTo bytes found rest →
    item_at rest ≡ Some (item, behind) → length behind < length rest
less_left bytes rest behind found item so_far here =
    let t : TakesItem rest item behind = item_takes rest (item, behind) so_far.fits here in
    let whole : length rest ≡ length (item_bytes item) + length t.behind = ap length t.parts ∙ length-append (item_bytes item) t.behind in
    let left : length behind ≡ length t.behind - padding item = ap length t.rest_is ∙ length-drop (padding item) t.behind in
    omega (arith, whole, left)

-- ---- a buffer spells one Control at most

same_control : (f g : Found) (a b : Control) → ◌≡◌ {A = Option Found} (Some f) (Some g) → control_of f ≡ a → control_of g ≡ b → a ≡ b
same_control f g a b e p q = sym p ∙ ap control_of (eq_some f g e) ∙ q

pub spells_once : (bytes : List ℕ) (a b : Control) → Spells bytes a → Spells bytes b → a ≡ b
unfolding Spells
spells_once bytes a b p q =
    let x = collected p.2 in
    let y = collected q.2 in
    same_control x.0 y.0 a b (sym x.1 ∙ ap all_of (one_list bytes p.0 q.0 p.1 q.1) ∙ y.1) x.2 y.2

-- nor both something and nothing
reads_both : (bytes : List ℕ) (control : Control) → ReadsAs bytes (Some control) → ReadsAs bytes None → ⊥
unfolding ReadsAs
reads_both bytes control spelled none = none control spelled

pub reads_once : ReadsOnce
unfolding ReadsAs
reads_once bytes None None p q = refl
reads_once bytes None (Some b) p q = absurd (p b q)
reads_once bytes (Some a) None p q = absurd (q a p)
reads_once bytes (Some a) (Some b) p q = ap Some (spells_once bytes a b p q)

-- ---- from left to right

-- what the rest says, and with what was found before the whole
rest_read : (n : ℕ) (bytes rest : List ℕ) (found : Found) → length rest ≤ n → IsReadTo bytes found rest →
    ReadsAs bytes (option_map control_of (with_items n found rest))
unfolding with_items
rest_read n bytes [] found short so_far = read_all bytes [] found so_far refl
rest_read zero bytes (b ∷ rest) found short so_far = absurd (omega (arith, short))
rest_read (suc n) bytes (b ∷ rest) found short so_far =
    first (λ more behind less t. rest_read n bytes behind more less t) (item_at (b ∷ rest)) refl
  where
    Later : Type 0
    Later = (more : Found) (behind : List ℕ) → length behind ≤ n → IsReadTo bytes more behind →
        ReadsAs bytes (option_map control_of (with_items n more behind))

    second : Later → (item : Item) (behind : List ℕ) → item_at (b ∷ rest) ≡ Some (item, behind) → (o : Option Found) →
        with_item found item ≡ o →
        ReadsAs bytes (option_map control_of (o >>= λ more. with_items n more behind))
    second later item behind here None step = read_twice bytes (b ∷ rest) behind found item so_far here step
    second later item behind here (Some more) step =
        let less = less_left bytes (b ∷ rest) behind found item so_far here in
        later more behind (omega (arith, less, short)) (read_more bytes (b ∷ rest) behind found more item so_far here step)

    first : Later → (o : Option (Item × List ℕ)) → item_at (b ∷ rest) ≡ o →
        ReadsAs bytes (option_map control_of (o >>= λ item. with_item found item.0 >>= λ more. with_items n more item.1))
    first later None here = read_stuck bytes (b ∷ rest) found so_far (omega arith) here
    first later (Some (item, behind)) here = second later item behind here (with_item found item) refl

in_bytes : (bytes : List ℕ) → IsBytes bytes → ReadsAs bytes (control_in bytes)
unfolding control_in
in_bytes bytes fits = rest_read (length bytes) bytes bytes nothing_found (omega arith) (read_none bytes fits)

pub reads_by_grammar : ReadsByGrammar
reads_by_grammar bytes fits = in_bytes bytes (bytes_below bytes fits)

-- so what the grammar says is what is read
pub read_is : (bytes : List ℕ) (r : Option Control) → IsBytes bytes → ReadsAs bytes r → control_in bytes ≡ r
read_is bytes r fits reads = reads_once bytes (control_in bytes) r (in_bytes bytes fits) reads

-- what is read is spelled
pub read_spells : (bytes : List ℕ) (control : Control) → IsBytes bytes → control_in bytes ≡ Some control → Spells bytes control
unfolding ReadsAs
read_spells bytes control fits reads = subst (ReadsAs bytes) reads (in_bytes bytes fits)

-- So an answer is the error exactly where nothing is spelled: where nothing is read it is, and where something is it isn't.
pub where_none : {R : Type 0} {result error : R} (bytes : List ℕ) → IsBytes bytes → control_in bytes ≡ None → result ≡ error →
    (result ≡ error) ↔ ((control : Control) → ¬ (Spells bytes control))
unfolding ReadsAs
where_none bytes fits reads is = (λ e. subst (ReadsAs bytes) reads (in_bytes bytes fits), λ none. is)

pub where_some : {R : Type 0} {result error : R} (bytes : List ℕ) (control : Control) → IsBytes bytes → control_in bytes ≡ Some control →
    (result ≡ error → ⊥) →
    (result ≡ error) ↔ ((other : Control) → ¬ (Spells bytes other))
where_some bytes control fits reads differs =
    (λ e. absurd (differs e), λ none. absurd (none control (read_spells bytes control fits reads)))

-- where there are rights to read, there are bytes
pub has_bytes : (bytes : List ℕ) (control : Control) → control_in bytes ≡ Some control → ¬ (control.rights ≡ []) → 0 < length bytes
unfolding control_in with_items
has_bytes [] control reads some = let same : record { cred = None; rights = [] } ≡ control = cc reads in
    absurd (some (ap (λ (c : Control). c.rights) (sym same)))
has_bytes (b ∷ bytes) control reads some = omega arith
