-- Lists that grow by a row where there is one.
use Rattle.std.proofs.Common.{◌≡◌, ℕ, zero, suc, ◌+◌, List, [], ◌∷◌, ◌++◌, length, map, take, Option, Some, None, option_map, refl, ap, sym}
use Rattle.std.proofs.Common.{◌∙◌, arith}
use Rattle.std.specs.Prelude.{slice_get}
use Rattle.std.specs.List.{range_with_len, filter_map, cons_option}
use Rattle.std.specs.Option.{option_to_list}
use Rattle.std.proofs.lemmas.List.Elements.{filter_map-append}
use Rattle.ux_model.specs.Types.{Cred}
use Rattle.ux_model.specs.Message.{Message}
use Rattle.ux_model.specs.Description.{Target, to_object, to_socket, object_of, socket_of}
use Rattle.ux_holders.specs.Rows.{MessageRow}
use Rattle.ux_holders.specs.Listing.{message_row}

range_more : (a n j : ℕ) → a + n ≡ j → range_with_len a (suc n) ≡ range_with_len a n ++ j ∷ []
range_more a zero j e = let same : a ≡ j = omega (arith, e) in ap (λ k. k ∷ []) same
range_more a (suc n) j e = ap (λ ks. a ∷ ks) (range_more (a + 1) n j (omega (arith, e)))

only_one : {Y : Type 0} (o : Option Y) → cons_option o [] ≡ option_to_list o
only_one None = refl
only_one (Some y) = refl

-- one more number was looked at
pub next_row : {Y : Type 0} (h : ℕ → Option Y) (a n j : ℕ) (old new : List Y) →
    old ≡ filter_map h (range_with_len a n) → a + n ≡ j → new ≡ old ++ option_to_list (h j) → new ≡ filter_map h (range_with_len a (n + 1))
next_row h a n j old new so_far here is =
    let more : n + 1 ≡ suc n = omega arith in
    rw more (is ∙ ap (λ ys. ys ++ option_to_list (h j)) so_far ∙ ap (λ ys. filter_map h (range_with_len a n) ++ ys) (sym (only_one (h j)))
    ∙ sym (filter_map-append h (range_with_len a n) (j ∷ [])) ∙ sym (ap (filter_map h) (range_more a n j here)))

take_more : {X : Type 0} (n : ℕ) (xs : List X) → take (suc n) xs ≡ take n xs ++ option_to_list (slice_get xs n)
take_more zero [] = refl
take_more zero (x ∷ xs) = refl
take_more (suc n) [] = refl
take_more (suc n) (x ∷ xs) = ap (λ ys. x ∷ ys) (take_more n xs)

map_one : {X Y : Type 0} (f : X → Y) (xs : List X) (o : Option X) →
    map f xs ++ option_to_list (option_map f o) ≡ map f (xs ++ option_to_list o)
map_one f [] None = refl
map_one f [] (Some x) = refl
map_one f (x ∷ xs) o = ap (λ zs. f x ∷ zs) (map_one f xs o)

-- one more item was read
pub next_item : {X Y : Type 0} (f : X → Y) (n : ℕ) (xs : List X) (old new : List Y) →
    old ≡ map f (take n xs) → new ≡ old ++ option_to_list (option_map f (slice_get xs n)) → new ≡ map f (take (n + 1) xs)
next_item f n xs old new so_far is =
    let more : n + 1 ≡ suc n = omega arith in
    rw more (is ∙ ap (λ zs. zs ++ option_to_list (option_map f (slice_get xs n))) so_far ∙ map_one f (take n xs) (slice_get xs n)
    ∙ sym (ap (map f) (take_more n xs)))

pub next_same : {X : Type 0} (n : ℕ) (xs old new : List X) → old ≡ take n xs → new ≡ old ++ option_to_list (slice_get xs n) →
    new ≡ take (n + 1) xs
next_same n xs old new so_far is =
    let more : n + 1 ≡ suc n = omega arith in
    rw more (is ∙ ap (λ zs. zs ++ option_to_list (slice_get xs n)) so_far ∙ sym (take_more n xs))

-- ---- messages

pub found_message : (o : Option Message) (tag len : ℕ) (rights : List ℕ) (cred : Cred) → Some tag ≡ option_map (λ (m : Message). m.tag) o →
    Some len ≡ option_map (λ (m : Message). length m.bytes) o →
    Some rights ≡ option_map (λ (m : Message). m.rights) o → Some cred ≡ option_map (λ (m : Message). m.cred) o →
    Some (record { tag = tag; len = len; rights = rights; cred = cred }) ≡ option_map message_row o
found_message None tag len rights cred d e f g = absurd (cc d)
found_message (Some m) tag len rights cred d e f g = cc (d, e, f, g)

pub no_message : (o : Option Message) → None ≡ option_map (λ (m : Message). length m.bytes) o → None ≡ option_map message_row o
no_message None e = refl
no_message (Some m) e = absurd (cc e)

-- ---- what a description leads to

pub leads_somewhere : (t : Target) → object_of t ≡ None → socket_of t ≡ None → ⊥
leads_somewhere (to_object o) e f = cc e
leads_somewhere (to_socket s) e f = cc f
