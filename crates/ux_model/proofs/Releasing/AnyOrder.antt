-- In whatever order and in whatever lots unreferenced descriptions are dropped, the same state is left.
use Rattle.std.specs.Prelude.{◌≡◌, ℕ, zero, suc, ◌+◌, ◌≤◌, Bool, true, false, ◌||◌, ◌==◌, if◌then◌else◌, List, [], ◌∷◌, length, map, filter}
use Rattle.std.specs.Prelude.{fold, Option, Some, None, is_some, option_map, refl}
use Rattle.std.specs.List.{enumerate_from, list_any}
use Rattle.std.proofs.Common.{sym, ◌∙◌, ap, subst, arith}
use Rattle.std.proofs.lemmas.Bool.{eqb-true, eq-eqb, and_parts, and_from, and_left, or_parts}
use mathlib.Core.Bool.{or-false}
use Rattle.ux_model.specs.Places.{place}
use Rattle.ux_model.specs.Socket.{Phase, idle, listening, connected, associated}
use Rattle.ux_model.specs.Description.{Description, Target, to_object, to_socket}
use Rattle.ux_model.specs.State.{State, description_at}
use Rattle.ux_model.specs.References.{target_refs, description_refs, refs}
use Rattle.ux_model.specs.Release.{place_after_loss, without, is_unreferenced, has_unreferenced, drop_all, drop_rounds, drop_unreferenced}
use Rattle.ux_model.specs.Release.{Drops, none, another, EndsAlike}
use Rattle.ux_model.proofs.Releasing.Losses.{target_after_loss, description_after_loss, is_reset_by_loss}
use Rattle.ux_model.proofs.Releasing.ReleaseLaws.{description_at-without, either, without-without}

-- ---- what is left has no more references

fold_le : {X Y : Type 0} (f : Y → ℕ) (g h : X → Y) → ((x : X) → f (g x) ≤ f (h x)) → (xs : List X) (a b : ℕ) → a ≤ b →
    fold (λ n y. n + f y) a (map g xs) ≤ fold (λ n y. n + f y) b (map h xs)
fold_le f g h below [] a b e = e
fold_le f g h below (x ∷ xs) a b e = fold_le f g h below xs (a + f (g x)) (b + f (h x))
    (let p : f (g x) ≤ f (h x) = below x in omega (arith, p, e))

target_refs-after_loss : (d : ℕ) (G : ℕ → Bool) (S : State) (t : Target) → target_refs d (target_after_loss G S t) ≡ target_refs d t
target_refs-after_loss d G S (to_object o) = refl
target_refs-after_loss d G S (to_socket s) = refl

refs_at : (d : ℕ) (G K : ℕ → Bool) (S : State) (b c : Bool) (D : Option Description) → (b ≡ true → c ≡ true) →
    description_refs d (if c then None else option_map (description_after_loss K S) D) ≤ description_refs d
    (if b then None else option_map (description_after_loss G S) D)
refs_at d G K S b true D more = omega arith
refs_at d G K S true false D more = absurd (cc (more refl))
refs_at d G K S false false None more = omega arith
refs_at d G K S false false (Some D) more =
    let p : target_refs d (target_after_loss G S D.target) ≡ target_refs d D.target = target_refs-after_loss d G S D.target in
    let q : target_refs d (target_after_loss K S D.target) ≡ target_refs d D.target = target_refs-after_loss d K S D.target in
    omega (arith, p, q)

pub refs-without_more : (d : ℕ) (G K : ℕ → Bool) (S : State) → ((i : ℕ) → G i ≡ true → K i ≡ true) →
    refs (without K S) d ≤ refs (without G S) d
unfolding refs without
refs-without_more d G K S more =
    let p = fold_le (description_refs d) (place_after_loss K S) (place_after_loss G S)
    (λ e. refs_at d G K S (G e.0) (K e.0) e.1 (more e.0)) (enumerate_from 0 S.descriptions) 0 0 (omega arith) in
    omega (arith, p)

-- ---- one description

bool_cases : {P : Type 0} (b : Bool) → (b ≡ true → P) → (b ≡ false → P) → P
bool_cases true on off = on refl
bool_cases false on off = off refl

-- what stands in S without G stands in S without K, if K leaves it
stands_still : (G K : ℕ → Bool) (S : State) (b c : Bool) (D : Option Description) →
    is_some (if b then None else option_map (description_after_loss G S) D) ≡ true → c ≡ false →
    is_some (if c then None else option_map (description_after_loss K S) D) ≡ true
stands_still G K S true c D some left = absurd (cc some)
stands_still G K S false true D some left = absurd (cc left)
stands_still G K S false false None some left = some
stands_still G K S false false (Some D) some left = refl

-- nothing in S without K is unreferenced
abbrev IsSettled : (ℕ → Bool) → State → Type 0
IsSettled K S = (d : ℕ) → is_unreferenced (without K S) d ≡ false

-- what nothing names without G goes with every K that takes all of G, and leaves nothing unreferenced
goes_too : (G K : ℕ → Bool) (S : State) (d : ℕ) → ((i : ℕ) → G i ≡ true → K i ≡ true) → IsSettled K S →
    is_unreferenced (without G S) d ≡ true → K d ≡ true
goes_too G K S d more over unreferenced = bool_cases (K d) (λ gone. gone) (λ left.
    let some : is_some (description_at (without G S) d) ≡ true = (and_parts _ _ unreferenced).0 in
    let zero_left : refs (without G S) d ≡ 0 = eqb-true _ _ (and_parts (is_some (description_at (without G S) d)) _ unreferenced).1 in
    let fewer : refs (without K S) d ≤ refs (without G S) d = refs-without_more d G K S more in
    let none_left : refs (without K S) d ≡ 0 = omega (arith, zero_left, fewer) in
    let some_at : is_some (place_after_loss G S (d, description_at S d)) ≡ true = ap is_some (sym (description_at-without G S d)) ∙ some in
    let still : is_some (description_at (without K S) d) ≡ true =
    ap is_some (description_at-without K S d) ∙ stands_still G K S (G d) (K d) (description_at S d) some_at left in
    let again : is_unreferenced (without K S) d ≡ true = and_from _ _ still (eq-eqb _ _ none_left) in
    absurd (cc (again, over d)))

-- ---- lots

-- What can be gone from S: nothing, or first some and then any lot that nothing names any more.
pub data CanGo (S : State) : (ℕ → Bool) → Type 0 where
  nothing : CanGo S (λ d. false)
  lot : {G : ℕ → Bool} (H : ℕ → Bool) → CanGo S G → ((d : ℕ) → H d ≡ true → is_unreferenced (without G S) d ≡ true) → CanGo S (either G H)

or_cases : {P : Type 0} (a b : Bool) → a || b ≡ true → (a ≡ true → P) → (b ≡ true → P) → P
or_cases true b e left right = left refl
or_cases false b e left right = right e

goes_at_last : (S : State) (K : ℕ → Bool) → IsSettled K S → {G : ℕ → Bool} → CanGo S G → (d : ℕ) → G d ≡ true → K d ≡ true
goes_at_last S K over nothing d e = absurd (cc e)
goes_at_last S K over (lot {G} H can unreferenced) d e = or_cases (G d) (H d) e
    (goes_at_last S K over can d)
    (λ h. goes_too G K S d (goes_at_last S K over can) over (unreferenced d h))

same_bool : (a b : Bool) → (a ≡ true → b ≡ true) → (b ≡ true → a ≡ true) → a ≡ b
same_bool true b p q = sym (p refl)
same_bool false true p q = q refl
same_bool false false p q = refl

-- where nothing is left that could go, the same has gone, and the same is left
pub same_end : (S : State) (G K : ℕ → Bool) → CanGo S G → CanGo S K → IsSettled G S → IsSettled K S → without G S ≡ without K S
same_end S G K g k g_settled k_settled =
    λ j. without (λ d. same_bool (G d) (K d) (goes_at_last S K k_settled g d) (goes_at_last S G g_settled k d) j) S

-- ---- the rounds come to such an end

abbrev pub live_in : {X : Type 0} → List (Option X) → ℕ
live_in [] = 0
live_in (None ∷ xs) = live_in xs
live_in (Some x ∷ xs) = suc (live_in xs)

live_in_le : {X : Type 0} (xs : List (Option X)) → live_in xs ≤ length xs
live_in_le [] = omega arith
live_in_le (None ∷ xs) = let e : live_in xs ≤ length xs = live_in_le xs in omega (arith, e)
live_in_le (Some x ∷ xs) = let e : live_in xs ≤ length xs = live_in_le xs in omega (arith, e)

none_live : {X : Type 0} (xs : List (Option X)) (d : ℕ) → live_in xs ≤ 0 → is_some (place xs d) ≡ false
none_live [] d e = refl
none_live (None ∷ xs) zero e = refl
none_live (None ∷ xs) (suc d) e = none_live xs d e
none_live (Some x ∷ xs) d e = absurd (omega (arith, e))

le_step : {X : Type 0} (f : X → X) (b : Bool) (x : Option X) (ys xs : List (Option X)) → live_in ys ≤ live_in xs →
    live_in ((if b then None else option_map f x) ∷ ys) ≤ live_in (x ∷ xs)
le_step f true None ys xs e = e
le_step f true (Some x) ys xs e = omega (arith, e)
le_step f false None ys xs e = e
le_step f false (Some x) ys xs e = omega (arith, e)

lt_step : {X : Type 0} (f : X → X) (b : Bool) (x : Option X) (ys xs : List (Option X)) → (b ≡ true → is_some x ≡ true) →
    live_in ys ≤ live_in xs →
    (b ≡ false → suc (live_in ys) ≤ live_in xs) → suc (live_in ((if b then None else option_map f x) ∷ ys)) ≤ live_in (x ∷ xs)
lt_step f true None ys xs some le lt = absurd (cc (some refl))
lt_step f true (Some x) ys xs some le lt = omega (arith, le)
lt_step f false None ys xs some le lt = lt refl
lt_step f false (Some x) ys xs some le lt = let e : suc (live_in ys) ≤ live_in xs = lt refl in omega (arith, e)

no_more_live : (U : ℕ → Bool) (T : State) (k : ℕ) (xs : List (Option Description)) →
    live_in (map (place_after_loss U T) (enumerate_from k xs)) ≤ live_in xs
no_more_live U T k [] = omega arith
no_more_live U T k (x ∷ xs) = le_step (description_after_loss U T) (U k) x (map (place_after_loss U T) (enumerate_from (k + 1) xs)) xs
    (no_more_live U T (k + 1) xs)

pub fewer_live : (U : ℕ → Bool) (T : State) (k : ℕ) (xs : List (Option Description)) →
    ((d : ℕ) → U (k + d) ≡ true → is_some (place xs d) ≡ true) →
    list_any (λ e. U e.0) (enumerate_from k xs) ≡ true → suc (live_in (map (place_after_loss U T) (enumerate_from k xs))) ≤ live_in xs
fewer_live U T k [] there found = absurd (cc found)
fewer_live U T k (x ∷ xs) there found =
    let e : k ≡ k + 0 = omega arith in
    lt_step (description_after_loss U T) (U k) x (map (place_after_loss U T) (enumerate_from (k + 1) xs)) xs
    (λ h. there 0 (ap U (sym e) ∙ h))
    (no_more_live U T (k + 1) xs)
    (λ h. fewer_live U T (k + 1) xs (λ d g. let e' : k + suc d ≡ (k + 1) + d = omega arith in there (suc d) (ap U e' ∙ g))
    (or_cases (U k) (list_any (λ e. U e.0) (enumerate_from (k + 1) xs)) found (λ u. absurd (cc (u, h))) (λ rest. rest)))

pub nothing_found : {X : Type 0} (U : ℕ → Bool) (k d : ℕ) (xs : List (Option X)) → list_any (λ e. U e.0) (enumerate_from k xs) ≡ false →
    is_some (place xs d) ≡ true → U (k + d) ≡ false
nothing_found U k d [] found some = absurd (cc some)
nothing_found U k zero (x ∷ xs) found some = let e : k + 0 ≡ k = omega arith in ap U e ∙ (or_parts (U k) _ found).0
nothing_found U k (suc d) (x ∷ xs) found some =
    let e : k + suc d ≡ (k + 1) + d = omega arith in ap U e ∙ nothing_found U (k + 1) d xs (or_parts (U k) _ found).1 some

pub settled_of_none : (T : State) → has_unreferenced T ≡ false → (d : ℕ) → is_unreferenced T d ≡ false
settled_of_none T found d = bool_cases (is_some (description_at T d))
    (λ some. let e : 0 + d ≡ d = omega arith in
    ap (is_unreferenced T) (sym e) ∙ nothing_found (is_unreferenced T) 0 d T.descriptions found some)
    (λ gone. and_left _ _ gone)

-- an end: what has gone, by lots, and that nothing unreferenced is left
abbrev pub End : State → State → Type 0
End S T = (G : ℕ → Bool) × CanGo S G × (T ≡ without G S) × IsSettled G S

round_end : (n : ℕ) (S : State) (G : ℕ → Bool) → CanGo S G → live_in (without G S).descriptions ≤ suc n →
    has_unreferenced (without G S) ≡ true →
    ((K : ℕ → Bool) → CanGo S K → live_in (without K S).descriptions ≤ n → End S (drop_rounds n (without K S))) →
    End S (drop_rounds n (drop_all (without G S)))
unfolding without
round_end n S G can few found after =
    let U : ℕ → Bool = is_unreferenced (without G S) in
    let T : State = without G S in
    let fewer : suc (live_in (without U T).descriptions) ≤ live_in T.descriptions =
    fewer_live U T 0 T.descriptions (λ d h. let e : d ≡ 0 + d = omega arith in (and_parts _ _ (ap U e ∙ h)).0) found in
    let together : without U T ≡ without (either G U) S = without-without G U S in
    let small : live_in (without (either G U) S).descriptions ≤ n =
    subst (λ R. live_in (State.descriptions R) ≤ n) together (omega (arith, fewer, few)) in
    subst (λ R. End S (drop_rounds n R)) (sym together) (after (either G U) (lot U can (λ d h. h)) small)

rounds_end : (n : ℕ) (S : State) (G : ℕ → Bool) → CanGo S G → live_in (without G S).descriptions ≤ n → End S (drop_rounds n (without G S))
unfolding drop_rounds
rounds_end zero S G can few = (G, can, refl, λ d. and_left _ _ (none_live (without G S).descriptions d few))
rounds_end (suc n) S G can few = go (has_unreferenced (without G S)) refl (rounds_end n S)
  where
    go : (b : Bool) → has_unreferenced (without G S) ≡ b →
        ((K : ℕ → Bool) → CanGo S K → live_in (without K S).descriptions ≤ n → End S (drop_rounds n (without K S))) →
        End S (elim b [ true ↦ drop_rounds n (drop_all (without G S)) | false ↦ without G S ])
    go true e after = round_end n S G can few e after
    go false e after = (G, can, refl, settled_of_none (without G S) e)

-- ---- with nothing gone

no_reset : (S : State) (phase : Phase) → is_reset_by_loss (λ d. false) S phase ≡ false
no_reset S idle = refl
no_reset S (listening backlog cred) = refl
no_reset S (connected p) = refl
no_reset S (associated target) = refl

target_kept : (S : State) (t : Target) → target_after_loss (λ d. false) S t ≡ t
target_kept S (to_object o) = refl
target_kept S (to_socket s) = ap (λ b. to_socket (record s { reset = b })) (ap (λ b. s.reset || b) (no_reset S s.phase) ∙ or-false s.reset)

places_kept : (S : State) (k : ℕ) (xs : List (Option Description)) → map (place_after_loss (λ d. false) S) (enumerate_from k xs) ≡ xs
places_kept S k [] = refl
places_kept S k (None ∷ xs) = ap (λ ys. None ∷ ys) (places_kept S (k + 1) xs)
places_kept S k (Some D ∷ xs) = λ j. Some (record D { target = target_kept S D.target j }) ∷ places_kept S (k + 1) xs j

filter_all : {X : Type 0} (xs : List X) → filter (λ x. true) xs ≡ xs
filter_all [] = refl
filter_all (x ∷ xs) = ap (λ ys. x ∷ ys) (filter_all xs)

pub without_none : (S : State) → without (λ d. false) S ≡ S
unfolding without
without_none S = λ j. record S { descriptions = places_kept S 0 S.descriptions j; abstract_names = filter_all S.abstract_names j }

-- ---- one at a time, in any order

pub unreferenced_end : (S : State) → End S (drop_unreferenced S)
unfolding drop_unreferenced
unreferenced_end S =
    let e : without (λ d. false) S ≡ S = without_none S in
    let few : live_in (without (λ d. false) S).descriptions ≤ length S.descriptions =
    subst (λ R. live_in (State.descriptions R) ≤ length S.descriptions) (sym e) (live_in_le S.descriptions) in
    subst (λ R. End S (drop_rounds (length S.descriptions) R)) e (rounds_end (length S.descriptions) S (λ d. false) nothing few)

dropped_lots : (S : State) {T : State} → Drops S T → (G : ℕ → Bool) × CanGo S G × (T ≡ without G S)
dropped_lots S none = ((λ d. false), nothing, sym (without_none S))
dropped_lots S (another {T} d drops unreferenced) = go (dropped_lots S drops)
  where
    go : (G : ℕ → Bool) × CanGo S G × (T ≡ without G S) → (G : ℕ → Bool) × CanGo S G × (without (λ n. n == d) T ≡ without G S)
    go found = (
      either found.0 (λ n. n == d),
      lot (λ n. n == d) found.1 (λ n h. ap (is_unreferenced (without found.0 S)) (eqb-true n d h)
          ∙ ap (λ R. is_unreferenced R d) (sym found.2) ∙ unreferenced),
      ap (without (λ n. n == d)) found.2 ∙ without-without found.0 (λ n. n == d) S,
    )

pub ends_alike : EndsAlike
ends_alike S T drops over = go (dropped_lots S drops) (unreferenced_end S)
  where
    go : (G : ℕ → Bool) × CanGo S G × (T ≡ without G S) → End S (drop_unreferenced S) → T ≡ drop_unreferenced S
    go one all = one.2 ∙ same_end S one.0 all.0 one.1 all.1
        (λ d. ap (λ R. is_unreferenced R d) (sym one.2) ∙ settled_of_none T over d) all.3 ∙ sym all.2
