-- Lists of names in which none stands twice, and the names that go with a description.
use Rattle.std.proofs.Common.{◌≡◌, ℕ, ◌+◌, ◌==◌, Bool, true, false, not, ◌&&◌, ◌||◌, cond, List, [], ◌∷◌, ◌++◌, length, map, Option, Some}
use Rattle.std.proofs.Common.{None, option_map, refl, ap, sym, ◌∙◌, arith}
use Rattle.std.specs.Prelude.{filter}
use Rattle.std.specs.List.{AllByRecursion, list_any, sum_by}
use Rattle.std.proofs.lemmas.Bool.{eqb-true, eqb-false, eq-eqb, and_parts}
use Rattle.std.proofs.lemmas.List.{get_or_past, get_or-set_same, get_or-set_other}
use Rattle.std.proofs.lemmas.List.Sums.{sum_by-cons}
use Rattle.std.proofs.lemmas.Slice.Eq.{bytes_eq-Decides}
use Rattle.ux_model.specs.Types.{Name}
use Rattle.ux_model.specs.Places.{place, filled, emptied, changed_place}
use Rattle.ux_model.specs.Names.{same_name, named, without_name}
use Rattle.ux_model.specs.Socket.{Socket, with_reset}
use Rattle.ux_model.specs.Description.{Description, Target, to_object, to_socket, changed, changed_target}
use Rattle.ux_model.specs.State.{description_at}
use Rattle.ux_model.specs.Peers.{with_peer_reset}
use Rattle.ux_model.specs.Boot.{are_distinct}
use Rattle.ux_model.specs.Owning.{target_name, name_in, AreOwned, is_number, without_shown, NameGoes}
use Rattle.ux_model.proofs.Lists.ChangedPlaces.{bool_cases, place_within, place-changed}
use Rattle.ux_model.proofs.Counting.Making.{place-push}

-- ---- names are the same where their bytes are

pub same_is : (a b : Name) → same_name a b ≡ true → a ≡ b
same_is a b e = (bytes_eq-Decides a b).0 e

pub is_same : (a b : Name) → a ≡ b → same_name a b ≡ true
is_same a b e = (bytes_eq-Decides a b).1 e

other_way : (a b : Name) → same_name a b ≡ false → same_name b a ≡ false
other_way a b apart = bool_cases (same_name b a) (λ h. absurd (cc (apart, is_same a b (sym (same_is b a h))))) (λ h. h)

not_true : (b : Bool) → not b ≡ true → b ≡ false
not_true true e = absurd (cc e)
not_true false e = refl

neither : (a b : Bool) → (a || b) ≡ false → (a ≡ false) × (b ≡ false)
neither true b e = absurd (cc e)
neither false b e = (refl, e)

-- ---- each of a list

all_of : {X : Type 0} {P Q : X → Type 0} (xs : List X) → ((x : X) → P x → Q x) → AllByRecursion P xs → AllByRecursion Q xs
all_of [] f all = tt
all_of (x ∷ xs) f all = (f x all.0, all_of xs f all.1)

both_of : {X : Type 0} {P Q R : X → Type 0} (xs : List X) → ((x : X) → P x → Q x → R x) → AllByRecursion P xs → AllByRecursion Q xs →
    AllByRecursion R xs
both_of [] f ps qs = tt
both_of (x ∷ xs) f ps qs = (f x ps.0 qs.0, both_of xs f ps.1 qs.1)

filter_alike : {X : Type 0} (p q : X → Bool) (xs : List X) → AllByRecursion (λ x. p x ≡ q x) xs → filter p xs ≡ filter q xs
filter_alike p q [] all = refl
filter_alike p q (x ∷ xs) all = λ j. cond (all.0 j) (x ∷ filter_alike p q xs all.1 j) (filter_alike p q xs all.1 j)

filter_all : {X : Type 0} (p : X → Bool) (xs : List X) → AllByRecursion (λ x. p x ≡ true) xs → filter p xs ≡ xs
filter_all p [] all = refl
filter_all p (x ∷ xs) all = ap (λ b. cond b (x ∷ filter p xs) (filter p xs)) all.0 ∙ ap (λ ys. x ∷ ys) (filter_all p xs all.1)

module _ {X : Type 0} where
  -- ---- none stands twice

  abbrev pub IsOnce : List (Name × X) → Type 0
  IsOnce es = are_distinct (map (λ e. e.0) es) ≡ true

  -- none of the others has this name
  others : (name : Name) (es : List (Name × X)) → list_any (λ other. same_name other name) (map (λ e. e.0) es) ≡ false →
      AllByRecursion (λ (e : Name × X). same_name e.0 name ≡ false) es
  others name [] none = tt
  others name (e ∷ es) none = let n = neither (same_name e.0 name) _ none in (n.0, others name es n.1)

  abbrev once_parts : Name × X → List (Name × X) → Type 0
  once_parts e es = AllByRecursion (λ (f : Name × X). same_name f.0 e.0 ≡ false) es × IsOnce es

  parts : (e : Name × X) (es : List (Name × X)) → IsOnce (e ∷ es) → once_parts e es
  parts e es once = let p = and_parts _ _ once in (others e.0 es (not_true _ p.0), p.1)

  -- each is found
  pub each_found : (es : List (Name × X)) → IsOnce es → AllByRecursion (λ e. named e.0 es ≡ Some e.1) es
  each_found [] once = tt
  each_found (e ∷ es) once =
      let p = parts e es once in
      let first : named e.0 (e ∷ es) ≡ Some e.1 = ap (λ b. cond b (Some e.1) (named e.0 es)) (is_same e.0 e.0 refl) in (
        first,
        both_of es (λ f apart found. ap (λ b. cond b (Some e.1) (named f.0 es)) (other_way f.0 e.0 apart) ∙ found) p.0
            (each_found es p.1),
      )

  none_left : (name : Name) (p : Name × X → Bool) (es : List (Name × X)) →
      list_any (λ other. same_name other name) (map (λ e. e.0) es) ≡ false →
      list_any (λ other. same_name other name) (map (λ e. e.0) (filter p es)) ≡ false
  none_left name p [] none = refl
  none_left name p (e ∷ es) none = let n = neither (same_name e.0 name) _ none in go (p e) n.0 (none_left name p es n.1)
    where
      go : (b : Bool) → same_name e.0 name ≡ false → list_any (λ other. same_name other name) (map (λ e. e.0) (filter p es)) ≡ false →
          list_any (λ other. same_name other name) (map (λ e. e.0) (cond b (e ∷ filter p es) (filter p es))) ≡ false
      go true apart rest = ap (λ b. b || list_any (λ other. same_name other name) (map (λ e. e.0) (filter p es))) apart ∙ rest
      go false apart rest = rest

  pub once-filter : (p : Name × X → Bool) (es : List (Name × X)) → IsOnce es → IsOnce (filter p es)
  once-filter p [] once = refl
  once-filter p (e ∷ es) once = let q = and_parts _ _ once in go (p e) (not_true _ q.0) (once-filter p es q.1)
    where
      go : (b : Bool) → list_any (λ other. same_name other e.0) (map (λ e. e.0) es) ≡ false → IsOnce (filter p es) →
          IsOnce (cond b (e ∷ filter p es) (filter p es))
      go true none rest = (λ j. not (none_left e.0 p es none j) && are_distinct (map (λ e. e.0) (filter p es))) ∙ rest
      go false none rest = rest

  apart_first : (name : Name) (e : Name × X) (es : List (Name × X)) → named name (e ∷ es) ≡ None →
      (same_name e.0 name ≡ false) × (named name es ≡ None)
  apart_first name e es none = bool_cases (same_name e.0 name)
      (λ h. let clash : Some e.1 ≡ None = sym (ap (λ b. cond b (Some e.1) (named name es)) h) ∙ none in absurd (cc clash))
      (λ h. (h, sym (ap (λ b. cond b (Some e.1) (named name es)) h) ∙ none))

  any-push : (q : Name → Bool) (name : Name) (x : X) (es : List (Name × X)) → q name ≡ false → list_any q (map (λ e. e.0) es) ≡ false →
      list_any q (map (λ e. e.0) (es ++ (name, x) ∷ [])) ≡ false
  any-push q name x [] last none = ap (λ b. b || false) last
  any-push q name x (e ∷ es) last none =
      let n = neither (q e.0) _ none in ap (λ b. b || list_any q (map (λ e. e.0) (es ++ (name, x) ∷ []))) n.0
      ∙ any-push q name x es last n.1

  -- one more, which wasn't there
  pub once-push : (name : Name) (x : X) (es : List (Name × X)) → named name es ≡ None → IsOnce es → IsOnce (es ++ (name, x) ∷ [])
  once-push name x [] none once = refl
  once-push name x (e ∷ es) none once =
      let q = and_parts _ _ once in
      let a = apart_first name e es none in
      (λ j. not (any-push (λ other. same_name other e.0) name x es (other_way e.0 name a.0) (not_true _ q.0) j)
      && are_distinct (map (λ e. e.0) (es ++ (name, x) ∷ [])))
      ∙ once-push name x es a.1 q.1

  -- one that stands behind others isn't among them
  pub not_before : (name : Name) (x : X) (es fs : List (Name × X)) → IsOnce (es ++ (name, x) ∷ fs) → named name es ≡ None
  not_before name x [] fs once = refl
  not_before name x (e ∷ es) fs once =
      let p = parts e (es ++ (name, x) ∷ fs) once in
      ap (λ b. cond b (Some e.1) (named name es)) (other_way name e.0 (at es p.0)) ∙ not_before name x es fs p.1
    where
      at : (gs : List (Name × X)) → AllByRecursion (λ (f : Name × X). same_name f.0 e.0 ≡ false) (gs ++ (name, x) ∷ fs) →
          same_name name e.0 ≡ false
      at [] all = all.0
      at (g ∷ gs) all = at gs all.1

  -- what a name counts goes with it
  abbrev pub counted : (X → ℕ) → Option X → ℕ
  counted g None = 0
  counted g (Some x) = g x

  pub sum_without : (g : X → ℕ) (name : Name) (es : List (Name × X)) → IsOnce es →
      sum_by (λ e. g e.1) (without_name name es) + counted g (named name es) ≡ sum_by (λ e. g e.1) es
  sum_without g name [] once = refl
  sum_without g name (e ∷ es) once = bool_cases (same_name e.0 name)
      (λ h.
      let p = parts e es once in
      let rest : without_name name es ≡ es = filter_all
      (λ f. not (same_name f.0 name)) es (all_of es (λ f apart. ap not (ap (same_name f.0) (sym (same_is e.0 name h)) ∙ apart)) p.0) in
      let left : without_name name (e ∷ es) ≡ es = ap (λ b. cond (not b) (e ∷ without_name name es) (without_name name es)) h ∙ rest in
      let a = ap (sum_by (λ f. g f.1)) left in
      let b = ap (λ b. counted g (cond b (Some e.1) (named name es))) h in
      let c = sum_by-cons (λ f. g f.1) e es in
      omega (arith, a, b, c))
      (λ h.
      let p = parts e es once in
      let left : without_name name (e ∷ es) ≡ e ∷ without_name name es =
      ap (λ b. cond (not b) (e ∷ without_name name es) (without_name name es)) h in
      let a = ap (sum_by (λ f. g f.1)) left in
      let b = ap (λ b. counted g (cond b (Some e.1) (named name es))) h in
      let c = sum_by-cons (λ f. g f.1) e es in
      let d = sum_by-cons (λ f. g f.1) e (without_name name es) in
      let i = sum_without g name es p.1 in
      omega (arith, a, b, c, d, i))

-- ---- the names of one that goes

its_number : (d : ℕ) (o : Option ℕ) → is_number d o ≡ true → o ≡ Some d
its_number d None e = absurd (cc e)
its_number d (Some e) h = ap (λ n. Some n) (eqb-true e d h)

pub name_goes : NameGoes
name_goes S d owned = go (name_in (description_at S d)) refl
  where
    ds : List (Option Description)
    ds = S.descriptions

    names : List (Name × ℕ)
    names = S.abstract_names

    -- an entry of d has the name that d shows
    its : (n : Name) (e : Name × ℕ) → name_in (place ds d) ≡ Some n → name_in (place ds e.1) ≡ Some e.0 → (e.1 == d) ≡ true → e.0 ≡ n
    its n e here shown h = let a : Some e.0 ≡ Some n = sym shown ∙ ap (λ i. name_in (place ds i)) (eqb-true e.1 d h) ∙ here in cc a

    alike : (n : Name) → name_in (place ds d) ≡ Some n → named n names ≡ Some d → (e : Name × ℕ) → name_in (place ds e.1) ≡ Some e.0 →
        named e.0 names ≡ Some e.1 → not (same_name e.0 n) ≡ not (e.1 == d)
    alike n here leads e shown found = bool_cases (same_name e.0 n)
        (λ h. let a : Some e.1 ≡ Some d = sym found ∙ ap (λ m. named m names) (same_is e.0 n h) ∙ leads in
        let b : e.1 ≡ d = cc a in ap not (h ∙ sym (eq-eqb e.1 d b)))
        (λ h. bool_cases (e.1 == d)
        (λ g. absurd (cc (h, is_same e.0 n (its n e here shown g))))
        (λ g. ap not (h ∙ sym g)))

    kept : (n : Name) → name_in (place ds d) ≡ Some n → is_number d (named n names) ≡ false → (e : Name × ℕ) →
        name_in (place ds e.1) ≡ Some e.0 → named e.0 names ≡ Some e.1 → not (e.1 == d) ≡ true
    kept n here other e shown found = bool_cases (e.1 == d)
        (λ h. let a : named n names ≡ Some e.1 = ap (λ m. named m names) (sym (its n e here shown h)) ∙ found in
        absurd (cc (sym other ∙ ap (is_number d) a, h)))
        (λ h. ap not h)

    go : (o : Option Name) → name_in (place ds d) ≡ o → without_shown o d names ≡ filter (λ e. not (e.1 == d)) names
    go None here = sym (filter_all _ names (all_of names (λ e shown. bool_cases (e.1 == d)
        (λ h. let a : None ≡ Some e.0 = sym here ∙ ap (λ i. name_in (place ds i)) (sym (eqb-true e.1 d h)) ∙ shown in absurd (cc a))
        (λ h. ap not h)) owned.shown))
    go (Some n) here = bool_cases (is_number d (named n names))
        (λ h. ap (λ b. cond b (without_name n names) names) h
        ∙ filter_alike _ _ names (both_of names (alike n here (its_number d _ h)) owned.shown (each_found names owned.once)))
        (λ h. ap (λ b. cond b (without_name n names) names) h
        ∙ sym (filter_all _ names (both_of names (kept n here h) owned.shown (each_found names owned.once))))

-- ---- who shows a name keeps it

-- each name of old is one of new
abbrev pub KeepNames : List (Option Description) → List (Option Description) → Type 0
KeepNames old new = (d : ℕ) (n : Name) → name_in (place old d) ≡ Some n → name_in (place new d) ≡ Some n

pub owned_still : (old new : List (Option Description)) (es : List (Name × ℕ)) → KeepNames old new → AreOwned old es → AreOwned new es
owned_still old new es keep owned = record { once = owned.once; shown = all_of es (λ e shown. keep e.1 e.0 shown) owned.shown }

pub owned_none : (ds : List (Option Description)) → AreOwned ds []
owned_none ds = record { once = refl; shown = tt }

name-map : (f : Description → Description) → ((D : Description) → target_name (f D).target ≡ target_name D.target) →
    (x : Option Description) → name_in (option_map f x) ≡ name_in x
name-map f same None = refl
name-map f same (Some D) = same D

pub names_changed : (ds : List (Option Description)) (p : ℕ) (f : Description → Description) →
    ((D : Description) → target_name (f D).target ≡ target_name D.target) → KeepNames ds (changed_place ds p f)
names_changed ds p f same d n e = ap name_in (place-changed ds p d f) ∙ go (p == d) ∙ e
  where
    go : (b : Bool) → name_in (cond b (option_map f (place ds d)) (place ds d)) ≡ name_in (place ds d)
    go true = name-map f same (place ds d)
    go false = refl

pub target_name-changed : (change : Socket → Socket) → ((s : Socket) → (change s).name ≡ s.name) → (t : Target) →
    target_name (changed_target change t) ≡ target_name t
target_name-changed change same (to_object o) = refl
target_name-changed change same (to_socket s) = ap (λ a. target_name (to_socket (record s { name = a }))) (same s)

pub names_changed_socket : (ds : List (Option Description)) (p : ℕ) (change : Socket → Socket) → ((s : Socket) → (change s).name ≡ s.name) →
    KeepNames ds (changed_place ds p (changed change))
names_changed_socket ds p change same = names_changed ds p (changed change) (λ D. target_name-changed change same D.target)

pub names_filled : (ds : List (Option Description)) (p : ℕ) (x y : Description) → place ds p ≡ Some x →
    target_name y.target ≡ target_name x.target → KeepNames ds (filled ds p y)
names_filled ds p x y here same d n e = bool_cases (d == p)
    (λ h. let q : d ≡ p = eqb-true d p h in
    ap (λ i. name_in (place (filled ds p y) i)) q ∙ ap name_in (get_or-set_same ds p (Some y) None (place_within ds p x here)) ∙ same
    ∙ sym (ap name_in here) ∙ ap (λ i. name_in (place ds i)) (sym q) ∙ e)
    (λ h. ap name_in (get_or-set_other ds p d (Some y) None (eqb-false d p h)) ∙ e)

pub names_push : (ds : List (Option Description)) (D : Description) → KeepNames ds (ds ++ Some D ∷ [])
names_push ds D d n e = bool_cases (d == length ds)
    (λ h. let past : place ds d ≡ None = get_or_past ds d None (let q : d ≡ length ds = eqb-true d (length ds) h in omega (arith, q)) in
    absurd (cc (sym e ∙ ap name_in past)))
    (λ h. ap name_in (place-push ds (Some D) d ∙ ap (λ b. cond b (Some D) (place ds d)) h) ∙ e)

-- a change of one that shows none
pub names_given : (ds : List (Option Description)) (p : ℕ) (f : Description → Description) → name_in (place ds p) ≡ None →
    KeepNames ds (changed_place ds p f)
names_given ds p f none d n e = ap name_in (place-changed ds p d f) ∙ go (p == d) refl
  where
    go : (b : Bool) → (p == d) ≡ b → name_in (cond b (option_map f (place ds d)) (place ds d)) ≡ Some n
    go true h = let a : None ≡ Some n = sym none ∙ ap (λ i. name_in (place ds i)) (eqb-true p d h) ∙ e in absurd (cc a)
    go false h = e

names_told : (l : Option ℕ) (ds : List (Option Description)) → KeepNames ds (with_peer_reset l ds)
names_told None ds d n e = e
names_told (Some p) ds d n e = names_changed_socket ds p (with_reset true) (λ s. refl) d n e

-- those of others stay where d goes
shown_without : (ds : List (Option Description)) (d : ℕ) (l : Option ℕ) (es : List (Name × ℕ)) →
    AllByRecursion (λ e. name_in (place ds e.1) ≡ Some e.0) es →
    AllByRecursion (λ e. name_in (place (with_peer_reset l (emptied ds d)) e.1) ≡ Some e.0) (filter (λ e. not (e.1 == d)) es)
shown_without ds d l [] all = tt
shown_without ds d l (e ∷ es) all = go (e.1 == d) refl (shown_without ds d l es all.1)
  where
    go : (b : Bool) → (e.1 == d) ≡ b → AllByRecursion
        (λ e. name_in (place (with_peer_reset l (emptied ds d)) e.1) ≡ Some e.0) (filter (λ e. not (e.1 == d)) es) →
        AllByRecursion (λ e. name_in (place (with_peer_reset l (emptied ds d)) e.1) ≡ Some e.0)
        (cond (not b) (e ∷ filter (λ e. not (e.1 == d)) es) (filter (λ e. not (e.1 == d)) es))
    go true h rest = rest
    go false h rest = (
      names_told l (emptied ds d) e.1 e.0 (ap name_in (get_or-set_other ds d e.1 None None (eqb-false e.1 d h)) ∙ all.0),
      rest,
    )

pub owned_without : (ds : List (Option Description)) (d : ℕ) (l : Option ℕ) (es : List (Name × ℕ)) → AreOwned ds es →
    AreOwned (with_peer_reset l (emptied ds d)) (filter (λ e. not (e.1 == d)) es)
owned_without ds d l es owned = record {
  once = once-filter (λ e. not (e.1 == d)) es owned.once;
  shown =
      shown_without ds d l es owned.shown;
}

-- one more, whom it leads to shows it
shown-push : (ds : List (Option Description)) (n : Name) (d : ℕ) (es : List (Name × ℕ)) → name_in (place ds d) ≡ Some n →
    AllByRecursion (λ e. name_in (place ds e.1) ≡ Some e.0) es →
    AllByRecursion (λ e. name_in (place ds e.1) ≡ Some e.0) (es ++ (n, d) ∷ [])
shown-push ds n d [] here all = (here, tt)
shown-push ds n d (e ∷ es) here all = (all.0, shown-push ds n d es here all.1)

pub owned-push : (ds : List (Option Description)) (n : Name) (d : ℕ) (es : List (Name × ℕ)) → named n es ≡ None →
    name_in (place ds d) ≡ Some n → AreOwned ds es → AreOwned ds (es ++ (n, d) ∷ [])
owned-push ds n d es none here owned = record { once = once-push n d es none owned.once; shown = shown-push ds n d es here owned.shown }
