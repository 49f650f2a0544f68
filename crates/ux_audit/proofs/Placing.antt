-- The lists of places that a scan notes, and the last of them below another.
use Rattle.std.proofs.Common.{◌≡◌, ◌⊎◌, ℕ, zero, suc, ◌+◌, ◌<◌, ◌≤◌, ◌==◌, ◌&&◌, ◌||◌, cond, Bool, true, false, List, [], ◌∷◌, ◌++◌, length}
use Rattle.std.proofs.Common.{replicate, Option, Some, None, MatchOption, refl, ap, sym, ◌∙◌, subst, inl, inr, ⊎_elim, arith}
use Rattle.std.specs.Prelude.{IfSome}
use Rattle.std.specs.List.{slice_get, list_any}
use Rattle.std.specs.Global.{Vec}
use Rattle.std.proofs.lemmas.Bool.{false≢true, eqb-true, eqb-false}
use Rattle.std.proofs.lemmas.List.{append-nil}
use Rattle.std.proofs.lemmas.List.Sums.{sum_by-cons}
use Rattle.ux_model.specs.Types.{Entry}
use Rattle.ux_model.specs.References.{times}
use Rattle.ux_model.specs.History.{makes}
use Rattle.ux_model.proofs.Lists.ChangedPlaces.{bool_cases}
use Rattle.ux_model.proofs.Lists.ByPlace.{get_below}
use Rattle.ux_audit.specs.Shown.{shown, shows}
use Rattle.ux_audit.specs.Givers.{items_at, places_at, ArePlaces, AreGivers, NoneBelow, IsLastBelow}
use Rattle.ux_audit.specs.Origins.{GivesAt, NoneGives}

-- ---- one place more, as often as it was given

get_more : (xs : List ℕ) (c k i j : ℕ) → slice_get (xs ++ replicate c k) i ≡ Some j →
    (slice_get xs i ≡ Some j) ⊎ ((j ≡ k) × (length xs ≤ i) × (0 < c))
get_more [] zero k i j h = absurd (cc h)
get_more [] (suc c) k zero j h = let e : k ≡ j = cc h in inr (sym e, omega arith, omega arith)
get_more [] (suc c) k (suc i) j h = ⊎_elim {C = (slice_get [] (suc i) ≡ Some j) ⊎ ((j ≡ k) × (length {A = ℕ} [] ≤ suc i) × (0 < suc c))}
    (λ none. absurd (cc none)) (λ w. inr (w.0, omega arith, omega arith))
    (get_more [] c k i j h)
get_more (x ∷ xs) c k zero j h = inl h
get_more (x ∷ xs) c k (suc i) j h = ⊎_elim {C = (slice_get xs i ≡ Some j) ⊎ ((j ≡ k) × (length (x ∷ xs) ≤ suc i) × (0 < c))}
    (λ old. inl old) (λ w. let l = w.1 in inr (w.0, omega (arith, l), w.2))
    (get_more xs c k i j h)

get_old : (xs ys : List ℕ) (i j : ℕ) → slice_get xs i ≡ Some j → slice_get (xs ++ ys) i ≡ Some j
get_old [] ys i j h = absurd (cc h)
get_old (x ∷ xs) ys zero j h = h
get_old (x ∷ xs) ys (suc i) j h = get_old xs ys i j h

get_new : (xs : List ℕ) (c k : ℕ) → 0 < c → slice_get (xs ++ replicate c k) (length xs) ≡ Some k
get_new [] zero k some = absurd (omega (arith, some))
get_new [] (suc c) k some = refl
get_new (x ∷ xs) c k some = get_new xs c k some

-- an entry that passes is noted, and one that doesn't isn't
pub places_more : (es : List Entry) (passes : Entry → Bool) (k c : ℕ) (e : Entry) (xs ys : List ℕ) → slice_get es k ≡ Some e →
    (passes e ≡ true → 0 < c) → (0 < c → passes e ≡ true) →
    ys ≡ xs ++ replicate c k → ArePlaces es passes k xs → ArePlaces es passes (suc k) ys
places_more es passes k c e xs ys at some only' are so_far = subst (ArePlaces es passes (suc k)) (sym are) (record {
  only = λ i j h. ⊎_elim {C = (j < suc k) × ((f : Entry) → slice_get es j ≡ Some f → passes f ≡ true)}
      (λ old. let w = so_far.only i j old in (omega (arith, w.0), w.1))
      (λ new. (
        omega (arith, new.0),
        λ f there.
            let both : Some e ≡ Some f = sym at ∙ sym (ap (slice_get es) new.0) ∙ there in
            let same : e ≡ f = cc both in
            subst (λ (x : Entry). passes x ≡ true) same (only' new.2),
      ))
      (get_more xs c k i j h);
  all = λ j f low there pass. bool_cases (j == k)
      (λ here.
      let place : j ≡ k = eqb-true j k here in
      let both : Some e ≡ Some f = sym at ∙ sym (ap (slice_get es) place) ∙ there in
      let same : e ≡ f = cc both in
      (length xs, get_new xs c k (some (subst (λ (x : Entry). passes x ≡ true) (sym same) pass)) ∙ ap Some (sym place)))
      (λ other. let ne = eqb-false j k other in let w = so_far.all j f (omega (arith, low, ne)) there pass in
      (w.0, get_old xs (replicate c k) w.0 j w.1));
  rising = λ i l a b low first second. ⊎_elim {C = a ≤ b}
      (λ old. ⊎_elim {C = a ≤ b} (λ old'. so_far.rising i l a b low old old')
      (λ new'. let w = so_far.only i a old in let p = w.0 in let q = new'.0 in omega (arith, p, q)) (get_more xs c k l b second))
      (λ new. ⊎_elim {C = a ≤ b} (λ old'. let below = get_below xs l b old' in let far = new.1 in absurd (omega (arith, below, far, low)))
      (λ new'. let p = new.0 in let q = new'.0 in omega (arith, p, q)) (get_more xs c k l b second))
      (get_more xs c k i a first);
})

pub places_none : (es : List Entry) (passes : Entry → Bool) → ArePlaces es passes 0 []
places_none es passes = record {
  only = λ i j h. absurd (cc h);
  all = λ j e low at pass. absurd (omega (arith, low));
  rising = λ i l a b low first second. absurd (cc first);
}

-- ---- how often a number is given

none_times : (n : ℕ) (ns : List ℕ) → list_any (λ m. m == n) ns ≡ false → times n ns ≡ 0
none_times n [] h = refl
none_times n (m ∷ ns) h = bool_cases (m == n)
    (λ e. let t : true ≡ false = sym (ap (λ b. b || list_any (λ m. m == n) ns) e) ∙ h in absurd (false≢true (sym t)))
    (λ e.
    let rest = none_times n ns (sym (ap (λ b. b || list_any (λ m. m == n) ns) e) ∙ h) in
    let s = sum_by-cons (λ m. cond {A = ℕ} (m == n) 1 0) m ns in
    let zero' : cond {A = ℕ} (m == n) 1 0 ≡ 0 = ap (λ b. cond {A = ℕ} b 1 0) e in
    omega (arith, s, zero', rest))

some_times : (n : ℕ) (ns : List ℕ) → list_any (λ m. m == n) ns ≡ true → 0 < times n ns
some_times n [] h = absurd (false≢true h)
some_times n (m ∷ ns) h = bool_cases (m == n)
    (λ e.
    let s = sum_by-cons (λ m. cond {A = ℕ} (m == n) 1 0) m ns in
    let one : cond {A = ℕ} (m == n) 1 0 ≡ 1 = ap (λ b. cond {A = ℕ} b 1 0) e in
    omega (arith, s, one))
    (λ e.
    let rest = some_times n ns (sym (ap (λ b. b || list_any (λ m. m == n) ns) e) ∙ h) in
    let s = sum_by-cons (λ m. cond {A = ℕ} (m == n) 1 0) m ns in
    omega (arith, s, rest))

times_some : (n : ℕ) (ns : List ℕ) → 0 < times n ns → list_any (λ m. m == n) ns ≡ true
times_some n ns some = bool_cases (list_any (λ m. m == n) ns) (λ h. h)
    (λ h. let none = none_times n ns h in absurd (omega (arith, none, some)))

-- ---- one entry more

abbrev born : Entry → ℕ → ℕ
born e p = cond {A = ℕ} (makes p e.request e.reply) 1 0

one_more : (b : Bool) (xs : List ℕ) (k : ℕ) → cond b (xs ++ k ∷ []) xs ≡ xs ++ replicate (cond {A = ℕ} b 1 0) k
one_more true xs k = refl
one_more false xs k = sym (append-nil xs)

often : (b : Bool) (xs : List ℕ) (c k : ℕ) → cond b (xs ++ replicate c k) xs ≡ xs ++ replicate (cond {A = ℕ} b c 0) k
often true xs c k = refl
often false xs c k = sym (append-nil xs)

one_if : (b : Bool) → (b ≡ true → 0 < cond {A = ℕ} b 1 0) × (0 < cond {A = ℕ} b 1 0 → b ≡ true)
one_if true = (λ h. omega arith, λ h. refl)
one_if false = (λ h. absurd (false≢true h), λ h. absurd (omega (arith, h)))

often_if : (b : Bool) (n : ℕ) (ns : List ℕ) →
    ((b && list_any (λ m. m == n) ns) ≡ true → 0 < cond {A = ℕ} b (times n ns) 0)
    × (0 < cond {A = ℕ} b (times n ns) 0 → (b && list_any (λ m. m == n) ns) ≡ true)
often_if true n ns = (some_times n ns, times_some n ns)
often_if false n ns = (λ h. absurd (false≢true h), λ h. absurd (omega (arith, h)))

pub givers_more : (es : List Entry) (k : ℕ) (e : Entry) (births births' : List (Vec ℕ)) (rows rows' : List (Vec (Vec ℕ))) →
    slice_get es k ≡ Some e →
    ((p : ℕ) → items_at births' p ≡ cond (makes p e.request e.reply) (items_at births p ++ k ∷ []) (items_at births p)) →
    ((p n : ℕ) → places_at rows' p n ≡ cond (e.pid.0 == p) (places_at rows p n ++ replicate (times n (shown e.request e.reply)) k)
    (places_at rows p n)) →
    AreGivers es k births rows → AreGivers es (suc k) births' rows'
givers_more es k e births births' rows rows' at made' gave' so_far = record {
  made = λ p.
      let i = one_if (makes p e.request e.reply) in
      places_more es (λ f. makes p f.request f.reply) k (born e p) e (items_at births p) (items_at births' p) at i.0 i.1
      (made' p ∙ one_more (makes p e.request e.reply) (items_at births p) k) (so_far.made p);
  gave = λ p n.
      let i = often_if (e.pid.0 == p) n (shown e.request e.reply) in
      places_more es (λ f. shows f p n) k (cond {A = ℕ} (e.pid.0 == p) (times n (shown e.request e.reply)) 0) e (places_at rows p n)
      (places_at rows' p n) at i.0 i.1
      (gave' p n ∙ often (e.pid.0 == p) (places_at rows p n) (times n (shown e.request e.reply)) k) (so_far.gave p n);
}

pub givers_none : (es : List Entry) (births : List (Vec ℕ)) (rows : List (Vec (Vec ℕ))) → births ≡ [] → rows ≡ [] →
    AreGivers es 0 births rows
givers_none es births rows b r = record {
  made = λ p. subst (ArePlaces es (λ f. makes p f.request f.reply) 0) (sym (ap (λ (x : List (Vec ℕ)). items_at x p) b))
      (places_none es (λ f. makes p f.request f.reply));
  gave = λ p n. subst (ArePlaces es (λ f. shows f p n) 0) (sym (ap (λ (x : List (Vec (Vec ℕ))). places_at x p n) r))
      (places_none es (λ f. shows f p n));
}

-- ---- lists of numbers

replicate_more : (a b k : ℕ) → replicate a k ++ replicate b k ≡ replicate (a + b) k
replicate_more zero b k = ap (λ n. replicate n k) (omega arith)
replicate_more (suc a) b k = let e : suc (a + b) ≡ suc a + b = omega arith in
    ap (λ l. k ∷ l) (replicate_more a b k) ∙ ap (λ n. replicate n k) e

-- ---- the last below

pub none_gives : (es : List Entry) (births : List (Vec ℕ)) (rows : List (Vec (Vec ℕ))) (p n until : ℕ) → until ≤ length es →
    AreGivers es (length es) births rows →
    NoneBelow until (items_at births p) → NoneBelow until (places_at rows p n) → NoneGives es p n 0 until
none_gives es births rows p n until within are no_birth no_gift k e low high at = bool_cases (makes p e.request e.reply)
    (λ b. let w = (are.made p).all k e (omega (arith, high, within)) at b in let past = no_birth w.0 k w.1 in
    absurd (omega (arith, past, high)))
    (λ b. bool_cases (shows e p n)
    (λ g. let w = (are.gave p n).all k e (omega (arith, high, within)) at g in let past = no_gift w.0 k w.1 in
    absurd (omega (arith, past, high)))
    (λ g. ap (λ x. x || shows e p n) b ∙ g))

-- where it stands in one of the two lists, and no later one in either
pub last_gives : (es : List Entry) (births : List (Vec ℕ)) (rows : List (Vec (Vec ℕ))) (p n until j : ℕ) (a b : Option ℕ) →
    until ≤ length es → AreGivers es (length es) births rows →
    MatchOption a (NoneBelow until (items_at births p)) (IsLastBelow until (items_at births p)) →
    MatchOption b (NoneBelow until (places_at rows p n)) (IsLastBelow until (places_at rows p n)) →
    ((a ≡ Some j) ⊎ (b ≡ Some j)) → IfSome a (λ i. i ≤ j) → IfSome b (λ i. i ≤ j) →
    (j < until) × GivesAt es p n j × NoneGives es p n (suc j) until
last_gives es births rows p n until j a b within are first second is low_a low_b =
    ⊎_elim {C = (j < until) × GivesAt es p n j × NoneGives es p n (suc j) until}
    (λ e.
    let l : IsLastBelow until (items_at births p) j =
    subst (λ (o : Option ℕ). MatchOption o (NoneBelow until (items_at births p)) (IsLastBelow until (items_at births p))) e first in
    (l.below, λ f at. ap (λ x. x || shows f p n) (((are.made p).only l.there.0 j l.there.1).1 f at), no_later))
    (λ e.
    let l : IsLastBelow until (places_at rows p n) j =
    subst (λ (o : Option ℕ). MatchOption o (NoneBelow until (places_at rows p n)) (IsLastBelow until (places_at rows p n))) e second in
    (l.below, λ f at. either_true (makes p f.request f.reply) (((are.gave p n).only l.there.0 j l.there.1).1 f at), no_later))
    is
  where
    either_true : (x : Bool) {y : Bool} → y ≡ true → x || y ≡ true
    either_true true h = refl
    either_true false h = h

    -- what is in a list is no later than the last there
    no_later_in : (xs : List ℕ) (o : Option ℕ) → MatchOption o (NoneBelow until xs) (IsLastBelow until xs) → IfSome o (λ i. i ≤ j) →
        (i k : ℕ) → slice_get xs i ≡ Some k → k < until → k ≤ j
    no_later_in xs None none low i k at high = let past = none i k at in absurd (omega (arith, past, high))
    no_later_in xs (Some m) l low i k at high = let most = l.last i k at high in omega (arith, most, low)

    no_later : NoneGives es p n (suc j) until
    no_later k e low high at = bool_cases (makes p e.request e.reply)
        (λ m. let w = (are.made p).all k e (omega (arith, high, within)) at m in
        let most = no_later_in (items_at births p) a first low_a w.0 k w.1 high in absurd (omega (arith, most, low)))
        (λ m. bool_cases (shows e p n)
        (λ g. let w = (are.gave p n).all k e (omega (arith, high, within)) at g in
        let most = no_later_in (places_at rows p n) b second low_b w.0 k w.1 high in absurd (omega (arith, most, low)))
        (λ g. ap (λ x. x || shows e p n) m ∙ g))

pub later_gives : (es : List Entry) (births : List (Vec ℕ)) (rows : List (Vec (Vec ℕ))) (p n until : ℕ) (a b o : Option ℕ) →
    until ≤ length es → AreGivers es (length es) births rows →
    MatchOption a (NoneBelow until (items_at births p)) (IsLastBelow until (items_at births p)) →
    MatchOption b (NoneBelow until (places_at rows p n)) (IsLastBelow until (places_at rows p n)) →
    MatchOption o ((a ≡ None) × (b ≡ None)) (λ j. ((a ≡ Some j) ⊎ (b ≡ Some j)) × IfSome a (λ i. i ≤ j) × IfSome b (λ i. i ≤ j)) →
    MatchOption o (NoneGives es p n 0 until) (λ j. (j < until) × GivesAt es p n j × NoneGives es p n (suc j) until)
later_gives es births rows p n until a b None within are first second both =
    none_gives es births rows p n until within are
    (subst (λ (x : Option ℕ). MatchOption x (NoneBelow until (items_at births p)) (IsLastBelow until (items_at births p))) both.0 first)
    (subst (λ (x : Option ℕ). MatchOption x (NoneBelow until (places_at rows p n)) (IsLastBelow until (places_at rows p n))) both.1 second)
later_gives es births rows p n until a b (Some j) within are first second is =
    last_gives es births rows p n until j a b within are first second is.0 is.1 is.2

-- nothing is below in an empty list
pub none_below : (until : ℕ) (xs : List ℕ) → xs ≡ [] → NoneBelow until xs
none_below until xs none i k h = let nowhere : slice_get [] i ≡ Some k = sym (ap (λ l. slice_get l i) none) ∙ h in absurd (cc nowhere)
