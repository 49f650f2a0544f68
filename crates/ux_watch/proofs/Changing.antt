-- What has changed, description by description.
use Rattle.std.proofs.Common.{◌≡◌, ◌≢◌, ℕ, zero, suc, ◌+◌, ◌<◌, ◌≤◌, Bool, true, false, ◌==◌, ◌&&◌, nat_lt, List, [], ◌∷◌, ◌++◌, length, map, take}
use Rattle.std.proofs.Common.{Option, Some, None, refl, ap, sym, ◌∙◌, subst, ⊎_elim, eq-eqb, inl, inr, ◌⊎◌, arith}
use Rattle.std.specs.Prelude.{slice_get, slice_index_or, if◌then◌else◌, IsSome, is_some}
use Rattle.std.specs.List.{Contains}
use Rattle.std.specs.List.Sorted.{IsStrictlySortedBy}
use Rattle.std.specs.Ordering.{nat_cmp}
use Rattle.std.proofs.lemmas.Bool.{false≢true, eqb-true, ne_eqb, cases_lt, cases_eq}
use Rattle.std.proofs.lemmas.Bool.Decides.{nat_tests}
use Rattle.std.proofs.lemmas.Map.Keys.{sorted_tail, below_from_sorted, sorted_from_strictly_increasing}
use Rattle.std.proofs.lemmas.List.{take_all}
use Rattle.ux_model.specs.Description.{Description, socket_in}
use Rattle.ux_model.specs.State.{State, description_at}
use Rattle.ux_model.specs.Message.{queued_bytes}
use Rattle.ux_model.specs.Readiness.{not_open, poll_flags, readiness}
use Rattle.ux_model.proofs.Lists.ByPlace.{get_below, get_before}
use Rattle.ux_slots.specs.Held.{Lists}
use Rattle.ux_watch.specs.declared.told.Told.{Told}
use Rattle.ux_watch.specs.declared.watch.Change.{Change}
use Rattle.ux_watch.specs.Telling.{told, gone, unread, is_same}
use Rattle.ux_watch.specs.Changing.{change_of, told_at, AreNew, HasEachNew, AreRising, AreChanges, IsFrom, lower, first_at, without}

-- ---- what is told

and_both : (a b : Bool) → (a && b) ≡ true → (a ≡ true) × (b ≡ true)
and_both true true h = (refl, refl)
and_both true false h = absurd (cc h)
and_both false b h = absurd (cc h)

abbrev with_parts : ℕ → ℕ → ℕ → Told
with_parts flags bytes messages = record { flags = record { 0 = flags }; bytes = bytes; messages = messages }

pub same_told : (a b : Told) → is_same a b ≡ true → a ≡ b
same_told a b h =
    let first = and_both (a.flags.0 == b.flags.0) ((a.bytes == b.bytes) && (a.messages == b.messages)) h in
    let rest = and_both (a.bytes == b.bytes) (a.messages == b.messages) first.1 in
    let flags : a.flags.0 ≡ b.flags.0 = eqb-true a.flags.0 b.flags.0 first.0 in
    let bytes : a.bytes ≡ b.bytes = eqb-true a.bytes b.bytes rest.0 in
    let messages : a.messages ≡ b.messages = eqb-true a.messages b.messages rest.1 in
    made a b flags bytes messages
  where
    made : (a b : Told) → a.flags.0 ≡ b.flags.0 → a.bytes ≡ b.bytes → a.messages ≡ b.messages → a ≡ b
    made a b e f g =
        ap (λ (x : ℕ). with_parts x a.bytes a.messages) e ∙ ap (λ (x : ℕ). with_parts b.flags.0 x a.messages) f
        ∙ ap (λ (x : ℕ). with_parts b.flags.0 b.bytes x) g

same_itself : (a b : Told) → a ≡ b → is_same a b ≡ true
same_itself a b e = subst (λ (x : Told). is_same a x ≡ true) e (alike a)
  where
    alike : (a : Told) → is_same a a ≡ true
    alike a =
        ap (λ (x : Bool). x && ((a.bytes == a.bytes) && (a.messages == a.messages))) (eq-eqb a.flags.0 a.flags.0 refl)
        ∙ ap (λ (x : Bool). x && (a.messages == a.messages)) (eq-eqb a.bytes a.bytes refl)
        ∙ eq-eqb a.messages a.messages refl

pub other_told : (a b : Told) → is_same a b ≡ false → a ≢ b
other_told a b h e = false≢true (sym h ∙ same_itself a b e)

abbrev told_by : State → ℕ → Option Description → Told
told_by S d x = record {
  flags = elim x [ None ↦ not_open | Some D ↦ poll_flags (readiness S d D) ];
  bytes = queued_bytes (unread (socket_in x));
  messages = length (unread (socket_in x));
}

-- of what isn't there
told_gone : (S : State) (d : ℕ) → description_at S d ≡ None → told S d ≡ gone
told_gone S d none = ap (told_by S d) none

-- ---- lists that grow

data_at : {X : Type 0} (xs : List X) (x a : X) (i : ℕ) → slice_get (xs ++ x ∷ []) i ≡ Some a →
    (slice_get xs i ≡ Some a) ⊎ ((i ≡ length xs) × (x ≡ a))
data_at [] x a zero h = inr (refl, cc h)
data_at [] x a (suc i) h = absurd (cc h)
data_at (y ∷ xs) x a zero h = inl h
data_at (y ∷ xs) x a (suc i) h = ⊎_elim (λ p. inl p) (λ p. inr (ap suc p.0, p.1)) (data_at xs x a i h)

last_at : {X : Type 0} (xs : List X) (x : X) → slice_get (xs ++ x ∷ []) (length xs) ≡ Some x
last_at [] x = refl
last_at (y ∷ xs) x = last_at xs x

-- ---- what a list says from a number on

wider : (m n : ℕ) (l : List Change) → m ≤ n → IsFrom n l → IsFrom m l
wider m n [] le h = tt
wider m n (c ∷ cs) le h = (omega (arith, le, h.0), h.1)

gone_below : (n : ℕ) (l : List Change) → IsFrom n l → (d : ℕ) → d < n → told_at l d ≡ gone
gone_below n [] h d less = refl
gone_below n (c ∷ cs) h d less =
    rw (ne_eqb c.id d (λ e. omega (arith, e, h.0, less))) (gone_below (c.id + 1) cs h.1 d (omega (arith, h.0, less)))

first_is : (d : ℕ) (l : List Change) → IsFrom d l → first_at l d ≡ told_at l d
first_is d [] h = refl
first_is d (c ∷ cs) h = elim (cases_eq c.id d) [
  | inl e ↦ rw (eq-eqb c.id d e) refl
  | inr ne ↦ rw (ne_eqb c.id d ne) (sym (gone_below (c.id + 1) cs h.1 d (omega (arith, h.0))))
]

rest_from : (d : ℕ) (l : List Change) → IsFrom d l → IsFrom (d + 1) (without l d)
rest_from d [] h = tt
rest_from d (c ∷ cs) h = elim (cases_eq c.id d) [
  | inl e ↦ rw (eq-eqb c.id d e) (wider (d + 1) (c.id + 1) cs (omega (arith, e)) h.1)
  | inr ne ↦ rw (ne_eqb c.id d ne) (omega (arith, h.0, ne), h.1)
]

rest_same : (d : ℕ) (l : List Change) (q : ℕ) → d < q → told_at (without l d) q ≡ told_at l q
rest_same d [] q less = refl
rest_same d (c ∷ cs) q less = elim (cases_eq c.id d) [
  | inl e ↦ rw (eq-eqb c.id d e, ne_eqb c.id q (λ f. omega (arith, e, f, less))) refl
  | inr ne ↦ rw (ne_eqb c.id d ne) refl
]

-- what is left of a list that says this of all numbers: that of each from n on
pub record Left (n : ℕ) (whole : ℕ → Told) (l : List Change) : Type 0 where
  pub from : IsFrom n l
  pub same : (d : ℕ) → n ≤ d → told_at l d ≡ whole d

left_further : (n d : ℕ) (whole : ℕ → Told) (l : List Change) → n ≤ d → IsFrom d l → Left n whole l → Left (d + 1) whole (without l d)
left_further n d whole l le from left = record {
  from = rest_from d l from;
  same = λ q more. rest_same d l q (omega (arith, more)) ∙ left.same q (omega (arith, le, more));
}

first_told : (n d : ℕ) (whole : ℕ → Told) (l : List Change) → n ≤ d → IsFrom d l → Left n whole l → first_at l d ≡ whole d
first_told n d whole l le from left = first_is d l from ∙ left.same d le

-- ---- the lower of the first numbers

lesser : (a b d : ℕ) → (if nat_lt b a then b else a) ≡ d → (d ≤ a) × (d ≤ b)
lesser a b d is = (grind (arith, nat_tests, is), grind (arith, nat_tests, is))

one_of : (a b n d : ℕ) → (if nat_lt b a then b else a) ≡ d → n ≤ a → n ≤ b → n ≤ d
one_of a b n d is left right = grind (arith, nat_tests, is, left, right)

lower_some : (n d : ℕ) (l m : List Change) → lower l m ≡ Some d → IsFrom n l → IsFrom n m → (n ≤ d) × (IsFrom d l × IsFrom d m)
lower_some n d [] [] is h k = absurd (cc is)
lower_some n d [] (b ∷ ys) is h k = let same : b.id ≡ d = cc is in (omega (arith, k.0, same), (tt, (omega (arith, same), k.1)))
lower_some n d (a ∷ xs) [] is h k = let same : a.id ≡ d = cc is in (omega (arith, h.0, same), ((omega (arith, same), h.1), tt))
lower_some n d (a ∷ xs) (b ∷ ys) is h k =
    let same : (if nat_lt b.id a.id then b.id else a.id) ≡ d = cc is in
    let least = lesser a.id b.id d same in
    (one_of a.id b.id n d same h.0 k.0, ((least.0, h.1), (least.1, k.1)))

lower_none : (l m : List Change) → lower l m ≡ None → (l ≡ []) × (m ≡ [])
lower_none [] [] is = (refl, refl)
lower_none [] (b ∷ ys) is = absurd (cc is)
lower_none (a ∷ xs) [] is = absurd (cc is)
lower_none (a ∷ xs) (b ∷ ys) is = absurd (cc is)

-- ---- changes below a number

pub record ChangesBelow (n : ℕ) (before after : ℕ → Told) (cs : List Change) : Type 0 where
  pub new : (i : ℕ) (c : Change) → slice_get cs i ≡ Some c → (c.now ≡ after c.id) × (before c.id ≢ after c.id)
  pub each : (d : ℕ) → d < n → before d ≢ after d → (i : ℕ) × (slice_get cs i ≡ Some (record { id = d; now = after d }))
  pub rising : AreRising cs
  pub below : (i : ℕ) (c : Change) → slice_get cs i ≡ Some c → c.id < n

abbrev change_with : ℕ → Told → Change
change_with id now = record { id = id; now = now }

nothing : (before after : ℕ → Told) → ChangesBelow 0 before after []
nothing before after = record {
  new = λ i c h. absurd (cc h);
  each = λ d h other. absurd (omega (arith, h));
  rising = λ i l a b less h k. absurd (cc h);
  below = λ i c h. absurd (cc h);
}

-- where both say the same of the numbers between
idle : (n d : ℕ) (before after : ℕ → Told) (cs : List Change) → n ≤ d → ((q : ℕ) → n ≤ q → q < d → before q ≡ after q) →
    ChangesBelow n before after cs → ChangesBelow d before after cs
idle n d before after cs le same so_far = record {
  new = so_far.new;
  each = λ q h other. ⊎_elim {C = (i : ℕ) × (slice_get cs i ≡ Some (change_with q (after q)))} (λ less. so_far.each q less other)
      (λ past. absurd (other (same q past h))) (cases_lt q n);
  rising = so_far.rising;
  below = λ i c h. let b = so_far.below i c h in omega (arith, b, le);
}

skipped : (n : ℕ) (before after : ℕ → Told) (cs : List Change) → before n ≡ after n →
    ChangesBelow n before after cs → ChangesBelow (n + 1) before after cs
skipped n before after cs same so_far = idle n (n + 1) before after cs (omega arith)
    (λ q past less. let here : n ≡ q = omega (arith, past, less) in subst (λ (k : ℕ). before k ≡ after k) here same) so_far

pushed : (n : ℕ) (before after : ℕ → Told) (cs : List Change) → before n ≢ after n →
    ChangesBelow n before after cs → ChangesBelow (n + 1) before after (cs ++ change_with n (after n) ∷ [])
pushed n before after cs differs so_far = record {
  new = λ i c h. ⊎_elim {C = (c.now ≡ after c.id) × (before c.id ≢ after c.id)} (λ p. so_far.new i c p)
      (λ p. subst (λ (x : Change). (x.now ≡ after x.id) × (before x.id ≢ after x.id)) p.1 (refl, differs)) (data_at cs one c i h);
  each = λ d h other. at d h other (cases_eq d n);
  rising = λ i l a b less h k. rise i l a b less (data_at cs one a i h) (data_at cs one b l k);
  below = λ i c h. ⊎_elim {C = c.id < n + 1} (λ p. let b = so_far.below i c p in omega (arith, b))
      (λ p. subst (λ (x : Change). x.id < n + 1) p.1 (omega arith)) (data_at cs one c i h);
}
  where
    one : Change
    one = change_with n (after n)

    at : (d : ℕ) → d < n + 1 → before d ≢ after d → (d ≡ n) ⊎ (d ≡ n → ⊥) →
        (i : ℕ) × (slice_get (cs ++ one ∷ []) i ≡ Some (change_with d (after d)))
    at d h other (inl e) = (length cs, last_at cs one ∙ ap (λ (k : ℕ). Some (change_with k (after k))) (sym e))
    at d h other (inr ne) =
        let found = so_far.each d (omega (arith, h, ne)) other in
        (found.0, get_before cs (one ∷ []) found.0 (get_below cs found.0 _ found.1) ∙ found.1)

    rise : (i l : ℕ) (a b : Change) → i < l → (slice_get cs i ≡ Some a) ⊎ ((i ≡ length cs) × (one ≡ a)) →
        (slice_get cs l ≡ Some b) ⊎ ((l ≡ length cs) × (one ≡ b)) → a.id < b.id
    rise i l a b less (inl h) (inl k) = so_far.rising i l a b less h k
    rise i l a b less (inl h) (inr k) = subst (λ (x : Change). a.id < x.id) k.1 (so_far.below i a h)
    rise i l a b less (inr h) (inl k) = let under = get_below cs l b k in let at_end = h.0 in absurd (omega (arith, under, at_end, less))
    rise i l a b less (inr h) (inr k) = let first = h.0 in let second = k.0 in absurd (omega (arith, first, second, less))

-- ---- two lists, from the lower numbers on

-- the changes up to a number, from which on nothing of the lists is gone
pub record Merged (before after : ℕ → Told) (l m cs : List Change) : Type 0 where
  pub n : ℕ
  pub changes : ChangesBelow n before after cs
  pub old : Left n before l
  pub new : Left n after m

pub begun : (l m : List Change) → IsFrom 0 l → IsFrom 0 m → Merged (told_at l) (told_at m) l m []
begun l m h k = record {
  n = 0;
  changes = nothing (told_at l) (told_at m);
  old = record { from = h; same = λ d le. refl };
  new = record { from = k; same = λ d le. refl };
}

module _ (before after : ℕ → Told) (l m cs : List Change) (d : ℕ) (is : lower l m ≡ Some d) (so_far : Merged before after l m cs) where
  at_least : so_far.n ≤ d
  at_least = (lower_some so_far.n d l m is so_far.old.from so_far.new.from).0

  both_from : IsFrom d l × IsFrom d m
  both_from = (lower_some so_far.n d l m is so_far.old.from so_far.new.from).1

  was : first_at l d ≡ before d
  was = first_told so_far.n d before l at_least both_from.0 so_far.old

  holds : first_at m d ≡ after d
  holds = first_told so_far.n d after m at_least both_from.1 so_far.new

  up_to : ChangesBelow d before after cs
  up_to = idle so_far.n d before after cs at_least
      (λ q past less. sym (so_far.old.same q past) ∙ gone_below d l both_from.0 q less ∙ sym (gone_below d m both_from.1 q less)
      ∙ so_far.new.same q past) so_far.changes

  further : (ys : List Change) → ChangesBelow (d + 1) before after ys → Merged before after (without l d) (without m d) ys
  further ys changes = record {
    n = d + 1;
    changes = changes;
    old = left_further so_far.n d before l at_least both_from.0 so_far.old;
    new = left_further so_far.n d after m at_least both_from.1 so_far.new;
  }

  pub merged_skipped : is_same (first_at m d) (first_at l d) ≡ true → Merged before after (without l d) (without m d) cs
  merged_skipped alike =
      further cs (skipped d before after cs (sym was ∙ sym (same_told (first_at m d) (first_at l d) alike) ∙ holds) up_to)

  pub merged_pushed : is_same (first_at m d) (first_at l d) ≡ false →
      Merged before after (without l d) (without m d) (cs ++ change_with d (first_at m d) ∷ [])
  merged_pushed differs =
      subst (λ (t : Told). Merged before after (without l d) (without m d) (cs ++ change_with d t ∷ [])) (sym holds)
      (further _ (pushed d before after cs
      (λ e. other_told (first_at m d) (first_at l d) differs (holds ∙ sym e ∙ sym was)) up_to))

pub merged : (before after : ℕ → Told) (l m cs : List Change) → lower l m ≡ None → Merged before after l m cs → AreChanges before after cs
merged before after l m cs is so_far = record {
  new = so_far.changes.new;
  each = λ d other. ⊎_elim {C = (i : ℕ) × (slice_get cs i ≡ Some (change_with d (after d)))} (λ less. so_far.changes.each d less other)
      (λ past. absurd (other (sym (so_far.old.same d past) ∙ ap (λ (x : List Change). told_at x d) (none.0 ∙ sym none.1)
      ∙ so_far.new.same d past))) (cases_lt d so_far.n);
  rising = so_far.changes.rising;
}
  where
    none : (l ≡ []) × (m ≡ [])
    none = lower_none l m is

fewer : (d : ℕ) (l : List Change) → length (without l d) ≤ length l
fewer d [] = omega arith
fewer d (c ∷ cs) = elim (cases_eq c.id d) [
  | inl e ↦ rw (eq-eqb c.id d e) (omega arith)
  | inr ne ↦ rw (ne_eqb c.id d ne) (omega arith)
]

less_by_one : (d : ℕ) (c : Change) (cs : List Change) → c.id ≡ d → length (without (c ∷ cs) d) < length (c ∷ cs)
less_by_one d c cs e = rw (eq-eqb c.id d e) (omega arith)

-- each turn takes one off at least
pub shorter : (d : ℕ) (l m : List Change) → lower l m ≡ Some d → length (without l d) + length (without m d) < length l + length m
shorter d [] [] is = absurd (cc is)
shorter d [] (b ∷ ys) is = let less = less_by_one d b ys (cc is) in omega (arith, less)
shorter d (a ∷ xs) [] is = let less = less_by_one d a xs (cc is) in omega (arith, less)
shorter d (a ∷ xs) (b ∷ ys) is =
    let same : (if nat_lt b.id a.id then b.id else a.id) ≡ d = cc is in
    let either : (a.id ≡ d) ⊎ (b.id ≡ d) = grind (arith, nat_tests, same) in
    elim either [
      | inl e ↦ let less = less_by_one d a xs e in let other = fewer d (b ∷ ys) in omega (arith, less, other)
      | inr e ↦ let less = less_by_one d b ys e in let other = fewer d (a ∷ xs) in omega (arith, less, other)
    ]

-- ---- what holds of all that is there

told_in : (S : State) (d : ℕ) (ids : List ℕ) (k : ℕ) → k < length ids → slice_index_or ids k d ≡ d → told_at (map (change_of S) ids) d ≡ told S d
told_in S d [] k h e = absurd (omega (arith, h))
told_in S d (x ∷ xs) zero h e = rw (eq-eqb x d e) (ap (told S) e)
told_in S d (x ∷ xs) (suc k) h e = elim (cases_eq x d) [
  | inl same ↦ rw (eq-eqb x d same) (ap (told S) same)
  | inr ne ↦ rw (ne_eqb x d ne) (told_in S d xs k (omega (arith, h)) e)
]

told_out : (S : State) (d : ℕ) (ids : List ℕ) → (Contains ids d → ⊥) → told_at (map (change_of S) ids) d ≡ gone
told_out S d [] none = refl
told_out S d (x ∷ xs) none =
    rw (ne_eqb x d (λ e. none (0, omega arith, e))) (told_out S d xs (λ c. none (suc c.0, omega (arith, c.1), c.2)))

pub told_listed : (S : State) (ids : List ℕ) → Lists S.descriptions ids → (d : ℕ) → told_at (map (change_of S) ids) d ≡ told S d
told_listed S ids lists d = go (description_at S d) refl
  where
    go : (o : Option Description) → description_at S d ≡ o → told_at (map (change_of S) ids) d ≡ told S d
    go None e = told_out S d ids (λ c. let there : IsSome (description_at S d) = (lists.there d).0 c in absurd (cc (sym (ap is_some e) ∙ there)))
        ∙ sym (told_gone S d e)
    go (Some D) e = let found : Contains ids d = (lists.there d).1 (ap is_some e) in told_in S d ids found.0 found.1 found.2

rises : (S : State) (n : ℕ) (ids : List ℕ) → IsStrictlySortedBy nat_cmp ids → (0 < length ids → n ≤ slice_index_or ids 0 n) → IsFrom n (map (change_of S) ids)
rises S n [] up first = tt
rises S n (x ∷ []) up first = (first (omega arith), tt)
rises S n (x ∷ y ∷ ys) up first = (
  first (omega arith),
  rises S (x + 1) (y ∷ ys) (sorted_tail nat_cmp x (y ∷ ys) up)
      (λ some. let next = below_from_sorted (x ∷ y ∷ ys) 0 1 0 up (omega arith) (omega arith) in omega (arith, next)),
)

pub listed_rises : (S : State) (ids : List ℕ) → Lists S.descriptions ids → IsFrom 0 (map (change_of S) ids)
listed_rises S ids lists = rises S 0 ids (sorted_from_strictly_increasing ids lists.rising) (λ some. omega arith)

-- ---- of a state

pub are_new : (last now : ℕ → Told) (S : State) (cs : List Change) → ((d : ℕ) → now d ≡ told S d) → AreChanges last now cs → AreNew last S cs
are_new last now S cs holds changes = λ i c h.
    let found = changes.new i c h in (found.0 ∙ holds c.id, λ e. found.1 (e ∙ sym (holds c.id)))

pub has_each : (last now : ℕ → Told) (S : State) (cs : List Change) → ((d : ℕ) → now d ≡ told S d) → AreChanges last now cs →
    HasEachNew last S cs
has_each last now S cs holds changes = λ d other.
    let found = changes.each d (λ e. other (e ∙ holds d)) in
    (found.0, found.1 ∙ ap (λ (t : Told). Some (change_with d t)) (holds d))

-- ---- as the program has them

module _ (before after : ℕ → Told) (l m left right cs ys : List Change) (r : Option ℕ) (d : ℕ) (now seen : Told) (same : Bool)
    (least : r ≡ lower l m) (is : r ≡ Some d) (holds : now ≡ first_at m d) (was : seen ≡ first_at l d) (tells : same ≡ is_same now seen)
    (first : left ≡ without l d) (second : right ≡ without m d) (so_far : Merged before after l m cs) where
  alike : is_same (first_at m d) (first_at l d) ≡ same
  alike = ap (λ (t : Told). is_same t (first_at l d)) (sym holds) ∙ ap (is_same now) (sym was) ∙ sym tells

  moved : (xs : List Change) → Merged before after (without l d) (without m d) xs → ys ≡ xs → Merged before after left right ys
  moved xs made e =
      subst (λ (x : List Change). Merged before after x right ys) (sym first)
      (subst (λ (x : List Change). Merged before after (without l d) x ys) (sym second)
      (subst (λ (x : List Change). Merged before after (without l d) (without m d) x) (sym e) made))

  pub pushed_as : same ≡ false → ys ≡ cs ++ change_with d now ∷ [] → Merged before after left right ys
  pushed_as differs e = moved _ (merged_pushed before after l m cs d (sym least ∙ is) so_far (alike ∙ differs))
      (e ∙ ap (λ (t : Told). cs ++ change_with d t ∷ []) holds)

  pub skipped_as : same ≡ true → ys ≡ cs → Merged before after left right ys
  skipped_as one e = moved cs (merged_skipped before after l m cs d (sym least ∙ is) so_far (alike ∙ one)) e

module _ (S : State) (ids : List ℕ) (all : List Change) (i : ℕ) (lists : Lists S.descriptions ids)
    (is : all ≡ map (change_of S) (take i ids)) (past : length ids ≤ i) where
  each_id : all ≡ map (change_of S) ids
  each_id = is ∙ ap (map (change_of S)) (take_all i ids past)

  pub told_all : (d : ℕ) → told_at all d ≡ told S d
  told_all d = ap (λ (l : List Change). told_at l d) each_id ∙ told_listed S ids lists d

  pub all_rises : IsFrom 0 all
  all_rises = subst (IsFrom 0) (sym each_id) (listed_rises S ids lists)
