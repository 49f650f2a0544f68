-- Which file objects are settled, when what leads to them changes.
use Rattle.std.proofs.Common.{◌≡◌, ◌≢◌, ℕ, zero, suc, ◌<◌, ◌≤◌, Bool, true, false, ◌&&◌, eqb, List, []}
use Rattle.std.proofs.Common.{◌∷◌, length, get_or, set, Option, Some, None, is_some, refl, sym, ◌∙◌, ap, arith}
use Rattle.std.proofs.lemmas.Bool.{ne_eqb, eq-eqb, eqb-true}
use Rattle.std.proofs.lemmas.List.{get_or_read}
use Rattle.ux_model.specs.Limits.{raised_object_limit}
use Rattle.ux_model.specs.Flags.{can_read, can_write}
use Rattle.ux_model.specs.Places.{place}
use Rattle.ux_model.specs.Names.{PathTarget, file, bound}
use Rattle.ux_model.specs.Object.{View}
use Rattle.ux_model.specs.Description.{Description, Target, to_object, to_socket, object_of}
use Rattle.ux_model.specs.References.{leads_to}
use Rattle.ux_model.specs.FileObjects.{is_opening}
use Rattle.ux_number_sets.specs.Sets.{has_number, PutsNumber, IsEmptySet}
use Rattle.ux_state.specs.declared.openings.Openings.{Openings}
use Rattle.ux_state.specs.Counting.{none_open, counts_of, one_if, CountsOneMore}
use Rattle.ux_state.specs.Links.{links_of, link_at, LosesLink}
use Rattle.ux_slots.specs.Held.{Held}
use Rattle.ux_model.specs.State.{State}
use Rattle.ux_state.specs.Keeping.{IsState}
use Rattle.ux_state.specs.Settling.{is_loose, AreSettled, LooksAgain, file_of}

-- ---- numbers of a set

pub has_within : (ns : List Bool) (n : ℕ) → has_number ns n ≡ true → n < length ns
has_within [] n h = absurd (cc h)
has_within (b ∷ ns) zero h = omega arith
has_within (b ∷ ns) (suc n) h = let less = has_within ns n h in omega (arith, less)

-- ---- what is loose

zero_of : (n : ℕ) → eqb n 0 ≡ true → n ≡ 0
zero_of zero h = refl
zero_of (suc n) h = absurd (cc (h, ne_eqb (suc n) 0 (λ e. omega (arith, e))))

is_zero : (n : ℕ) → n ≡ 0 → eqb n 0 ≡ true
is_zero n e = ap (λ m. eqb m 0) e

both : (a b : Bool) → (a && b) ≡ true → (a ≡ true) × (b ≡ true)
both true b h = (refl, h)
both false b h = absurd (cc h)

three : (a b c : Bool) → a ≡ true → b ≡ true → c ≡ true → (a && (b && c)) ≡ true
three a b c x y z = λ j. x j && (y j && z j)

pub loose_counts : (xs : List Openings) (ls : List ℕ) (o : ℕ) → is_loose xs ls o ≡ true →
    ((counts_of xs o).readers ≡ 0) × (((counts_of xs o).writers ≡ 0) × (links_of ls o ≡ 0))
loose_counts xs ls o h =
    let a = both (eqb (counts_of xs o).readers 0) _ h in
    let b = both (eqb (counts_of xs o).writers 0) _ a.1 in
    (zero_of _ a.0, (zero_of _ b.0, zero_of _ b.1))

pub counts_loose : (xs : List Openings) (ls : List ℕ) (o : ℕ) → (counts_of xs o).readers ≡ 0 → (counts_of xs o).writers ≡ 0 →
    links_of ls o ≡ 0 → is_loose xs ls o ≡ true
counts_loose xs ls o a b c = three _ _ _ (is_zero _ a) (is_zero _ b) (is_zero _ c)

-- ---- what stays settled

not_both : (a b c d : Bool) → (a ≡ true → b ≡ true → (c ≡ true) × (d ≡ true)) → (c && d) ≡ false → (a && b) ≡ false
not_both false b c d f e = refl
not_both true false c d f e = refl
not_both true true c d f e = let both = f refl refl in absurd (cc (e, both.0, both.1))

-- of each number that is left, the object was there before, and loose before, if it is so now
pub settled_kept : (ks ns : List Bool) (xs ys : List Openings) (ls ms : List ℕ) (os us : List (Option View)) → AreSettled ks xs ls os →
    length ns ≡ length ks →
    ((o : ℕ) → has_number ns o ≡ true → has_number ks o ≡ true) →
    ((o : ℕ) → has_number ns o ≡ true → is_some (place us o) ≡ true → is_some (place os o) ≡ true) →
    ((o : ℕ) → has_number ns o ≡ true → is_loose ys ms o ≡ true → is_loose xs ls o ≡ true) → AreSettled ns ys ms us
settled_kept ks ns xs ys ls ms os us settled long fewer there loose = record {
  long = long ∙ settled.long;
  held = λ o h. not_both (is_some (place us o)) (is_loose ys ms o) (is_some (place os o)) (is_loose xs ls o)
      (λ a b. (there o h a, loose o h b)) (settled.held o (fewer o h));
}

-- objects that are read, written or taken out
pub settled_objects : (ks : List Bool) (xs : List Openings) (ls : List ℕ) (os us : List (Option View)) → AreSettled ks xs ls os →
    ((o : ℕ) → is_some (place us o) ≡ true → is_some (place os o) ≡ true) → AreSettled ks xs ls us
settled_objects ks xs ls os us settled there =
    settled_kept ks ks xs xs ls ls os us settled refl (λ o h. h) (λ o h. there o) (λ o h l. l)

-- one place set, where something was, or to nothing
pub set_there : (os : List (Option View)) (i : ℕ) (y : Option View) → (is_some y ≡ true → is_some (place os i) ≡ true) →
    (o : ℕ) → is_some (place (set os i y) o) ≡ true → is_some (place os o) ≡ true
set_there [] i y f o h = h
set_there (x ∷ os) zero y f zero h = f h
set_there (x ∷ os) zero y f (suc o) h = h
set_there (x ∷ os) (suc i) y f zero h = h
set_there (x ∷ os) (suc i) y f (suc o) h = set_there os i y f o h

-- a place that has counts, or one that has none
pub by_counts : {P : Type 0} (xs : List Openings) (o : ℕ) → (o < length xs → P) → (length xs ≤ o → counts_of xs o ≡ none_open → P) → P
by_counts [] o f g = g (omega arith) refl
by_counts (x ∷ xs) zero f g = f (omega arith)
by_counts (x ∷ xs) (suc o) f g = by_counts xs o (λ h. f (omega (arith, h))) (λ h. g (omega (arith, h)))

pub by_links : {P : Type 0} (ls : List ℕ) (o : ℕ) → (o < length ls → P) → (length ls ≤ o → links_of ls o ≡ 0 → P) → P
by_links [] o f g = g (omega arith) refl
by_links (l ∷ ls) zero f g = f (omega arith)
by_links (l ∷ ls) (suc o) f g = by_links ls o (λ h. f (omega (arith, h))) (λ h. g (omega (arith, h)))

pub beyond_none : (xs : List Openings) (o : ℕ) → length xs ≤ o → counts_of xs o ≡ none_open
beyond_none xs o beyond = by_counts xs o (λ inside. absurd (omega (arith, beyond, inside))) (λ _ none. none)

pub beyond_zero : (ls : List ℕ) (o : ℕ) → length ls ≤ o → links_of ls o ≡ 0
beyond_zero ls o beyond = by_links ls o (λ inside. absurd (omega (arith, beyond, inside))) (λ _ none. none)

loose_beyond : (xs : List Openings) (ls : List ℕ) (o : ℕ) → counts_of xs o ≡ none_open → links_of ls o ≡ 0 → is_loose xs ls o ≡ true
loose_beyond xs ls o none unlinked =
    counts_loose xs ls o (ap (λ (x : Openings). x.readers) none) (ap (λ (x : Openings). x.writers) none) unlinked

-- a description more
pub settled_more : (ks : List Bool) (xs ys : List Openings) (ls : List ℕ) (os : List (Option View)) (D : Description) →
    AreSettled ks xs ls os → CountsOneMore D xs ys → AreSettled ks ys ls os
settled_more ks xs ys ls os D settled more =
    settled_kept ks ks xs ys ls ls os os settled refl (λ o h. h) (λ o h there. there)
    (λ o h loose.
    let zero = loose_counts ys ls o loose in
    by_counts xs o
    (λ inside.
    let r = more.readers o inside in
    let w = more.writers o inside in
    counts_loose xs ls o (omega (arith, r, zero.0)) (omega (arith, w, zero.1.0)) zero.1.1)
    (λ beyond none. loose_beyond xs ls o none zero.1.1))

pub leads_away : (o : ℕ) (t : Target) → (object_of t ≡ Some o → ⊥) → leads_to o t ≡ false
leads_away o (to_object n) f = ne_eqb n o (λ e. f (ap Some e))
leads_away o (to_socket s) f = refl

no_number : (ns : List Bool) (o : ℕ) → has_number ns o ≡ true → has_number ns o ≡ false → ⊥
no_number ns o h k = absurd (cc (h, k))

-- a description less, whose object is looked at again
pub settled_less : (ks ns : List Bool) (xs ys : List Openings) (ls : List ℕ) (os : List (Option View)) (D : Description) →
    AreSettled ks xs ls os → CountsOneMore D ys xs → LooksAgain (object_of D.target) ks ns → AreSettled ns ys ls os
settled_less ks ns xs ys ls os D settled more again =
    settled_kept ks ns xs ys ls ls os os settled again.long again.others (λ o h there. there)
    (λ o h loose.
    let away : leads_to o D.target ≡ false = leads_away o D.target (λ e. no_number ns o h (again.this o e)) in
    let zero = loose_counts ys ls o loose in
    let no_reader : one_if (is_opening can_read o (Some D)) ≡ 0 = ap (λ b. one_if (b && can_read D.mode)) away in
    let no_writer : one_if (is_opening can_write o (Some D)) ≡ 0 = ap (λ b. one_if (b && can_write D.mode)) away in
    by_counts xs o
    (λ inside.
    let within : o < length ys = let long = more.long in omega (arith, inside, long) in
    let r = more.readers o within in
    let w = more.writers o within in
    counts_loose xs ls o (omega (arith, r, zero.0, no_reader)) (omega (arith, w, zero.1.0, no_writer)) zero.1.1)
    (λ beyond none. loose_beyond xs ls o none zero.1.1))

names_another : (o : ℕ) (target : Option PathTarget) → (file_of target ≡ Some o → ⊥) → link_at o target ≡ 0
names_another o None f = refl
names_another o (Some (file n)) f = ap one_if (ne_eqb n o (λ e. f (ap Some e)))
names_another o (Some (bound d)) f = refl

-- a path less, whose object is looked at again
pub settled_unlinked : (ks ns : List Bool) (xs : List Openings) (ls ms : List ℕ) (os : List (Option View)) (target : Option PathTarget) →
    AreSettled ks xs ls os → LosesLink target ls ms → LooksAgain (file_of target) ks ns → AreSettled ns xs ms os
settled_unlinked ks ns xs ls ms os target settled less again =
    settled_kept ks ns xs xs ls ms os os settled again.long again.others (λ o h there. there)
    (λ o h loose.
    let another = names_another o target (λ e. no_number ns o h (again.this o e)) in
    let zero = loose_counts xs ms o loose in
    by_links ls o
    (λ inside. let l = less.counts o inside in counts_loose xs ls o zero.0 zero.1.0 (omega (arith, l, zero.1.1, another)))
    (λ beyond none. counts_loose xs ls o zero.0 zero.1.0 none))

-- none is settled
pub none_settled : (ks : List Bool) (xs : List Openings) (ls : List ℕ) (os : List (Option View)) (n : ℕ) → IsEmptySet n ks →
    n ≡ raised_object_limit → AreSettled ks xs ls os
none_settled ks xs ls os n empty each = record {
  long = empty.len ∙ each;
  held = λ o h. absurd (cc (h, empty.none o));
}

pub by_case : {P : Type 0} (b : Bool) (o i : ℕ) → eqb o i ≡ b → (o ≡ i → P) → (o ≢ i → P) → P
by_case true o i h same other = same (eqb-true o i h)
by_case false o i h same other = other (λ e. absurd (cc (h, eq-eqb o i e)))

-- one more
pub settled_one : (ks ns : List Bool) (i : ℕ) (xs : List Openings) (ls : List ℕ) (os : List (Option View)) → AreSettled ks xs ls os →
    PutsNumber ks ns i true → (is_some (place os i) && is_loose xs ls i) ≡ false → AreSettled ns xs ls os
settled_one ks ns i xs ls os settled puts here = record {
  long = puts.same_length ∙ settled.long;
  held = λ o h. by_case (eqb o i) o i refl (λ e. ap (λ k. is_some (place os k) && is_loose xs ls k) e ∙ here)
      (λ ne. settled.held o (sym (puts.others o ne) ∙ h));
}

-- a look is recorded
pub looked_kept : {ks ns : List Bool} {fs : ℕ → ℕ} (xs : List Openings) (ls : List ℕ) (H : Held Description) (S : State)
    (o : ℕ) → IsState ks xs ls H fs S → PutsNumber ks ns o true → (is_some (place S.objects o) && is_loose xs ls o) ≡ false →
    IsState ns xs ls H fs S
looked_kept {ks = ks} {ns = ns} xs ls H S o state puts none = record {
  few_objects = state.few_objects;
  few_processes = state.few_processes;
  one_each = state.one_each;
  link_each = state.link_each;
  opened = state.opened;
  linked = state.linked;
  settled = settled_one ks ns o xs ls S.objects state.settled puts none;
  counted = state.counted;
  flying = state.flying;
  paired = state.paired;
  owned = state.owned;
}

-- what stands at a place
pub there_is : (os : List (Option View)) (o : ℕ) (x : Option View) → o < length os → x ≡ get_or os o x → x ≡ place os o
there_is os o x inside e = get_or_read os o x inside e None
