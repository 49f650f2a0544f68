-- Each step keeps what the tokens know.
use Rattle.std.proofs.Common.{◌≡◌, ◌≢◌, ◌⊎◌, ℕ, zero, suc, ◌+◌, ◌<◌, ◌==◌, List, [], ◌∷◌, ◌++◌, length, set, Some, Bool, true, false}
use Rattle.std.proofs.Common.{true≢false, refl, sym, ap, ◌∙◌, subst, ⊎_elim, inl, inr, arith}
use Rattle.std.specs.Prelude.{if◌then◌else◌, Option}
use Rattle.std.specs.List.{slice_get}
use Rattle.std.proofs.lemmas.Bool.{eq-eqb, ne_eqb}
use mathlib.Core.Option.{some, some-ne-none, some-injective}
use lib.ListN.{get_elem?}
use Rattle.atomic_table.specs.Seated.{TableId}
use Rattle.atomic_table.proofs.Lists.{at_set, set_again}
use Rattle.ux_model.specs.Types.{Request, Reply, Entry}
use Rattle.ux_book.specs.declared.call.Call.{Call}
use Rattle.ux_book.specs.declared.trail.Known.{Known}
use Rattle.ux_book.specs.Pasts.{call_of, calls_by}
use Rattle.ux_book.specs.Trails.{Placed, knower, claim, nobody, rest_of, own_of, opened, next_owner, place_of, last_of, before_last}
use Rattle.ux_book.specs.Trails.{claim_if, last_claim, owner_of, taking_in, Fits, Kept, noted, unclaimed, Checked}
use Rattle.ux_book.proofs.Pasts.{calls_more, calls_same}

pub length-before_last : (xs : List Entry) (x : Entry) → before_last (xs ++ x ∷ []) ≡ length xs
length-before_last [] x = refl
length-before_last (y ∷ []) x = refl
length-before_last (y ∷ z ∷ xs) x = ap suc (length-before_last (z ∷ xs) x)

pub last_of-push : (xs : List Entry) (x : Entry) → last_of (xs ++ x ∷ []) ≡ x
last_of-push [] x = refl
last_of-push (y ∷ []) x = refl
last_of-push (y ∷ z ∷ xs) x = last_of-push (z ∷ xs) x

at_last : (x : Entry) (xs : List Entry) → slice_get (x ∷ xs) (before_last (x ∷ xs)) ≡ Some (last_of (x ∷ xs))
at_last x [] = refl
at_last x (y ∷ ys) = at_last y ys

slice_get_front : (xs ys : List Entry) (k : ℕ) (p : Entry) → slice_get xs k ≡ Some p → slice_get (xs ++ ys) k ≡ Some p
slice_get_front [] ys k p e = absurd (cc)
slice_get_front (x ∷ xs) ys zero p e = e
slice_get_front (x ∷ xs) ys (suc k) p e = slice_get_front xs ys k p e

-- what holds of each view where one was changed
each_set : (Q : ℕ → Known → Type 0) (views : List Known) (by : ℕ) (w : Known) →
    ((j : ℕ) (u : Known) → j ≢ by → get_elem? views j ≡ some u → Q j u) → Q by w → (j : ℕ) (u : Known) →
    get_elem? (set views by w) j ≡ some u → Q j u
each_set Q views by w others mine j u e =
    ⊎_elim {C = Q j u}
    (λ (x : (j ≡ by) × (w ≡ u)). subst (λ (y : ℕ × Known). Q y.0 y.1) (λ i. (sym x.0 i, x.1 i)) mine)
    (λ (x : (j ≢ by) × (get_elem? views j ≡ some u)). others j u x.0 x.1)
    (at_set views by j w u e)

at_push : (l : List Known) (a b : Known) (j : ℕ) → get_elem? (l ++ a ∷ []) j ≡ some b →
    (get_elem? l j ≡ some b) ⊎ ((j ≡ length l) × (a ≡ b))
at_push [] a b zero e = inr (refl, some-injective a b e)
at_push [] a b (suc j) e = absurd (some-ne-none b (sym e))
at_push (x ∷ xs) a b zero e = inl e
at_push (x ∷ xs) a b (suc j) e =
    ⊎_elim {C = (get_elem? xs j ≡ some b) ⊎ ((suc j ≡ suc (length xs)) × (a ≡ b))} (λ t. inl t)
    (λ (t : (j ≡ length xs) × (a ≡ b)). inr (ap suc t.0, t.1)) (at_push xs a b j e)

-- and where one was added
each_push : (Q : ℕ → Known → Type 0) (views : List Known) (w : Known) → ((j : ℕ) (u : Known) → get_elem? views j ≡ some u → Q j u) →
    Q (length views) w → (j : ℕ) (u : Known) → get_elem? (views ++ w ∷ []) j ≡ some u → Q j u
each_push Q views w others new j u e =
    ⊎_elim {C = Q j u}
    (λ (x : get_elem? views j ≡ some u). others j u x)
    (λ (x : (j ≡ length views) × (w ≡ u)). subst (λ (y : ℕ × Known). Q y.0 y.1) (λ i. (sym x.0 i, x.1 i)) new)
    (at_push views w u j e)

off : {A : Type 0} → false ≡ true → A
off e = absurd (true≢false (sym e))

-- the token of a process lies elsewhere
abbrev moved : (ℕ → ℕ) → ℕ → ℕ → ℕ → ℕ
moved owner p n q = if q == p then n else owner q

moved_here : (owner : ℕ → ℕ) (p n q : ℕ) → q ≡ p → n ≡ moved owner p n q
moved_here owner p n q is = sym (ap (λ (b : Bool). if b then n else owner q) (eq-eqb q p is))

moved_else : (owner : ℕ → ℕ) (p n q : ℕ) → q ≢ p → owner q ≡ moved owner p n q
moved_else owner p n q is = sym (ap (λ (b : Bool). if b then n else owner q) (ne_eqb q p is))

pub begins : Kept (knower [] 0 ∷ [])
begins = record { seat = 0; log = []; count = 0; owner = λ _. 0; fits = one }
  where
    first : Fits 0 [] 0 (λ _. 0) 0 (knower [] 0)
    first = record { keeps = λ _. (refl, refl, refl); claims = λ c. off c; owns = λ o. off o }

    one : (by : ℕ) (v : Known) → get_elem? (knower [] 0 ∷ []) by ≡ some v → Fits 0 [] 0 (λ _. 0) by v
    one zero v e = subst (Fits 0 [] 0 (λ _. 0) 0) (some-injective _ _ e) first
    one (suc by) v e = absurd (some-ne-none v (sym e))

-- who knows the whole, and its process's calls, adds an entry
pub adds : (views : List Known) (by : ℕ) (v : Known) (e : Entry) → v.keeps ≡ true → v.owns ≡ true → e.pid.0 ≡ v.pid → Kept views →
    get_elem? views by ≡ some v → Kept (set views by (noted v e))
adds views by v e whole own is h at =
    let mine = h.fits by v at in
    let known = mine.keeps whole in
    let owned = mine.owns own in
    let log = h.log ++ e ∷ [] in
    record {
      seat = h.seat;
      log = log;
      count = h.count;
      owner = h.owner;
      fits = each_set (Fits h.seat log h.count h.owner) views by (noted v e)
          (λ j u apart there.
          let theirs = h.fits j u there in
          record {
            keeps = λ k. absurd (apart ((theirs.keeps k).0 ∙ sym known.0));
            claims = λ c. slice_get_front h.log (e ∷ []) u.number u.entry (theirs.claims c);
            owns = λ o.
                let t = theirs.owns o in
                let other : e.pid.0 ≢ u.pid = λ same. apart (t.0 ∙ ap h.owner (sym same ∙ is) ∙ sym owned.0) in
                (t.0, t.1, t.2 ∙ sym (calls_same u.pid h.log e other));
          })
          (record {
            keeps = λ _. (known.0, ap (λ (l : List Entry). l ++ e ∷ []) known.1, known.2);
            claims = λ c. slice_get_front h.log (e ∷ []) v.number v.entry (mine.claims c);
            owns = λ _. (owned.0, owned.1, ap (λ l. l ++ call_of e ∷ []) owned.2 ∙ sym (calls_more v.pid h.log e is));
          });
    }

-- who knows the whole compares what it took in
pub checks : (views : List Known) (by : ℕ) (v : Known) → v.keeps ≡ true → Kept views → get_elem? views by ≡ some v →
    Kept (set views by (unclaimed v)) × Checked v (unclaimed v)
checks views by v whole h at =
    let mine = h.fits by v at in
    let known = mine.keeps whole in (
      record {
        seat = h.seat;
        log = h.log;
        count = h.count;
        owner = h.owner;
        fits = each_set (Fits h.seat h.log h.count h.owner) views by (unclaimed v) (λ j u apart there. h.fits j u there)
            (record { keeps = λ _. known; claims = λ c. off c; owns = λ o. mine.owns o });
      },
      record {
        after = refl;
        place = λ c. subst (λ (l : List Entry). slice_get l v.number ≡ Some v.entry) (sym known.1) (mine.claims c);
        own = λ o. (
          subst (λ (n : ℕ). v.pid < n) (sym known.2) (mine.owns o).1,
          (mine.owns o).2
              ∙ ap (λ (l : List Entry). calls_by v.pid l) (sym known.1),
        );
      },
    )

-- a token for one process more
pub opens : (views : List Known) (by : ℕ) (v : Known) → v.keeps ≡ true → Kept views → get_elem? views by ≡ some v →
    Kept (set views by (opened v) ++ next_owner v ∷ [])
opens views by v whole h at =
    let mine = h.fits by v at in
    let known = mine.keeps whole in
    let n = length (set views by (opened v)) in
    let owner = moved h.owner h.count n in
    let Q = Fits h.seat h.log (h.count + 1) owner in
    let before : (q : ℕ) → q < h.count → h.owner q ≡ owner q =
    λ q less. moved_else h.owner h.count n q (λ (s : q ≡ h.count). absurd (omega arith)) in
    record {
      seat = h.seat;
      log = h.log;
      count = h.count + 1;
      owner = owner;
      fits = each_push Q (set views by (opened v)) (next_owner v)
          (each_set Q views by (opened v)
          (λ j u apart there.
          let theirs = h.fits j u there in
          record {
            keeps = λ k. absurd (apart ((theirs.keeps k).0 ∙ sym known.0));
            claims = theirs.claims;
            owns = λ o. let t = theirs.owns o in let less = t.1 in (t.0 ∙ before u.pid less, (omega arith), t.2);
          })
          (record {
            keeps = λ _. (known.0, known.1, ap (λ (m : ℕ). m + 1) known.2);
            claims = mine.claims;
            owns = λ o. let t = mine.owns o in let less = t.1 in (t.0 ∙ before v.pid less, (omega arith), t.2);
          }))
          (record {
            keeps = λ k. off k;
            claims = λ c. off c;
            owns = λ _. let same = known.2 in (
              moved_here h.owner h.count n v.given same,
              (omega arith),
              ap
                  (λ (l : List Entry). calls_by v.given l) known.1,
            );
          });
    }

-- a process's calls go to a new token
pub gives : (views : List Known) (by : ℕ) (v : Known) → v.owns ≡ true → Kept views → get_elem? views by ≡ some v →
    Kept (set views by (rest_of v) ++ own_of v ∷ [])
gives views by v own h at =
    let mine = h.fits by v at in
    let owned = mine.owns own in
    let n = length (set views by (rest_of v)) in
    let owner = moved h.owner v.pid n in
    let Q = Fits h.seat h.log h.count owner in
    record {
      seat = h.seat;
      log = h.log;
      count = h.count;
      owner = owner;
      fits = each_push Q (set views by (rest_of v)) (own_of v)
          (each_set Q views by (rest_of v)
          (λ j u apart there.
          let theirs = h.fits j u there in
          record {
            keeps = theirs.keeps;
            claims = theirs.claims;
            owns = λ o.
                let t = theirs.owns o in
                (t.0 ∙ moved_else h.owner v.pid n u.pid (λ (s : u.pid ≡ v.pid). apart (t.0 ∙ ap h.owner s ∙ sym owned.0)), t.1, t.2);
          })
          (record { keeps = mine.keeps; claims = λ c. off c; owns = λ o. off o }))
          (record { keeps = λ k. off k; claims = λ c. off c; owns = λ _. (moved_here h.owner v.pid n v.pid refl, owned.1, owned.2) });
    }

-- who knows the whole takes in what another knows
pub takes_in : (views : List Known) (by : ℕ) (v : Known) (other : ℕ) (w : Known) → v.keeps ≡ true → v.owns ≡ false → Kept views →
    get_elem? views by ≡ some v → ¬ (other ≡ by)
    → get_elem? (set views by (taking_in v w)) other ≡ some w → Kept (set (set views by (taking_in v w)) other nobody)
takes_in views by v other w whole alone h at apart there =
    let known = (h.fits by v at).keeps whole in
    let theirs : Fits h.seat h.log h.count h.owner other w =
    ⊎_elim (λ (t : (other ≡ by) × (taking_in v w ≡ w)). absurd (apart t.0))
    (λ (t : (other ≢ by) × (get_elem? views other ≡ some w)). h.fits other w t.1) (at_set views by other (taking_in v w) w there) in
    let owner = owner_after w.owns h.owner w.pid by in
    let Q = Fits h.seat h.log h.count owner in
    record {
      seat = h.seat;
      log = h.log;
      count = h.count;
      owner = owner;
      fits = each_set Q (set views by (taking_in v w)) other nobody
          (λ j u off_other e. each_set (λ i y. i ≢ other → Q i y) views by (taking_in v w)
          (λ i y off_by e' off_o.
          let f = h.fits i y e' in
          record {
            keeps = f.keeps;
            claims = f.claims;
            owns = λ o. let t = f.owns o in (
              t.0 ∙ kept w.owns h.owner w.pid by y.pid
                  (λ (own : w.owns ≡ true) (s : y.pid ≡ w.pid). off_o (t.0 ∙ ap h.owner s ∙ sym (theirs.owns own).0)),
              t.1,
              t.2,
            );
          })
          (λ _. record {
            keeps = λ _. known;
            claims = theirs.claims;
            owns = λ o. let t = theirs.owns o in (here w.owns h.owner w.pid by o, t.1, t.2);
          })
          j u e off_other)
          (record { keeps = λ k. off k; claims = λ c. off c; owns = λ o. off o });
    }
  where
    owner_after : Bool → (ℕ → ℕ) → ℕ → ℕ → ℕ → ℕ
    owner_after true owner p n = moved owner p n
    owner_after false owner p n = owner

    here : (b : Bool) (owner : ℕ → ℕ) (p n : ℕ) → b ≡ true → n ≡ owner_after b owner p n p
    here true owner p n is = moved_here owner p n p refl
    here false owner p n is = off is

    kept : (b : Bool) (owner : ℕ → ℕ) (p n q : ℕ) → (b ≡ true → q ≢ p) → owner q ≡ owner_after b owner p n q
    kept true owner p n q ne = moved_else owner p n q (ne refl)
    kept false owner p n q ne = refl

-- who knows the whole gives its last place away
pub gives_last : (views : List Known) (by : ℕ) (v : Known) → v.keeps ≡ true → Kept views → get_elem? views by ≡ some v →
    Kept (set views by v ++ last_claim v ∷ [])
gives_last views by v whole h at =
    let known = (h.fits by v at).keeps whole in
    record {
      seat = h.seat;
      log = h.log;
      count = h.count;
      owner = h.owner;
      fits = each_push (Fits h.seat h.log h.count h.owner) (set views by v) (last_claim v)
          (λ j u was. h.fits j u (subst (λ (l : List Known). get_elem? l j ≡ some u) (set_again views by v at) was))
          (fresh v.keeps v.all known.1);
    }
  where
    fresh : (b : Bool) (all : List Entry) → all ≡ h.log → Fits h.seat h.log h.count h.owner (length (set views by v)) (claim_if b all)
    fresh false all same = record { keeps = λ k. off k; claims = λ c. off c; owns = λ o. off o }
    fresh true [] same = record { keeps = λ k. off k; claims = λ c. off c; owns = λ o. off o }
    fresh true (x ∷ xs) same = record {
      keeps = λ k. off k;
      claims =
          λ _. subst (λ (l : List Entry). slice_get l (before_last (x ∷ xs)) ≡ Some (last_of (x ∷ xs))) same (at_last x xs);
      owns =
          λ o. off o;
    }

-- who knows a place lets another know it
pub copies : (views : List Known) (by : ℕ) (v : Known) → Kept views → get_elem? views by ≡ some v → Kept (set views by v ++ place_of v ∷ [])
copies views by v h at =
    let mine = h.fits by v at in
    record {
      seat = h.seat;
      log = h.log;
      count = h.count;
      owner = h.owner;
      fits = each_push (Fits h.seat h.log h.count h.owner) (set views by v) (place_of v)
          (λ j u was. h.fits j u (subst (λ (l : List Known). get_elem? l j ≡ some u) (set_again views by v at) was))
          (record { keeps = λ k. off k; claims = mine.claims; owns = λ o. off o });
    }

-- the place of an entry that was just added
pub new_claim : (all : List Entry) (given : ℕ) (x : Entry) → last_claim (knower (all ++ x ∷ []) given) ≡ claim (length all) x
new_claim [] given x = refl
new_claim (y ∷ ys) given x = λ i. claim (length-before_last (y ∷ ys) x i) (last_of-push (y ∷ ys) x i)

-- a place, as contracts see it
pub marked : (i j : TableId) (v : Known) (n : ℕ) (e : Entry) → i ≡ j → v ≡ claim n e →
    ◌≡◌ {A = Placed} (record { id = i; number = v.number; entry = v.entry }) (record { id = j; number = n; entry = e })
marked i j v n e p q = λ t. record { id = p t; number = (q t).number; entry = (q t).entry }

-- the place of a call that was just noted, with its process's token taken in and given back
pub new_place : (v1 v2 v3 r : Known) (all : List Entry) (given pid k : ℕ) (past : List Call) (request : Request) (reply : Reply)
    (released : List ℕ) (delivered : Option ℕ) → v1 ≡ taking_in (knower all given) (owner_of pid past)
    → v2 ≡ noted v1 (record {
      pid = record { 0 = v1.pid };
      k = k;
      request = request;
      reply = reply;
      released = released;
      delivered =
          delivered;
    }) → v3 ≡ rest_of v2 → r ≡ last_claim v3
    → r ≡ claim (length all) (record {
      pid = record { 0 = pid };
      k = k;
      request = request;
      reply = reply;
      released = released;
      delivered =
          delivered;
    })
new_place v1 v2 v3 r all given pid k past request reply released delivered p1 p2 p3 p4 =
    p4 ∙ ap last_claim (p3 ∙ ap rest_of (p2 ∙ ap
    (λ (v : Known). noted v (record {
      pid = record { 0 = v.pid };
      k = k;
      request = request;
      reply = reply;
      released = released;
      delivered =
          delivered;
    })) p1))
    ∙ new_claim all given (record {
      pid = record { 0 = pid };
      k = k;
      request = request;
      reply = reply;
      released = released;
      delivered =
          delivered;
    })
