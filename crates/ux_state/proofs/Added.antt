-- A file object more, or one less, and a path more.
use Rattle.std.proofs.Common.{◌≡◌, ◌≢◌, ℕ, zero, suc, ◌+◌, ◌-◌, ◌<◌, ◌≤◌, ◌==◌, eqb, Bool, true, false, not, List, [], ◌∷◌, ◌++◌, length}
use Rattle.std.proofs.Common.{get_or, set, take, Option, Some, None, is_some, refl, sym, subst, ◌∙◌, ap, arith}
use Rattle.std.specs.Prelude.{count_by, Result, Ok, Err, OnOk, OnErr}
use Rattle.std.specs.Result.{is_err}
use Rattle.std.specs.List.{filter}
use Rattle.std.proofs.lemmas.Bool.{ne_eqb, eq-eqb}
use Rattle.std.proofs.lemmas.List.{get_or_read, get_or-set_same, get_or-set_other, length_push, take-append-le, take_all, append-nil}
use Rattle.std.proofs.lemmas.List.{length-set, length-append}
use Rattle.std.proofs.lemmas.List.Elements.{filter-append}
use Rattle.std.proofs.lemmas.List.Sums.{sum_by_push, count_by-le-length}
use Rattle.ux_model.specs.Limits.{raised_object_limit}
use Rattle.ux_model.specs.Types.{Name, Mode, OpenFlags}
use Rattle.ux_model.specs.Places.{place, filled}
use Rattle.ux_model.specs.Names.{PathTarget, file, named, same_name, without_name}
use Rattle.ux_model.specs.Object.{View, pipe, new_view}
use Rattle.ux_model.specs.Description.{Description}
use Rattle.ux_model.specs.Process.{Process, lowest_free, two_lowest_free, descriptor}
use Rattle.ux_model.specs.State.{State, is_live, table_of, with_table, with_new, next_description}
use Rattle.ux_model.specs.Making.{with_path, with_pipe}
use Rattle.ux_model.specs.Opening.{file_description}
use Rattle.ux_model.specs.References.{path_names, refs}
use Rattle.ux_model.specs.Flight.{in_flight}
use Rattle.ux_model.proofs.Counting.Owning.{once-push, is_same}
use Rattle.ux_names.proofs.NameLaws.{nothing_without}
use Rattle.ux_number_sets.specs.Sets.{has_number}
use Rattle.ux_slots.specs.Held.{Held}
use Rattle.ux_state.specs.declared.openings.Openings.{Openings}
use Rattle.ux_state.specs.Counting.{Counted, CountsAlike, one_if}
use Rattle.ux_state.specs.Keeping.{state_of, IsState}
use Rattle.ux_state.specs.Links.{LinksAlike, AreLinked, links_of}
use Rattle.ux_state.specs.Moves.{IsFresh, with_object_more}
use Rattle.ux_state.specs.Settling.{LooksAgain, AreSettled, is_loose}
use Rattle.ux_state.proofs.Opening.{fresh_file}
use Rattle.ux_state.proofs.Settling.{settled_kept, loose_counts, counts_loose, by_case}

-- ---- counts of nothing more

pub links_same : (ls : List ℕ) → LinksAlike ls ls
links_same ls = record { long = omega arith; same = λ o. refl }

still_loose : (xs ys : List Openings) (ls ms : List ℕ) → CountsAlike xs ys → LinksAlike ls ms → (o : ℕ) → is_loose ys ms o ≡ true →
    is_loose xs ls o ≡ true
still_loose xs ys ls ms counts links o loose =
    let zero = loose_counts ys ms o loose in
    counts_loose xs ls o (ap (λ (x : Openings). x.readers) (sym (counts.same o)) ∙ zero.0)
    (ap (λ (x : Openings). x.writers) (sym (counts.same o)) ∙ zero.1.0) (sym (links.same o) ∙ zero.1.1)

pub grown_kept : {ks : List Bool} {fs : ℕ → ℕ} (xs ys : List Openings) (ls ms : List ℕ) (H : Held Description) (S : State) →
    IsState ks xs ls H fs S → CountsAlike xs ys → LinksAlike ls ms → IsState ks ys ms H fs S
unfolding Counted AreLinked
grown_kept {ks = ks} xs ys ls ms H S state counts links = record {
  few_objects = state.few_objects;
  few_processes = state.few_processes;
  one_each = let each = state.one_each in let long = counts.long in omega (arith, each, long);
  link_each = let each = state.link_each in let long = links.long in omega (arith, each, long);
  opened = record {
    readers = λ o. ap (λ (x : Openings). x.readers) (counts.same o) ∙ state.opened.readers o;
    writers = λ o. ap (λ (x : Openings). x.writers) (counts.same o) ∙ state.opened.writers o;
  };
  linked = record { once = state.linked.once; counted = λ o. links.same o ∙ state.linked.counted o };
  settled = settled_kept ks ks xs ys ls ms S.objects S.objects state.settled refl (λ o h. h) (λ o h there. there)
      (λ o h. still_loose xs ys ls ms counts links o);
  counted = state.counted;
  flying = state.flying;
  paired = state.paired;
  owned = state.owned;
}

-- ---- an object more

not_last : (os : List (Option View)) (x : Option View) (o : ℕ) → o ≢ length os → is_some (place (os ++ x ∷ []) o) ≡ true →
    is_some (place os o) ≡ true
not_last [] x zero apart there = absurd (apart refl)
not_last [] x (suc o) apart there = there
not_last (y ∷ os) x zero apart there = there
not_last (y ∷ os) x (suc o) apart there = not_last os x o (λ e. apart (ap suc e)) there

module _ {ks : List Bool} {fs : ℕ → ℕ} (xs : List Openings) (ls : List ℕ) (H : Held Description) (os : List (Option View))
    (ps : List Process) (paths : List (Name × PathTarget)) (names : List (Name × ℕ))
    (state : IsState ks xs ls H fs (state_of os H ps paths names)) where
  -- the next, which is looked at again
  looked : {ns : List Bool} → LooksAgain (Some (length os)) ks ns → AreSettled ns xs ls os
  looked {ns = ns} again = settled_kept ks ns xs xs ls ls os os state.settled again.long again.others (λ o h there. there) (λ o h l. l)

  pub none_added : {ns : List Bool} (us : List (Option View)) (n : ℕ) → n ≡ length os → LooksAgain (Some n) ks ns → us ≡ os →
      IsState ns xs ls H fs (state_of us H ps paths names)
  none_added {ns = ns} us n next again same = rw same (record {
    few_objects = state.few_objects;
    few_processes = state.few_processes;
    one_each = state.one_each;
    link_each = state.link_each;
    opened = state.opened;
    linked = state.linked;
    settled = looked (subst (λ m. LooksAgain (Some m) ks ns) next again);
    counted = state.counted;
    flying = state.flying;
    paired = state.paired;
    owned = state.owned;
  })

  pub object_added : {ns : List Bool} (us : List (Option View)) (n : ℕ) (x : Option View) → n ≡ length os → LooksAgain (Some n) ks ns →
      us ≡ os ++ x ∷ [] → n < raised_object_limit → n < length xs → n < length ls → IsState ns xs ls H fs (state_of us H ps paths names)
  unfolding refs in_flight
  object_added {ns = ns} us n x next again more few counts links =
      let this : LooksAgain (Some (length os)) ks ns = subst (λ m. LooksAgain (Some m) ks ns) next again in
      rw more (record {
        few_objects = let long = length_push os x in omega (arith, long, few, next);
        few_processes = state.few_processes;
        one_each = let long = length_push os x in omega (arith, long, counts, next);
        link_each = let long = length_push os x in omega (arith, long, links, next);
        opened = state.opened;
        linked = state.linked;
        settled = settled_kept ns ns xs xs ls ls os (os ++ x ∷ []) (looked this) refl (λ o h. h)
            (λ o h. not_last os x o (λ e. absurd (cc (ap (has_number ns) e, h, this.this (length os) refl)))) (λ o h l. l);
        counted = state.counted;
        flying = state.flying;
        paired = state.paired;
        owned = state.owned;
      })

  -- ---- a path more

  link_more : (ms : List ℕ) (o x y : ℕ) → o < length ls → x ≡ get_or ls o x → y ≡ x + 1 → ms ≡ set ls o y → (k : ℕ) →
      links_of ms k ≡ links_of ls k + one_if (o == k)
  link_more ms o x y inside here more is k = ap (λ ns. links_of ns k) is ∙ by_case (eqb k o) k o refl
      (λ (e : k ≡ o).
      let new : links_of (set ls o y) k ≡ y = ap (links_of (set ls o y)) e ∙ get_or-set_same ls o y 0 inside in
      let old : links_of ls k ≡ x = ap (links_of ls) e ∙ sym (get_or_read ls o x inside here 0) in
      let one : one_if (o == k) ≡ 1 = ap one_if (eq-eqb o k (sym e)) in
      omega (arith, new, old, one, more))
      (λ (ne : k ≢ o).
      let new : links_of (set ls o y) k ≡ links_of ls k = get_or-set_other ls o k y 0 ne in
      let none : one_if (o == k) ≡ 0 = ap one_if (ne_eqb o k (λ e. ne (sym e))) in
      omega (arith, new, none))

  -- so many can be counted
  pub link_fits : (name : Name) (o x many : ℕ) (more : List (Name × PathTarget)) → o < length ls → x ≡ get_or ls o x →
      more ≡ paths ++ (name, file o) ∷ [] → many ≡ length more → x + 1 ≤ many
  unfolding AreLinked
  link_fits name o x many more inside here is count =
      let a = state.linked.counted o in
      let b = count_by-le-length (λ (e : Name × PathTarget). path_names o e.1) paths in
      let c : links_of ls o ≡ x = sym (get_or_read ls o x inside here 0) in
      let d : length more ≡ length paths + 1 = ap length is ∙ length_push paths (name, file o) in
      omega (arith, a, b, c, d, count)

  pub path_added : (name : Name) (o x y : ℕ) (ms : List ℕ) (more : List (Name × PathTarget)) → named name paths ≡ None → o < length ls →
      x ≡ get_or ls o x → y ≡ x + 1 → ms ≡ set ls o y → more ≡ paths ++ (name, file o) ∷ [] →
      IsState ks xs ms H fs (state_of os H ps more names)
  unfolding refs in_flight AreLinked
  path_added name o x y ms more none inside here one_more is found =
      let at : (k : ℕ) → links_of ms k ≡ links_of ls k + one_if (o == k) = link_more ms o x y inside here one_more is in
      record {
        few_objects = state.few_objects;
        few_processes = state.few_processes;
        one_each = state.one_each;
        link_each = let each = state.link_each in let long = ap length is ∙ length-set ls o y in omega (arith, each, long);
        opened = state.opened;
        linked = rw found (record {
          once = once-push name (file o) paths none state.linked.once;
          counted = λ k.
              let a = sum_by_push (λ (e : Name × PathTarget). one_if (path_names k e.1)) paths (name, file o) in
              let b = state.linked.counted k in
              let c = at k in
              omega (arith, a, b, c);
        });
        settled = settled_kept ks ks xs xs ls ms os os state.settled refl (λ k h. h) (λ k h there. there)
            (λ k h loose.
            let zero = loose_counts xs ms k loose in
            let c = at k in
            counts_loose xs ls k zero.0 zero.1.0 (omega (arith, c, zero.1.1)));
        counted = state.counted;
        flying = state.flying;
        paired = state.paired;
        owned = state.owned;
      }

-- ---- as before

front_there : (us more : List (Option View)) (o : ℕ) → is_some (place us o) ≡ true → is_some (place (us ++ more) o) ≡ true
front_there [] more o there = absurd (cc there)
front_there (x ∷ us) more zero there = there
front_there (x ∷ us) more (suc o) there = front_there us more o there

pub left_there : (os us more : List (Option View)) → os ≡ us ++ more → (o : ℕ) → is_some (place us o) ≡ true →
    is_some (place os o) ≡ true
left_there os us more is o there = ap (λ vs. is_some (place vs o)) is ∙ front_there us more o there

pub no_more_left : (os us more : List (Option View)) → os ≡ us ++ more → length us ≤ length os
no_more_left os us more is = let long = ap length is ∙ length-append us more in omega (arith, long)

-- all but the last
pub pushed_back : (os : List (Option View)) (x : Option View) → take (length (os ++ x ∷ []) - 1) (os ++ x ∷ []) ≡ os
pushed_back os x =
    let long : length (os ++ x ∷ []) - 1 ≡ length os = let a = length_push os x in omega (arith, a) in
    ap (λ n. take n (os ++ x ∷ [])) long ∙ take-append-le (length os) os (x ∷ []) (omega arith) ∙ take_all (length os) os (omega arith)

pub taken_back : (S T U V : State) (v : View) → T ≡ with_object_more S v → U ≡ T →
    V ≡ record U { objects = take (length U.objects - 1) U.objects } → V ≡ S
taken_back S T U V v more same less =
    less ∙ ap (λ (R : State). record R { objects = take (length R.objects - 1) R.objects }) (same ∙ more)
    ∙ ap (λ os. record S { objects = os }) (pushed_back S.objects (Some v))

-- a path that was new is taken away again
unlinked : (name : Name) (o : ℕ) (paths : List (Name × PathTarget)) → named name paths ≡ None →
    without_name name (paths ++ (name, file o) ∷ []) ≡ paths
unlinked name o paths none =
    filter-append (λ (e : Name × PathTarget). not (same_name e.0 name)) paths ((name, file o) ∷ [])
    ∙ (λ j. nothing_without name paths none j ++ last j) ∙ append-nil paths
  where
    last : without_name name ((name, file o) ∷ []) ≡ []
    last = rw (is_same name name refl) refl

pub undone : (S T U V W X : State) (v : View) (name : Name) (o : ℕ) → named name S.paths ≡ None → T ≡ with_object_more S v →
    U ≡ with_path T name o → V ≡ U → W ≡ record V { paths = without_name name V.paths } →
    X ≡ record W { objects = take (length W.objects - 1) W.objects } → X ≡ S
undone S T U V W X v name o none more path same less back =
    taken_back S W W X v
    (less ∙ ap (λ (R : State). record R { paths = without_name name (State.paths R) }) (same ∙ path ∙ ap (λ R. with_path R name o) more)
    ∙ ap (λ ps. record (with_object_more S v) { paths = ps }) (unlinked name o S.paths none)) refl back

-- what a clause says of an answer of this kind
pub of_err : {A E : Type 0} {P : Type 0} (r : Result A E) → is_err r ≡ true → OnErr r P → P
of_err (Ok x) e p = absurd (cc e)
of_err (Err x) e p = p

pub of_ok : {A E : Type 0} {P : Type 0} (r : Result A E) → is_err r ≡ false → OnOk r P → P
of_ok (Ok x) e p = p
of_ok (Err x) e p = absurd (cc e)

-- ---- what is open beside a new file object

pub live_more : (S T : State) (v : View) (p : ℕ) → T ≡ with_object_more S v → is_live S p ≡ true → is_live T p ≡ true
live_more S T v p more live = ap (λ R. is_live R p) more ∙ live

pub lowest_more : (S T : State) (v : View) (p n : ℕ) → T ≡ with_object_more S v → lowest_free (table_of T p) ≡ Some n →
    lowest_free (table_of S p) ≡ Some n
lowest_more S T v p n more lowest = sym (ap (λ R. lowest_free (table_of R p)) more) ∙ lowest

pub two_more : (S T : State) (v : View) (p n m : ℕ) → T ≡ with_object_more S v → two_lowest_free (table_of T p) ≡ Some (n, m) →
    two_lowest_free (table_of S p) ≡ Some (n, m)
two_more S T v p n m more lowest = sym (ap (λ R. two_lowest_free (table_of R p)) more) ∙ lowest

pub opened_more : (S T U : State) (v : View) (p n o : ℕ) (mode : Mode) (flags : OpenFlags) → T ≡ with_object_more S v →
    o ≡ length S.objects → U ≡ with_table (with_new T (file_description o mode flags)) p
    (filled (table_of T p) n (descriptor flags (next_description T))) →
    U ≡ with_table (with_new (with_object_more S v) (file_description (length S.objects) mode flags)) p
    (filled (table_of S p) n (descriptor flags (next_description S)))
opened_more S T U v p n o mode flags more next opened =
    opened ∙ (λ j. with_table (with_new (more j) (file_description (next j) mode flags)) p
    (filled (table_of (more j) p) n (descriptor flags (next_description (more j)))))

-- what leads to it may be added
pub fresh_last : (S T : State) (v : View) (n : ℕ) (mode : Mode) (flags : OpenFlags) (D : Description) → T ≡ with_object_more S v →
    n ≡ length S.objects → D ≡ file_description n mode flags → IsFresh T D
fresh_last S T v n mode flags D more next is =
    fresh_file T n mode flags D is
    (let long = ap (λ R. length (State.objects R)) more ∙ length_push S.objects (Some v) in omega (arith, long, next))

-- and beside its path
pub live_placed : (S T U : State) (v : View) (name : Name) (o p : ℕ) → T ≡ with_object_more S v → U ≡ with_path T name o →
    is_live S p ≡ true → is_live U p ≡ true
live_placed S T U v name o p more path live = ap (λ R. is_live R p) (path ∙ ap (λ R. with_path R name o) more) ∙ live

pub lowest_placed : (S T U : State) (v : View) (name : Name) (o p n : ℕ) → T ≡ with_object_more S v → U ≡ with_path T name o →
    lowest_free (table_of U p) ≡ Some n → lowest_free (table_of S p) ≡ Some n
lowest_placed S T U v name o p n more path lowest =
    sym (ap (λ R. lowest_free (table_of R p)) (path ∙ ap (λ R. with_path R name o) more)) ∙ lowest

pub opened_placed : (S T U V : State) (v : View) (name : Name) (p n o : ℕ) (mode : Mode) (flags : OpenFlags) → T ≡ with_object_more S v →
    U ≡ with_path T name o → o ≡ length S.objects → V ≡ with_table (with_new U (file_description o mode flags)) p
    (filled (table_of U p) n (descriptor flags (next_description U))) →
    V ≡ with_table (with_new (with_path (with_object_more S v) name (length S.objects)) (file_description (length S.objects) mode flags)) p
    (filled (table_of S p) n (descriptor flags (next_description S)))
opened_placed S T U V v name p n o mode flags more path next opened =
    let placed : U ≡ with_path (with_object_more S v) name (length S.objects) = path ∙ (λ j. with_path (more j) name (next j)) in
    opened ∙ (λ j. with_table (with_new (placed j) (file_description (next j) mode flags)) p
    (filled (table_of (placed j) p) n (descriptor flags (next_description (placed j)))))

-- and with both ends of a pipe
pub both_more : (S T U : State) (v : View) (p n m o : ℕ) (flags : OpenFlags) (D E : Description) → T ≡ with_object_more S v →
    o ≡ length S.objects → D ≡ file_description o Mode.Read flags → E ≡ file_description o Mode.Write flags →
    v ≡ new_view (pipe []) → U ≡ with_table (with_new (with_new T D) E) p
    (filled (filled (table_of T p) n (descriptor flags (next_description T))) m (descriptor flags (next_description T + 1))) →
    U ≡ with_table (with_pipe S flags) p
    (filled (filled (table_of S p) n (descriptor flags (next_description S))) m (descriptor flags (next_description S + 1)))
both_more S T U v p n m o flags D E more next reads writes empty opened =
    let made : T ≡ with_object_more S (new_view (pipe [])) = more ∙ ap (with_object_more S) empty in
    let reader : D ≡ file_description (length S.objects) Mode.Read flags = reads ∙ ap (λ k. file_description k Mode.Read flags) next in
    let writer : E ≡ file_description (length S.objects) Mode.Write flags = writes ∙ ap (λ k. file_description k Mode.Write flags) next in
    opened ∙ (λ j. with_table (with_new (with_new (made j) (reader j)) (writer j)) p
    (filled (filled (table_of (made j) p) n (descriptor flags (next_description (made j)))) m
    (descriptor flags (next_description (made j) + 1))))
