-- One description goes.
use Rattle.std.proofs.Common.{◌≡◌, ℕ, zero, suc, ◌+◌, ◌<◌, ◌≤◌, ◌==◌, Bool, ◌&&◌, true, false, List, [], ◌∷◌, length, map, Option, Some}
use Rattle.std.proofs.Common.{None, option_map, refl, sym, ◌∙◌, ap, arith}
use Rattle.std.specs.Prelude.{not, filter, count_by, sum_by, IsSome}
use Rattle.std.proofs.lemmas.List.Sums.{sum_by-cons, sum_by-set}
use Rattle.ux_state.specs.Settling.{LooksAgain}
use Rattle.ux_state.proofs.Settling.{by_counts, beyond_none, settled_less}
use Rattle.ux_model.specs.Description.{object_of}
use Rattle.ux_model.specs.Types.{Mode, Name}
use Rattle.ux_model.specs.Names.{PathTarget}
use Rattle.ux_model.specs.Flags.{can_read, can_write}
use Rattle.ux_model.specs.Places.{place, emptied, changed_place}
use Rattle.ux_model.specs.Object.{View}
use Rattle.ux_model.specs.Socket.{Socket, with_reset}
use Rattle.ux_model.specs.Description.{Description, Target, to_object, to_socket, changed, changed_target}
use Rattle.ux_model.specs.Process.{Process}
use Rattle.ux_model.specs.References.{leads_to, target_refs}
use Rattle.ux_model.specs.Release.{without, is_unreferenced, has_unreferenced}
use Rattle.ux_model.specs.FileObjects.{is_opening}
use Rattle.ux_model.specs.Peers.{lost_peer, with_peer_reset}
use Rattle.ux_model.specs.Flight.{flying_at, flying_in, in_flight}
use Rattle.ux_model.specs.Owning.{target_name, name_in, without_shown}
use Rattle.ux_model.proofs.Releasing.AnyOrder.{live_in}
use Rattle.ux_model.proofs.Lists.ChangedPlaces.{place_within}
use Rattle.ux_model.proofs.Messages.Flying.{flying_left}
use Rattle.ux_model.proofs.Releasing.OneGoes.{one_goes, left_refs, held_refs, paired-emptied, paired-told, none_unreferenced, unreferenced}
use Rattle.ux_model.proofs.Counting.Owning.{name_goes, owned_without}
use Rattle.ux_slots.specs.Held.{Held, count_at, IsNoneDead}
use Rattle.ux_state.specs.declared.openings.Openings.{Openings}
use Rattle.ux_state.specs.Counting.{one_if, counts_of, Counted, CountsOneMore, IsAmong}
use Rattle.ux_state.specs.Keeping.{state_of, IsState}

-- ---- what is open

-- what one place counts
abbrev opens : (Mode → Bool) → ℕ → Option Description → ℕ
opens allows o x = one_if (is_opening allows o x)

-- one that changes its socket is open for the same
same_opening : (change : Socket → Socket) (allows : Mode → Bool) (o : ℕ) (x : Option Description) →
    opens allows o (option_map (changed change) x) ≡ opens allows o x
same_opening change allows o None = refl
same_opening change allows o (Some D) = ap (λ b. one_if (b && allows D.mode)) (by_target D.target)
  where
    by_target : (t : Target) → leads_to o (changed_target change t) ≡ leads_to o t
    by_target (to_object n) = refl
    by_target (to_socket s) = refl

sum_by-changed : (g : Option Description → ℕ) (f : Description → Description) → ((x : Option Description) → g (option_map f x) ≡ g x) →
    (ds : List (Option Description)) (p : ℕ) → sum_by g (changed_place ds p f) ≡ sum_by g ds
sum_by-changed g f same [] p = refl
sum_by-changed g f same (x ∷ xs) zero = sum_by-cons g (option_map f x) xs ∙ ap (λ n. n + sum_by g xs) (same x) ∙ sym (sum_by-cons g x xs)
sum_by-changed g f same (x ∷ xs) (suc p) = sum_by-cons g x (changed_place xs p f) ∙ ap (λ n. g x + n) (sum_by-changed g f same xs p)
    ∙ sym (sum_by-cons g x xs)

told_opens : (allows : Mode → Bool) (o : ℕ) (l : Option ℕ) (ds : List (Option Description)) →
    count_by (is_opening allows o) (with_peer_reset l ds) ≡ count_by (is_opening allows o) ds
told_opens allows o None ds = refl
told_opens allows o (Some p) ds = sum_by-changed (opens allows o) (changed (with_reset true)) (same_opening (with_reset true) allows o) ds p

-- without d, which was D, and its peer notified
left_opens : (allows : Mode → Bool) (o d : ℕ) (D : Description) (ds : List (Option Description)) → place ds d ≡ Some D →
    count_by (is_opening allows o) (with_peer_reset (lost_peer D) (emptied ds d)) + opens allows o (Some D) ≡ count_by (is_opening allows o)
    ds
left_opens allows o d D ds here =
    let a = told_opens allows o (lost_peer D) (emptied ds d) in
    let b = sum_by-set (opens allows o) ds d None None (place_within ds d D here) in
    let c : opens allows o (place ds d) ≡ opens allows o (Some D) = ap (opens allows o) here in
    omega (arith, a, b, c)

pub counted_among : (ds : List (Option Description)) (xs : List Openings) (d : ℕ) (D : Description) → place ds d ≡ Some D → Counted ds xs →
    IsAmong D xs
unfolding Counted
counted_among ds xs d D here counted = record {
  readers = λ o h. let a = counted.readers o in let b = left_opens can_read o d D ds here in omega (arith, a, b);
  writers = λ o h. let a = counted.writers o in let b = left_opens can_write o d D ds here in omega (arith, a, b);
}

pub counted_left : (ds : List (Option Description)) (xs ys : List Openings) (d : ℕ) (D : Description) → place ds d ≡ Some D →
    Counted ds xs → CountsOneMore D ys xs → Counted (with_peer_reset (lost_peer D) (emptied ds d)) ys
unfolding Counted
counted_left ds xs ys d D here counted more = record {
  readers = λ o.
      let a = counted.readers o in
      let b = left_opens can_read o d D ds here in
      by_counts ys o (λ inside. let c = more.readers o inside in omega (arith, a, b, c))
      (λ beyond none.
      let long = more.long in
      let old : (counts_of xs o).readers ≡ 0 = ap (λ (x : Openings). x.readers) (beyond_none xs o (omega (arith, beyond, long))) in
      let new : (counts_of ys o).readers ≡ 0 = ap (λ (x : Openings). x.readers) none in
      omega (arith, a, b, old, new));
  writers = λ o.
      let a = counted.writers o in
      let b = left_opens can_write o d D ds here in
      by_counts ys o (λ inside. let c = more.writers o inside in omega (arith, a, b, c))
      (λ beyond none.
      let long = more.long in
      let old : (counts_of xs o).writers ≡ 0 = ap (λ (x : Openings). x.writers) (beyond_none xs o (omega (arith, beyond, long))) in
      let new : (counts_of ys o).writers ≡ 0 = ap (λ (x : Openings). x.writers) none in
      omega (arith, a, b, old, new));
}

-- ---- the state

module _ {ks : List Bool} {fs : ℕ → ℕ} (xs : List Openings) (ls : List ℕ) (H : Held Description) (os : List (Option View))
    (ps : List Process) (paths : List (Name × PathTarget)) (names : List (Name × ℕ))
    (state : IsState ks xs ls H fs (state_of os H ps paths names)) where
  -- what the lost one held is counted
  pub all_counted : (T : Held Description) (d k : ℕ) (D : Description) → place H.places d ≡ Some D → T.counts ≡ H.counts →
      target_refs k D.target ≤ count_at T k
  all_counted T d k D here same =
      let a = held_refs (state_of os H ps paths names) d k D here in
      let b = state.counted k in
      let e : count_at T k ≡ count_at H k = ap (λ cs. count_at (record H { counts = cs }) k) same in
      omega (arith, a, b, e)

  -- and so are its rights in flight
  pub all_flying : (d u : ℕ) (D : Description) → place H.places d ≡ Some D → flying_at u D.target ≤ fs u
  unfolding in_flight
  all_flying d u D here = let a = flying_left u d D H.places here in let b = state.flying u in omega (arith, a, b)

  -- the names that are left
  left_names : (d : ℕ) (D : Description) (left : List (Name × ℕ)) → place H.places d ≡ Some D →
      left ≡ without_shown (target_name D.target) d names → left ≡ filter (λ e. not (e.1 == d)) names
  left_names d D left here shown = shown ∙ ap (λ x. without_shown (name_in x) d names) (sym here)
      ∙ name_goes (state_of os H ps paths names) d state.owned

  pub left_kept : {ns : List Bool} {gs : ℕ → ℕ} (ys : List Openings) (T K : Held Description) (left : List (Name × ℕ)) (d : ℕ)
      (D : Description) → place H.places d ≡ Some D → K.places ≡ with_peer_reset (lost_peer D) (emptied H.places d) → T.counts ≡ H.counts →
      ((k : ℕ) → count_at T k ≡ count_at K k + target_refs k D.target) → ((u : ℕ) → fs u ≡ gs u + flying_at u D.target) →
      CountsOneMore D ys xs → left ≡ without_shown (target_name D.target) d names → LooksAgain (object_of D.target) ks ns →
      IsState ns ys ls K gs (state_of os K ps paths left)
  unfolding in_flight
  left_kept {ns = ns} ys T K left d D here places same counts flights more shown again = record {
    few_objects = state.few_objects;
    few_processes = state.few_processes;
    one_each = let long = more.long in let each = state.one_each in omega (arith, long, each);
    link_each = state.link_each;
    opened = rw places (counted_left H.places xs ys d D here state.opened more);
    linked = state.linked;
    settled = settled_less ks ns xs ys ls os D state.settled more again;
    counted = λ k.
        let a = left_refs (state_of os H ps paths names) (state_of os K ps paths left) d k D here refl places in
        let b = state.counted k in
        let e : count_at T k ≡ count_at H k = ap (λ cs. count_at (record H { counts = cs }) k) same in
        let f = counts k in
        omega (arith, a, b, e, f);
    flying = λ u.
        let a = flying_left u d D H.places here in
        let b = ap (sum_by (flying_in u)) places in
        let e = flights u in
        let f = state.flying u in
        omega (arith, a, b, e, f);
    paired = rw places (paired-told (lost_peer D) (emptied H.places d)
        (paired-emptied H.places d (place_within H.places d D here) state.paired));
    owned = rw (places, left_names d D left here shown) (owned_without H.places d (lost_peer D) names state.owned);
  }

  pub is_without : (K : Held Description) (left : List (Name × ℕ)) (d : ℕ) (D : Description) → place H.places d ≡ Some D →
      K.places ≡ with_peer_reset (lost_peer D) (emptied H.places d) →
      left ≡ without_shown (target_name D.target) d names →
      state_of os K ps paths left ≡ without (λ n. n == d) (state_of os H ps paths names)
  unfolding without
  is_without K left d D here places shown =
      let all = places ∙ one_goes (state_of os H ps paths names) d D state.paired here in
      let rest = left_names d D left here shown in
      λ j. record { objects = os; descriptions = all j; processes = ps; paths = paths; abstract_names = rest j }

  pub was_dead : (d : ℕ) (D : Description) → place H.places d ≡ Some D → count_at H d ≡ 0 →
      is_unreferenced (state_of os H ps paths names) d ≡ true
  was_dead d D here none = unreferenced (state_of os H ps paths names) d D here (sym (state.counted d) ∙ none)

  pub none_dead : IsNoneDead H → has_unreferenced (state_of os H ps paths names) ≡ false
  none_dead each = none_unreferenced (state_of os H ps paths names)
      (λ k some. let a = each k some in let b = state.counted k in omega (arith, a, b))

-- ---- all go

live_in-emptied : (ds : List (Option Description)) (d : ℕ) (D : Description) → place ds d ≡ Some D → live_in (emptied ds d) < live_in ds
live_in-emptied [] d D e = absurd (cc e)
live_in-emptied (None ∷ xs) zero D e = absurd (cc e)
live_in-emptied (Some x ∷ xs) zero D e = omega arith
live_in-emptied (None ∷ xs) (suc d) D e = live_in-emptied xs d D e
live_in-emptied (Some x ∷ xs) (suc d) D e = let h = live_in-emptied xs d D e in omega (arith, h)

-- places that are all empty
all_empty : (ds : List (Option Description)) → ((d : ℕ) → IsSome (place ds d) → ⊥) → ds ≡ map (λ _. None) ds
all_empty [] none = refl
all_empty (None ∷ xs) none = ap (λ l. None ∷ l) (all_empty xs (λ d. none (suc d)))
all_empty (Some x ∷ xs) none = absurd (none 0 refl)

emptied_alike : (ds : List (Option Description)) (d : ℕ) → map (λ _. None) (emptied ds d) ≡ map {B = Option Description} (λ _. None) ds
emptied_alike [] d = refl
emptied_alike (x ∷ xs) zero = refl
emptied_alike (x ∷ xs) (suc d) = ap (λ l. None ∷ l) (emptied_alike xs d)

pub fewer_left : (H K : Held Description) (d : ℕ) (D : Description) → place H.places d ≡ Some D → K.places ≡ emptied H.places d →
    live_in K.places < live_in H.places
fewer_left H K d D here taken = rw taken (live_in-emptied H.places d D here)

pub still_alike : (ds : List (Option Description)) (H K : Held Description) (d : ℕ) → K.places ≡ emptied H.places d →
    map (λ _. None) H.places ≡ map {B = Option Description} (λ _. None) ds →
    map (λ _. None) K.places ≡ map {B = Option Description} (λ _. None) ds
still_alike ds H K d taken alike = ap (map (λ _. None)) taken ∙ emptied_alike H.places d ∙ alike

pub none_counted : (H K : Held Description) → K.counts ≡ H.counts → ((d : ℕ) → count_at H d ≡ 0) → (d : ℕ) → count_at K d ≡ 0
none_counted H K same none d = ap (λ cs. count_at (record H { counts = cs }) d) same ∙ none d

-- where none is dead and nothing counts, none is there
pub none_left : (ds : List (Option Description)) (H K : Held Description) → K ≡ H → IsNoneDead H → ((d : ℕ) → count_at H d ≡ 0) →
    map (λ _. None) H.places ≡ map {B = Option Description} (λ _. None) ds →
    K.places ≡ map (λ _. None) ds
none_left ds H K same each none alike =
    ap (λ (h : Held Description). h.places) same
    ∙ all_empty H.places (λ d there. let a = each d there in let b = none d in omega (arith, a, b)) ∙ alike
