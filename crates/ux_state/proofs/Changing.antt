-- A change of one description leaves what is open of each file object, and who is whose peer, unless it leads to another or is open for
-- something else.
use Rattle.std.proofs.Common.{◌≡◌, ℕ, Bool, cond, List, set, Option, Some, None, refl, sym, ◌∙◌, ap, arith}
use Rattle.std.specs.Prelude.{count_by}
use Rattle.std.proofs.lemmas.List.{set-get_or}
use Rattle.std.proofs.lemmas.List.Sums.{sum_by-set}
use Rattle.ux_model.specs.Types.{Mode, Name, OpenFlags}
use Rattle.ux_model.specs.Names.{PathTarget}
use Rattle.ux_model.specs.Flags.{can_read, can_write}
use Rattle.ux_model.specs.Places.{place, filled}
use Rattle.ux_model.specs.Object.{View}
use Rattle.ux_model.specs.Socket.{Socket, peer_of}
use Rattle.ux_model.specs.Description.{Description, Target, to_object, to_socket, changed, changed_target}
use Rattle.ux_model.specs.Process.{Process}
use Rattle.ux_model.specs.FileObjects.{is_opening}
use Rattle.ux_model.specs.Descriptors.{with_flags}
use Rattle.ux_model.specs.References.{socket_refs, target_refs, description_refs}
use Rattle.ux_model.specs.Peers.{target_peer}
use Rattle.ux_model.specs.Flight.{flying_at, flying_in}
use Rattle.ux_model.proofs.Lists.ChangedPlaces.{place_within}
use Rattle.ux_model.specs.Owning.{target_name}
use Rattle.ux_model.proofs.Messages.Flying.{flying_at-changed}
use Rattle.ux_model.proofs.Releasing.OneGoes.{paired-filled}
use Rattle.ux_model.proofs.Counting.Owning.{target_name-changed, owned_still, names_filled}
use Rattle.ux_slots.specs.Held.{Held, count_at}
use Rattle.ux_state.specs.declared.openings.Openings.{Openings}
use Rattle.ux_state.specs.Counting.{Counted}
use Rattle.ux_state.specs.Keeping.{state_of, IsState}
use Rattle.ux_state.specs.Moves.{at_offset}
use Rattle.ux_state.proofs.TableCounts.{HoldAlike, same_refs, same_flight}

-- open for the same, of the same file object, or with the same peer, and it refers to the same
pub record IsAlike (x y : Description) : Type 0 where
  pub holds : (k : ℕ) → target_refs k y.target ≡ target_refs k x.target
  pub opens : (allows : Mode → Bool) (o : ℕ) → is_opening allows o (Some y) ≡ is_opening allows o (Some x)
  pub peer : target_peer y.target ≡ target_peer x.target
  pub name : target_name y.target ≡ target_name x.target
  pub flies : (u : ℕ) → flying_at u y.target ≡ flying_at u x.target

pub changed_alike : (f : Socket → Socket) (x y : Description) → ((s : Socket) → peer_of (f s).phase ≡ peer_of s.phase) →
    ((s : Socket) → (f s).name ≡ s.name) → ((s : Socket) → (f s).queue ≡ s.queue) →
    ((k : ℕ) (s : Socket) → socket_refs k (f s) ≡ socket_refs k s) → y ≡ changed f x → IsAlike x y
changed_alike f x y keeps shows stays refers e = record {
  holds = λ k. ap (λ D. target_refs k (Description.target D)) e ∙ holds k x.target;
  opens = λ allows o. ap (λ D. is_opening allows o (Some D)) e ∙ opens allows o x.target;
  peer = ap (λ D. target_peer (Description.target D)) e ∙ peer x.target;
  name = ap (λ D. target_name (Description.target D)) e ∙ target_name-changed f shows x.target;
  flies = λ u. ap (λ D. flying_at u (Description.target D)) e ∙ flying_at-changed u f stays x.target;
}
  where
    opens : (allows : Mode → Bool) (o : ℕ) (t : Target) →
        is_opening allows o (Some (record x { target = changed_target f t })) ≡ is_opening allows o (Some (record x { target = t }))
    opens allows o (to_object n) = refl
    opens allows o (to_socket s) = refl

    peer : (t : Target) → target_peer (changed_target f t) ≡ target_peer t
    peer (to_object n) = refl
    peer (to_socket s) = keeps s

    holds : (k : ℕ) (t : Target) → target_refs k (changed_target f t) ≡ target_refs k t
    holds k (to_object n) = refl
    holds k (to_socket s) = refers k s

pub flags_alike : (flags : OpenFlags) (x y : Description) → y ≡ with_flags flags x → IsAlike x y
flags_alike flags x y e = record {
  holds = λ k. ap (λ D. target_refs k (Description.target D)) e;
  opens =
      λ allows o. ap (λ D. is_opening allows o (Some D)) e;
  peer = ap (λ D. target_peer (Description.target D)) e;
  name =
      ap (λ D. target_name (Description.target D)) e;
  flies = λ u. ap (λ D. flying_at u (Description.target D)) e;
}

pub offset_alike : (offset : ℕ) (x y : Description) → y ≡ at_offset offset x → IsAlike x y
offset_alike offset x y e = record {
  holds = λ k. ap (λ D. target_refs k (Description.target D)) e;
  opens =
      λ allows o. ap (λ D. is_opening allows o (Some D)) e;
  peer = ap (λ D. target_peer (Description.target D)) e;
  name =
      ap (λ D. target_name (Description.target D)) e;
  flies = λ u. ap (λ D. flying_at u (Description.target D)) e;
}

-- a description is put in the place of another
counted_set : (ds : List (Option Description)) (xs : List Openings) (d : ℕ) (x y : Description) → place ds d ≡ Some x → IsAlike x y →
    Counted ds xs → Counted (filled ds d y) xs
unfolding Counted
counted_set ds xs d x y here alike counted = record {
  readers = λ o. counted.readers o ∙ sym (same can_read o);
  writers = λ o. counted.writers o ∙ sym (same can_write o);
}
  where
    same : (allows : Mode → Bool) (o : ℕ) → count_by (is_opening allows o) (filled ds d y) ≡ count_by (is_opening allows o) ds
    same allows o =
        let one : (Option Description → ℕ) = λ p. cond {A = ℕ} (is_opening allows o p) 1 0 in
        let s = sum_by-set one ds d (Some y) None (place_within ds d x here) in
        let old : one (place ds d) ≡ one (Some x) = ap one here in
        let new : one (Some y) ≡ one (Some x) = ap (λ b. cond {A = ℕ} b 1 0) (alike.opens allows o) in
        omega (arith, s, old, new)

held_set : (ds : List (Option Description)) (d : ℕ) (x y : Description) → place ds d ≡ Some x → IsAlike x y → HoldAlike ds (filled ds d y)
held_set ds d x y here alike = record {
  holds = λ k.
      let s = sum_by-set (description_refs k) ds d (Some y) None (place_within ds d x here) in
      let old : description_refs k (place ds d) ≡ target_refs k x.target = ap (description_refs k) here in
      let new = alike.holds k in
      omega (arith, s, old, new);
  flies = λ u.
      let s = sum_by-set (flying_in u) ds d (Some y) None (place_within ds d x here) in
      let old : flying_in u (place ds d) ≡ flying_at u x.target = ap (flying_in u) here in
      let new = alike.flies u in
      omega (arith, s, old, new);
}

pub changed_kept : {ks : List Bool} {fs : ℕ → ℕ} (xs : List Openings) (ls : List ℕ) (H K : Held Description) (os : List (Option View))
    (ps : List Process) (paths : List (Name × PathTarget)) (names : List (Name × ℕ)) (d : ℕ) (x y : Description) →
    IsState ks xs ls H fs (state_of os H ps paths names) → place H.places d ≡ Some x → K.places ≡ filled H.places d y →
    K.counts ≡ H.counts → IsAlike x y → IsState ks xs ls K fs (state_of os K ps paths names)
changed_kept xs ls H K os ps paths names d x y state here places counts alike = record {
  few_objects = state.few_objects;
  few_processes = state.few_processes;
  one_each = state.one_each;
  link_each = state.link_each;
  linked = state.linked;
  settled = state.settled;
  opened = rw places (counted_set H.places xs d x y here alike state.opened);
  counted = λ k. ap (λ cs. count_at (record H { counts = cs }) k) counts ∙ state.counted k
      ∙ sym (same_refs os H K ps paths names k (rw places (held_set H.places d x y here alike)));
  flying = same_flight os H K ps ps paths paths names names (rw places (held_set H.places d x y here alike)) state.flying;
  paired = rw places (paired-filled H.places d x y here alike.peer state.paired);
  owned = rw places (owned_still H.places (filled H.places d y) names (names_filled H.places d x y here alike.name) state.owned);
}

-- a description that is put back as it was
pub put_back : (ds : List (Option Description)) (d : ℕ) (x y : Description) → place ds d ≡ Some x → y ≡ x → filled ds d y ≡ ds
put_back ds d x y here same = ap (set ds d) (ap (λ z. Some z) same ∙ sym here) ∙ set-get_or ds d None
