-- Counts where a socket changes: a message is queued, or bytes are taken.
use Rattle.std.proofs.Common.{◌≡◌, ℕ, ◌+◌, ◌<◌, ◌≤◌, Bool, ◌&&◌, List, [], ◌∷◌, length, Option, Some, None, option_map, refl, ap, sym}
use Rattle.std.proofs.Common.{subst, ◌∙◌, arith}
use Rattle.std.specs.Prelude.{IsSome, IsSomeAnd, Result, Ok, Err, IsErr, OnErr, count_by, sum_by}
use Rattle.std.proofs.lemmas.List.Sums.{sum_by-set, sum_by_push, get_or-le-sum_by}
use Rattle.ux_model.specs.Types.{Name, Mode}
use Rattle.ux_model.specs.Flags.{can_read, can_write}
use Rattle.ux_model.specs.Names.{PathTarget}
use Rattle.ux_model.specs.Places.{place, changed_place}
use Rattle.ux_model.specs.Object.{View}
use Rattle.ux_model.specs.Message.{Message}
use Rattle.ux_model.specs.Socket.{Socket, peer_of, sent, sent_part, with_queue}
use Rattle.ux_model.specs.Description.{Description, Target, to_object, to_socket, socket_in, socket_of, changed, changed_target}
use Rattle.ux_model.specs.Process.{Process}
use Rattle.ux_model.specs.FileObjects.{is_opening}
use Rattle.ux_model.specs.Front.{front_of, OnFrontOf, OnFront}
use Rattle.ux_model.specs.References.{leads_to, times, queue_refs, socket_refs, target_refs, description_refs, refs}
use Rattle.ux_model.proofs.Lists.ChangedPlaces.{place_within, sum_by-changed}
use Rattle.ux_model.specs.Peers.{target_peer, peer_in}
use Rattle.ux_model.specs.Flight.{of_user, of_sender, rights_sent_by, flying_at, flying_in, in_flight}
use Rattle.ux_model.specs.Owning.{AreOwned}
use Rattle.ux_model.proofs.Releasing.OneGoes.{paired-here}
use Rattle.ux_model.proofs.Counting.Owning.{owned_still, names_changed_socket}
use Rattle.ux_model.proofs.Messages.FrontRights.{front_of_refs}
use Rattle.ux_model.proofs.Messages.Flying.{front_of_flying}
use Rattle.ux_slots.specs.Held.{Held, count_at, HasMore}
use Rattle.ux_state.specs.declared.openings.Openings.{Openings}
use Rattle.ux_state.specs.Counting.{one_if, Counted}
use Rattle.ux_state.specs.Keeping.{state_of, IsState}
use Rattle.ux_state.specs.Links.{AreLinked}

pub on_err : {X E P : Type 0} (r : Result X E) → OnErr r P → IsErr r → P
on_err (Ok x) h err = absurd (cc err)
on_err (Err e) h err = h

-- ---- what is open

opening_changed : (change : Socket → Socket) (allows : Mode → Bool) (o : ℕ) (x : Option Description) →
    one_if (is_opening allows o (option_map (changed change) x)) + 0 ≡ one_if (is_opening allows o x) + 0
opening_changed change allows o None = refl
opening_changed change allows o (Some D) = ap (λ b. one_if (b && allows D.mode) + 0) (by_target D.target)
  where
    by_target : (t : Target) → leads_to o (changed_target change t) ≡ leads_to o t
    by_target (to_object n) = refl
    by_target (to_socket s) = refl

pub counted_changed : (change : Socket → Socket) (ds : List (Option Description)) (n : ℕ) (xs : List Openings) → Counted ds xs →
    Counted (changed_place ds n (changed change)) xs
unfolding Counted
counted_changed change ds n xs counted = record {
  readers = λ o. let a = alike can_read o in let b = counted.readers o in omega (arith, a, b);
  writers = λ o. let a = alike can_write o in let b = counted.writers o in omega (arith, a, b);
}
  where
    alike : (allows : Mode → Bool) (o : ℕ) →
        count_by (is_opening allows o) (changed_place ds n (changed change)) + 0 ≡ count_by (is_opening allows o) ds + 0
    alike allows o = sum_by-changed (λ x. one_if (is_opening allows o x)) (changed change) (λ x. 0)
        (λ x. 0) (opening_changed change allows o) ds n

-- ---- what a socket holds

pub there : (ds : List (Option Description)) (n : ℕ) (s : Socket) → socket_in (place ds n) ≡ Some s → n < length ds
there ds n s e = go (place ds n) refl e
  where
    go : (x : Option Description) → place ds n ≡ x → socket_in x ≡ Some s → n < length ds
    go None h e = absurd (cc e)
    go (Some D) h e = place_within ds n D h

pub held_by : (k : ℕ) (x : Option Description) (s : Socket) → socket_in x ≡ Some s → description_refs k x ≡ socket_refs k s
held_by k None s e = absurd (cc e)
held_by k (Some D) s e = by_target D.target e
  where
    by_target : (t : Target) → socket_of t ≡ Some s → target_refs k t ≡ socket_refs k s
    by_target (to_object o) e = absurd (cc e)
    by_target (to_socket u) e = let same : u ≡ s = cc e in ap (socket_refs k) same

pub held_by_changed : (k : ℕ) (change : Socket → Socket) (x : Option Description) (s : Socket) → socket_in x ≡ Some s →
    description_refs k (option_map (changed change) x) ≡ socket_refs k (change s)
held_by_changed k change None s e = absurd (cc e)
held_by_changed k change (Some D) s e = by_target D.target e
  where
    by_target : (t : Target) → socket_of t ≡ Some s → target_refs k (changed_target change t) ≡ socket_refs k (change s)
    by_target (to_object o) e = absurd (cc e)
    by_target (to_socket u) e = let same : u ≡ s = cc e in ap (λ t. socket_refs k (change t)) same

-- its rights in flight
pub flying_by : (u : ℕ) (x : Option Description) (s : Socket) → socket_in x ≡ Some s → flying_in u x ≡ rights_sent_by u s.queue
flying_by u None s e = absurd (cc e)
flying_by u (Some D) s e = by_target D.target e
  where
    by_target : (t : Target) → socket_of t ≡ Some s → flying_at u t ≡ rights_sent_by u s.queue
    by_target (to_object o) e = absurd (cc e)
    by_target (to_socket v) e = let same : v ≡ s = cc e in ap (λ t. rights_sent_by u (Socket.queue t)) same

flying_by_changed : (u : ℕ) (change : Socket → Socket) (x : Option Description) (s : Socket) → socket_in x ≡ Some s →
    flying_in u (option_map (changed change) x) ≡ rights_sent_by u (change s).queue
flying_by_changed u change None s e = absurd (cc e)
flying_by_changed u change (Some D) s e = by_target D.target e
  where
    by_target : (t : Target) → socket_of t ≡ Some s → flying_at u (changed_target change t) ≡ rights_sent_by u (change s).queue
    by_target (to_object o) e = absurd (cc e)
    by_target (to_socket v) e = let same : v ≡ s = cc e in ap (λ t. rights_sent_by u (Socket.queue (change t))) same

-- the peer that it names
peer_by : (change : Socket → Socket) (x : Option Description) (s : Socket) → socket_in x ≡ Some s →
    peer_of (change s).phase ≡ peer_of s.phase → peer_in (option_map (changed change) x) ≡ peer_in x
peer_by change None s e same = absurd (cc e)
peer_by change (Some D) s e same = by_target D.target e
  where
    by_target : (t : Target) → socket_of t ≡ Some s → target_peer (changed_target change t) ≡ target_peer t
    by_target (to_object o) e = absurd (cc e)
    by_target (to_socket u) e = let is : s ≡ u = sym (cc e) in subst (λ t. peer_of (change t).phase ≡ peer_of t.phase) is same

-- the socket that stands there
abbrev pub Found : List (Option Description) → ℕ → Type 0
Found ds n = (s : Socket) × (socket_in (place ds n) ≡ Some s)

pub found : (ds : List (Option Description)) (n : ℕ) → IsSome (socket_in (place ds n)) → Found ds n
found ds n some = go (socket_in (place ds n)) refl some
  where
    go : (o : Option Socket) → socket_in (place ds n) ≡ o → IsSome o → Found ds n
    go None h some = absurd (cc some)
    go (Some s) h some = (s, h)

module _ {ks : List Bool} {fs : ℕ → ℕ} (xs : List Openings) (ls : List ℕ) (H : Held Description) (os : List (Option View))
    (ps : List Process) (paths : List (Name × PathTarget)) (names : List (Name × ℕ))
    (state : IsState ks xs ls H fs (state_of os H ps paths names)) where
  -- one socket changes, perhaps with a name, and the counts follow
  pub socket_changed : {gs : ℕ → ℕ} (K : Held Description) (more : List (Name × PathTarget)) (shown : List (Name × ℕ)) (n : ℕ)
      (change : Socket → Socket) (s : Socket) → socket_in (place H.places n) ≡ Some s →
      K.places ≡ changed_place H.places n (changed change) → peer_of (change s).phase ≡ peer_of s.phase →
      ((k : ℕ) → count_at K k + socket_refs k s ≡ count_at H k + socket_refs k (change s)) →
      ((u : ℕ) → gs u + rights_sent_by u s.queue ≡ fs u + rights_sent_by u (change s).queue) → AreLinked more ls →
      AreOwned (changed_place H.places n (changed change)) shown → IsState ks xs ls K gs (state_of os K ps more shown)
  unfolding refs in_flight
  socket_changed K more shown n change s here places ties counts flights linked owned = record {
    few_objects = state.few_objects;
    few_processes = state.few_processes;
    one_each = state.one_each;
    link_each = state.link_each;
    opened = rw places (counted_changed change H.places n xs state.opened);
    linked = linked;
    settled = state.settled;
    counted = λ k.
        let a = sum_by-set (description_refs k) H.places n (option_map (changed change) (place H.places n)) None (there H.places n s here)
        in
        let b = held_by k (place H.places n) s here in
        let c = held_by_changed k change (place H.places n) s here in
        let d = ap (sum_by (description_refs k)) places in
        let e = counts k in
        let f = state.counted k in
        omega (arith, a, b, c, d, e, f);
    flying = λ u.
        let a = sum_by-set (flying_in u) H.places n (option_map (changed change) (place H.places n)) None (there H.places n s here) in
        let b = flying_by u (place H.places n) s here in
        let c = flying_by_changed u change (place H.places n) s here in
        let d = ap (sum_by (flying_in u)) places in
        let e = flights u in
        let f = state.flying u in
        omega (arith, a, b, c, d, e, f);
    paired = rw places (paired-here H.places n (changed change) (peer_by change (place H.places n) s here ties) state.paired);
    owned = rw places owned;
  }

  -- the same, where it keeps its name
  pub socket_kept : {gs : ℕ → ℕ} (K : Held Description) (n : ℕ) (change : Socket → Socket) (s : Socket) →
      socket_in (place H.places n) ≡ Some s → K.places ≡ changed_place H.places n (changed change) →
      peer_of (change s).phase ≡ peer_of s.phase → ((t : Socket) → (change t).name ≡ t.name) →
      ((k : ℕ) → count_at K k + socket_refs k s ≡ count_at H k + socket_refs k (change s)) →
      ((u : ℕ) → gs u + rights_sent_by u s.queue ≡ fs u + rights_sent_by u (change s).queue) →
      IsState ks xs ls K gs (state_of os K ps paths names)
  socket_kept K n change s here places ties shows counts flights =
      socket_changed K paths names n change s here places ties counts flights state.linked
      (owned_still H.places _ names (names_changed_socket H.places n change shows) state.owned)

  -- the same places and counts
  pub same_kept : {gs : ℕ → ℕ} (K : Held Description) → K.places ≡ H.places → ((k : ℕ) → count_at K k ≡ count_at H k) →
      ((u : ℕ) → gs u ≡ fs u) → IsState ks xs ls K gs (state_of os K ps paths names)
  unfolding refs in_flight
  same_kept K places counts flights = record {
    few_objects = state.few_objects;
    few_processes = state.few_processes;
    one_each = state.one_each;
    link_each = state.link_each;
    opened = rw places state.opened;
    linked = state.linked;
    settled = state.settled;
    counted = λ k. let a = counts k in let b = state.counted k in let c = ap (sum_by (description_refs k)) places in omega (arith, a, b, c);
    flying = λ u. flights u ∙ state.flying u ∙ sym (ap (sum_by (flying_in u)) places);
    paired = rw places state.paired;
    owned = rw places state.owned;
  }

  -- a message is queued, whose rights were counted before
  pub message_added : {gs : ℕ → ℕ} (R P : Held Description) (n count : ℕ) (m : Message) (rights : List ℕ) → rights ≡ m.rights →
      HasMore (λ k. times k rights) H R → P.places ≡ changed_place R.places n (changed (sent m)) → P.counts ≡ R.counts →
      IsSome (socket_in (place H.places n)) → count ≡ length m.rights → ((u : ℕ) → gs u ≡ fs u + of_user u m.uid count) →
      IsState ks xs ls P gs (state_of os P ps paths names)
  message_added R P n count m rights same more places counts some long flights =
      let f = found H.places n some in
      socket_kept P n (sent m) f.0 f.1 (places ∙ ap (λ ds. changed_place ds n (changed (sent m))) more.places) refl (λ t. refl) (λ k.
      let a = more.counts k in
      let b : count_at P k ≡ count_at R k = ap (λ cs. count_at (record H { counts = cs }) k) counts in
      let c = sum_by_push (λ (m : Message). times k m.rights) (Socket.queue f.0) (sent_part f.0 m) in
      let d = ap (times k) same in
      omega (arith, a, b, c, d)) (λ u.
      let a = flights u in
      let b = ap (of_user u m.uid) long in
      let c = sum_by_push (λ (m : Message). of_user u m.uid (length m.rights)) (Socket.queue f.0) (sent_part f.0 m) in
      omega (arith, a, b, c))

  -- it wasn't, and its rights no longer count
  pub message_back : {gs : ℕ → ℕ} (R P K : Held Description) (rights back : List ℕ) → back ≡ rights → HasMore (λ k. times k rights) H R →
      P.places ≡ R.places → P.counts ≡ R.counts → HasMore (λ k. times k back) K P →
      ((u : ℕ) → gs u ≡ fs u) → IsState ks xs ls K gs (state_of os K ps paths names)
  message_back R P K rights back same more places counts less flights = same_kept K (sym less.places ∙ places ∙ more.places) (λ k.
      let a = more.counts k in
      let b : count_at P k ≡ count_at R k = ap (λ cs. count_at (record H { counts = cs }) k) counts in
      let c = less.counts k in
      let d = ap (times k) same in
      omega (arith, a, b, c, d)) flights

  -- what a receive hands out was counted
  pub rights_counted : (P : Held Description) (n c : ℕ) (rights : List ℕ) → P.counts ≡ H.counts →
      IsSomeAnd (socket_in (place H.places n)) (λ s. 0 < length s.queue) →
      IsSomeAnd (socket_in (place H.places n)) (λ s. OnFront c s (λ f. rights ≡ f.rights)) →
      (k : ℕ) → times k rights ≤ count_at P k
  unfolding refs
  rights_counted P n c rights same some gives k = go (socket_in (place H.places n)) refl some gives
    where
      by_queue : (s : Socket) (q : List Message) → s.queue ≡ q → socket_in (place H.places n) ≡ Some s → 0 < length q →
          OnFrontOf c s q (λ f. rights ≡ f.rights) → times k rights ≤ count_at P k
      by_queue s [] e here some gives = absurd (omega (arith, some))
      by_queue s (m ∷ ms) e here some gives =
          let a = front_of_refs k c s m ms in
          let b = ap (times k) gives in
          let d = ap (queue_refs k) e in
          let f = held_by k (place H.places n) s here in
          let g = get_or-le-sum_by (description_refs k) H.places n None (there H.places n s here) in
          let h = state.counted k in
          let i = ap (λ cs. count_at (record H { counts = cs }) k) same in
          omega (arith, a, b, d, f, g, h, i)

      go : (o : Option Socket) → socket_in (place H.places n) ≡ o → IsSomeAnd o (λ s. 0 < length s.queue) →
          IsSomeAnd o (λ s. OnFront c s (λ f. rights ≡ f.rights)) → times k rights ≤ count_at P k
      go None here some gives = absurd some
      go (Some s) here some gives = by_queue s s.queue refl here some gives

  -- and was counted for the user who sent it
  pub rights_flew : (n c count : ℕ) (sender : Option ℕ) (rights : List ℕ) → count ≡ length rights →
      IsSomeAnd (socket_in (place H.places n)) (λ s. 0 < length s.queue) →
      IsSomeAnd (socket_in (place H.places n)) (λ s. OnFront c s (λ f. rights ≡ f.rights)) →
      IsSomeAnd (socket_in (place H.places n)) (λ s. OnFront c s (λ f. sender ≡ option_map (λ o. o.uid) f.origin)) →
      (u : ℕ) → of_sender u sender count ≤ fs u
  unfolding in_flight
  rights_flew n c count sender rights long some gives sent u = go (socket_in (place H.places n)) refl some gives sent
    where
      by_queue : (s : Socket) (q : List Message) → s.queue ≡ q → socket_in (place H.places n) ≡ Some s → 0 < length q →
          OnFrontOf c s q (λ f. rights ≡ f.rights) →
          OnFrontOf c s q (λ f. sender ≡ option_map (λ o. o.uid) f.origin) → of_sender u sender count ≤ fs u
      by_queue s [] e here some gives sent = absurd (omega (arith, some))
      by_queue s (m ∷ ms) e here some gives sent =
          let a = front_of_flying u c s m ms in
          let b : of_sender u sender count ≡ of_sender u (option_map (λ o. o.uid) (front_of c s m ms).origin)
          (length (front_of c s m ms).rights) = λ j. of_sender u (sent j) ((long ∙ ap length gives) j) in
          let d = ap (rights_sent_by u) e in
          let f = flying_by u (place H.places n) s here in
          let g = get_or-le-sum_by (flying_in u) H.places n None (there H.places n s here) in
          let h = state.flying u in
          omega (arith, a, b, d, f, g, h)

      go : (o : Option Socket) → socket_in (place H.places n) ≡ o → IsSomeAnd o (λ s. 0 < length s.queue) →
          IsSomeAnd o (λ s. OnFront c s (λ f. rights ≡ f.rights)) →
          IsSomeAnd o (λ s. OnFront c s (λ f. sender ≡ option_map (λ o. o.uid) f.origin)) → of_sender u sender count ≤ fs u
      go None here some gives sent = absurd some
      go (Some s) here some gives sent = by_queue s s.queue refl here some gives sent

  -- messages are taken, and the rights that came with them no longer count
  pub bytes_taken : {gs : ℕ → ℕ} (P K : Held Description) (n c count : ℕ) (sender : Option ℕ) (rights given : List ℕ) → given ≡ rights →
      count ≡ length rights → P.counts ≡ H.counts →
      IsSomeAnd (socket_in (place H.places n)) (λ s. 0 < length s.queue) →
      IsSomeAnd (socket_in (place H.places n)) (λ s. OnFront c s (λ f. rights ≡ f.rights)) →
      IsSomeAnd (socket_in (place H.places n)) (λ s. OnFront c s (λ f. P.places ≡ changed_place H.places n (changed (with_queue f.rest)))) →
      IsSomeAnd (socket_in (place H.places n)) (λ s. OnFront c s (λ f. sender ≡ option_map (λ o. o.uid) f.origin)) →
      HasMore (λ k. times k given) K P → ((u : ℕ) → fs u ≡ gs u + of_sender u sender count) →
      IsState ks xs ls K gs (state_of os K ps paths names)
  bytes_taken {gs = gs} P K n c count sender rights given handed long same some gives leaves sent less flights =
      go (socket_in (place H.places n)) refl some gives leaves sent
    where
      by_queue : (s : Socket) (q : List Message) → s.queue ≡ q → socket_in (place H.places n) ≡ Some s → 0 < length q →
          OnFrontOf c s q (λ f. rights ≡ f.rights) →
          OnFrontOf c s q (λ f. P.places ≡ changed_place H.places n (changed (with_queue f.rest))) →
          OnFrontOf c s q (λ f. sender ≡ option_map (λ o. o.uid) f.origin) → IsState ks xs ls K gs (state_of os K ps paths names)
      by_queue s [] e here some gives leaves sent = absurd (omega (arith, some))
      by_queue s (m ∷ ms) e here some gives leaves sent =
          socket_kept K n (with_queue (front_of c s m ms).rest) s here (sym less.places ∙ leaves) refl (λ t. refl) (λ k.
          let a = front_of_refs k c s m ms in
          let b = ap (times k) gives in
          let d = ap (queue_refs k) e in
          let f = less.counts k in
          let j = ap (times k) handed in
          let i = ap (λ cs. count_at (record H { counts = cs }) k) same in
          omega (arith, a, b, d, f, i, j)) (λ u.
          let a = front_of_flying u c s m ms in
          let b : of_sender u sender count ≡ of_sender u (option_map (λ o. o.uid) (front_of c s m ms).origin)
          (length (front_of c s m ms).rights) = λ j. of_sender u (sent j) ((long ∙ ap length gives) j) in
          let d = ap (rights_sent_by u) e in
          let f = flights u in
          omega (arith, a, b, d, f))

      go : (o : Option Socket) → socket_in (place H.places n) ≡ o → IsSomeAnd o (λ s. 0 < length s.queue) →
          IsSomeAnd o (λ s. OnFront c s (λ f. rights ≡ f.rights)) →
          IsSomeAnd o (λ s. OnFront c s (λ f. P.places ≡ changed_place H.places n (changed (with_queue f.rest)))) →
          IsSomeAnd o (λ s. OnFront c s (λ f. sender ≡ option_map (λ o. o.uid) f.origin)) →
          IsState ks xs ls K gs (state_of os K ps paths names)
      go None here some gives leaves sent = absurd some
      go (Some s) here some gives leaves sent = by_queue s s.queue refl here some gives leaves sent
