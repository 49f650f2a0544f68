-- New descriptions with their entries, part by part.
use Rattle.std.proofs.Common.{◌≡◌, ℕ, suc, ◌+◌, ◌-◌, ◌^◌, ◌<◌, ◌≤◌, ◌&&◌, true, cond, List, [], ◌∷◌, ◌++◌, length, get_or, set, Option}
use Rattle.std.proofs.Common.{Some, ap, sym}
use Rattle.std.proofs.Common.{◌∙◌, arith, refl, Bool}
use Rattle.std.specs.Prelude.{count_by}
use Rattle.std.proofs.lemmas.List.{length_push, set-get_or}
use Rattle.std.proofs.lemmas.List.Sums.{sum_by_push, count_by-le-length}
use Rattle.ux_model.specs.Types.{Mode, Name, Cred, SockType, OpenFlags}
use Rattle.ux_model.specs.Names.{PathTarget}
use Rattle.ux_model.specs.Flags.{can_read, can_write}
use Rattle.ux_model.specs.Places.{place, filled}
use Rattle.ux_model.specs.Object.{View}
use Rattle.ux_model.specs.Socket.{Socket, new_socket, pair_end}
use Rattle.ux_model.specs.Description.{Description, object_of, to_socket}
use Rattle.ux_model.specs.Process.{Process, Descriptor, descriptor, lowest_free, two_lowest_free}
use Rattle.ux_model.specs.Forking.{child_of}
use Rattle.ux_model.specs.State.{with_child, State, is_live, table_of, next_description, with_table, with_new}
use Rattle.ux_model.specs.Pairing.{socket_description, with_pair}
use Rattle.ux_model.specs.FileObjects.{is_opening}
use Rattle.ux_model.specs.Opening.{file_description}
use Rattle.ux_model.specs.References.{table_refs, target_refs, description_refs}
use Rattle.ux_model.specs.Peers.{target_peer, Paired, HoldsNothing}
use Rattle.ux_model.specs.Flight.{flying_in}
use Rattle.ux_model.proofs.Counting.Moves.{one, table_filled}
use Rattle.ux_model.proofs.Messages.Flying.{nothing_flying}
use Rattle.ux_model.proofs.Counting.Making.{paired-push, paired-pair}
use Rattle.ux_model.proofs.Counting.Owning.{owned_still, names_push}
use Rattle.ux_fdtable.proofs.TwoFree.{free_at, first_free, second_free}
use Rattle.ux_state.specs.declared.openings.Openings.{Openings}
use Rattle.ux_state.specs.Counting.{Counted, CountsOneMore, HasRoom, IsInside, counts_of, one_if}
use Rattle.ux_slots.specs.Held.{Held, Adds, count_at, once}
use Rattle.ux_state.specs.Keeping.{state_of, IsState}
use Rattle.ux_state.specs.Moves.{IsFresh}
use Rattle.ux_state.proofs.Lookups.{table_here, table_put}
use Rattle.ux_state.proofs.Settling.{by_counts, beyond_none, leads_away, settled_more}
use Rattle.ux_state.proofs.TableCounts.{HoldAlike, process_kept}

-- ---- counts

pub counted_push : (ds : List (Option Description)) (xs ys : List Openings) (D : Description) → Counted ds xs → IsInside D xs →
    CountsOneMore D xs ys → Counted (ds ++ Some D ∷ []) ys
unfolding Counted
counted_push ds xs ys D counted led more = record {
  readers = λ o.
      let a = counted.readers o in
      let b = pushed can_read o in
      by_counts xs o (λ inside. let c = more.readers o inside in omega (arith, a, b, c))
      (λ beyond none.
      let long = more.long in
      let old : (counts_of xs o).readers ≡ 0 = ap (λ (x : Openings). x.readers) none in
      let new : (counts_of ys o).readers ≡ 0 = ap (λ (x : Openings). x.readers) (beyond_none ys o (omega (arith, beyond, long))) in
      let away = elsewhere can_read o beyond in
      omega (arith, a, b, old, new, away));
  writers = λ o.
      let a = counted.writers o in
      let b = pushed can_write o in
      by_counts xs o (λ inside. let c = more.writers o inside in omega (arith, a, b, c))
      (λ beyond none.
      let long = more.long in
      let old : (counts_of xs o).writers ≡ 0 = ap (λ (x : Openings). x.writers) none in
      let new : (counts_of ys o).writers ≡ 0 = ap (λ (x : Openings). x.writers) (beyond_none ys o (omega (arith, beyond, long))) in
      let away = elsewhere can_write o beyond in
      omega (arith, a, b, old, new, away));
}
  where
    -- it leads to nothing that isn't counted
    elsewhere : (allows : Mode → Bool) (o : ℕ) → length xs ≤ o → one_if (is_opening allows o (Some D)) ≡ 0
    elsewhere allows o beyond = ap (λ b. one_if (b && allows D.mode))
        (leads_away o D.target (λ e. let inside = led o e in absurd (omega (arith, inside, beyond))))

    pushed : (allows : Mode → Bool) (o : ℕ) →
        count_by (is_opening allows o) (ds ++ Some D ∷ []) ≡ count_by (is_opening allows o) ds + one_if (is_opening allows o (Some D))
    pushed allows o = sum_by_push (λ (p : Option Description). cond {A = ℕ} (is_opening allows o p) 1 0) ds (Some D)

-- a socket is open of no file object
pub any_socket_counted : (xs : List Openings) (flags : OpenFlags) (s : Socket) (D : Description) → D ≡ socket_description flags s →
    CountsOneMore D xs xs
any_socket_counted xs flags s D e = rw e (record { long = refl; readers = λ o h. omega arith; writers = λ o h. omega arith })

pub any_socket_inside : (xs : List Openings) (flags : OpenFlags) (s : Socket) (D : Description) → D ≡ socket_description flags s →
    IsInside D xs
any_socket_inside xs flags s D e o there = absurd (cc (sym (ap (λ E. object_of (Description.target E)) e) ∙ there))

-- one more can be counted while there are numbers
pub room_to_count : (ds : List (Option Description)) (xs : List Openings) → Counted ds xs → length ds + 1 < 2 ^ 128 → HasRoom xs
unfolding Counted
room_to_count ds xs counted few = record {
  readers = λ o h. let e = counted.readers o in let le = count_by-le-length (is_opening can_read o) ds in omega (arith, e, le, few);
  writers = λ o h. let e = counted.writers o in let le = count_by-le-length (is_opening can_write o) ds in omega (arith, e, le, few);
}

-- ---- references

-- a file's description refers to nothing
pub holds_nothing : (o : ℕ) (mode : Mode) (flags : OpenFlags) (D : Description) → D ≡ file_description o mode flags → HoldsNothing D
holds_nothing o mode flags D is = record {
  refs = λ k. ap (λ E. target_refs k (Description.target E)) is;
  peer =
      ap (λ E. target_peer (Description.target E)) is;
}

-- nor does a socket that is tied to nobody
pub idle_holds : (kind : SockType) (flags : OpenFlags) (D : Description) → D ≡ socket_description flags (new_socket kind) → HoldsNothing D
idle_holds kind flags D is = record {
  refs = λ k. ap (λ E. target_refs k (Description.target E)) is;
  peer =
      ap (λ E. target_peer (Description.target E)) is;
}

-- nor does a new socket, while nothing waits at it
pub end_holds : (kind : SockType) (peer : ℕ) (flags : OpenFlags) (cred : Cred) (D : Description) →
    D ≡ socket_description flags (pair_end kind peer cred) → (k : ℕ) → target_refs k D.target ≡ 0
end_holds kind peer flags cred D is k = ap (λ E. target_refs k (Description.target E)) is ∙ by_kind kind
  where
    by_kind : (kind : SockType) → target_refs k (to_socket (pair_end kind peer cred)) ≡ 0
    by_kind SockType.Stream = refl
    by_kind SockType.Dgram = refl
    by_kind SockType.Seq = refl

-- the two of a pair name one another as peers, or for datagrams nobody
pub pair_paired : (kind : SockType) (ds : List (Option Description)) (flags : OpenFlags) (cred : Cred) (D E : Description) →
    D ≡ socket_description flags (pair_end kind (length ds + 1) cred) →
    E ≡ socket_description flags (pair_end kind (length ds) cred) → Paired ds → Paired ((ds ++ Some D ∷ []) ++ Some E ∷ [])
pair_paired kind ds flags cred D E first second = by_kind kind (ap peer first) (ap peer second)
  where
    peer : Description → Option ℕ
    peer D = target_peer D.target

    by_kind : (kind : SockType) → target_peer D.target ≡ target_peer (to_socket (pair_end kind (length ds + 1) cred)) →
        target_peer E.target ≡ target_peer (to_socket (pair_end kind (length ds) cred)) →
        Paired ds → Paired ((ds ++ Some D ∷ []) ++ Some E ∷ [])
    by_kind SockType.Stream ahead back paired = paired-pair ds D E ahead back paired
    by_kind SockType.Seq ahead back paired = paired-pair ds D E ahead back paired
    by_kind SockType.Dgram none nobody paired = paired-push (ds ++ Some D ∷ []) E nobody (paired-push ds D none paired)

-- one more that refers to nothing
held_push : (ds : List (Option Description)) (D : Description) → ((k : ℕ) → target_refs k D.target ≡ 0) → HoldAlike ds (ds ++ Some D ∷ [])
held_push ds D none = record {
  holds = λ k. let a = sum_by_push (description_refs k) ds (Some D) in let b = none k in omega (arith, a, b);
  flies = λ u. let a = sum_by_push (flying_in u) ds (Some D) in let b = nothing_flying u D.target none in omega (arith, a, b);
}

-- and another
held_push_two : (ds : List (Option Description)) (D E : Description) → ((k : ℕ) → target_refs k D.target ≡ 0) →
    ((k : ℕ) → target_refs k E.target ≡ 0) → HoldAlike ds ((ds ++ Some D ∷ []) ++ Some E ∷ [])
held_push_two ds D E none nothing =
    let first = held_push ds D none in
    let second = held_push (ds ++ Some D ∷ []) E nothing in
    record { holds = λ k. second.holds k ∙ first.holds k; flies = λ u. second.flies u ∙ first.flies u }

-- ---- what may be added

pub fresh_nothing : (S : State) (D : Description) → IsFresh S D → HoldsNothing D
unfolding IsFresh
fresh_nothing S D fresh = fresh.nothing

pub fresh_inside : (V S : State) (D : Description) (xs : List Openings) → V ≡ S → IsFresh S D → length V.objects ≤ length xs → IsInside D xs
unfolding IsFresh
fresh_inside V S D xs same fresh each o there =
    let inside = fresh.made o there in
    let long = ap (λ R. length (State.objects R)) same in
    omega (arith, inside, each, long)

pub fresh_socket : (S : State) (kind : SockType) (flags : OpenFlags) (D : Description) → D ≡ socket_description flags (new_socket kind) →
    IsFresh S D
unfolding IsFresh
fresh_socket S kind flags D e = record {
  nothing = idle_holds kind flags D e;
  made = λ o there. absurd (cc (sym (ap (λ E. object_of (Description.target E)) e) ∙ there));
}

pub fresh_file : (S : State) (n : ℕ) (mode : Mode) (flags : OpenFlags) (D : Description) → D ≡ file_description n mode flags →
    n < length S.objects → IsFresh S D
unfolding IsFresh
fresh_file S n mode flags D e inside = record {
  nothing = holds_nothing n mode flags D e;
  made = λ o there.
      let same : n ≡ o = cc (sym (ap (λ E. object_of (Description.target E)) e) ∙ there) in
      omega (arith, same, inside);
}

pub adds_from : (H J K : Held Description) (D : Description) → J.places ≡ H.places → J.counts ≡ H.counts → Adds D J K → Adds D H K
adds_from H J K D places counts adds = record {
  places = adds.places ∙ ap (λ ds. ds ++ Some D ∷ []) places;
  counts = λ k.
      let a = adds.counts k in
      let b = ap (λ cs. count_at (record H { counts = cs }) k) counts in
      let c = ap (λ ds. once (length ds) k) places in
      omega (arith, a, b, c);
}

module _ {ks : List Bool} {fs : ℕ → ℕ} (xs : List Openings) (ls : List ℕ) (H : Held Description) (os : List (Option View))
    (ps : List Process) (paths : List (Name × PathTarget)) (names : List (Name × ℕ))
    (state : IsState ks xs ls H fs (state_of os H ps paths names))
    (p : ℕ) (P : Process) (live : is_live (state_of os H ps paths names) p ≡ true) (at : P ≡ get_or ps (p - 1) P) where
  -- a file's description more, to which the lowest free number leads
  pub object_opened : (ys : List Openings) (K : Held Description) (Q : Process) (n : ℕ) (e : Descriptor) (D : Description) →
      Q ≡ record P { table = filled P.table n e } → lowest_free P.table ≡ Some n →
      e.description ≡ length H.places → Adds D H K → HoldsNothing D → IsInside D xs → CountsOneMore D xs ys →
      IsState ks ys ls K fs (state_of os K (set ps (p - 1) Q) paths names)
  object_opened ys K Q n e D new lowest last adds none led more =
      process_kept xs ls H os ps paths names state p P live at ys K Q more.long (rw adds.places (held_push H.places D none.refs))
      (rw adds.places (counted_push H.places xs ys D state.opened led more))
      (settled_more ks xs ys ls os D state.settled more) (rw adds.places (paired-push H.places D none.peer state.paired))
      (rw adds.places (owned_still H.places _ names (names_push H.places D) state.owned))
      (λ k.
      let free = free_at P.table 0 n lowest in
      let a = table_filled k P.table n e free.0 in
      let b : one k (place P.table n) ≡ 0 = ap (one k) free.1 in
      let c : table_refs k Q.table ≡ table_refs k (filled P.table n e) = ap (λ R. table_refs k (Process.table R)) new in
      let f = adds.counts k in
      let g : one k (Some e) ≡ once (length H.places) k = ap (λ m. once m k) last in
      omega (arith, a, b, c, f, g))

  -- two descriptions more, to which the two lowest free numbers lead
  pub pair_opened : (ys zs : List Openings) (J K : Held Description) (Q : Process) (n m : ℕ) (e f : Descriptor) (D E : Description) →
      Q ≡ record P { table = filled (filled P.table n e) m f } → two_lowest_free P.table ≡ Some (n, m) →
      e.description ≡ length H.places → f.description ≡ length H.places + 1 → Adds D H J → Adds E J K →
      Paired ((H.places ++ Some D ∷ []) ++ Some E ∷ []) →
      ((k : ℕ) → target_refs k D.target ≡ 0) → ((k : ℕ) → target_refs k E.target ≡ 0) → IsInside D xs → IsInside E xs →
      CountsOneMore D xs ys → CountsOneMore E ys zs → IsState ks zs ls K fs (state_of os K (set ps (p - 1) Q) paths names)
  pair_opened ys zs J K Q n m e f D E new lowest first second adds adds' ties d_holds e_holds d_led e_led d_more e_more =
      let two : K.places ≡ (H.places ++ Some D ∷ []) ++ Some E ∷ [] = adds'.places ∙ ap (λ ds. ds ++ Some E ∷ []) adds.places in
      let led : IsInside E ys = λ o there. let inside = e_led o there in let long = d_more.long in omega (arith, inside, long) in
      process_kept xs ls H os ps paths names state p P live at zs K Q (e_more.long ∙ d_more.long)
      (rw two (held_push_two H.places D E d_holds e_holds))
      (rw two (counted_push _ ys zs E (counted_push H.places xs ys D state.opened d_led d_more) led e_more))
      (settled_more ks ys zs ls os E (settled_more ks xs ys ls os D state.settled d_more) e_more) (rw two ties)
      (rw two (owned_still _ _ names (names_push (H.places ++ Some D ∷ []) E)
      (owned_still H.places _ names (names_push H.places D) state.owned)))
      (λ k.
      let low = first_free P.table n m lowest in
      let a = table_filled k P.table n e low.0 in
      let b : one k (place P.table n) ≡ 0 = ap (one k) low.1 in
      let high = second_free P.table n m e lowest in
      let c = table_filled k (filled P.table n e) m f high.0 in
      let g : one k (place (filled P.table n e) m) ≡ 0 = ap (one k) high.1 in
      let h : table_refs k Q.table ≡ table_refs k (filled (filled P.table n e) m f) = ap (λ R. table_refs k (Process.table R)) new in
      let i = adds.counts k in
      let j = adds'.counts k in
      let long : length J.places ≡ length H.places + 1 = ap length adds.places ∙ length_push H.places (Some D) in
      let o : once (length J.places) k ≡ once (length H.places + 1) k = ap (λ x. once x k) long in
      let q : one k (Some e) ≡ once (length H.places) k = ap (λ x. once x k) first in
      let r : one k (Some f) ≡ once (length H.places + 1) k = ap (λ x. once x k) second in
      omega (arith, a, b, c, g, h, i, j, o, q, r))

-- ---- entries

-- an entry that was put into a process's table, where descriptions were added before
pub entries_put : (V S T : State) (p : ℕ) (P R : Process) (ds : List (Option Description)) (table t : List (Option Descriptor)) →
    is_live S p ≡ true → V ≡ S →
    P ≡ get_or V.processes (p - 1) P → R ≡ P → record V { descriptions = ds } ≡ T → table ≡ t →
    record V { descriptions = ds; processes = set V.processes (p - 1) (record R { table = table }) } ≡ with_table T p t
entries_put V S T p P R ds table t live same here r end e =
    (λ j. record V { descriptions = ds; processes = set V.processes (p - 1) (record (r j) { table = e j }) })
    ∙ table_put (record V { descriptions = ds }) p P t (ap (λ U. is_live U p) same ∙ live) here
    ∙ ap (λ U. with_table U p t) end

-- nothing was put
pub untouched : (V S : State) (p : ℕ) (P R : Process) (ds : List (Option Description)) (t : List (Option Descriptor)) → V ≡ S →
    P ≡ get_or V.processes (p - 1) P → R ≡ P → ds ≡ V.descriptions → t ≡ R.table →
    record V { descriptions = ds; processes = set V.processes (p - 1) (record R { table = t }) } ≡ S
untouched V S p P R ds t same here r e unchanged =
    (λ j. record V { descriptions = e j; processes = set V.processes (p - 1) (record R { table = unchanged j }) })
    ∙ (λ j. record V { processes = set V.processes (p - 1) ((r ∙ here) j) })
    ∙ ap (λ ps. record V { processes = ps }) (set-get_or V.processes (p - 1) P) ∙ same

-- the descriptions stay
pub same_places : (V S : State) (ds : List (Option Description)) → V ≡ S → ds ≡ V.descriptions → record V { descriptions = ds } ≡ S
same_places V S ds same e = (λ j. record V { descriptions = e j }) ∙ same

-- one process more
pub child_put : (V S : State) (ds : List (Option Description)) (ps : List Process) (Q P : Process) → V ≡ S → ds ≡ V.descriptions →
    ps ≡ V.processes ++ Q ∷ [] → Q ≡ child_of P →
    record V { descriptions = ds; processes = ps } ≡ with_child S (child_of P)
child_put V S ds ps Q P same e pushed copy =
    (λ j. record V { descriptions = e j; processes = pushed j })
    ∙ (λ j. record V { processes = V.processes ++ copy j ∷ [] })
    ∙ ap (λ U. with_child U (child_of P)) same

-- the table of the process, through its parts
pub table_is : (V S : State) (p : ℕ) (P R : Process) → is_live S p ≡ true → V ≡ S → P ≡ get_or V.processes (p - 1) P → R ≡ P →
    R.table ≡ table_of S p
table_is V S p P R live same here r =
    ap (λ Q. Process.table Q) r ∙ sym (table_here V p P (ap (λ U. is_live U p) same ∙ live) here) ∙ ap (λ U. table_of U p) same

pub new_one : (V S : State) (D : Description) (ds : List (Option Description)) → V ≡ S → ds ≡ V.descriptions ++ Some D ∷ [] →
    record V { descriptions = ds } ≡ with_new S D
new_one V S D ds same e = (λ j. record V { descriptions = e j }) ∙ ap (λ U. with_new U D) same

pub new_both : (V S : State) (D E : Description) (ds : List (Option Description)) → V ≡ S →
    ds ≡ (V.descriptions ++ Some D ∷ []) ++ Some E ∷ [] → record V { descriptions = ds } ≡ with_new (with_new S D) E
new_both V S D E ds same e = (λ j. record V { descriptions = e j }) ∙ ap (λ U. with_new (with_new U D) E) same

pub new_two : (V S : State) (kind : SockType) (flags : OpenFlags) (cred : Cred) (ds : List (Option Description)) → V ≡ S →
    ds ≡ V.descriptions ++ Some (socket_description flags (pair_end kind (length V.descriptions + 1) cred)) ∷ [] ++ Some
    (socket_description flags (pair_end kind (length V.descriptions) cred)) ∷ [] →
    record V { descriptions = ds } ≡ with_pair S kind flags cred
new_two V S kind flags cred ds same e =
    let next : length V.descriptions + 1 ≡ suc (length V.descriptions) = omega arith in
    (λ j. record V { descriptions = e j })
    ∙ (λ j. record V {
      descriptions = V.descriptions ++ Some (socket_description flags (pair_end kind (next j) cred)) ∷ [] ++ Some
          (socket_description flags (pair_end kind (length V.descriptions) cred)) ∷ [];
    })
    ∙ ap (λ U. with_pair U kind flags cred) same

-- the entries that lead to them
pub entry_is : (V S : State) (flags : OpenFlags) (d : ℕ) (place : ℕ → ℕ) (e : Descriptor) → V ≡ S → d ≡ length V.descriptions →
    e ≡ descriptor flags (place d) → e ≡ descriptor flags (place (next_description S))
entry_is V S flags d place e same number is = is ∙ ap (λ n. descriptor flags (place n)) (number ∙ ap next_description same)
