-- Rights in flight: what a receive takes of them, and what a change of the descriptions does to them.
use Rattle.std.proofs.Common.{◌≡◌, ℕ, zero, suc, ◌+◌, ◌-◌, ◌≤◌, ◌==◌, cond, Bool, true, false, if◌then◌else◌, List, [], ◌∷◌, ◌++◌, length}
use Rattle.std.proofs.Common.{drop, min, Option, Some, None, option_map, refl, ap, sym, ◌∙◌, zero-add, arith}
use Rattle.std.specs.Prelude.{nat_le, sum_by}
use Rattle.std.proofs.lemmas.Bool.{leb-false, eqb-true, eq-eqb}
use Rattle.std.proofs.Math.Nat.{min-le_right}
use Rattle.std.proofs.lemmas.List.{length-append}
use Rattle.std.proofs.lemmas.List.Sums.{sum_by-cons, sum_by-set}
use Rattle.ux_model.specs.Places.{place, emptied, changed_place}
use Rattle.ux_model.specs.Message.{Message, queued_bytes}
use Rattle.ux_model.specs.Stream.{Origin, origin_of, front_with_cred, front_to_barrier, joined_run, rights_within, origin_within}
use Rattle.ux_model.specs.Stream.{without_first}
use Rattle.ux_model.specs.Socket.{Socket, is_stream, with_reset, pending_ends}
use Rattle.ux_model.specs.Front.{Front, stream_front, record_front, front_of}
use Rattle.ux_model.specs.Description.{Description, Target, to_object, to_socket, changed, changed_target}
use Rattle.ux_model.specs.References.{times, queue_refs, target_refs}
use Rattle.ux_model.specs.Peers.{lost_peer, with_peer_reset}
use Rattle.ux_model.specs.Flight.{of_user, of_sender, rights_sent_by, flying_at, flying_in}
use Rattle.ux_model.proofs.Lists.ChangedPlaces.{place_within, sum_by-changed}
use Rattle.ux_model.proofs.Messages.FrontRights.{run_front}

-- what one message has
abbrev sent_in : ℕ → Message → ℕ
sent_in u m = of_user u m.uid (length m.rights)

none_of_user : (u v : ℕ) → of_user u v 0 ≡ 0
none_of_user u v = go (v == u)
  where
    go : (b : Bool) → ◌≡◌ {A = ℕ} (if b then 0 else 0) 0
    go true = refl
    go false = refl

-- ---- a receive

-- in the messages that lose one of the first n bytes
abbrev gone : ℕ → ℕ → List Message → ℕ
gone u zero q = 0
gone u (suc n) [] = 0
gone u (suc n) (m ∷ ms) = sent_in u m + gone u (suc n - length m.bytes) ms

gone_none : (u n : ℕ) → gone u n [] ≡ 0
gone_none u zero = refl
gone_none u (suc n) = refl

-- they go, whichever they are
gone_left : (u n : ℕ) (q : List Message) → gone u n q + rights_sent_by u (without_first n q) ≡ rights_sent_by u q
gone_left u zero [] = refl
gone_left u zero (m ∷ ms) = zero-add (rights_sent_by u (m ∷ ms))
gone_left u (suc n) [] = refl
gone_left u (suc n) (m ∷ ms) = go (gone_left u (suc n - length m.bytes) ms) (nat_le (length m.bytes) (suc n)) refl
  where
    all : rights_sent_by u (m ∷ ms) ≡ sent_in u m + rights_sent_by u ms
    all = sum_by-cons (sent_in u) m ms

    go : gone u (suc n - length m.bytes) ms + rights_sent_by u (without_first (suc n - length m.bytes) ms) ≡ rights_sent_by u ms →
        (b : Bool) → nat_le (length m.bytes) (suc n) ≡ b →
        sent_in u m + gone u (suc n - length m.bytes) ms + rights_sent_by u
        (if b then without_first (suc n - length m.bytes) ms else record m { bytes = drop (suc n) m.bytes; rights = [] } ∷ ms) ≡
        rights_sent_by u (m ∷ ms)
    go rest true h = omega (arith, all, rest)
    go rest false h =
        let long = leb-false (length m.bytes) (suc n) h in
        let none : suc n - length m.bytes ≡ 0 = omega (arith, long) in
        let nothing : gone u (suc n - length m.bytes) ms ≡ 0 = ap (λ i. gone u i ms) none in
        let cut = sum_by-cons (sent_in u) (record m { bytes = drop (suc n) m.bytes; rights = [] }) ms in
        let kept = none_of_user u m.uid in
        omega (arith, all, nothing, cut, kept)

-- so many bytes of a front that has them are of the whole
gone_front : (u n : ℕ) (run rest : List Message) → n ≤ queued_bytes run → gone u n (run ++ rest) ≡ gone u n run
gone_front u zero run rest fits = refl
gone_front u (suc n) [] rest fits = absurd (omega (arith, fits))
gone_front u (suc n) (m ∷ run) rest fits =
    let all = sum_by-cons (λ m. length (Message.bytes m)) m run in
    ap (λ k. sent_in u m + k) (gone_front u (suc n - length m.bytes) run rest (omega (arith, fits, all)))

no_rights_within : (n : ℕ) → ◌≡◌ {A = List ℕ} (rights_within n []) []
no_rights_within zero = refl
no_rights_within (suc n) = refl

-- the user whom rights come from
abbrev pub user_of : Option Origin → Option ℕ
user_of origin = option_map (λ o. Origin.uid o) origin

-- up to the first with rights, they are of the user of that
barred : (u n : ℕ) (q : List Message) → gone u n (front_to_barrier q) ≡ of_sender u (user_of (origin_within n (front_to_barrier q)))
    (length (rights_within n (front_to_barrier q)))
barred u zero q = refl
barred u (suc n) [] = refl
barred u (suc n) (m ∷ ms) = go (length m.rights == 0) refl (barred u (suc n - length m.bytes) ms)
  where
    left : ℕ
    left = suc n - length m.bytes

    run : Bool → List Message
    run b = if b then m ∷ front_to_barrier ms else m ∷ []

    go : (b : Bool) → (length m.rights == 0) ≡ b →
        gone u left (front_to_barrier ms) ≡ of_sender u (user_of (origin_within left (front_to_barrier ms)))
        (length (rights_within left (front_to_barrier ms))) →
        gone u (suc n) (run b) ≡ of_sender u (user_of (origin_within (suc n) (run b))) (length (rights_within (suc n) (run b)))
    go true h rest =
        let none : length m.rights ≡ 0 = eqb-true (length m.rights) 0 h in
        let first : sent_in u m ≡ 0 = ap (of_user u m.uid) none ∙ none_of_user u m.uid in
        let long : length (m.rights ++ rights_within left (front_to_barrier ms)) ≡ length (rights_within left (front_to_barrier ms)) =
        length-append m.rights (rights_within left (front_to_barrier ms))
        ∙ ap (λ k. k + length (rights_within left (front_to_barrier ms))) none ∙ zero-add _ in
        ap (λ k. k + gone u left (front_to_barrier ms)) first ∙ zero-add _ ∙ rest
        ∙ sym (λ j. of_sender u (user_of (if h j then origin_within left (front_to_barrier ms) else origin_of m)) (long j))
    go false h rest =
        let nothing = gone_none u left in
        let split = length-append m.rights (rights_within left []) in
        let none : length (rights_within left []) ≡ 0 = ap length (no_rights_within left) in
        let long : length (m.rights ++ rights_within left []) ≡ length m.rights = omega (arith, split, none) in
        let user : of_sender u (user_of (origin_within (suc n) (m ∷ []))) (length (m.rights ++ rights_within left [])) ≡ sent_in u m =
        λ j. of_sender u (user_of (if h j then origin_within left [] else if h j then None else Some (record { tag = m.tag; uid = m.uid })))
        (long j) in
        omega (arith, nothing, user)

front_flying : (u : ℕ) (wants : Bool) (n : ℕ) (m : Message) (ms : List Message) →
    of_sender u (user_of (stream_front wants n m ms).origin) (length (stream_front wants n m ms).rights) + rights_sent_by u
    (stream_front wants n m ms).rest ≡ rights_sent_by u (m ∷ ms)
front_flying u wants n m ms =
    let run : List Message = joined_run wants m ms in
    let taken : ℕ = min n (queued_bytes run) in
    let f = run_front wants m ms in
    let same : gone u taken (m ∷ ms) ≡ gone u taken run = ap (gone u taken) (sym f.is)
    ∙ gone_front u taken run f.rest (min-le_right n (queued_bytes run)) in
    let all = gone_left u taken (m ∷ ms) in
    let user = barred u taken (if wants then front_with_cred m.cred (m ∷ ms) else m ∷ ms) in
    omega (arith, all, same, user)

record_flying : (u : ℕ) (m : Message) → of_sender u (user_of (origin_of m)) (length m.rights) ≡ sent_in u m
record_flying u m = go (length m.rights == 0) refl
  where
    go : (b : Bool) → (length m.rights == 0) ≡ b →
        of_sender u (user_of (if b then None else Some (record { tag = m.tag; uid = m.uid }))) (length m.rights) ≡ sent_in u m
    go true h = sym (ap (of_user u m.uid) (eqb-true (length m.rights) 0 h) ∙ none_of_user u m.uid)
    go false h = refl

-- at any socket, the rights that a receive takes off are of the user of their origin
pub front_of_flying : (u n : ℕ) (s : Socket) (m : Message) (ms : List Message) →
    of_sender u (user_of (front_of n s m ms).origin) (length (front_of n s m ms).rights) + rights_sent_by u
    (front_of n s m ms).rest ≡ rights_sent_by u (m ∷ ms)
front_of_flying u n s m ms = go (is_stream s.kind)
  where
    taken : Bool → Front
    taken b = if b then stream_front s.passcred n m ms else record_front n m ms

    go : (b : Bool) → of_sender u (user_of (taken b).origin) (length (taken b).rights) + rights_sent_by u (taken b).rest ≡ rights_sent_by u
        (m ∷ ms)
    go true = front_flying u s.passcred n m ms
    go false = let one = record_flying u m in let all = sum_by-cons (sent_in u) m ms in omega (arith, one, all)

-- ---- the descriptions

pub flying_at-changed : (u : ℕ) (change : Socket → Socket) → ((s : Socket) → (change s).queue ≡ s.queue) → (t : Target) →
    flying_at u (changed_target change t) ≡ flying_at u t
flying_at-changed u change stays (to_object o) = refl
flying_at-changed u change stays (to_socket s) = ap (rights_sent_by u) (stays s)

place_flying : (u : ℕ) (change : Socket → Socket) → ((s : Socket) → (change s).queue ≡ s.queue) → (x : Option Description) →
    flying_in u (option_map (changed change) x) + 0 ≡ flying_in u x + 0
place_flying u change stays None = refl
place_flying u change stays (Some D) = ap (λ k. k + 0) (flying_at-changed u change stays D.target)

-- a socket changes, and its queue stays
pub flying_changed : (u : ℕ) (change : Socket → Socket) → ((s : Socket) → (change s).queue ≡ s.queue) →
    (ds : List (Option Description)) (n : ℕ) →
    sum_by (flying_in u) (changed_place ds n (changed change)) ≡ sum_by (flying_in u) ds
flying_changed u change stays ds n =
    let a = sum_by-changed (flying_in u) (changed change) (λ x. 0) (λ x. 0) (place_flying u change stays) ds n in
    omega (arith, a)

flying_told : (u : ℕ) (l : Option ℕ) (ds : List (Option Description)) →
    sum_by (flying_in u) (with_peer_reset l ds) ≡ sum_by (flying_in u) ds
flying_told u None ds = refl
flying_told u (Some p) ds = flying_changed u (with_reset true) (λ s. refl) ds p

-- a description goes with its queue, and one other is notified
pub flying_left : (u d : ℕ) (D : Description) (ds : List (Option Description)) → place ds d ≡ Some D →
    sum_by (flying_in u) (with_peer_reset (lost_peer D) (emptied ds d)) + flying_at u D.target ≡ sum_by (flying_in u) ds
flying_left u d D ds here =
    let a = flying_told u (lost_peer D) (emptied ds d) in
    let b = sum_by-set (flying_in u) ds d None None (place_within ds d D here) in
    let c : flying_in u (place ds d) ≡ flying_at u D.target = ap (flying_in u) here in
    omega (arith, a, b, c)

-- what refers to nothing has no rights
queue_still : (u : ℕ) (q : List Message) → ((k : ℕ) → queue_refs k q ≡ 0) → rights_sent_by u q ≡ 0
queue_still u [] none = refl
queue_still u (m ∷ ms) none =
    let rest = queue_still u ms (λ k. let a = sum_by-cons (λ m. times k (Message.rights m)) m ms in let b = none k in omega (arith, a, b))
    in
    let all = sum_by-cons (sent_in u) m ms in
    let first = message_still m.rights (λ k. let a = sum_by-cons (λ m. times k (Message.rights m)) m ms in let b = none k in
    omega (arith, a, b)) in
    let one : sent_in u m ≡ 0 = ap (of_user u m.uid) first ∙ none_of_user u m.uid in
    omega (arith, rest, all, one)
  where
    message_still : (xs : List ℕ) → ((k : ℕ) → times k xs ≡ 0) → length xs ≡ 0
    message_still [] h = refl
    message_still (x ∷ xs) h =
        let a = sum_by-cons (λ n. cond {A = ℕ} (n == x) 1 0) x xs in
        let b : cond {A = ℕ} (x == x) 1 0 ≡ 1 = ap (λ c. cond {A = ℕ} c 1 0) (eq-eqb x x refl) in
        let e = h x in
        absurd (omega (arith, a, b, e))

pub nothing_flying : (u : ℕ) (t : Target) → ((k : ℕ) → target_refs k t ≡ 0) → flying_at u t ≡ 0
nothing_flying u (to_object o) none = refl
nothing_flying u (to_socket s) none = queue_still u s.queue
    (λ k. let a : queue_refs k s.queue + times k (pending_ends s.phase) ≡ 0 = none k in omega (arith, a))
