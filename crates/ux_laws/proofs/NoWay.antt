-- Who changes a file object, and who reads it, has a way to it; and strangers have none.
use Rattle.std.proofs.Common.{◌≡◌, ◌⊎◌, ℕ, zero, suc, ◌+◌, ◌≤◌, ◌<◌, Bool, true, false, not, if◌then◌else◌, List, [], ◌∷◌, ◌++◌, length}
use Rattle.std.proofs.Common.{take, map}
use Rattle.std.proofs.Common.{Option, Some, None, Result, Ok, Err, refl, ap, sym, ◌∙◌, subst, inl, inr, ⊎_elim, arith, slice_get}
use Rattle.std.specs.List.{enumerate_from}
use Rattle.std.proofs.lemmas.Bool.{false≢true}
use Rattle.ux_model.specs.Types.{Errno, Fd, Name, Mode, OpenFlags, Request, Reply, Entry, How, Link}
use Rattle.ux_model.specs.Places.{place}
use Rattle.ux_model.specs.Flags.{can_read, can_write}
use Rattle.ux_model.specs.Object.{View, is_memory}
use Rattle.ux_model.specs.Names.{PathTarget, file, bound, same_name, named}
use Rattle.ux_model.specs.Description.{Description, Target, to_object, to_socket, object_of}
use Rattle.ux_model.specs.Process.{Descriptor}
use Rattle.ux_model.specs.State.{State, description_at}
use Rattle.ux_model.specs.Outcome.{Outcome, Chosen, own, lacking_memory, failing, descriptor_at}
use Rattle.ux_model.specs.Reading.{read}
use Rattle.ux_model.specs.Boot.{IsBootState}
use Rattle.ux_model.specs.Step.{Step, outcome}
use Rattle.ux_model.specs.History.{replay, makes, IsLegal}
use Rattle.ux_model.specs.Pedigree.{before, delivered, IsFrom, IsChain, first, onward}
use Rattle.ux_model.proofs.Changes.Walk.{either, maybe, by_target, found}
use Rattle.ux_model.proofs.Lists.Fronts.{front_is_legal, in_front}
use Rattle.ux_model.proofs.Lists.Induction.{IsKept, kept_throughout}
use Rattle.ux_model.proofs.Lists.OnePlace.{past_all}
use Rattle.ux_model.proofs.Steps.Replays.{step_replay}
use Rattle.ux_model.proofs.Invariants.Closed.{objects_keep_their_numbers, boot_long}
use Rattle.ux_model.proofs.Pedigrees.Moments.{moment, given_cases}
use Rattle.ux_model.proofs.Pedigrees.Passing.{how_receives}
use Rattle.ux_laws.specs.Talking.{if_found}
use Rattle.ux_laws.specs.Files.{IsMaking, BeginsWay, by_opening, by_making}
use Rattle.ux_laws.specs.Files.{body_in, body_at, object_behind, HasWay, IsChange, by_write, by_read, ChangesHaveAWay, ReadsHaveAWay}
use Rattle.ux_laws.specs.Files.{FilesKeepTheirPath, WereSentNothing, AreStrangers, StrangersHaveNoWay, StrangersChangeNothing}
use Rattle.ux_laws.proofs.Opened.{Begins, chain_begins, way_there}
use Rattle.ux_laws.proofs.Touching.Contents.{Touches, untouched, made_now, written, read_from}
use Rattle.ux_laws.proofs.Touching.Paths.{NamesNoMore, names_equal}
use Rattle.ux_laws.proofs.Touching.Ends.{step_files}

-- ---- what a descriptor leads to

pub record LeadsToObject (S : State) (p : ℕ) (fd : Fd) (o : ℕ) : Type 0 where
  pub entry : Descriptor
  pub description : Description
  pub held : descriptor_at S p fd ≡ Some entry
  pub there : description_at S entry.description ≡ Some description
  pub leads : description.target ≡ to_object o

abbrev description_led : Descriptor → Option Description → Result (Descriptor × Description) Errno
description_led e x = elim x as (λ _. Result (Descriptor × Description) Errno) [ None ↦ Err Errno.EBADF | Some D ↦ Ok (e, D) ]

abbrev object_led : Option (Descriptor × Description) → Option ℕ
object_led r = elim r as (λ _. Option ℕ) [ None ↦ None | Some w ↦ object_of w.1.target ]

pub behind_leads : (S : State) (p : ℕ) (fd : Fd) (o : ℕ) → object_behind S p fd ≡ Some o → LeadsToObject S p fd o
behind_leads S p fd o h = by_descriptor (descriptor_at S p fd) refl h
  where
    by_kind : (e : Descriptor) (D : Description) → descriptor_at S p fd ≡ Some e → description_at S e.description ≡ Some D → (t : Target) →
        D.target ≡ t → object_of t ≡ Some o → LeadsToObject S p fd o
    by_kind e D g at (to_object k) is h = let same : k ≡ o = cc h in
        record { entry = e; description = D; held = g; there = at; leads = is ∙ ap to_object same }
    by_kind e D g at (to_socket s) is h = absurd (cc h)

    by_description : (e : Descriptor) → descriptor_at S p fd ≡ Some e → (x : Option Description) → description_at S e.description ≡ x →
        object_led (if_found (description_led e x)) ≡ Some o → LeadsToObject S p fd o
    by_description e g None is h = absurd (cc h)
    by_description e g (Some D) is h = by_kind e D g is D.target refl h

    by_descriptor : (x : Option Descriptor) → descriptor_at S p fd ≡ x →
        object_led (if_found (elim x as (λ _. Result (Descriptor × Description) Errno)
        [ None ↦ Err Errno.EBADF | Some e ↦ description_led e (description_at S e.description) ])) ≡ Some o → LeadsToObject S p fd o
    by_descriptor None is h = absurd (cc h)
    by_descriptor (Some e) is h = by_description e is (description_at S e.description) refl h

pub leads_behind : (S : State) (p : ℕ) (fd : Fd) (o : ℕ) → LeadsToObject S p fd o → object_behind S p fd ≡ Some o
leads_behind S p fd o l =
    ap (λ (x : Option Descriptor). object_led
    (if_found (elim x as (λ _. Result (Descriptor × Description) Errno)
    [ None ↦ Err Errno.EBADF | Some e ↦ description_led e (description_at S e.description) ]))) l.held
    ∙ ap (λ (x : Option Description). object_led (if_found (description_led l.entry x))) l.there ∙ ap object_of l.leads

-- ---- changes

pub changes_have_a_way : ChangesHaveAWay
changes_have_a_way boot es j o e old new legal at was is =
    let S : State = before boot es j in
    let front = front_is_legal boot es j legal in
    let s = step_files S (before boot es (suc j)) e.pid.0 j e.request e.reply e.released (moment boot es j e legal at).steps in
    by_touch front (s.1.bodies o) (s.2 o new is)
  where
    by_touch : {U : State} → IsLegal boot (take j es) → Touches (before boot es j) e.pid.0 e.request o U → body_at U o ≡ Some new →
        (new ≡ old) ⊎ IsChange boot es j e o old
    by_touch front (untouched same) left = let both : Some old ≡ Some new = sym was ∙ sym same ∙ left in inl (sym (cc both))
    by_touch front (made_now new) left =
        let past : place (before boot es j).objects o ≡ None = past_all (before boot es j).objects o new in
        let clash : None ≡ Some old = sym (ap body_in past) ∙ was in
        absurd (cc clash)
    by_touch front (written fd bytes d D asked g h t may) left =
        inr (by_write fd bytes asked (leads_behind (before boot es j) e.pid.0 fd o
        (record { entry = d; description = D; held = g; there = h; leads = t }))
        (way_there boot (take j es) can_write o e.pid.0 fd d D front g h t may))
    by_touch front (read_from fd n d D view asked g h t may there kind) left =
        let both : Some old ≡ Some view.body = sym was ∙ ap body_in there in
        let same : old ≡ view.body = cc both in
        inr (by_read fd n asked (ap is_memory same ∙ kind)
        (leads_behind (before boot es j) e.pid.0 fd o (record { entry = d; description = D; held = g; there = h; leads = t }))
        (way_there boot (take j es) can_read o e.pid.0 fd d D front g h t may))

-- ---- reads

-- what is answered bytes of a file object may be read
abbrev IsReadable : State → ℕ → Fd → Reply → Type 0
IsReadable S p fd reply = (bytes : List ℕ) (o : ℕ) → reply ≡ Reply.Bytes bytes → object_behind S p fd ≡ Some o →
    (e : Descriptor) × (D : Description) × (descriptor_at S p fd ≡ Some e) × (description_at S e.description ≡ Some D)
    × (D.target ≡ to_object o) × (can_read D.mode ≡ true)

not_false : (b : Bool) → not b ≡ false → b ≡ true
not_false true h = refl
not_false false h = absurd (false≢true (sym h))

read_readable : (S : State) (p : ℕ) (fd : Fd) (n : ℕ) → IsReadable S p fd (read S p fd n).reply
unfolding read
read_readable S p fd n = found Q S p fd _ (λ bytes o h behind. absurd (cc h)) (λ e D g h. by_target Q D.target _ _
    (λ k t. maybe Q (place S.objects k) _ _ (λ bytes o h behind. absurd (cc h))
    (λ view there. either Q (not (can_read D.mode)) _ _ (λ b bytes o h behind. absurd (cc h))
    (λ b. given k e D view g h t (not_false (can_read D.mode) b) _)))
    (λ s t bytes o reply behind.
    let l = behind_leads S p fd o behind in
    let one : Some e ≡ Some l.entry = sym g ∙ l.held in
    let entry : e ≡ l.entry = cc one in
    let two : Some D ≡ Some l.description = sym h ∙ ap (λ (x : Descriptor). description_at S x.description) entry ∙ l.there in
    let description : D ≡ l.description = cc two in
    let clash : to_socket s ≡ to_object o = sym t ∙ ap (λ (x : Description). x.target) description ∙ l.leads in
    absurd (cc clash)))
  where
    Q : Outcome → Type 0
    Q x = IsReadable S p fd x.reply

    given : (k : ℕ) (e : Descriptor) (D : Description) (view : View) → descriptor_at S p fd ≡ Some e →
        description_at S e.description ≡ Some D → D.target ≡ to_object k → can_read D.mode ≡ true → (r : Reply) → IsReadable S p fd r
    given k e D view g h t may r bytes o reply behind =
        let all = leads_behind S p fd k (record { entry = e; description = D; held = g; there = h; leads = t }) in
        let both : Some k ≡ Some o = sym all ∙ behind in
        let same : k ≡ o = cc both in
        (e, D, g, h, t ∙ ap to_object same, may)

step_readable : (S T : State) (p tag n : ℕ) (fd : Fd) (reply : Reply) (gone : List ℕ) → Step S p tag (Request.Read fd n) reply gone T →
    IsReadable S p fd reply
unfolding Step outcome
step_readable S T p tag n fd reply gone s = chosen reply s.1
  where
    chosen : (reply : Reply) → Chosen S (read S p fd n) reply s.0 → IsReadable S p fd reply
    chosen reply (own e f) = subst (IsReadable S p fd) (sym e) (read_readable S p fd n)
    chosen reply (lacking_memory e may f) = λ bytes o h behind. let clash : Reply.Err Errno.ENOMEM ≡ Reply.Bytes bytes = sym e ∙ h in
        absurd (cc clash)
    chosen reply (failing e f) = λ bytes o h behind. let clash : Reply.Err Errno.EIO ≡ Reply.Bytes bytes = sym e ∙ h in absurd (cc clash)

pub reads_have_a_way : ReadsHaveAWay
reads_have_a_way boot es j o n e fd bytes legal at request behind reply =
    let s = (moment boot es j e legal at).steps in
    let moved : Step (before boot es j) e.pid.0 j (Request.Read fd n) e.reply e.released (before boot es (suc j)) =
    subst (λ (r : Request). Step (before boot es j) e.pid.0 j r e.reply e.released (before boot es (suc j))) request s in
    let w = step_readable (before boot es j) (before boot es (suc j)) e.pid.0 j n fd e.reply e.released moved bytes o reply behind in
    way_there boot (take j es) can_read o e.pid.0 fd w.0 w.1 (front_is_legal boot es j legal) w.2 w.3 w.4 w.5

-- ---- strangers

-- a path names a file object of the start later only if it did at the start
record NamedAtFirst (boot : State) (es : List Entry) (S : State) : Type 0 where
  pub reached : S ≡ replay boot es
  pub long : length boot.objects ≤ length S.objects
  pub names : NamesNoMore (length boot.objects) boot.paths S.paths

named_kept : (boot : State) → IsKept boot (NamedAtFirst boot)
named_kept boot = record {
  at_boot = λ boots. record { reached = refl; long = omega arith; names = record { each = λ path o less h. h } };
  by_entry = λ es e S T so_far step may. further es e S T so_far step;
}
  where
    further : (es : List Entry) (e : Entry) (S T : State) → NamedAtFirst boot es S →
        Step S e.pid.0 (length es) e.request e.reply e.released T → NamedAtFirst boot (es ++ e ∷ []) T
    further es e S T so_far step =
        let s = step_files S T e.pid.0 (length es) e.request e.reply e.released step in
        record {
          reached = step_replay boot T es e (subst
              (λ (R : State). Step R e.pid.0 (length es) e.request e.reply e.released T) so_far.reached step);
          long = let so_long = so_far.long in
              let more = objects_keep_their_numbers S T e.pid.0 (length es) e.request e.reply e.released step in
              omega (arith, so_long, more);
          names = record {
            each = λ path o less h. let so_long = so_far.long in
                so_far.names.each path o less (s.1.paths.each path o (omega (arith, so_long, less)) (ap (named path) (sym s.3) ∙ h));
          };
        }

-- and each has one path then
named_at : (path : Name) (o : ℕ) (es : List (Name × PathTarget)) → named path es ≡ Some (file o) →
    (i : ℕ) × (e : Name × PathTarget) × (slice_get es i ≡ Some e) × (e.1 ≡ file o) × (e.0 ≡ path)
named_at path o [] h = absurd (cc h)
named_at path o (e ∷ es) h = go (same_name e.0 path) refl (named_at path o es) h
  where
    go : (b : Bool) → same_name e.0 path ≡ b →
        (named path es ≡ Some (file o) → (i : ℕ) × (x : Name × PathTarget) × (slice_get es i ≡ Some x) × (x.1 ≡ file o) × (x.0 ≡ path)) →
        (if b then Some e.1 else named path es) ≡ Some (file o) →
        (i : ℕ) × (x : Name × PathTarget) × (slice_get (e ∷ es) i ≡ Some x) × (x.1 ≡ file o) × (x.0 ≡ path)
    go true is rest h = (0, e, refl, cc h, names_equal e.0 path is)
    go false is rest h = let w = rest h in (suc w.0, w.1, w.2, w.3, w.4)

get_map : {X Y : Type 0} (f : X → Y) (xs : List X) (i : ℕ) (x : X) → slice_get xs i ≡ Some x → slice_get (map f xs) i ≡ Some (f x)
get_map f [] i x h = absurd (cc h)
get_map f (y ∷ xs) zero x h = let same : y ≡ x = cc h in ap (λ z. Some (f z)) same
get_map f (y ∷ xs) (suc i) x h = get_map f xs i x h

numbered : (k : ℕ) (xs : List (Option View)) (i : ℕ) (t : PathTarget) → slice_get (map (λ e. file e.0) (enumerate_from k xs)) i ≡ Some t →
    t ≡ file (k + i)
numbered k [] i t h = absurd (cc h)
numbered k (x ∷ xs) zero t h = let same : file k ≡ t = cc h in let at : k ≡ k + 0 = omega arith in sym same ∙ ap file at
numbered k (x ∷ xs) (suc i) t h = let at : k + 1 + i ≡ k + suc i = omega arith in numbered (k + 1) xs i t h ∙ ap file at

place_of : (boot : State) (i o : ℕ) (e : Name × PathTarget) → IsBootState boot → slice_get boot.paths i ≡ Some e → e.1 ≡ file o → i ≡ o
place_of boot i o e boots h is =
    let there : slice_get (map (λ e. file e.0) (enumerate_from 0 boot.objects)) i ≡ Some e.1 = sym (ap (λ l. slice_get l i) boots.paths)
    ∙ get_map (λ (x : Name × PathTarget). x.1) boot.paths i e h in
    let both : file o ≡ file (0 + i) = sym is ∙ numbered 0 boot.objects i e.1 there in
    let same : o ≡ 0 + i = ap (λ t. elim t as (λ _. ℕ) [ file n ↦ n | bound n ↦ n ]) both in
    omega (arith, same)

-- which is one of the start
known_number : (k : ℕ) (xs : List (Option View)) (i : ℕ) (t : PathTarget) →
    slice_get (map (λ e. file e.0) (enumerate_from k xs)) i ≡ Some t → i < length xs
known_number k [] i t h = absurd (cc h)
known_number k (x ∷ xs) zero t h = omega arith
known_number k (x ∷ xs) (suc i) t h = let rest = known_number (k + 1) xs i t h in omega (arith, rest)

pub named_known : (boot : State) (path : Name) (o : ℕ) → IsBootState boot → named path boot.paths ≡ Some (file o) → o < length boot.objects
named_known boot path o boots h =
    let x = named_at path o boot.paths h in
    let there : slice_get (map (λ e. file e.0) (enumerate_from 0 boot.objects)) x.0 ≡ Some x.1.1 =
    sym (ap (λ l. slice_get l x.0) boots.paths) ∙ get_map (λ (y : Name × PathTarget). y.1) boot.paths x.0 x.1 x.2 in
    let known = known_number 0 boot.objects x.0 x.1.1 there in
    let same = place_of boot x.0 o x.1 boots x.2 x.3 in
    omega (arith, known, same)

one_path : (boot : State) (a b : Name) (o : ℕ) → IsBootState boot → named a boot.paths ≡ Some (file o) →
    named b boot.paths ≡ Some (file o) → a ≡ b
one_path boot a b o boots h k =
    let x = named_at a o boot.paths h in
    let y = named_at b o boot.paths k in
    let same : x.0 ≡ y.0 = place_of boot x.0 o x.1 boots x.2 x.3 ∙ sym (place_of boot y.0 o y.1 boots y.2 y.3) in
    let both : Some x.1 ≡ Some y.1 = sym x.2 ∙ ap (λ i. slice_get boot.paths i) same ∙ y.2 in
    let entry : x.1 ≡ y.1 = cc both in
    sym x.4 ∙ ap (λ (e : Name × PathTarget). e.0) entry ∙ y.4

pub files_keep_their_path : FilesKeepTheirPath
files_keep_their_path boot es j o path other legal at_first leads =
    let names = kept_throughout boot (NamedAtFirst boot) (named_kept boot) (take j es) (front_is_legal boot es j legal) in
    one_path boot other path o legal.boots (names.names.each other o (named_known boot path o legal.boots at_first) leads) at_first

-- all holdings of a chain that leads to one that was sent nothing, as those that made it, are of such
pub all_theirs : (boot : State) (es : List Entry) (are : ℕ → Bool) (chain : List Link) (a : Link) → IsLegal boot es →
    WereSentNothing boot es are → IsChain boot es chain a → are a.pid.0 ≡ true →
    (b : Begins boot es chain) → are b.first.pid.0 ≡ true
all_theirs boot es are chain a legal were (first c e g made) is b =
    let same : Some c ≡ Some b.first = ap (λ (l : List Link). slice_get l 0) b.is in
    let one : c ≡ b.first = cc same in
    ap (λ (l : Link). are l.pid.0) (sym one) ∙ is
all_theirs boot es are chain a legal were (onward {chain = xs} c d e giving leads stands g from) is b =
    let w = chain_begins boot es xs c leads in
    let heads : Some w.first ≡ Some b.first = sym (head_of w) ∙ ap (λ (l : List Link). slice_get l 0) b.is in
    let one : w.first ≡ b.first = cc heads in
    ap (λ (l : Link). are l.pid.0) (sym one) ∙ all_theirs boot es are xs c legal were leads (giver d.how refl from) w
  where
    head_of : (w : Begins boot es xs) → slice_get (xs ++ d ∷ []) 0 ≡ Some w.first
    head_of w = ap (λ (l : List Link). slice_get (l ++ d ∷ []) 0) w.is

    -- whoever made the call is one
    caller : (e.pid.0 ≡ d.pid.0) ⊎ (makes d.pid.0 e.request e.reply ≡ true) → are e.pid.0 ≡ true
    caller (inl same) = ap are same ∙ is
    caller (inr made) = were.makers d.entry d.pid.0 e g.there made is

    called : are e.pid.0 ≡ true
    called = caller (⊎_elim {C = (e.pid.0 ≡ d.pid.0) ⊎ (makes d.pid.0 e.request e.reply ≡ true)} (λ made. inr made)
        (λ own. inl own.0) (given_cases (before boot es d.entry) e d.pid.0 d.fd.0 g.gave))

    giver : (how : How) → d.how ≡ how → IsFrom boot es how c d e giving → are c.pid.0 ≡ true
    giver How.Made way f = absurd f
    giver How.Dup way f = ap are f.1 ∙ called
    giver (How.Received tag) way f =
        let told = how_receives e.request (delivered (before boot es d.entry) e) tag (g.way ∙ ap Some way) in
        let clash : None ≡ Some tag = sym (were.sent_nothing e.pid.0 called d.entry e g.there refl) ∙ told.1 in
        absurd (cc clash)
    giver How.Forked way f = ap are f.1 ∙ called

strangers_so_far : (boot : State) (es : List Entry) (path : Name) (are : ℕ → Bool) (j : ℕ) → AreStrangers boot es path are →
    AreStrangers boot (take j es) path are
strangers_so_far boot es path are j s = record {
  sent_nothing = record {
    makers = λ i q e at made is. s.sent_nothing.makers i q e (in_front es j i e at).0 made is;
    sent_nothing = λ q is i e at own.
        ap (λ (l : List Entry). delivered (replay boot l) e) (in_front es j i e at).1
        ∙ s.sent_nothing.sent_nothing q is i e (in_front es j i e at).0 own;
  };
  never_opened = λ i e mode flags at is. s.never_opened i e mode flags (in_front es j i e at).0 is;
}

-- no call makes a file object of the start
pub not_made : (boot : State) (es : List Entry) (allows : Mode → Bool) (o : ℕ) (b : Link) → IsLegal boot es → o < length boot.objects →
    IsMaking boot es allows o b → ⊥
not_made boot es allows o b legal known making =
    let long = boot_long boot es b.entry legal in
    let new : o ≡ length (before boot es b.entry).objects = making.new in
    omega (arith, long, new, known)

no_way : (boot : State) (es : List Entry) (path : Name) (are : ℕ → Bool) (o p n : ℕ) → IsLegal boot es →
    named path boot.paths ≡ Some (file o) → AreStrangers boot es path are → are p ≡ true →
    HasWay boot es (λ mode. true) o p n → ⊥
no_way boot es path are o p n legal at_first strangers is way =
    let ped = way.pedigree in
    let begins = chain_begins boot es (way.first ∷ way.rest) ped.last ped.leads in
    let same : Some way.first ≡ Some begins.first = ap (λ (l : List Link). slice_get l 0) begins.is in
    let one : way.first ≡ begins.first = cc same in
    let of_first = all_theirs boot es are (way.first ∷ way.rest) ped.last legal strangers.sent_nothing ped.leads (ap are ped.process ∙ is)
    begins in
    by_first begins one of_first way.begins
  where
    not_fork : (x : Entry) (q : ℕ) {path : Name} {mode : Mode} {flags : OpenFlags} → x.request ≡ Request.Open path mode flags →
        makes q x.request x.reply ≡ true → ⊥
    not_fork x q {path} {mode} {flags} asked made = let never : makes q (Request.Open path mode flags) x.reply ≡ true =
        sym (ap (λ (r : Request). makes q r x.reply) asked) ∙ made in false≢true never

    by_first : (begins : Begins boot es (way.first ∷ way.rest)) → way.first ≡ begins.first → are begins.first.pid.0 ≡ true →
        BeginsWay boot es (λ mode. true) o way.first → ⊥
    by_first begins one of_first (by_opening opens) =
        let k : ℕ = way.first.entry in
        let both : Some opens.call ≡ Some begins.call = sym opens.there ∙ ap (λ (l : Link). slice_get es l.entry) one
        ∙ begins.given.there in
        let call : opens.call ≡ begins.call = cc both in
        let no_child : (makes begins.first.pid.0 begins.call.request begins.call.reply ≡ true) → ⊥ = λ made.
        not_fork opens.call begins.first.pid.0 opens.asked (ap (λ (x : Entry). makes begins.first.pid.0 x.request x.reply) call ∙ made) in
        let caller : opens.call.pid.0 ≡ begins.first.pid.0 = ap (λ (x : Entry). x.pid.0) call
        ∙ ⊎_elim {C = begins.call.pid.0 ≡ begins.first.pid.0} (λ made. absurd (no_child made))
        (λ own. own.0)
        (given_cases (before boot es begins.first.entry) begins.call begins.first.pid.0 begins.first.fd.0 begins.given.gave) in
        let path_is : opens.path ≡ path = files_keep_their_path boot es k o path opens.path legal at_first opens.leads in
        strangers.never_opened k opens.call opens.mode opens.flags opens.there (ap are caller ∙ of_first)
        (opens.asked ∙ ap (λ (x : Name). Request.Open x opens.mode opens.flags) path_is)
    by_first begins one of_first (by_making making) =
        not_made boot es (λ mode. true) o way.first legal (named_known boot path o legal.boots at_first) making

pub strangers_have_no_way : StrangersHaveNoWay
strangers_have_no_way boot es path are j o q fd legal at_first strangers is behind =
    let l = behind_leads (before boot es j) q fd o behind in
    no_way boot (take j es) path are o q fd.0 (front_is_legal boot es j legal) at_first (strangers_so_far boot es path are j strangers) is
    (way_there boot (take j es) (λ mode. true) o q fd l.entry l.description (front_is_legal boot es j legal) l.held l.there l.leads refl)

pub strangers_change_nothing : StrangersChangeNothing
strangers_change_nothing boot es path are j o e old new legal at_first strangers at is was left =
    ⊎_elim {C = new ≡ old} (λ same. same) (λ change. by_change change) (changes_have_a_way boot es j o e old new legal at was left)
  where
    by_change : IsChange boot es j e o old → new ≡ old
    by_change (by_write fd bytes asked behind way) =
        absurd (strangers_have_no_way boot es path are j o e.pid.0 fd legal at_first strangers is behind)
    by_change (by_read fd n asked kind behind way) =
        absurd (strangers_have_no_way boot es path are j o e.pid.0 fd legal at_first strangers is behind)
