-- So others see nothing of a call.
use Rattle.std.proofs.Common.{◌≡◌, ℕ, zero, suc, ◌<◌, ◌≤◌, true, false, List, [], ◌∷◌, length, take, Option, Some, None}
use Rattle.std.proofs.Common.{option_map, refl, ap, sym}
use Rattle.std.proofs.Common.{◌∙◌, subst, arith, slice_get}
use Rattle.std.specs.List.{AllByRecursion}
use Rattle.std.proofs.lemmas.Bool.{ltb-true, ne_eqb, false≢true}
use Rattle.ux_model.specs.Types.{Fd, Request, Reply, Entry}
use Rattle.ux_model.specs.Places.{place}
use Rattle.ux_model.specs.Object.{View, Body}
use Rattle.ux_model.specs.Description.{Description, Target, to_object, to_socket, socket_of, socket_in}
use Rattle.ux_model.specs.Process.{Process, Descriptor}
use Rattle.ux_model.specs.State.{State, description_at, process_at, socket_at}
use Rattle.ux_model.specs.Socket.{Socket}
use Rattle.ux_model.specs.References.{refs}
use Rattle.ux_model.specs.Release.{settled}
use Rattle.ux_model.specs.Outcome.{descriptor_at}
use Rattle.ux_model.specs.Step.{Step, outcome}
use Rattle.ux_model.specs.Boot.{is_open}
use Rattle.ux_model.specs.History.{is_off, IsLegal}
use Rattle.ux_model.specs.Giving.{description_in, description_of, held_at}
use Rattle.ux_model.specs.Pedigree.{before}
use Rattle.ux_model.specs.Invariants.{IsWhole}
use Rattle.ux_model.proofs.Pedigrees.Moments.{moment}
use Rattle.ux_model.proofs.Steps.Calls.{each_obeys}
use Rattle.ux_model.proofs.Lists.Fronts.{front_is_legal}
use Rattle.ux_model.proofs.Invariants.Dangling.{nothing_dangles}
use Rattle.ux_laws.specs.Files.{body_in, body_at}
use Rattle.ux_laws.specs.Reach.{IsInReach, held, tied, pending, named}
use Rattle.ux_laws.specs.Apartness.{Sides, SocketIsOn, TargetIsOn, AreApart, body_behind, seen_at, IsUnseen, AsksForNoneOf}
use Rattle.ux_laws.specs.Apartness.{AllTheirsAreMade}
use Rattle.ux_laws.specs.Apartness.{OthersChangeNothingSeen}
use Rattle.ux_laws.proofs.Near.Single.{NearAt, stays, reached, new, gone as dropped, Near}
use Rattle.ux_laws.proofs.Near.Calls.{chosen_near}
use Rattle.ux_laws.proofs.Touching.Contents.{Touches, untouched, made_now, written, read_from}
use Rattle.ux_laws.proofs.Touching.Calls.{each_files, chosen_files}
use Rattle.ux_laws.proofs.Touching.Ends.{settled_body}
use Rattle.ux_laws.proofs.Aside.Processes.{Leaves, chosen_leaves}
use Rattle.ux_laws.proofs.Aside.Rounds.{Alike, AllReferred, settled_alike}

-- ---- before anything goes

none_past : (Ps : List Process) (i : ℕ) → slice_get Ps i ≡ None → length Ps ≤ i
none_past [] i h = omega arith
none_past (P ∷ Ps) zero h = absurd (cc h)
none_past (P ∷ Ps) (suc i) h = let rest = none_past Ps i h in omega (arith, rest)

-- a process that isn't there is none of theirs, or has number 0, which none has
process_stays : (sides : Sides) (S U : State) (p : ℕ) → AllTheirsAreMade sides S → Leaves S p U → sides.process p ≡ false →
    (q : ℕ) → sides.process q ≡ true → process_at U q ≡ process_at S q
process_stays sides S U p made leaves other zero on = refl
process_stays sides S U p made leaves other (suc i) on = go (process_at S (suc i)) refl
  where
    go : (x : Option Process) → process_at S (suc i) ≡ x → process_at U (suc i) ≡ process_at S (suc i)
    go None is = let past = none_past S.processes i is in
        absurd (false≢true (sym (made.processes (suc i) (omega (arith, past))) ∙ on))
    go (Some P) is = leaves.each (suc i) P
        (ne_eqb p (suc i) (λ same. false≢true (sym other ∙ ap sides.process same ∙ on))) is ∙ sym is

-- the number of a process leads to its side
pub led_aside : (sides : Sides) (S : State) (p n d : ℕ) → AreApart sides S → description_of S p n ≡ Some d →
    sides.description d ≡ sides.process p
led_aside sides S p n d apart leads = go (held_at S p n) refl leads
  where
    go : (x : Option Descriptor) → held_at S p n ≡ x → description_in x ≡ Some d → sides.description d ≡ sides.process p
    go None is h = absurd (cc h)
    go (Some e) is h = let same : e.description ≡ d = cc h in ap sides.description (sym same) ∙ apart.tables p n e is

pub socket_aside : (sides : Sides) (S : State) (d : ℕ) (s : Socket) → AreApart sides S → socket_at S d ≡ Some s →
    SocketIsOn sides (sides.description d) s
socket_aside sides S d s apart is = go (description_at S d) refl is
  where
    at_target : (t : Target) → TargetIsOn sides (sides.description d) t → socket_of t ≡ Some s → SocketIsOn sides (sides.description d) s
    at_target (to_object o) on h = absurd (cc h)
    at_target (to_socket u) on h = let same : u ≡ s = cc h in subst (SocketIsOn sides (sides.description d)) same on

    go : (x : Option Description) → description_at S d ≡ x → socket_in x ≡ Some s → SocketIsOn sides (sides.description d) s
    go None here h = absurd (cc h)
    go (Some D) here h = at_target D.target (apart.descriptions d D here) h

pub each_of : (P : ℕ → Type 0) (ns : List ℕ) (i n : ℕ) → AllByRecursion P ns → slice_get ns i ≡ Some n → P n
each_of P [] i n all h = absurd (cc h)
each_of P (m ∷ ns) zero n all h = let same : m ≡ n = cc h in subst P same all.0
each_of P (m ∷ ns) (suc i) n all h = each_of P ns i n all.1 h

-- what is in reach of a process is on its side
reach_aside : (sides : Sides) (S : State) (p d : ℕ) (request : Request) → AreApart sides S → sides.process p ≡ false →
    AsksForNoneOf sides S request → IsInReach S p request d → sides.description d ≡ false
reach_aside sides S p d request apart other asks (held n leads) = led_aside sides S p n d apart leads ∙ other
reach_aside sides S p d request apart other asks (tied n e s leads there to) =
    (socket_aside sides S e s apart there).tied d to ∙ led_aside sides S p n e apart leads ∙ other
reach_aside sides S p d request apart other asks (pending n e s leads there first) =
    each_of (λ x. sides.description x ≡ sides.description e) _ 0 d (socket_aside sides S e s apart there).pending first
    ∙ led_aside sides S p n e apart leads ∙ other
reach_aside sides S p d request apart other asks (named kind addr s asked leads) = asks kind addr d s asked leads

description_stays : (sides : Sides) (S U : State) (p : ℕ) (request : Request) → AreApart sides S → AllTheirsAreMade sides S →
    is_off request ≡ false → sides.process p ≡ false → AsksForNoneOf sides S request → Near S p request U →
    (d : ℕ) → sides.description d ≡ true → description_at U d ≡ description_at S d
description_stays sides S U p request apart made on other asks near d mine = go (near.each d)
  where
    go : NearAt S p request d (description_at U d) → description_at U d ≡ description_at S d
    go (stays is) = is
    go (reached r keeps) = absurd (false≢true (sym (reach_aside sides S p d request apart other asks r) ∙ mine))
    go (new more keeps) = absurd (false≢true (sym (made.descriptions d more) ∙ mine))
    go (dropped off is) = absurd (false≢true (sym on ∙ off))

-- ---- what is in a file object

-- of one that a description of theirs leads to
body_stays : (sides : Sides) (S U : State) (p : ℕ) (request : Request) (d o : ℕ) (D : Description) → AreApart sides S → IsWhole S →
    sides.process p ≡ false → description_at S d ≡ Some D → D.target ≡ to_object o → sides.description d ≡ true →
    Touches S p request o U → body_at U o ≡ body_at S o
body_stays sides S U p request d o D apart whole other here leads mine touches = go touches
  where
    object_on : (x : ℕ) (E : Description) → description_at S x ≡ Some E → E.target ≡ to_object o → sides.object o ≡ sides.description x
    object_on x E there to = subst (TargetIsOn sides (sides.description x)) to (apart.descriptions x E there)

    clash : (fd : Fd) (e : Descriptor) (E : Description) → descriptor_at S p fd ≡ Some e → description_at S e.description ≡ Some E →
        E.target ≡ to_object o → body_at U o ≡ body_at S o
    clash fd e E own there to = absurd (false≢true (sym (sym (object_on d D here leads) ∙ object_on e.description E there to
        ∙ apart.tables p fd.0 e own ∙ other) ∙ mine))

    there_within : (os : List (Option View)) (n : ℕ) → is_open (place os n) ≡ true → n < length os
    there_within [] n h = absurd (false≢true h)
    there_within (x ∷ os) zero h = omega arith
    there_within (x ∷ os) (suc n) h = let rest = there_within os n h in omega (arith, rest)

    go : Touches S p request o U → body_at U o ≡ body_at S o
    go (untouched same) = same
    go (made_now more) = let within = there_within S.objects o (whole.descriptions_lead d o D here leads) in absurd (omega
        (arith, more, within))
    go (written fd bytes e E asked own there to may) = clash fd e E own there to
    go (read_from fd n e E view asked own there to may is pipe) = clash fd e E own there to

-- it is there still where a description leads to it
pub body_left : (U T : State) (d o : ℕ) (D : Description) → IsWhole T → description_at T d ≡ Some D → D.target ≡ to_object o →
    ((body : Body) → body_at T o ≡ Some body → body_at U o ≡ Some body) → body_at T o ≡ body_at U o
body_left U T d o D whole here leads left = go (place T.objects o) refl (whole.descriptions_lead d o D here leads)
  where
    go : (x : Option View) → place T.objects o ≡ x → is_open x ≡ true → body_at T o ≡ body_at U o
    go None is opened = absurd (false≢true opened)
    go (Some view) is opened = ap body_in is ∙ sym (left view.body (ap body_in is))

-- ---- the law

pub all_referred : (sides : Sides) (S : State) → IsWhole S → AllReferred sides S
all_referred sides S whole d mine there = ltb-true 0 (refs S d) (sym (whole.descriptions_referenced d) ∙ there)

pub whole_before : (boot : State) (es : List Entry) (j : ℕ) → IsLegal boot es → IsWhole (before boot es j)
whole_before boot es j legal = nothing_dangles boot (take j es) (front_is_legal boot es j legal)

-- of a step between states in which nothing dangles
pub step_unseen : (sides : Sides) (S T : State) (p tag : ℕ) (request : Request) (reply : Reply) (gone : List ℕ) →
    Step S p tag request reply gone T → IsWhole S → IsWhole T → AreApart sides S → AllTheirsAreMade sides S → is_off request ≡ false →
    sides.process p ≡ false → AsksForNoneOf sides S request → IsUnseen sides S T
unfolding Step
step_unseen sides S T p tag request reply gone s old_whole new_whole apart made on other asks = record {
  processes = λ q mine. same_there q s.3 ∙ last.processes q mine;
  descriptions = λ d mine. seen d mine (description_at S d) refl;
}
  where
    U : State
    U = s.0

    last : Alike sides S (settled U)
    last = settled_alike sides S U apart (all_referred sides S old_whole) (record {
      processes = process_stays sides S U p made (chosen_leaves S U p tag request reply on s.1) other;
      descriptions = description_stays sides S U p request apart made on other asks (chosen_near S U p tag request reply s.1);
    })

    same_there : (q : ℕ) → T ≡ settled U → process_at T q ≡ process_at (settled U) q
    same_there q is = ap (λ (V : State). process_at V q) is

    files : (o : ℕ) → Touches S p request o U
    files = (chosen_files S U p request reply (outcome S p tag request) (each_files S p tag request)
        (each_obeys S p tag request) s.1).bodies

    left : (d : ℕ) → sides.description d ≡ true → description_at T d ≡ description_at S d
    left d mine = ap (λ (V : State). description_at V d) s.3 ∙ last.descriptions d mine

    by_target : (d : ℕ) (D : Description) (t : Target) → D.target ≡ t → sides.description d ≡ true → description_at S d ≡ Some D →
        body_behind T t ≡ body_behind S t
    by_target d D (to_object o) is mine here =
        body_left U T d o D new_whole (left d mine ∙ here) is
        (λ body h. settled_body U o body (sym (ap (λ (V : State). body_at V o) s.3) ∙ h))
        ∙ body_stays sides S U p request d o D apart old_whole other here is mine (files o)
    by_target d D (to_socket k) is mine here = refl

    seen : (d : ℕ) → sides.description d ≡ true → (x : Option Description) → description_at S d ≡ x → seen_at T d ≡ seen_at S d
    seen d mine None here = ap (option_map (λ (D : Description). (D, body_behind T D.target))) (left d mine ∙ here)
        ∙ sym (ap (option_map (λ (D : Description). (D, body_behind S D.target))) here)
    seen d mine (Some D) here = ap (option_map (λ (D : Description). (D, body_behind T D.target))) (left d mine ∙ here)
        ∙ ap (λ (x : Option Body). Some (D, x)) (by_target d D D.target refl mine here)
        ∙ sym (ap (option_map (λ (D : Description). (D, body_behind S D.target))) here)

pub others_change_nothing_seen : OthersChangeNothingSeen
others_change_nothing_seen boot es sides j e legal at apart made on other asks =
    step_unseen sides (before boot es j) (before boot es (suc j)) e.pid.0 j e.request e.reply e.released (moment boot es j e legal at).steps
    (whole_before boot es j legal) (whole_before boot es (suc j) legal) apart made on other asks
