-- Outcomes of one call in two states that look alike, and how it finds its way to them.
use Rattle.std.proofs.Common.{◌≡◌, ℕ, Bool, true, false, if◌then◌else◌, List, [], map, Option, Some, None, Result, Ok, Err, refl, ap}
use Rattle.std.proofs.Common.{sym}
use Rattle.std.proofs.Common.{◌∙◌, subst}
use Rattle.std.proofs.lemmas.Bool.{false≢true}
use Rattle.ux_model.specs.Types.{Errno, Fd, Reply}
use Rattle.ux_model.specs.Places.{place}
use Rattle.ux_model.specs.Message.{Message}
use Rattle.ux_model.specs.Socket.{Socket}
use Rattle.ux_model.specs.Description.{Description, Target, socket_of, socket_in}
use Rattle.ux_model.specs.Process.{Descriptor}
use Rattle.ux_model.specs.State.{State, description_at, socket_at, table_of}
use Rattle.ux_model.specs.Outcome.{Outcome, refuse, answer, taking_memory, descriptor_at, on_descriptor, on_socket}
use Rattle.ux_laws.specs.Apartness.{Sides, untold, shown_as}
use Rattle.ux_model.proofs.Changes.Named.{table_in}
use Rattle.ux_laws.proofs.Aside.Twins.{Twins, TableIsOn, both_shown, none_shown, target_cases}

-- The same is answered, and twins are left.
pub record Agrees (sides : Sides) (o q : Outcome) : Type 0 where
  pub reply : q.reply ≡ o.reply
  pub next : Twins sides o.next q.next
  pub failure : (U V : State) → o.failure ≡ Some U → q.failure ≡ Some V → Twins sides U V

pub refused : {sides : Sides} {S T : State} {e : Errno} → Twins sides S T → Agrees sides (refuse S e) (refuse T e)
refused twins = record { reply = refl; next = twins; failure = λ U V is at. absurd (cc is) }

pub answered : {sides : Sides} (r s : Reply) {S T : State} → s ≡ r → Twins sides S T → Agrees sides (answer r S) (answer s T)
answered r s same twins = record { reply = same; next = twins; failure = λ U V is at. absurd (cc is) }

pub remembered : {sides : Sides} (r s : Reply) {S T : State} → s ≡ r → Twins sides S T → Agrees sides (taking_memory r S)
    (taking_memory s T)
remembered r s same twins = record { reply = same; next = twins; failure = λ U V is at. absurd (cc is) }

-- ---- branchings

pub both : (Q : Outcome → Outcome → Type 0) (b c : Bool) (x y v w : Outcome) → c ≡ b → (b ≡ true → Q x v) → (b ≡ false → Q y w) →
    Q (if b then x else y) (if c then v else w)
both Q true true x y v w same h k = h refl
both Q true false x y v w same h k = absurd (false≢true same)
both Q false true x y v w same h k = absurd (false≢true (sym same))
both Q false false x y v w same h k = k refl

pub maybe_both : {X : Type 0} (Q : Outcome → Outcome → Type 0) (o p : Option X) (x v : Outcome) (f g : X → Outcome) → p ≡ o → Q x v →
    ((a : X) → o ≡ Some a → Q (f a) (g a)) →
    Q (elim o as (λ _. Outcome) [ None ↦ x | Some a ↦ f a ]) (elim p as (λ _. Outcome) [ None ↦ v | Some a ↦ g a ])
maybe_both {X} Q o p x v f g same none some =
    subst (λ (z : Option X). Q (elim o as (λ _. Outcome) [ None ↦ x | Some a ↦ f a ]) (elim z as
    (λ _. Outcome) [ None ↦ v | Some a ↦ g a ]))
    (sym same) (go o refl)
  where
    go : (z : Option X) → o ≡ z →
        Q (elim z as (λ _. Outcome) [ None ↦ x | Some a ↦ f a ]) (elim z as (λ _. Outcome) [ None ↦ v | Some a ↦ g a ])
    go None is = none
    go (Some a) is = some a is

-- ---- what a descriptor leads to

abbrev described : Descriptor → Option Description → Result (Descriptor × Description) Errno
described e o = elim o [ None ↦ Err Errno.EBADF | Some D ↦ Ok (e, D) ]

abbrev led : State → Option Descriptor → Result (Descriptor × Description) Errno
led S o = elim o [ None ↦ Err Errno.EBADF | Some e ↦ described e (description_at S e.description) ]

abbrev on_led : State → (Descriptor → Description → Outcome) → Result (Descriptor × Description) Errno → Outcome
on_led S rest r = elim r [ Err x ↦ refuse S x | Ok f ↦ rest f.0 f.1 ]

pub same_table : {sides : Sides} {S T : State} (p : ℕ) → Twins sides S T → sides.process p ≡ true → table_of T p ≡ table_of S p
same_table p twins mine = ap table_in (twins.processes p mine)

pub own_table : {sides : Sides} {S T : State} (p : ℕ) → Twins sides S T → sides.process p ≡ true → TableIsOn sides true (table_of S p)
own_table p twins mine n e is = twins.left.tables p n e is ∙ mine

pub found_both : (Q : Outcome → Outcome → Type 0) (sides : Sides) (S T : State) (p : ℕ) (fd : Fd)
    (rest more : Descriptor → Description → Outcome) → Twins sides S T → sides.process p ≡ true →
    Q (refuse S Errno.EBADF) (refuse T Errno.EBADF) →
    ((e : Descriptor) (D E : Description) → sides.description e.description ≡ true → descriptor_at S p fd ≡ Some e →
    description_at S e.description ≡ Some D → description_at T e.description ≡ Some E → shown_as T E ≡ shown_as S D →
    Q (rest e D) (more e E)) →
    Q (on_descriptor S p fd rest) (on_descriptor T p fd more)
found_both Q sides S T p fd rest more twins mine bad each =
    subst (λ (x : Option Descriptor). Q (on_descriptor S p fd rest) (on_led T more (led T x)))
    (sym (ap (λ (t : List (Option Descriptor)). place t fd.0) (same_table p twins mine))) (go (descriptor_at S p fd) refl)
  where
    at_place : (e : Descriptor) → descriptor_at S p fd ≡ Some e → (x : Option Description) → description_at S e.description ≡ x →
        Q (on_led S rest (described e x)) (on_led T more (described e (description_at T e.description)))
    at_place e g None is =
        let on : sides.description e.description ≡ true = own_table p twins mine fd.0 e g in
        subst (λ (y : Option Description). Q (refuse S Errno.EBADF) (on_led T more (described e y)))
        (sym (none_shown S T e.description (twins.descriptions e.description on) is)) bad
    at_place e g (Some D) is =
        let on : sides.description e.description ≡ true = own_table p twins mine fd.0 e g in
        let w = both_shown S T e.description D (twins.descriptions e.description on) is in
        subst (λ (y : Option Description). Q (rest e D) (on_led T more (described e y))) (sym w.1) (each e D w.0 on g is w.1 w.2)

    go : (x : Option Descriptor) → descriptor_at S p fd ≡ x → Q (on_led S rest (led S x)) (on_led T more (led T x))
    go None g = bad
    go (Some e) g = at_place e g (description_at S e.description) refl

-- the same through the socket that the descriptor leads to
abbrev socket_led : Descriptor → Target → Result (ℕ × Socket) Errno
socket_led e t = elim (socket_of t) [ None ↦ Err Errno.ENOTSOCK | Some s ↦ Ok (e.description, s) ]

abbrev on_found : State → (ℕ → Socket → Outcome) → Result (ℕ × Socket) Errno → Outcome
on_found S rest r = elim r [ Err x ↦ refuse S x | Ok f ↦ rest f.0 f.1 ]

-- a call on a socket is one on a description
abbrev at_socket : State → (ℕ → Socket → Outcome) → Descriptor → Description → Outcome
at_socket S rest e D = on_found S rest (socket_led e D.target)

by_description : (S : State) (p : ℕ) (fd : Fd) (rest : ℕ → Socket → Outcome) →
    on_socket S p fd rest ≡ on_descriptor S p fd (at_socket S rest)
by_description S p fd rest = go (descriptor_at S p fd)
  where
    at_place : (e : Descriptor) (x : Option Description) →
        on_found S rest (elim (described e x) as (λ _. Result (ℕ × Socket) Errno) [ Err f ↦ Err f | Ok w ↦ socket_led w.0 w.1.target ])
        ≡ on_led S (at_socket S rest) (described e x)
    at_place e None = refl
    at_place e (Some D) = refl

    go : (x : Option Descriptor) →
        on_found S rest (elim (led S x) as (λ _. Result (ℕ × Socket) Errno) [ Err f ↦ Err f | Ok w ↦ socket_led w.0 w.1.target ])
        ≡ on_led S (at_socket S rest) (led S x)
    go None = refl
    go (Some e) = at_place e (description_at S e.description)

pub socket_both : (Q : Outcome → Outcome → Type 0) (sides : Sides) (S T : State) (p : ℕ) (fd : Fd) (rest more : ℕ → Socket → Outcome) →
    Twins sides S T → sides.process p ≡ true → ((e : Errno) → Q (refuse S e) (refuse T e)) →
    ((d : ℕ) (s : Socket) (q : List Message) → sides.description d ≡ true → socket_at S d ≡ Some s →
    socket_at T d ≡ Some (record s { queue = q }) → map untold q ≡ map untold s.queue → Q (rest d s) (more d (record s { queue = q }))) →
    Q (on_socket S p fd rest) (on_socket T p fd more)
socket_both Q sides S T p fd rest more twins mine bad each =
    subst (λ (x : Outcome). Q x (on_socket T p fd more)) (sym (by_description S p fd rest))
    (subst (λ (y : Outcome). Q (on_descriptor S p fd (at_socket S rest)) y) (sym (by_description T p fd more))
    (found_both Q sides S T p fd (at_socket S rest) (at_socket T more) twins mine (bad Errno.EBADF)
    (λ e D E on g here there shown. target_cases (λ (D E : Description). Q (at_socket S rest e D) (at_socket T more e E)) S T D E shown
    (λ o is led_too body. bad Errno.ENOTSOCK)
    (λ s q is led_too same. each e.description s q on (ap socket_in here ∙ ap socket_of is) (ap socket_in there
    ∙ ap socket_of led_too) same))))
