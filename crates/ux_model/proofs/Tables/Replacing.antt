-- What a call shows of the tables, by what it does to that of its process.
use Rattle.std.proofs.Common.{◌≡◌, ◌≢◌, ℕ, zero, suc, ◌≤◌, Bool, true, false, ◌==◌, cond, not, List, [], length, Option, Some, None, refl}
use Rattle.std.proofs.Common.{ap, sym, ◌∙◌, subst, slice_get}
use Rattle.std.specs.List.{list_any}
use Rattle.std.proofs.lemmas.Bool.{eqb-false, false≢true}
use Rattle.ux_model.specs.Types.{Errno, Request, Reply}
use Rattle.ux_model.specs.Places.{place}
use Rattle.ux_model.specs.Process.{Process, Descriptor}
use Rattle.ux_model.specs.Delivery.{installed}
use Rattle.ux_model.specs.State.{State, process_at, is_live, table_of, with_process, with_table}
use Rattle.ux_model.specs.History.{is_off, makes}
use Rattle.ux_model.specs.Delivered.{Brought, brought}
use Rattle.ux_model.specs.Giving.{held_at, numbers_told, numbers_received, given}
use Rattle.ux_model.specs.Changes.{cloexec_of, left_by, is_err, left, others_left_by, left_to_others, sources, ChangesTables}
use Rattle.ux_model.proofs.Changes.Named.{table_in}
use Rattle.ux_model.proofs.Lists.ByPlace.{get_set_same, get_set_other}
use Rattle.ux_model.proofs.Lists.Rising.{Rise, rise_once, installed_other, installed_at}

-- ---- processes by number

process_same : (S : State) (p : ℕ) (P Q : Process) → process_at S p ≡ Some Q → process_at (with_process S p P) p ≡ Some P
process_same S zero P Q h = absurd (cc h)
process_same S (suc i) P Q h = get_set_same S.processes i P Q h

process_other : (S : State) (p q : ℕ) (P : Process) → p ≢ q → process_at (with_process S p P) q ≡ process_at S q
process_other S zero q P h = refl
process_other S (suc i) zero P h = refl
process_other S (suc i) (suc j) P h = get_set_other S.processes i j P (λ e. h (ap suc e))

pub live_process : (S : State) (p : ℕ) → is_live S p ≡ true → (Q : Process) × (process_at S p ≡ Some Q)
live_process S p live = go (process_at S p) refl live
  where
    go : (o : Option Process) → process_at S p ≡ o → (elim o as (λ _. Bool) [ Some P ↦ not P.exited | None ↦ false ]) ≡ true →
        (Q : Process) × (process_at S p ≡ Some Q)
    go None e l = absurd (false≢true l)
    go (Some Q) e l = (Q, e)

-- T is S with this table of process p, as far as tables show
pub record Replaces (S : State) (p : ℕ) (table : List (Option Descriptor)) (T : State) : Type 0 where
  pub same : (n : ℕ) → held_at T p n ≡ place table n
  pub other : (q n : ℕ) → p ≢ q → held_at T q n ≡ held_at S q n

pub replaced_process : (S : State) (p : ℕ) (P Q : Process) → process_at S p ≡ Some Q → Replaces S p P.table (with_process S p P)
replaced_process S p P Q h = record {
  same = λ n. ap (λ (o : Option Process). place (table_in o) n) (process_same S p P Q h);
  other = λ q n d. ap (λ (o : Option Process). place (table_in o) n) (process_other S p q P d);
}

pub replaced_table : (S : State) (p : ℕ) (table : List (Option Descriptor)) (Q : Process) → process_at S p ≡ Some Q →
    Replaces S p table (with_table S p table)
replaced_table S p table Q h =
    let e : with_table S p table ≡ with_process S p (record Q { table = table }) =
    ap (λ (o : Option Process). elim o as (λ _. State) [ Some P ↦ with_process S p (record P { table = table }) | None ↦ S ]) h in
    subst (λ (T : State). Replaces S p table T) (sym e) (replaced_process S p (record Q { table = table }) Q h)

-- where the processes are the same
pub held_alike : (S T : State) (q n : ℕ) → T.processes ≡ S.processes → held_at T q n ≡ held_at S q n
held_alike S T zero n same = refl
held_alike S T (suc i) n same = ap (λ (Ps : List Process). place (table_in (slice_get Ps i)) n) same

pub replaced_none : (S T : State) (p : ℕ) → T.processes ≡ S.processes → Replaces S p (table_of S p) T
replaced_none S T p same = record { same = λ n. held_alike S T p n same; other = λ q n d. held_alike S T q n same }

-- tables report what the processes do
pub replaced_alike : (S T U : State) (p : ℕ) (table : List (Option Descriptor)) → U.processes ≡ T.processes → Replaces S p table T →
    Replaces S p table U
replaced_alike S T U p table same r = record {
  same = λ n. held_alike T U p n same ∙ r.same n;
  other = λ q n d. held_alike T U q n same
      ∙ r.other q n d;
}

-- ---- requests and replies

abbrev pub tells_child : Reply → Bool
tells_child (Reply.Child pid) = true
tells_child _ = false

makes_none : (q : ℕ) (request : Request) (reply : Reply) → tells_child reply ≡ false → makes q request reply ≡ false
makes_none q Request.Fork (Reply.Child pid) h = absurd (false≢true (sym h))
makes_none q request reply h = refl

others_stay : (request : Request) (held : Option Descriptor) → is_off request ≡ false → others_left_by request held ≡ held
others_stay Request.Off held h = absurd (false≢true (sym h))
others_stay request held h = refl

stays_to_others : (request : Request) (reply : Reply) (held : Option Descriptor) → is_off request ≡ false →
    left_to_others request reply held ≡ held
stays_to_others request reply held h = go (is_err reply)
  where
    go : (b : Bool) → cond b held (others_left_by request held) ≡ held
    go true = refl
    go false = others_stay request held h

-- an answer that reports no number
abbrev pub tells_number : Reply → Bool
tells_number (Reply.Fd fd) = true
tells_number (Reply.Fds first second) = true
tells_number (Reply.Accepted fd addr) = true
tells_number (Reply.Received flags count bytes control from) = true
tells_number _ = false

told_none : (request : Request) (reply : Reply) → tells_number reply ≡ false → numbers_told request reply ≡ []
told_none request (Reply.Fd fd) h = absurd (false≢true (sym h))
told_none request (Reply.Fds first second) h = absurd (false≢true (sym h))
told_none request (Reply.Accepted fd addr) h = absurd (false≢true (sym h))
told_none request _ h = refl

received_none : (b : Brought) (reply : Reply) → tells_number reply ≡ false → numbers_received b reply ≡ []
received_none b (Reply.Received flags count bytes control from) h = absurd (false≢true (sym h))
received_none b _ h = refl

pub gives_none : (S : State) (p : ℕ) (request : Request) (reply : Reply) → tells_number reply ≡ false → given S p request reply ≡ []
gives_none S p (Request.RecvMsg fd n space flags) reply h = received_none (brought S p (Request.RecvMsg fd n space flags)) reply h
gives_none S p request reply h = told_none request reply h

-- it leaves what it doesn't give
pub record IsPlain (request : Request) : Type 0 where
  pub no_end : is_off request ≡ false
  pub keeps : (n : ℕ) (held : Option Descriptor) → left_by request n held ≡ held

plain_left : (request : Request) (reply : Reply) (n : ℕ) (held : Option Descriptor) → IsPlain request → left request reply n held ≡ held
plain_left request reply n held plain = go (is_err reply)
  where
    go : (b : Bool) → cond b held (left_by request n held) ≡ held
    go true = refl
    go false = plain.keeps n held

-- ---- kinds of calls

none_there : {P : Type 0} (ns : List ℕ) (i n : ℕ) → ns ≡ [] → slice_get ns i ≡ Some n → P
none_there ns i n none h = let nowhere : slice_get [] i ≡ Some n = sym (ap (λ l. slice_get l i) none) ∙ h in absurd (cc nowhere)

-- a call that gives no number changes its own table place by place
pub changes : (S T : State) (p : ℕ) (request : Request) (reply : Reply) (table : List (Option Descriptor)) → Replaces S p table T →
    is_off request ≡ false →
    given S p request reply ≡ [] → tells_child reply ≡ false → ((n : ℕ) → place table n ≡ left request reply n (held_at S p n)) →
    ChangesTables S p request reply T
changes S T p request reply table replaced on none childless each = record {
  others = λ q n d c. replaced.other q n (eqb-false p q d) ∙ sym (stays_to_others request reply (held_at S q n) on);
  child = λ q n c. absurd (false≢true (sym (makes_none q request reply childless) ∙ c));
  own = λ n g. replaced.same n ∙ each n;
  new = λ i n g. none_there (given S p request reply) i n none g;
  once = λ i j n g h. none_there (given S p request reply) i n none g;
}

-- one that is refused, whatever else it changes
pub refusal : (S T : State) (p : ℕ) (request : Request) (e : Errno) → Replaces S p (table_of S p) T → is_off request ≡ false →
    ChangesTables S p request (Reply.Err e) T
refusal S T p request e replaced on = changes S T p request (Reply.Err e) (table_of S p) replaced on
    (gives_none S p request (Reply.Err e) refl) refl (λ n. refl)

-- one that leaves the table as it was
pub keeps_table : (S T : State) (p : ℕ) (request : Request) (reply : Reply) → IsPlain request → Replaces S p (table_of S p) T →
    given S p request reply ≡ [] → tells_child reply ≡ false →
    ChangesTables S p request reply T
keeps_table S T p request reply plain replaced none childless =
    changes S T p request reply (table_of S p) replaced plain.no_end none childless
    (λ n. sym (plain_left request reply n (held_at S p n) plain))

-- one that gives numbers installs descriptors at them
pub installs : (S T : State) (p : ℕ) (request : Request) (reply : Reply) (ns : List ℕ) → IsPlain request →
    Replaces S p (installed (cloexec_of request) ns (sources S p request) (table_of S p)) T → Rise 0 (length (table_of S p)) ns →
    length ns ≤ length (sources S p request) →
    given S p request reply ≡ ns → tells_child reply ≡ false → ChangesTables S p request reply T
installs S T p request reply ns plain replaced rise enough tells childless = record {
  others = λ q n d c. replaced.other q n (eqb-false p q d) ∙ sym (stays_to_others request reply (held_at S q n) plain.no_end);
  child = λ q n c. absurd (false≢true (sym (makes_none q request reply childless) ∙ c));
  own = λ n g.
      replaced.same n ∙ installed_other (cloexec_of request) ns (sources S p request) (table_of S p) n
      (sym (ap (λ l. list_any (λ m. m == n) l) tells) ∙ g)
      ∙ sym (plain_left request reply n (held_at S p n) plain);
  new = λ i n g.
      let at : slice_get ns i ≡ Some n = sym (ap (λ l. slice_get l i) tells) ∙ g in
      let w = installed_at (cloexec_of request) 0 ns (sources S p request) (table_of S p) i n rise enough at in
      (w.0, w.1, replaced.same n ∙ w.2);
  once = λ i j n g h. rise_once 0 (length (table_of S p)) ns i j n rise (sym (ap (λ l. slice_get l i) tells) ∙ g)
      (sym (ap (λ l. slice_get l j) tells) ∙ h);
}
