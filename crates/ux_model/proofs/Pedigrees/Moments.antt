-- A legal history around one entry, and what a holding leads to as long as it stands.
use Rattle.std.proofs.Common.{◌≡◌, ◌⊎◌, ℕ, zero, suc, ◌<◌, ◌≤◌, Bool, true, false, ◌==◌, ◌&&◌, ◌||◌, cond, not, is_some, List, [], ◌∷◌}
use Rattle.std.proofs.Common.{◌++◌, length, take, Option, Some, None, option_map, refl, ap, sym, ◌∙◌, subst, inl, inr, arith, slice_get}
use Rattle.std.specs.List.{list_any}
use Rattle.std.proofs.lemmas.Bool.{eqb-true, eqb-false, false≢true, or_parts}
use Rattle.ux_model.specs.Types.{Request, Entry, Link}
use Rattle.ux_model.specs.Process.{Descriptor, kept_on_exec, with_cloexec}
use Rattle.ux_model.specs.Flags.{asks_cloexec}
use Rattle.ux_model.specs.State.{State}
use Rattle.ux_model.specs.Step.{Step}
use Rattle.ux_model.specs.History.{replay, makes, IsLegal}
use Rattle.ux_model.specs.Giving.{held_at, is_held, description_in, description_of, given, gives}
use Rattle.ux_model.specs.Pedigree.{before, Stands}
use Rattle.ux_model.specs.Changes.{left_by, is_err, left, others_left_by, left_to_others, ChangesTables}
use Rattle.ux_model.proofs.Lists.ChangedPlaces.{bool_cases}
use Rattle.ux_model.proofs.Lists.Induction.{take_next}
use Rattle.ux_model.proofs.Lists.ByPlace.{get_below, get_within, length_front}
use Rattle.ux_model.proofs.Tables.CallShows.{step_changes_tables}

-- the states before and after an entry
pub record Moment (boot : State) (es : List Entry) (j : ℕ) (e : Entry) : Type 0 where
  pub steps : Step (before boot es j) e.pid.0 j e.request e.reply e.released (before boot es (suc j))
  pub changes : ChangesTables (before boot es j) e.pid.0 e.request e.reply (before boot es (suc j))

pub moment : (boot : State) (es : List Entry) (j : ℕ) (e : Entry) → IsLegal boot es → slice_get es j ≡ Some e → Moment boot es j e
moment boot es j e legal h =
    let may = legal.each j e h in
    let below = get_below es j e h in
    let count : length (take j es) ≡ j = length_front es j (omega (arith, below)) in
    let s : Step (before boot es j) e.pid.0 j e.request e.reply e.released (before boot es (suc j)) =
    subst (λ (l : List Entry). Step (before boot es j) e.pid.0 j e.request e.reply e.released (replay boot l)) (sym (take_next es j e h))
    (subst (λ (k : ℕ). Step (before boot es j) e.pid.0 k e.request e.reply e.released (replay boot (take j es ++ e ∷ []))) count may.steps)
    in
    record {
      steps = s;
      changes = step_changes_tables (before boot es j) (before boot es (suc j)) e.pid.0 e.k j e.request e.reply e.released
          s may.allowed;
    }

-- ---- descriptions

in_either : (b : Bool) (u v : Option Descriptor) (d : ℕ) {R : Type 0} → (description_in u ≡ Some d → R) → (description_in v ≡ Some d → R) →
    description_in (cond b u v) ≡ Some d → R
in_either true u v d f g h = f h
in_either false u v d f g h = g h

flag_alone : (on : Bool) (o : Option Descriptor) (d : ℕ) → description_in (option_map (with_cloexec on) o) ≡ Some d →
    description_in o ≡ Some d
flag_alone on None d h = h
flag_alone on (Some x) d h = h

exec_keeps : (o : Option Descriptor) (d : ℕ) → description_in (kept_on_exec o) ≡ Some d → description_in o ≡ Some d
exec_keeps None d h = h
exec_keeps (Some x) d h = in_either x.cloexec None (Some x) d {R = description_in (Some x) ≡ Some d} (λ none. absurd (cc none)) (λ g. g) h

left_by_keeps : (request : Request) (n : ℕ) (o : Option Descriptor) (d : ℕ) → description_in (left_by request n o) ≡ Some d →
    description_in o ≡ Some d
left_by_keeps (Request.SetFlags fd flags) n o d h =
    in_either (fd.0 == n) (option_map (with_cloexec (asks_cloexec flags)) o) o d {R = description_in o ≡ Some d}
    (flag_alone (asks_cloexec flags) o d) (λ g. g) h
left_by_keeps (Request.Close fd) n o d h =
    in_either (fd.0 == n) None o d {R = description_in o ≡ Some d} (λ none. absurd (cc none)) (λ g. g) h
left_by_keeps Request.Exec n o d h = exec_keeps o d h
left_by_keeps Request.Exit n o d h = absurd (cc h)
left_by_keeps Request.Off n o d h = absurd (cc h)
left_by_keeps _ n o d h = h

left_keeps : (S : State) (e : Entry) (n : ℕ) (o : Option Descriptor) (d : ℕ) → description_in (left e.request e.reply n o) ≡ Some d →
    description_in o ≡ Some d
left_keeps S e n o d h = in_either (is_err e.reply) o (left_by e.request n o) d {R = description_in o ≡ Some d}
    (λ g. g) (left_by_keeps e.request n o d) h

others_keep : (request : Request) (o : Option Descriptor) (d : ℕ) → description_in (others_left_by request o) ≡ Some d →
    description_in o ≡ Some d
others_keep Request.Off o d h = absurd (cc h)
others_keep _ o d h = h

to_others_keeps : (e : Entry) (o : Option Descriptor) (d : ℕ) → description_in (left_to_others e.request e.reply o) ≡ Some d →
    description_in o ≡ Some d
to_others_keeps e o d h = in_either (is_err e.reply) o (others_left_by e.request o) d {R = description_in o ≡ Some d}
    (λ g. g) (others_keep e.request o d) h

-- the entry gave the number: to a child, or to its own process as one of those that it gives
pub given_cases : (S : State) (e : Entry) (q n : ℕ) → gives S e q n ≡ true →
    (makes q e.request e.reply ≡ true) ⊎ ((e.pid.0 ≡ q) × (list_any (λ m. m == n) (given S e.pid.0 e.request e.reply) ≡ true))
given_cases S e q n h = bool_cases (makes q e.request e.reply) (λ c. inl c)
    (λ c. bool_cases (e.pid.0 == q)
    (λ own. inr (eqb-true e.pid.0 q own, sym (ap (λ b. b && inside) own) ∙ sym (ap (λ b. b || ((e.pid.0 == q) && inside)) c) ∙ h))
    (λ own. absurd (false≢true (sym (ap (λ b. b && inside) own) ∙ sym (ap (λ b. b || ((e.pid.0 == q) && inside)) c) ∙ h))))
  where
    inside : Bool
    inside = list_any (λ m. m == n) (given S e.pid.0 e.request e.reply)

-- what isn't given was there before, and led to the same description
pub kept_description : (S T : State) (e : Entry) (q n d : ℕ) → ChangesTables S e.pid.0 e.request e.reply T → gives S e q n ≡ false →
    description_of T q n ≡ Some d → description_of S q n ≡ Some d
kept_description S T e q n d changes not_given h =
    let parts = or_parts (makes q e.request e.reply) ((e.pid.0 == q) && list_any (λ m. m == n) (given S e.pid.0 e.request e.reply))
    not_given in
    bool_cases (e.pid.0 == q)
    (λ own.
    let none : list_any (λ m. m == n) (given S e.pid.0 e.request e.reply) ≡ false =
    sym (ap (λ b. b && list_any (λ m. m == n) (given S e.pid.0 e.request e.reply)) own) ∙ parts.1 in
    let same : e.pid.0 ≡ q = eqb-true e.pid.0 q own in
    let there : description_of T e.pid.0 n ≡ Some d = subst (λ (p : ℕ). description_of T p n ≡ Some d) (sym same) h in
    subst (λ (p : ℕ). description_of S p n ≡ Some d) same
    (left_keeps S e n (held_at S e.pid.0 n) d (ap description_in (sym (changes.own n none)) ∙ there)))
    (λ other. to_others_keeps e (held_at S q n) d (ap description_in (sym (changes.others q n other parts.0)) ∙ h))

pub held_leads : (S : State) (p n : ℕ) → is_held S p n ≡ true → (d : ℕ) × (description_of S p n ≡ Some d)
held_leads S p n h = go (held_at S p n) h
  where
    go : (o : Option Descriptor) → is_some o ≡ true → (d : ℕ) × (description_in o ≡ Some d)
    go None h = absurd (false≢true h)
    go (Some x) h = (x.description, refl)

pub leads_held : (S : State) (p n d : ℕ) → description_of S p n ≡ Some d → is_held S p n ≡ true
leads_held S p n d h = go (held_at S p n) h
  where
    go : (o : Option Descriptor) → description_in o ≡ Some d → is_some o ≡ true
    go None h = absurd (cc h)
    go (Some x) h = refl

not_taken : (was is : Bool) → was ≡ true → (was && not is) ≡ false → is ≡ true
not_taken was true h g = refl
not_taken was false h g = absurd (false≢true (sym g ∙ ap (λ b. b && true) h))

-- as long as a holding stands, its number leads to the same description
pub stays : (boot : State) (es : List Entry) (a : Link) (until d : ℕ) → IsLegal boot es → Stands boot es a until → until ≤ length es →
    description_of (before boot es (suc a.entry)) a.pid.0 a.fd.0 ≡ Some d →
    (m : ℕ) → a.entry < m → m ≤ until → description_of (before boot es m) a.pid.0 a.fd.0 ≡ Some d
stays boot es a until d legal stands within start zero low high = absurd (omega (arith, low))
stays boot es a until d legal stands within start (suc m) low high = bool_cases (a.entry == m)
    (λ here. subst (λ (k : ℕ). description_of (before boot es (suc k)) a.pid.0 a.fd.0 ≡ Some d) (eqb-true a.entry m here) start)
    (λ past.
    let above : a.entry < m = let ne = eqb-false a.entry m past in omega (arith, low, ne) in
    let so_far = stays boot es a until d legal stands within start m above (omega (arith, high)) in
    let at = get_within es m (omega (arith, high, within)) in
    let kept = stands.untouched m at.0 above (omega (arith, high)) at.1 in
    let held = not_taken (is_held (before boot es m) a.pid.0 a.fd.0) (is_held (before boot es (suc m)) a.pid.0 a.fd.0)
    (leads_held (before boot es m) a.pid.0 a.fd.0 d so_far) kept.1 in
    let leads = held_leads (before boot es (suc m)) a.pid.0 a.fd.0 held in
    let same = kept_description (before boot es m) (before boot es (suc m)) at.0 a.pid.0 a.fd.0 leads.0
    (moment boot es m at.0 legal at.1).changes kept.0 leads.1 in
    leads.1 ∙ sym same ∙ so_far)
