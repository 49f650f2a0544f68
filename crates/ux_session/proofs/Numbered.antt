-- The numbers that an entry gave, each with where it leads.
use Rattle.std.proofs.Common.{◌≡◌, ℕ, zero, suc, ◌+◌, ◌<◌, Bool, true, false, List, [], ◌∷◌, ◌++◌, length, map, take, get_or, Option, Some, None}
use Rattle.std.proofs.Common.{option_map, refl, ap, sym, ◌∙◌, subst, arith}
use Rattle.std.specs.Prelude.{slice_get}
use Rattle.std.specs.List.{filter_map, cons_option}
use Rattle.std.specs.Option.{option_to_list}
use Rattle.std.proofs.lemmas.List.{take_more, take_all}
use Rattle.std.proofs.lemmas.List.Elements.{filter_map-append}
use Rattle.ux_model.specs.Types.{Fd, Entry}
use Rattle.ux_model.specs.State.{State, is_live, table_of}
use Rattle.ux_model.specs.History.{IsLegal}
use Rattle.ux_model.specs.Giving.{given, description_of}
use Rattle.ux_model.specs.Pedigree.{before}
use Rattle.ux_model.proofs.Lists.ByPlace.{member_place, place_member}
use Rattle.ux_audit.specs.Shown.{shown}
use Rattle.ux_audit.proofs.Reported.{shown_given}
use Rattle.ux_session.specs.declared.numbers.Lead.{Lead}
use Rattle.ux_session.specs.Leading.{with_description, lead_in, is_among, AreOfNumbers, HasEachNumber}

-- where a number of this process leads
abbrev pub lead_of : State → ℕ → Fd → Option Lead
lead_of S p fd = lead_in (table_of S p) fd

-- ---- lists

only_one : {Y : Type 0} (o : Option Y) → cons_option o [] ≡ option_to_list o
only_one None = refl
only_one (Some y) = refl

-- one more number was looked at
pub next_lead : (h : Fd → Option Lead) (xs : List Fd) (i : ℕ) (d : Fd) (old new : List Lead) → i < length xs → old ≡ filter_map h (take i xs) →
    new ≡ old ++ option_to_list (h (get_or xs i d)) → new ≡ filter_map h (take (i + 1) xs)
next_lead h xs i d old new within so_far is =
    is ∙ ap (λ (ys : List Lead). ys ++ option_to_list (h (get_or xs i d))) so_far
    ∙ ap (λ (ys : List Lead). filter_map h (take i xs) ++ ys) (sym (only_one (h (get_or xs i d))))
    ∙ sym (filter_map-append h (take i xs) (get_or xs i d ∷ []))
    ∙ sym (ap (filter_map h) (take_more xs i d within))

-- what stands among the leads is that of a number
record Found (h : Fd → Option Lead) (xs : List Fd) (l : Lead) : Type 0 where
  pub place : ℕ
  pub fd : Fd
  pub stands : slice_get xs place ≡ Some fd
  pub leads : h fd ≡ Some l

found_further : (h : Fd → Option Lead) (x : Fd) (xs : List Fd) (l : Lead) → Found h xs l → Found h (x ∷ xs) l
found_further h x xs l f = record { place = suc f.place; fd = f.fd; stands = f.stands; leads = f.leads }

found_step : (h : Fd → Option Lead) (x : Fd) (xs : List Fd) (l : Lead) (i : ℕ) (o : Option Lead) → h x ≡ o →
    ((k : ℕ) → slice_get (filter_map h xs) k ≡ Some l → Found h xs l) → slice_get (cons_option o (filter_map h xs)) i ≡ Some l → Found h (x ∷ xs) l
found_step h x xs l i None is rest at = found_further h x xs l (rest i at)
found_step h x xs l zero (Some m) is rest at = record { place = 0; fd = x; stands = refl; leads = is ∙ at }
found_step h x xs l (suc i) (Some m) is rest at = found_further h x xs l (rest i at)

found : (h : Fd → Option Lead) (xs : List Fd) (l : Lead) (i : ℕ) → slice_get (filter_map h xs) i ≡ Some l → Found h xs l
found h [] l i at = absurd (cc at)
found h (x ∷ xs) l i at = found_step h x xs l i (h x) refl (λ k there. found h xs l k there) at

-- and each number that leads somewhere has its lead among them
step_over : (o : Option Lead) (ls : List Lead) (i : ℕ) (l : Lead) → slice_get ls i ≡ Some l → (k : ℕ) × (slice_get (cons_option o ls) k ≡ Some l)
step_over None ls i l at = (i, at)
step_over (Some m) ls i l at = (suc i, at)

first_in : (o : Option Lead) (ls : List Lead) (l : Lead) → o ≡ Some l → (k : ℕ) × (slice_get (cons_option o ls) k ≡ Some l)
first_in None ls l e = absurd (cc e)
first_in (Some m) ls l e = (0, e)

listed : (h : Fd → Option Lead) (xs : List Fd) (j : ℕ) (fd : Fd) (l : Lead) → slice_get xs j ≡ Some fd → h fd ≡ Some l →
    (i : ℕ) × (slice_get (filter_map h xs) i ≡ Some l)
listed h [] j fd l at leads = absurd (cc at)
listed h (x ∷ xs) zero fd l at leads =
    let same : x ≡ fd = cc at in first_in (h x) (filter_map h xs) l (ap h same ∙ leads)
listed h (x ∷ xs) (suc j) fd l at leads =
    let rest = listed h xs j fd l at leads in step_over (h x) (filter_map h xs) rest.0 l rest.1

-- ---- numbers

number_at : (xs : List Fd) (j : ℕ) (fd : Fd) → slice_get xs j ≡ Some fd → slice_get (map (λ (x : Fd). x.0) xs) j ≡ Some fd.0
number_at [] j fd at = absurd (cc at)
number_at (x ∷ xs) zero fd at = let same : x ≡ fd = cc at in ap (λ (y : Fd). Some y.0) same
number_at (x ∷ xs) (suc j) fd at = number_at xs j fd at

abbrev fd_with : ℕ → Fd
fd_with k = record { 0 = k }

fd_at : (xs : List Fd) (j n : ℕ) → slice_get (map (λ (x : Fd). x.0) xs) j ≡ Some n → slice_get xs j ≡ Some (record { 0 = n })
fd_at [] j n at = absurd (cc at)
fd_at (x ∷ xs) zero n at = let same : x.0 ≡ n = cc at in ap (λ (k : ℕ). Some (fd_with k)) same
fd_at (x ∷ xs) (suc j) n at = fd_at xs j n at

of_option : (o : Option ℕ) (fd : Fd) (l : Lead) → option_map (with_description fd) o ≡ Some l → (l.fd ≡ fd) × (o ≡ Some l.id)
of_option None fd l e = absurd (cc e)
of_option (Some d) fd l e = let same : with_description fd d ≡ l = cc e in
    (sym (ap (λ (x : Lead). x.fd) same), ap (λ (x : Lead). Some x.id) same)

-- ---- an entry

pub leads_sound : (S : State) (e : Entry) (numbers : List Fd) (leads : List Lead) → map (λ (x : Fd). x.0) numbers ≡ shown e.request e.reply →
    leads ≡ filter_map (lead_of S e.pid.0) numbers → AreOfNumbers S e leads
leads_sound S e numbers leads shows is boot entries j i l legal stands at =
    let f = found (lead_of S e.pid.0) numbers l i (ap (λ (ls : List Lead). slice_get ls i) (sym is) ∙ at) in
    let parts = of_option (description_of S e.pid.0 f.fd.0) f.fd l f.leads in
    let number : slice_get (given (before boot entries j) e.pid.0 e.request e.reply) f.place ≡ Some l.fd.0 =
    ap (λ (ns : List ℕ). slice_get ns f.place) (sym (shows ∙ shown_given boot entries j e legal stands)) ∙ number_at numbers f.place f.fd f.stands
    ∙ ap (λ (x : Fd). Some x.0) (sym parts.0) in (
      place_member (given (before boot entries j) e.pid.0 e.request e.reply) l.fd.0 f.place number,
      ap (λ (x : Fd). description_of S e.pid.0 x.0) parts.0 ∙ parts.1,
    )

pub leads_complete : (S : State) (e : Entry) (numbers : List Fd) (leads : List Lead) → map (λ (x : Fd). x.0) numbers ≡ shown e.request e.reply →
    leads ≡ filter_map (lead_of S e.pid.0) numbers → HasEachNumber S e leads
leads_complete S e numbers leads shows is boot entries j n d legal stands live among there =
    let p = member_place (given (before boot entries j) e.pid.0 e.request e.reply) n among in
    let at = fd_at numbers p.0 n (ap (λ (ns : List ℕ). slice_get ns p.0) (shows ∙ shown_given boot entries j e legal stands) ∙ p.1) in
    let l = listed (lead_of S e.pid.0) numbers p.0 (record { 0 = n }) (with_description (record { 0 = n }) d) at
    (ap (option_map (with_description (record { 0 = n }))) there) in
    (l.0, ap (λ (ls : List Lead). slice_get ls l.0) is ∙ l.1)

-- of a process that doesn't live nothing is listed
pub none_sound : (S : State) (e : Entry) → AreOfNumbers S e []
none_sound S e boot entries j i l legal stands at = absurd (cc at)

pub none_complete : (S : State) (e : Entry) → is_live S e.pid.0 ≡ false → HasEachNumber S e []
none_complete S e dead boot entries j n d legal stands live among there = let both : true ≡ false = sym live ∙ dead in absurd (cc both)
