-- What a call may change of the file objects: such as a process holds open, also after it.
use Rattle.std.proofs.Common.{◌≡◌, ◌⊎◌, inl, inr, ℕ, zero, suc, List, Option, Some, None, refl, ap, subst}
use Rattle.std.proofs.lemmas.List.{get_or-set_same}
use Rattle.ux_model.specs.Places.{place}
use Rattle.ux_model.specs.Object.{View}
use Rattle.ux_model.specs.Description.{Description, to_object}
use Rattle.ux_model.specs.Process.{Process, Descriptor}
use Rattle.ux_model.specs.State.{State, description_at, process_at, table_of, with_object, with_description, with_process, with_table}
use Rattle.ux_model.proofs.Lists.ChangedPlaces.{place_within}
use Rattle.ux_model.proofs.Lists.OnePlace.{at_each}

-- a process has a descriptor that leads to the file object
pub record IsHeldOpen (S : State) (o : ℕ) : Type 0 where
  pub process : ℕ
  pub number : ℕ
  pub entry : Descriptor
  pub description : Description
  pub named : place (table_of S process) number ≡ Some entry
  pub there : description_at S entry.description ≡ Some description
  pub leads : description.target ≡ to_object o

-- each file object is as it was, or held open
abbrev pub KeepsObjects : State → State → Type 0
KeepsObjects S T = (o : ℕ) → (place T.objects o ≡ place S.objects o) ⊎ IsHeldOpen T o

pub same_objects : (S T : State) → T.objects ≡ S.objects → KeepsObjects S T
same_objects S T same o = inl (ap (λ (os : List (Option View)). place os o) same)

-- one that is held open may change
pub held_changed : (S T : State) (o : ℕ) (new : View) → T.objects ≡ S.objects → IsHeldOpen T o → KeepsObjects S (with_object T o new)
held_changed S T o new same held k =
    at_each (λ x. (x ≡ place S.objects k) ⊎ IsHeldOpen (with_object T o new) k) T.objects o k (Some new)
    (inl (ap (λ (os : List (Option View)). place os k) same))
    (λ e was. inr (subst (IsHeldOpen (with_object T o new)) e still_held))
  where
    still_held : IsHeldOpen (with_object T o new) o
    still_held = record {
      process = held.process;
      number = held.number;
      entry = held.entry;
      description = held.description;
      named =
          held.named;
      there = held.there;
      leads = held.leads;
    }

-- and is held open by its description, if that leads there still
pub held_by_changed : (S : State) (o : ℕ) (held : IsHeldOpen S o) (E : Description) → E.target ≡ to_object o →
    IsHeldOpen (with_description S held.entry.description E) o
held_by_changed S o held E leads = record {
  process = held.process;
  number = held.number;
  entry = held.entry;
  description = E;
  named = held.named;
  there = get_or-set_same S.descriptions held.entry.description (Some E) None
      (place_within S.descriptions held.entry.description held.description held.there);
  leads = leads;
}

-- ---- what changes none

pub with_process_objects : (S : State) (p : ℕ) (P : Process) → (with_process S p P).objects ≡ S.objects
with_process_objects S zero P = refl
with_process_objects S (suc i) P = refl

pub with_table_objects : (S : State) (p : ℕ) (table : List (Option Descriptor)) → (with_table S p table).objects ≡ S.objects
with_table_objects S p table = go (process_at S p)
  where
    go : (x : Option Process) → (elim x as (λ _. State) [ Some P ↦ with_process S p (record P { table = table }) | None ↦ S ]).objects ≡
        S.objects
    go None = refl
    go (Some P) = with_process_objects S p (record P { table = table })
