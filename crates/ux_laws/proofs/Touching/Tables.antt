-- A change of a table leaves file objects, paths and names as they were.
use Rattle.std.proofs.Common.{◌≡◌, ℕ, zero, suc, List, Option, Some, None, refl}
use Rattle.ux_model.specs.Process.{Process, Descriptor}
use Rattle.ux_model.specs.State.{State, process_at, with_process, with_table}
use Rattle.ux_model.proofs.Changes.HeldOpen.{with_table_objects}

pub record Alike (S U : State) : Type 0 where
  pub objects : U.objects ≡ S.objects
  pub paths : U.paths ≡ S.paths
  pub abstracts : U.abstract_names ≡ S.abstract_names

-- where names of the abstract namespace may differ
pub record FilesAlike (S U : State) : Type 0 where
  pub objects : U.objects ≡ S.objects
  pub paths : U.paths ≡ S.paths

pub files_alike : {S U : State} → U.objects ≡ S.objects → U.paths ≡ S.paths → FilesAlike S U
files_alike h k = record { objects = h; paths = k }

with_process_abstracts : (S : State) (p : ℕ) (P : Process) → (with_process S p P).abstract_names ≡ S.abstract_names
with_process_abstracts S zero P = refl
with_process_abstracts S (suc i) P = refl

with_process_paths : (S : State) (p : ℕ) (P : Process) → (with_process S p P).paths ≡ S.paths
with_process_paths S zero P = refl
with_process_paths S (suc i) P = refl

pub table_alike : (S : State) (p : ℕ) (table : List (Option Descriptor)) → Alike S (with_table S p table)
table_alike S p table = record { objects = with_table_objects S p table; paths = go (process_at S p); abstracts = names (process_at S p) }
  where
    names : (x : Option Process) → (elim x as
        (λ _. State) [ Some P ↦ with_process S p (record P { table = table }) | None ↦ S ]).abstract_names ≡ S.abstract_names
    names None = refl
    names (Some P) = with_process_abstracts S p (record P { table = table })

    go : (x : Option Process) → (elim x as (λ _. State) [ Some P ↦ with_process S p (record P { table = table }) | None ↦ S ]).paths ≡
        S.paths
    go None = refl
    go (Some P) = with_process_paths S p (record P { table = table })
