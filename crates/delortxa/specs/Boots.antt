-- What a layer is to start with.
use Rattle.std.specs.Prelude.{ℕ, List, ◌++◌, ◌∷◌, []}
use Rattle.ux_types.specs.declared.limits.ObjectLimit.{ObjectLimit}
use Rattle.ux_model.specs.Types.{ProcSpec}
use Rattle.ux_model.specs.Object.{View, new_view}
use Rattle.ux_object.specs.declared.ObjKind.{ObjKind}
use Rattle.ux_objects.specs.Failing.{first_body}

-- file objects, each under its path; which read or write of each fails, counted from 1, or 0; how many of them there may be; and processes
pub record Plan : Type 0 where
  pub objects : List (List ℕ × View)
  pub failures : List ℕ
  pub most : ObjectLimit
  pub processes : List ProcSpec

-- with one more object of this kind, which was just made, and whose nth read or write fails
abbrev pub with_object : Plan → List ℕ → ObjKind → List ℕ → ℕ → Plan
with_object plan path kind bytes n = record plan {
  objects = plan.objects ++ (path, new_view (first_body kind bytes)) ∷ [];
  failures = plan.failures ++ n ∷ [];
}

-- with more objects than is usual
abbrev pub with_raised_limit : Plan → Plan
with_raised_limit plan = record plan { most = ObjectLimit.Raised }

-- with one more process
abbrev pub with_process : Plan → ProcSpec → Plan
with_process plan spec = record plan { processes = plan.processes ++ spec ∷ [] }

-- with these processes in place of its own
abbrev pub with_processes : Plan → List ProcSpec → Plan
with_processes plan processes = record plan { processes = processes }
