-- What is freed at the end of a call was there before it.
use Rattle.std.proofs.Common.{◌≡◌, ℕ, zero, suc, Bool, true, false, if◌then◌else◌, List, length}
use Rattle.std.proofs.Common.{Option, Some, None, refl, ap, sym, ◌∙◌, ◌+◌, arith}
use Rattle.ux_model.specs.Types.{Request, Reply}
use Rattle.ux_model.specs.Places.{place}
use Rattle.ux_model.specs.Object.{Body, View}
use Rattle.ux_model.specs.State.{State}
use Rattle.ux_model.specs.Release.{without, is_orphan, drop_all, drop_rounds, drop_unreferenced, has_unreferenced, settled}
use Rattle.ux_model.specs.Step.{Step, outcome}
use Rattle.ux_model.proofs.Releasing.ReleaseLaws.{place-map}
use Rattle.ux_model.proofs.Steps.Calls.{each_obeys}
use Rattle.ux_laws.specs.Files.{body_in, body_at}
use Rattle.ux_laws.proofs.Touching.Tables.{FilesAlike, files_alike}
use Rattle.ux_laws.proofs.Touching.Calls.{Files, each_files, chosen_files}

rounds_alike : (n : ℕ) (S : State) → FilesAlike S (drop_rounds n S)
unfolding drop_rounds without
rounds_alike zero S = files_alike refl refl
rounds_alike (suc n) S = go (rounds_alike n (drop_all S)) (has_unreferenced S)
  where
    go : FilesAlike (drop_all S) (drop_rounds n (drop_all S)) → (b : Bool) →
        FilesAlike S (elim b as (λ _. State) [ true ↦ drop_rounds n (drop_all S) | false ↦ S ])
    go rest true = files_alike rest.objects rest.paths
    go rest false = files_alike refl refl

settled_paths : (S : State) → (settled S).paths ≡ S.paths
unfolding settled drop_unreferenced
settled_paths S = (rounds_alike (length S.descriptions) S).paths

-- what is left of a file object was in it
pub settled_body : (S : State) (o : ℕ) (body : Body) → body_at (settled S) o ≡ Some body → body_at S o ≡ Some body
unfolding settled drop_unreferenced
settled_body S o body h =
    let U : State = drop_rounds (length S.descriptions) S in
    let at : 0 + o ≡ o = omega arith in
    let left : place (settled S).objects o ≡ (if is_orphan U (0 + o, place U.objects o) then None else place U.objects o) =
    place-map (λ e. if is_orphan U e then None else e.1) (λ i. none (is_orphan U (i, None))) 0 o U.objects in
    ap body_in (ap (λ (os : List (Option View)). place os o) (sym (rounds_alike (length S.descriptions) S).objects))
    ∙ kept (is_orphan U (0 + o, place U.objects o)) (place U.objects o) (sym (ap body_in left) ∙ h)
  where
    none : (b : Bool) → ◌≡◌ {A = Option View} (if b then None else None) None
    none true = refl
    none false = refl

    kept : (b : Bool) (x : Option View) → body_in (if b then None else x) ≡ Some body → body_in x ≡ Some body
    kept true x h = absurd (cc h)
    kept false x h = h

pub step_files : (S T : State) (p tag : ℕ) (request : Request) (reply : Reply) (gone : List ℕ) → Step S p tag request reply gone T →
    (U : State) × Files S p request U × ((o : ℕ) (body : Body) → body_at T o ≡ Some body → body_at U o ≡ Some body) × (T.paths ≡ U.paths)
unfolding Step
step_files S T p tag request reply gone s = (
  s.0,
  chosen_files S s.0 p request reply (outcome S p tag request) (each_files S p tag request) (each_obeys S p tag request) s.1,
  (λ o body h. settled_body s.0 o body (ap (λ (V : State). body_at V o) (sym s.3) ∙ h)),
  ap (λ (V : State). V.paths) s.3 ∙ settled_paths s.0,
)
