-- The member of a descriptor among those of a call's fields.
use Rattle.std.proofs.Common.{◌≡◌, ℕ, Bool, true, false, ◌&&◌, not, List, [], ◌∷◌, Option, Some, None, codes, map, refl, sym, ap, ◌∙◌, subst}
use Rattle.std.specs.Prelude.{option_map}
use Rattle.std.specs.List.{list_all}
use Rattle.std.specs.Str.{bytes_eq}
use Rattle.std.proofs.lemmas.Bool.{and_parts, not-true}
use Rattle.std.proofs.lemmas.Slice.Eq.{bytes_eq-Decides}
use Rattle.serde_json.specs.Data.{Data, number, unsigned, object, Members, no_members, put}
use Rattle.serde_json.specs.Find.{get, get_member}
use Rattle.serde_json.proofs.Views.{get_member-put, get_member-put_other}
use Rattle.ux_model.specs.Types.{Request}
use Rattle.ux_fields.specs.declared.FieldForm.{FieldForm}
use Rattle.ux_fields.specs.declared.FieldKind.{FieldKind}
use Rattle.ux_fields.specs.Rows.{FieldValue, fd_field, fields_of}
use Rattle.ux_json.specs.Arguments.{first_descriptor, descriptor_of, IsDataOf, HasAdded, names_of, HasArguments}

-- none of the names is `fd`
abbrev others : List (List ℕ) → Bool
others names = list_all (λ name. not (bytes_eq (codes "fd") name)) names

-- where the first field is a descriptor its name is `fd`, and no other has this name
abbrev leads : List (List ℕ) → List FieldValue → Bool
leads [] [] = true
leads [] (field ∷ fields) = false
leads (name ∷ names) [] = others (name ∷ names)
leads (name ∷ names) (fd_field fd ∷ fields) = bytes_eq name (codes "fd") && others names
leads (name ∷ names) (field ∷ fields) = others (name ∷ names)

-- the last line stands for each other call
each_leads : (r : Request) → leads (names_of r) (fields_of r) ≡ true
each_leads Request.Off = refl
each_leads r = refl

other_name : (name : List ℕ) → bytes_eq (codes "fd") name ≡ false → codes "fd" ≡ name → ⊥
other_name name h same = absurd (differs (bytes_eq (codes "fd") name) h ((bytes_eq-Decides (codes "fd") name).1 same))
  where
    differs : (b : Bool) → b ≡ false → b ≡ true → ⊥
    differs b f t = cc

-- other members leave it
left : (names : List (List ℕ)) (fields : List FieldValue) (before after : Members) → others names ≡ true → HasAdded names fields before after →
    get_member (codes "fd") after ≡ get_member (codes "fd") before
left [] fields before after h added = ap (get_member (codes "fd")) added
left (name ∷ names) [] before after h added = ap (get_member (codes "fd")) added
left (name ∷ names) (field ∷ fields) before after h added =
    let p = and_parts (not (bytes_eq (codes "fd") name)) (others names) h in
    left names fields (put name added.0 before) after p.1 added.2
    ∙ get_member-put_other (codes "fd") name added.0 before (other_name name (not-true (bytes_eq (codes "fd") name) p.0))

pub led : (names : List (List ℕ)) (fields : List FieldValue) (after : Members) → leads names fields ≡ true →
    HasAdded names fields no_members after → get_member (codes "fd") after ≡ option_map (λ n. number (unsigned n)) (first_descriptor fields)
led [] [] after h added = left [] [] no_members after h added
led [] (field ∷ fields) after h added = absurd cc
led (name ∷ names) [] after h added = left (name ∷ names) [] no_members after h added
led (name ∷ names) (fd_field fd ∷ fields) after h added =
    let p = and_parts (bytes_eq name (codes "fd")) (others names) h in
    let same : name ≡ codes "fd" = (bytes_eq-Decides name (codes "fd")).0 p.0 in
    left names fields (put name added.0 no_members) after p.1 added.2
    ∙ ap (λ (key : List ℕ). get_member (codes "fd") (put key added.0 no_members)) same
    ∙ get_member-put (codes "fd") added.0 no_members ∙ ap (λ (d : Data). Some d) added.1
led (name ∷ names) (field ∷ fields) after h added = left (name ∷ names) (field ∷ fields) no_members after h added

pub descriptor_found : (r : Request) (v : Data) → HasArguments r v →
    get (codes "fd") v ≡ option_map (λ n. number (unsigned n)) (descriptor_of r)
descriptor_found r v has = ap (get (codes "fd")) has.1 ∙ led (names_of r) (fields_of r) has.0 (each_leads r) has.2

-- ---- what was added to an empty object

abbrev pub row_of : FieldForm → List ℕ × List ℕ × FieldKind
row_of form = (form.name.now, form.sign.now, form.kind)

abbrev pub name_of : List ℕ × List ℕ × FieldKind → List ℕ
name_of row = row.0

pub named : (forms : List FieldForm) → map (λ f. f.name.now) forms ≡ map name_of (map row_of forms)
named [] = refl
named (form ∷ forms) = ap (λ (names : List (List ℕ)). form.name.now ∷ names) (named forms)

pub added_are : (given names : List (List ℕ)) (lent fields : List FieldValue) (before after : Members) → given ≡ names → lent ≡ fields →
    before ≡ no_members → HasAdded given lent before after → HasAdded names fields no_members after
added_are given names lent fields before after g l b added =
    subst (λ (x : Members). HasAdded names fields x after) b
    (subst (λ (x : List FieldValue). HasAdded names x before after) l (subst (λ (x : List (List ℕ)). HasAdded x lent before after) g added))
