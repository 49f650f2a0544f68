-- Lemmas on lists of names.
use Rattle.std.proofs.Common.{◌≡◌, ◌≢◌, Bool, true, false, cond, List, [], ◌∷◌, ◌++◌, Some, None, inl, inr, refl, ap, sym, ◌∙◌, ◌⊎◌}
use Rattle.std.specs.Prelude.{is_some, ◌||◌}
use Rattle.std.proofs.lemmas.Slice.Eq.{bytes_eq-Decides}
use Rattle.std.proofs.lemmas.Bool.{cases_Bool}
use Rattle.ux_model.specs.Types.{Name}
use Rattle.ux_model.specs.Names.{same_name, named, without_name}

-- ---- names are the same where their bytes are

pub same_name_tells : (a b : Name) → ((same_name a b ≡ true) × (a ≡ b)) ⊎ ((same_name a b ≡ false) × (a ≢ b))
same_name_tells a b = elim (cases_Bool (same_name a b)) [
  | inl same ↦ inl (same, (bytes_eq-Decides a b).0 same)
  | inr apart ↦ inr (apart, λ e. let clash : false ≡ true = sym apart ∙ (bytes_eq-Decides a b).1 e in absurd (cc clash))
]

pub same_name_at : (a b : Name) → a ≡ b → same_name a b ≡ true
same_name_at a b e = (bytes_eq-Decides a b).1 e

same_name_apart : (a b : Name) → a ≢ b → same_name a b ≡ false
same_name_apart a b apart = elim (same_name_tells a b) [ inl same ↦ absurd (apart same.1) | inr away ↦ away.0 ]

pub same_name_sym : (a b : Name) → same_name a b ≡ same_name b a
same_name_sym a b = elim (same_name_tells a b) [
  | inl same ↦ same.0 ∙ sym (same_name_at b a (sym same.1))
  | inr apart ↦ apart.0 ∙ sym (same_name_apart b a (λ e. apart.1 (sym e)))
]

module _ {X : Type 0} where
  -- ---- a further name

  appended : (name other : Name) (x : X) (es : List (Name × X)) →
      is_some (named other (es ++ (name, x) ∷ [])) ≡ (is_some (named other es) || same_name name other)
  appended name other x [] = elim (cases_Bool (same_name name other)) [ inl same ↦ rw same refl | inr apart ↦ rw apart refl ]
  appended name other x (e ∷ es) = elim (cases_Bool (same_name e.0 other))
      [ inl same ↦ rw same refl | inr apart ↦ rw apart (appended name other x es) ]

  pub named_appended : (name : Name) (x : X) (es : List (Name × X)) → is_some (named name (es ++ (name, x) ∷ [])) ≡ true
  named_appended name x es = appended name name x es ∙ rw (same_name_at name name refl) (either (is_some (named name es)))
    where
      either : (b : Bool) → (b || true) ≡ true
      either true = refl
      either false = refl

  pub other_appended : (name other : Name) (x : X) (es : List (Name × X)) → other ≢ name →
      is_some (named other (es ++ (name, x) ∷ [])) ≡ is_some (named other es)
  other_appended name other x es apart = appended name other x es
      ∙ rw (same_name_apart name other (λ e. apart (sym e))) (either (is_some (named other es)))
    where
      either : (b : Bool) → (b || false) ≡ b
      either true = refl
      either false = refl

  -- ---- a name less

  pub named_without : (name : Name) (es : List (Name × X)) → named name (without_name name es) ≡ None
  named_without name [] = refl
  named_without name (e ∷ es) = elim (cases_Bool (same_name e.0 name))
      [ inl same ↦ rw same (named_without name es) | inr apart ↦ rw (apart, apart) (named_without name es) ]

  pub other_without : (name other : Name) (es : List (Name × X)) → other ≢ name → named other (without_name name es) ≡ named other es
  other_without name other [] apart = refl
  other_without name other (e ∷ es) apart = elim (same_name_tells e.0 name) [
    | inl same ↦ rw (same.0, same_name_apart e.0 other (λ s. apart (sym s ∙ same.1))) (other_without name other es apart)
    | inr away ↦ rw away.0 (ap (λ o. cond (same_name e.0 other) (Some e.1) o) (other_without name other es apart))
  ]

  -- without a name that isn't listed
  pub nothing_without : (name : Name) (es : List (Name × X)) → named name es ≡ None → without_name name es ≡ es
  nothing_without name [] absent = refl
  nothing_without name (e ∷ es) absent = elim (cases_Bool (same_name e.0 name)) [
    | inl same ↦ let clash : Some e.1 ≡ None = rw same at absent in absurd (cc clash)
    | inr apart ↦ let rest : named name es ≡ None = rw apart at absent in rw apart (ap (λ ys. e ∷ ys) (nothing_without name es rest))
  ]
