-- Names in order of binding, each with what it names.
use Rattle.std.specs.Prelude.{ℕ, List, refl}
use Rattle.std.specs.Coded.{Coded, code_by, coded×, coded_ℕ, coded_list}
use Rattle.ux_model.specs.Types.{Name}

pub record Listed (X : Type 0) : Type 0 where
  pub names : List (Name × X)
  -- how many more names can be bound without memory
  pub room : ℕ

abbrev pub listed_code : {X : Type 0} → Coded X → Coded (Listed X)
listed_code {X} code =
    code_by
    (List (List ℕ × X) × ℕ)
    (coded× (coded_list (coded× (coded_list coded_ℕ) code)) coded_ℕ)
    (λ l. (l.names, l.room))
    (λ p. record { names = p.0; room = p.1 })
    (λ _. refl)
