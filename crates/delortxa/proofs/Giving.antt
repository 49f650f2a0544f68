-- Bytes that are given whole, call by call.
use Rattle.std.proofs.Common.{◌≡◌, ◌+◌, ◌-◌, ◌≤◌, ℕ, zero, suc, List, [], Some, length, drop, min, refl, ap, subst, ◌∙◌, arith}
use Rattle.std.proofs.lemmas.List.{drop_min, length-drop}
use Rattle.ux_model.specs.Types.{Request, Reply}
use Rattle.ux_book.specs.declared.fault.CallFault.{CallFault}
use Rattle.delortxa.specs.declared.whole.Unfinished.{Unfinished}
use Rattle.delortxa.specs.Giving.{Takes, TakesNone, EndsEarly, AfterFirst, EndsEarlyAfter, at_first, later}
use Rattle.delortxa.specs.declared.fault.CallError.{CallError}
use Rattle.delortxa.specs.Answering.{Fails}

module _ {C S : Type 0} (did : C → S → S → Request → Reply → Type 0) (unmade : C → S → Request → CallFault → Type 0) (who : C)
    (ask : List ℕ → Request) (bytes : List ℕ) where
  -- no call was made
  pub starts : (old : S) → (k : ℕ) × Takes did who ask bytes k bytes old old
  starts old = (zero, (refl, refl))

  -- one more
  pub goes_on : (left rest : List ℕ) (old mid new : S) (taken : ℕ) → (k : ℕ) × Takes did who ask bytes k left old mid →
      length left ≤ length bytes →
      did who mid new (ask left) (Reply.Count taken) → rest ≡ drop (min taken (length left)) left →
      ((k : ℕ) × Takes did who ask bytes k rest old new) × (length rest ≤ length bytes)
  goes_on left rest old mid new taken so_far within made is =
      let short = ap length is ∙ length-drop (min taken (length left)) left in
      ((suc so_far.0, (left, mid, taken, so_far.1, made, is ∙ drop_min taken left)), omega (arith, short, within))

  -- one that took none
  pub ends_early : (left : List ℕ) (old mid new : S) (u : Unfinished) → (k : ℕ) × Takes did who ask bytes k left old mid →
      length left ≤ length bytes →
      u.taken ≡ length bytes - length left → TakesNone did unmade who mid new (ask left) u.error →
      EndsEarly did unmade who ask bytes old new u
  ends_early left old mid new u so_far within count none =
      record { calls = so_far.0; left = left; mid = mid; took = so_far.1; count = omega (arith, within, count); last = none }

  -- one call before them, which passed something
  module _ (first : Request) where
    pub first_failed : (old new : S) (u : Unfinished) (error : CallError) → u.taken ≡ 0 → u.error ≡ Some error →
        Fails did unmade who old new first error →
        EndsEarlyAfter did unmade who first ask bytes old new u
    first_failed old new u error none is failed = at_first error none is failed

    pub all_after : (old mid new : S) (taken : ℕ) (left : List ℕ) → did who old mid first (Reply.Count taken) →
        left ≡ drop (min taken (length bytes)) bytes →
        (k : ℕ) × Takes did who ask left k [] mid new →
        AfterFirst did who first bytes old (λ mid left. (k : ℕ) × Takes did who ask left k [] mid new)
    all_after old mid new taken left made is rest =
        (mid, taken, made, subst (λ (l : List ℕ). (k : ℕ) × Takes did who ask l k [] mid new) (is ∙ drop_min taken bytes) rest)

    pub early_after : (old mid new : S) (taken : ℕ) (left : List ℕ) (u v : Unfinished) → did who old mid first (Reply.Count taken) →
        left ≡ drop (min taken (length bytes)) bytes → EndsEarly did unmade who ask left mid new v → u.error ≡ v.error →
        u.taken ≡ length bytes - length left + v.taken → length left ≤ length bytes →
        EndsEarlyAfter did unmade who first ask bytes old new u
    early_after old mid new taken left u v made is ends same count within = later (
      mid,
      taken,
      made,
      subst (λ (l : List ℕ). (w : Unfinished) × EndsEarly did unmade who ask l mid new w × (u.error ≡ w.error)
          × (u.taken + length l ≡ length bytes + w.taken))
          (is ∙ drop_min taken bytes) (v, ends, same, omega (arith, count, within)),
    )
