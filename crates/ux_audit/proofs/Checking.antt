-- A chain is the pedigree exactly if it is the one that is found.
use Rattle.std.proofs.Common.{◌≡◌, ◌↔◌, ℕ, suc, ◌<◌, Bool, List, [], ◌∷◌, length, Option, None, Some, is_some, IsTrue, IsSomeAnd, IfSome}
use Rattle.std.proofs.Common.{refl, ap, ◌∙◌, subst, arith, slice_get}
use Rattle.std.proofs.lemmas.Bool.{false≢true}
use Rattle.ux_model.specs.Types.{Entry, Link}
use Rattle.ux_model.specs.State.{State}
use Rattle.ux_model.specs.History.{replay, IsLegal}
use Rattle.ux_model.specs.Giving.{is_held}
use Rattle.ux_model.specs.Pedigree.{IsPedigree}
use Rattle.ux_model.proofs.Pedigrees.OneChain.{chain_is_one}
use Rattle.ux_model.proofs.Pedigrees.OneDescription.{pedigree_is_held}
use Rattle.ux_audit.specs.declared.chain.Chain.{Chain}

pub lists_same : {X : Type 0} (xs ys : List X) → length xs ≡ length ys → ((k : ℕ) → k < length xs → slice_get xs k ≡ slice_get ys k) →
    xs ≡ ys
lists_same [] [] n each = refl
lists_same [] (y ∷ ys) n each = absurd (omega (arith, n))
lists_same (x ∷ xs) [] n each = absurd (omega (arith, n))
lists_same (x ∷ xs) (y ∷ ys) n each =
    let heads : Some x ≡ Some y = each 0 (omega arith) in
    let head : x ≡ y = cc heads in
    let tails = lists_same xs ys (omega (arith, n)) (λ k h. each (suc k) (omega (arith, h))) in
    ap (λ z. z ∷ xs) head ∙ ap (λ l. y ∷ l) tails

pub found_alone : (boot : State) (es : List Entry) (found : Option Chain) (chain : Chain) (p n : ℕ) (told : Bool) → IsLegal boot es →
    IfSome found (λ own. IsPedigree boot es own.links.items p n) → is_some found ≡ is_held (replay boot es) p n →
    IsTrue told ↔ IsSomeAnd found (λ own. own.links.items ≡ chain.links.items) → IsTrue told ↔ IsPedigree boot es chain.links.items p n
found_alone boot es None chain p n told legal own held is =
    (λ t. absurd (is.0 t), λ x. absurd (false≢true (held ∙ pedigree_is_held boot es chain.links.items p n legal x)))
found_alone boot es (Some c) chain p n told legal own held is = (
  λ t. subst (λ (l : List Link). IsPedigree boot es l p n) (is.0 t) own,
  λ x. is.1 (chain_is_one boot es p n c.links.items chain.links.items legal own x),
)
