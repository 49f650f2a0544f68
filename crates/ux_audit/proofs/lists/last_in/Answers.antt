use Rattle.std.proofs.Common.{ℕ, List, MatchOption, sym, ◌∙◌, subst, arith}
use Rattle.ux_audit.specs.Givers.{items_at, Rises, NoneBelow, IsLastBelow}
use Rattle.ux_audit.proofs.Rows.{items_at-read, items_past}
use Rattle.ux_audit.proofs.Placing.{none_below}
use Rattle.ux_audit.proofs.lists.last_in.Goals as goal

pub last_below-requires : goal.last_below-requires
last_below-requires c = record {
  rising = subst Rises (sym (c.as_slice.ensures.value
      ∙ items_at-read c.args.lists.now c.args.n c.index-lists-n.result (omega arith) c.index-lists-n.is)) c.requires.rising;
}

pub returns-then-n-lists : goal.returns-then-n-lists
returns-then-n-lists c = none_below c.args.until (items_at c.args.lists.now c.args.n) (items_past c.args.lists.now c.args.n (omega arith))

pub returns : goal.returns
returns c =
    subst (λ (xs : List ℕ). MatchOption c.last_below.result (NoneBelow c.args.until xs) (IsLastBelow c.args.until xs))
    (c.as_slice.ensures.value ∙ items_at-read c.args.lists.now c.args.n c.index-lists-n.result (omega arith) c.index-lists-n.is)
    c.last_below.ensures
