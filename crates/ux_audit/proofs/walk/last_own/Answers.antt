use Rattle.std.proofs.Common.{ℕ, List, MatchOption, ap, sym, ◌∙◌, subst, arith}
use Rattle.std.specs.Global.{Vec}
use Rattle.ux_audit.specs.Givers.{items_at, places_at, Rises, NoneBelow, IsLastBelow}
use Rattle.ux_audit.proofs.Rows.{items_at-read, items_past}
use Rattle.ux_audit.proofs.Placing.{none_below}
use Rattle.ux_audit.proofs.walk.last_own.Goals as goal

pub last_in-requires : goal.last_in-requires
last_in-requires c = record {
  rising = subst (λ (xs : List (Vec ℕ)). Rises (items_at xs c.args.fd.0))
      (sym (c.as_slice.ensures.value ∙ items_at-read c.args.rows.now c.args.pid.0 c.index-rows-p.result (omega arith) c.index-rows-p.is))
      c.requires.rising;
}

pub returns-then-p-rows : goal.returns-then-p-rows
returns-then-p-rows c =
    none_below c.args.until (places_at c.args.rows.now c.args.pid.0 c.args.fd.0)
    (ap (λ (xs : List (Vec ℕ)). items_at xs c.args.fd.0) (items_past c.args.rows.now c.args.pid.0 (omega arith)))

pub returns : goal.returns
returns c =
    subst (λ (xs : List (Vec ℕ)). MatchOption c.last_in.result (NoneBelow c.args.until (items_at xs c.args.fd.0))
    (IsLastBelow c.args.until (items_at xs c.args.fd.0)))
    (c.as_slice.ensures.value ∙ items_at-read c.args.rows.now c.args.pid.0 c.index-rows-p.result (omega arith) c.index-rows-p.is)
    c.last_in.ensures
