use Rattle.std.proofs.Common.{◌≡◌, ◌∷◌, rules}
use Rattle.ux_model.specs.Limits.{table_limit}
use Rattle.ux_fdtable.proofs.Installing.{parts_below, both_below, some_left, reach_more, still_reaching}
use Rattle.ux_fdtable.proofs.table.reach_all.Goals as goal

pub reach-requires : goal.reach-requires
reach-requires c = (parts_below table_limit c.loop-fd.left.now c.in-Some.fd.now c.in-Some.behind.now (search rules)
    (c.loop-fd.invariant.of_all table_limit c.requires)).0

pub returns-in_err-reach-clause-kept : goal.returns-in_err-reach-clause-kept
returns-in_err-reach-clause-kept c = still_reaching _ _ _ _ c.loop-fd.invariant.kept (search rules)

pub returns-in_err-reach-clause-none : goal.returns-in_err-reach-clause-none
returns-in_err-reach-clause-none c = λ none.
    some_left c.loop-fd.left.now c.in-Some.fd.now c.in-Some.behind.now (search rules) (c.loop-fd.invariant.none none)

pub loop-fd-preserved : goal.loop-fd-preserved
loop-fd-preserved c =
    let is : c.loop-fd.left.now ≡ c.in-Some.fd.now ∷ c.in-Some.behind.now = search rules in
    record {
      of_all = λ limit fits. (parts_below limit c.loop-fd.left.now c.in-Some.fd.now c.in-Some.behind.now is
          (c.loop-fd.invariant.of_all limit fits)).1;
      reached = λ limit long rest.
          let here = c.reach.ensures.reached in
          c.loop-fd.invariant.reached limit (search rules)
          (both_below limit c.loop-fd.left.now c.in-Some.fd.now c.in-Some.behind.now is (search rules) rest);
      none = λ none. some_left c.loop-fd.left.now c.in-Some.fd.now c.in-Some.behind.now is (c.loop-fd.invariant.none none);
      kept = reach_more c.in-Some.fd.now.0 _ _ _ _
          (λ limit fits. (parts_below limit c.loop-fd.left.now c.in-Some.fd.now c.in-Some.behind.now is
          (c.loop-fd.invariant.of_all limit fits)).0) c.loop-fd.invariant.kept (search rules);
    }
