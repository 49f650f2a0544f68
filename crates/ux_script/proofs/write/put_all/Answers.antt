use Rattle.std.proofs.Common.{◌++◌, take, refl}
use Rattle.ux_script.proofs.Traces.{appends_then, rest_split}
use Rattle.ux_script.proofs.write.put_all.Goals as goal

pub loop-rest-preserved : goal.loop-rest-preserved
loop-rest-preserved g c =
    let so_far = c.loop-rest.invariant in
    let rest = c.loop-rest.rest.now in
    let n = c.in_ok-count.count in (
      so_far.0 ++ take n rest,
      rest_split _ so_far.0 rest n so_far.1,
      appends_then _ _ _ so_far.0 (take n rest) (so_far.0 ++ take n rest) so_far.2 c.in_ok-count.ensures.ok refl,
    )
