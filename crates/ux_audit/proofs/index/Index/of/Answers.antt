use Rattle.std.proofs.Common.{◌≡◌, ℕ, suc, ◌+◌, List, length, take, refl, subst, arith}
use Rattle.std.proofs.lemmas.List.{take_all}
use Rattle.std.proofs.lemmas.Option.{slice_get_read}
use Rattle.ux_model.specs.Types.{Entry}
use Rattle.ux_model.specs.History.{replay}
use Rattle.ux_model.specs.Pedigree.{before}
use Rattle.ux_model.proofs.Pedigrees.Moments.{moment}
use Rattle.ux_audit.specs.Flags.{AreFlags}
use Rattle.ux_audit.specs.Givers.{AreGivers}
use Rattle.ux_audit.proofs.Reported.{shown_given}
use Rattle.ux_audit.proofs.Following.{marks_follow, marks_none, small_none}
use Rattle.ux_audit.proofs.Placing.{givers_more, givers_none}
use Rattle.ux_audit.proofs.Walking.{boot_empty}
use Rattle.ux_audit.proofs.index.Index.of.Goals as goal

pub loop-place-init : goal.loop-place-init
loop-place-init c = record {
  givers = givers_none c.args.entries.now c.new.result.items c.new-2.result.items c.new.ensures.items c.new-2.ensures.items;
  flags = λ boot legal. marks_none boot c.new-3.result.items c.new-3.ensures.items (λ p n. boot_empty boot p n legal.boots);
  small = small_none c.new-3.result.items c.new-3.ensures.items;
}

pub loop-place-preserved : goal.loop-place-preserved
loop-place-preserved c =
    let es = c.args.entries.now in
    let i = c.loop-place.place in
    let e = c.index-entries-place.result in
    let at = slice_get_read es (length es) i e refl (omega arith) c.index-entries-place.is in
    let next : suc i ≡ i + 1 = omega arith in
    record {
      givers = subst (λ (k : ℕ). AreGivers es k c.follow.new.self.births.items c.follow.new.self.rows.items) next
          (givers_more es i e c.loop-place.index.births.items c.follow.new.self.births.items c.loop-place.index.rows.items
          c.follow.new.self.rows.items at
          c.in_ok-follow.ensures.births c.in_ok-follow.ensures.rows c.loop-place.invariant.givers);
      flags = λ boot legal. subst (λ (k : ℕ). AreFlags (replay boot (take k es)) c.follow.new.self.tables.items) next
          (marks_follow (before boot es i) (before boot es (suc i)) e c.loop-place.index.tables.items c.follow.new.self.tables.items
          (moment boot es i e legal at).changes
          (shown_given boot es i e legal at) (c.loop-place.invariant.flags boot legal) c.in_ok-follow.ensures.flags);
      small = c.follow.ensures.small c.loop-place.invariant.small;
    }

pub returns-clause-flags : goal.returns-clause-flags
returns-clause-flags c = λ boot legal.
    let es = c.args.entries.now in
    subst (λ (l : List Entry). AreFlags (replay boot l) c.loop-place.index.tables.items)
    (take_all c.loop-place.place es c.loop-place-test.false) (c.loop-place.invariant.flags boot legal)
