use Rattle.std.proofs.Common.{◌+◌, ◌*◌, ◌≤◌, arith, inl, inr, refl, sym, subst}
use Rattle.std.proofs.lemmas.List.{length-take}
use Rattle.ux_syntax.specs.declared.progress.Progress.{Progress}
use Rattle.ux_syntax.specs.Spelling.{plan_of}
use Rattle.ux_syntax.specs.Results.{KnowsExits}
use Rattle.ux_syntax.proofs.Feeding.{IsReadOn, nothing_read, read_more, read_none, fault_found, fault_handed_on, end_read, no_memory_found}
use Rattle.ux_syntax.proofs.input.read_lines_of.Goals as goal
use Rattle.ux_syntax.proofs.input.read_lines_of.Goals.{in-Ok+in_ok-take_bytes-in-Ok, in-Err}

pub loop-turn-init : goal.loop-turn-init
loop-turn-init g c = (
  c.new-progress.ensures.exits,
  omega (arith, c.new-progress.ensures.number),
  rw (c.new-progress.ensures.nothing, c.new-progress.ensures.number, c.new-progress.ensures.line)
      (nothing_read (g.R.Read.remaining c.args.reader.now)),
)

pub returns-in-Ok-eq0-clause-found : goal.returns-in-Ok-eq0-clause-found
returns-in-Ok-eq0-clause-found g c =
    let read = rw c.in-Ok-eq0.is at c.read.ensures.bytes in
    inr (end_read (g.R.Read.remaining c.args.reader.now) (g.R.Read.remaining c.loop-turn.reader) (g.R.Read.remaining c.read.new.self) _ _ _
    _ c.read.new.buf _
    c.loop-turn.invariant.2 read c.in-Ok-eq0.field-0-test (omega arith) c.finish.ensures)

pub returns-in_err-take_bytes-in-Ok-clause-found : goal.returns-in_err-take_bytes-in-Ok-clause-found
returns-in_err-take_bytes-in-Ok-clause-found g c =
    inr (fault_handed_on (g.R.Read.remaining c.args.reader.now) c.from_residual.result c.in_err-take_bytes-in-Ok.field-0.0
    c.from_residual.ensures.1
    (fault_found (g.R.Read.remaining c.args.reader.now) (g.R.Read.remaining c.loop-turn.reader) (g.R.Read.remaining c.read.new.self) _ _ _ _
    _
    c.loop-turn.invariant.2 c.in-Ok.ensures.bytes.0 c.in_err-take_bytes-in-Ok.ensures.fault))

pub returns-in-Err-2-clause-found : goal.returns-in-Err-2-clause-found
returns-in-Err-2-clause-found g c = inr (no_memory_found (g.R.Read.remaining c.args.reader.now) _ _ _ _ c.loop-turn.invariant.2)

pub returns-in-Err-3-clause-found : goal.returns-in-Err-3-clause-found
returns-in-Err-3-clause-found g c = inl refl

pub loop-turn-preserved : goal.loop-turn-preserved
loop-turn-preserved g c =
    let Keeps : Progress → Type 0 = λ p. KnowsExits (plan_of p.reader.script) p.reader.exited.items
    × (p.number ≤ 1 + 4096 * (c.loop-turn.turn + 1))
    × IsReadOn (g.R.Read.remaining c.args.reader.now) (g.R.Read.remaining c.read.new.self) (plan_of p.reader.script) p.number p.line.items
    in
    elim c.match-read.branch [
      | in-Ok+in_ok-take_bytes-in-Ok w ↦ subst Keeps (sym w.progress-is) (
        w.in_ok-take_bytes-in-Ok.ensures.exits,
        omega (
          arith,
          w.in_ok-take_bytes-in-Ok.ensures.number,
          length-take w.in-Ok.count c.read.new.buf,
          c.read.auto.buf,
          c.loop-turn.invariant.1,
        ),
        read_more (g.R.Read.remaining c.args.reader.now) (g.R.Read.remaining c.loop-turn.reader) (g.R.Read.remaining c.read.new.self) _ _ _
            _ _ _ _
            c.loop-turn.invariant.2 w.in-Ok.ensures.bytes.0 w.in_ok-take_bytes-in-Ok.ensures.ok,
      )
      | in-Err w ↦ subst Keeps (sym w.progress-is) (
        c.loop-turn.invariant.0,
        omega (arith, c.loop-turn.invariant.1),
        read_none (g.R.Read.remaining c.args.reader.now) (g.R.Read.remaining c.loop-turn.reader) (g.R.Read.remaining c.read.new.self) _ _ _
            c.loop-turn.invariant.2 w.in-Err.ensures.bytes,
      )
    ]
