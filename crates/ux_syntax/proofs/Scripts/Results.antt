-- What the functions return.
use Rattle.std.proofs.Common.{ℕ}
use Rattle.std.proofs.Common.{List, Result, Ok, Err, subst}
use Rattle.std.specs.Prelude.{IfOk, IfErr}
use Rattle.ux_syntax.specs.declared.fault.ScriptFault.{ScriptFault}
use Rattle.ux_syntax.specs.declared.script.Script.{Script}
use Rattle.ux_syntax.specs.Spelling.{Plan}
use Rattle.ux_syntax.specs.Spelling.{plan_of}
use Rattle.ux_syntax.specs.Spelling.{IsOrderly, SpellScript}
use Rattle.ux_syntax.specs.Reading.{lines_at, no_lines}
use Rattle.ux_syntax.specs.Results.{FailsAt, HasFault, GivesScript}
use Rattle.ux_syntax.proofs.Scripts.Whole.{script_found, script_only}
use Rattle.ux_syntax.proofs.Scripts.FirstFault.{script_fault}

pub gives_found : (r : Result Script ScriptFault) (lines : List (List ℕ)) → GivesScript r (lines_at 1 no_lines lines) →
    IfOk r (λ script. SpellScript lines (plan_of script))
gives_found (Ok s) lines h = script_found lines (plan_of s) h
gives_found (Err f) lines h = tt

pub gives_orderly : (r : Result Script ScriptFault) (lines : List (List ℕ)) → GivesScript r (lines_at 1 no_lines lines) →
    IfOk r (λ script. IsOrderly (plan_of script))
gives_orderly (Ok s) lines h = (script_found lines (plan_of s) h).orderly
gives_orderly (Err f) lines h = tt

pub gives_only : (r : Result Script ScriptFault) (lines : List (List ℕ)) (s : Plan) → GivesScript r (lines_at 1 no_lines lines) →
    SpellScript lines s → GivesScript r (Ok s)
gives_only r lines s h k = subst (λ (read : Result Plan ScriptFault). GivesScript r read) (script_only lines s k) h

fails_named : (e : ScriptFault) (lines : List (List ℕ)) → FailsAt e (lines_at 1 no_lines lines) → HasFault lines e
fails_named (ScriptFault.BadLine n) lines h = script_fault lines (ScriptFault.BadLine n) h
fails_named (ScriptFault.UnknownProcess n) lines h = script_fault lines (ScriptFault.UnknownProcess n) h
fails_named (ScriptFault.TooLong n) lines h = script_fault lines (ScriptFault.TooLong n) h
fails_named ScriptFault.Reading lines h = h
fails_named ScriptFault.Writing lines h = h
fails_named ScriptFault.NoMemory lines h = tt
fails_named ScriptFault.Stranger lines h = elim h [ ]
fails_named ScriptFault.OneOrder lines h = elim h [ ]
fails_named (ScriptFault.Deadlock waiting) lines h = elim h [ ]

pub gives_fault : (r : Result Script ScriptFault) (lines : List (List ℕ)) → GivesScript r (lines_at 1 no_lines lines) →
    IfErr r (λ f. HasFault lines f)
gives_fault (Ok s) lines h = tt
gives_fault (Err f) lines h = fails_named f lines h
