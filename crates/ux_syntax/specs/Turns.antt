-- Which calls a run of a script makes.
use Rattle.std.specs.Prelude.{ℕ, Bool, true, false, List, [], ◌∷◌, ◌++◌, map, filter, not, ◌==◌, ◌&&◌, nat_lt, nat_le, if◌then◌else◌}
use Rattle.std.specs.List.{list_any, range_with_len}
use Rattle.ux_model.specs.Types.{Request}
use Rattle.ux_syntax.specs.declared.script.Act.{Act}
use Rattle.ux_syntax.specs.Lines.{Line}
use Rattle.ux_syntax.specs.Spelling.{Plan, asks_exit, known_count}

-- one of the lines is the process's exit
abbrev pub has_exited : List Line → ℕ → Bool
has_exited lines pid = list_any (λ line. line.pid.0 == pid && asks_exit line.act) lines

-- the process is one of this many that are there: processes are numbered from 1
abbrev pub is_known : ℕ → ℕ → Bool
is_known count pid = nat_lt 0 pid && nat_le pid count

-- so is a process that is waited for
abbrev pub awaits_known : ℕ → Act → Bool
awaits_known count (Act.Call request) = true
awaits_known count (Act.Wait pid calls) = is_known count pid.0

abbrev pub exit_line : ℕ → Line
exit_line pid = record { pid = record { 0 = pid }; act = Act.Call Request.Exit }

-- the processes that don't exit by themselves, those that were forked included, in order
abbrev pub missing : Plan → List ℕ
missing s = filter (λ pid. not (has_exited s.lines pid)) (range_with_len 1 (known_count s))

-- the end of the whole layer, which no process calls
abbrev pub off_line : Line
off_line = record { pid = record { 0 = 0 }; act = Act.Call Request.Off }

abbrev pub is_call : Act → Bool
is_call (Act.Call request) = true
is_call (Act.Wait pid calls) = false

-- the lines that are calls, in order
abbrev pub call_lines : List Line → List Line
call_lines lines = filter (λ line. is_call line.act) lines

-- the script's calls in order, then the missing exits, and last the end of the layer where the script has it
abbrev pub all_turns : Plan → List Line
all_turns s = call_lines s.lines ++ (map exit_line (missing s) ++ (if s.off then off_line ∷ [] else []))
