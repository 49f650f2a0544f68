-- What a further line leaves as it was, once the header is over.
use Rattle.std.specs.Prelude.{◌≡◌, ◌==◌, ◌||◌, ◌++◌, not, Bool, true, List, length}
use Rattle.ux_syntax.specs.Lines.{Line}
use Rattle.ux_syntax.specs.Spelling.{Plan}

-- the header is over: a process has a line, or the layer's end was said
abbrev pub is_begun : Plan → Bool
is_begun s = not (length s.lines == 0) || s.off

-- the processes are the same, and so are the lines, with others behind them; the header stays over
pub record Continues (s t : Plan) : Type 0 where
  pub procs : t.procs ≡ s.procs
  pub more : List Line
  pub lines : t.lines ≡ s.lines ++ more
  pub begun : is_begun t ≡ true
