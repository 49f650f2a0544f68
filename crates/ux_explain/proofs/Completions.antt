-- Beginnings of lines.
use Rattle.std.proofs.Common.{◌≡◌, inl, inr, ℕ, Bool, true, false, List, [], ◌++◌, refl, ap, sym, ◌∙◌, subst, take, drop, take-append-drop}
use Rattle.std.specs.Prelude.{Result, Ok, Err, IfOk, Option, Some, None, IfNone}
use Rattle.ux_syntax.specs.Reading.{item_at}
use Rattle.ux_syntax.specs.Spelling.{line_limit}
use Rattle.ux_syntax.specs.Forms.{is_line}
use Rattle.ux_syntax.specs.declared.fault.ScriptFault.{ScriptFault}
use Rattle.ux_explain.specs.Places.{IsPlace, IsLimit, IsNamed, IsNoLine, NamesNone}

-- no bytes are an empty line
no_bytes : is_line 0 [] ≡ true
unfolding is_line item_at
no_bytes = refl

-- nothing stands before the first column
pub first_column : (text : List ℕ) (column : ℕ) → column ≡ 0 → IsPlace text column
first_column text column first = subst (λ (n : ℕ). IsPlace text n) (sym first) (0, [], no_bytes)

-- what stands before any column of a line can become that line
pub any_column : (text : List ℕ) (limit : ℕ) → is_line limit text ≡ true → (column : ℕ) → IsPlace text column
any_column text limit line column = (limit, drop column text, ap (is_line limit) (take-append-drop column text) ∙ line)

pub all_columns : {E : Type 0} (result : Result Bool E) (text : List ℕ) (limit : ℕ) → IfOk result (λ says. says ≡ is_line limit text)
    → IfOk result (λ says. says ≡ true → (column : ℕ) → IsPlace text column)
all_columns (Ok says) text limit exact = λ line. any_column text limit (sym exact ∙ line)
all_columns (Err e) text limit exact = exact

-- the limit of a script's lines
pub is_limit : (serial : Bool) (column limit : ℕ) → column ≡ limit → limit ≡ line_limit serial → IsLimit column
is_limit false column limit here is = inl (here ∙ is)
is_limit true column limit here is = inr (here ∙ is)

-- a fault names none of these lines where the number that it names is that of none
pub names_none : (lines : List (List ℕ)) (fault : ScriptFault) (n : ℕ) → IsNamed fault n → IsNoLine lines n → NamesNone lines fault
names_none lines (ScriptFault.BadLine m) n named none = subst (IsNoLine lines) named none
names_none lines (ScriptFault.UnknownProcess m) n named none = subst (IsNoLine lines) named none
names_none lines (ScriptFault.TooLong m) n named none = subst (IsNoLine lines) named none
names_none lines ScriptFault.Reading n named none = tt
names_none lines ScriptFault.Writing n named none = tt
names_none lines ScriptFault.NoMemory n named none = tt
names_none lines ScriptFault.Stranger n named none = tt
names_none lines ScriptFault.OneOrder n named none = tt
names_none lines (ScriptFault.Deadlock waiting) n named none = tt

-- what holds where there is no value
pub where_none : {A : Type 0} (P : Type 0) (o : Option A) → o ≡ None → IfNone o P → P
where_none P o none holds = subst (λ (p : Option _). IfNone p P) none holds

-- and what holds of all there holds of one
pub none_at : {A E L : Type 0} (P : L → Type 0) (one : L) (r : Result (Option A) E) → IfOk r (λ found. IfNone found ((all : L) → P all)) →
    IfOk r (λ found. IfNone found (P one))
none_at P one (Ok None) holds = holds one
none_at P one (Ok (Some x)) holds = holds
none_at P one (Err e) holds = holds
