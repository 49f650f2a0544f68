-- A call's words that are read are the spelling of what was read, and each spelling is read again.
use Rattle.std.proofs.Common.{◌≡◌, ℕ, true, false, ltb, List, [], ◌∷◌, Result, Ok, refl, ◌∙◌}
use Rattle.std.specs.List.{AllByRecursion, list_all}
use Rattle.ux_model.specs.Types.{Request}
use Rattle.ux_fields.specs.declared.CallWord.{CallWord}
use Rattle.ux_fields.specs.declared.FieldKind.{FieldKind}
use Rattle.ux_fields.specs.Forms.{word_text, kinds, script_words, is_off_word}
use Rattle.ux_fields.specs.Rows.{request_of}
use Rattle.ux_syntax.specs.declared.fault.Fault.{Fault}
use Rattle.ux_syntax.specs.Spelling.{WrittenRow, Written, meant_row, meaning, spelling, spellings, args_of, FitsField, FitsFields, FitsCall}
use Rattle.ux_syntax.specs.Reading.{value_at, values_at, called_at, word_at, args_at}
use Rattle.ux_syntax.proofs.Rows.{IsSolid, IsBadOrOk, IsKind, IsRow, solid_from, bind_bad, bind_ok, ok_is, ends_row}
use Rattle.ux_syntax.proofs.Rows.{row_then, number_kind, fd_kind}
use Rattle.ux_syntax.proofs.Bytes.{hex_kind}
use Rattle.ux_syntax.proofs.Flags.{open_flags_kind, counter_flags_kind, msg_flags_kind}
use Rattle.ux_syntax.proofs.Choices.{chosen_takes, chosen_bad, mode_kind, type_kind, option_kind, whence_kind, waits_kind}
use Rattle.ux_syntax.proofs.Offsets.{offset_kind, backlog_kind}
use Rattle.ux_syntax.proofs.Names.{path_kind, addr_kind}
use Rattle.ux_syntax.proofs.Controls.{addr_or_dash_kind, control_kind}
use Rattle.ux_syntax.proofs.Polls.{poll_fds_kind}

-- ---- kinds of fields

field_facts : (kind : FieldKind) → IsKind (value_at kind) (spelling kind) (FitsField kind)
field_facts FieldKind.Fd = fd_kind
field_facts FieldKind.Number = number_kind
field_facts FieldKind.Size = number_kind
field_facts FieldKind.Space = number_kind
field_facts FieldKind.Value = number_kind
field_facts FieldKind.Offset = offset_kind
field_facts FieldKind.Backlog = backlog_kind
field_facts FieldKind.Path = path_kind
field_facts FieldKind.Bytes = hex_kind
field_facts FieldKind.Addr = addr_kind
field_facts FieldKind.Target = addr_or_dash_kind
field_facts FieldKind.Mode = mode_kind
field_facts FieldKind.Whence = whence_kind
field_facts FieldKind.SockType = type_kind
field_facts FieldKind.SockOpt = option_kind
field_facts FieldKind.OpenFlags = open_flags_kind
field_facts FieldKind.CounterFlags = counter_flags_kind
field_facts FieldKind.MsgFlags = msg_flags_kind
field_facts FieldKind.Control = control_kind
field_facts FieldKind.PollFds = poll_fds_kind
field_facts FieldKind.Waits = waits_kind

fields_facts : (ks : List FieldKind) → IsRow (values_at ks) (spellings ks) (FitsFields ks)
fields_facts [] = ends_row
fields_facts (k ∷ ks) = row_then (field_facts k) (fields_facts ks)

-- ---- calls

-- the request is what some fields behind the word mean whose spelling the words are
pub record Spelled (word : CallWord) (ws : List (List ℕ)) (r : Request) : Type 0 where
  pub fields : WrittenRow (kinds word)
  pub means : request_of word (meant_row (kinds word) fields) ≡ r
  pub args : ws ≡ spellings (kinds word) fields
  pub fits : FitsCall (record { word = word; fields = fields })

-- the call of the word with the fields that are meant
abbrev called : (word : CallWord) → WrittenRow (kinds word) → Result Request Fault
called word row = Ok (request_of word (meant_row (kinds word) row))

called_takes : (word : CallWord) (ws : List (List ℕ)) (r : Request) → is_off_word word ≡ false → called_at word ws ≡ Ok r →
    Spelled word ws r
called_takes word ws r h e =
    let a = bind_ok (values_at (kinds word) ws) (called word) r e in
    let p = (fields_facts (kinds word)).takes ws a.0 a.1 in
    record { fields = a.0; means = ok_is (request_of word (meant_row (kinds word) a.0)) r a.2; args = p.0; fits = (h, p.1) }

called_bad : (word : CallWord) (ws : List (List ℕ)) → IsBadOrOk (called_at word ws)
called_bad word ws = bind_bad (values_at (kinds word) ws) (called word) ((fields_facts (kinds word)).bad ws) (λ row. tt)

-- here and below the last line stands for each word but `off`
args_are : (word : CallWord) (ws : List (List ℕ)) → is_off_word word ≡ false → args_at word ws ≡ called_at word ws
args_are CallWord.Off ws h = absurd cc
args_are word ws h = refl

pub args_takes : (word : CallWord) (ws : List (List ℕ)) (r : Request) → args_at word ws ≡ Ok r → Spelled word ws r
args_takes CallWord.Off ws r e = absurd cc
args_takes word ws r e = called_takes word ws r refl e

pub args_bad : (word : CallWord) (ws : List (List ℕ)) → IsBadOrOk (args_at word ws)
args_bad CallWord.Off ws = refl
args_bad word ws = called_bad word ws

pub args_again : (c : Written) → FitsCall c → args_at c.word (args_of c) ≡ Ok (meaning c)
args_again c f = args_are c.word (args_of c) f.0 ∙ rw ((fields_facts (kinds c.word)).again c.fields f.1) refl

pub args_solid : (c : Written) → FitsCall c → AllByRecursion IsSolid (args_of c)
args_solid c f = (fields_facts (kinds c.word)).solid c.fields f.1

-- ---- the word of a call

-- each is found by its text, which has no blank
word_facts : (word : CallWord) → is_off_word word ≡ false → (word_at (word_text word) ≡ Ok word) × (list_all (λ b. ltb 32 b) (word_text word) ≡ true)
unfolding word_at
word_facts CallWord.Off h = absurd cc
word_facts word h = (refl, refl)

pub word_takes : (w : List ℕ) (word : CallWord) → word_at w ≡ Ok word → w ≡ word_text word
unfolding word_at
word_takes w word e = chosen_takes word_text script_words w word e

pub word_bad : (w : List ℕ) → IsBadOrOk (word_at w)
unfolding word_at
word_bad w = chosen_bad word_text script_words w

pub word_again : (word : CallWord) → is_off_word word ≡ false → word_at (word_text word) ≡ Ok word
word_again word h = (word_facts word h).0

pub word_solid : (word : CallWord) → is_off_word word ≡ false → IsSolid (word_text word)
word_solid word h = solid_from (word_text word) (word_facts word h).1
