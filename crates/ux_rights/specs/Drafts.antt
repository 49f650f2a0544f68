-- The message that is made of a draft.
use Rattle.std.specs.Prelude.{ℕ, List, Option}
use Rattle.ux_model.specs.Types.{Addr}
use Rattle.ux_model.specs.Message.{Message, message}
use Rattle.ux_rights.specs.declared.draft.Draft.{Draft}

-- with these rights and this name of its sender
abbrev pub drafted : Draft → List ℕ → Option Addr → Message
drafted draft rights from = message draft.tag draft.bytes.now rights draft.cred draft.uid from
