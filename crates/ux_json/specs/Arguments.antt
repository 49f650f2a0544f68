-- What the object of a call's arguments has.
use Rattle.std.specs.Prelude.{◌≡◌, ℕ, List, [], ◌∷◌, map, Option, Some, None, codes}
use Rattle.serde_json.specs.Data.{Data, null, boolean, number, unsigned, string, array, object, Members, no_members, put}
use Rattle.serde_json.specs.Find.{get, of_integer}
use Rattle.serde_json.specs.View.{items_of}
use Rattle.ux_model.specs.Types.{Addr, PollFds, Request}
use Rattle.ux_fields.specs.Forms.{form, request_word}
use Rattle.ux_fields.specs.Rows.{FieldValue, fields_of, fd_field, number_field, size_field, space_field, value_field, offset_field, backlog_field, path_field, bytes_field}
use Rattle.ux_fields.specs.Rows.{addr_field, target_field, mode_field, whence_field, type_field, option_field, poll_fds_field, waits_field}
use Rattle.ux_trace.specs.Trace.{path_text, addr_text}
use Rattle.ux_trace.specs.Echoes.{mode_text, whence_text, type_text, option_text}

-- the number of the descriptor that a call is made by, where it is made by one, which is its first field then
abbrev pub first_descriptor : List FieldValue → Option ℕ
first_descriptor (fd_field fd ∷ fields) = Some fd.0
first_descriptor fields = None

abbrev pub descriptor_of : Request → Option ℕ
descriptor_of r = first_descriptor (fields_of r)

-- an address as a script has it, or null for none
abbrev pub target_data : Option Addr → Data
target_data None = null
target_data (Some addr) = string (addr_text addr)

-- the numbers of descriptors, each as the member `fd` of an object
abbrev pub numbers_of : PollFds → List (Option Data)
numbers_of fds = map (λ asked. Some (number (unsigned asked.fd.0))) fds

-- an object for each descriptor, in order, with its number; nothing is said here of the conditions that are asked for
abbrev pub AreAsked : PollFds → List Data → Type 0
AreAsked fds objects = map (get (codes "fd")) objects ≡ numbers_of fds

-- a number for a number, and the script's word for a word; nothing is said here of bytes, flags and control bytes
abbrev pub IsDataOf : FieldValue → Data → Type 0
IsDataOf (fd_field it) d = d ≡ number (unsigned it.0)
IsDataOf (number_field it) d = d ≡ number (unsigned it)
IsDataOf (size_field it) d = d ≡ number (unsigned it)
IsDataOf (space_field it) d = d ≡ number (unsigned it)
IsDataOf (value_field it) d = d ≡ number (unsigned it)
IsDataOf (offset_field it) d = d ≡ number (of_integer it)
IsDataOf (backlog_field it) d = d ≡ number (of_integer it)
IsDataOf (path_field it) d = d ≡ string (path_text it)
IsDataOf (addr_field it) d = d ≡ string (addr_text it)
IsDataOf (target_field it) d = d ≡ target_data it
IsDataOf (mode_field it) d = d ≡ string (mode_text it)
IsDataOf (whence_field it) d = d ≡ string (whence_text it)
IsDataOf (type_field it) d = d ≡ string (type_text it)
IsDataOf (option_field it) d = d ≡ string (option_text it)
IsDataOf (poll_fds_field it) d = (objects : List Data) × (d ≡ array (items_of objects)) × AreAsked it objects
IsDataOf (waits_field it) d = d ≡ boolean it
IsDataOf other d = Unit {0}

-- members of these names, which these fields have, were added one after another, and nothing else was
abbrev pub HasAdded : List (List ℕ) → List FieldValue → Members → Members → Type 0
HasAdded [] fields before after = after ≡ before
HasAdded (name ∷ names) [] before after = after ≡ before
HasAdded (name ∷ names) (field ∷ fields) before after = (d : Data) × IsDataOf field d × HasAdded names fields (put name d before) after

-- the names of a call's fields
abbrev pub names_of : Request → List (List ℕ)
names_of r = map (λ f. f.0) (form (request_word r))

-- an object with a member for each field of the call, and no other
abbrev pub HasArguments : Request → Data → Type 0
HasArguments r v = (members : Members) × (v ≡ object members) × HasAdded (names_of r) (fields_of r) no_members members
