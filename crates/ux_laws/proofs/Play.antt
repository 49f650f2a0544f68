-- A history of calls in which memory never runs out, to evaluate worked examples by.
use Rattle.std.specs.Prelude.{ℕ, suc, false, List, [], ◌∷◌, map, None}
use Rattle.ux_model.specs.Types.{Fd, Name, ProcSpec, SockType, MsgFlags, Request, Reply, Entry}
use Rattle.ux_model.specs.Object.{Body, new_view}
use Rattle.ux_model.specs.State.{State}
use Rattle.ux_model.specs.References.{refs, orefs}
use Rattle.ux_model.specs.Release.{without, drop_rounds, drop_unreferenced, released_objects, released, settled}
use Rattle.ux_model.specs.Outcome.{Outcome}
use Rattle.ux_model.specs.Pairing.{make_pair}
use Rattle.ux_model.specs.Names.{free_name}
use Rattle.ux_model.specs.Connecting.{shutdown}
use Rattle.ux_model.specs.Options.{get_opt, set_opt}
use Rattle.ux_model.specs.Flight.{in_flight}
use Rattle.ux_model.specs.ControlReading.{cred_in, item_of, item_behind, item_at, with_items, control_in}
use Rattle.ux_model.specs.Delivery.{delivery}
use Rattle.ux_model.specs.Sending.{send_with, send_read, send_msg}
use Rattle.ux_model.specs.Receiving.{receive_front, recv_msg}
use Rattle.ux_model.specs.Opening.{open_file}
use Rattle.ux_model.specs.Making.{create_file, make_pipe}
use Rattle.ux_model.specs.Reading.{read}
use Rattle.ux_model.specs.Writing.{write}
use Rattle.ux_model.specs.Naming.{unlink}
use Rattle.ux_model.specs.Forking.{fork}
use Rattle.ux_model.specs.Closing.{close, exit}
use Rattle.ux_model.specs.Delivered.{delivered_by}
use Rattle.ux_model.specs.Step.{outcome, after}
use Rattle.ux_model.specs.Boot.{boot_state}

-- `unfolding computing` opens all that the calls of the examples are made of
unfoldable pub computing : Unit {0}
unfolding refs orefs without drop_rounds drop_unreferenced released_objects settled open_file create_file make_pipe read write make_pair
    shutdown get_opt set_opt in_flight free_name cred_in item_of item_behind item_at with_items control_in send_with send_read send_msg
    delivery receive_front recv_msg unlink fork close exit outcome after
computing = tt

-- a process and its request
abbrev pub Call : Type 0
Call = ℕ × Request

-- the entries that these calls make from a state on, the first of which has number n
abbrev pub made : State → ℕ → List Call → List Entry
made S n [] = []
made S n (c ∷ cs) = with_entry (outcome S c.0 n c.1) (λ T. made T (suc n) cs)
  where
    with_entry : Outcome → (State → List Entry) → List Entry
    with_entry o rest = record {
      pid = record { 0 = c.0 };
      k = 0;
      request = c.1;
      reply = o.reply;
      released = released o.next;
      delivered = delivered_by S c.0 c.1 o.reply;
    } ∷ rest (settled o.next)

-- their replies
abbrev pub replies : List Entry → List Reply
replies entries = map (λ e. Entry.reply e) entries

-- ---- boot states

-- a user's process that may have 16 descriptors, and a privileged one
abbrev pub process : ProcSpec
process = record { uid = 1000; gid = 1000; privileged = false; limit = 16 }

abbrev pub one_process : State
one_process = boot_state [] (process ∷ [])

-- two processes, with these file objects and their paths
abbrev pub with_files : List (Name × Body) → State
with_files files = boot_state (map (λ f. (f.0, new_view f.1)) files) (process ∷ process ∷ [])

-- ---- short words of the examples

abbrev pub fd : ℕ → Fd
fd n = record { 0 = n }

abbrev pub flags : ℕ → MsgFlags
flags n = record { 0 = n }

abbrev pub pair_of : SockType → Request
pair_of kind = Request.SocketPair kind (record { 0 = 0 })

abbrev pub send : ℕ → List ℕ → Request
send n bytes = Request.SendMsg (fd n) None bytes [] (flags 0)

abbrev pub recv : ℕ → ℕ → Request
recv n count = Request.RecvMsg (fd n) count 0 (flags 0)

abbrev pub peek : ℕ → ℕ → Request
peek n count = Request.RecvMsg (fd n) count 0 (flags 1)
