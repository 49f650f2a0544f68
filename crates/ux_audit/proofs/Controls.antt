-- The numbers that a receive reports in its control buffer are those that it gave.
use Rattle.std.proofs.Common.{◌≡◌, ℕ, suc, ◌+◌, ◌^◌, ◌<◌, ◌≤◌, ◌==◌, Bool, true, false, not, if◌then◌else◌, List, [], ◌∷◌, ◌++◌, length}
use Rattle.std.proofs.Common.{flat_map, Option, Some, None, option_map, refl, ap, sym, ◌∙◌, subst, arith}
use Rattle.std.specs.Prelude.{IfSome}
use Rattle.std.specs.List.{AllByRecursion}
use Rattle.std.specs.Int.{w32, w64, to_le_bytes, from_le_bytes}
use Rattle.ux_model.specs.Types.{Cred, Fd, MsgFlags, Request, Reply}
use Rattle.ux_model.specs.Limits.{table_limit}
use Rattle.ux_model.specs.Flags.{are_receive_flags}
use Rattle.ux_model.specs.Control.{Control, Item, rights_item, cred_item, payload, item_type, item_bytes, IsItem, Spells, ReadsAs}
use Rattle.ux_model.specs.ControlReading.{control_in, with_items}
use Rattle.ux_model.specs.Front.{Front, front_of}
use Rattle.ux_model.specs.Socket.{Socket}
use Rattle.ux_model.specs.Process.{Descriptor}
use Rattle.ux_model.specs.Delivery.{delivery, rights_bytes, control_bytes}
use Rattle.ux_model.specs.State.{State, table_of}
use Rattle.ux_model.specs.Outcome.{Outcome, Chosen, own, lacking_memory, failing}
use Rattle.ux_model.specs.Delivered.{Brought, brought}
use Rattle.ux_model.specs.Receiving.{Incoming, incoming, receive_front, recv_msg}
use Rattle.ux_model.specs.Giving.{numbers_received, rights_in}
use Rattle.ux_model.proofs.Changes.Walk.{either}
use Rattle.ux_model.proofs.Lists.Rising.{Rise}
use Rattle.ux_model.proofs.Tables.Shows.{by_socket}
use Rattle.ux_model.proofs.Tables.MessageShows.{by_receive, brought_is, nothing_is_brought, delivery_rise}
use Rattle.ux_cmsg.proofs.Numbers.{bytes_below, wide32}
use Rattle.ux_cmsg.proofs.Collecting.{read_is}
use Rattle.ux_cmsg.proofs.Written.{control_spelled}
use Rattle.ux_audit.specs.Shown.{numbers_read}

-- ---- bytes

abbrev AreBytes : List ℕ → Type 0
AreBytes xs = AllByRecursion (λ b. b < 256) xs

both : (xs ys : List ℕ) → AreBytes xs → AreBytes ys → AreBytes (xs ++ ys)
both [] ys a b = b
both (x ∷ xs) ys a b = (a.0, both xs ys a.1 b)

four_bytes : (n : ℕ) → AreBytes (to_le_bytes w32 n)
four_bytes n = (omega arith, (omega arith, (omega arith, (omega arith, tt))))

eight_bytes : (n : ℕ) → AreBytes (to_le_bytes w64 n)
eight_bytes n = (omega arith, (omega arith, (omega arith, (omega arith, (omega arith, (omega arith, (omega arith, (omega arith, tt))))))))

number_bytes : (ns : List ℕ) → AreBytes (flat_map (to_le_bytes w32) ns)
number_bytes [] = tt
number_bytes (n ∷ ns) = both (to_le_bytes w32 n) (flat_map (to_le_bytes w32) ns) (four_bytes n) (number_bytes ns)

payload_bytes : (item : Item) → AreBytes (payload item)
payload_bytes (rights_item ns) = number_bytes ns
payload_bytes (cred_item c) =
    both (to_le_bytes w32 c.pid.0) (to_le_bytes w32 c.uid ++ to_le_bytes w32 c.gid) (four_bytes c.pid.0)
    (both (to_le_bytes w32 c.uid) (to_le_bytes w32 c.gid) (four_bytes c.uid) (four_bytes c.gid))

spelled_bytes : (item : Item) → AreBytes (item_bytes item)
spelled_bytes item =
    both (to_le_bytes w64 (16 + length (payload item))) (to_le_bytes w32 1 ++ to_le_bytes w32 (item_type item) ++ payload item)
    (eight_bytes (16 + length (payload item)))
    (both (to_le_bytes w32 1) (to_le_bytes w32 (item_type item) ++ payload item) (four_bytes 1)
    (both (to_le_bytes w32 (item_type item)) (payload item) (four_bytes (item_type item)) (payload_bytes item)))

right_bytes : (ns : List ℕ) → AreBytes (rights_bytes ns)
right_bytes ns = go (length ns == 0)
  where
    go : (b : Bool) → AreBytes (if b then [] else item_bytes (rights_item ns))
    go true = tt
    go false = spelled_bytes (rights_item ns)

are_bytes : (cred : Option Cred) (ns : List ℕ) → AreBytes (control_bytes cred ns)
are_bytes None ns = right_bytes ns
are_bytes (Some c) ns = both (item_bytes (cred_item c)) (if length ns == 0 then [] else 0 ∷ 0 ∷ 0 ∷ 0 ∷ rights_bytes ns)
    (spelled_bytes (cred_item c)) (go (length ns == 0))
  where
    go : (b : Bool) → AreBytes (if b then [] else 0 ∷ 0 ∷ 0 ∷ 0 ∷ rights_bytes ns)
    go true = tt
    go false = (omega arith, (omega arith, (omega arith, (omega arith, right_bytes ns))))

-- ---- credentials as far as their bytes report them

abbrev cut : ℕ → ℕ
cut n = from_le_bytes w32 (to_le_bytes w32 n)

abbrev cut_cred : Cred → Cred
cut_cred c = record { pid = record { 0 = cut c.pid.0 }; uid = cut c.uid; gid = cut c.gid }

cut_alike : (n : ℕ) → to_le_bytes w32 (cut n) ≡ to_le_bytes w32 n
cut_alike n = wide32.back (to_le_bytes w32 n) refl (bytes_below (to_le_bytes w32 n) (four_bytes n))

cut_fits : (n : ℕ) → cut n < 2 ^ 32
cut_fits n = wide32.below (to_le_bytes w32 n) (bytes_below (to_le_bytes w32 n) (four_bytes n))

cred_alike : (c : Cred) → payload (cred_item (cut_cred c)) ≡ payload (cred_item c)
cred_alike c =
    ap (λ (b : List ℕ). b ++ (to_le_bytes w32 (cut c.uid) ++ to_le_bytes w32 (cut c.gid))) (cut_alike c.pid.0)
    ∙ ap (λ (b : List ℕ). to_le_bytes w32 c.pid.0 ++ (b ++ to_le_bytes w32 (cut c.gid))) (cut_alike c.uid)
    ∙ ap (λ (b : List ℕ). to_le_bytes w32 c.pid.0 ++ (to_le_bytes w32 c.uid ++ b)) (cut_alike c.gid)

control_alike : (cred : Option Cred) (ns : List ℕ) → control_bytes (option_map cut_cred cred) ns ≡ control_bytes cred ns
control_alike None ns = refl
control_alike (Some c) ns =
    ap (λ (p : List ℕ). (to_le_bytes w64 (16 + length p) ++ (to_le_bytes w32 1 ++ (to_le_bytes w32 2 ++ p))) ++
    (if length ns == 0 then [] else 0 ∷ 0 ∷ 0 ∷ 0 ∷ rights_bytes ns)) (cred_alike c)

cut_items : (cred : Option Cred) → IfSome (option_map cut_cred cred) (λ c. IsItem (cred_item c))
cut_items None = tt
cut_items (Some c) = (cut_fits c.pid.0, cut_fits c.uid, cut_fits c.gid)

-- ---- what is read

reads : (bytes : List ℕ) (control : Control) → AreBytes bytes → Spells bytes control → control_in bytes ≡ Some control
unfolding ReadsAs
reads bytes control are spells = read_is bytes (Some control) (bytes_below bytes are) spells

-- the numbers that were written are read again, whatever the credentials are
pub rights_again : (cred : Option Cred) (ns : List ℕ) → IsItem (rights_item ns) → rights_in (control_in (control_bytes cred ns)) ≡ ns
rights_again cred ns fits =
    let cut' : Option Cred = option_map cut_cred cred in
    let control : Control = record { cred = cut'; rights = ns } in
    let bytes : List ℕ = control_bytes cut' ns in
    let read = reads bytes control (are_bytes cut' ns) (control_spelled control cut' ns bytes refl refl (cut_items cred) fits refl) in
    sym (ap (λ (b : List ℕ). rights_in (control_in b)) (control_alike cred ns)) ∙ ap rights_in read

nothing_spelled : rights_in (control_in []) ≡ []
unfolding control_in with_items
nothing_spelled = refl

-- ---- numbers of a small table

rise_fit : (low high : ℕ) (ns : List ℕ) → high ≤ 2 ^ 32 → Rise low high ns → AllByRecursion (λ n. n < 2 ^ 32) ns
rise_fit low high [] small r = tt
rise_fit low high (n ∷ ns) small r = (omega (arith, r.1, small), rise_fit (suc n) high ns small r.2)

rise_few : (low high : ℕ) (ns : List ℕ) → low ≤ high → Rise low high ns → length ns + low ≤ high
rise_few low high [] within r = omega (arith, within)
rise_few low high (n ∷ ns) within r = let rest = rise_few (suc n) high ns (omega (arith, r.1)) r.2 in omega (arith, rest, r.0)

rise_item : (high : ℕ) (ns : List ℕ) → high ≤ table_limit → Rise 0 high ns → IsItem (rights_item ns)
rise_item high ns small r = let few = rise_few 0 high ns (omega arith) r in
    (omega (arith, few, small), rise_fit 0 high ns (omega (arith, small)) r)

-- ---- a receive

abbrev Reads : State → ℕ → Request → Reply → Type 0
Reads S p request reply = numbers_read reply ≡ numbers_received (brought S p request) reply

front_control : (wanted : Bool) (cred : Cred) (rights : List ℕ) (space : ℕ) (table : List (Option Descriptor)) →
    length table ≤ table_limit →
    rights_in (control_in (delivery wanted cred rights space table).control) ≡ (delivery wanted cred rights space table).numbers
unfolding delivery
front_control wanted cred rights space table small =
    rights_again _ _ (rise_item (length table) _ small (delivery_rise wanted cred rights space table))

front_reads : (S : State) (p d : ℕ) (fd : Fd) (s : Socket) (asked : Incoming) (front : Front) → length (table_of S p) ≤ table_limit →
    (brought S p (Request.RecvMsg fd asked.n asked.space asked.flags)).numbers ≡
    (delivery s.passcred front.cred front.rights asked.space (table_of S p)).numbers →
    Reads S p (Request.RecvMsg fd asked.n asked.space asked.flags) (receive_front S p d s asked front).reply
unfolding receive_front
front_reads S p d fd s asked front small same = front_control s.passcred front.cred front.rights asked.space (table_of S p) small ∙ sym same

receive_reads : (S : State) (p n space : ℕ) (fd : Fd) (flags : MsgFlags) → length (table_of S p) ≤ table_limit →
    Reads S p (Request.RecvMsg fd n space flags) (recv_msg S p fd n space flags).reply
unfolding recv_msg
receive_reads S p n space fd flags small = by_socket Q S p fd _ (λ e. refl)
    (λ d s h there. either Q (not (are_receive_flags flags)) _ _ (λ b. refl)
    (λ b. by_receive Q S p d s (incoming n space flags) (λ e. refl) refl
    (λ none. nothing_spelled ∙ sym (ap (λ (b : Brought). b.numbers) (brought_is S p d n space fd flags s s.queue h refl)
    ∙ nothing_is_brought s n space (table_of S p) s.queue none))
    (λ m ms q. front_reads S p d fd s (incoming n space flags) (front_of n s m ms) small
    (ap (λ (b : Brought). b.numbers) (brought_is S p d n space fd flags s (m ∷ ms) h q)))))
  where
    Q : Outcome → Type 0
    Q o = Reads S p (Request.RecvMsg fd n space flags) o.reply

pub chosen_reads : (S T : State) (p n space : ℕ) (fd : Fd) (flags : MsgFlags) (reply : Reply) → length (table_of S p) ≤ table_limit →
    Chosen S (recv_msg S p fd n space flags) reply T →
    Reads S p (Request.RecvMsg fd n space flags) reply
chosen_reads S T p n space fd flags reply small (own e f) =
    subst (Reads S p (Request.RecvMsg fd n space flags)) (sym e) (receive_reads S p n space fd flags small)
chosen_reads S T p n space fd flags reply small (lacking_memory e may f) = subst (Reads S p (Request.RecvMsg fd n space flags)) (sym e) refl
chosen_reads S T p n space fd flags reply small (failing e f) = subst (Reads S p (Request.RecvMsg fd n space flags)) (sym e) refl
