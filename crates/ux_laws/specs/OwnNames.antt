-- Which calls give a socket its name (bind(2); unix(7), "Autobind feature" and SO_PASSCRED).
use Rattle.std.specs.Prelude.{◌≡◌, ◌≢◌, ◌⊎◌, ℕ, suc, List, Some, None, Ok}
use Rattle.std.specs.List.{slice_get}
use Rattle.ux_model.specs.Types.{Fd, Name, Addr, SockOpt, Request, Reply, Entry}
use Rattle.ux_model.specs.Names.{bound, named, free_name}
use Rattle.ux_model.specs.Socket.{Socket}
use Rattle.ux_model.specs.State.{State, socket_at}
use Rattle.ux_model.specs.Binding.{look_up}
use Rattle.ux_model.specs.Outcome.{find_socket}
use Rattle.ux_model.specs.History.{IsLegal}
use Rattle.ux_model.specs.Pedigree.{before}
use Rattle.ux_laws.specs.Credentials.{socket_behind}

-- What a call gives that asks for this address: the address, which leads nowhere yet, or, where that is unnamed, the least name that
-- autobind has left.
pub data IsNewName (S : State) (asked name : Addr) : Type 0 where
  of_path : (path : Name) → asked ≡ Addr.Path path → named path S.paths ≡ None → name ≡ asked → IsNewName S asked name
  of_abstract : (abstract : Name) → asked ≡ Addr.Abstract abstract → named abstract S.abstract_names ≡ None → name ≡ asked →
      IsNewName S asked name
  autobound : (free : Name) → asked ≡ Addr.Unnamed → free_name S.abstract_names ≡ Some free → name ≡ Addr.Abstract free →
      IsNewName S asked name

-- A call of process p gives socket d this name, through a number that leads there: it is a bind, or turns on SO_PASSCRED, which asks for none.
pub data NamesIt (S : State) (p : ℕ) (request : Request) (d : ℕ) (name : Addr) : Type 0 where
  by_bind : (fd : Fd) (addr : Addr) → request ≡ Request.Bind fd addr → socket_behind S p fd ≡ Some d → IsNewName S addr name →
      NamesIt S p request d name
  by_passcred : (fd : Fd) (value : ℕ) → request ≡ Request.SetOpt fd SockOpt.PassCred value → value ≢ 0 → socket_behind S p fd ≡ Some d →
      IsNewName S Addr.Unnamed name → NamesIt S p request d name

-- The own name of a socket that stays is as before, or such a call gave it to one that had none.
abbrev pub NamesAreGiven : Type 0
NamesAreGiven = (boot : State) (entries : List Entry) (j d : ℕ) (e : Entry) (s t : Socket) → IsLegal boot entries →
    slice_get entries j ≡ Some e → socket_at (before boot entries j) d ≡ Some s → socket_at (before boot entries (suc j)) d ≡ Some t →
    (t.name ≡ s.name) ⊎ ((s.name ≡ Addr.Unnamed) × NamesIt (before boot entries j) e.pid.0 e.request d t.name)

-- A call names one socket at most.
abbrev pub OneIsNamed : Type 0
OneIsNamed = (S : State) (p c d : ℕ) (request : Request) (a b : Addr) → NamesIt S p request c a → NamesIt S p request d b → c ≡ d

-- A name of the abstract namespace that was nobody's is given by such a call too.
abbrev pub AbstractNamesAreAsked : Type 0
AbstractNamesAreAsked = (boot : State) (entries : List Entry) (j d : ℕ) (e : Entry) (name : Name) → IsLegal boot entries →
    slice_get entries j ≡ Some e → named name (before boot entries j).abstract_names ≡ None →
    named name (before boot entries (suc j)).abstract_names ≡ Some d →
    NamesIt (before boot entries j) e.pid.0 e.request d (Addr.Abstract name)

-- Nor does a path come to lead to a socket otherwise.
abbrev pub PathsAreAsked : Type 0
PathsAreAsked = (boot : State) (entries : List Entry) (j d : ℕ) (e : Entry) (path : Name) → IsLegal boot entries →
    slice_get entries j ≡ Some e → named path (before boot entries j).paths ≢ Some (bound d) →
    named path (before boot entries (suc j)).paths ≡ Some (bound d) → NamesIt (before boot entries j) e.pid.0 e.request d (Addr.Path path)

-- A bind to this address finds socket d, which is s, without a name, and leaves it t, with a name that was asked for and that leads to it.
pub record IsBound (S : State) (addr : Addr) (d : ℕ) (s t : Socket) (T : State) : Type 0 where
  pub nameless : s.name ≡ Addr.Unnamed
  pub asked : IsNewName S addr t.name
  pub leads : look_up T t.kind t.name ≡ Ok (d, t)

-- So does each that is answered ok.
abbrev pub BindsName : Type 0
BindsName = (boot : State) (entries : List Entry) (j d : ℕ) (e : Entry) (fd : Fd) (addr : Addr) (s t : Socket) → IsLegal boot entries →
    slice_get entries j ≡ Some e → e.request ≡ Request.Bind fd addr → e.reply ≡ Reply.Ok →
    find_socket (before boot entries j) e.pid.0 fd ≡ Ok (d, s) → socket_at (before boot entries (suc j)) d ≡ Some t →
    IsBound (before boot entries j) addr d s t (before boot entries (suc j))

-- A new socket has no name, but the server's end that a connect makes: that has its listener's.
pub data HasNameAnew (S : State) (p : ℕ) (request : Request) (name : Addr) : Type 0 where
  none : name ≡ Addr.Unnamed → HasNameAnew S p request name
  of_listener : (fd : Fd) (addr : Addr) (d l : ℕ) (s listener : Socket) → request ≡ Request.Connect fd addr →
      find_socket S p fd ≡ Ok (d, s) → look_up S s.kind addr ≡ Ok (l, listener) → name ≡ listener.name → HasNameAnew S p request name

abbrev pub NewSocketsHaveNoName : Type 0
NewSocketsHaveNoName = (boot : State) (entries : List Entry) (j d : ℕ) (e : Entry) (t : Socket) → IsLegal boot entries →
    slice_get entries j ≡ Some e → socket_at (before boot entries j) d ≡ None → socket_at (before boot entries (suc j)) d ≡ Some t →
    HasNameAnew (before boot entries j) e.pid.0 e.request t.name
