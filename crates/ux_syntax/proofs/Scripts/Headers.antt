-- The script of a header alone.
use Rattle.std.proofs.Common.{◌≡◌, Bool, false}
use Rattle.std.proofs.Common.{List, [], ◌∷◌, ◌++◌, refl, ap}
use Rattle.ux_model.specs.Types.{ProcSpec}
use Rattle.ux_syntax.specs.declared.script.ObjectLine.{ObjectLine}
use Rattle.ux_syntax.specs.declared.script.Header.{Header}
use Rattle.ux_syntax.specs.Spelling.{Plan}
use Rattle.ux_syntax.specs.Spelling.{objects_of, procs_of}
use Rattle.ux_syntax.specs.Reading.{with_header}

-- the script of a header alone
abbrev pub plan_from : Bool → List Header → Plan
plan_from serial hs = record { serial = serial; objects = objects_of hs; procs = procs_of hs; lines = []; off = false }

objects_more : (hs : List Header) (o : ObjectLine) → objects_of (hs ++ Header.Object o ∷ []) ≡ objects_of hs ++ o ∷ []
objects_more [] o = refl
objects_more (Header.Object p ∷ hs) o = ap (λ (ps : List ObjectLine). p ∷ ps) (objects_more hs o)
objects_more (Header.Proc p ∷ hs) o = objects_more hs o

objects_same : (hs : List Header) (p : ProcSpec) → objects_of (hs ++ Header.Proc p ∷ []) ≡ objects_of hs
objects_same [] p = refl
objects_same (Header.Object o ∷ hs) p = ap (λ (os : List ObjectLine). o ∷ os) (objects_same hs p)
objects_same (Header.Proc q ∷ hs) p = objects_same hs p

procs_more : (hs : List Header) (p : ProcSpec) → procs_of (hs ++ Header.Proc p ∷ []) ≡ procs_of hs ++ p ∷ []
procs_more [] p = refl
procs_more (Header.Object o ∷ hs) p = procs_more hs p
procs_more (Header.Proc q ∷ hs) p = ap (λ (ps : List ProcSpec). q ∷ ps) (procs_more hs p)

procs_same : (hs : List Header) (o : ObjectLine) → procs_of (hs ++ Header.Object o ∷ []) ≡ procs_of hs
procs_same [] o = refl
procs_same (Header.Object p ∷ hs) o = procs_same hs o
procs_same (Header.Proc q ∷ hs) o = ap (λ (ps : List ProcSpec). q ∷ ps) (procs_same hs o)

pub no_headers : (hs : List Header) → objects_of hs ≡ [] → procs_of hs ≡ [] → hs ≡ []
no_headers [] o p = refl
no_headers (Header.Object x ∷ hs) o p = absurd cc
no_headers (Header.Proc x ∷ hs) o p = absurd cc

pub header_more : (serial : Bool) (hs : List Header) (h : Header) → plan_from serial (hs ++ h ∷ []) ≡ with_header (plan_from serial hs) h
header_more serial hs (Header.Object o) = rw (objects_more hs o, procs_same hs o) refl
header_more serial hs (Header.Proc p) = rw (objects_same hs p, procs_more hs p) refl

-- the script is that of its header, if it says nothing else
pub plan_is : (s : Plan) (hs : List Header) → objects_of hs ≡ s.objects → procs_of hs ≡ s.procs → s.lines ≡ [] → s.off ≡ false →
    s ≡ plan_from s.serial hs
plan_is s hs o p l f = rw (o, p, ← l, ← f) refl
