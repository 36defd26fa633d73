-- A program of which some calls ask for a receiver under a class: they name a method of that class which no class defines. It is
-- asked about typings alone, and never run.
use Rattle.std.specs.Prelude.{◌≡◌, ℕ, suc, true, false, List, [], ◌∷◌, Option, Some, None, replicate, length, sum_by, Contains}
use Rattle.std.specs.Option.{option_map}
use Rattle.insn_set.specs.declared.ops.InvokeKind.{InvokeKind}
use Rattle.dalvik_defs.specs.Face.{bodies_of}
use Rattle.dalvik_defs.specs.Find.{Found, Finds}
use Rattle.dalvik_defs.specs.Names.{Text, is_class_type}
use Rattle.dalvik_defs.specs.Silence.{key_in}
use Rattle.dalvik_defs.specs.Under.{is_own_under}
use Rattle.dalvik_defs.specs.declared.names.MethodKey.{MethodKey}
use Rattle.dalvik_defs.specs.declared.forms.Form.{Form}
use Rattle.dalvik_defs.specs.declared.forms.Form.TheVariants as form
use Rattle.dalvik_defs.specs.declared.program.NamedBody.{NamedBody}
use Rattle.dalvik_defs.specs.declared.program.NamedClass.{NamedClass}
use Rattle.dalvik_defs.specs.declared.program.NamedMethod.{NamedMethod}
use Rattle.dalvik_defs.specs.declared.program.NamedProgram.{NamedProgram}
use Rattle.pass_defs.specs.Bindable.{is_virtual_call}
use Rattle.pass_defs.specs.Demands.{is_constructor_name}
use Rattle.pass_defs.specs.Kinds.{Class, is_plain}
use Rattle.pass_defs.specs.Registers.{Kinds, kind_at}
use Rattle.pass_defs.specs.Typed.{Table, state_at, IsTyping}
use Rattle.pass_defs.specs.Walks.{form_at}
use Rattle.program_laws.specs.Bodies.{Change, same_lines, changed}
use Rattle.rebind_law.specs.Receivers.{finds_listed}

-- the class that the call at a position of a method asks for
abbrev pub Asks : Type 0
Asks = MethodKey → ℕ → Option Text

abbrev pub asking_key : Text → Text → MethodKey → MethodKey
asking_key name t k = record { class = t; name = name; signature = k.signature }

abbrev pub asking : Text → Option Text → Form → Form
asking name None f = f
asking name (Some t) (form.Invoke kind k args) = form.Invoke kind (asking_key name t k) args
asking name (Some t) f = f

abbrev pub asking_from : Text → (ℕ → Option Text) → ℕ → List Form → List Form
asking_from name asks n [] = []
asking_from name asks n (f ∷ fs) = asking name (asks n) f ∷ asking_from name asks (suc n) fs

abbrev pub asking_body : Text → (ℕ → Option Text) → NamedBody → NamedBody
asking_body name asks b = record b { forms = asking_from name asks 0 b.forms }

abbrev pub asking_change : Text → Asks → Change
asking_change name asks c m = same_lines m (option_map (asking_body name (asks (key_in c m))) m.body)

-- how long the names of all methods are
abbrev pub class_letters : NamedClass → ℕ
class_letters c = sum_by (λ (m : NamedMethod). length m.name) c.methods

abbrev pub letters : NamedProgram → ℕ
letters p = sum_by class_letters p.classes

-- a name that is longer, so that no method has it
abbrev pub no_name : NamedProgram → Text
no_name p = replicate (suc (letters p)) 120

abbrev pub asking_program : Asks → NamedProgram → NamedProgram
asking_program asks p = changed (asking_change (no_name p) asks) p

-- A virtual or interface call asks for a class that is no interface, and all classes under it find one method with code by the
-- name that the call has.
pub record AskedCall (p : NamedProgram) (t : Text) (f : Form) : Type 0 where
  pub kind : InvokeKind
  pub key : MethodKey
  pub on : ℕ
  pub args : List ℕ
  pub is : f ≡ form.Invoke kind key (on ∷ args)
  pub virtual : is_virtual_call kind ≡ true
  pub key_type : is_class_type key.class ≡ true
  pub ordinary : is_constructor_name key.name ≡ false
  pub plain : is_plain p t ≡ true
  pub found : Found
  pub coded : found.coded ≡ true
  pub finds : (u : NamedClass) → Contains p.classes u → is_own_under p u.name t ≡ true → finds_listed p u.name key ≡ Finds found

-- a typing of a body gives receivers the classes that are asked for
pub record KnowsReceivers (p : NamedProgram) (asks : ℕ → Option Text) (c : NamedClass) (m : NamedMethod) (b : NamedBody) : Type 0 where
  pub table : Table
  pub typing : IsTyping p c m b table
  pub known : (n : ℕ) (f : Form) (t : Text) (a : Kinds) (call : AskedCall p t f) → form_at b n ≡ Some f → asks n ≡ Some t → state_at table n ≡ Some a → kind_at a.registers call.on ≡ Class t

-- so it is wherever a class is asked for
pub record AreAsked (p : NamedProgram) (asks : Asks) : Type 0 where
  pub calls : (k : MethodKey) (b : NamedBody) (n : ℕ) (f : Form) (t : Text) → bodies_of p k ≡ Some b → form_at b n ≡ Some f → asks k n ≡ Some t → AskedCall p t f
  pub typed : (c : NamedClass) (m : NamedMethod) (b : NamedBody) → Contains p.classes c → Contains c.methods m → m.body ≡ Some b → KnowsReceivers p (asks (key_in c m)) c m b
