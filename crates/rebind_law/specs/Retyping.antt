-- Calls that name another method, by the typing of the method that they stand in (this project's profile): the receiver's kind
-- fits the class of the other method, which has the same signature and is no constructor.
use Rattle.std.specs.Prelude.{◌≡◌, true, false, Option, Some, None, Contains}
use Rattle.dalvik_defs.specs.Silence.{key_in}
use Rattle.dalvik_defs.specs.declared.names.MethodKey.{MethodKey}
use Rattle.dalvik_defs.specs.declared.forms.Form.{Form}
use Rattle.dalvik_defs.specs.declared.program.NamedBody.{NamedBody}
use Rattle.dalvik_defs.specs.declared.program.NamedClass.{NamedClass}
use Rattle.dalvik_defs.specs.declared.program.NamedMethod.{NamedMethod}
use Rattle.dalvik_defs.specs.declared.program.NamedProgram.{NamedProgram}
use Rattle.pass_defs.specs.Demands.{is_constructor_name}
use Rattle.pass_defs.specs.Kinds.{fits}
use Rattle.pass_defs.specs.Registers.{Kinds, kind_at}
use Rattle.pass_defs.specs.Typed.{Table, state_at, IsTyping, wrong_method}
use Rattle.rebind_law.specs.Receivers.{Renames, IsChanged}

-- The other name is no constructor's, of the same signature, and of a method that isn't static.
pub record Retypes (p : NamedProgram) (a : Kinds) (f f' : Form) : Type 0 where
  pub call : Renames f f'
  pub ordinary : is_constructor_name call.new.name ≡ false
  pub signature : call.new.signature ≡ call.old.signature
  pub right : wrong_method p call.kind' call.new ≡ false
  pub fits : fits p (kind_at a.registers call.on) call.new.class ≡ true

-- so it is at each position of a body that is changed, where a typing of it has kinds
pub record IsRetyped (p : NamedProgram) (c : NamedClass) (m : NamedMethod) (b d : NamedBody) : Type 0 where
  pub table : Table
  pub typing : IsTyping p c m b table
  pub changed : IsChanged (λ n f f'. (a : Kinds) → state_at table n ≡ Some a → Retypes p a f f') b d

-- a method with other code, where it has any
pub data Retyped (p : NamedProgram) (k : MethodKey) : Option NamedBody → Option NamedBody → Type 0 where
  NoCode : Retyped p k None None
  Kept : (b : NamedBody) → Retyped p k (Some b) (Some b)
  Changed : (b d : NamedBody) → ((c : NamedClass) (m : NamedMethod) → Contains p.classes c → Contains c.methods m → k ≡ key_in c m → m.body ≡ Some b → IsRetyped p c m b d) → Retyped p k (Some b) (Some d)
