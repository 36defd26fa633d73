-- Why calls may name another method: by facts of their receivers, or by the kinds of these in a typing (this project's profile).
use Rattle.std.specs.Prelude.{◌≡◌, ℕ, true, Option, Some, None, Contains}
use Rattle.dalvik_defs.specs.Find.{Found}
use Rattle.dalvik_defs.specs.Names.{Text}
use Rattle.dalvik_defs.specs.Silence.{key_in}
use Rattle.dalvik_defs.specs.Under.{is_own_under}
use Rattle.dalvik_defs.specs.declared.names.MethodKey.{MethodKey}
use Rattle.dalvik_defs.specs.declared.forms.Form.{Form}
use Rattle.dalvik_defs.specs.declared.program.NamedBody.{NamedBody}
use Rattle.dalvik_defs.specs.declared.program.NamedClass.{NamedClass}
use Rattle.dalvik_defs.specs.declared.program.NamedMethod.{NamedMethod}
use Rattle.dalvik_defs.specs.declared.program.NamedProgram.{NamedProgram}
use Rattle.domains.specs.Values.{Parts}
use Rattle.pass_defs.specs.Facts.{Facts}
use Rattle.pass_defs.specs.Kinds.{Class, is_plain}
use Rattle.pass_defs.specs.Registers.{Kinds, kind_at}
use Rattle.pass_defs.specs.Typed.{Table, state_at, IsTyping}
use Rattle.rebind_law.specs.Receivers.{Renames, FindsListed, BoundByPlaces, IsChanged}
use Rattle.rebind_law.specs.Retyping.{Retypes}

-- By the kind of the receiver: all classes under the class that a typing gives it find one method with code by both names.
pub record BoundByKind (p : NamedProgram) (table : Table) (n : ℕ) (f f' : Form) : Type 0 where
  pub call : Renames f f'
  pub found : Found
  pub coded : found.coded ≡ true
  pub class : Text
  pub plain : is_plain p class ≡ true
  pub known : (a : Kinds) → state_at table n ≡ Some a → kind_at a.registers call.on ≡ Class class
  pub finds : (u : NamedClass) → Contains p.classes u → is_own_under p u.name class ≡ true → FindsListed p call.old call.new found u.name

-- One of the two; `used` is what has to be so where facts are used.
pub data Reason (used : Type 0) (p : NamedProgram) (t : Facts Parts) (table : Table) (k : MethodKey) (n : ℕ) (f f' : Form) : Type 0 where
  ByFacts : used → BoundByPlaces p t k n f f' → Reason used p t table k n f f'
  ByKind : BoundByKind p table n f f' → Reason used p t table k n f f'

-- A call names another method for a reason, and the typing allows it.
pub record Rebound (used : Type 0) (p : NamedProgram) (t : Facts Parts) (table : Table) (k : MethodKey) (n : ℕ) (f f' : Form) : Type 0 where
  pub reason : Reason used p t table k n f f'
  pub retypes : (a : Kinds) → state_at table n ≡ Some a → Retypes p a f f'

-- the code of a method in which calls name another method for reasons, by a typing of it
pub record ReboundBody (used : Type 0) (p : NamedProgram) (t : Facts Parts) (c : NamedClass) (m : NamedMethod) (b d : NamedBody) : Type 0 where
  pub table : Table
  pub typing : IsTyping p c m b table
  pub changed : IsChanged (Rebound used p t table (key_in c m)) b d

-- the same code, or such code, where there is any
pub data ReboundCode (used : Type 0) (p : NamedProgram) (t : Facts Parts) (k : MethodKey) : Option NamedBody → Option NamedBody → Type 0 where
  NoCode : ReboundCode used p t k None None
  Kept : (b : NamedBody) → ReboundCode used p t k (Some b) (Some b)
  Changed : (c : NamedClass) (m : NamedMethod) (b d : NamedBody) → Contains p.classes c → Contains c.methods m → k ≡ key_in c m → m.body ≡ Some b → ReboundBody used p t c m b d → ReboundCode used p t k (Some b) (Some d)
