-- What code says that matters to a table of shut methods: of which classes it makes objects, and which methods of classes that
-- the program doesn't define it calls by their receivers.
use Rattle.std.specs.Prelude.{◌≡◌, Bool, true, false, if◌then◌else◌, Option, Some, None}
use Rattle.std.specs.List.{list_any}
use Rattle.insn_set.specs.declared.ops.InvokeKind.TheVariants as call
use Rattle.dalvik_defs.specs.Names.{Text}
use Rattle.dalvik_defs.specs.Under.{defines}
use Rattle.dalvik_defs.specs.declared.names.MethodKey.{MethodKey}
use Rattle.dalvik_defs.specs.declared.forms.Form.{Form}
use Rattle.dalvik_defs.specs.declared.forms.Form.TheVariants as form
use Rattle.dalvik_defs.specs.declared.program.NamedBody.{NamedBody}
use Rattle.dalvik_defs.specs.declared.program.NamedProgram.{NamedProgram}
use Rattle.program_laws.specs.Others.{Codes}

pub data Said : Type 0 where
  Quiet : Said
  Makes : (class : Text) → Said
  Calls : (method : MethodKey) → Said

-- a call by the receiver
abbrev pub called : NamedProgram → MethodKey → Said
called p k = if defines p k.class then Quiet else Calls k

abbrev pub said : NamedProgram → Form → Said
said p (form.NewInstance to kind) = Makes kind
said p (form.Invoke call.Virtual method args) = called p method
said p (form.Invoke call.Interface method args) = called p method
said p form = Quiet

-- whether some form of a body says such a thing
abbrev pub any_said : NamedProgram → (Said → Bool) → Option NamedBody → Bool
any_said p test o = elim o [ Some b ↦ list_any (λ x. test (said p x)) b.forms | None ↦ false ]

-- what the one code says the other said
abbrev pub SaysNoMore : NamedProgram → Codes
SaysNoMore p k a b = (test : Said → Bool) → test Quiet ≡ false → any_said p test b ≡ true → any_said p test a ≡ true
