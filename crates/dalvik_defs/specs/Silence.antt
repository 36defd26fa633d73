-- The program without its silent calls (ProGuard manual, "-assumenosideeffects").
use Rattle.std.specs.Prelude.{Bool, true, false, ◌&&◌, not, List, [], ◌∷◌, map}
use Rattle.std.specs.Option.{option_map}
use Rattle.insn_set.specs.declared.ops.InvokeKind.TheVariants as call
use Rattle.dalvik_defs.specs.Find.{Search, Nothing, Clash, Finds, finds_statically}
use Rattle.dalvik_defs.specs.Outer.{Outer}
use Rattle.dalvik_defs.specs.declared.names.MethodKey.{MethodKey}
use Rattle.dalvik_defs.specs.declared.forms.Form.{Form}
use Rattle.dalvik_defs.specs.declared.forms.Form.TheVariants as form
use Rattle.dalvik_defs.specs.declared.program.NamedBody.{NamedBody}
use Rattle.dalvik_defs.specs.declared.program.NamedMethod.{NamedMethod}
use Rattle.dalvik_defs.specs.declared.program.NamedClass.{NamedClass}
use Rattle.dalvik_defs.specs.declared.program.NamedProgram.{NamedProgram}

abbrev pub is_unfound : Search → Bool
is_unfound Nothing = true
is_unfound Clash = false
is_unfound (Finds f) = false

-- a static call of a silent method that finds no program method
abbrev pub calls_silent : NamedProgram → Outer → Form → Bool
calls_silent p o (form.Invoke call.Static k args) = o.silent k && is_unfound (finds_statically p k)
calls_silent p o form = false

abbrev pub takes_result : List Form → Bool
takes_result (form.MoveResult slot to ∷ forms) = true
takes_result forms = false

-- a call is silent whose result isn't taken
abbrev pub silenced_form : NamedProgram → Outer → Form → List Form → Form
silenced_form p o f rest = elim (calls_silent p o f && not (takes_result rest)) [ true ↦ form.Nop | false ↦ f ]

abbrev pub silenced_forms : NamedProgram → Outer → List Form → List Form
silenced_forms p o [] = []
silenced_forms p o (f ∷ fs) = silenced_form p o f fs ∷ silenced_forms p o fs

abbrev pub silenced_body : NamedProgram → Outer → NamedBody → NamedBody
silenced_body p o b = record b { forms = silenced_forms p o b.forms }

abbrev pub key_in : NamedClass → NamedMethod → MethodKey
key_in c m = record { class = c.name; name = m.name; signature = m.signature }

abbrev pub silenced_method : NamedProgram → Outer → (MethodKey → Bool) → NamedClass → NamedMethod → NamedMethod
silenced_method p o admitted c m = elim (admitted (key_in c m)) [
  | true ↦ record m { body = option_map (silenced_body p o) m.body }
  | false ↦ m
]

abbrev pub silenced_class : NamedProgram → Outer → (MethodKey → Bool) → NamedClass → NamedClass
silenced_class p o admitted c = record c { methods = map (silenced_method p o admitted c) c.methods }

-- in the admitted methods every silent call is a nop; all else stays
abbrev pub silenced : NamedProgram → Outer → (MethodKey → Bool) → NamedProgram
silenced p o admitted = record p { classes = map (silenced_class p o admitted) p.classes }
