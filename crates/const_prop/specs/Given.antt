-- What calls bring by what the facts say of the methods that they may find (Dalvik bytecode, "invoke-kind"; Dalvik executable
-- format, version 037).
use Rattle.std.specs.Prelude.{ℕ, ◌&&◌, not, nat_eq, if◌then◌else◌, List, [], ◌∷◌, fold, Option, Some, None, slice_get, slice_index_or}
use Rattle.insn_set.specs.declared.ops.InvokeKind.{InvokeKind}
use Rattle.insn_set.specs.declared.ops.InvokeKind.TheVariants as call
use Rattle.insn_set.specs.declared.form.Insn.{Insn}
use Rattle.insn_set.specs.declared.form.Insn.TheVariants as insn
use Rattle.program_model.specs.declared.pools.MethodName.{MethodName}
use Rattle.program_model.specs.declared.program.Method.{Method}
use Rattle.program_model.specs.declared.program.MethodAt.{MethodAt}
use Rattle.program_model.specs.declared.program.Program.{Program}
use Rattle.program_model.specs.Lookups.{class_place, method_at}
use Rattle.class_defs.specs.Finding.{Search, Nothing, Clash, Finds, finds_from, finds_virtual, finds_at, candidates, is_037}
use Rattle.class_defs.specs.Members.{own_virtual, is_interface}
use Rattle.class_defs.specs.Places.{super_place, is_under}
use Rattle.hierarchy.specs.Naming.{definers_of}
use Rattle.hierarchy.specs.Touring.{subclasses_of}
use Rattle.domains.specs.Values.{Parts, least_value, any_value, value_joined}
use Rattle.facts.specs.declared.facts.Facts.{Facts}
use Rattle.facts.specs.Lent.{frame_at}
use Rattle.const_prop.specs.declared.numbers.Number.{Number}
use Rattle.const_prop.specs.Known.{field_value, number_by}

module _ (p : Program) (facts : Facts) where
  abbrev pub method_value : Option Method → Parts
  method_value (Some m) = elim m.body [ Some b ↦ slice_index_or facts.results.items m.name facts.any | None ↦ any_value ]
  method_value None = any_value

  -- what a method that was found can give: anything where it has no code
  abbrev pub found_value : Option MethodAt → Parts
  found_value (Some at) = method_value (method_at p at)
  found_value None = any_value

  abbrev pub with_found : Parts → MethodAt → Parts
  with_found v at = value_joined v (found_value (Some at))

  abbrev pub with_maybe : Parts → Option MethodAt → Parts
  with_maybe v (Some at) = with_found v at
  with_maybe v None = v

  -- what a class under another one defines
  abbrev pub with_definer : ℕ → ℕ → ℕ → Parts → ℕ → Parts
  with_definer name proto class v definer = if not (nat_eq definer class) && is_under p definer class then with_maybe v (own_virtual p name proto definer) else v

  -- what a look-up gives: anything where it finds nothing, and nothing where candidates clash
  abbrev pub search_value : Search → Parts
  search_value Nothing = any_value
  search_value Clash = least_value
  search_value (Finds at) = found_value (Some at)

  -- what an object of one class more finds
  abbrev pub with_class : ℕ → ℕ → Parts → ℕ → Parts
  with_class name proto v class = value_joined v (search_value (finds_at p class name proto))

  -- what a class finds, and some others: anything where the first one finds nothing
  abbrev pub by_search : ℕ → ℕ → List ℕ → Search → Parts
  by_search name proto others Nothing = any_value
  by_search name proto others Clash = fold (with_class name proto) least_value others
  by_search name proto others (Finds at) = fold (with_class name proto) (found_value (Some at)) others

  -- Where a class has a virtual method or inherits one, each class under it finds this one or one that a class under the first
  -- one defines. Where it has none, each class under it finds what it has itself, inherits, or its interfaces give.
  abbrev pub by_found : ℕ → ℕ → ℕ → Option MethodAt → Parts
  by_found name proto class (Some at) = fold (with_definer name proto class) (found_value (Some at)) (definers_of p name proto)
  by_found name proto class None = by_search name proto (subclasses_of p class) (finds_at p class name proto)

  abbrev pub virtual_value : ℕ → ℕ → ℕ → Parts
  virtual_value name proto class = by_found name proto class (finds_virtual p name proto class)

  -- of an interface its receiver may be any object, since kinds say nothing of interfaces, and so one that finds no code
  abbrev pub receiver_value : ℕ → ℕ → ℕ → Parts
  receiver_value name proto class = if is_interface (slice_get p.classes class) then any_value else virtual_value name proto class

  abbrev pub among_value : List MethodAt → Parts
  among_value [] = any_value
  among_value (at ∷ ats) = fold with_found least_value (at ∷ ats)

  -- what is found from a superclass on
  abbrev pub above_value : ℕ → ℕ → Option ℕ → Parts
  above_value name proto (Some above) = found_value (finds_from p name proto (Some above))
  above_value name proto None = any_value

  abbrev pub super_value : ℕ → ℕ → ℕ → ℕ → Parts
  super_value caller name proto class =
      if is_interface (slice_get p.classes class) && is_037 p.version then among_value (candidates p (class ∷ []) name proto) else above_value name proto (super_place p caller)

  abbrev pub kind_value : ℕ → InvokeKind → ℕ → ℕ → ℕ → Parts
  kind_value caller call.Static name proto class = found_value (finds_from p name proto (Some class))
  kind_value caller call.Direct name proto class = found_value (finds_from p name proto (Some class))
  kind_value caller call.Super name proto class = super_value caller name proto class
  kind_value caller call.Virtual name proto class = receiver_value name proto class
  kind_value caller call.Interface name proto class = any_value

  abbrev pub named_value : ℕ → InvokeKind → Option MethodName → Parts
  named_value caller kind (Some q) = elim (class_place p q.class) [ Some class ↦ kind_value caller kind q.name q.proto class | None ↦ any_value ]
  named_value caller kind None = any_value

  -- what a call in a method of a class brings: anything where it may find a method without code, or none
  abbrev pub call_value : ℕ → InvokeKind → ℕ → Parts
  call_value caller kind method = named_value caller kind (slice_get p.methods method)

  -- what a move of a result brings behind an instruction
  abbrev pub behind : ℕ → Option Insn → Parts
  behind caller (Some (insn.Invoke kind method args)) = call_value caller kind method
  behind caller i = any_value

  -- what an instruction brings from elsewhere, behind another one
  abbrev pub given : ℕ → Option Insn → Insn → Parts
  given caller before (insn.MoveResult slot to) = behind caller before
  given caller before (insn.StaticGet item to field) = field_value p facts field
  given caller before i = any_value

  -- the number that an instruction at a position of a method, behind another one, writes
  abbrev pub number_at : ℕ → ℕ → Option Insn → ℕ → Insn → Option Number
  number_at caller method before n i = number_by p (given caller before i) (frame_at facts.frames.items method n) i
