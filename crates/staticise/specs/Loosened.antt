-- Programs in which methods are made static, by number (Dalvik executable format, "access_flags Definitions"; Dalvik bytecode,
-- "invoke-kind").
use Rattle.std.specs.Prelude.{◌≡◌, ℕ, ◌<◌, ◌≤◌, Bool, true, false, List, [], ◌∷◌, ◌++◌, map, length, Option, Some, None, is_some, slice_get, slice_index_or, bit_or, cond}
use Rattle.std.specs.List.{list_all, count_by}
use Rattle.std.specs.List.Sorted.{IsPermutation}
use Rattle.insn_set.specs.declared.ops.InvokeKind.TheVariants as call
use Rattle.insn_set.specs.declared.form.Insn.{Insn}
use Rattle.insn_set.specs.declared.form.Insn.TheVariants as insn
use Rattle.program_model.specs.declared.value.Mark.{Mark}
use Rattle.program_model.specs.declared.flags.Flags.{Flags}
use Rattle.program_model.specs.declared.pools.MethodName.{MethodName}
use Rattle.program_model.specs.declared.pools.Proto.{Proto}
use Rattle.program_model.specs.declared.body.Body.{Body}
use Rattle.program_model.specs.declared.program.Method.{Method}
use Rattle.program_model.specs.declared.program.MethodAt.{MethodAt}
use Rattle.program_model.specs.declared.program.Class.{Class}
use Rattle.program_model.specs.declared.program.Program.{Program}
use Rattle.program_model.specs.declared.pass.Outside.{Outside}
use Rattle.program_model.specs.declared.pass.Changed.{Changed}
use Rattle.program_model.specs.Lookups.{method_at}
use Rattle.program_model.specs.MemberRules.{methods_in_order}
use Rattle.program_model.specs.Neighbours.{neighbours}
use Rattle.class_defs.specs.Finding.{resolves_method}
use Rattle.facts.specs.declared.facts.Facts.{Facts}
use Rattle.static_protos.specs.Tables.{Tables}
use Rattle.staticise.specs.Judging.{judged}

-- ---- tables of new protos by method number

-- the new proto of a method that is made static
abbrev pub given_at : List (Option ℕ) → ℕ → Option ℕ
given_at given n = slice_index_or given n None

abbrev pub is_given : List (Option ℕ) → ℕ → Bool
is_given given n = is_some (given_at given n)

-- ---- calls and methods

abbrev pub target_method : List (Option ℕ) → Option Method → Option ℕ
target_method given None = None
target_method given (Some m) = cond (is_given given m.name) (Some m.name) None

abbrev pub target_at : Program → List (Option ℕ) → Option MethodAt → Option ℕ
target_at p given None = None
target_at p given (Some at) = target_method given (method_at p at)

-- the method made static that a number resolves to
abbrev pub target_of : Program → List (Option ℕ) → ℕ → Option ℕ
target_of p given method = target_at p given (resolves_method p method)

-- a call of a method that is made static is a static one of its number
abbrev pub insn_loosened : Program → List (Option ℕ) → Insn → Insn
insn_loosened p given (insn.Invoke kind method args) = elim (target_of p given method) [ Some target ↦ insn.Invoke call.Static target args | None ↦ insn.Invoke kind method args ]
insn_loosened p given f = f

abbrev pub body_loosened : Program → List (Option ℕ) → Body → Body
body_loosened p given b = record b { insns = map (insn_loosened p given) b.insns }

abbrev pub code_loosened : Program → List (Option ℕ) → Option Body → Option Body
code_loosened p given None = None
code_loosened p given (Some b) = Some (body_loosened p given b)

-- the class gets no annotations as a parameter
abbrev pub marks_loosened : List (List Mark) → List (List Mark)
marks_loosened [] = []
marks_loosened (ms ∷ mss) = [] ∷ ms ∷ mss

abbrev pub flags_loosened : Flags → Flags
flags_loosened f = record { 0 = bit_or f.0 8 }

abbrev pub self_loosened : List (Option ℕ) → Method → Method
self_loosened given m = elim (is_given given m.name) [ true ↦ record m { flags = flags_loosened m.flags; parameter_marks = marks_loosened m.parameter_marks } | false ↦ m ]

-- a method that is static if it is to be, and its calls
abbrev pub method_loosened : Program → List (Option ℕ) → Method → Method
method_loosened p given m = let n : Method = self_loosened given m in record n { body = code_loosened p given n.body }

-- The methods of a class, the direct ones first and each group by number.
pub record IsLoosenedClass (p : Program) (given : List (Option ℕ)) (c d : Class) : Type 0 where
  pub rest : d ≡ record c { methods = d.methods }
  pub methods : IsPermutation (map (method_loosened p given) c.methods) d.methods
  pub ordered : list_all (methods_in_order p) (neighbours d.methods) ≡ true

-- the relation holds of the items at the same places of two lists
pub record AreEach {A : Type 0} (R : A → A → Type 0) (xs ys : List A) : Type 0 where
  pub long : length ys ≡ length xs
  pub each : (k : ℕ) (x : A) → slice_get xs k ≡ Some x → (y : A) × (slice_get ys k ≡ Some y) × R x y

-- the relation holds of the first items, and the others are the same
pub record AreEdited {A : Type 0} (R : A → A → Type 0) (upto : ℕ) (old new : List A) : Type 0 where
  pub long : length new ≡ length old
  pub done : (k : ℕ) (x : A) → k < upto → slice_get old k ≡ Some x → (y : A) × (slice_get new k ≡ Some y) × R x y
  pub rest : (k : ℕ) → upto ≤ k → slice_get new k ≡ slice_get old k

-- ---- tables

-- a method number with its new proto
abbrev pub name_with : MethodName → Option ℕ → MethodName
name_with q None = q
name_with q (Some proto) = record q { proto = proto }

abbrev pub names_with : List (Option ℕ) → List MethodName → List MethodName
names_with [] qs = qs
names_with (o ∷ os) [] = []
names_with (o ∷ os) (q ∷ qs) = name_with q o ∷ names_with os qs

-- the strings and the protos with what is appended, and methods with their new protos
abbrev pub extended_so : List (List ℕ) → List Proto → List (Option ℕ) → Program → Program
extended_so strings protos given p = record p { strings = p.strings ++ strings; protos = p.protos ++ protos; methods = names_with given p.methods }

abbrev pub extended : Tables → Program → Program
extended t p = record p { strings = t.strings; protos = t.protos; methods = names_with t.given p.methods }

-- A program with methods made static: what the tables get stands behind what they had, methods have their new protos, and
-- classes have the same members but for that.
pub record IsLoosenedBy (p : Program) (t : Tables) (q : Program) : Type 0 where
  pub classes : AreEach (IsLoosenedClass p t.given) p.classes q.classes
  pub rest : q ≡ record (extended t p) { classes = q.classes }

-- how many methods are made static
abbrev pub count_given : Tables → ℕ
count_given t = count_by is_some t.given

-- What the pass answers: just the loose methods are static, judged in class and method order.
pub record IsStaticisedBy (p : Program) (facts : Facts) (o : Outside) (admitted : List Bool) (c : Changed) : Type 0 where
  pub count : c.count ≡ count_given (judged p facts o admitted)
  pub same : c.count ≡ 0 → c.program ≡ p
  pub loosened : 0 < c.count → IsLoosenedBy p (judged p facts o admitted) c.program
  pub origins : c.origins ≡ []
