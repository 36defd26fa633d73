-- A program by number in which methods are static and so are their calls, and what its tables get for that (Dalvik executable
-- format, "access_flags Definitions", "proto_id_item"; Dalvik bytecode, "invoke-kind").
use Rattle.std.specs.Prelude.{◌≡◌, ℕ, zero, suc, ◌<◌, ◌&&◌, ◌||◌, Bool, true, false, List, [], ◌∷◌, map, length, Option, Some, None, is_some, slice_get, bit_or, cond, Contains}
use Rattle.std.specs.List.Sorted.{IsPermutation}
use Rattle.std.specs.Option.{option_map}
use Rattle.insn_set.specs.declared.form.Insn.{Insn}
use Rattle.insn_set.specs.declared.form.Insn.TheVariants as insn
use Rattle.insn_set.specs.declared.ops.InvokeKind.TheVariants as call
use Rattle.program_model.specs.declared.body.Body.{Body}
use Rattle.program_model.specs.declared.flags.Flags.{Flags}
use Rattle.program_model.specs.declared.pools.MethodName.{MethodName}
use Rattle.program_model.specs.declared.pools.Proto.{Proto}
use Rattle.program_model.specs.declared.program.Class.{Class}
use Rattle.program_model.specs.declared.program.Field.{Field}
use Rattle.program_model.specs.declared.program.Method.{Method}
use Rattle.program_model.specs.declared.program.Program.{Program}
use Rattle.program_model.specs.declared.value.Element.{Element}
use Rattle.program_model.specs.declared.value.EncValue.{EncValue, EncValue-F, out-EncValue}
use Rattle.program_model.specs.declared.value.EncValue.TheOpen as layer
use Rattle.program_model.specs.declared.value.Mark.{Mark}
use Rattle.program_model.specs.declared.value.Note.{Note, out-Note}
use Rattle.program_model.specs.Lookups as look
use Rattle.program_model.specs.MemberRules.{is_static}
use Rattle.program_model.specs.declared.program.MethodAt.{MethodAt}
use Rattle.class_defs.specs.Finding as finding
use Rattle.dalvik_defs.specs.Find.{Found, resolves_method}
use Rattle.dalvik_defs.specs.Names.{method_eq}
use Rattle.dalvik_defs.specs.Naming.{method_at, named}
use Rattle.dalvik_defs.specs.declared.names.MethodKey.{MethodKey}
use Rattle.program_laws.specs.Others.{Pairwise}
use Rattle.run_laws.specs.Holds.{Each}

-- ---- what becomes of a program

-- the new proto of each method number that is made static, and for each method number the method made static that it resolves to
module _ (given target : ℕ → Option ℕ) where
  abbrev pub insn_edited : Insn → Insn
  insn_edited (insn.Invoke kind method args) = elim (target method) as (λ o. Insn) [ Some t ↦ insn.Invoke call.Static t args | None ↦ insn.Invoke kind method args ]
  insn_edited f = f

  abbrev pub body_edited : Body → Body
  body_edited b = record b { insns = map insn_edited b.insns }

  abbrev pub flags_edited : Flags → Flags
  flags_edited f = record { 0 = bit_or f.0 8 }

  abbrev pub marks_edited : List (List Mark) → List (List Mark)
  marks_edited [] = []
  marks_edited (ms ∷ mss) = [] ∷ ms ∷ mss

  abbrev pub self_edited : Method → Method
  self_edited m = elim (is_some (given m.name)) as (λ b. Method) [ true ↦ record m { flags = flags_edited m.flags; parameter_marks = marks_edited m.parameter_marks } | false ↦ m ]

  abbrev pub method_edited : Method → Method
  method_edited m = record (self_edited m) { body = option_map body_edited m.body }

  -- the methods of a class, perhaps in another order
  pub record EditedClass (c d : Class) : Type 0 where
    pub rest : d ≡ record c { methods = d.methods }
    pub methods : IsPermutation (map method_edited c.methods) d.methods

  -- a method number with its new proto
  abbrev pub name_edited : ℕ → MethodName → MethodName
  name_edited n m = elim (given n) as (λ o. MethodName) [ Some k ↦ record m { proto = k } | None ↦ m ]

  -- The proto at a number is that of a method with its class in front of the parameters.
  pub record IsNewProto (q : Program) (m : MethodName) (x : Proto) (k : ℕ) : Type 0 where
    pub proto : Proto
    pub there : slice_get q.protos k ≡ Some proto
    pub result : proto.result ≡ x.result
    pub parameters : proto.parameters ≡ m.class ∷ x.parameters

  -- What stood in the tables stands there still, methods have their new protos, and classes the same members but for that.
  pub record IsEdited (p q : Program) : Type 0 where
    pub version : q.version ≡ p.version
    pub strings : (n : ℕ) (t : List ℕ) → slice_get p.strings n ≡ Some t → slice_get q.strings n ≡ Some t
    pub types : q.types ≡ p.types
    pub protos : (n : ℕ) (x : Proto) → slice_get p.protos n ≡ Some x → slice_get q.protos n ≡ Some x
    pub fields : q.fields ≡ p.fields
    pub methods : (n : ℕ) → slice_get q.methods n ≡ option_map (name_edited n) (slice_get p.methods n)
    pub new : (n k : ℕ) (m : MethodName) (x : Proto) → given n ≡ Some k → slice_get p.methods n ≡ Some m → slice_get p.protos m.proto ≡ Some x → IsNewProto q m x k
    pub classes : Pairwise EditedClass p.classes q.classes

-- ---- which methods are made static, by name

-- some number below a bound passes
abbrev pub any_below : ℕ → (ℕ → Bool) → Bool
any_below zero test = false
any_below (suc n) test = test n || any_below n test

-- the names of the method numbers that are made static
abbrev pub loose_in : Program → (ℕ → Option ℕ) → MethodKey → Bool
loose_in p given k = any_below (length p.methods) (λ n. is_some (given n) && method_eq (method_at p n) k)

-- ---- what a plan owes

-- the method numbers that a value names, in values that nest so deep
abbrev pub layer_names : (EncValue → Type 0) → (ℕ → Type 0) → EncValue-F EncValue Element Note → Type 0
layer_names inner P (layer.Method n) = P n
layer_names inner P (layer.Array values) = Each inner values
layer_names inner P (layer.Annotation note) = Each (λ (e : Element). inner e.value) (out-Note note).elements
layer_names inner P x = Unit {0}

abbrev pub value_names : (ℕ → Type 0) → ℕ → EncValue → Type 0
value_names P zero v = Unit {0}
value_names P (suc depth) v = layer_names (value_names P depth) P (out-EncValue v)

abbrev pub note_names : (ℕ → Type 0) → Note → Type 0
note_names P n = Each (λ (e : Element). value_names P 64 e.value) (out-Note n).elements

abbrev pub marks_name : (ℕ → Type 0) → List Mark → Type 0
marks_name P ms = Each (λ (m : Mark). note_names P m.note) ms

-- A class's annotations name no method that is made static, and these methods have a receiver.
pub record LetsClass (given : ℕ → Option ℕ) (c : Class) : Type 0 where
  pub marks : marks_name (λ n. given n ≡ None) c.marks
  pub fields : (f : Field) → Contains c.fields f → marks_name (λ n. given n ≡ None) f.marks
  pub methods : (m : Method) → Contains c.methods m → (marks_name (λ n. given n ≡ None) m.marks) × (Each (marks_name (λ n. given n ≡ None)) m.parameter_marks)
  pub receivers : (m : Method) → Contains c.methods m → is_some (given m.name) ≡ true → is_static m.flags ≡ false

-- the method made static that a number resolves to
abbrev pub target_method : (ℕ → Option ℕ) → Option Method → Option ℕ
target_method given None = None
target_method given (Some m) = cond (is_some (given m.name)) (Some m.name) None

abbrev pub target_at : Program → (ℕ → Option ℕ) → Option MethodAt → Option ℕ
target_at p given None = None
target_at p given (Some at) = target_method given (look.method_at p at)

abbrev pub target_of : Program → (ℕ → Option ℕ) → ℕ → Option ℕ
target_of p given n = target_at p given (finding.resolves_method p n)

-- the number is that of a method of the program
pub record IsOwn (p : Program) (n : ℕ) : Type 0 where
  pub class_place : ℕ
  pub class : Class
  pub place : ℕ
  pub method : Method
  pub is_class : slice_get p.classes class_place ≡ Some class
  pub is_method : slice_get class.methods place ≡ Some method
  pub number : method.name ≡ n

-- What a method number resolves to, where that is made static.
pub record IsPlanned (p : Program) (given target : ℕ → Option ℕ) : Type 0 where
  pub inside : (n k : ℕ) → given n ≡ Some k → slice_get p.methods n ≡ None → ⊥
  pub found : (n t : ℕ) → target n ≡ Some t → (g : Found) × ((resolves_method (named p) (method_at p n) ≡ Some g) × ((g.key ≡ method_at p t) × (is_some (given t) ≡ true)))
  pub itself : (n : ℕ) → target n ≡ None → is_some (given n) ≡ false
  pub others : (n : ℕ) (g : Found) → n < length p.methods → target n ≡ None → resolves_method (named p) (method_at p n) ≡ Some g → loose_in p given g.key ≡ false
  pub lets : (class : ℕ) (c : Class) → slice_get p.classes class ≡ Some c → LetsClass given c
