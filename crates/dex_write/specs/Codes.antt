-- The code of methods, and their lines (Dalvik executable format, "code_item", "debug_info_item").
use Rattle.std.specs.Prelude.{◌≡◌, ℕ, suc, ◌+◌, List, [], ◌∷◌, ◌++◌, length, map, take, drop, replicate, Bool, true, false, not, ◌&&◌, nat_eq, nat_lt, nat_le, Option, Some, None, slice_get, if◌then◌else◌}
use Rattle.std.specs.List.{list_all, count_by, flat_map, AllByRecursion}
use Rattle.program_model.specs.declared.pass.Renumber.{Renumber}
use Rattle.program_model.specs.declared.body.Body.{Body}
use Rattle.program_model.specs.declared.pools.Proto.{Proto}
use Rattle.program_model.specs.declared.program.Method.{Method}
use Rattle.program_model.specs.declared.program.Class.{Class}
use Rattle.program_model.specs.declared.program.Program.{Program}
use Rattle.program_model.specs.MemberRules.{proto_of}
use Rattle.line_tables.specs.Text.{item_text}
use Rattle.relax.specs.declared.layout.Layout.{Layout}
use Rattle.relax.specs.Layouts.{IsLaidOut, IsFarAt}
use Rattle.code_write.specs.Code.{spots_of}
use Rattle.code_write.specs.Items.{code_item}
use Rattle.dex_write.specs.declared.ordered.MethodPart.{MethodPart}
use Rattle.dex_write.specs.Numbers.{words, gap, up}
use Rattle.dex_write.specs.Plans.{Plan, spot_of, ordered_fields, ordered_methods}

-- ---- the code of one method

-- positions that begin there, from this unit on, ascend and are below 2^31
abbrev pub ascend : ℕ → List ℕ → Bool
ascend low [] = true
ascend low (u ∷ us) = nat_le low u && (nat_lt u 2147483648 && ascend (suc u) us)

abbrev pub are_low : List ℕ → Bool
are_low lines = list_all (λ line. nat_lt line 2147483648) lines

abbrev pub parameters_in : Option Proto → ℕ
parameters_in None = 0
parameters_in (Some proto) = length proto.parameters

-- the debug item of these lines, nothing where there are none or no item can give them
abbrev pub lines_text : ℕ → List ℕ → List ℕ → List ℕ
lines_text parameters lines starts = if not (nat_eq (length lines) 0) && (nat_eq (length lines) (length starts) && (ascend 0 starts && are_low lines))
    then item_text lines starts parameters else []

-- a method has a code item in its least layout, and a debug item; none where it has no body or that has no layout
pub data IsCoded (p : Program) (r : Renumber) (m : Method) (code lines : List ℕ) : Type 0 where
  Bodiless : m.body ≡ None → code ≡ [] → lines ≡ [] → IsCoded p r m code lines
  Far : (body : Body) (position : ℕ) → m.body ≡ Some body → IsFarAt r body position → code ≡ [] → lines ≡ [] → IsCoded p r m code lines
  Laid : (body : Body) (layout : Layout) → m.body ≡ Some body → IsLaidOut r body layout → code ≡ code_item r body (spots_of layout) 0 → lines ≡ lines_text (parameters_in (proto_of p m.name)) m.lines layout.starts.items → IsCoded p r m code lines

abbrev pub IsCodedIn : Program → Renumber → Option Method → List ℕ → List ℕ → Type 0
IsCodedIn p r None code lines = (code ≡ []) × (lines ≡ [])
IsCodedIn p r (Some m) code lines = IsCoded p r m code lines

-- the part of a class's method
abbrev pub IsPart : Program → Renumber → Class → MethodPart → Type 0
IsPart p r c part = IsCodedIn p r (slice_get c.methods part.place) part.code part.lines

-- ---- a class with its members in order, and their code

pub record IsPlan (p : Program) (r : Renumber) (c : Class) (plan : Plan) : Type 0 where
  pub class : plan.class ≡ c
  pub statics : plan.statics ≡ length (ordered_fields r c true)
  pub fields : plan.fields ≡ ordered_fields r c true ++ ordered_fields r c false
  pub directs : plan.directs ≡ length (ordered_methods r p c true)
  pub methods : map spot_of plan.methods ≡ ordered_methods r p c true ++ ordered_methods r p c false
  pub coded : AllByRecursion (IsPart p r c) plan.methods

-- ---- code items one behind another

-- where a method's code stands that comes behind a place, 0 where it has none; and the place behind it
abbrev pub code_offset : ℕ → MethodPart → ℕ
code_offset at m = if nat_eq (length m.code) 0 then 0 else up at

abbrev pub code_behind : ℕ → MethodPart → ℕ
code_behind at m = if nat_eq (length m.code) 0 then at else up at + length m.code

abbrev pub codes_behind : ℕ → List MethodPart → ℕ
codes_behind at [] = at
codes_behind at (m ∷ ms) = codes_behind (code_behind at m) ms

-- where its debug item stands
abbrev pub debug_offset : ℕ → MethodPart → ℕ
debug_offset at m = if nat_eq (length m.lines) 0 then 0 else at

-- a code item with the offset of its debug item in the four bytes at 8
unfoldable pub with_debug : ℕ → List ℕ → List ℕ
with_debug debug code = take 8 code ++ (words (debug ∷ []) ++ drop 12 code)

abbrev pub code_text : ℕ → ℕ → MethodPart → List ℕ
code_text at debug m = if nat_eq (length m.code) 0 then [] else replicate (gap at) 0 ++ with_debug debug m.code

-- code items at multiples of four behind a place, their debug items standing from another one on
abbrev pub codes_text : ℕ → ℕ → List MethodPart → List ℕ
codes_text at lines_at [] = []
codes_text at lines_at (m ∷ ms) = code_text at (debug_offset lines_at m) m ++ codes_text (code_behind at m) (lines_at + length m.lines) ms

abbrev pub lines_behind : ℕ → List MethodPart → ℕ
lines_behind at [] = at
lines_behind at (m ∷ ms) = lines_behind (at + length m.lines) ms

abbrev pub count_codes : List MethodPart → ℕ
count_codes ms = count_by (λ m. nat_lt 0 (length m.code)) ms

abbrev pub count_lines : List MethodPart → ℕ
count_lines ms = count_by (λ m. nat_lt 0 (length m.lines)) ms

abbrev pub parts_of : List Plan → List MethodPart
parts_of plans = flat_map (λ plan. plan.methods) plans
