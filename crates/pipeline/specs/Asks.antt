-- What the advisers are asked, and what their answers come to.
use Rattle.std.specs.Prelude.{◌≡◌, ℕ, ◌+◌, Bool, true, false, ◌&&◌, if◌then◌else◌, List, [], ◌∷◌, ◌++◌, length, flat_map, Option, Some, None, is_some, slice_get, slice_set, slice_index_or, replicate}
use Rattle.std.specs.List.{list_all}
use Rattle.program_model.specs.declared.pools.MethodName.{MethodName}
use Rattle.program_model.specs.declared.program.Method.{Method}
use Rattle.program_model.specs.declared.program.Class.{Class}
use Rattle.program_model.specs.declared.program.Program.{Program}
use Rattle.program_model.specs.Texts.{string_text, type_text}
use Rattle.redex_outside.specs.declared.adviser.Ask.{Ask}
use Rattle.call_graph.specs.declared.live_set.LiveSet.{LiveSet}
use Rattle.pipeline.specs.Counts.{counted}

-- `(PARAMETERS)RESULT`, empty where there is no such proto
abbrev pub proto_text : Program → ℕ → List ℕ
proto_text p n = elim (slice_get p.protos n) [ Some q ↦ 40 ∷ (flat_map (type_text p) q.parameters ++ 41 ∷ type_text p q.result) | None ↦ [] ]

-- the name and the proto of a method, empty where there is none
abbrev pub name_text : Program → Option MethodName → List ℕ
name_text p (Some m) = string_text p m.name
name_text p None = []

abbrev pub signature_text : Program → Option MethodName → List ℕ
signature_text p (Some m) = proto_text p m.proto
signature_text p None = []

-- about a method of a class with so many instructions
abbrev pub ask_of : Program → ℕ → ℕ → ℕ → Ask
ask_of p class method instructions = record {
  class = type_text p class;
  name = name_text p (slice_get p.methods method);
  proto = signature_text p (slice_get p.methods method);
  instructions = instructions;
  site = None;
}

-- ---- which methods are asked about

-- a live method with code
abbrev pub is_asked : LiveSet → Method → Bool
is_asked s m = is_some m.body && slice_index_or s.methods.items m.name false

abbrev pub asked_one : LiveSet → Method → List ℕ
asked_one s m = if is_asked s m then m.name ∷ [] else []

abbrev pub asked_in : LiveSet → Class → List ℕ
asked_in s c = flat_map (asked_one s) c.methods

-- in class and method order
abbrev pub asked : LiveSet → Program → List ℕ
asked s p = flat_map (asked_in s) p.classes

-- ---- what the answers come to

-- which methods are admitted, and how many are not
pub record Verdict : Type 0 where
  pub admitted : List Bool
  pub spared : ℕ

abbrev pub no_verdict : Program → Verdict
no_verdict p = record { admitted = replicate (length p.methods) false; spared = 0 }

-- a method is admitted where each answer is yes
abbrev pub judged : ℕ → Bool → Verdict → Verdict
judged n true v = record v { admitted = slice_set v.admitted n true }
judged n false v = record v { spared = counted (v.spared + 1) }

-- So many advisers answered about each of these methods, one after another; their answers stand behind those before.
pub data AreAnswered (count : ℕ) : List ℕ → List Bool → List Bool → Verdict → Verdict → Type 0 where
  NoneLeft : (given : List Bool) (v : Verdict) → AreAnswered count [] given given v v
  Answered : (n : ℕ) (ns : List ℕ) (given row after : List Bool) (v w : Verdict) → length row ≡ count
      → AreAnswered count ns (given ++ row) after (judged n (list_all (λ yes. yes) row) v) w → AreAnswered count (n ∷ ns) given after v w
