-- Calls that are inlined (this project's profile). The program is read without its silent calls. How long a body's least
-- layout is, and whether a program lays out and keeps its limits, are asked of programs by number; these and what analysis
-- knows as not null have definitions of their own.
use Rattle.std.specs.Prelude.{◌≡◌, ℕ, ◌+◌, ◌≤◌, Bool, true, false, ◌&&◌, nat_eq, nat_lt, if◌then◌else◌, List, [], ◌∷◌, ◌++◌, map, length, Option, Some, None}
use Rattle.std.specs.List.{list_any, list_all}
use Rattle.program_model.specs.declared.body.Body.{Body}
use Rattle.program_model.specs.declared.program.Program.{Program}
use Rattle.dalvik_defs.specs.Names.{text_eq, method_eq}
use Rattle.dalvik_defs.specs.Flags.{is_static}
use Rattle.dalvik_defs.specs.Initialised.{is_trivial}
use Rattle.dalvik_defs.specs.Outer.{Outer}
use Rattle.dalvik_defs.specs.Silence.{calls_silent, key_in}
use Rattle.dalvik_defs.specs.declared.names.MethodKey.{MethodKey}
use Rattle.dalvik_defs.specs.declared.forms.Form.{Form}
use Rattle.dalvik_defs.specs.declared.program.NamedRegion.{NamedRegion}
use Rattle.dalvik_defs.specs.declared.program.NamedBody.{NamedBody}
use Rattle.dalvik_defs.specs.declared.program.NamedMethod.{NamedMethod}
use Rattle.dalvik_defs.specs.declared.program.NamedClass.{NamedClass}
use Rattle.dalvik_defs.specs.declared.program.NamedProgram.{NamedProgram}
use Rattle.pass_defs.specs.Demands.{is_constructor_name}
use Rattle.pass_defs.specs.Typed.{IsTyped}
use Rattle.pass_defs.specs.Walks.{form_at}
use Rattle.pass_defs.specs.Numbered.{IsNumbered, numbered_body}
use Rattle.pass_defs.specs.Inlined.{Callee, callee_of, inlined, inlined_lines, taken_by, is_taken}

-- the receiver of a call
abbrev pub receiver_of : Callee → ℕ
receiver_of c = first_of c.args where
  first_of : List ℕ → ℕ
  first_of [] = 0
  first_of (r ∷ rs) = r

-- the program with a method's accepted calls inlined
abbrev pub with_inlined : NamedProgram → MethodKey → NamedBody → List ℕ → NamedMethod → NamedMethod
with_inlined p k b accepted m = record m { body = Some (inlined p k m b accepted); lines = new_lines m.lines } where
  new_lines : List ℕ → List ℕ
  new_lines [] = []
  new_lines (l ∷ ls) = inlined_lines p k m b accepted

abbrev pub inlined_method : NamedProgram → MethodKey → NamedBody → List ℕ → NamedClass → NamedMethod → NamedMethod
inlined_method p k b accepted c m = if method_eq (key_in c m) k then with_inlined p k b accepted m else m

abbrev pub inlined_class : NamedProgram → MethodKey → NamedBody → List ℕ → NamedClass → NamedClass
inlined_class p k b accepted c = record c { methods = map (inlined_method p k b accepted c) c.methods }

-- `done` is the program in which the accepted calls of other methods are inlined already; callees are those of `p`
abbrev pub inlined_program : NamedProgram → NamedProgram → MethodKey → NamedBody → List ℕ → NamedProgram
inlined_program p done k b accepted = record done { classes = map (inlined_class p k b accepted) done.classes }

-- a region covers a position and no other
abbrev pub covers_alone : ℕ → NamedRegion → Bool
covers_alone n r = nat_eq r.first n && nat_eq r.end (n + 1)

abbrev pub result_stands_alone : NamedBody → ℕ → Bool
result_stands_alone b n = is_taken (taken_by (form_at b (n + 1))) && list_any (covers_alone (n + 1)) b.regions

abbrev pub is_silent_at : NamedProgram → Outer → Option Form → Bool
is_silent_at p o (Some f) = calls_silent p o f
is_silent_at p o None = false

-- The program by number once these calls are inlined too: its caller's code has a short least layout, and it is typed, lays
-- out and keeps its limits.
pub record HasRoom (base : Program) (layout : Body → ℕ) (fits : Program → Type 0) (q : NamedProgram) (k : MethodKey) : Type 0 where
  pub program : Program
  pub numbered : IsNumbered base q program
  pub body : Body
  pub has_body : numbered_body program k ≡ Some body
  pub units : layout body ≤ 32000
  pub typed : IsTyped q
  pub fitting : fits program

-- The site at a position of an admitted caller. `base` gives the numbers of the program that is read, `done` has the sites
-- that were accepted in earlier callers inlined, and `accepted` are those that were accepted earlier in this caller.
pub record IsSite (base : Program) (p done : NamedProgram) (o : Outer) (layout : Body → ℕ) (fits : Program → Type 0) (not_null : MethodKey → ℕ → ℕ → Type 0)
    (k : MethodKey) (m : NamedMethod) (b : NamedBody) (accepted : List ℕ) (n : ℕ) : Type 0 where
  pub callee : Callee
  pub finds : callee_of p (form_at b n) ≡ Some callee
  pub loud : is_silent_at p o (form_at b n) ≡ false
  pub same_class : text_eq callee.key.class k.class ≡ true
  pub other : method_eq callee.key k ≡ false
  pub plain : is_constructor_name callee.key.name ≡ false
  pub short : length callee.body.forms ≤ 16
  pub unguarded : callee.body.regions ≡ []
  pub initialised : is_static callee.method.flags ≡ true → is_trivial p callee.key.class ≡ true
  pub receiver : is_static callee.method.flags ≡ false → not_null k n (receiver_of callee)
  pub registers : b.registers + callee.body.registers ≤ 16
  pub room : HasRoom base layout fits (inlined_program p done k b (accepted ++ n ∷ [])) k
  pub result : result_stands_alone b n ≡ false

-- ---- callers one after another

-- a caller with what of it is accepted
pub record Caller : Type 0 where
  pub key : MethodKey
  pub method : NamedMethod
  pub body : NamedBody
  pub accepted : List ℕ

abbrev pub all_inlined : NamedProgram → NamedProgram → List Caller → NamedProgram
all_inlined p done [] = done
all_inlined p done (c ∷ cs) = all_inlined p (inlined_program p done c.key c.body c.accepted) cs

-- positions of a caller, ascending, each a site behind those before it
abbrev pub AreSitesFrom : (List ℕ → ℕ → Type 0) → List ℕ → List ℕ → Type 0
AreSitesFrom is_site before [] = Unit {0}
AreSitesFrom is_site before (n ∷ ns) = list_all (λ m. nat_lt m n) before ≡ true × is_site before n × AreSitesFrom is_site (before ++ n ∷ []) ns

-- callers in class and method order: what was accepted in one counts for those behind it
abbrev pub AreSites : Program → NamedProgram → NamedProgram → Outer → (Body → ℕ) → (Program → Type 0) → (MethodKey → ℕ → ℕ → Type 0) → List Caller → Type 0
AreSites base p done o layout fits not_null [] = Unit {0}
AreSites base p done o layout fits not_null (c ∷ cs) =
    AreSitesFrom (IsSite base p done o layout fits not_null c.key c.method c.body) [] c.accepted
    × AreSites base p (inlined_program p done c.key c.body c.accepted) o layout fits not_null cs
