-- The program without its silent calls, by number (ProGuard manual, "-assumenosideeffects").
use Rattle.std.specs.Prelude.{◌≡◌, ◌⊎◌, slice_set, ℕ, zero, suc, if◌then◌else◌, Bool, true, false, ◌&&◌, not, List, [], ◌∷◌, map, Option, Some, None, slice_get, slice_index_or, length, nat_eq, nat_lt}
use Rattle.std.specs.List.{list_any}
use Rattle.std.specs.Option.{option_map}
use Rattle.insn_set.specs.declared.ops.InvokeKind.TheVariants as call
use Rattle.insn_set.specs.declared.form.Insn.{Insn}
use Rattle.insn_set.specs.declared.form.Insn.TheVariants as form
use Rattle.program_model.specs.declared.body.Body.{Body}
use Rattle.program_model.specs.declared.program.Method.{Method}
use Rattle.program_model.specs.declared.program.Class.{Class}
use Rattle.program_model.specs.declared.program.Program.{Program}
use Rattle.class_defs.specs.Finding.{finds_static}
use Rattle.pipeline.specs.Graph.{HasGraphFault}

abbrev pub is_nowhere : {A : Type 0} → Option A → Bool
is_nowhere None = true
is_nowhere (Some a) = false

-- a silent method, as far as a static call of it finds no method of the program
abbrev pub is_quiet : Program → List ℕ → ℕ → Bool
is_quiet p silent n = nat_lt n (length p.methods) && (list_any (λ s. nat_eq s n) silent && is_nowhere (finds_static p n))

-- a static call of one of these methods
abbrev pub calls : (ℕ → Bool) → Insn → Bool
calls s (form.Invoke call.Static method args) = s method
calls s i = false

abbrev pub takes_result : Insn → Bool
takes_result (form.MoveResult slot to) = true
takes_result i = false

abbrev pub begins_with_result : List Insn → Bool
begins_with_result [] = false
begins_with_result (i ∷ is) = takes_result i

-- an instruction, where these stand behind it: such a call whose result isn't taken is a nop
abbrev pub silenced_insn : (ℕ → Bool) → Insn → List Insn → Insn
silenced_insn s i rest = if calls s i && not (begins_with_result rest) then form.Nop else i

abbrev pub silenced_insns : (ℕ → Bool) → List Insn → List Insn
silenced_insns s [] = []
silenced_insns s (i ∷ is) = silenced_insn s i is ∷ silenced_insns s is

abbrev pub silenced_body : (ℕ → Bool) → Body → Body
silenced_body s b = record b { insns = silenced_insns s b.insns }

abbrev pub silenced_method : (ℕ → Bool) → List Bool → Method → Method
silenced_method s admitted m = if slice_index_or admitted m.name false then record m { body = option_map (silenced_body s) m.body } else m

abbrev pub silenced_class : (ℕ → Bool) → List Bool → Class → Class
silenced_class s admitted c = record c { methods = map (silenced_method s admitted) c.methods }

-- in the admitted methods every such call is a nop; all else stays
abbrev pub silenced : (ℕ → Bool) → List Bool → Program → Program
silenced s admitted p = record p { classes = map (silenced_class s admitted) p.classes }

-- ---- one position after another

abbrev pub marked : List Bool → ℕ → Bool
marked marks n = slice_index_or marks n false

abbrev pub holds_at : (Insn → Bool) → Option Insn → Bool
holds_at f None = false
holds_at f (Some i) = f i

abbrev pub is_silent_at : (ℕ → Bool) → List Insn → ℕ → Bool
is_silent_at s is i = holds_at (calls s) (slice_get is i) && not (holds_at takes_result (slice_get is (suc i)))

-- with this position silenced
abbrev pub silenced_at : (ℕ → Bool) → ℕ → List Insn → List Insn
silenced_at s i [] = []
silenced_at s zero (x ∷ xs) = silenced_insn s x xs ∷ xs
silenced_at s (suc i) (x ∷ xs) = x ∷ silenced_at s i xs

-- with so many positions from the front silenced
abbrev pub silenced_to : (ℕ → Bool) → ℕ → List Insn → List Insn
silenced_to s i [] = []
silenced_to s zero (x ∷ xs) = x ∷ xs
silenced_to s (suc i) (x ∷ xs) = silenced_insn s x xs ∷ silenced_to s i xs

-- ---- which methods are silent

-- what is marked is one of these
pub record ArePartOf (silent : List ℕ) (marks : List Bool) : Type 0 where
  pub are : (n : ℕ) → marked marks n ≡ true → list_any (λ s. nat_eq s n) silent ≡ true

-- exactly the silent methods that a static call finds nowhere in the program are marked
abbrev pub AreQuiet : Program → List ℕ → List Bool → Type 0
AreQuiet p silent marks = (n : ℕ) → marked marks n ≡ is_quiet p silent n

-- the mark of a method, where it is one
abbrev pub noted : Program → ℕ → List Bool → List Bool
noted p m marks = if is_nowhere (finds_static p m) then slice_set marks m true else marks

-- each silent call in an admitted method is a nop, and all else stays; a program without a class graph stays whole
abbrev pub IsSilent : List ℕ → List Bool → Program → Program → Type 0
IsSilent silent admitted p q = (q ≡ silenced (is_quiet p silent) admitted p) ⊎ ((q ≡ p) × HasGraphFault p)

-- some of the silent methods' calls are nops
pub record IsSilenced (silent : List ℕ) (admitted : List Bool) (p q : Program) : Type 0 where
  pub marks : List Bool
  pub part : ArePartOf silent marks
  pub is : q ≡ silenced (marked marks) admitted p
