-- Which positions of a body constant propagation writes over, and what it writes there: just what the facts and the kinds allow
-- (this project's profile).
use Rattle.std.specs.Prelude.{◌≡◌, ℕ, ◌+◌, Bool, true, false, All, List, [], ◌∷◌, ◌++◌, length, nat_le, Option, Some, None, slice_get, slice_index_or, if◌then◌else◌}
use Rattle.std.specs.List.{list_any}
use Rattle.std.specs.Option.{option_map}
use Rattle.insn_set.specs.declared.form.Insn.{Insn}
use Rattle.program_model.specs.declared.body.Body.{Body}
use Rattle.program_model.specs.declared.pass.Changed.{Changed}
use Rattle.program_model.specs.declared.program.Class.{Class}
use Rattle.program_model.specs.declared.program.Method.{Method}
use Rattle.program_model.specs.declared.program.MethodAt.{MethodAt}
use Rattle.program_model.specs.declared.program.Program.{Program}
use Rattle.dom_frame.specs.Classes.{AreClasses}
use Rattle.dom_frame.specs.declared.classes.Classes.{Classes}
use Rattle.hierarchy.specs.Shapes.{IsResolved}
use Rattle.hierarchy.specs.declared.build.Hierarchy.{Hierarchy}
use Rattle.verify.specs.declared.fault.TypeFault.TheVariants as fault
use Rattle.verify.specs.declared.typed.Typings.{Typings}
use Rattle.verify.specs.declared.typed.Verifier.{Verifier}
use Rattle.verify.specs.Flow.{places_of}
use Rattle.verify.specs.Methods.{TypesAt, RefusesAt, TypesFor, RefusesFor}
use Rattle.verify.specs.Typings.{Table}
use Rattle.facts.specs.Lent.{frame_at}
use Rattle.facts.specs.declared.facts.Facts.{Facts}
use Rattle.rewrite_pass.specs.declared.edit.Edit.{Edit}
use Rattle.rewrite_pass.specs.Plans.{word, IsPlan, IsRewrittenBy}
use Rattle.const_prop.specs.declared.folding.Fold.{Fold}
use Rattle.const_prop.specs.declared.numbers.Number.{Number}
use Rattle.const_prop.specs.Constants.{constant_for}
use Rattle.const_prop.specs.Folded.{IsFold as IsWritten}
use Rattle.const_prop.specs.Choices.{chosen}
use Rattle.const_prop.specs.Kinds.{fits, is_narrow_move, is_typed_so}
use Rattle.const_prop.specs.Known.{way_by}
use Rattle.const_prop.specs.Given.{number_at}
use Rattle.const_prop.specs.Allowed.{insn_before, IsFold}

-- ---- one instruction

-- the constant of a number at a position, where one fits
abbrev pub constant_at : Program → Option Insn → ℕ → Insn → Option Number → Option Fold
constant_at p before n f None = None
constant_at p before n f (Some k) = if fits p before f k then option_map (λ g. record { position = n; insn = g; number = Some k }) (constant_for f k) else None

abbrev pub branch_or : ℕ → Option Insn → Option Fold → Option Fold
branch_or n (Some g) o = Some (record { position = n; insn = g; number = None })
branch_or n None o = o

-- what the facts allow at a position of a method: along the only way of a branch, or the constant of the only number
abbrev pub fold_at : Program → Facts → ℕ → ℕ → List Insn → ℕ → Insn → Option Fold
fold_at p facts class method is n f =
    branch_or n (chosen f (n + 1) (way_by (frame_at facts.frames.items method n) f))
    (constant_at p (insn_before is n) n f (number_at p facts class method (insn_before is n) n f))

-- ---- a body

abbrev pub one_or_none : Option Fold → List Fold
one_or_none None = []
one_or_none (Some x) = x ∷ []

-- at each position from one on
abbrev pub folds_from : (ℕ → Insn → Option Fold) → ℕ → List Insn → List Fold
folds_from at n [] = []
folds_from at n (f ∷ fs) = one_or_none (at n f) ++ folds_from at (n + 1) fs

-- a body whose positions have numbers of 32 bits
abbrev pub is_numbered : Body → Bool
is_numbered b = nat_le (length b.insns) 4294967295

abbrev pub folds_of : Program → Facts → ℕ → ℕ → Body → List Fold
folds_of p facts class method b = if is_numbered b then folds_from (fold_at p facts class method b.insns) 0 b.insns else []

-- the typing has to be asked about what is written over a move of one register
abbrev pub is_asked_of : Option Insn → Bool
is_asked_of (Some f) = is_narrow_move f
is_asked_of None = false

abbrev pub is_asked : Body → Fold → Bool
is_asked b x = is_asked_of (slice_get b.insns x.position)

abbrev pub is_typed_at : Option Table → Option Insn → Fold → Bool
is_typed_at t (Some f) x = is_typed_so t x.position f x.number
is_typed_at t None x = false

abbrev pub is_typed : Option Table → Body → Fold → Bool
is_typed t b x = is_typed_at t (slice_get b.insns x.position) x

abbrev pub edit_of : Fold → Edit
edit_of x = record { position = x.position; insn = x.insn }

-- what the kinds allow of it too
abbrev pub edits_of : Option Table → Body → List Fold → List Edit
edits_of t b [] = []
edits_of t b (x ∷ xs) = if is_typed t b x then edit_of x ∷ edits_of t b xs else edits_of t b xs

-- ---- a method

-- the table of a typing that was asked for
abbrev pub table_of : Option Typings → Option Table
table_of o = option_map (λ t. places_of t.states.items) o

-- a verifier refuses a method, whose code has no typing
pub record IsRefusedBy (v : Verifier) (at : MethodAt) : Type 0 where
  pub method : ℕ
  pub position : ℕ
  pub register : ℕ
  pub refuses : RefusesAt v at (fault.IllTyped method position register)

-- a verifier of the program does so
pub record IsRefused (p : Program) (h : Hierarchy) (at : MethodAt) : Type 0 where
  pub method : ℕ
  pub position : ℕ
  pub register : ℕ
  pub refuses : RefusesFor p h at (fault.IllTyped method position register)

-- the least typing of a method by a verifier, or none where its code has none
abbrev pub IsJudgedBy : Verifier → MethodAt → Option Table → Type 0
IsJudgedBy v at (Some x) = TypesAt v at x
IsJudgedBy v at None = IsRefusedBy v at

abbrev pub IsJudged : Program → Hierarchy → MethodAt → Option Table → Type 0
IsJudged p h at (Some x) = TypesFor p h at x
IsJudged p h at None = IsRefused p h at

-- Just what the facts and the kinds allow is written over the body of a method: each allowed position, and no other one. The
-- typing is the method's, where it has to be asked.
pub record AreFolds (p : Program) (h : Hierarchy) (facts : Facts) (at : MethodAt) (m : Method) (b : Body) (es : List Edit) : Type 0 where
  pub table : Option Table
  pub judged : list_any (is_asked b) (folds_of p facts at.class m.name b) ≡ true → IsJudged p h at table
  pub are : es ≡ edits_of table b (folds_of p facts at.class m.name b)
  pub each : All (IsFold p facts table at m b) es

-- What is written whatever the hierarchy is, and where it is that of the program's classes.
pub record FoldsWell (p : Program) (h : Hierarchy) (facts : Facts) (classes : Classes) (at : MethodAt) (m : Method) (b : Body) (es : List Edit) : Type 0 where
  pub becomes : All (IsWritten b) es
  pub folds : IsResolved p h → AreClasses p classes → AreFolds p h facts at m b es

-- So it is in all admitted methods.
abbrev pub IsFoldPlan : Program → Hierarchy → Facts → List Bool → List (List (List Edit)) → Type 0
IsFoldPlan p h facts admitted plan = IsPlan (AreFolds p h facts) admitted p.classes plan

abbrev pub IsFoldedBy : Program → Hierarchy → Facts → List Bool → Changed → Type 0
IsFoldedBy p h facts admitted c = IsRewrittenBy (AreFolds p h facts) admitted p c

-- Nothing that the facts and the kinds allow is left in the bodies of admitted methods.
pub record NoneLeftAt (p : Program) (h : Hierarchy) (facts : Facts) (at : MethodAt) (m : Method) (b : Body) : Type 0 where
  pub table : Option Table
  pub judged : list_any (is_asked b) (folds_of p facts at.class m.name b) ≡ true → IsJudged p h at table
  pub none : edits_of table b (folds_of p facts at.class m.name b) ≡ []

abbrev pub NoneLeft : Program → Hierarchy → Facts → List Bool → Type 0
NoneLeft p h facts admitted = (k j : ℕ) (c : Class) (m : Method) (b : Body) → slice_get p.classes k ≡ Some c → slice_get c.methods j ≡ Some m
    → slice_index_or admitted m.name false ≡ true → m.body ≡ Some b → NoneLeftAt p h facts (record { class = word k; place = word j }) m b
