-- Programs whose stale reads read originals.
use Rattle.std.specs.Prelude.{◌≡◌, ℕ, zero, suc, ◌+◌, ◌<◌, ◌≤◌, ◌^◌, Bool, true, false, List, [], ◌∷◌, length, Option, Some, None, slice_get, slice_index_or}
use Rattle.insn_set.specs.declared.ops.Slot.TheVariants.{Wide}
use Rattle.insn_set.specs.declared.form.Insn.{Insn}
use Rattle.program_model.specs.declared.body.Body.{Body}
use Rattle.program_model.specs.declared.program.Method.{Method}
use Rattle.program_model.specs.declared.program.Class.{Class}
use Rattle.program_model.specs.declared.program.Program.{Program}
use Rattle.insn_regs.specs.Wides.{widths_of}
use Rattle.walk_marks.specs.Walks.{is_on}
use Rattle.body_graph.specs.Walks.{insn_at}
use Rattle.copy_prop.specs.Stale.{IsCopy, IsStale}
use Rattle.copy_prop.specs.Rereading.{IsReread, reread}
use Rattle.copy_prop.specs.declared.copied.Copied.{Copied}

-- each pair that a Move reads is a pair of registers
abbrev pub HasPairs : Body → Type 0
HasPairs b = (at to from : ℕ) → IsCopy b at Wide to from → from + 1 < 2 ^ 16

abbrev pub HasNoneStale : List (List Bool) → Body → Type 0
HasNoneStale w b = HasPairs b → (n : ℕ) → IsStale w b n → ⊥

-- Each instruction reads originals in place of copies of which its reads were stale. All else is the same, and where
-- nothing changed, nothing was stale.
pub record IsPropagated (w : List (List Bool)) (b d : Body) : Type 0 where
  pub registers : d.registers ≡ b.registers
  pub ins : d.ins ≡ b.ins
  pub regions : d.regions ≡ b.regions
  pub long : length d.insns ≡ length b.insns
  pub insns : (n : ℕ) (f : Insn) → insn_at b n ≡ Some f → (g : Insn) × (insn_at d n ≡ Some g) × IsReread w b n f g
  pub settled : d ≡ b → HasNoneStale w b

-- the relation holds of the items at the same places of two lists
pub record AreEach {A : Type 0} (R : A → A → Type 0) (xs ys : List A) : Type 0 where
  pub long : length ys ≡ length xs
  pub each : (k : ℕ) (x : A) → slice_get xs k ≡ Some x → (y : A) × (slice_get ys k ≡ Some y) × R x y

-- the body of a method that may be rewritten
abbrev pub RewritesBody : List (List Bool) → Bool → Option Body → Option Body → Type 0
RewritesBody w true (Some b) (Some d) = IsPropagated w b d
RewritesBody w true (Some b) None = ⊥
RewritesBody w admitted old new = new ≡ old

pub record IsPropagatedMethod (w : List (List Bool)) (admitted : List Bool) (m n : Method) : Type 0 where
  pub rest : n ≡ record m { body = n.body }
  pub body : RewritesBody w (is_on admitted m.name) m.body n.body

pub record IsPropagatedClass (w : List (List Bool)) (admitted : List Bool) (c d : Class) : Type 0 where
  pub rest : d ≡ record c { methods = d.methods }
  pub methods : AreEach (IsPropagatedMethod w admitted) c.methods d.methods

-- only the bodies of admitted methods change
pub record IsPropagatedProgram (admitted : List Bool) (p q : Program) : Type 0 where
  pub rest : q ≡ record p { classes = q.classes }
  pub classes : AreEach (IsPropagatedClass (widths_of p) admitted) p.classes q.classes

-- ---- bodies reread

abbrev pub reread_row : List Copied → Insn → Insn
reread_row [] f = f
reread_row (c ∷ cs) f = reread (c ∷ cs) f

abbrev pub one_if_some : List Copied → ℕ
one_if_some [] = 0
one_if_some (c ∷ cs) = 1

abbrev pub row_at : List (List Copied) → ℕ → List Copied
row_at table n = slice_index_or table n []

-- the first instructions are reread, and so many rows have copies
pub record AreReread (table : List (List Copied)) (upto count : ℕ) (old new : List Insn) : Type 0 where
  pub long : length new ≡ length old
  pub done : (n : ℕ) (f : Insn) → n < upto → slice_get old n ≡ Some f → slice_get new n ≡ Some (reread_row (row_at table n) f)
  pub rest : (n : ℕ) → upto ≤ n → slice_get new n ≡ slice_get old n
  pub none : count ≡ 0 → (n : ℕ) → n < upto → row_at table n ≡ []
  pub some : 0 < count → (n : ℕ) × (n < upto) × (row_at table n ≡ [] → ⊥)
  pub few : count ≤ upto

-- ---- edits in place

-- the relation holds of the first items, the others are the same, and no change was counted exactly where there is none
pub record AreEdited {A : Type 0} (R : A → A → Type 0) (upto count : ℕ) (old new : List A) : Type 0 where
  pub long : length new ≡ length old
  pub done : (k : ℕ) (x : A) → k < upto → slice_get old k ≡ Some x → (y : A) × (slice_get new k ≡ Some y) × R x y
  pub rest : (k : ℕ) → upto ≤ k → slice_get new k ≡ slice_get old k
  pub same : count ≡ 0 → new ≡ old
  pub differs : 0 < count → new ≡ old → ⊥

-- a change was counted exactly where there is one
pub record IsCounted {A : Type 0} (count : ℕ) (old new : A) : Type 0 where
  pub same : count ≡ 0 → new ≡ old
  pub differs : 0 < count → new ≡ old → ⊥

-- ---- what is stale in a program

-- the relation holds of the first items beside themselves
abbrev pub AreSettled : {A : Type 0} → (A → A → Type 0) → ℕ → List A → Type 0
AreSettled {A = A} R upto xs = (k : ℕ) (x : A) → k < upto → slice_get xs k ≡ Some x → R x x

-- some item of a list is such
pub record HasSome {A : Type 0} (P : A → Type 0) (xs : List A) : Type 0 where
  pub place : ℕ
  pub item : A
  pub stands : slice_get xs place ≡ Some item
  pub is : P item

-- the read at some position is stale
pub record HasStaleRead (w : List (List Bool)) (b : Body) : Type 0 where
  pub position : ℕ
  pub stale : IsStale w b position

-- a method that may be rewritten has such a body
pub record HasStaleMethod (w : List (List Bool)) (admitted : List Bool) (m : Method) : Type 0 where
  pub admits : is_on admitted m.name ≡ true
  pub body : Body
  pub has : m.body ≡ Some body
  pub reads : HasStaleRead w body

abbrev pub HasStaleClass : List (List Bool) → List Bool → Class → Type 0
HasStaleClass w admitted c = HasSome (HasStaleMethod w admitted) c.methods

-- a read of some method that may be rewritten is stale
abbrev pub HasStale : List Bool → Program → Type 0
HasStale admitted p = HasSome (HasStaleClass (widths_of p) admitted) p.classes
