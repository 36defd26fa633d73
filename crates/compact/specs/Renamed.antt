-- Bodies and programs whose registers have other numbers.
use Rattle.std.specs.Prelude.{◌≡◌, ◌↔◌, ℕ, ◌+◌, ◌-◌, ◌<◌, ◌≤◌, ℤ, Bool, true, nat_eq, nat_lt, if◌then◌else◌, List, map, length, Option, Some, None, slice_get, slice_index}
use Rattle.std.specs.List.{list_any}
use Rattle.insn_set.specs.Spelling.{is_encodable, units_of}
use Rattle.insn_set.specs.declared.form.Insn.{Insn}
use Rattle.program_model.specs.declared.body.Body.{Body}
use Rattle.program_model.specs.declared.program.Method.{Method}
use Rattle.program_model.specs.declared.program.Class.{Class}
use Rattle.program_model.specs.declared.program.Program.{Program}
use Rattle.insn_regs.specs.Remade.{remade}
use Rattle.insn_regs.specs.Wides.{widths_of}
use Rattle.walk_marks.specs.Walks.{is_on}
use Rattle.body_graph.specs.Walks.{insn_at, IsRead}
use Rattle.compact.specs.Packed.{Conflict, IsPacked, wides_of, uses, locals}

-- the number of a register: the listed one, and behind the list so many less
abbrev pub renamed : List ℕ → ℕ → ℕ → ℕ
renamed low shift r = if nat_lt r (length low) then slice_index low r else r - shift

-- every register that an instruction uses is one of the body's
abbrev pub HasRegisters : Body → Type 0
HasRegisters b = (n r : ℕ) (f : Insn) → insn_at b n ≡ Some f → uses f r ≡ true → r < b.registers

-- Each register has one new number, which isn't greater. Those that conflict stay apart, halves of a wide stay side by
-- side, and what stands before the arguments stays there, so that a body with room for its arguments has it still. No
-- instruction gets longer. All else is the same. A body that stays the same is packed. A test tells what is read of the
-- registers of the old body.
pub record IsCompacted (w : List (List Bool)) (b d : Body) : Type 0 where
  pub new : ℕ → ℕ
  pub insns : d.insns ≡ map (remade new new) b.insns
  pub regions : d.regions ≡ b.regions
  pub ins : d.ins ≡ b.ins
  pub falls : (r : ℕ) → new r ≤ r
  pub registers : d.registers ≤ b.registers
  pub frame : b.ins ≤ b.registers → d.ins ≤ d.registers
  pub live : ℕ → ℕ → Bool
  pub is_live : (n r : ℕ) → r < b.registers → (live n r ≡ true) ↔ IsRead b r n
  pub apart : (r s : ℕ) → Conflict b r s → new r ≡ new s → r ≡ s
  pub pairs : (n at : ℕ) (f : Insn) → insn_at b n ≡ Some f → list_any (nat_eq at) (wides_of w f) ≡ true → new (at + 1) ≡ new at + 1
  pub room : HasRegisters b → (n r : ℕ) (f : Insn) → insn_at b n ≡ Some f → uses f r ≡ true → new r < d.registers
  pub plain : (r : ℕ) → r < locals b → IsRead b r 0 → new r < locals d
  pub arguments : (i : ℕ) → new (locals b + i) ≡ locals d + i
  pub encodable : (n : ℕ) (f : Insn) → insn_at b n ≡ Some f → is_encodable f ≡ true → is_encodable (remade new new f) ≡ true
  pub short : (n : ℕ) (f : Insn) (distance : ℤ) → insn_at b n ≡ Some f → units_of (remade new new f) distance ≤ units_of f distance
  pub settled : d ≡ b → IsPacked w b

-- ---- programs

-- the relation holds of the items at the same places of two lists
pub record AreEach {A : Type 0} (R : A → A → Type 0) (xs ys : List A) : Type 0 where
  pub long : length ys ≡ length xs
  pub each : (k : ℕ) (x : A) → slice_get xs k ≡ Some x → (y : A) × (slice_get ys k ≡ Some y) × R x y

-- the body of a method that may be rewritten
abbrev pub RewritesBody : List (List Bool) → Bool → Option Body → Option Body → Type 0
RewritesBody w true (Some b) (Some d) = IsCompacted w b d
RewritesBody w true (Some b) None = ⊥
RewritesBody w admitted old new = new ≡ old

pub record IsCompactedMethod (w : List (List Bool)) (admitted : List Bool) (m n : Method) : Type 0 where
  pub rest : n ≡ record m { body = n.body }
  pub body : RewritesBody w (is_on admitted m.name) m.body n.body

pub record IsCompactedClass (w : List (List Bool)) (admitted : List Bool) (c d : Class) : Type 0 where
  pub rest : d ≡ record c { methods = d.methods }
  pub methods : AreEach (IsCompactedMethod w admitted) c.methods d.methods

-- only the bodies of admitted methods change
pub record IsCompactedProgram (admitted : List Bool) (p q : Program) : Type 0 where
  pub rest : q ≡ record p { classes = q.classes }
  pub classes : AreEach (IsCompactedClass (widths_of p) admitted) p.classes q.classes

-- ---- edits in place

-- the relation holds of the first items, the others are the same, and no change was counted exactly where there is none
pub record AreEdited {A : Type 0} (R : A → A → Type 0) (upto count : ℕ) (old new : List A) : Type 0 where
  pub long : length new ≡ length old
  pub done : (k : ℕ) (x : A) → k < upto → slice_get old k ≡ Some x → (y : A) × (slice_get new k ≡ Some y) × R x y
  pub rest : (k : ℕ) → upto ≤ k → slice_get new k ≡ slice_get old k
  pub same : count ≡ 0 → new ≡ old
  pub differs : 0 < count → new ≡ old → ⊥

-- a change was counted exactly where there is one
pub record IsCounted {A : Type 0} (count : ℕ) (old new : A) : Type 0 where
  pub same : count ≡ 0 → new ≡ old
  pub differs : 0 < count → new ≡ old → ⊥
